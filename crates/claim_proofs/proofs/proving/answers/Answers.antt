use Rattle.std.proofs.Common.{◌≡◌, ◌++◌, ◌∷◌, [], rules, subst, sym}
use Rattle.std.proofs.lemmas.List.Elements.{All-push}
use Rattle.claim_proofs.specs.Proved.{AreRight, IsRight}
use Rattle.claim_proofs.proofs.proving.answers.Goals as goal

pub loop-claimed-preserved : goal.loop-claimed-preserved
loop-claimed-preserved c =
    let made : c.push.new.self.items ≡ c.loop-claimed.all.items ++ c.in_ok-answer.answer ∷ [] = search rules in
    subst (AreRight c.args.text.now) (sym made)
    (All-push (IsRight c.args.text.now) c.loop-claimed.all.items c.in_ok-answer.answer c.loop-claimed.invariant
    c.in_ok-answer.ensures.answer)
