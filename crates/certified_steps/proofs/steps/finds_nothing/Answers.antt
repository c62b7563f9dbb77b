use Rattle.std.proofs.Common.{◌≡◌, ℕ, List, sym, subst, arith}
use Rattle.std.proofs.lemmas.Result.{IfOk-weaker}
use Rattle.rule_paths.specs.Relations.{RelationHolds}
use Rattle.rule_paths.specs.Paths.{passed, rule_place}
use Rattle.step_searches.specs.declared.uses.Use.{Use}
use Rattle.step_searches.specs.Searches as searches
use Rattle.certified_steps.proofs.steps.finds_nothing.Goals as goal

pub returns : goal.returns
returns c =
    let rule = c.args.rule.now in
    let step = c.args.step.now in
    let uses = c.args.proof.now.uses.items in
    let next : c.in_ok-next.next ≡ searches.fresh_start step = omega (arith, c.in_ok-next.ensures, c.in_ok-second.ensures) in
    IfOk-weaker c.walk.result _ _ (λ yes says is v begins takes.
    let one = subst (λ (n : ℕ). RelationHolds v (passed rule 0 (rule_place (searches.first_start step) n) (searches.second_paths rule step uses))) (sym next) takes in
    let two = subst (λ (n : ℕ). RelationHolds v (passed rule 0 (rule_place n c.in_ok-next.next) (searches.second_paths rule step uses))) (sym c.in_ok-start.ensures) one in
    let three = subst (λ (us : List Use). RelationHolds v (passed rule 0 (rule_place c.in_ok-start.start c.in_ok-next.next) (searches.second_paths rule step us))) (sym c.deref.ensures.value) two in
    says is v (c.in_ok-facts.ensures v begins, tt) three) c.walk.ensures
