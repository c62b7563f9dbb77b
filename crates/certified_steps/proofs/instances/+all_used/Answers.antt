use Rattle.std.proofs.Common.{◌≡◌, ℕ, List, ◌∷◌, sym, subst}
use Rattle.rule_formulas.specs.Numbers.{integers}
use Rattle.step_searches.specs.Laws as laws
use Rattle.step_searches.specs.Searches.{pair_of}
use Rattle.certified_steps.specs.Instances.{IsInstance, counts_of}
use Rattle.step_searches.specs.declared.uses.Use.{Use}
use Rattle.certified_steps.specs.declared.instances.Instance.{Instance}
use Rattle.certified_steps.proofs.instances.+all_used.Goals as goal

pub returns-in_ok-both-in-Some : goal.returns-in_ok-both-in-Some
returns-in_ok-both-in-Some t c =
    let pair = pair_of c.args.step.now in
    let cs = counts_of c.args.counts.now.first.now in
    let ds = counts_of c.args.counts.now.second.now in
    let k = c.args.k in
    let law = c.in-Some.law.now in
    let rest = c.in-Some.rest.now in
    let e : c.args.uses.now ≡ law ∷ rest = c.in-Some.ensures.cases.0 in
    let hx : IsInstance c.in_ok-x-in-Some.x (laws.used pair cs ds law k) = c.in_ok-x-in-Some.ensures in
    let hy = subst (λ (n : ℕ). IsInstance c.in_ok-y-in-Some.y (laws.all_used pair cs ds rest n)) hx.next c.in_ok-y-in-Some.ensures in
    let made : Instance = record { facts = c.in_ok-both-in-Some.field-0; next = c.in_ok-y-in-Some.y.next } in
    subst (λ (us : List Use). IsInstance made (laws.all_used pair cs ds us k)) (sym e) (record {
      facts = λ v h. c.in_ok-both-in-Some.ensures (integers v) (hx.facts v h.0) (hy.facts v h.1);
      next = hy.next;
    })
