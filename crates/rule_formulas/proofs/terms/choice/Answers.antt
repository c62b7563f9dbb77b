use Rattle.std.proofs.Common.{ℕ, subst, inl, inr}
use Rattle.std.proofs.lemmas.Result.{IfOk-weaker}
use Rattle.rule_paths.specs.Relations.{Expression, Relation, AllOf, AnyOf, IsEqual}
use Rattle.rule_paths.specs.Paths as paths
use Rattle.rule_formulas.specs.Numbers.{integers}
use Rattle.rule_formulas.specs.Forms.{IsFormed}
use Rattle.rule_formulas.proofs.terms.choice.Goals as goal

pub returns : goal.returns
returns c =
    IfOk-weaker c.fresh.result _ _ (λ m says f g h hx hy hw.
    let q : Expression → Relation = λ r.
    AnyOf (AllOf (paths.holds_of f.what) (AllOf g.facts (IsEqual r g.number)))
    (AllOf (paths.fails_of f.what) (AllOf h.facts (IsEqual r h.number))) in
    let first = c.in_ok-first.ensures (paths.holds_of f.what) g (c.in_ok-holds.ensures.holds f.what hx.what) hy in
    let second = c.in_ok-second.ensures (paths.fails_of f.what) h (c.in_ok-holds.ensures.fails f.what hx.what) hw in
    subst (λ (n : ℕ). IsFormed m (paths.with_fresh f.facts n q)) hw.next
    (says f.facts q hx.facts
    (λ v s. c.in_ok-is.ensures (integers v) (elim s [
      | inl a ↦ inl (first v a)
      | inr b ↦ inr (second v b)
    ])))) c.fresh.ensures
