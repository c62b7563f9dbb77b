use Rattle.std.proofs.Common.{ap, inl, inr}
use Rattle.rule_syntax.specs.declared.syntax.Connective.{Connective}
use Rattle.rule_paths.specs.Relations.{AllOf, AnyOf}
use Rattle.rule_paths.specs.Paths as paths
use Rattle.rule_formulas.specs.Numbers.{integers}
use Rattle.rule_formulas.proofs.terms.connected.Goals as goal

pub returns-in_ok-fails-in-And : goal.returns-in_ok-fails-in-And
returns-in_ok-fails-in-And c a b ha fa hb fb = (
  AllOf (paths.holds_of a) (paths.holds_of b),
  AnyOf (paths.fails_of a) (paths.fails_of b),
  ap (λ (k : Connective). paths.combined_as k a b) c.in-And.is,
  (λ v h. c.in_ok-holds-in-And.ensures (integers v) (ha v h.0) (hb v h.1)),
  (λ v h. c.in_ok-fails-in-And.ensures (integers v) (elim h [
    | inl x ↦ inl (fa v x)
    | inr x ↦ inr (fb v x)
  ])),
)

pub returns-in_ok-fails-in-Or : goal.returns-in_ok-fails-in-Or
returns-in_ok-fails-in-Or c a b ha fa hb fb = (
  AnyOf (paths.holds_of a) (paths.holds_of b),
  AllOf (paths.fails_of a) (paths.fails_of b),
  ap (λ (k : Connective). paths.combined_as k a b) c.in-Or.is,
  (λ v h. c.in_ok-holds-in-Or.ensures (integers v) (elim h [
    | inl x ↦ inl (ha v x)
    | inr x ↦ inr (hb v x)
  ])),
  (λ v h. c.in_ok-fails-in-Or.ensures (integers v) (fa v h.0) (fb v h.1)),
)
