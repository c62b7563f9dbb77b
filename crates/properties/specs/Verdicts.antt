-- Whether a property's term holds in a pulse (docs/PROPERTIES.md, "Verdicts").
use Rattle.std.specs.Prelude.{if◌then◌else◌, List, [], ◌∷◌}
use Rattle.rule_syntax.specs.declared.syntax.Sizes.{Sizes}
use Rattle.rule_syntax.specs.declared.syntax.Term.{Term}
use Rattle.properties.specs.declared.verdicts.PropertyVerdict.{PropertyVerdict}
use Rattle.properties.specs.declared.verdicts.PropertyVerdict.TheVariants.{NotJudged, Holds, Violated}
use Rattle.properties.specs.Pairs.{JudgedNode, pair_holds}

-- p with each q of these, in order: the first for which the term doesn't hold
abbrev pub violated_with : Term → Sizes → JudgedNode → List JudgedNode → PropertyVerdict
violated_with t z p [] = Holds
violated_with t z p (q ∷ qs) = if pair_holds t z p q then violated_with t z p qs else Violated p.node q.node

-- the first of two verdicts if it is violated, and otherwise the second
abbrev pub violated_or : PropertyVerdict → PropertyVerdict → PropertyVerdict
violated_or NotJudged next = next
violated_or Holds next = next
violated_or (Violated i j) next = Violated i j

-- each p of these, in order, with each q of those
abbrev pub first_violated : Term → Sizes → List JudgedNode → List JudgedNode → PropertyVerdict
first_violated t z [] qs = Holds
first_violated t z (p ∷ ps) qs = violated_or (violated_with t z p qs) (first_violated t z ps qs)

-- in a pulse in which these nodes are judged; one node is both p and q, too
abbrev pub verdict_of_pulse : Term → Sizes → List JudgedNode → PropertyVerdict
verdict_of_pulse t z [] = NotJudged
verdict_of_pulse t z (p ∷ ps) = first_violated t z (p ∷ ps) (p ∷ ps)
