-- What is known if a program is refused.
use Rattle.std.specs.Prelude.{◌≡◌, ℕ, ◌<◌, List, Some}
use Rattle.node_env.specs.Env.{Extent}
use Rattle.bpf_insn.specs.declared.forms.Insn.{Insn}
use Rattle.bpf_insn.specs.declared.edges.Way.{Way}
use Rattle.bpf_insn.specs.Programs.{insn_at}
use Rattle.bpf_insn.specs.Edges.{target}
use Rattle.bpf_verify.specs.declared.rule.Rule.{Rule}
use Rattle.bpf_verify.specs.States.{AbstractState}
use Rattle.bpf_verify.specs.Rules.{lowest_broken}
use Rattle.bpf_verify.specs.Outcomes.{outcome}
use Rattle.bpf_verify.specs.Typable.{Table, IsCovered}
use Rattle.bpf_verify.specs.Accepted.{IsFirstBroken}

-- with what the table has at the slot, the rule is the lowest that the instruction there breaks
abbrev pub IsBrokenBy : List Insn → Extent → Table → ℕ → Rule → Type 0
IsBrokenBy program shape table slot rule =
    (insn : Insn) × (insn_at program slot ≡ Some insn)
    × (lowest_broken program shape slot insn (table slot) ≡ Some rule)

-- the table covers, at the slot, the result of each edge from an earlier slot
abbrev pub CoversWays : List Insn → Extent → Table → ℕ → Type 0
CoversWays program shape table slot = (from : ℕ) (insn : Insn) (way : Way) (A C : AbstractState) → from < slot
    → insn_at program from ≡ Some insn
    → table from ≡ Some A → target insn from way ≡ Some slot → outcome shape insn A way ≡ Some C
    → IsCovered table C slot

-- the program is refused at the slot by the rule, and the table has what is known there
pub record IsRefusedAt (program : List Insn) (shape : Extent) (table : Table) (slot : ℕ) (rule : Rule) : Type 0 where
  pub first : IsFirstBroken program shape slot
  pub covered : CoversWays program shape table slot
  pub broken : IsBrokenBy program shape table slot rule
