-- What a bench is made for.
use Rattle.std.specs.Prelude.{◌≡◌, ℕ, ◌<◌, ◌≤◌, List}
use Rattle.node_env.specs.Env.{Extent, IsExtent}
use Rattle.bpf_insn.specs.declared.forms.Insn.{Insn}
use Rattle.bpf_insn.specs.Programs.{IsProgram}
use Rattle.clock_nodes.specs.Rule.{Rule}
use Rattle.clock_nodes.specs.Listings.{clock_listing}
use Rattle.clock_nodes.specs.declared.rule.TheConstants.{LEAST_MODULUS, MAX_MODULUS}

-- the shape of its nodes, the rule of their clocks, and the instructions that count as their clock
pub record Setup : Type 0 where
  pub shape : Extent
  pub faults : ℕ
  pub modulus : ℕ
  pub clock : List Insn

pub record IsSetup (s : Setup) : Type 0 where
  pub extent : IsExtent s.shape.nodes s.shape.memory
  pub faults : s.faults < s.shape.nodes
  pub least : LEAST_MODULUS ≤ s.modulus
  pub most : s.modulus ≤ MAX_MODULUS
  pub clock : IsProgram s.clock

-- the rule of the clocks of its nodes
abbrev pub rule_of : Setup → Rule
rule_of s = record { nodes = s.shape.nodes; faults = s.faults; modulus = s.modulus }

-- the bench's clock has the instructions of the built-in clock of its sizes. Agreement is proved only of such benches
abbrev pub HasRuleClock : Setup → Type 0
HasRuleClock s = s.clock ≡ clock_listing (rule_of s)
