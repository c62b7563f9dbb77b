-- What is told of a closed pulse.
use Rattle.std.specs.Prelude.{◌≡◌, ℕ, ◌<◌, ◌≤◌, ◌⊎◌, Bool, not, ◌==◌, if◌then◌else◌, ◌↔◌, IsTrue, IsNone, Option, Some, None, List, [], ◌∷◌, map, filter, count_by, length, slice_index}
use Rattle.std.specs.List.{list_all}
use Rattle.clock_nodes.specs.Rule.{clock_of}
use Rattle.bpf_machine.specs.Run.{CompleteRun, End}
use Rattle.bpf_verify.specs.Accepted.{Accepted}
use Rattle.clock_nodes.specs.declared.rule.TheConstants.{MAX_MODULUS}
use Rattle.bench_core.specs.declared.limits.TheConstants.{MAX_BENCH_PULSES, CLOCKS_DIFFER, MAX_COUNTED}
use Rattle.bench_core.specs.Setup.{Setup}
use Rattle.bench_core.specs.State.{Node, State, node_at, setting_at, coins_of}
use Rattle.bench_core.specs.Settled.{settled_flags, clocks_where, Agree}

pub record Row : Type 0 where
  pub pulse : ℕ
  pub common : ℕ
  pub zeros : ℕ
  pub settled : ℕ

pub record IsPulseRow (r : Row) : Type 0 where
  pub first : 1 ≤ r.pulse
  pub last : r.pulse ≤ MAX_BENCH_PULSES
  pub common : (r.common < MAX_MODULUS) ⊎ (r.common ≡ CLOCKS_DIFFER)
  pub zeros : r.zeros ≤ MAX_COUNTED
  pub settled : r.settled ≤ MAX_COUNTED

-- the one of these clocks, 0 if there is none, CLOCKS_DIFFER if two differ
abbrev pub common_of : List ℕ → ℕ
common_of [] = 0
common_of (c ∷ cs) = if list_all (λ d. d == c) cs then c else CLOCKS_DIFFER

-- the row of the closed pulse of this number, from which nodes are settled, and the nodes after it
abbrev pub row_from : ℕ → ℕ → List Bool → List Node → Row
row_from m pulse settled after =
    let clocks = clocks_where m settled after in
    record {
      pulse = pulse;
      common = common_of (filter (λ c. not (c == 0)) clocks);
      zeros = count_by (λ c. c == 0) clocks;
      settled = count_by (λ x. x) settled;
    }

abbrev pub row_of : Setup → State → State → Row
row_of s b b' = row_from s.modulus b'.closed (settled_flags b.nodes b'.nodes) b'.nodes

-- the complete run of the loaded node i
pub record RanTo (s : Setup) (b : State) (coins : List ℕ) (i : ℕ) (end : End) : Type 0 where
  pub program : Accepted
  pub node : i < s.shape.nodes
  pub loaded : (node_at b.nodes i).program ≡ Some program
  pub run : CompleteRun program.program (setting_at s b.mail coins i) (node_at b.nodes i).memory end

-- the greatest number of instructions that a node runs, 0 if none is loaded
pub record IsSteps (s : Setup) (b : State) (coins : List ℕ) (k : ℕ) : Type 0 where
  pub most : (i : ℕ) (end : End) → RanTo s b coins i end → end.steps ≤ k
  pub reached : ((i : ℕ) × (end : End) × RanTo s b coins i end × (end.steps ≡ k))
      ⊎ (((i : ℕ) → i < s.shape.nodes → IsNone (node_at b.nodes i).program) × (k ≡ 0))

-- how many instructions each node runs, 0 if none is loaded
pub record AreSteps (s : Setup) (b : State) (coins steps : List ℕ) : Type 0 where
  pub nodes : length steps ≡ s.shape.nodes
  pub ran : (i : ℕ) (end : End) → RanTo s b coins i end → slice_index steps i ≡ end.steps
  pub rested : (i : ℕ) → i < s.shape.nodes → IsNone (node_at b.nodes i).program → slice_index steps i ≡ 0

-- the four bytes of a node that ran the clock program in the closed pulse
abbrev pub told_clock : Node → Option ℕ
told_clock x = if x.mark then Some (clock_of x.memory) else None

-- what is told of a closed pulse. Its clocks are the four bytes, below the modulus or not; its row has their values
pub record PulseTold : Type 0 where
  pub row : Row
  pub clocks : List (Option ℕ)
  pub settled : List Bool
  pub steps : ℕ
  pub agree : Bool

pub record IsRecord (s : Setup) (b b' : State) (r : PulseTold) : Type 0 where
  pub row : r.row ≡ row_of s b b'
  pub clocks : r.clocks ≡ map told_clock b'.nodes
  pub settled : r.settled ≡ settled_flags b.nodes b'.nodes
  pub steps : IsSteps s b (coins_of b) r.steps
  pub agree : IsTrue r.agree ↔ Agree s b b'
