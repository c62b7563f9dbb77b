-- Benches of the built-in clock, of every size: n > 3f, and all but f nodes at most run the clock. The others have no
-- program, and send any numbers or nothing.
use Rattle.std.specs.Prelude.{◌≡◌, ◌⊎◌, ℕ, ◌+◌, ◌*◌, ◌^◌, ◌<◌, Bool, true, false, Option, Some, None, List, slice_index, unwrap_or, IsTrue}
use Rattle.std.specs.Ordering.{nat_cmp}
use Rattle.std.specs.FinMap.{FinMap}
use Rattle.node_env.specs.Env.{Setting}
use Rattle.bpf_verify.specs.Accepted.{Accepted}
use Rattle.rule_syntax.specs.declared.syntax.Sizes.{Sizes}
use Rattle.rule_syntax.specs.declared.syntax.Statement.{Statement}
use Rattle.rule_nodes.specs.Code.{rule_code}
use Rattle.rule_nodes.specs.Ends.{sizes_of}
use Rattle.rule_nodes.specs.Fits.{BlockFits}
use Rattle.rule_text.specs.Forms.{statement_form}
use Rattle.clock_rule.specs.Clock.{clock_statement}
use Rattle.quorums.specs.Counts.{HasFewFaults}
use Rattle.rule_steps.specs.Steps.{Between, IsBetween, Sees, NodeBecomes, EachCorrect}
use Rattle.clock_steps.specs.Claims.{common}
use Rattle.bench_core.specs.Setup.{IsSetup, Setup}
use Rattle.bench_core.specs.State.{AreCoins}
use Rattle.bench_moves.specs.Bed.{Bed, IsLoaded, RunsRule, MayLie, program_in}
use Rattle.bench_moves.specs.Space.{ComesBy, Config, InStepFrom, IsConfigOf, LuckFrom, NeverPartsFrom, memory_at, sent_at}
use Rattle.bench_moves.specs.Paths.{AreInboxes, Follows, FollowsOn, PathsAgreeFrom, PathsInStepFrom, PathsLuckFrom}
use Rattle.bench_moves.specs.Start.{IsEvery}

abbrev pub has_program : Option Accepted → Bool
has_program None = false
has_program (Some p) = true

-- the set of correct nodes: those that are loaded
abbrev pub is_loaded : Bed → ℕ → Bool
is_loaded bed i = has_program (program_in bed i)

abbrev pub bed_sizes : Bed → Sizes
bed_sizes bed = sizes_of bed.setup.shape bed.setup.faults bed.setup.modulus

-- the program is the code of the clock's rule
pub record IsClockCode (bed : Bed) (p : Accepted) : Type 0 where
  pub rule : Statement
  pub clock : statement_form rule ≡ clock_statement
  pub fits : BlockFits rule (bed_sizes bed) 0 0
  pub code : p.program ≡ rule_code rule (bed_sizes bed)

-- n > 3f; at most f nodes have no program; the others run the built-in clock, or the code of its rule; each pulse is to
-- keep the clocks' step
pub record IsClockBench (bed : Bed) : Type 0 where
  pub setup : IsSetup bed.setup
  pub third : 3 * bed.setup.faults < bed.setup.shape.nodes
  pub few : HasFewFaults bed.setup.shape.nodes bed.setup.faults (is_loaded bed)
  pub clocks : (i : ℕ) (p : Accepted) → IsLoaded bed i p → RunsRule bed p ⊎ IsClockCode bed p
  pub lies : (number : ℕ) → MayLie bed number → number < 2 ^ 32
  pub aim : bed.aim ≡ None

-- they exist: of each setup with n > 3f, with every choice of at most f nodes that have no program
abbrev pub ClockBenchesExist : Type 0
ClockBenchesExist = (setup : Setup) (loaded : ℕ → Bool) → IsSetup setup → 3 * setup.faults < setup.shape.nodes
    → HasFewFaults setup.shape.nodes setup.faults loaded
    → (bed : Bed) × IsClockBench bed × (bed.setup ≡ setup)
    × ((i : ℕ) → i < setup.shape.nodes → is_loaded bed i ≡ loaded i)

-- ---- transitions and steps

-- a node between two pulses: its memory, and what it sent to itself
abbrev pub node_in : Config → ℕ → Between
node_in x i = record { memory = memory_at x i; sent = unwrap_or (sent_at x i i) 0 }

-- any memories, and each loaded node sent one number to all of them
pub record IsUniform (bed : Bed) (x : Config) : Type 0 where
  pub every : IsEvery bed x
  pub same : (i j : ℕ) (p q : Accepted) → IsLoaded bed i p → IsLoaded bed j q
      → sent_at x j i ≡ Some (node_in x j).sent

-- a step of the rule for the set of loaded nodes, each of which sees this
pub record IsRuleStep (rule : Statement) (bed : Bed) (x y : Config) (env : ℕ → Setting) : Type 0 where
  pub before : EachCorrect bed.setup.shape.nodes (is_loaded bed) (λ i. IsBetween (bed_sizes bed) (node_in x i))
  pub sees : EachCorrect bed.setup.shape.nodes (is_loaded bed)
      (λ i. Sees (bed_sizes bed) (is_loaded bed) (node_in x) i (env i))
  pub becomes : EachCorrect bed.setup.shape.nodes (is_loaded bed)
      (λ i. NodeBecomes rule (bed_sizes bed) (env i) (node_in x i) (node_in y i))

abbrev pub FirstMessagesAreUniform : Type 0
FirstMessagesAreUniform = (bed : Bed) (x y : Config) → IsClockBench bed → IsEvery bed x → Follows bed x y
    → IsUniform bed y

abbrev pub TransitionsAreSteps : Type 0
TransitionsAreSteps = (rule : Statement) (bed : Bed) (x y : Config) → statement_form rule ≡ clock_statement
    → IsClockBench bed → IsUniform bed x → Follows bed x y → (env : ℕ → Setting) × IsRuleStep rule bed x y env

-- each loaded node by an inbox of its own, and the coin that is given for it
abbrev pub MovesBy : Bed → Config → List ℕ → (ℕ → List ℕ) → (ℕ → FinMap nat_cmp ℕ) → Type 0
MovesBy bed x coins memories rows = (i : ℕ) (p : Accepted) → IsLoaded bed i p
    → ComesBy bed x i p (slice_index coins i) (memories i) (rows i)

-- some move with these coins leaves y
abbrev pub FollowsBy : Bed → Config → List ℕ → Config → Type 0
FollowsBy bed x coins y =
    (left : ℕ → List ℕ) × (rows : ℕ → FinMap nat_cmp ℕ) × MovesBy bed x coins left rows × IsConfigOf bed left rows y

-- of a transition with these coins the nodes see them
abbrev pub TransitionsByAreSteps : Type 0
TransitionsByAreSteps = (rule : Statement) (bed : Bed) (x y : Config) (coins : List ℕ)
    → statement_form rule ≡ clock_statement → IsClockBench bed → IsUniform bed x → AreCoins bed.setup.shape coins
    → FollowsBy bed x coins y → (env : ℕ → Setting) × IsRuleStep rule bed x y env
    × EachCorrect bed.setup.shape.nodes (is_loaded bed) (λ i. (env i).coin ≡ slice_index coins i)

-- there is always one: with any inboxes and any coins; and liars can be silent
abbrev pub ClockTransitionsLeadOn : Type 0
ClockTransitionsLeadOn = (bed : Bed) (x : Config) (inboxes : ℕ → FinMap nat_cmp ℕ) (coins : List ℕ) → IsClockBench bed
    → IsEvery bed x → AreInboxes bed x inboxes → AreCoins bed.setup.shape coins
    → (y : Config) × FollowsOn bed x inboxes coins y

abbrev pub LiarsMayBeSilent : Type 0
LiarsMayBeSilent = (bed : Bed) (x : Config) → (inboxes : ℕ → FinMap nat_cmp ℕ) × AreInboxes bed x inboxes

-- ---- what all runs do

-- where 0 agrees with each clock
abbrev pub ClockBenchesAgree : Type 0
ClockBenchesAgree = (bed : Bed) → IsClockBench bed → bed.own ≡ false → PathsAgreeFrom bed (IsEvery bed)

-- all loaded nodes have and sent the clock c, with its mark
pub record IsCommonAt (bed : Bed) (c : ℕ) (x : Config) : Type 0 where
  pub uniform : IsUniform bed x
  pub below : c < bed.setup.modulus
  pub each : EachCorrect bed.setup.shape.nodes (is_loaded bed) (λ i. IsTrue (common c (node_in x i) (node_in x i)))

abbrev pub CommonLasts : Type 0
CommonLasts = (bed : Bed) (c : ℕ) → IsClockBench bed → PathsInStepFrom 0 bed (IsCommonAt bed c)

-- it may stabilise within M + 2 pulses from every start
abbrev pub ClockBenchesMayStabilise : Type 0
ClockBenchesMayStabilise = (bed : Bed) → IsClockBench bed → PathsLuckFrom (bed.setup.modulus + 2) bed (IsEvery bed)

-- ---- the same, of the runs of a bench, from every state that it can be in with these programs loaded

abbrev pub AnyState : Config → Type 0
AnyState x = Unit {0}

abbrev pub ClocksAgreeInRuns : Type 0
ClocksAgreeInRuns = (bed : Bed) → IsClockBench bed → bed.own ≡ false → NeverPartsFrom bed AnyState

abbrev pub CommonLastsInRuns : Type 0
CommonLastsInRuns = (bed : Bed) (c : ℕ) → IsClockBench bed → InStepFrom 0 bed (IsCommonAt bed c)

abbrev pub MayStabiliseInRuns : Type 0
MayStabiliseInRuns = (bed : Bed) → IsClockBench bed → LuckFrom (bed.setup.modulus + 2) bed AnyState
