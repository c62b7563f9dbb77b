-- When each refusal comes: this one applies, and none before it. Where a step is taken, none applies.
use Rattle.std.specs.Prelude.{◌≡◌, ◌≢◌, ℕ, ◌+◌, ◌<◌, ◌≤◌, List, length, slice_get, Some, IsSome, IsNone}
use Rattle.bench_core.specs.declared.limits.TheConstants.{MAX_ENTRIES}
use Rattle.bench_core.specs.declared.refusal.StageError.{StageError}
use Rattle.bench_core.specs.declared.refusal.StageError.TheVariants as stage
use Rattle.bench_core.specs.declared.refusal.OpenError.{OpenError}
use Rattle.bench_core.specs.declared.refusal.OpenError.TheVariants as opening
use Rattle.bench_core.specs.declared.refusal.CloseError.{CloseError}
use Rattle.bench_core.specs.declared.refusal.CloseError.TheVariants as closing
use Rattle.node_env.specs.Env.{Extent}
use Rattle.bench_core.specs.State.{Change, Load, Corrupt, node_of, IsChange, AreCoins}
use Rattle.bench_core.specs.Replay.{BenchValue, places_of}
use Rattle.bench_core.specs.Tasks.{Task, Done, IsMissing, IsTwice, IsExact, HandedOut}

abbrev pub HasOtherShape : Extent → Change → Type 0
HasOtherShape shape (Load i p) = p.shape ≢ shape
HasOtherShape shape _ = ⊥

abbrev pub HasBadImage : Extent → Change → Type 0
HasBadImage shape (Corrupt i image) = length image ≢ shape.memory
HasBadImage shape _ = ⊥

-- why a change is not one of a bench of this shape
abbrev pub IsMisfit : Extent → Change → StageError → Type 0
IsMisfit shape c stage.BadNode = shape.nodes ≤ node_of c
IsMisfit shape c stage.OtherShape = (node_of c < shape.nodes) × HasOtherShape shape c
IsMisfit shape c stage.BadImage = (node_of c < shape.nodes) × HasBadImage shape c
IsMisfit shape c stage.HistoryFull = ⊥
IsMisfit shape c stage.Memory = ⊥

abbrev pub IsStageRefusal : BenchValue → Change → StageError → Type 0
IsStageRefusal b c stage.HistoryFull = IsChange b.setup.shape c × (MAX_ENTRIES ≤ places_of b)
IsStageRefusal b c stage.Memory = IsChange b.setup.shape c × (places_of b < MAX_ENTRIES)
IsStageRefusal b c e = IsMisfit b.setup.shape c e

abbrev pub CanOpen : BenchValue → List ℕ → Type 0
CanOpen b coins = IsNone b.state.coins × AreCoins b.setup.shape coins

-- an open pulse takes two places, one of them for its end
abbrev pub IsOpenRefusal : BenchValue → List ℕ → OpenError → Type 0
IsOpenRefusal b coins opening.PulseOpen = IsSome b.state.coins
IsOpenRefusal b coins opening.BadCoins = IsNone b.state.coins × ¬ AreCoins b.setup.shape coins
IsOpenRefusal b coins opening.HistoryFull = CanOpen b coins × (MAX_ENTRIES < length b.history + 2)
IsOpenRefusal b coins opening.Memory = CanOpen b coins × (length b.history + 2 ≤ MAX_ENTRIES)

-- no lower number has the property
abbrev pub IsLowest : (ℕ → Type 0) → ℕ → Type 0
IsLowest P i = P i × ((j : ℕ) → j < i → P j → ⊥)

-- the first in the list that was not handed out names node i
pub record IsStranger (handed : Task → Type 0) (dones : List Done) (i : ℕ) : Type 0 where
  pub place : ℕ
  pub one : Done
  pub at : slice_get dones place ≡ Some one
  pub node : one.task.node ≡ i
  pub stranger : handed one.task → ⊥
  pub before : (k : ℕ) (d : Done) → k < place → slice_get dones k ≡ Some d → handed d.task

abbrev pub IsCloseRefusal : BenchValue → List Done → CloseError → Type 0
IsCloseRefusal b dones closing.NotOpen = IsNone b.state.coins
IsCloseRefusal b dones (closing.Missing i) = IsSome b.state.coins
    × IsLowest (IsMissing (HandedOut b) b.state.nodes dones) i
IsCloseRefusal b dones (closing.Twice i) =
    IsSome b.state.coins × ((j : ℕ) → IsMissing (HandedOut b) b.state.nodes dones j → ⊥)
    × IsLowest (IsTwice (HandedOut b) dones) i
IsCloseRefusal b dones (closing.Stranger i) =
    IsSome b.state.coins × ((j : ℕ) → IsMissing (HandedOut b) b.state.nodes dones j → ⊥)
    × ((j : ℕ) → IsTwice (HandedOut b) dones j → ⊥) × IsStranger (HandedOut b) dones i
IsCloseRefusal b dones closing.Memory = IsSome b.state.coins × IsExact (HandedOut b) b.state.nodes dones
