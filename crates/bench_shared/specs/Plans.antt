-- What a shared bench is made for, and why its calls are refused.
use Rattle.std.specs.Prelude.{◌≡◌, ℕ, List, Some, All}
use Rattle.bench_core.specs.declared.refusal.StageError.{StageError}
use Rattle.bench_core.specs.declared.refusal.StageError.TheVariants as stage
use Rattle.bench_core.specs.declared.refusal.OpenError.{OpenError}
use Rattle.bench_core.specs.declared.refusal.OpenError.TheVariants as opening
use Rattle.bench_core.specs.Setup.{Setup}
use Rattle.bench_core.specs.State.{Change, IsChange, AreCoins}
use Rattle.bench_core.specs.Replay.{BenchValue, Replays, StagesAccepted}
use Rattle.bench_core.specs.Refusals.{IsMisfit}
use Rattle.bench_core.specs.Tasks.{Task, tasks_of}

-- the setup of its nodes, and how many loaders it has
pub record Plan : Type 0 where
  pub setup : Setup
  pub loaders : ℕ

-- BadNode, OtherShape and BadImage come exactly for changes that don't fit the shape; HistoryFull and Memory only for
-- changes that fit
abbrev pub IsPlanRefusal : Plan → Change → StageError → Type 0
IsPlanRefusal p c stage.HistoryFull = IsChange p.setup.shape c
IsPlanRefusal p c stage.Memory = IsChange p.setup.shape c
IsPlanRefusal p c e = IsMisfit p.setup.shape c e

-- bad coins are told as such or as an open pulse, and no other coins are told to be bad
abbrev pub IsPlanOpenRefusal : Plan → List ℕ → OpenError → Type 0
IsPlanOpenRefusal p coins opening.PulseOpen = Unit {0}
IsPlanOpenRefusal p coins opening.BadCoins = ¬ AreCoins p.setup.shape coins
IsPlanOpenRefusal p coins opening.HistoryFull = AreCoins p.setup.shape coins
IsPlanOpenRefusal p coins opening.Memory = AreCoins p.setup.shape coins

-- the tasks of one open pulse with these coins, of a bench of this setup
pub record HandsOut (s : Setup) (coins : List ℕ) (tasks : List Task) : Type 0 where
  pub bench : BenchValue
  pub setup : bench.setup ≡ s
  pub replays : Replays bench.setup bench.history bench.state
  pub accepted : All StagesAccepted bench.history
  pub is_open : bench.state.coins ≡ Some coins
  pub handed : tasks ≡ tasks_of bench
