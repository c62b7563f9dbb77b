-- What a close of a shared bench tells: no clause can name the bench after the lock, but each can say that there is
-- one.
use Rattle.std.specs.Prelude.{◌≡◌, ℕ, ◌+◌, ◌-◌, ◌*◌, ◌<◌, not, IsTrue, List, Some, count_by, length, slice_get, All}
use Rattle.bench_core.specs.Setup.{Setup, HasRuleClock}
use Rattle.bench_core.specs.State.{State}
use Rattle.bench_core.specs.Pulse.{Pulse}
use Rattle.bench_core.specs.Told.{PulseTold, IsRecord}
use Rattle.bench_core.specs.Replay.{Entry, Opened, Replays, StagesAccepted}
use Rattle.bench_shared.specs.Passes.{Placed}

-- the last of these receipts is for the opening of a pulse with these coins
abbrev pub OpenedLast : List Placed → List ℕ → Type 0
OpenedLast receipts coins = (place : ℕ) × (slice_get receipts (length receipts - 1) ≡ Some (place, Opened coins))

-- told of a pulse with these coins, which a bench of this setup closed where a history had led it
pub record TellsClose (s : Setup) (coins : List ℕ) (told : PulseTold) : Type 0 where
  pub history : List Entry
  pub before : State
  pub after : State
  pub replays : Replays s history before
  pub accepted : All StagesAccepted history
  pub is_open : before.coins ≡ Some coins
  pub pulse : Pulse s before after
  pub tells : IsRecord s before after told

-- if the clock is the rule's, and enough nodes are settled, their clocks agree (docs/CLOCK.md)
abbrev pub TellsAgreement : Setup → PulseTold → Type 0
TellsAgreement s told = HasRuleClock s → 2 * s.faults + count_by not told.settled < s.shape.nodes → IsTrue told.agree
