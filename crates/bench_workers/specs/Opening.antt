-- A pulse of a list of events that is opened and not run (docs/SCENARIOS.md, "Runs").
use Rattle.std.specs.Prelude.{◌≡◌, ℕ, ◌+◌, List, [], ◌∷◌, ◌++◌}
use Rattle.bench_core.specs.Setup.{Setup}
use Rattle.bench_core.specs.State.{State, new_state, opened_state, AreCoins}
use Rattle.bench_core.specs.Told.{PulseTold}
use Rattle.bench_workers.specs.Events.{Event, Stage}
use Rattle.bench_workers.specs.Events.{Pulse as PulseEvent}
use Rattle.bench_workers.specs.Runs.{Goes}

-- how many pulses the events have
abbrev pub pulses_in : List Event → ℕ
pulses_in [] = 0
pulses_in (Stage c ∷ es) = pulses_in es
pulses_in (PulseEvent coins ∷ es) = 1 + pulses_in es

-- the pulse of this number, from 1 on, has these coins; the events before it give some run, and the opening leads from
-- the state that this leaves to b
pub record OpensPulse (s : Setup) (es : List Event) (pulse : ℕ) (coins : List ℕ) (b : State) : Type 0 where
  pub before : List Event
  pub rest : List Event
  pub events : es ≡ before ++ (PulseEvent coins ∷ rest)
  pub number : pulses_in before + 1 ≡ pulse
  pub records : List PulseTold
  pub last : State
  pub goes : Goes s (new_state s) 0 before records last
  pub fit : AreCoins s.shape coins
  pub opened : b ≡ opened_state last coins
