-- Events of a run, as the code has them and as plain data.
use Rattle.std.specs.Prelude.{ℕ, List}
use Rattle.bench_core.specs.State.{Change}
use Rattle.bench_core.specs.Views.{change_of}
use Rattle.bench_workers.specs.declared.event.Event.{Event as EventCode}
use Rattle.bench_workers.specs.declared.event.Event.TheVariants as code

pub data Event : Type 0 where
  Stage : (change : Change) → Event
  Pulse : (coins : List ℕ) → Event

abbrev pub event_of : EventCode → Event
event_of (code.Stage change) = Stage (change_of change)
event_of (code.Pulse coins) = Pulse coins.items
