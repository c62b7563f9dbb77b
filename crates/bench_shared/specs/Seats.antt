-- What contracts see of the engine's seat and of a watcher's pass.
use Rattle.std.specs.Prelude.{List}
use Rattle.atomic_table.specs.Seated.{TableId}
use Rattle.bench_core.specs.Told.{Row}

-- the board that it is of, and the rows that were posted, or seen
pub record SeatView : Type 0 where
  pub board : TableId
  pub rows : List Row
