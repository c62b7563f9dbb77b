-- A receipt as plain data.
use Rattle.std.specs.Prelude.{List, map}
use Rattle.bench_core.specs.Views.{entry_of}
use Rattle.bench_shared.specs.Passes.{Placed}
use Rattle.bench_shared.specs.declared.passes.Receipt.{Receipt}

abbrev pub placed_of : Receipt → Placed
placed_of r = (r.place, entry_of r.entry)

abbrev pub placed_receipts : List Receipt → List Placed
placed_receipts receipts = map placed_of receipts
