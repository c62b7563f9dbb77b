use Rattle.std.proofs.Common.{◌∙◌}
use Rattle.std.specs.Prelude.{map}
use Rattle.bench_core.specs.Views.{entry_of}
use Rattle.bench_shared.proofs.Placing.{rows_from_placed}
use Rattle.bench_shared.proofs.finish.engine_is_for.Goals as goal

pub returns-clause-rows : goal.returns-clause-rows
returns-clause-rows g c = λ yes.
    let r = c.receipts.ensures in
    rows_from_placed (map entry_of c.args.history.now) c.args.engine.now.receipts _
    (c.are_for.ensures yes ∙ r.receipts) r.rows
