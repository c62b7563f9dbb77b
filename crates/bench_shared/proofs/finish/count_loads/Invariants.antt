use Rattle.std.proofs.Common.{◌≡◌, take, count_by}
use Rattle.bench_core.specs.Views.{entry_of}
use Rattle.bench_shared.specs.Ends.{is_load}
use Rattle.bench_shared.proofs.finish.count_loads.Given as goal

abbrev pub invariant-loop-entry : goal.invariant-loop-entry
invariant-loop-entry l = l.count ≡ count_by (λ entry. is_load (entry_of entry)) (take l.entry-index l.history)
