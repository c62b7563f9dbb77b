use Rattle.std.proofs.Common.{◌≡◌, take, count_by}
use Rattle.bench_core.specs.Views.{entry_of}
use Rattle.bench_shared.specs.Ends.{is_close}
use Rattle.bench_shared.proofs.finish.count_closes.Given as goal

abbrev pub invariant-loop-entry : goal.invariant-loop-entry
invariant-loop-entry l = l.count ≡ count_by (λ entry. is_close (entry_of entry)) (take l.entry-index l.history)
