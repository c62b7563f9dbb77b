use Rattle.std.proofs.Common.{◌≡◌, ◌<◌, ℕ, map}
use Rattle.std.specs.Prelude.{slice_index_or}
use Rattle.bench_core.specs.Views.{entry_of}
use Rattle.bench_core.specs.declared.actor.Actor.TheVariants.{Loader}
use Rattle.bench_shared.specs.Ends.{placed_by}
use Rattle.bench_shared.proofs.finish.loaders_are_for.Given as goal

abbrev pub invariant-loop-pass : goal.invariant-loop-pass
invariant-loop-pass g l = (k : ℕ) (d : _) → k < l.pass-index
    → placed_by (Loader (slice_index_or l.loaders k d).number) (map entry_of l.history) ≡
    (slice_index_or l.loaders k d).receipts
