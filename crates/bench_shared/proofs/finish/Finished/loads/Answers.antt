use Rattle.std.proofs.Common.{ap, ◌∙◌, count_by}
use Rattle.bench_core.specs.Views.{entry_of}
use Rattle.bench_shared.specs.Ends.{is_load}
use Rattle.bench_shared.proofs.Counting.{count_entries}
use Rattle.bench_shared.proofs.finish.Finished.loads.Goals as goal

pub returns : goal.returns
returns c = c.count_loads.ensures ∙ ap (count_by (λ e. is_load (entry_of e))) c.deref.ensures.value
    ∙ count_entries is_load c.self.inside.history.items ∙ ap (count_by is_load) c.self.view_is
