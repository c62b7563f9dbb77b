use Rattle.std.proofs.Common.{ap, ◌∙◌, count_by}
use Rattle.bench_core.specs.Views.{entry_of}
use Rattle.bench_shared.specs.Ends.{is_close}
use Rattle.bench_shared.proofs.Counting.{count_entries}
use Rattle.bench_shared.proofs.finish.Finished.closes.Goals as goal

pub returns : goal.returns
returns c = c.count_closes.ensures ∙ ap (count_by (λ e. is_close (entry_of e))) c.deref.ensures.value
    ∙ count_entries is_close c.self.inside.history.items ∙ ap (count_by is_close) c.self.view_is
