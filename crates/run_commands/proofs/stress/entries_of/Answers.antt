use Rattle.std.proofs.Common.{◌∙◌, sym, ap, List, length}
use Rattle.std.proofs.lemmas.List.{length-map}
use Rattle.bench_core.specs.Replay.{Entry}
use Rattle.bench_core.specs.Views.{entry_of}
use Rattle.run_commands.proofs.stress.entries_of.Goals as goal

pub returns : goal.returns
returns c = sym (length-map c.history.result.now entry_of) ∙ ap (λ (l : List Entry). length l) c.history.ensures
