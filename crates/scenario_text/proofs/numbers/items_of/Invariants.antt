use Rattle.std.proofs.Common.{◌≡◌, take}
use Rattle.toml.specs.View.{items_view}
use Rattle.scenario_text.specs.Tables.{ReadsEach}
use Rattle.scenario_text.proofs.numbers.items_of.Given as goal

abbrev pub invariant-loop-value : goal.invariant-loop-value
invariant-loop-value g l = record {
  same : l.value-items ≡ l.array.items;
  read : ReadsEach (g.R.ItemReader.reads l.reader) (items_view (take l.value-index l.value-items)) l.items.items;
}
