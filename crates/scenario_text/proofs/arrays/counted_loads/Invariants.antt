use Rattle.std.proofs.Common.{◌≡◌, ◌≤◌, take}
use Rattle.toml.specs.View.{items_view}
use Rattle.scenario_text.specs.inner.Arrays.{item_count}
use Rattle.scenario_text.proofs.arrays.counted_loads.Given as goal

abbrev pub invariant-loop-value : goal.invariant-loop-value
invariant-loop-value l = record {
  same : l.value-items ≡ l.array.items;
  total : l.total ≡ item_count (items_view (take l.value-index l.value-items));
  few : l.total ≤ l.most;
}
