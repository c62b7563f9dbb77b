use Rattle.std.proofs.Common.{◌≡◌, take, map, All}
use Rattle.toml.specs.View.{items_view}
use Rattle.scenario_text.specs.Tables.{ReadsEach, IsTable}
use Rattle.scenario_text.specs.inner.Setups.{own_clock}
use Rattle.scenario_text.proofs.entries.entries_in.Given as goal

abbrev pub invariant-loop-index : goal.invariant-loop-index
invariant-loop-index g l = record {
  same : l.value-items ≡ l.array.items;
  read : ReadsEach (IsTable (g.E.Entry.spelled l.setup.frame (own_clock l.setup)))
      (items_view (take l.index l.value-items)) (map g.E.Entry.draft_of l.entries.items);
  fits : All (g.E.Entry.fits l.setup.frame) l.entries.items;
}
