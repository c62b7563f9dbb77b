use Rattle.std.proofs.Common.{◌≡◌, ◌-◌}
use Rattle.std.specs.List.{flat_map, range_with_len}
use Rattle.rule_listing.specs.Listing.{line_at, slot_rows}
use Rattle.rule_listing.proofs.listing.list_rule.Given as goal

abbrev pub invariant-loop-slot : goal.invariant-loop-slot
invariant-loop-slot l = record {
  rows : l.listing.items ≡ flat_map (slot_rows l.text l.lines l.program) (range_with_len 0 l.slot);
  before : l.before ≡ line_at l.lines (l.slot - 1);
}
