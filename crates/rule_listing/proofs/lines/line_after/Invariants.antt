use Rattle.std.proofs.Common.{◌≡◌, ◌-◌}
use Rattle.rule_listing.specs.Listing.{line_after}
use Rattle.rule_listing.proofs.lines.line_after.Given as goal

abbrev pub invariant-loop-line : goal.invariant-loop-line
invariant-loop-line l = line_after l.before l.text ≡ line_after (l.before - l._line) l.rest
