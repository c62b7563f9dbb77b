use Rattle.std.proofs.Common.{◌≡◌, ◌+◌, ◌-◌, ◌∙◌, ap, arith}
use Rattle.rule_listing.specs.Listing.{line_at}
use Rattle.rule_listing.proofs.RowLemmas.{slot_more}
use Rattle.rule_listing.proofs.listing.list_rule.Goals as goal

pub loop-slot-preserved : goal.loop-slot-preserved
loop-slot-preserved c = record {
  rows = slot_more c.args.text.now c.args.lines.now c.args.program.now c.loop-slot.slot _ _ _ _ _ _ _
      (c.as_slice.ensures.value ∙ c.in_ok-image.ensures.image) c.insn_at.ensures.found c.loop-slot.invariant.before
      c.line_at-line.ensures c.loop-slot.invariant.rows c.in_ok-push_heading.ensures c.in_ok-push_insn.ensures;
  before = let same : c.loop-slot.slot ≡ c.loop-slot.slot + 1 - 1 = omega arith in
      c.line_at-line.ensures ∙ ap (line_at c.args.lines.now) same;
}
