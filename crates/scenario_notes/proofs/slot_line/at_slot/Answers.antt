use Rattle.std.proofs.Common.{sym, arith}
use Rattle.std.proofs.lemmas.Option.{slice_get-get_or}
use Rattle.scenario_notes.proofs.SlotLemmas.{at_slot, next_behind}
use Rattle.scenario_notes.proofs.slot_line.at_slot.Goals as goal

-- src/slot_line.rt:20:13
pub returns-then-next-slot : goal.returns-then-next-slot
returns-then-next-slot c = at_slot c.args.program.now c.args.lines.now c.loop-line.line-index c.loop-line.next
    c.args.slot _ c.in_ok-insn.insn c.loop-line.invariant (sym c.in_ok-insn.ensures.found) c.if-next-slot.true
    (slice_get-get_or c.args.lines.now c.loop-line.line-index 0 (omega (arith, c.loop-line-test.true)))

-- src/slot_line.rt:17:5
pub loop-line-preserved : goal.loop-line-preserved
loop-line-preserved c = next_behind c.args.program.now c.loop-line.line-index c.loop-line.next c.slots.result
    c.in_ok-insn.insn c.loop-line.invariant (sym c.in_ok-insn.ensures.found) c.slots.ensures.count
