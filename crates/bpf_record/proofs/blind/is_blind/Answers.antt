use Rattle.std.proofs.Common.{◌≡◌, ◌≤◌, true, sym, ◌∙◌, arith}
use Rattle.bpf_insn.specs.Programs.{slots_of}
use Rattle.bpf_record.specs.inner.Marks.{is_marked_at}
use Rattle.bpf_record.proofs.Marking.{all_read}
use Rattle.bpf_record.proofs.blind.is_blind.Goals as goal

pub returns : goal.returns
returns c _ =
    let most = c.loop-slot.auto.slot-end in
    let least = c.loop-slot-test.false in
    let count = c.slot_count-count.ensures.count in
    let end : c.loop-slot.slot ≡ slots_of c.args.program.now = omega (arith, most, least, count) in
    all_read c.args.program.now c.loop-slot.slot (is_marked_at c.loop-slot.marks.items) end
    c.loop-slot.invariant.before
