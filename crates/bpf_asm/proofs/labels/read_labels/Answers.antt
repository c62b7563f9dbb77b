use Rattle.std.proofs.Common.{◌+◌, ◌++◌, sym, ap, ◌∙◌, arith}
use Rattle.bpf_asm.specs.Meaning.{place_at, lines_in}
use Rattle.bpf_asm.specs.inner.Meaning.{near, near_places, lines_left}
use Rattle.bpf_asm.specs.inner.Statements.{line_in}
use Rattle.bpf_asm.proofs.LabelLemmas.{next_places, shorter_left, bytes_left}
use Rattle.bpf_asm.proofs.labels.read_labels.Goals as goal

pub overflow_add-line : goal.overflow_add-line
overflow_add-line c = omega (arith, ap bytes_left c.in-Some.is)

pub loop-rest-preserved : goal.loop-rest-preserved
loop-rest-preserved c =
    let before = c.loop-rest.invariant.so_far in
    let line = line_in c.next_line.result.0 in
    let behind = c.next_line.result.1 in
    let first = ap (λ r. lines_in r.now) (sym c.in-Some.front-is) ∙ c.next_line.ensures.lines in
    let here = before.1 ∙ ap (λ r. before.0 ++ near_places c.loop-rest.slot (lines_left r)) c.in-Some.is in
    let slot = c.next_slot-slot.ensures.next ∙ ap (λ n. near (c.loop-rest.slot + n)) c.slots_in.ensures in
    let all = next_places (near_places 0 (lines_in c.args.text.now)) before.0 c.loop-rest.slot c.in-Some.front.now line
    (lines_left behind) here first in
    record {
      so_far = (
        before.0 ++ place_at line.name c.loop-rest.slot,
        all ∙ ap (λ s. (before.0 ++ place_at line.name c.loop-rest.slot) ++ near_places s (lines_left behind))
            (sym slot),
        c.in_ok-add_name.ensures before.0 before.2,
      );
      within = c.next_slot-slot.ensures.within;
      counted = omega (
        arith,
        ap bytes_left c.in-Some.is,
        shorter_left c.in-Some.front.now behind
            c.next_line.ensures.shorter,
      );
    }
