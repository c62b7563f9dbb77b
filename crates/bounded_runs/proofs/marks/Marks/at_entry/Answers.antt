use Rattle.std.proofs.Common.{◌≡◌, ℕ, ◌*◌, Bool, true, false, List, length, ◌||◌, nat_le, arith, refl, sym, ap, ◌∙◌}
use Rattle.bounded_runs.specs.declared.marks.Marks.{Marks}
use Rattle.bounded_runs.specs.Bounded.{Bound, is_kept, memory_word}
use Rattle.bounded_runs.specs.inner.Marks.{has_mark, is_unseen, with_byte_marks}
use Rattle.bounded_runs.proofs.Entry.{marked_next, none_marked, rest_next}
use Rattle.bounded_runs.proofs.Places.{length-with_byte_marks}
use Rattle.bounded_runs.proofs.marks.Marks.at_entry.Goals as goal
use Rattle.bounded_runs.proofs.marks.Marks.at_entry.Goals.{then-is_kept, else-is_kept}

pub loop-k-init : goal.loop-k-init
loop-k-init c = record {
  registers = refl;
  wide = refl;
  marked = λ p lt. absurd (omega (arith, lt));
  rest = λ p le. none_marked 256 p;
}

pub loop-k-preserved : goal.loop-k-preserved
loop-k-preserved c =
    let k = c.loop-k.k in
    let lt = c.loop-k-test.true in
    let marks = c.loop-k.marks.bytes in
    let bound : Bound = record { number = c.args.bound; kept = c.args.kept.now } in
    let large = nat_le c.args.bound (memory_word c.args.memory.now k) in
    let unseen : c.if-is_kept.unseen ≡ is_unseen bound k (memory_word c.args.memory.now k) =
    elim c.if-is_kept.branch [
      | then-is_kept w ↦
          let kept : is_kept c.args.kept.now k ≡ true = sym c.is_kept.ensures ∙ w.if-is_kept.true in
          w.unseen-is ∙ (w.if-is_kept.true ∙ sym (ap (λ (b : Bool). b || large) kept))
      | else-is_kept w ↦
          let plain : is_kept c.args.kept.now k ≡ false = sym c.is_kept.ensures ∙ w.if-is_kept.false in
          w.unseen-is ∙ (ap (nat_le c.args.bound) w.word_at.ensures ∙ sym (ap (λ (b : Bool). b || large) plain))
    ] in
    let bytes : c.mark_bytes.new.self.bytes ≡ with_byte_marks marks (4 * k) 4 c.if-is_kept.unseen =
    ap (λ (x : Marks). x.bytes) c.mark_bytes.ensures in
    let wide = c.loop-k.invariant.wide in
    record {
      registers = ap (λ (x : Marks). x.registers) c.mark_bytes.ensures ∙ c.loop-k.invariant.registers;
      wide = ap length bytes ∙ (length-with_byte_marks marks (4 * k) 4 c.if-is_kept.unseen ∙ wide);
      marked = λ p within. ap (λ (list : List Bool). has_mark list p) bytes
          ∙ marked_next marks c.args.memory.now bound k c.if-is_kept.unseen unseen
          (omega (arith, wide, lt, c.requires.few)) c.loop-k.invariant.marked p within;
      rest = λ p le. ap (λ (list : List Bool). has_mark list p) bytes
          ∙ rest_next marks k c.if-is_kept.unseen c.loop-k.invariant.rest p le;
    }
