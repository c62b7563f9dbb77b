-- The stack's bytes and marks, and the map of the bytes that are written.
use Rattle.std.proofs.Common.{◌≡◌, ℕ, zero, suc, ◌+◌, ◌-◌, ◌%◌, ◌/◌, ◌<◌, ◌≤◌, Bool, true, false, List, [], ◌∷◌, length, get_or, set, replicate, Some, None, Ok, Err, refl, sym, ap, ◌∙◌, arith}
use Rattle.std.specs.Prelude.{slice_get, slice_set, if◌then◌else◌}
use Rattle.std.specs.FinMap.{empty, get, insert, remove}
use Rattle.std.proofs.lemmas.Option.{slice_get-get_or}
use Rattle.std.proofs.lemmas.List.{length-set}
use Rattle.std.proofs.lemmas.Bool.{false≢true, true≢false}
use Rattle.node_env.specs.Slots.{map_of}
use Rattle.node_env.proofs.Slots.{get-map_of, map_of-replicate, map_of-set, map_of-clear}
use Rattle.bpf_machine.specs.declared.word.TrapKind.TheVariants.{UnsetByte}
use Rattle.bpf_machine.specs.inner.Cells.{cells, written_bytes, are_set, with_marks, without_marks}
use Rattle.bpf_machine.specs.Step.{number_at, with_number, without_bytes}
use Rattle.bpf_machine.proofs.StepCases.{bool_case, yes, no}

cell_at : (bytes : List ℕ) (marks : List Bool) (q : ℕ) → length bytes ≡ length marks
    → get_or (cells bytes marks) q None ≡ (if get_or marks q false then slice_get bytes q else None)
cell_at [] [] q e = refl
cell_at [] (m ∷ marks) q e = absurd (omega arith)
cell_at (b ∷ bytes) [] q e = absurd (omega arith)
cell_at (b ∷ bytes) (true ∷ marks) zero e = refl
cell_at (b ∷ bytes) (true ∷ marks) (suc q) e = cell_at bytes marks q (omega arith)
cell_at (b ∷ bytes) (false ∷ marks) zero e = refl
cell_at (b ∷ bytes) (false ∷ marks) (suc q) e = cell_at bytes marks q (omega arith)

written_at : (bytes : List ℕ) (marks : List Bool) (q : ℕ) → length bytes ≡ length marks
    → get (written_bytes bytes marks) q ≡ (if get_or marks q false then slice_get bytes q else None)
unfolding written_bytes
written_at bytes marks q e = get-map_of (cells bytes marks) q ∙ cell_at bytes marks q e

-- a number whose bytes are all written
pub written_number : (bytes : List ℕ) (marks : List Bool) (k count v : ℕ) → length bytes ≡ length marks
    → are_set marks k count ≡ true → number_at (slice_get bytes) k count ≡ Ok v
    → number_at (get (written_bytes bytes marks)) k count ≡ Ok v
written_number bytes marks k count v e s h = same k count s ∙ h
  where
    same : (k count : ℕ) → are_set marks k count ≡ true
        → number_at (get (written_bytes bytes marks)) k count ≡ number_at (slice_get bytes) k count
    same k zero s = refl
    same k (suc count) s =
        elim (bool_case (get_or marks k false)) [
          | yes m ↦ rw (written_at bytes marks k e, m, same (suc k) count (rw m at s)) refl
          | no m ↦ absurd (false≢true (rw m at s))
        ]

-- a byte of a number isn't written
pub unwritten_number : (bytes : List ℕ) (marks : List Bool) (k count : ℕ) → length bytes ≡ length marks
    → k + count ≤ length bytes → are_set marks k count ≡ false
    → number_at (get (written_bytes bytes marks)) k count ≡ Err UnsetByte
unwritten_number bytes marks k zero e inside s = absurd (true≢false s)
unwritten_number bytes marks k (suc count) e inside s =
    elim (bool_case (get_or marks k false)) [
      | yes m ↦ rw (
        written_at bytes marks k e,
        m,
        slice_get-get_or bytes k 0
            (omega arith),
        unwritten_number bytes marks (suc k) count e (omega arith) (rw m at s),
      ) refl
      | no m ↦ rw (written_at bytes marks k e, m) refl
    ]

cells_set : (bytes : List ℕ) (marks : List Bool) (k x : ℕ)
    → cells (set bytes k x) (set marks k true) ≡ set (cells bytes marks) k (Some x)
cells_set [] marks k x = refl
cells_set (b ∷ bytes) [] zero x = refl
cells_set (b ∷ bytes) [] (suc k) x = refl
cells_set (b ∷ bytes) (true ∷ marks) zero x = refl
cells_set (b ∷ bytes) (false ∷ marks) zero x = refl
cells_set (b ∷ bytes) (true ∷ marks) (suc k) x = ap (λ rest. Some b ∷ rest) (cells_set bytes marks k x)
cells_set (b ∷ bytes) (false ∷ marks) (suc k) x = ap (λ rest. None ∷ rest) (cells_set bytes marks k x)

cells_length : (bytes : List ℕ) (marks : List Bool) → length bytes ≡ length marks
    → length (cells bytes marks) ≡ length bytes
cells_length [] marks e = refl
cells_length (b ∷ bytes) [] e = absurd (omega arith)
cells_length (b ∷ bytes) (true ∷ marks) e = ap suc (cells_length bytes marks (omega arith))
cells_length (b ∷ bytes) (false ∷ marks) e = ap suc (cells_length bytes marks (omega arith))

write_one : (bytes : List ℕ) (marks : List Bool) (k x : ℕ) → length bytes ≡ length marks → k < length bytes
    → written_bytes (set bytes k x) (set marks k true) ≡ insert (written_bytes bytes marks) k x
unfolding written_bytes
write_one bytes marks k x e inside = ap map_of (cells_set bytes marks k x)
    ∙ map_of-set (cells bytes marks) k x (rw (cells_length bytes marks e) inside)

-- a number is put, and its bytes are marked
pub put_cells : (bytes : List ℕ) (marks : List Bool) (k count n : ℕ) → length bytes ≡ length marks
    → k + count ≤ length bytes → written_bytes (with_number slice_set bytes k count n)
    (with_marks marks k count) ≡ with_number insert (written_bytes bytes marks) k count n
put_cells bytes marks k zero n e inside = refl
put_cells bytes marks k (suc count) n e inside =
    put_cells (set bytes k (n % 256)) (set marks k true) (suc k) count (n / 256)
    (length-set bytes k (n % 256) ∙ e ∙ sym (length-set marks k true))
    (rw (length-set bytes k (n % 256)) (omega arith))
    ∙ ap (λ m. with_number insert m (suc k) count (n / 256)) (write_one bytes marks k (n % 256) e (omega arith))

cells_cleared : (bytes : List ℕ) (marks : List Bool) (k : ℕ)
    → cells bytes (set marks k false) ≡ set (cells bytes marks) k None
cells_cleared [] marks k = refl
cells_cleared (b ∷ bytes) [] zero = refl
cells_cleared (b ∷ bytes) [] (suc k) = refl
cells_cleared (b ∷ bytes) (true ∷ marks) zero = refl
cells_cleared (b ∷ bytes) (false ∷ marks) zero = refl
cells_cleared (b ∷ bytes) (true ∷ marks) (suc k) = ap (λ rest. Some b ∷ rest) (cells_cleared bytes marks k)
cells_cleared (b ∷ bytes) (false ∷ marks) (suc k) = ap (λ rest. None ∷ rest) (cells_cleared bytes marks k)

unwrite_one : (bytes : List ℕ) (marks : List Bool) (k : ℕ) → length bytes ≡ length marks → k < length bytes
    → written_bytes bytes (set marks k false) ≡ remove (written_bytes bytes marks) k
unfolding written_bytes
unwrite_one bytes marks k e inside = ap map_of (cells_cleared bytes marks k)
    ∙ map_of-clear (cells bytes marks) k (rw (cells_length bytes marks e) inside)

-- marks are taken away
pub unwrite_cells : (bytes : List ℕ) (marks : List Bool) (k count : ℕ) → length bytes ≡ length marks
    → k + count ≤ length bytes
    → written_bytes bytes (without_marks marks k count) ≡ without_bytes (written_bytes bytes marks) k count
unwrite_cells bytes marks k zero e inside = refl
unwrite_cells bytes marks k (suc count) e inside =
    unwrite_cells bytes (set marks k false) (suc k) count (e ∙ sym (length-set marks k false)) (omega arith)
    ∙ ap (λ m. without_bytes m (suc k) count) (unwrite_one bytes marks k e (omega arith))

no_cells : (n : ℕ) → cells (replicate n 0) (replicate n false) ≡ replicate n None
no_cells zero = refl
no_cells (suc n) = ap (λ rest. None ∷ rest) (no_cells n)

pub none_written : (n : ℕ) → written_bytes (replicate n 0) (replicate n false) ≡ empty
unfolding written_bytes
none_written n = ap map_of (no_cells n) ∙ map_of-replicate n

-- one mark below those that are looked at
pub one_below : (marks : List Bool) (first count i : ℕ) → 0 < i → i ≤ count
    → are_set marks (first + (i - 1)) (count - (i - 1)) ≡
    (if get_or marks (first + (i - 1)) false then are_set marks (first + i) (count - i) else false)
one_below marks first count i low high =
    let above : first + i ≡ suc (first + (i - 1)) = omega arith in
    let one : count - (i - 1) ≡ suc (count - i) = omega arith in
    rw (above, one) refl

-- one mark is set, and the rest after it
pub mark_more : (marks : List Bool) (first count i : ℕ) → i < count
    → with_marks (set marks (first + i) true) (first + (i + 1)) (count - (i + 1)) ≡ with_marks marks (first + i)
    (count - i)
mark_more marks first count i h =
    let one : count - i ≡ suc (count - (i + 1)) = omega arith in
    let next : first + (i + 1) ≡ suc (first + i) = omega arith in
    rw (one, next) refl

-- one mark is taken away, and the rest after it
pub unmark_more : (marks : List Bool) (first count i : ℕ) → i < count
    → without_marks (set marks (first + i) false) (first + (i + 1)) (count - (i + 1))
    ≡ without_marks marks (first + i) (count - i)
unmark_more marks first count i h =
    let one : count - i ≡ suc (count - (i + 1)) = omega arith in
    let next : first + (i + 1) ≡ suc (first + i) = omega arith in
    rw (one, next) refl

pub unmark_none : (marks : List Bool) (k : ℕ) → without_marks marks k 0 ≡ marks
unmark_none marks k = refl

pub mark_none : (marks : List Bool) (k : ℕ) → with_marks marks k 0 ≡ marks
mark_none marks k = refl

pub ruleset stack_marks = (one_below, mark_more, mark_none, unmark_more, unmark_none)

pub ruleset stack_cells = (written_number, unwritten_number, put_cells, unwrite_cells)
