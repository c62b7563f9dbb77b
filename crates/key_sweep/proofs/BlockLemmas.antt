-- The front of a block of keys.
use Rattle.std.proofs.Common.{◌≡◌, ℕ, ◌+◌, zero, suc, ◌≤◌, List, [], ◌∷◌, length, Vec, Ok, Err, Result, IfOk, arith, refl, ap, subst, ◌∙◌}
use Rattle.std.specs.Prelude.{Option, Some, None, slice_get}
use Rattle.std.specs.declared.alloc.Global.{Global}
use Rattle.std.specs.declared.alloc.AllocError.{AllocError}
use Rattle.key_sweep.specs.KeyRows.{joined_rows}
use Rattle.key_sweep.specs.declared.block.Block.{Block}
use Rattle.key_sweep.specs.inner.Blocks.{AreSlots, IsBlock, front_rows}

front_at : (slots : List (Option (Vec ℕ Global))) (i : ℕ) (row : List ℕ) → slice_get (front_rows slots) i ≡ Some row
    → (v : Vec ℕ Global) × (slice_get slots i ≡ Some (Some v)) × (v.items ≡ row)
front_at [] i row at = absurd cc
front_at (None ∷ slots) i row at = absurd cc
front_at (Some v ∷ slots) zero row at = (v, refl, (let same : v.items ≡ row = cc in same))
front_at (Some v ∷ slots) (suc i) row at = front_at slots i row at

front_length : (slots : List (Option (Vec ℕ Global))) → length (front_rows slots) ≤ length slots
front_length [] = omega arith
front_length (None ∷ slots) = omega arith
front_length (Some v ∷ slots) = let rest = front_length slots in omega (arith, rest)

front_block : (is_row : ℕ → List ℕ → Type 0) (first count : ℕ) (slots : List (Option (Vec ℕ Global))) (block : Block)
    → block.text.items ≡ joined_rows (front_rows slots) → block.rows ≡ length (front_rows slots)
    → AreSlots is_row first count slots → IsBlock is_row first count block.text.items block.rows
front_block is_row first count slots block text rows are = record {
  rows = front_rows slots;
  each = λ i row at.
      let found = front_at slots i row at in subst (is_row (first + i)) found.2 (are.each i found.0 found.1);
  all = rows;
  few = (let few = front_length slots in
      let whole = are.all in omega (arith, few, whole, rows));
  whole = text;
}

-- where memory ran out there is none
pub block_given : (is_row : ℕ → List ℕ → Type 0) (first count : ℕ) (slots slice : List (Option (Vec ℕ Global)))
    (result : Result Block AllocError) → slice ≡ slots
    → IfOk result (λ block. block.text.items ≡ joined_rows (front_rows slice))
    → IfOk result (λ block. block.rows ≡ length (front_rows slice)) → AreSlots is_row first count slots
    → IfOk result (λ block. IsBlock is_row first count block.text.items block.rows)
block_given is_row first count slots slice (Ok block) same text rows are =
    front_block is_row first count slots block (text ∙ ap (λ s. joined_rows (front_rows s)) same)
    (rows ∙ ap (λ s. length (front_rows s)) same) are
block_given is_row first count slots slice (Err e) same text rows are = tt
