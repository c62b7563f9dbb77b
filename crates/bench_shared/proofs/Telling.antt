-- What the steps on the board's word tell.
use Rattle.std.proofs.Common.{◌≡◌, ◌+◌, ℕ, List, [], ◌∷◌, ◌++◌, length, Option, Some, None, refl, sym, ap, ◌∙◌, subst, arith}
use mathlib.Core.Option.{none}
use Rattle.atomic_table.specs.Table.{Me, step}
use Rattle.bench_core.specs.Told.{Row, IsPulseRow}
use Rattle.bench_shared.specs.Rows.{last_row, InOrder, StartsWith}
use Rattle.bench_shared.specs.inner.Rows.{row_word, row_word_at, word_of_last, pulse_of}
use Rattle.bench_shared.specs.inner.Boards.{engine, watcher, Posts, Looks}
use Rattle.bench_shared.specs.declared.rule.View.{View}
use Rattle.bench_shared.proofs.Rowing.{word_of-injective, in_order-push, in_order-last, in_order-none}

abbrev pub SeatMe : Type 0
SeatMe = Me (Unit {0}) View

pub looked : (old : SeatMe) (n : ℕ) (me : SeatMe) → old ≡ (watcher old.0.rows, []) → Looks (step 0 0 0 0 none) old n me
    → (me ≡ (watcher me.0.rows, [])) × (n ≡ row_word_at me.0.rows) × InOrder me.0.rows × StartsWith me.0.rows old.0.rows
looked old n me is l =
    let r : me.0.rows ≡ l.0 = ap (λ (m : SeatMe). m.0.rows) l.1 in (
      l.1 ∙ (λ i. (watcher (sym r i), ap (λ (m : SeatMe). m.1) is i)),
      l.2 ∙ ap row_word_at (sym r),
      subst (λ rows. InOrder rows) (sym r) l.3,
      subst (λ rows. StartsWith rows old.0.rows) (sym r) l.4,
    )

pub found : (rows : List Row) (n : ℕ) (o : Option Row) → n ≡ row_word_at rows → InOrder rows → (n ≡ 0 → o ≡ None)
    → ((r : Row) → IsPulseRow r → n ≡ row_word r → o ≡ Some r) → o ≡ last_row rows
found rows n o is order none_is some_is = by_last (last_row rows) refl
  where
    by_last : (l : Option Row) → last_row rows ≡ l → o ≡ last_row rows
    by_last None e = none_is (is ∙ ap word_of_last e) ∙ sym e
    by_last (Some r) e = some_is r (in_order-last 0 rows r order e).0 (is ∙ ap word_of_last e) ∙ sym e

pub last_pulse : (rows : List Row) → InOrder rows → pulse_of (last_row rows) ≡ length rows
last_pulse rows order = by_last (last_row rows) refl
  where
    by_last : (l : Option Row) → last_row rows ≡ l → pulse_of (last_row rows) ≡ length rows
    by_last None e = ap pulse_of e ∙ sym (in_order-none 0 rows e)
    by_last (Some r) e = ap pulse_of e ∙ omega (arith, (in_order-last 0 rows r order e).1)

pub posted : (old : SeatMe) (n : ℕ) (me : SeatMe) (r : Row) → old ≡ (engine old.0.rows, []) → InOrder old.0.rows
    → IsPulseRow r → n ≡ row_word r → r.pulse ≡ length old.0.rows + 1 → Posts (step 0 0 0 0 none) old n me
    → (me ≡ (engine me.0.rows, [])) × (me.0.rows ≡ old.0.rows ++ r ∷ []) × InOrder me.0.rows
posted old n me r is order ranges word next p =
    let same : p.0 ≡ r = word_of-injective p.0 r p.1 ranges (p.2 ∙ word) in
    let rows : me.0.rows ≡ old.0.rows ++ r ∷ [] = ap (λ (m : SeatMe). m.0.rows) p.3
    ∙ ap (λ x. old.0.rows ++ x ∷ []) same in (
      p.3 ∙ (λ i. (engine (ap (λ (m : SeatMe). m.0.rows) (sym p.3) i), ap (λ (m : SeatMe). m.1) is i)),
      rows,
      subst (λ l. InOrder l) (sym rows) (in_order-push 0 old.0.rows r order ranges (omega (arith, next))),
    )
