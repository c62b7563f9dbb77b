-- One receipt more.
use Rattle.std.proofs.Common.{◌≡◌, ◌+◌, ℕ, List, [], ◌∷◌, ◌++◌, length, map, true, false, true≢false, refl, sym, ap, ◌∙◌, arith, length-append, append-nil}
use Rattle.std.specs.Prelude.{◌-◌, ◌<◌, Some, option_map, get_or, slice_get}
use Rattle.std.proofs.lemmas.List.{map-append, length-map}
use Rattle.std.proofs.lemmas.Option.{slice_get-map, slice_get-get_or}
use Rattle.bench_core.specs.Told.{Row}
use Rattle.bench_core.specs.Replay.{Entry, Opened, rows_of}
use Rattle.bench_core.specs.Views.{entry_of}
use Rattle.bench_shared.specs.Passes.{Placed, OneMore, entry_in, rows_in}
use Rattle.bench_shared.specs.Receipts.{placed_of, placed_receipts}
use Rattle.bench_shared.specs.Told.{OpenedLast}
use Rattle.bench_shared.specs.declared.passes.Receipt.{Receipt}
use Rattle.bench_shared.proofs.Counting.{rows_of-push}

-- the rows of the closes among these receipts
abbrev pub rows_among : List Receipt → List Row
rows_among rs = rows_in (placed_receipts rs)

entries-push : (rs : List Receipt) (r : Receipt)
    → map entry_in (placed_receipts (rs ++ r ∷ [])) ≡ map entry_in (placed_receipts rs) ++ entry_of r.entry ∷ []
entries-push [] r = refl
entries-push (x ∷ xs) r = ap (λ l. entry_of x.entry ∷ l) (entries-push xs r)

pub rows_after : (rs : List Receipt) (r : Receipt) (now : List Receipt) → now ≡ rs ++ r ∷ []
    → rows_among now ≡ rows_among rs ++ rows_of (entry_of r.entry ∷ [])
rows_after rs r now is = ap rows_among is ∙ ap rows_of (entries-push rs r)
    ∙ rows_of-push (map entry_in (placed_receipts rs)) (entry_of r.entry)

-- the rows stay, where the entry is no close
pub rows_stay : (rs : List Receipt) (r : Receipt) (now : List Receipt) → now ≡ rs ++ r ∷ []
    → rows_of (entry_of r.entry ∷ []) ≡ [] → rows_among now ≡ rows_among rs
rows_stay rs r now is none = rows_after rs r now is ∙ ap (λ l. rows_among rs ++ l) none ∙ append-nil (rows_among rs)

pub count_after : (rs : List Receipt) (r : Receipt) (now : List Receipt) (n m : ℕ) → now ≡ rs ++ r ∷ [] → n ≡ length rs
    → m ≡ n + 1 → m ≡ length now
count_after rs r now n m is was more = omega (arith, ap length is, length-append rs (r ∷ []))

-- the receipts as plain data, with one more
pub placed_after : (rs : List Receipt) (r : Receipt) (now : List Receipt) (was : List Placed) (e : Entry)
    → now ≡ rs ++ r ∷ [] → placed_receipts rs ≡ was
    → entry_of r.entry ≡ e → OneMore was e (placed_receipts now)
placed_after rs r now was e is before entry = (
  r.place,
  ap placed_receipts is ∙ map-append placed_of rs (r ∷ []) ∙ ap (λ l. l ++ placed_of r ∷ []) before
      ∙ ap (λ x. was ++ (r.place, x) ∷ []) entry,
)

pub not_open : {P : Type 0} → false ≡ true → P
not_open e = absurd (true≢false (sym e))

-- a list that was given room, and then a receipt
pub grown : (rs mid now : List Receipt) (r : Receipt) → now ≡ mid ++ r ∷ [] → mid ≡ rs → now ≡ rs ++ r ∷ []
grown rs mid now r is room = is ∙ ap (λ l. l ++ r ∷ []) room

-- the last receipt, as plain data
pub opened_last : (rs : List Receipt) (r : Receipt) (coins : List ℕ) → 0 < length rs
    → r ≡ get_or rs (length rs - 1) r → entry_of r.entry ≡ Opened coins → OpenedLast (placed_receipts rs) coins
opened_last rs r coins several at is = (
  r.place,
  ap (λ n. slice_get (placed_receipts rs) (n - 1)) (length-map rs placed_of) ∙ slice_get-map placed_of rs (length rs - 1)
      ∙ ap (option_map placed_of) (slice_get-get_or rs (length rs - 1) r (omega (arith, several)) ∙ ap Some (sym at))
      ∙ ap (λ (e : Entry). Some (r.place, e)) is,
)
