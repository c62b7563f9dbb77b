-- How the counts of a history grow.
use Rattle.std.proofs.Common.{◌≡◌, ◌+◌, ℕ, List, [], ◌∷◌, ◌++◌, length, refl, ap, arith, length-append, map, count_by, cond, Bool}
use Rattle.std.specs.List.{fold}
use Rattle.bench_core.specs.declared.entry.Entry.{Entry as CodeEntry}
use Rattle.bench_core.specs.Views.{entry_of}
use Rattle.bench_core.specs.Replay.{Entry, Staged, Opened, Closed, Abandoned, rows_of, BenchValue, Advances}

pub rows_of-push : (h : List Entry) (e : Entry) → rows_of (h ++ e ∷ []) ≡ rows_of h ++ rows_of (e ∷ [])
rows_of-push [] e = refl
rows_of-push (Staged actor change ∷ es) e = rows_of-push es e
rows_of-push (Opened coins ∷ es) e = rows_of-push es e
rows_of-push (Closed row ∷ es) e = ap (λ l. row ∷ l) (rows_of-push es e)
rows_of-push (Abandoned ∷ es) e = rows_of-push es e

-- the number of entries, after one more
pub one_more : (old new : BenchValue) (e : Entry) (n m : ℕ) → Advances old e new → n ≡ length old.history → m ≡ n + 1
    → m ≡ length new.history
one_more old new e n m step was more = omega (arith, ap length step.history, length-append old.history (e ∷ []))

-- the number of closes, after one more entry
pub closes_after : (old new : BenchValue) (e : Entry) (n m : ℕ) → Advances old e new → n ≡ length (rows_of old.history)
    → m ≡ n + length (rows_of (e ∷ [])) → m ≡ length (rows_of new.history)
closes_after old new e n m step was more =
    omega (
      arith,
      ap (λ h. length (rows_of h)) step.history,
      ap length (rows_of-push old.history e),
      length-append
          (rows_of old.history) (rows_of (e ∷ [])),
    )

-- entries are counted alike in the code and as plain data
pub count_entries : (p : Entry → Bool) (es : List CodeEntry)
    → count_by (λ e. p (entry_of e)) es ≡ count_by p (map entry_of es)
count_entries p es = from 0 es
  where
    from : (n : ℕ) (es : List CodeEntry) → fold (λ a e. a + cond (p (entry_of e)) 1 0) n es ≡ fold
        (λ a e. a + cond (p e) 1 0) n (map entry_of es)
    from n [] = refl
    from n (e ∷ es) = from (n + cond (p (entry_of e)) 1 0) es
