-- Each step keeps the board's rule.
use Rattle.std.proofs.Common.{◌≡◌, ◌≢◌, ◌+◌, ℕ, zero, suc, List, [], ◌∷◌, ◌++◌, length, set, true, false, true≢false, refl, sym, ap, ◌∙◌, subst, ⊎_elim, arith}
use Rattle.std.specs.Prelude.{slice_index}
use mathlib.Core.Option.{some, none, some-ne-none, some-injective}
use lib.ListN.{get_elem?}
use Rattle.atomic_table.specs.Table.{Me, keeps, step, opening, Allows, Splits, Joins}
use Rattle.atomic_table.proofs.Lists.{at_set, at_snoc, set_again}
use Rattle.bench_core.specs.Told.{Row, IsPulseRow}
use Rattle.bench_shared.specs.Rows.{InOrder, StartsWith}
use Rattle.bench_shared.specs.inner.Rows.{row_word, row_word_at, word_of_last}
use Rattle.bench_shared.specs.inner.Boards.{engine, watcher, hearing, FitsSeat, Kept, Posts, Looks, Compares}
use Rattle.bench_shared.specs.declared.rule.View.{View}
use Rattle.bench_shared.proofs.Rowing.{starts-refl, starts-same, starts-more, starts-none, last_row-push, in_order-push}

abbrev AllFit : ℕ → List Row → List View → Type 0
AllFit seat posted views = (by : ℕ) (v : View) → get_elem? views by ≡ some v → FitsSeat seat posted by v

off : false ≡ true → ⊥
off e = true≢false (sym e)

-- one view changes
fits_set : (seat : ℕ) (posted : List Row) (views : List View) (by : ℕ) (w : View)
    → ((j : ℕ) (u : View) → j ≢ by → get_elem? views j ≡ some u → FitsSeat seat posted j u) → FitsSeat seat posted by w
    → AllFit seat posted (set views by w)
fits_set seat posted views by w others mine j u e =
    ⊎_elim
    (λ (x : (j ≡ by) × (w ≡ u)). subst (λ (y : ℕ × View). FitsSeat seat posted y.0 y.1) (λ i. (sym x.0 i, x.1 i)) mine)
    (λ (x : (j ≢ by) × (get_elem? views j ≡ some u)). others j u x.0 x.1)
    (at_set views by j w u e)

watcher_fits : (seat : ℕ) (posted rows : List Row) (by : ℕ) → StartsWith posted rows
    → FitsSeat seat posted by (watcher rows)
watcher_fits seat posted rows by h = record { whole = λ e. absurd (off e); seen = h; heard = starts-none posted }

-- the word stays
same_word : (ws : List ℕ) (x : ℕ) → ws ≡ x ∷ [] → set ws 0 (slice_index ws 0) ≡ x ∷ []
same_word ws x e = ap (λ l. set l 0 (slice_index l 0)) e

pub begins : Kept (opening (0 ∷ []) [] (engine []))
begins = ([], 0, refl, tt, one)
  where
    first : FitsSeat 0 [] 0 (engine [])
    first = record { whole = λ _. (refl, refl); seen = starts-none []; heard = starts-none [] }

    one : (by : ℕ) (v : View) → get_elem? (engine [] ∷ []) by ≡ some v → FitsSeat 0 [] by v
    one zero v e = subst (λ (u : View). FitsSeat 0 [] 0 u) (some-injective _ _ e) first
    one (suc by) v e = absurd (some-ne-none v (sym e))

pub looks : (slots id : ℕ) (me : Me (Unit {0}) View)
    → Allows Kept slots id me 0 (λ n. n) (Looks (step slots 0 0 0 none) me)
looks slots id me s h size at below =
    let posted = h.0 in
    let mine = h.4 id me.0 at in (
      watcher posted,
      keeps,
      tt,
      (
        posted,
        h.1,
        same_word s.words (row_word_at posted) h.2,
        h.3,
        fits_set h.1 posted s.views id (watcher posted)
            (λ j u _ e. h.4 j u e) (watcher_fits h.1 posted posted id (starts-refl posted)),
      ),
      (posted, refl, ap (λ ws. slice_index ws 0) h.2, h.3, mine.seen),
    )

pub compares : (slots id : ℕ) (me : Me (Unit {0}) View) → me.0.posts ≡ true
    → Allows Kept slots id me 0 (λ n. n) (Compares (step slots 0 0 0 none) me)
compares slots id me is_engine s h size at below =
    let posted = h.0 in
    let mine = h.4 id me.0 at in
    let known = mine.whole is_engine in
    let w = engine me.0.rows in (
      w,
      keeps,
      tt,
      (
        posted,
        h.1,
        same_word s.words (row_word_at posted) h.2,
        h.3,
        fits_set h.1 posted s.views id w
            (λ j u _ e. h.4 j u e) record { whole = λ _. known; seen = mine.seen; heard = starts-none posted },
      ),
      (refl, subst (λ l. StartsWith l me.0.heard) (sym known.1) mine.heard, subst (λ l. InOrder l) (sym known.1) h.3),
    )

pub posts : (slots id : ℕ) (me : Me (Unit {0}) View) (r : Row) (new : ℕ) → me.0.posts ≡ true → IsPulseRow r
    → r.pulse ≡ length me.0.rows + 1 → new ≡ row_word r
    → Allows Kept slots id me 0 (λ _. new) (λ _. Posts (step slots 0 new 0 none) me new)
posts slots id me r new is_engine is next word s h size at below =
    let posted = h.0 in
    let mine = h.4 id me.0 at in
    let known = mine.whole is_engine in
    let rows = me.0.rows in
    let w = engine (rows ++ r ∷ []) in
    let longer = posted ++ r ∷ [] in
    let same : rows ++ r ∷ [] ≡ longer = ap (λ l. l ++ r ∷ []) known.1 in
    let count : length rows ≡ length posted = ap length known.1 in (
      w,
      keeps,
      tt,
      (
        longer,
        h.1,
        ap (λ ws. set ws 0 new) h.2 ∙ ap (λ n. n ∷ []) (word ∙ sym (ap word_of_last (last_row-push posted r))),
        in_order-push 0 posted r h.3 is (omega arith),
        fits_set h.1 longer s.views id w
            (λ j u apart e. let theirs = h.4 j u e in
            record {
              whole = λ k. absurd (apart ((theirs.whole k).0 ∙ sym known.0));
              seen = starts-more posted u.rows (r ∷ []) theirs.seen;
              heard = starts-more posted u.heard (r ∷ []) theirs.heard;
            })
            record {
              whole = λ _. (known.0, same);
              seen = starts-same longer (rows ++ r ∷ []) same;
              heard = starts-none longer;
            },
      ),
      (r, is, sym word, refl),
    )

-- a new seat that knows a beginning of what another knows
pub splits : (id : ℕ) (v : View) (rows : List Row)
    → ((posted : List Row) → StartsWith posted v.rows → StartsWith posted rows) → Splits Kept id v v (watcher rows)
splits id v rows less s h at = (
  h.0,
  h.1,
  h.2,
  h.3,
  λ j u e. ⊎_elim
      (λ was. h.4 j u (subst (λ l. get_elem? l j ≡ some u) (set_again s.views id v at) was))
      (λ (same : watcher rows ≡ u). subst (λ (x : View). FitsSeat h.1 h.0 j x) same
      (watcher_fits h.1 h.0 rows j (less h.0 (h.4 id v at).seen)))
      (at_snoc (set s.views id v) (watcher rows) u j e),
)

pub joins : (id : ℕ) (v : View) (other : ℕ) (w : View) → Joins Kept id v other w (hearing v w) (watcher [])
joins id v other w s h at apart there =
    let both = hearing v w in
    let mine = h.4 id v at in
    let theirs = ⊎_elim (λ (t : (other ≡ id) × (both ≡ w)). absurd (apart t.0))
    (λ (t : (other ≢ id) × (get_elem? s.views other ≡ some w)). h.4 other w t.1)
    (at_set s.views id other both w there) in
    let joined = fits_set h.1 h.0 s.views id both (λ j u _ e. h.4 j u e)
    record { whole = mine.whole; seen = mine.seen; heard = theirs.seen } in (
      h.0,
      h.1,
      h.2,
      h.3,
      fits_set h.1 h.0 (set s.views id both) other (watcher []) (λ j u _ e. joined j u e)
          (watcher_fits h.1 h.0 [] other (starts-none h.0)),
    )
