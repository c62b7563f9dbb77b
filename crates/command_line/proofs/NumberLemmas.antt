-- Numbers that are added to a set, one after another.
use Rattle.std.proofs.Common.{◌≡◌, ◌⊎◌, ◌↔◌, ◌+◌, ◌<◌, ◌≤◌, ℕ, List, [], ◌∷◌, ◌++◌, map, length}
use Rattle.std.proofs.Common.{Any, Contains, arith, get_or, inl, inr, suc, zero, ⊎_elim, refl, sym, ap, subst, ◌∙◌}
use Rattle.std.specs.BTreeSet.{insert_key}
use Rattle.std.specs.List.{AllZip}
use Rattle.std.specs.Ordering.{MatchOrdering, match_ordering, nat_cmp}
use Rattle.std.specs.declared.cmp.Ordering.{Ordering}
use Rattle.std.specs.declared.cmp.Ordering.TheVariants.{Less, Equal, Greater}
use Rattle.std.proofs.lemmas.Bool.{cases_eq}
use Rattle.std.proofs.lemmas.Cmp.{ranked}
use Rattle.std.proofs.lemmas.List.Elements.{All-push, All-nil}
use Rattle.command_line.proofs.Among.{Among, any-among, among-any, contains-among, among-contains, among-push, push-among}
use Rattle.command_line.specs.Lists.{AreLongest, IsNumberList, IsPart, IsInSpan, Names}
use Rattle.command_line.specs.inner.Spans.{AddsPart, AddsUpTo, AreNumbersOf}

-- a list has the number
abbrev Has : List ℕ → ℕ → Type 0
Has numbers n = Among (λ x. x ≡ n) numbers

-- ---- one number

old_or_new : (o : Ordering) (k x : ℕ) (xs rest : List ℕ) (n : ℕ) → (Has rest n → Has xs n ⊎ (k ≡ n))
    → Has (match_ordering o (k ∷ x ∷ xs) (x ∷ xs) (x ∷ rest)) n → Has (x ∷ xs) n ⊎ (k ≡ n)
old_or_new Less k x xs rest n later = λ h. ⊎_elim (λ e. inr e) (λ old. inl old) h
old_or_new Equal k x xs rest n later = λ h. inl h
old_or_new Greater k x xs rest n later = λ h. ⊎_elim (λ e. inl (inl e))
    (λ more. ⊎_elim (λ old. inl (inr old)) (λ e. inr e) (later more)) h

both_in : (o : Ordering) (k x : ℕ) (xs rest : List ℕ) (n : ℕ) → MatchOrdering o (k < x) (k ≡ x) (x < k)
    → (Has xs n ⊎ (k ≡ n) → Has rest n)
    → Has (x ∷ xs) n ⊎ (k ≡ n) → Has (match_ordering o (k ∷ x ∷ xs) (x ∷ xs) (x ∷ rest)) n
both_in Less k x xs rest n order later = λ h. ⊎_elim (λ old. inr old) (λ e. inl e) h
both_in Equal k x xs rest n same later = λ h. ⊎_elim (λ old. old) (λ e. inl (sym same ∙ e)) h
both_in Greater k x xs rest n order later = λ h. ⊎_elim
    (λ old. ⊎_elim (λ e. inl e) (λ more. inr (later (inl more))) old)
    (λ e. inr (later (inr e))) h

inserted_has : (xs : List ℕ) (k n : ℕ) → Has (insert_key nat_cmp xs k) n → Has xs n ⊎ (k ≡ n)
inserted_has [] k n = λ h. ⊎_elim (λ e. inr e) (λ none. elim none [ ]) h
inserted_has (x ∷ xs) k n =
    old_or_new (nat_cmp k x) k x xs (insert_key nat_cmp xs k) n (inserted_has xs k n)

has_inserted : (xs : List ℕ) (k n : ℕ) → Has xs n ⊎ (k ≡ n) → Has (insert_key nat_cmp xs k) n
has_inserted [] k n = λ h. ⊎_elim (λ none. elim none [ ]) (λ e. inl e) h
has_inserted (x ∷ xs) k n =
    both_in (nat_cmp k x) k x xs (insert_key nat_cmp xs k) n (ranked k x (nat_cmp k x) refl) (has_inserted xs k n)

pub one_more : (old mid new : List ℕ) (first k : ℕ) → first ≤ k → AddsUpTo old mid first k
    → new ≡ insert_key nat_cmp mid k → AddsUpTo old new first (k + 1)
one_more old mid new first k above adds made = λ n. (
  (λ h. ⊎_elim
      (λ before. ⊎_elim (λ o. inl o) (λ w. inr (w.0, omega arith))
      ((adds n).0 (contains-among mid n before)))
      (λ e. inr (omega arith, omega arith))
      (inserted_has mid k n (among-contains (insert_key nat_cmp mid k) n (subst (λ xs. Contains xs n) made h)))),
  (λ h. subst (λ xs. Contains xs n) (sym made) (contains-among (insert_key nat_cmp mid k) n (has_inserted mid k n
      (⊎_elim
      (λ o. inl (among-contains mid n ((adds n).1 (inl o))))
      (λ w. ⊎_elim (λ e. inr e)
      (λ other. inl (among-contains mid n ((adds n).1 (inr (w.0, omega arith)))))
      (cases_eq k n)) h)))),
)

-- ---- the numbers of parts

pub map_push : {X Y : Type 0} (f : X → Y) (xs : List X) (x : X) → map f (xs ++ x ∷ []) ≡ map f xs ++ f x ∷ []
map_push f [] x = refl
map_push f (y ∷ xs) x = ap (λ rest. f y ∷ rest) (map_push f xs x)

pub no_parts : (limit : ℕ) (numbers : List ℕ) → length numbers ≡ 0 → AreNumbersOf limit [] numbers
no_parts limit numbers none = record {
  written = All-nil (IsPart limit);
  named = λ n. ((λ h. absurd (omega arith)), (λ h. absurd (omega arith)));
}

pub one_part : (limit : ℕ) (parts : List (List ℕ)) (part : List ℕ) (old new : List ℕ)
    → AreNumbersOf limit parts old → IsPart limit part → AddsPart old new part
    → AreNumbersOf limit (parts ++ part ∷ []) new
one_part limit parts part old new before fits adds = record {
  written = All-push (IsPart limit) parts part before.written fits;
  named = λ n.
      let names = λ (p : List ℕ). Names p n in (
        (λ h. any-among names (parts ++ part ∷ []) (push-among names parts part (⊎_elim
            (λ o. inl (among-any names parts ((before.named n).0 o))) (λ w. inr w) ((adds n).0 h)))),
        (λ h. (adds n).1 (⊎_elim
            (λ o. inl ((before.named n).1 (any-among names parts o))) (λ w. inr w)
            (among-push names parts part (among-any names (parts ++ part ∷ []) h)))),
      );
}

pub list_of : (limit : ℕ) (parts : List (List ℕ)) (numbers : List ℕ) (spans : List (ℕ × ℕ))
    → AreNumbersOf limit parts numbers → ((n : ℕ) → Any (IsInSpan n) spans ↔ Contains numbers n)
    → AreLongest spans → IsNumberList limit parts spans
list_of limit parts numbers spans named within longest = record {
  written = named.written;
  numbers = λ n. ((λ h. (named.named n).0 ((within n).0 h)), (λ h. (within n).1 ((named.named n).1 h)));
  longest = longest;
}

-- ---- one entry for each part

pub zip_push : {X Y : Type 0} (R : X → Y → Type 0) (xs : List X) (ys : List Y) (x : X) (y : Y)
    → AllZip R xs ys → R x y → AllZip R (xs ++ x ∷ []) (ys ++ y ∷ [])
zip_push R [] [] x y h r = (r, tt)
zip_push R [] (z ∷ ys) x y h r = elim h [ ]
zip_push R (w ∷ xs) [] x y h r = elim h [ ]
zip_push R (w ∷ xs) (z ∷ ys) x y h r = (h.0, zip_push R xs ys x y h.1 r)

pub zip_length : {X Y : Type 0} (R : X → Y → Type 0) (xs : List X) (ys : List Y) → AllZip R xs ys → length xs ≡ length ys
zip_length R [] [] h = refl
zip_length R [] (y ∷ ys) h = elim h [ ]
zip_length R (x ∷ xs) [] h = elim h [ ]
zip_length R (x ∷ xs) (y ∷ ys) h = ap suc (zip_length R xs ys h.1)

-- nothing goes with an item with which no entry goes
pub zip_none : {X Y : Type 0} (R : X → Y → Type 0) (xs : List X) (i : ℕ) (x : X) → i < length xs
    → x ≡ get_or xs i x → ((y : Y) → R x y → ⊥) → (ys : List Y) → AllZip R xs ys → ⊥
zip_none R [] i x inside is none ys h = absurd (omega arith)
zip_none R (z ∷ xs) i x inside is none [] h = h
zip_none R (z ∷ xs) zero x inside is none (y ∷ ys) h = none y (subst (λ w. R w y) (sym is) h.0)
zip_none R (z ∷ xs) (suc i) x inside is none (y ∷ ys) h = zip_none R xs i x (omega arith) is none ys h.1
