-- What is in step, one pulse before the other.
use Rattle.std.proofs.Common.{◌≡◌, ℕ, zero, suc, ◌+◌, ◌-◌, ◌<◌, ◌≤◌, List, [], ◌∷◌, drop, take, length, refl, sym, subst, ◌∙◌, ◌⊎◌, inl, inr, arith, Bool, true, false, IsTrue}
use Rattle.std.specs.Prelude.{◌↔◌, Option, Some, None, is_some, slice_get, unwrap_or}
use Rattle.std.proofs.lemmas.Bool.{cases_lt}
use Rattle.std.proofs.lemmas.List.{drop_all, drop-drop, length-drop, take_all}
use Rattle.bench_core.specs.Told.{PulseTold}
use Rattle.bench_scenario.specs.Verdicts.{first_clock, are_one, counting}
use Rattle.bench_scenario.specs.InStep.{HaveOne, EachWentOn, AreInStep, IsInStepSince}
use Rattle.bench_scenario.specs.inner.InStep.{BeginsInStep, StaysFrom, StaysSince}
use Rattle.bench_scenario.proofs.VerdictLaws.{Tells, first_there, none_there, one_of, tells}

-- ---- one clock

pub have_one : (m : ℕ) (r : PulseTold) (f : Option ℕ) → first_clock r.clocks ≡ f → is_some f ≡ true
    → are_one m r.clocks f ≡ true → (c : ℕ) × HaveOne m r c
have_one m r None e some one = absurd cc
have_one m r (Some c) e some one =
    let there = first_there r.clocks c e in
    let all = (one_of m r.clocks (Some c) e).0 one in (
      c,
      record {
        some = there;
        each = λ i d has. (all i there.0 d c has there.1).0;
        below = (all there.0 there.0 c c there.1 there.1).1;
      },
    )

first_of : (m : ℕ) (r : PulseTold) (c : ℕ) → HaveOne m r c → (f : Option ℕ) → first_clock r.clocks ≡ f
    → is_some f ≡ true
first_of m r c have None e = absurd (none_there r.clocks e have.some.0 c have.some.1)
first_of m r c have (Some f) e = refl

one_of_record : (m : ℕ) (r : PulseTold) (c : ℕ) → HaveOne m r c → are_one m r.clocks (first_clock r.clocks) ≡ true
one_of_record m r c have =
    (one_of m r.clocks (first_clock r.clocks) refl).1
    (λ i j d e has other. (
      have.each i d has ∙ sym (have.each j e other),
      subst (λ (k : ℕ). k < m) (sym (have.each i d has)) have.below,
    ))

-- what is answered of a pulse whose nodes have a first clock, and of one whose nodes have none
pub one_told : (m : ℕ) (r : PulseTold) (clocks : List (Option ℕ)) (first : Option ℕ) (there answer : Bool)
    → clocks ≡ r.clocks
    → first ≡ first_clock clocks → there ≡ is_some first → there ≡ true → answer ≡ are_one m clocks (first_clock clocks)
    → IsTrue answer ↔ ((c : ℕ) × HaveOne m r c)
one_told m r clocks first there answer same is some is_some_first one = (
  λ told. have_one m r (first_clock r.clocks) refl (let e : is_some (first_clock r.clocks) ≡ true = cc in e)
      (let e : are_one m r.clocks (first_clock r.clocks) ≡ true = cc in e),
  λ have. let e = one_of_record m r have.0 have.1 in let told : answer ≡ true = cc in told,
)

pub none_told : (m : ℕ) (r : PulseTold) (clocks : List (Option ℕ)) (first : Option ℕ) (there : Bool) → clocks ≡ r.clocks
    → first ≡ first_clock clocks → there ≡ is_some first → there ≡ false → IsTrue there ↔ ((c : ℕ) × HaveOne m r c)
none_told m r clocks first there same is some is_none_first = (
  λ told. absurd cc,
  λ have. let e = first_of m r have.0 have.1 (first_clock r.clocks) refl in let told : there ≡ true = cc in told,
)

-- ---- from one pulse to the next

went_by : (m : ℕ) (before after : PulseTold) (c : ℕ) (v : Option Bool) → HaveOne m before c
    → Tells m before.clocks after.clocks v → IsTrue (unwrap_or v true) ↔ EachWentOn m before after
went_by m before after c None have told = (λ is i b a has other. absurd (told i b a has other), λ each. refl)
went_by m before after c (Some v) have told = (
  λ is i b a has other. (told.0.0 is i b a has other).1,
  λ each. told.0.1
      (λ i b a has other. (subst (λ (k : ℕ). k < m) (sym (have.each i b has)) have.below, each i b a has other)),
)

-- what is answered of two pulses, of the first of which all nodes have one clock
pub went_told : (m : ℕ) (before after : PulseTold) (c : ℕ) (ones others : List (Option ℕ)) (v : Option Bool)
    (answer : Bool)
    → HaveOne m before c → ones ≡ before.clocks → others ≡ after.clocks → v ≡ counting m ones others
    → answer ≡ unwrap_or v true → IsTrue answer ↔ EachWentOn m before after
went_told m before after c ones others v answer have one other is told =
    let same : v ≡ counting m before.clocks after.clocks = cc in
    let ways = went_by m before after c (counting m before.clocks after.clocks) have
    (tells m before.clocks after.clocks) in
    subst (λ (b : Bool). IsTrue b ↔ EachWentOn m before after)
    (let back : unwrap_or (counting m before.clocks after.clocks) true ≡ answer = cc in back) ways

-- ---- one record more

first_one : (m : ℕ) (r : PulseTold) (rs : List PulseTold) → ((c : ℕ) × HaveOne m r c)
    → ((k : ℕ) (x : PulseTold) → slice_get rs k ≡ Some x → (c : ℕ) × HaveOne m x c)
    → (k : ℕ) (x : PulseTold) → slice_get (r ∷ rs) k ≡ Some x → (c : ℕ) × HaveOne m x c
first_one m r rs first rest zero x e =
    let same : r ≡ x = cc in subst (λ (y : PulseTold). (c : ℕ) × HaveOne m y c) same first
first_one m r rs first rest (suc k) x e = rest k x e

first_on : (m : ℕ) (r next : PulseTold) (rs : List PulseTold) → EachWentOn m r next
    → ((k : ℕ) (b a : PulseTold) → slice_get (next ∷ rs) k ≡ Some b → slice_get (next ∷ rs) (suc k) ≡ Some a
    → EachWentOn m b a) → (k : ℕ) (b a : PulseTold) → slice_get (r ∷ next ∷ rs) k ≡ Some b
    → slice_get (r ∷ next ∷ rs) (suc k) ≡ Some a → EachWentOn m b a
first_on m r next rs first rest zero b a e f =
    let same : r ≡ b = cc in
    let other : next ≡ a = cc in
    subst (λ (y : PulseTold). EachWentOn m y a) same (subst (λ (y : PulseTold). EachWentOn m r y) other first)
first_on m r next rs first rest (suc k) b a e f = rest k b a e f

none_after : (r : PulseTold) (k : ℕ) (a : PulseTold) → slice_get (r ∷ []) (suc k) ≡ Some a → ⊥
none_after r k a e = cc

in_step_more : (m : ℕ) (rs : List PulseTold) → BeginsInStep m rs → (length rs ≡ 1) ⊎ StaysFrom m (drop 1 rs) → StaysFrom m rs
in_step_more m [] begins after = absurd begins
in_step_more m (r ∷ []) begins after = record {
  some = omega arith;
  one = first_one m r [] begins (λ k x e. absurd cc);
  on = λ k b a e f. absurd (none_after r k a f);
}
in_step_more m (r ∷ next ∷ rs) begins (inl alone) = absurd (omega (arith, alone))
in_step_more m (r ∷ next ∷ rs) begins (inr after) = record {
  some = omega arith;
  one = first_one m r (next ∷ rs) begins.0 after.one;
  on = first_on m r next rs begins.1 after.on;
}

begins_in_step : (m : ℕ) (rs : List PulseTold) → StaysFrom m rs → BeginsInStep m rs
begins_in_step m [] is = let none : 0 < 0 = is.some in absurd (omega arith)
begins_in_step m (r ∷ []) is = is.one 0 r refl
begins_in_step m (r ∷ next ∷ rs) is = (is.one 0 r refl, is.on 0 r next refl refl)

in_step_after : (m : ℕ) (r next : PulseTold) (rs : List PulseTold) → StaysFrom m (r ∷ next ∷ rs)
    → StaysFrom m (next ∷ rs)
in_step_after m r next rs is = record {
  some = omega arith;
  one = λ k x e. is.one (suc k) x e;
  on = λ k b a e f. is.on (suc k) b a e f;
}

in_step_later : (m : ℕ) (rs : List PulseTold) (n : ℕ) → StaysFrom m rs → n < length rs → StaysFrom m (drop n rs)
in_step_later m rs zero is within = is
in_step_later m [] (suc n) is within = absurd (omega arith)
in_step_later m (r ∷ []) (suc n) is within = absurd (omega arith)
in_step_later m (r ∷ next ∷ rs) (suc n) is within =
    in_step_later m (next ∷ rs) n (in_step_after m r next rs is) (omega arith)

still_in_step : (m : ℕ) (rs : List PulseTold) (j k : ℕ) → j ≤ k → k < length rs → StaysFrom m (drop j rs)
    → StaysFrom m (drop k rs)
still_in_step m rs zero k le within is = in_step_later m rs k is within
still_in_step m [] (suc j) k le within is = absurd (omega arith)
still_in_step m (r ∷ rs) (suc j) zero le within is = absurd (omega arith)
still_in_step m (r ∷ rs) (suc j) (suc k) le within is = still_in_step m rs j k (omega arith) (omega arith) is

-- ---- the search from the last record back

-- so many records are still to be looked at, and those after them are in step from this pulse on
abbrev pub Kept : ℕ → List PulseTold → ℕ → Option ℕ → Type 0
Kept m rs k None = k ≡ length rs
Kept m rs k (Some pulse) = (k < length rs) × (pulse ≡ k + 1) × StaysFrom m (drop k rs)

drop_suc : {X : Type 0} (k : ℕ) (xs : List X) → drop 1 (drop k xs) ≡ drop (k + 1) xs
drop_suc k xs = drop-drop 1 k xs

length_last : {X : Type 0} (k : ℕ) (xs : List X) → k + 1 ≡ length xs → length (drop k xs) ≡ 1
length_last zero xs e = sym e
length_last (suc k) [] e = absurd (omega (arith, e))
length_last (suc k) (x ∷ xs) e = length_last k xs (omega (arith, e))

one_before : (m : ℕ) (rs : List PulseTold) (k : ℕ) (since : Option ℕ) → BeginsInStep m (drop k rs) → Kept m rs (k + 1) since
    → (length (drop k rs) ≡ 1) ⊎ StaysFrom m (drop 1 (drop k rs))
one_before m rs k None begins kept = inl (length_last k rs kept)
one_before m rs k (Some pulse) begins kept =
    inr (subst (λ (xs : List PulseTold). StaysFrom m xs) (sym (drop_suc k rs)) kept.2)

pub kept_before : (m : ℕ) (rs rest : List PulseTold) (n k : ℕ) (since : Option ℕ) → n ≡ k + 1 → k < length rs
    → rest ≡ drop k rs → BeginsInStep m rest → Kept m rs n since → Kept m rs k (Some (k + 1))
kept_before m rs rest n k since next within is begins kept =
    let first : BeginsInStep m (drop k rs) = subst (λ (xs : List PulseTold). BeginsInStep m xs) is begins in
    let after : Kept m rs (k + 1) since = subst (λ (i : ℕ). Kept m rs i since) next kept in
    (within, refl, in_step_more m (drop k rs) first (one_before m rs k since first after))

past_all : (m : ℕ) (rs : List PulseTold) (k : ℕ) → length rs ≤ k → StaysFrom m (drop k rs) → ⊥
past_all m rs k past is =
    let none : StaysFrom m [] = subst (λ (xs : List PulseTold). StaysFrom m xs) (drop_all k rs past) is in
    let some : 0 < 0 = none.some in
    omega arith

-- where the record before doesn't begin in step, no earlier one does
pub none_before : (m : ℕ) (rs rest : List PulseTold) (n k : ℕ) → n ≡ k + 1 → k < length rs → rest ≡ drop k rs
    → (BeginsInStep m rest → IsTrue false) → (j : ℕ) → j < n → StaysFrom m (drop j rs) → ⊥
none_before m rs rest n k next within here not j early is =
    let begins = begins_in_step m (drop k rs) (still_in_step m rs j k (omega (arith, next, early)) within is) in
    let untrue : false ≡ true = not (subst (λ (xs : List PulseTold). BeginsInStep m xs) (sym here) begins) in
    cc

-- the records from a place on
pub rest_of : (rs : List PulseTold) (k : ℕ) → take (length rs - k) (drop k rs) ≡ drop k rs
rest_of rs k = take_all (length rs - k) (drop k rs) (omega (arith, length-drop k rs))

pub since_found : (m : ℕ) (rs : List PulseTold) (k : ℕ) (since : Option ℕ) → Kept m rs k since
    → ((j : ℕ) → j < k → StaysFrom m (drop j rs) → ⊥) → StaysSince m rs since
since_found m rs k None kept none = λ j is.
    elim (cases_lt j k) [ inl early ↦ none j early is | inr late ↦ past_all m rs j (omega (arith, kept)) is ]
since_found m rs k (Some pulse) kept none = record {
  before = k;
  within = kept.0;
  place = kept.1;
  stays = kept.2;
  least = none;
}

-- ---- two records

two_of : (m : ℕ) (rs : List PulseTold) → StaysFrom m rs → 1 < length rs → AreInStep m rs
two_of m rs is two = record { two = two; one = is.one; on = is.on }

stays : (m : ℕ) (rs : List PulseTold) → AreInStep m rs → StaysFrom m rs
stays m rs is = let two = is.two in record { some = omega (arith, two); one = is.one; on = is.on }

pub first_of_two : (m : ℕ) (rs : List PulseTold) (pulse : ℕ) → StaysSince m rs (Some pulse) → pulse < length rs
    → IsInStepSince m rs (Some pulse)
first_of_two m rs pulse is within =
    let place = is.place in
    record {
      before = is.before;
      place = is.place;
      in_step = two_of m (drop is.before rs) is.stays (omega (arith, place, within, length-drop is.before rs));
      least = λ k early in_step. is.least k early (stays m (drop k rs) in_step);
    }

pub none_of_one : (m : ℕ) (rs : List PulseTold) (pulse : ℕ) → StaysSince m rs (Some pulse) → length rs ≤ pulse
    → IsInStepSince m rs None
none_of_one m rs pulse is past = λ k in_step.
    let place = is.place in
    let two = in_step.two in
    is.least k (omega (arith, place, past, two, length-drop k rs)) (stays m (drop k rs) in_step)

pub none_of_none : (m : ℕ) (rs : List PulseTold) → StaysSince m rs None → IsInStepSince m rs None
none_of_none m rs none = λ k in_step. none k (stays m (drop k rs) in_step)
