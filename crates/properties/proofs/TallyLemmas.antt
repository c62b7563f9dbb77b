-- One verdict more.
use Rattle.std.proofs.Common.{◌≡◌, ℕ, ◌+◌, List, [], ◌∷◌, ◌++◌, length, length-append, refl, ap, sym, ◌∙◌, Bool, true, false, arith}
use Rattle.std.specs.Prelude.{Option, Some, None, ◌||◌, is_some, unwrap_or, if◌then◌else◌}
use Rattle.std.specs.List.{list_any}
use Rattle.std.proofs.lemmas.List.{append-nil}
use Rattle.std.proofs.lemmas.List.Elements.{filter-append, filter_map-append}
use Rattle.properties.specs.declared.property.Form.{Form}
use Rattle.properties.specs.declared.answers.PulseVerdict.{PulseVerdict}
use Rattle.properties.specs.declared.answers.Violation.{Violation}
use Rattle.properties.specs.declared.answers.Tally.{Tally}
use Rattle.properties.specs.Answers.{after_violated, counts_for, first_pulse, judged_pulses, last_violation, violation_of, violations}
use Rattle.properties.specs.inner.Tallies.{IsTally}

abbrev is_bad : PulseVerdict → Bool
is_bad v = is_some (violation_of v)

last_more : (xs : List Violation) (x : Violation) → last_violation (xs ++ x ∷ []) ≡ Some x
last_more [] x = refl
last_more (y ∷ []) x = refl
last_more (y ∷ (z ∷ xs)) x = last_more (z ∷ xs) x

or_true : (a : Bool) → (a || true) ≡ true
or_true true = refl
or_true false = refl

any_with : (vs : List PulseVerdict) (v : PulseVerdict) → is_bad v ≡ true → list_any is_bad (vs ++ v ∷ []) ≡ true
any_with [] v bad = rw bad refl
any_with (u ∷ vs) v bad = rw (any_with vs v bad) (or_true (is_bad u))

or_false : (a : Bool) → (a || false) ≡ a
or_false true = refl
or_false false = refl

any_without : (vs : List PulseVerdict) (v : PulseVerdict) → is_bad v ≡ false
    → list_any is_bad (vs ++ v ∷ []) ≡ list_any is_bad vs
any_without [] v good = rw good refl
any_without (u ∷ vs) v good = rw (any_without vs v good) refl

after_bad : (vs : List PulseVerdict) (v : PulseVerdict) → is_bad v ≡ true → after_violated (vs ++ v ∷ []) ≡ []
after_bad [] v bad = rw bad refl
after_bad (u ∷ vs) v bad = rw (any_with (u ∷ vs) v bad) (after_bad vs v bad)

after_good_in : (b : Bool) (u v : PulseVerdict) (vs : List PulseVerdict)
    → after_violated (vs ++ v ∷ []) ≡ after_violated vs ++ v ∷ []
    → (if b then after_violated (vs ++ v ∷ []) else u ∷ (vs ++ v ∷ []))
    ≡ (if b then after_violated vs else u ∷ vs) ++ v ∷ []
after_good_in true u v vs e = e
after_good_in false u v vs e = refl

after_good : (vs : List PulseVerdict) (v : PulseVerdict) → is_bad v ≡ false
    → after_violated (vs ++ v ∷ []) ≡ after_violated vs ++ v ∷ []
after_good [] v good = rw good refl
after_good (u ∷ vs) v good =
    rw (any_without (u ∷ vs) v good) (after_good_in (list_any is_bad (u ∷ vs)) u v vs (after_good vs v good))

first_more : (vs : List PulseVerdict) (v : PulseVerdict)
    → first_pulse (vs ++ v ∷ []) ≡ Some (unwrap_or (first_pulse vs) v.pulse)
first_more [] v = refl
first_more (u ∷ vs) v = refl

length_more : {A : Type 0} (xs : List A) (x : A) → length (xs ++ x ∷ []) ≡ length xs + 1
length_more xs x = omega (arith, length-append xs (x ∷ []))

-- the pulses that count, with one more
judged_more : (form : Form) (vs : List PulseVerdict) (v : PulseVerdict) → counts_for form v ≡ true
    → judged_pulses form (vs ++ v ∷ []) ≡ judged_pulses form vs ++ v ∷ []
judged_more form vs v counts = filter-append (counts_for form) vs (v ∷ []) ∙ rw counts refl

pub tally_violated : (form : Form) (vs : List PulseVerdict) (v : PulseVerdict) (t u : Tally) (x : Violation)
    → counts_for form v ≡ true → violation_of v ≡ Some x → u.judged ≡ t.judged + 1 → u.violated ≡ t.violated + 1
    → u.last ≡ Some x → u.since ≡ None → IsTally form vs t → IsTally form (vs ++ v ∷ []) u
tally_violated form vs v t u x counts bad judged violated last since is =
    let js = judged_pulses form vs in
    let e = judged_more form vs v counts in
    let more : violations (js ++ v ∷ []) ≡ violations js ++ x ∷ [] =
    filter_map-append violation_of js (v ∷ []) ∙ rw bad refl in
    let worst : is_bad v ≡ true = rw bad refl in
    record {
      judged = rw e (judged ∙ (ap (λ n. n + 1) is.judged ∙ sym (length_more js v)));
      violated = rw (e, more) (violated ∙ (ap (λ n. n + 1) is.violated ∙ sym (length_more (violations js) x)));
      last = rw (e, more) (last ∙ sym (last_more (violations js) x));
      since = rw e (since ∙ sym (ap first_pulse (after_bad js v worst)));
    }

pub tally_held : (form : Form) (vs : List PulseVerdict) (v : PulseVerdict) (t u : Tally)
    → counts_for form v ≡ true → violation_of v ≡ None → u.judged ≡ t.judged + 1 → u.violated ≡ t.violated
    → u.last ≡ t.last → u.since ≡ Some (unwrap_or t.since v.pulse) → IsTally form vs t
    → IsTally form (vs ++ v ∷ []) u
tally_held form vs v t u counts good judged violated last since is =
    let js = judged_pulses form vs in
    let e = judged_more form vs v counts in
    let same : violations (js ++ v ∷ []) ≡ violations js =
    filter_map-append violation_of js (v ∷ []) ∙ rw good (append-nil (violations js)) in
    let best : is_bad v ≡ false = rw good refl in
    record {
      judged = rw e (judged ∙ (ap (λ n. n + 1) is.judged ∙ sym (length_more js v)));
      violated = rw (e, same) (violated ∙ is.violated);
      last = rw (e, same) (last ∙ is.last);
      since = rw e (since ∙ (ap (λ (s : Option ℕ). Some (unwrap_or s v.pulse)) is.since
          ∙ (sym (first_more (after_violated js) v) ∙ sym (ap first_pulse (after_good js v best)))));
    }
