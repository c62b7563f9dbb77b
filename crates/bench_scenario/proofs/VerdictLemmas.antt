-- What is judged, one pulse or one node after the other.
use Rattle.std.proofs.Common.{◌≡◌, ℕ, ◌+◌, ◌<◌, ◌≤◌, ◌∷◌, [], ◌++◌, List, drop, length, get_or, refl, ap, sym, subst, ◌∙◌, ◌⊎◌, inl, inr, arith, Bool, true, false, min}
use Rattle.std.specs.Prelude.{Option, Some, None, if◌then◌else◌, ◌&&◌}
use Rattle.std.proofs.lemmas.Bool.{cases_lt}
use Rattle.std.proofs.lemmas.List.{append_assoc, append-nil, drop_more, drop_all}
use Rattle.std.proofs.Math.Nat.{min-eq_left, min-eq_right, min-le_left, min-le_right}
use Rattle.bench_core.specs.Told.{PulseTold}
use Rattle.scenario_text.specs.declared.scenario.Frame.{Frame}
use Rattle.bench_scenario.specs.declared.verdicts.Judged.{Judged}
use Rattle.bench_scenario.specs.Verdicts.{told_clocks, counting, joined_verdict, step_of}
use Rattle.bench_scenario.specs.Reports.{record_line, record_lines}

-- past the shorter one of two lists
past_min : (a b n i : ℕ) → n ≡ min a b → n ≤ i → (a ≤ i) ⊎ (b ≤ i)
past_min a b n i e le =
    elim (cases_lt a b) [
      | inl lt ↦ let m : min a b ≡ a = min-eq_left (omega (arith, lt)) in inl (subst (λ (k : ℕ). k ≤ i) (e ∙ m) le)
      | inr ge ↦ let m : min a b ≡ b = min-eq_right ge in inr (subst (λ (k : ℕ). k ≤ i) (e ∙ m) le)
    ]

-- what is written, where nothing is still to come
nothing_more : (done rest whole : List ℕ) → rest ≡ [] → done ++ rest ≡ whole → done ≡ whole
nothing_more done rest whole none e = sym (append-nil done) ∙ (ap (λ t. done ++ t) (sym none) ∙ e)

told_none : (flags : List Bool) → told_clocks flags [] ≡ []
told_none [] = refl
told_none (x ∷ flags) = refl

-- past the end of one of the lists nothing is told
told_end : (flags : List Bool) (clocks : List (Option ℕ)) (i : ℕ) → (length flags ≤ i) ⊎ (length clocks ≤ i)
    → told_clocks (drop i flags) (drop i clocks) ≡ []
told_end flags clocks i (inl past) = rw (drop_all i flags past) refl
told_end flags clocks i (inr past) = rw (drop_all i clocks past) (told_none (drop i flags))

told_more : (flags : List Bool) (clocks : List (Option ℕ)) (i : ℕ) (x : Bool) (c : Option ℕ)
    → drop i flags ≡ x ∷ drop (i + 1) flags → drop i clocks ≡ c ∷ drop (i + 1) clocks
    → told_clocks (drop i flags) (drop i clocks)
    ≡ (if x then c else None) ∷ told_clocks (drop (i + 1) flags) (drop (i + 1) clocks)
told_more flags clocks i x c e f = rw (e, f) refl

-- one node more
pub told_step : (flags : List Bool) (clocks told new : List (Option ℕ)) (n i : ℕ) (c : Option ℕ)
    → n ≡ min (length flags) (length clocks) → i < n → new ≡ told ++ c ∷ []
    → c ≡ (if get_or flags i false then get_or clocks i None else None)
    → told ++ told_clocks (drop i flags) (drop i clocks) ≡ told_clocks flags clocks
    → new ++ told_clocks (drop (i + 1) flags) (drop (i + 1) clocks) ≡ told_clocks flags clocks
told_step flags clocks told new n i c e within pushed is before =
    let lt : i < length flags = omega (arith, e, within, min-le_left (length flags) (length clocks)) in
    let below : i < length clocks = omega (arith, e, within, min-le_right (length flags) (length clocks)) in
    let rest = told_clocks (drop (i + 1) flags) (drop (i + 1) clocks) in
    let more = told_more flags clocks i (get_or flags i false) (get_or clocks i None) (drop_more flags i false lt)
    (drop_more clocks i None below) in
    ap (λ (t : List (Option ℕ)). t ++ rest) pushed ∙ (append_assoc told (c ∷ []) rest
    ∙ (ap (λ (t : List (Option ℕ)). told ++ t) (ap (λ (x : Option ℕ). x ∷ rest) is ∙ sym more) ∙ before))

-- all nodes are told
pub told_whole : (flags : List Bool) (clocks told : List (Option ℕ)) (n i : ℕ) → n ≡ min (length flags) (length clocks)
    → n ≤ i → told ++ told_clocks (drop i flags) (drop i clocks) ≡ told_clocks flags clocks
    → told ≡ told_clocks flags clocks
told_whole flags clocks told n i e le before =
    let none = told_end flags clocks i (past_min (length flags) (length clocks) n i e le) in
    sym (append-nil told) ∙ (ap (λ (t : List (Option ℕ)). told ++ t) (sym none) ∙ before)

count_none : (m : ℕ) (before : List (Option ℕ)) → counting m before [] ≡ None
count_none m [] = refl
count_none m (b ∷ before) = refl

count_end : (m : ℕ) (before after : List (Option ℕ)) (i : ℕ) → (length before ≤ i) ⊎ (length after ≤ i)
    → counting m (drop i before) (drop i after) ≡ None
count_end m before after i (inl past) = rw (drop_all i before past) refl
count_end m before after i (inr past) = rw (drop_all i after past) (count_none m (drop i before))

joined_none : (v : Option Bool) → joined_verdict v None ≡ v
joined_none None = refl
joined_none (Some v) = refl

and_assoc : (a b c : Bool) → ((a && b) && c) ≡ (a && (b && c))
and_assoc true b c = refl
and_assoc false b c = refl

joined_assoc : (a b c : Option Bool) → joined_verdict (joined_verdict a b) c ≡ joined_verdict a (joined_verdict b c)
joined_assoc None b c = refl
joined_assoc (Some a) None c = refl
joined_assoc (Some a) (Some b) None = refl
joined_assoc (Some a) (Some b) (Some c) = ap (λ v. Some v) (and_assoc a b c)

-- one node more
pub count_more : (m : ℕ) (before after : List (Option ℕ)) (i : ℕ) (v : Option Bool) (b a : Option ℕ)
    → drop i before ≡ b ∷ drop (i + 1) before → drop i after ≡ a ∷ drop (i + 1) after
    → joined_verdict (joined_verdict v (step_of m b a)) (counting m (drop (i + 1) before) (drop (i + 1) after))
    ≡ joined_verdict v (counting m (drop i before) (drop i after))
count_more m before after i v b a e f =
    joined_assoc v (step_of m b a) (counting m (drop (i + 1) before) (drop (i + 1) after)) ∙ rw (e, f) refl

-- all nodes have counted
pub count_whole : (m : ℕ) (before after : List (Option ℕ)) (v : Option Bool) (n i : ℕ)
    → n ≡ min (length before) (length after) → n ≤ i
    → joined_verdict v (counting m (drop i before) (drop i after)) ≡ counting m before after → v ≡ counting m before after
count_whole m before after v n i e le so_far =
    let none = count_end m before after i (past_min (length before) (length after) n i e le) in
    sym (joined_none v) ∙ (ap (λ (t : Option Bool). joined_verdict v t) (sym none) ∙ so_far)

lines_none : (f : Frame) (rs : List PulseTold) → record_lines f rs [] ≡ []
lines_none f [] = refl
lines_none f (r ∷ rs) = refl

lines_end : (f : Frame) (rs : List PulseTold) (js : List Judged) (i : ℕ) → (length rs ≤ i) ⊎ (length js ≤ i)
    → record_lines f (drop i rs) (drop i js) ≡ []
lines_end f rs js i (inl past) = rw (drop_all i rs past) refl
lines_end f rs js i (inr past) = rw (drop_all i js past) (lines_none f (drop i rs))

pub lines_more : (f : Frame) (rs : List PulseTold) (js : List Judged) (i : ℕ) (r : PulseTold) (j : Judged)
    → drop i rs ≡ r ∷ drop (i + 1) rs → drop i js ≡ j ∷ drop (i + 1) js
    → record_lines f (drop i rs) (drop i js) ≡ record_line f r j ++ record_lines f (drop (i + 1) rs) (drop (i + 1) js)
lines_more f rs js i r j e e2 = rw (e, e2) refl

-- all lines are written
pub lines_whole : (f : Frame) (rs : List PulseTold) (js : List Judged) (done front : List ℕ) (n i : ℕ)
    → n ≡ min (length rs) (length js) → n ≤ i
    → done ++ record_lines f (drop i rs) (drop i js) ≡ front ++ record_lines f rs js
    → done ≡ front ++ record_lines f rs js
lines_whole f rs js done front n i e le so_far =
    nothing_more done (record_lines f (drop i rs) (drop i js)) (front ++ record_lines f rs js)
    (lines_end f rs js i (past_min (length rs) (length js) n i e le)) so_far
