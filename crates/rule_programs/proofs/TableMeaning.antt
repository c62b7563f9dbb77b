-- A lookup in a table is the number of its cell.
use Rattle.std.proofs.Common.{◌≡◌, ℕ, zero, suc, ◌+◌, ◌/◌, ◌<◌, ◌≤◌, not, Bool, true, false, if◌then◌else◌, List, [], ◌∷◌, ◌++◌, length, take, drop, get_or, refl, sym, ap, subst, ◌∙◌, arith, lt-ltb, le-ltb}
use Rattle.std.specs.Prelude.{◌==◌, nat_lt}
use Rattle.std.proofs.lemmas.Bool.{eqb-true, eqb-false, ltb-true, ltb-false}
use Rattle.std.proofs.lemmas.List.{take-append-drop, length-take, length-drop}
use Rattle.node_env.specs.declared.env.TheConstants.{NO_MAIL}
use Rattle.node_env.specs.Env.{Setting}
use Rattle.rule_syntax.specs.declared.syntax.Comparison.TheVariants.{Less}
use Rattle.rule_syntax.specs.declared.syntax.Operator.TheVariants.{Compare}
use Rattle.rule_syntax.specs.declared.syntax.Sizes.{Sizes}
use Rattle.rule_syntax.specs.declared.syntax.Term.{Term}
use Rattle.rule_syntax.specs.declared.syntax.Term.TheVariants.{Me, Message', Binary', Logical', Not', Choice', Count', Least', Sorted'}
use Rattle.rule_meaning.specs.Meaning.{NodeState, apply_operator, bit_of, truth, combine, count_below, least_below, numbers_of_nodes, in_order, number_at_place, word_at, message_from, value}
use Rattle.rule_text.specs.declared.lookups.Run.{Run}
use Rattle.rule_text.specs.Forms.{TermForm, number, nodes, faults, modulus, me, coin, loop_node, local, word, message, binary, logical, inverse, choice, count, least, sorted, term_form}
use Rattle.rule_text.specs.Tables.{cell_at, run, run_at, runs_from, runs_of, middle, first_run, looked_up, table_term}

-- ---- the number of a term is that of its form

abbrev form_value : TermForm → Sizes → Setting → List ℕ → NodeState → ℕ
form_value (number v) z env J u = v
form_value nodes z env J u = z.nodes
form_value faults z env J u = z.faults
form_value modulus z env J u = z.modulus
form_value me z env J u = env.id
form_value coin z env J u = env.coin
form_value (loop_node i) z env J u = get_or J i 0
form_value (local k) z env J u = u.locals k
form_value (word k) z env J u = word_at k u.memory
form_value (message a) z env J u = message_from z env (form_value a z env J u)
form_value (binary o a b) z env J u = apply_operator o (form_value a z env J u) (form_value b z env J u)
form_value (logical c a b) z env J u =
    bit_of (combine c (truth (form_value a z env J u)) (truth (form_value b z env J u)))
form_value (inverse a) z env J u = bit_of (not (truth (form_value a z env J u)))
form_value (choice t a b) z env J u =
    if truth (form_value t z env J u) then form_value a z env J u else form_value b z env J u
form_value (count t) z env J u = count_below z.nodes (λ j. form_value t z env (J ++ j ∷ []) u)
form_value (least t) z env J u =
    least_below z.nodes (λ j. form_value t z env (J ++ j ∷ []) u) (λ j. message_from z env j)
form_value (sorted a b) z env J u =
    number_at_place (form_value a z env J u)
    (in_order (numbers_of_nodes z.nodes (λ j. form_value b z env (J ++ j ∷ []) u)))

value_same : (t : Term) (z : Sizes) (env : Setting) (J : List ℕ) (u : NodeState)
    → value t z env J u ≡ form_value (term_form t) z env J u
value_same (Message' p a) z env J u = λ k. message_from z env (value_same a z env J u k)
value_same (Binary' o p a q b) z env J u = λ k. apply_operator o (value_same a z env J u k) (value_same b z env J u k)
value_same (Logical' c p a q b) z env J u =
    λ k. bit_of (combine c (truth (value_same a z env J u k)) (truth (value_same b z env J u k)))
value_same (Not' p a) z env J u = λ k. bit_of (not (truth (value_same a z env J u k)))
value_same (Choice' p t q a r b) z env J u =
    λ k. if truth (value_same t z env J u k) then value_same a z env J u k else value_same b z env J u k
value_same (Count' p t) z env J u = λ k. count_below z.nodes (λ j. value_same t z env (J ++ j ∷ []) u k)
value_same (Least' p t) z env J u =
    λ k. least_below z.nodes (λ j. value_same t z env (J ++ j ∷ []) u k) (λ j. message_from z env j)
value_same (Sorted' p a q b) z env J u =
    λ k. number_at_place (value_same a z env J u k)
    (in_order (numbers_of_nodes z.nodes (λ j. value_same b z env (J ++ j ∷ []) u k)))
value_same Me z env J u = refl
value_same _ z env J u = refl

-- ---- the number of the run of a place

-- after runs up to one of this number
abbrev held : ℕ → List Run → ℕ → ℕ
held last [] p = last
held last (r ∷ rs) p = if nat_lt p r.first then last else held r.number rs p

abbrev number_in : List Run → ℕ → ℕ
number_in [] p = NO_MAIL
number_in (r ∷ rs) p = held r.number rs p

-- the places of the runs don't fall
abbrev Rising : ℕ → List Run → Type 0
Rising low [] = Unit {0}
Rising low (r ∷ rs) = (low ≤ r.first) × Rising r.first rs

rising_low : (low high : ℕ) (rs : List Run) → low ≤ high → Rising high rs → Rising low rs
rising_low low high [] less h = tt
rising_low low high (r ∷ rs) less h = let first = h.0 in (omega (arith, first, less), h.1)

rising_front : (low : ℕ) (front back : List Run) → Rising low (front ++ back) → Rising low front
rising_front low [] back h = tt
rising_front low (r ∷ rs) back h = (h.0, rising_front r.first rs back h.1)

rising_back : (low : ℕ) (front back : List Run) → Rising low (front ++ back) → Rising low back
rising_back low [] back h = h
rising_back low (r ∷ rs) back h = rising_low low r.first back h.0 (rising_back r.first rs back h.1)

step_less : (last p : ℕ) (r : Run) (rs : List Run) → p < r.first → held last (r ∷ rs) p ≡ last
step_less last p r rs less = ap (λ (b : Bool). if b then last else held r.number rs p) (lt-ltb p r.first less)

step_past : (last p : ℕ) (r : Run) (rs : List Run) → r.first ≤ p → held last (r ∷ rs) p ≡ held r.number rs p
step_past last p r rs past = ap (λ (b : Bool). if b then last else held r.number rs p) (le-ltb p r.first past)

-- a place before the second half
in_front : (last p : ℕ) (front : List Run) (b : Run) (bs : List Run) → p < b.first
    → held last (front ++ (b ∷ bs)) p ≡ held last front p
in_front last p [] b bs less = step_less last p b bs less
in_front last p (r ∷ rs) b bs less =
    ap (λ (v : ℕ). if nat_lt p r.first then last else v) (in_front r.number p rs b bs less)

-- a place in the second half
in_back : (low last p : ℕ) (front : List Run) (b : Run) (bs : List Run) → Rising low (front ++ (b ∷ bs)) → b.first ≤ p
    → held last (front ++ (b ∷ bs)) p ≡ held b.number bs p
in_back low last p [] b bs h past = step_past last p b bs past
in_back low last p (r ∷ rs) b bs h past =
    let back = rising_back r.first rs (b ∷ bs) h.1 in
    let less : r.first ≤ b.first = back.0 in
    step_past last p r (rs ++ (b ∷ bs)) (omega (arith, less, past)) ∙ in_back r.first r.number p rs b bs h.1 past

halves : (low p : ℕ) (front back : List Run) → Rising low (front ++ back) → 0 < length front → 0 < length back
    → (if nat_lt p (first_run back).first then number_in front p else number_in back p) ≡ number_in (front ++ back) p
halves low p [] back h some more = absurd (omega arith)
halves low p (r ∷ rs) [] h some more = absurd (omega arith)
halves low p (r ∷ rs) (b ∷ bs) h some more = by (nat_lt p b.first) refl
  where
    by : (t : Bool) → nat_lt p b.first ≡ t
        → (if t then held r.number rs p else held b.number bs p) ≡ held r.number (rs ++ (b ∷ bs)) p
    by true e = sym (in_front r.number p rs b bs (ltb-true p b.first e))
    by false e = sym (in_back r.first r.number p rs b bs h.1 (ltb-false p b.first e))

-- ---- the search

truth_bit : (b : Bool) → truth (bit_of b) ≡ b
truth_bit true = refl
truth_bit false = refl

single : (runs : List Run) (p : ℕ) → length runs ≤ 1 → (first_run runs).number ≡ number_in runs p
single [] p h = refl
single (r ∷ []) p h = refl
single (r ∷ s ∷ rs) p h = absurd (omega arith)

module _ (z : Sizes) (env : Setting) (J : List ℕ) (u : NodeState) (x : TermForm) where
  abbrev place : ℕ
  place = form_value x z env J u

  abbrev of_form : TermForm → ℕ
  of_form a = form_value a z env J u

  -- the searches of parts that are shorter
  abbrev Finds : ℕ → ℕ → Type 0
  Finds steps low = (runs : List Run) → length runs ≤ steps → Rising low runs
      → of_form (looked_up steps runs x) ≡ number_in runs place

  step_finds : (steps low : ℕ) → Finds steps low → Finds (suc steps) low
  step_finds steps low finds runs short rising = by (length runs / 2 == 0) refl
    where
      by : (b : Bool) → (length runs / 2 == 0) ≡ b
          → of_form (if b then number (first_run runs).number else
          choice (binary (Compare Less) x (number (first_run (middle runs)).first))
          (looked_up steps (take (length runs / 2) runs) x) (looked_up steps (middle runs) x))
          ≡ number_in runs place
      by true e = let none = eqb-true (length runs / 2) 0 e in single runs place (omega (arith, none))
      by false e =
          let some = eqb-false (length runs / 2) 0 e in
          let front = take (length runs / 2) runs in
          let back = drop (length runs / 2) runs in
          let all : front ++ back ≡ runs = take-append-drop (length runs / 2) runs in
          let rises : Rising low (front ++ back) = subst (Rising low) (sym all) rising in
          let first_length = length-take (length runs / 2) runs in
          let other_length = length-drop (length runs / 2) runs in
          let left = finds front (omega (arith, first_length, short, some)) (rising_front low front back rises) in
          let right = finds back (omega (arith, other_length, short, some)) (rising_back low front back rises) in
          ap (λ (t : Bool). if t then of_form (looked_up steps front x) else of_form (looked_up steps back x))
          (truth_bit (nat_lt place (first_run back).first))
          ∙ ap (λ (v : ℕ). if nat_lt place (first_run back).first then v else of_form (looked_up steps back x)) left
          ∙ ap (λ (v : ℕ). if nat_lt place (first_run back).first then number_in front place else v) right
          ∙ halves low place front back rises (omega (arith, first_length, some)) (omega (arith, other_length, some))
          ∙ ap (λ (l : List Run). number_in l place) all

  search : (steps low : ℕ) → Finds steps low
  search zero low runs short rising = single runs place (omega arith)
  search (suc steps) low runs short rising = step_finds steps low (search steps low) runs short rising

-- ---- the runs of a table

by_run : (P : List Run → Type 0) (place last c : ℕ) → (c ≡ last → P []) → P (run place c ∷ []) → P (run_at place last c)
by_run P place last c same other = by (c == last) refl
  where
    by : (b : Bool) → (c == last) ≡ b → P (if b then [] else run place c ∷ [])
    by true e = same (eqb-true c last e)
    by false e = other

rising_from : (l : List ℕ) (place last low : ℕ) → low ≤ place → Rising low (runs_from place last l)
rising_from [] place last low h = tt
rising_from (c ∷ cs) place last low h =
    by_run (λ (l : List Run). Rising low (l ++ runs_from (place + 1) c cs)) place last c
    (λ e. rising_from cs (place + 1) c low (omega arith)) (h, rising_from cs (place + 1) c place (omega arith))

-- before the first further run
held_before : (l : List ℕ) (place last p : ℕ) → p < place → held last (runs_from place last l) p ≡ last
held_before [] place last p h = refl
held_before (c ∷ cs) place last p h =
    by_run (λ (l : List Run). held last (l ++ runs_from (place + 1) c cs) p ≡ last) place last c
    (λ e. subst (λ (n : ℕ). held n (runs_from (place + 1) c cs) p ≡ n) e
    (held_before cs (place + 1) c p (omega arith)))
    (step_less last p (run place c) (runs_from (place + 1) c cs) h)

-- a cell, and those after it
held_cell : (place last c p : ℕ) (rest : List Run) → place ≤ p → held last (run_at place last c ++ rest) p
    ≡ held c rest p
held_cell place last c p rest h =
    by_run (λ (l : List Run). held last (l ++ rest) p ≡ held c rest p) place last c
    (λ e. ap (λ (n : ℕ). held n rest p) (sym e)) (step_past last p (run place c) rest h)

held_from : (cells : List ℕ) (place last k : ℕ)
    → held last (runs_from place last (cells ++ NO_MAIL ∷ [])) (place + k) ≡ get_or cells k NO_MAIL
held_from [] place last k = held_cell place last NO_MAIL (place + k) [] (omega arith)
held_from (c ∷ cs) place last zero =
    held_cell place last c (place + 0) (runs_from (place + 1) c (cs ++ NO_MAIL ∷ [])) (omega arith)
    ∙ held_before (cs ++ NO_MAIL ∷ []) (place + 1) c (place + 0) (omega arith)
held_from (c ∷ cs) place last (suc k) =
    let e : place + suc k ≡ (place + 1) + k = omega arith in
    held_cell place last c (place + suc k) (runs_from (place + 1) c (cs ++ NO_MAIL ∷ [])) (omega arith)
    ∙ ap (λ (p : ℕ). held c (runs_from (place + 1) c (cs ++ NO_MAIL ∷ [])) p) e ∙ held_from cs (place + 1) c k

runs_hold : (cells : List ℕ) (p : ℕ) → number_in (runs_of cells) p ≡ cell_at cells p
runs_hold cells p =
    let first = cell_at cells 0 in
    let e : p ≡ 0 + p = omega arith in
    ap (λ (k : ℕ). held first (runs_from 0 first (cells ++ NO_MAIL ∷ [])) k) e ∙ held_from cells 0 first p

rising_runs : (cells : List ℕ) → Rising 0 (runs_of cells)
rising_runs cells = (omega arith, rising_from (cells ++ NO_MAIL ∷ []) 0 (cell_at cells 0) 0 (omega arith))

pub table_means : (cells : List ℕ) (t x : Term) (z : Sizes) (env : Setting) (J : List ℕ) (u : NodeState)
    → term_form t ≡ table_term cells (term_form x) → value t z env J u ≡ cell_at cells (value x z env J u)
table_means cells t x z env J u e =
    value_same t z env J u ∙ ap (λ (f : TermForm). form_value f z env J u) e
    ∙ search z env J u (term_form x) (length (runs_of cells)) 0 (runs_of cells) (omega arith) (rising_runs cells)
    ∙ runs_hold cells (form_value (term_form x) z env J u) ∙ ap (cell_at cells) (sym (value_same x z env J u))
