-- The runs of a table, cell by cell, and the steps of a search.
use Rattle.std.proofs.Common.{◌≡◌, ℕ, zero, suc, ◌+◌, ◌-◌, ◌/◌, ◌<◌, ◌≤◌, Bool, cond, List, [], ◌∷◌, ◌++◌, length, take, drop, get_or, refl, sym, ap, ◌∙◌, append_assoc, append-nil, add-one, arith, ne_eqb}
use Rattle.std.proofs.Math.Seq.{drop-cons, drop-length}
use Rattle.std.proofs.lemmas.List.{take_all, map-append}
use Rattle.std.proofs.lemmas.Option.{same_Some}
use Rattle.rule_text.specs.declared.layout.TheConstants.{MAX_TABLE_CELLS}
use Rattle.std.specs.Prelude.{Some, None, map, slice_get}
use Rattle.node_env.specs.declared.env.TheConstants.{NO_MAIL}
use Rattle.rule_text.specs.declared.lookups.Run.{Run}
use Rattle.rule_text.specs.declared.tables.Table.{Table}
use Rattle.rule_syntax.specs.declared.syntax.Comparison.TheVariants.{Less}
use Rattle.rule_syntax.specs.declared.syntax.Operator.TheVariants.{Compare}
use Rattle.rule_text.specs.Forms.{TermForm, number, binary, choice}
use Rattle.rule_text.specs.Tables.{run_at, runs_from, middle, first_run, looked_up, cells_of, table_at}

pub next_run : (cells : List ℕ) (i c last : ℕ) (all done more : List Run) → i < length cells → c ≡ get_or cells i c
    → more ≡ done ++ run_at i last c → all ≡ done ++ runs_from i last (drop i cells ++ NO_MAIL ∷ [])
    → all ≡ more ++ runs_from (i + 1) c (drop (i + 1) cells ++ NO_MAIL ∷ [])
next_run cells i c last all done more within is made before =
    let rest = drop (i + 1) cells ++ NO_MAIL ∷ [] in
    let first : drop i cells ≡ c ∷ drop (i + 1) cells =
    (rw add-one (drop-cons cells i c within)) ∙ ap (λ (x : ℕ). x ∷ drop (i + 1) cells) (sym is) in
    before ∙ ap (λ (l : List ℕ). done ++ runs_from i last (l ++ NO_MAIL ∷ [])) first
    ∙ sym (append_assoc done (run_at i last c) (runs_from (i + 1) c rest))
    ∙ ap (λ (l : List Run). l ++ runs_from (i + 1) c rest) (sym made)

pub last_run : (cells : List ℕ) (i last : ℕ) (all done more : List Run) → length cells ≤ i → i ≤ length cells
    → more ≡ done ++ run_at (length cells) last NO_MAIL
    → all ≡ done ++ runs_from i last (drop i cells ++ NO_MAIL ∷ []) → more ≡ all
last_run cells i last all done more past within made before =
    let here : i ≡ length cells = omega (arith, past, within) in
    made ∙ ap (λ (l : List Run). done ++ l) (sym (append-nil (run_at (length cells) last NO_MAIL)))
    ∙ ap (λ (l : List ℕ). done ++ runs_from (length cells) last (l ++ NO_MAIL ∷ [])) (sym (drop-length cells))
    ∙ ap (λ (k : ℕ). done ++ runs_from k last (drop k cells ++ NO_MAIL ∷ [])) (sym here) ∙ sym before

-- ---- searches

pub looked_more : (steps : ℕ) (runs front back : List Run) (x test left right : TermForm) (r : Run) → ¬ (steps ≡ 0)
    → ¬ (length runs / 2 ≡ 0) → front ≡ take (length runs / 2) runs → back ≡ drop (length runs / 2) runs
    → r ≡ first_run back → test ≡ binary (Compare Less) x (number r.first) → left ≡ looked_up (steps - 1) front x
    → right ≡ looked_up (steps - 1) back x → choice test left right ≡ looked_up steps runs x
looked_more zero runs front back x test left right r some many is_front is_back is_first is_test is_left is_right =
    absurd (some refl)
looked_more (suc steps) runs front back x test left right r some many is_front is_back is_first is_test is_left
    is_right =
    let e : suc steps - 1 ≡ steps = omega arith in
    let first : r.first ≡ (first_run (middle runs)).first =
    ap (λ (s : Run). s.first) (is_first ∙ ap first_run is_back) in
    let here : test ≡ binary (Compare Less) x (number (first_run (middle runs)).first) =
    is_test ∙ ap (λ (n : ℕ). binary (Compare Less) x (number n)) first in
    let low : left ≡ looked_up steps (take (length runs / 2) runs) x =
    is_left ∙ ap (λ (l : List Run). looked_up (suc steps - 1) l x) is_front
    ∙ ap (λ (n : ℕ). looked_up n (take (length runs / 2) runs) x) e in
    let high : right ≡ looked_up steps (middle runs) x =
    is_right ∙ ap (λ (l : List Run). looked_up (suc steps - 1) l x) is_back
    ∙ ap (λ (n : ℕ). looked_up n (middle runs) x) e in
    ap (λ (t : TermForm). choice t left right) here
    ∙ ap (λ (t : TermForm). choice (binary (Compare Less) x (number (first_run (middle runs)).first)) t right) low
    ∙ ap (λ (t : TermForm). choice (binary (Compare Less) x (number (first_run (middle runs)).first))
    (looked_up steps (take (length runs / 2) runs) x) t) high
    ∙ sym (ap (λ (b : Bool). cond b (number (first_run runs).number)
    (choice (binary (Compare Less) x (number (first_run (middle runs)).first))
    (looked_up steps (take (length runs / 2) runs) x) (looked_up steps (middle runs) x)))
    (ne_eqb (length runs / 2) 0 many))

-- ---- tables

pub table_found : (tables : List Table) (k : ℕ) (t : Table) → slice_get tables k ≡ Some t
    → cells_of t ≡ table_at (map cells_of tables) k
table_found [] k t e = absurd (let no : None ≡ Some t = e in cc)
table_found (x ∷ xs) zero t e = ap cells_of (sym (same_Some x t e))
table_found (x ∷ xs) (suc k) t e = table_found xs k t e

pub table_added : (tables more : List Table) (t : Table) → more ≡ tables ++ t ∷ []
    → length t.cells.items ≤ MAX_TABLE_CELLS
    → map cells_of more ≡ map cells_of tables ++ t.cells.items ∷ []
table_added tables more t made short =
    ap (map cells_of) made ∙ map-append cells_of tables (t ∷ [])
    ∙ ap (λ (l : List ℕ). map cells_of tables ++ l ∷ []) (take_all MAX_TABLE_CELLS t.cells.items short)
