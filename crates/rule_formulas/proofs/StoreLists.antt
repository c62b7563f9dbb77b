-- Stores of lists of assignments.
use Rattle.std.proofs.Common.{◌≡◌, ℕ, ◌+◌, ◌-◌, ◌<◌, ◌≤◌, List, [], ◌∷◌, ◌++◌, length, get_or, take, refl, sym, ap, ◌∙◌, arith}
use Rattle.std.proofs.lemmas.List.{take_more}
use Rattle.std.proofs.lemmas.Bool.{eq-eqb, ne_eqb}
use Rattle.rule_syntax.specs.declared.syntax.Target.{Target}
use Rattle.rule_syntax.specs.declared.syntax.Target.TheVariants.{ToLocal, ToWord}
use Rattle.rule_paths.specs.Relations.{Expression}
use Rattle.rule_paths.specs.Stores.{Store}
use Rattle.rule_paths.specs.Paths.{store_with}
use Rattle.rule_formulas.specs.declared.stores.Write.{Write}
use Rattle.rule_formulas.specs.Numbers.{expression}
use Rattle.rule_formulas.specs.Stores.{store_from}

pub store_from_push : (ws : List Write) (w : Write) (s : Store)
    → store_from (ws ++ w ∷ []) s ≡ store_with w.target (expression w.number) (store_from ws s)
store_from_push [] w s = refl
store_from_push (x ∷ ws) w s = store_from_push ws w (store_with x.target (expression x.number) s)

-- after the first n of the list, the last of which is w
store_next : (ws : List Write) (n : ℕ) (w d : Write) (s : Store) → 0 < n → n ≤ length ws → w ≡ get_or ws (n - 1) d
    → store_from (take n ws) s ≡ store_with w.target (expression w.number) (store_from (take (n - 1) ws) s)
store_next ws n w d s some le is =
    let next : n ≡ n - 1 + 1 = omega (arith, some) in
    ap (λ i. store_from (take i ws) s) next ∙ ap (λ (l : List Write). store_from l s) (take_more ws (n - 1) d (omega (arith, some, le)))
    ∙ ap (λ (x : Write). store_from (take (n - 1) ws ++ x ∷ []) s) (sym is)
    ∙ store_from_push (take (n - 1) ws) w s

other_local : (t : Target) (e : Expression) (s : Store) (k : ℕ) → (t ≡ ToLocal k → ⊥) → (store_with t e s).locals k ≡ s.locals k
other_local (ToLocal j) e s k ne = rw (ne_eqb k j (λ same. ne (ap ToLocal (sym same)))) refl
other_local (ToWord j) e s k ne = refl

other_word : (t : Target) (e : Expression) (s : Store) (k : ℕ) → (t ≡ ToWord k → ⊥) → (store_with t e s).words k ≡ s.words k
other_word (ToLocal j) e s k ne = refl
other_word (ToWord j) e s k ne = rw (ne_eqb k j (λ same. ne (ap ToWord (sym same)))) refl

pub local_same : (ws : List Write) (n k : ℕ) (w d : Write) (s : Store) → 0 < n → n ≤ length ws → w ≡ get_or ws (n - 1) d
    → w.target ≡ ToLocal k → expression w.number ≡ (store_from (take n ws) s).locals k
local_same ws n k w d s some le is target =
    let before = store_from (take (n - 1) ws) s in
    let here : (store_with (ToLocal k) (expression w.number) before).locals k ≡ expression w.number = rw (eq-eqb k k refl) refl in
    sym (ap (λ (s : Store). s.locals k) (store_next ws n w d s some le is)
    ∙ ap (λ (t : Target). (store_with t (expression w.number) before).locals k) target ∙ here)

pub local_other : (ws : List Write) (n k : ℕ) (w d : Write) (s : Store) (x : Expression) → 0 < n → n ≤ length ws → w ≡ get_or ws (n - 1) d
    → (w.target ≡ ToLocal k → ⊥) → x ≡ (store_from (take (n - 1) ws) s).locals k → x ≡ (store_from (take n ws) s).locals k
local_other ws n k w d s x some le is ne h =
    h ∙ sym (ap (λ (s : Store). s.locals k) (store_next ws n w d s some le is)
    ∙ other_local w.target (expression w.number) (store_from (take (n - 1) ws) s) k ne)

pub word_same : (ws : List Write) (n k : ℕ) (w d : Write) (s : Store) → 0 < n → n ≤ length ws → w ≡ get_or ws (n - 1) d
    → w.target ≡ ToWord k → expression w.number ≡ (store_from (take n ws) s).words k
word_same ws n k w d s some le is target =
    let before = store_from (take (n - 1) ws) s in
    let here : (store_with (ToWord k) (expression w.number) before).words k ≡ expression w.number = rw (eq-eqb k k refl) refl in
    sym (ap (λ (s : Store). s.words k) (store_next ws n w d s some le is)
    ∙ ap (λ (t : Target). (store_with t (expression w.number) before).words k) target ∙ here)

pub word_other : (ws : List Write) (n k : ℕ) (w d : Write) (s : Store) (x : Expression) → 0 < n → n ≤ length ws → w ≡ get_or ws (n - 1) d
    → (w.target ≡ ToWord k → ⊥) → x ≡ (store_from (take (n - 1) ws) s).words k → x ≡ (store_from (take n ws) s).words k
word_other ws n k w d s x some le is ne h =
    h ∙ sym (ap (λ (s : Store). s.words k) (store_next ws n w d s some le is)
    ∙ other_word w.target (expression w.number) (store_from (take (n - 1) ws) s) k ne)

stored_me : (t : Target) (e : Expression) (s : Store) → ((store_with t e s).me ≡ s.me) × ((store_with t e s).coin ≡ s.coin)
stored_me (ToLocal j) e s = (refl, refl)
stored_me (ToWord j) e s = (refl, refl)

pub from_me : (ws : List Write) (s : Store) → (store_from ws s).me ≡ s.me
from_me [] s = refl
from_me (w ∷ ws) s =
    from_me ws (store_with w.target (expression w.number) s) ∙ (stored_me w.target (expression w.number) s).0

pub from_coin : (ws : List Write) (s : Store) → (store_from ws s).coin ≡ s.coin
from_coin [] s = refl
from_coin (w ∷ ws) s =
    from_coin ws (store_with w.target (expression w.number) s) ∙ (stored_me w.target (expression w.number) s).1
