-- The entries of an actor, with one entry more.
use Rattle.std.proofs.Common.{◌≡◌, ◌+◌, ◌<◌, ℕ, suc, List, [], ◌∷◌, ◌++◌, length, map, take, get_or, Bool, true, false, if◌then◌else◌, refl, sym, ap, ◌∙◌, arith, append-nil, eqb}
use Rattle.std.proofs.lemmas.Bool.Decides.{nat_tests}
use Rattle.std.proofs.lemmas.List.{take_more, map-append, length-map, length-take-le}
use Rattle.std.specs.Prelude.{◌↔◌, IsTrue}
use Rattle.bench_core.specs.declared.actor.Actor.{Actor}
use Rattle.bench_core.specs.declared.actor.Actor.TheVariants.{Loader, Engine}
use Rattle.bench_core.specs.declared.entry.Entry.{Entry as CodeEntry}
use Rattle.bench_core.specs.Told.{Row}
use Rattle.bench_core.specs.Replay.{Entry, Staged, Opened, Closed, Abandoned, rows_of}
use Rattle.bench_core.specs.Views.{entry_of}
use Rattle.bench_shared.specs.Passes.{Placed, rows_in}
use Rattle.bench_shared.specs.Ends.{same_actor, is_by, placed_from, placed_by}
use Rattle.bench_shared.specs.Receipts.{placed_of, placed_receipts}
use Rattle.bench_shared.specs.declared.passes.Receipt.{Receipt}

-- the entry with its place, if it is the actor's
abbrev one_placed : ℕ → Actor → Entry → List Placed
one_placed n actor e = if is_by actor e then (n, e) ∷ [] else []

pick-append : (b : Bool) (m : Placed) (l k : List Placed)
    → (if b then m ∷ (l ++ k) else (l ++ k)) ≡ (if b then m ∷ l else l) ++ k
pick-append true m l k = refl
pick-append false m l k = refl

placed_from-push : (n : ℕ) (actor : Actor) (es : List Entry) (e : Entry)
    → placed_from n actor (es ++ e ∷ []) ≡ placed_from n actor es ++ one_placed (n + length es) actor e
placed_from-push n actor [] e = ap (λ k. one_placed k actor e) (omega arith)
placed_from-push n actor (x ∷ xs) e =
    ap (λ l. if is_by actor x then (n, x) ∷ l else l)
    (placed_from-push (n + 1) actor xs e ∙ ap (λ k. placed_from (n + 1) actor xs ++ one_placed k actor e)
    (omega arith))
    ∙ pick-append (is_by actor x) (n, x) (placed_from (n + 1) actor xs) (one_placed (n + suc (length xs)) actor e)

one_taken : (history : List CodeEntry) (i : ℕ) (e : CodeEntry) (actor : Actor) → i < length history
    → e ≡ get_or history i e
    → placed_by actor (map entry_of (take (i + 1) history)) ≡ placed_by actor (map entry_of (take i history))
    ++ one_placed i actor (entry_of e)
one_taken history i e actor below at =
    let front = map entry_of (take i history) in
    let count : length front ≡ i = length-map (take i history) entry_of ∙ length-take-le i history (omega arith) in
    ap (λ l. placed_by actor (map entry_of l)) (take_more history i e below
    ∙ ap (λ x. take i history ++ x ∷ []) (sym at))
    ∙ ap (λ l. placed_by actor l) (map-append entry_of (take i history) (e ∷ []))
    ∙ placed_from-push 0 actor front (entry_of e)
    ∙ ap (λ k. placed_by actor front ++ one_placed k actor (entry_of e)) (omega (arith, count))

pub entry_taken : (history : List CodeEntry) (i : ℕ) (e : CodeEntry) (actor : Actor) → i < length history
    → e ≡ get_or history i e → is_by actor (entry_of e) ≡ true
    → placed_by actor (map entry_of (take (i + 1) history)) ≡ placed_by actor (map entry_of (take i history))
    ++ (i, entry_of e) ∷ []
entry_taken history i e actor below at is = one_taken history i e actor below at
    ∙ ap (λ b. placed_by actor (map entry_of (take i history)) ++ (if b then (i, entry_of e) ∷ [] else [])) is

pub entry_passed : (history : List CodeEntry) (i : ℕ) (e : CodeEntry) (actor : Actor) → i < length history
    → e ≡ get_or history i e → is_by actor (entry_of e) ≡ false
    → placed_by actor (map entry_of (take (i + 1) history)) ≡ placed_by actor (map entry_of (take i history))
entry_passed history i e actor below at is = one_taken history i e actor below at
    ∙ ap (λ b. placed_by actor (map entry_of (take i history)) ++ (if b then (i, entry_of e) ∷ [] else [])) is
    ∙ append-nil _

pub receipt_taken : (rs : List Receipt) (k : ℕ) (r : Receipt) (p : Placed) → k < length rs → r ≡ get_or rs k r
    → placed_of r ≡ p
    → placed_receipts (take (k + 1) rs) ≡ placed_receipts (take k rs) ++ p ∷ []
receipt_taken rs k r p below at is = ap placed_receipts (take_more rs k r below ∙ ap (λ x. take k rs ++ x ∷ []) (sym at))
    ∙ map-append placed_of (take k rs) (r ∷ []) ∙ ap (λ x. placed_receipts (take k rs) ++ x ∷ []) is

-- the answer to whether two actors are one is the test's
pub same_actor-told : (a b : Actor) (r : Bool) → (IsTrue r ↔ (a ≡ b)) → same_actor a b ≡ r
same_actor-told (Loader a) (Loader b) true told = let same : Loader a ≡ Loader b = told.0 refl in let e : a ≡ b = cc in
    grind (arith, nat_tests)
same_actor-told (Loader a) (Loader b) false told = by_test (eqb a b) refl
  where
    by_test : (t : Bool) → eqb a b ≡ t → t ≡ false
    by_test true e = let same : a ≡ b = grind (arith, nat_tests) in sym (told.1 (ap (λ (n : ℕ). Loader n) same))
    by_test false e = refl
same_actor-told (Loader a) Engine true told = let same : Loader a ≡ Engine = told.0 refl in absurd (cc)
same_actor-told (Loader a) Engine false told = refl
same_actor-told Engine (Loader b) true told = let same : Engine ≡ Loader b = told.0 refl in absurd (cc)
same_actor-told Engine (Loader b) false told = refl
same_actor-told Engine Engine true told = refl
same_actor-told Engine Engine false told = sym (told.1 refl)

-- every close is the engine's
rows_in-placed : (n : ℕ) (h : List Entry) → rows_in (placed_from n Engine h) ≡ rows_of h
rows_in-placed n [] = refl
rows_in-placed n (Staged (Loader a) change ∷ es) = rows_in-placed (n + 1) es
rows_in-placed n (Staged Engine change ∷ es) = rows_in-placed (n + 1) es
rows_in-placed n (Opened coins ∷ es) = rows_in-placed (n + 1) es
rows_in-placed n (Closed row ∷ es) = ap (λ l. row ∷ l) (rows_in-placed (n + 1) es)
rows_in-placed n (Abandoned ∷ es) = rows_in-placed (n + 1) es

pub rows_from_placed : (h : List Entry) (placed : List Placed) (rows : List Row) → placed_by Engine h ≡ placed
    → rows_in placed ≡ rows → rows_of h ≡ rows
rows_from_placed h placed rows is were = sym (rows_in-placed 0 h) ∙ ap rows_in is ∙ were
