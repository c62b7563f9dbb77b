-- Nodes, one after the other.
use Rattle.std.proofs.Common.{◌≡◌, ℕ, ◌+◌, List, [], ◌∷◌, ◌++◌, map, refl, ap, ◌∙◌, Bool, true, false, add-one}
use Rattle.std.specs.Prelude.{filter}
use Rattle.std.proofs.lemmas.List.{append-nil, map-append}
use Rattle.std.proofs.lemmas.List.Elements.{filter-append}
use Rattle.bench_workers.specs.Watching.{Seen}
use Rattle.properties.specs.Pairs.{JudgedNode}
use Rattle.bench_scenario.specs.Coins.{places_below}
use Rattle.claimed_runs.specs.Claims.{is_spoken_of, judged_node}

-- the nodes of which a property speaks, up to some node
abbrev pub nodes_below : Bool → List (List ℕ) → Seen → ℕ → List JudgedNode
nodes_below looks_back before x n =
    map (judged_node before x) (filter (is_spoken_of looks_back x) (places_below n))

-- one node more, of which it speaks
pub one_more : (looks_back : Bool) (before : List (List ℕ)) (x : Seen) (n : ℕ) → is_spoken_of looks_back x n ≡ true
    → nodes_below looks_back before x (n + 1) ≡ nodes_below looks_back before x n ++ judged_node before x n ∷ []
one_more looks_back before x n speaks =
    rw add-one (ap (map (judged_node before x)) (filter-append (is_spoken_of looks_back x) (places_below n) (n ∷ [])
    ∙ rw speaks refl)
    ∙ map-append (judged_node before x) (filter (is_spoken_of looks_back x) (places_below n)) (n ∷ []))

-- and one of which it doesn't
pub none_more : (looks_back : Bool) (before : List (List ℕ)) (x : Seen) (n : ℕ) → is_spoken_of looks_back x n ≡ false
    → nodes_below looks_back before x (n + 1) ≡ nodes_below looks_back before x n
none_more looks_back before x n silent =
    rw add-one (ap (map (judged_node before x)) (filter-append (is_spoken_of looks_back x) (places_below n) (n ∷ [])
    ∙ rw silent (append-nil (filter (is_spoken_of looks_back x) (places_below n)))))
