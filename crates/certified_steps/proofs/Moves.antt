-- Places that are equal, and the counts of a let.
use Rattle.std.proofs.Common.{◌≡◌, ℕ, Option, Some, None, List, ◌∷◌, refl, ap, subst}
use Rattle.rule_syntax.specs.declared.syntax.Term.{Term}
use Rattle.rule_syntax.specs.declared.syntax.Term.TheVariants.{Number, Nodes, Faults, Modulus, Me, Coin, LoopNode, Local, Word, Message', Binary', Logical', Not', Choice', Count', Least', Sorted'}
use Rattle.rule_paths.specs.Relations.{Expression, Relation, Numbers, RelationHolds}
use Rattle.rule_paths.specs.Stores.{Store, Count}
use Rattle.rule_paths.specs.Paths.{Place, place_past, with_let_count}
use Rattle.certified_steps.specs.Searching.{counted_test}

pub moved : (r : Place → Relation) (v : Numbers) (s t : Store) (a b : Option Expression) (cs ds : List Count) (m n : ℕ)
    → s ≡ t → a ≡ b → cs ≡ ds → m ≡ n → RelationHolds v (r (place_past s a cs m)) → RelationHolds v (r (place_past t b ds n))
moved r v s t a b cs ds m n e f g h is =
    subst (λ (k : ℕ). RelationHolds v (r (place_past t b ds k))) h (subst (λ (l : List Count). RelationHolds v (r (place_past t b l m))) g
    (subst (λ (o : Option Expression). RelationHolds v (r (place_past t o cs m))) f
    (subst (λ (u : Store). RelationHolds v (r (place_past u a cs m))) e is)))

pub no_count : (e : Term) (s : Store) (k : ℕ) (cs : List Count) → counted_test e ≡ None → with_let_count e s k cs ≡ cs
no_count (Number v) s k cs h = refl
no_count Nodes s k cs h = refl
no_count Faults s k cs h = refl
no_count Modulus s k cs h = refl
no_count Me s k cs h = refl
no_count Coin s k cs h = refl
no_count (LoopNode i) s k cs h = refl
no_count (Local i) s k cs h = refl
no_count (Word i) s k cs h = refl
no_count (Message' p a) s k cs h = refl
no_count (Binary' o p a q b) s k cs h = refl
no_count (Logical' c p a q b) s k cs h = refl
no_count (Not' p a) s k cs h = refl
no_count (Choice' p t q a r b) s k cs h = refl
no_count (Least' p t) s k cs h = refl
no_count (Sorted' p i q t) s k cs h = refl
no_count (Count' p t) s k cs h = absurd (let never : Some t ≡ None = h in cc)

pub one_count : (e t : Term) (s : Store) (k : ℕ) (cs : List Count) → counted_test e ≡ Some t
    → with_let_count e s k cs ≡ record { variable = k; test = t; store = s } ∷ cs
one_count (Number v) t s k cs h = absurd (let never : None ≡ Some t = h in cc)
one_count Nodes t s k cs h = absurd (let never : None ≡ Some t = h in cc)
one_count Faults t s k cs h = absurd (let never : None ≡ Some t = h in cc)
one_count Modulus t s k cs h = absurd (let never : None ≡ Some t = h in cc)
one_count Me t s k cs h = absurd (let never : None ≡ Some t = h in cc)
one_count Coin t s k cs h = absurd (let never : None ≡ Some t = h in cc)
one_count (LoopNode i) t s k cs h = absurd (let never : None ≡ Some t = h in cc)
one_count (Local i) t s k cs h = absurd (let never : None ≡ Some t = h in cc)
one_count (Word i) t s k cs h = absurd (let never : None ≡ Some t = h in cc)
one_count (Message' p a) t s k cs h = absurd (let never : None ≡ Some t = h in cc)
one_count (Binary' o p a q b) t s k cs h = absurd (let never : None ≡ Some t = h in cc)
one_count (Logical' c p a q b) t s k cs h = absurd (let never : None ≡ Some t = h in cc)
one_count (Not' p a) t s k cs h = absurd (let never : None ≡ Some t = h in cc)
one_count (Choice' p u q a r b) t s k cs h = absurd (let never : None ≡ Some t = h in cc)
one_count (Least' p u) t s k cs h = absurd (let never : None ≡ Some t = h in cc)
one_count (Sorted' p i q u) t s k cs h = absurd (let never : None ≡ Some t = h in cc)
one_count (Count' p u) t s k cs h =
    let same : u ≡ t = some_is h in
    ap (λ (x : Term). let c : Count = record { variable = k; test = x; store = s } in c ∷ cs) same
  where
    some_is : Some u ≡ Some t → u ≡ t
    some_is e = cc
