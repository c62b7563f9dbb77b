-- What the verdicts say of all settled nodes.
use Rattle.std.proofs.Common.{◌≡◌, ℕ, zero, suc, ◌+◌, ◌%◌, ◌<◌, ◌==◌, ◌↔◌, List, [], ◌∷◌, refl, ap, sym, subst, ◌∙◌, Bool, true, false, IsTrue}
use Rattle.std.specs.Prelude.{Option, Some, None, if◌then◌else◌, nat_lt, slice_get}
use Rattle.std.specs.List.{list_all}
use Rattle.std.proofs.lemmas.Bool.{and_from, and_parts, eq-eqb, eqb-true, lt-ltb, ltb-true}
use Rattle.bench_core.specs.Told.{PulseTold}
use Rattle.bench_scenario.specs.declared.verdicts.TheConstants.{FEWEST}
use Rattle.bench_scenario.specs.Verdicts.{told_clocks, settled_in, first_clock, is_clock, are_one, counts_on, joined_verdict, counting}
use Rattle.bench_scenario.specs.Laws.{SettledWith, OwnAgrees, PulsesAreCounted, CountsNothing}

-- ---- settled clocks, one node after the other

-- the clock at a place of the list
abbrev pub Has : List (Option ℕ) → ℕ → ℕ → Type 0
Has clocks i c = slice_get clocks i ≡ Some (Some c)

told_at : (flags : List Bool) (clocks : List (Option ℕ)) (i c : ℕ) → slice_get flags i ≡ Some true → Has clocks i c
    → Has (told_clocks flags clocks) i c
told_at [] clocks i c e f = absurd cc
told_at (x ∷ flags) [] i c e f = absurd cc
told_at (x ∷ flags) (k ∷ clocks) zero c e f =
    let flag : x ≡ true = cc in
    rw flag f
told_at (x ∷ flags) (k ∷ clocks) (suc i) c e f = told_at flags clocks i c e f

at_told : (flags : List Bool) (clocks : List (Option ℕ)) (i c : ℕ) → Has (told_clocks flags clocks) i c
    → (slice_get flags i ≡ Some true) × Has clocks i c
at_told [] clocks i c e = absurd cc
at_told (x ∷ flags) [] i c e = absurd cc
at_told (true ∷ flags) (k ∷ clocks) zero c e = (refl, e)
at_told (false ∷ flags) (k ∷ clocks) zero c e = absurd cc
at_told (x ∷ flags) (k ∷ clocks) (suc i) c e = at_told flags clocks i c e

settled_at : (r : PulseTold) (i c : ℕ) → SettledWith r i c → Has (settled_in r) i c
settled_at r i c is = told_at r.settled r.clocks i c is.settled is.clock

at_settled : (r : PulseTold) (i c : ℕ) → Has (settled_in r) i c → SettledWith r i c
at_settled r i c has =
    let parts = at_told r.settled r.clocks i c has in
    record { settled = parts.0; clock = parts.1 }

-- ---- agreement

pub first_there : (clocks : List (Option ℕ)) (f : ℕ) → first_clock clocks ≡ Some f → (i : ℕ) × Has clocks i f
first_there [] f e = absurd cc
first_there (Some c ∷ clocks) f e = (0, ap (λ (k : Option ℕ). Some k) e)
first_there (None ∷ clocks) f e = let rest = first_there clocks f e in (suc rest.0, rest.1)

pub none_there : (clocks : List (Option ℕ)) → first_clock clocks ≡ None → (i c : ℕ) → Has clocks i c → ⊥
none_there [] e i c has = cc
none_there (Some k ∷ clocks) e i c has = cc
none_there (None ∷ clocks) e zero c has = cc
none_there (None ∷ clocks) e (suc i) c has = none_there clocks e i c has

all_are : (f : ℕ) (clocks : List (Option ℕ)) → list_all (is_clock f) clocks ≡ true → (i c : ℕ) → Has clocks i c → c ≡ f
all_are f [] e i c has = absurd cc
all_are f (Some k ∷ clocks) e zero c has =
    let parts = and_parts (k == f) (list_all (is_clock f) clocks) e in
    let same : k ≡ c = cc in
    sym same ∙ eqb-true k f parts.0
all_are f (None ∷ clocks) e zero c has = absurd cc
all_are f (k ∷ clocks) e (suc i) c has =
    all_are f clocks (and_parts (is_clock f k) (list_all (is_clock f) clocks) e).1 i c has

are_all : (f : ℕ) (clocks : List (Option ℕ)) → ((i c : ℕ) → Has clocks i c → c ≡ f)
    → list_all (is_clock f) clocks ≡ true
are_all f [] each = refl
are_all f (Some k ∷ clocks) each =
    and_from (k == f) (list_all (is_clock f) clocks) (eq-eqb k f (each 0 k refl))
    (are_all f clocks (λ i c has. each (suc i) c has))
are_all f (None ∷ clocks) each = are_all f clocks (λ i c has. each (suc i) c has)

-- all clocks of a list are one number below the modulus
abbrev pub One : ℕ → List (Option ℕ) → Type 0
One modulus clocks = (i j c d : ℕ) → Has clocks i c → Has clocks j d → (c ≡ d) × (c < modulus)

pub one_of : (modulus : ℕ) (clocks : List (Option ℕ)) (f : Option ℕ) → first_clock clocks ≡ f
    → IsTrue (are_one modulus clocks f) ↔ One modulus clocks
one_of modulus clocks None e =
    (λ is i j c d has other. absurd (none_there clocks e i c has), λ each. refl)
one_of modulus clocks (Some f) e =
    let there = first_there clocks f e in (
      λ is i j c d has other.
          let parts = and_parts (nat_lt f modulus) (list_all (is_clock f) clocks) is in
          let one = all_are f clocks parts.1 i c has in
          let two = all_are f clocks parts.1 j d other in
          (one ∙ sym two, subst (λ (k : ℕ). k < modulus) (sym one) (ltb-true f modulus parts.0)),
      λ each. and_from (nat_lt f modulus) (list_all (is_clock f) clocks)
          (lt-ltb f modulus (each there.0 there.0 f f there.1 there.1).1)
          (are_all f clocks (λ i c has. (each i there.0 c f has there.1).0)),
    )

judged_own : (modulus : ℕ) (r : PulseTold) (few told : Bool)
    → (if few then None else Some (are_one modulus (settled_in r) (first_clock (settled_in r)))) ≡ Some told
    → are_one modulus (settled_in r) (first_clock (settled_in r)) ≡ told
judged_own modulus r true told e = absurd cc
judged_own modulus r false told e = cc

pub own_agrees : OwnAgrees
own_agrees modulus r told e =
    let same = judged_own modulus r (nat_lt r.row.settled FEWEST) told e in
    let ways = one_of modulus (settled_in r) (first_clock (settled_in r)) refl in (
      λ is i j c d has other. ways.0 (same ∙ is) i j c d (settled_at r i c has) (settled_at r j d other),
      λ each. sym same ∙ ways.1 (λ i j c d has other. each i j c d (at_settled r i c has) (at_settled r j d other)),
    )

-- ---- counting

-- all clocks that stand at one place of both lists went on by one
abbrev pub On : ℕ → List (Option ℕ) → List (Option ℕ) → Type 0
On modulus before after = (i c d : ℕ) → Has before i c → Has after i d → (c < modulus) × (d ≡ (c + 1) % modulus)

-- no clocks stand at one place of both
abbrev pub Apart : List (Option ℕ) → List (Option ℕ) → Type 0
Apart before after = (i c d : ℕ) → Has before i c → Has after i d → ⊥

on_from : (modulus b a : ℕ) → counts_on modulus b a ≡ true → (b < modulus) × (a ≡ (b + 1) % modulus)
on_from modulus b a e =
    let parts = and_parts (nat_lt b modulus) (a == (b + 1) % modulus) e in
    (ltb-true b modulus parts.0, eqb-true a ((b + 1) % modulus) parts.1)

from_on : (modulus b a : ℕ) → (b < modulus) × (a ≡ (b + 1) % modulus) → counts_on modulus b a ≡ true
from_on modulus b a on =
    and_from (nat_lt b modulus) (a == (b + 1) % modulus) (lt-ltb b modulus on.0) (eq-eqb a ((b + 1) % modulus) on.1)

-- what is said of the first nodes and of the rest is said of all
on_more : (modulus : ℕ) (b a : Option ℕ) (before after : List (Option ℕ))
    → ((c d : ℕ) → b ≡ Some c → a ≡ Some d → (c < modulus) × (d ≡ (c + 1) % modulus)) → On modulus before after
    → On modulus (b ∷ before) (a ∷ after)
on_more modulus b a before after first rest zero c d has other =
    first c d (let e : b ≡ Some c = cc in e) (let e : a ≡ Some d = cc in e)
on_more modulus b a before after first rest (suc i) c d has other = rest i c d has other

on_rest : (modulus : ℕ) (b a : Option ℕ) (before after : List (Option ℕ)) → On modulus (b ∷ before) (a ∷ after)
    → On modulus before after
on_rest modulus b a before after on = λ i c d has other. on (suc i) c d has other

apart_on : (modulus : ℕ) (before after : List (Option ℕ)) → Apart before after → On modulus before after
apart_on modulus before after apart = λ i c d has other. absurd (apart i c d has other)

apart_more : (b a : Option ℕ) (before after : List (Option ℕ)) → ((c d : ℕ) → b ≡ Some c → a ≡ Some d → ⊥)
    → Apart before after → Apart (b ∷ before) (a ∷ after)
apart_more b a before after first rest zero c d has other =
    first c d (let e : b ≡ Some c = cc in e) (let e : a ≡ Some d = cc in e)
apart_more b a before after first rest (suc i) c d has other = rest i c d has other

-- a verdict on all nodes
abbrev pub Tells : ℕ → List (Option ℕ) → List (Option ℕ) → Option Bool → Type 0
Tells modulus before after None = Apart before after
Tells modulus before after (Some told) = (IsTrue told ↔ On modulus before after) × (Apart before after → ⊥)

joins : (modulus : ℕ) (b a : ℕ) (before after : List (Option ℕ)) (rest : Option Bool) → Tells modulus before after rest
    → Tells modulus (Some b ∷ before) (Some a ∷ after) (joined_verdict (Some (counts_on modulus b a)) rest)
joins modulus b a before after None apart = (
  (
    λ is. on_more modulus (Some b) (Some a) before after
        (λ c d e f. let p : b ≡ c = cc in let q : a ≡ d = cc in
        subst (λ (k : ℕ). (k < modulus) × (d ≡ (k + 1) % modulus)) p
        (subst (λ (k : ℕ). (b < modulus) × (k ≡ (b + 1) % modulus)) q (on_from modulus b a is)))
        (apart_on modulus before after apart),
    λ on. from_on modulus b a (on 0 b a refl refl),
  ),
  λ none. none 0 b a refl refl,
)
joins modulus b a before after (Some told) rest = (
  (
    λ both.
        let parts = and_parts (counts_on modulus b a) told both in
        on_more modulus (Some b) (Some a) before after
        (λ c d e f. let p : b ≡ c = cc in let q : a ≡ d = cc in
        subst (λ (k : ℕ). (k < modulus) × (d ≡ (k + 1) % modulus)) p
        (subst (λ (k : ℕ). (b < modulus) × (k ≡ (b + 1) % modulus)) q (on_from modulus b a parts.0)))
        (rest.0.0 parts.1),
    λ on. and_from (counts_on modulus b a) told (from_on modulus b a (on 0 b a refl refl))
        (rest.0.1 (on_rest modulus (Some b) (Some a) before after on)),
  ),
  λ none. none 0 b a refl refl,
)

skips : (modulus : ℕ) (b a : Option ℕ) (before after : List (Option ℕ)) (rest : Option Bool)
    → ((c d : ℕ) → b ≡ Some c → a ≡ Some d → ⊥) → Tells modulus before after rest
    → Tells modulus (b ∷ before) (a ∷ after) rest
skips modulus b a before after None first apart = apart_more b a before after first apart
skips modulus b a before after (Some told) first rest = (
  (
    λ is. on_more modulus b a before after (λ c d e f. absurd (first c d e f)) (rest.0.0 is),
    λ on. rest.0.1 (on_rest modulus b a before after on),
  ),
  λ none. rest.1 (λ i c d has other. none (suc i) c d has other),
)

pub tells : (modulus : ℕ) (before after : List (Option ℕ)) → Tells modulus before after (counting modulus before after)
tells modulus [] after = λ i c d has other. cc
tells modulus (b ∷ before) [] = λ i c d has other. cc
tells modulus (Some b ∷ before) (Some a ∷ after) =
    joins modulus b a before after (counting modulus before after) (tells modulus before after)
tells modulus (Some b ∷ before) (None ∷ after) =
    skips modulus (Some b) None before after (counting modulus before after) (λ c d e f. cc)
    (tells modulus before after)
tells modulus (None ∷ before) (a ∷ after) =
    skips modulus None a before after (counting modulus before after) (λ c d e f. cc) (tells modulus before after)

pub counts : PulsesAreCounted
counts modulus before after verdict e =
    let told = subst (λ (v : Option Bool). Tells modulus (settled_in before) (settled_in after) v) e
    (tells modulus (settled_in before) (settled_in after)) in (
      λ is i c d has other. told.0.0 is i c d (settled_at before i c has) (settled_at after i d other),
      λ all. told.0.1 (λ i c d has other. all i c d (at_settled before i c has) (at_settled after i d other)),
    )

-- a verdict is there where nodes are
nothing_told : (modulus : ℕ) (before after : List (Option ℕ)) (v : Option Bool) → Tells modulus before after v
    → Apart before after → v ≡ None
nothing_told modulus before after None told apart = refl
nothing_told modulus before after (Some verdict) told apart = absurd (told.1 apart)

pub counts_nothing : CountsNothing
counts_nothing modulus before after = (
  λ e. let told = subst (λ (v : Option Bool). Tells modulus (settled_in before) (settled_in after) v) e
      (tells modulus (settled_in before) (settled_in after)) in
      λ i c d has other. told i c d (settled_at before i c has) (settled_at after i d other),
  λ none. nothing_told modulus (settled_in before) (settled_in after)
      (counting modulus (settled_in before) (settled_in after))
      (tells modulus (settled_in before) (settled_in after))
      (λ i c d has other. none i c d (at_settled before i c has) (at_settled after i d other)),
)
