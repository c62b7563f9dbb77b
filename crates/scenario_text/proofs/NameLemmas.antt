-- Names and what they stand for.
use Rattle.std.proofs.Common.{◌≡◌, ℕ, Bool, true, false, cond, List, Option, Some, None, refl, ap, sym, subst, ◌∙◌, arith}
use Rattle.std.specs.Prelude.{codes, unwrap_or, MatchOption}
use Rattle.std.specs.Str.{bytes_eq}
use Rattle.std.proofs.lemmas.Slice.Eq.{bytes_eq-Decides}
use Rattle.scenario_text.specs.declared.scenario.Coins.{Coins}
use Rattle.scenario_text.specs.declared.scenario.Coins.TheVariants.{Zeros, Ones, Chacha}
use Rattle.scenario_text.specs.declared.scenario.Kind.{Kind}
use Rattle.scenario_text.specs.declared.scenario.Kind.TheVariants.{Clock, Say, Echo, Asm, Rule, Noise}
use Rattle.scenario_text.specs.inner.Names.{coins_named, kind_named}
use Rattle.scenario_text.specs.Spelling.{OffersKind, coins_name, kind_name}
use Rattle.scenario_text.specs.Tables.{HasText}
use Rattle.toml.specs.Data.{Members, string}

pub nothing : {A : Type 0} {a : A} → None ≡ Some a → ⊥
nothing same = subst (λ o. MatchOption o (Unit {0}) (λ _. ⊥)) same tt

pub coins_back : (c : Coins) → coins_named (coins_name c) ≡ Some c
coins_back Zeros = refl
coins_back Ones = refl
coins_back Chacha = refl

pub kind_back : (k : Kind) → kind_named (kind_name k) ≡ Some k
kind_back Clock = refl
kind_back Say = refl
kind_back Echo = refl
kind_back Asm = refl
kind_back Rule = refl
kind_back Noise = refl

pub no_coins : (name : List ℕ) (c : Coins) → coins_named name ≡ None → name ≡ coins_name c → ⊥
no_coins name c none same = nothing (sym none ∙ (ap coins_named same ∙ coins_back c))

pub no_kind : (name : List ℕ) (k : Kind) → kind_named name ≡ None → name ≡ kind_name k → ⊥
no_kind name k none same = nothing (sym none ∙ (ap kind_named same ∙ kind_back k))

same_bytes : (a b : List ℕ) → bytes_eq a b ≡ true → a ≡ b
same_bytes a b same = grind (arith, bytes_eq-Decides a b)

-- what is chosen by a test has what the test gives
chosen : {A : Type 0} (P : A → Type 0) (test : Bool) (a : A) (rest : Option A) (c : A) → (test ≡ true → P a)
    → (rest ≡ Some c → P c)
    → cond test (Some a) rest ≡ Some c → P c
chosen P true a rest c here later found = subst P (ap (λ o. unwrap_or o a) found) (here refl)
chosen P false a rest c here later found = later found

pub coins_by_name : (name : List ℕ) (c : Coins) → coins_named name ≡ Some c → name ≡ coins_name c
coins_by_name name c =
    let Named : Coins → Type 0 = λ x. name ≡ coins_name x in
    chosen Named (bytes_eq name (codes "zeros")) Zeros _ c (same_bytes name (codes "zeros"))
    (chosen Named (bytes_eq name (codes "ones")) Ones _ c (same_bytes name (codes "ones"))
    (chosen Named (bytes_eq name (codes "chacha")) Chacha None c (same_bytes name (codes "chacha"))
    (λ found. absurd (nothing found))))

pub kind_by_name : (name : List ℕ) (k : Kind) → kind_named name ≡ Some k → name ≡ kind_name k
kind_by_name name k =
    let Named : Kind → Type 0 = λ x. name ≡ kind_name x in
    chosen Named (bytes_eq name (codes "clock")) Clock _ k (same_bytes name (codes "clock"))
    (chosen Named (bytes_eq name (codes "say")) Say _ k (same_bytes name (codes "say"))
    (chosen Named (bytes_eq name (codes "echo")) Echo _ k (same_bytes name (codes "echo"))
    (chosen Named (bytes_eq name (codes "asm")) Asm _ k (same_bytes name (codes "asm"))
    (chosen Named (bytes_eq name (codes "rule")) Rule _ k (same_bytes name (codes "rule"))
    (chosen Named (bytes_eq name (codes "noise")) Noise None k (same_bytes name (codes "noise"))
    (λ found. absurd (nothing found)))))))

-- a table names one kind of coins
pub one_coins : (ms : Members) (c d : Coins) → HasText ms (codes "coins") (coins_name c)
    → HasText ms (codes "coins") (coins_name d) → c ≡ d
one_coins ms c d first second =
    let both : Some (string (coins_name c)) ≡ Some (string (coins_name d)) = sym first ∙ second in
    let same : coins_name c ≡ coins_name d = cc in
    let named : Some c ≡ Some d = sym (coins_back c) ∙ (ap coins_named same ∙ coins_back d) in
    cc

-- a table names one kind
pub one_kind : (ms : Members) (k l : Kind) → HasText ms (codes "program") (kind_name k)
    → HasText ms (codes "program") (kind_name l) → k ≡ l
one_kind ms k l first second =
    let both : Some (string (kind_name k)) ≡ Some (string (kind_name l)) = sym first ∙ second in
    let same : kind_name k ≡ kind_name l = cc in
    let named : Some k ≡ Some l = sym (kind_back k) ∙ (ap kind_named same ∙ kind_back l) in
    cc

-- a table whose kind the version doesn't have names none that it has
pub other_version : (ms : Members) (version : ℕ) (k l : Kind) → HasText ms (codes "program") (kind_name k)
    → (OffersKind version k → ⊥) → HasText ms (codes "program") (kind_name l) → OffersKind version l → ⊥
other_version ms version k l named without other has =
    without (subst (OffersKind version) (one_kind ms l k other named) has)
