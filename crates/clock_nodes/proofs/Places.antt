-- Where the parts of a program stand.
use Rattle.std.proofs.Common.{◌≡◌, ℕ, zero, suc, ◌+◌, ◌-◌, true, false, List, [], ◌∷◌, ◌++◌, length, Some, IsSome, slice_get, refl, ap, ◌∙◌, arith, subst}
use Rattle.std.proofs.lemmas.Bool.{ne_eqb, le-ltb}
use Rattle.bpf_insn.specs.declared.forms.Insn.{Insn}
use Rattle.bpf_insn.specs.Encoding.{slots_taken}
use Rattle.bpf_insn.specs.Programs.{insn_at}
use Rattle.bpf_insn.specs.Edges.{BeginsAt}

-- these instructions, of one slot each, stand from a slot on
abbrev pub Stands : List Insn → ℕ → List Insn → Type 0
Stands program slot [] = Unit {0}
Stands program slot (insn ∷ rest) = (insn_at program slot ≡ Some insn) × Stands program (slot + 1) rest

pub begins : (program : List Insn) (slot : ℕ) (insn : Insn) → insn_at program slot ≡ Some insn → BeginsAt program slot
begins program slot insn e = rw e refl

-- where more stands behind them, an instruction begins with them
pub first_begins : (program : List Insn) (slot : ℕ) (is rest : List Insn) → IsSome (slice_get rest 0)
    → Stands program slot (is ++ rest) → BeginsAt program slot
first_begins program slot [] [] some h = absurd (let no : false ≡ true = some in cc)
first_begins program slot [] (i ∷ rest) some h = begins program slot i h.0
first_begins program slot (i ∷ is) rest some h = begins program slot i h.0

-- one of them, by its place
pub found_in : (program : List Insn) (slot : ℕ) (is : List Insn) (k : ℕ) (insn : Insn) → Stands program slot is
    → slice_get is k ≡ Some insn → insn_at program (slot + k) ≡ Some insn
found_in program slot [] k insn h e = absurd cc
found_in program slot (i ∷ is) zero insn h e = let here : slot + 0 ≡ slot = omega arith in
    ap (insn_at program) here ∙ h.0 ∙ e
found_in program slot (i ∷ is) (suc k) insn h e =
    let here : slot + suc k ≡ slot + 1 + k = omega arith in
    ap (insn_at program) here ∙ found_in program (slot + 1) is k insn h.1 e

-- those behind the first ones
pub stands_behind : (program : List Insn) (slot to : ℕ) (is rest : List Insn) → slot + length is ≡ to
    → Stands program slot (is ++ rest) → Stands program to rest
stands_behind program slot to [] rest e h = let here : slot ≡ to = omega (arith, e) in
    subst (λ (n : ℕ). Stands program n rest) here h
stands_behind program slot to (i ∷ is) rest e h = stands_behind program (slot + 1) to is rest (omega (arith, e)) h.1

-- ---- in the whole program

-- each takes one slot
abbrev pub Ones : List Insn → Type 0
Ones [] = Unit {0}
Ones (i ∷ is) = (slots_taken i ≡ 1) × Ones is

pub ones_append : (xs ys : List Insn) → Ones xs → Ones ys → Ones (xs ++ ys)
ones_append [] ys h g = g
ones_append (x ∷ xs) ys h g = (h.0, ones_append xs ys h.1 g)

pub found : (p : List Insn) (k : ℕ) → Ones p → insn_at p k ≡ slice_get p k
found [] k h = refl
found (i ∷ p) zero h = refl
found (i ∷ p) (suc k) h =
    let less : suc k - 1 ≡ k = omega arith in
    rw (h.0, ne_eqb (suc k) 0 (λ z. omega arith), le-ltb (suc k) 1 (omega arith), less) (found p k h.1)

stands_from : (p : List Insn) (slot : ℕ) (is : List Insn) → Ones p
    → ((k : ℕ) → slice_get p (slot + k) ≡ slice_get is k) → Stands p slot is
stands_from p slot [] ones h = tt
stands_from p slot (i ∷ is) ones h =
    let here : slot ≡ slot + 0 = omega arith in (
      found p slot ones ∙ ap (slice_get p) here ∙ h 0,
      stands_from p (slot + 1) is ones (λ k. let there : slot + 1 + k ≡ slot + suc k = omega arith in
          ap (slice_get p) there ∙ h (suc k)),
    )

pub stands_whole : (p : List Insn) → Ones p → Stands p 0 p
stands_whole p ones = stands_from p 0 p ones (λ k. let e : 0 + k ≡ k = omega arith in ap (slice_get p) e)
