-- Where the instructions of a program begin.
use Rattle.std.proofs.Common.{◌≡◌, ℕ, zero, suc, ◌+◌, ◌-◌, ◌<◌, ◌≤◌, List, [], ◌∷◌, length, take, refl, arith, subst, sym, ap, ◌∙◌, inl, inr, add-one}
use Rattle.std.specs.Prelude.{Some, slice_get}
use Rattle.std.proofs.lemmas.Bool.{le-ltb}
use Rattle.std.proofs.lemmas.Bool.{ne_eqb}
use Rattle.bpf_insn.specs.declared.forms.Insn.{Insn}
use Rattle.bpf_insn.specs.Encoding.{slots_taken}
use Rattle.bpf_insn.specs.Programs.{insn_at, slots_of}
use Rattle.bpf_insn.proofs.LayoutLaws.{one_or_two, slots_of-cons}
use Rattle.bpf_asm.specs.Listing.{beginnings_from, instruction_lines, instruction_slots}
use Rattle.scenario_notes.specs.Slots.{IsLineOfSlot}
use Rattle.scenario_notes.specs.inner.Slots.{IsAtSlot}

-- so many instructions begin at the slots of those before them
begins_at : (p : List Insn) (from i : ℕ) → i < length p
    → slice_get (beginnings_from from p) i ≡ Some (from + slots_of (take i p))
begins_at [] from i within = absurd (omega arith)
begins_at (y ∷ p) from zero within = ap Some (omega arith)
begins_at (y ∷ p) from (suc i) within =
    begins_at p (from + slots_taken y) i (omega arith) ∙ ap Some (omega (arith, slots_of-cons y (take i p)))

some_slots : (y : Insn) → 1 ≤ slots_taken y
some_slots y = elim (one_or_two y) [ inl one ↦ omega arith | inr two ↦ omega arith ]

-- behind the first instruction the others stand as they do without it
behind_first : (y : Insn) (p : List Insn) (k : ℕ) → insn_at (y ∷ p) (slots_taken y + k) ≡ insn_at p k
behind_first y p k =
    let some = some_slots y in
    let not_first = ne_eqb (slots_taken y + k) 0 (λ z. omega arith) in
    let not_within = le-ltb (slots_taken y + k) (slots_taken y) (omega arith) in
    let left : slots_taken y + k - slots_taken y ≡ k = omega arith in
    rw (not_first, not_within, left) refl

found_behind : (y : Insn) (p : List Insn) (i : ℕ) (insn : Insn)
    → insn_at (y ∷ p) (slots_of (take (suc i) (y ∷ p))) ≡ Some insn → insn_at p (slots_of (take i p)) ≡ Some insn
found_behind y p i insn found =
    sym (behind_first y p (slots_of (take i p))) ∙ ap (insn_at (y ∷ p)) (sym (slots_of-cons y (take i p))) ∙ found

-- what begins behind so many instructions is the next of them
within_at : (p : List Insn) (i : ℕ) (insn : Insn) → i ≤ length p → insn_at p (slots_of (take i p)) ≡ Some insn
    → i < length p
within_at [] zero insn few found = absurd (cc)
within_at [] (suc i) insn few found = omega arith
within_at (y ∷ p) zero insn few found = omega arith
within_at (y ∷ p) (suc i) insn few found =
    let rest = within_at p i insn (omega arith) (found_behind y p i insn found) in omega arith

grown : (p : List Insn) (i : ℕ) (insn : Insn) → i ≤ length p → insn_at p (slots_of (take i p)) ≡ Some insn
    → slots_of (take (suc i) p) ≡ slots_of (take i p) + slots_taken insn
grown [] i insn few found = absurd (cc)
grown (y ∷ p) zero insn few found =
    let same : y ≡ insn = cc in omega (arith, ap slots_taken same, slots_of-cons y [])
grown (y ∷ p) (suc i) insn few found =
    omega (
      arith,
      grown p i insn (omega arith) (found_behind y p i insn found),
      slots_of-cons y (take i p),
      slots_of-cons y (take (suc i) p),
    )

-- as many instructions lie behind as lines, and the next of them begins here
abbrev pub IsBehind : List Insn → ℕ → ℕ → Type 0
IsBehind p i next = (i ≤ length p) × (next ≡ slots_of (take i p))

pub at_slot : (p : List Insn) (lines : List ℕ) (i next slot line : ℕ) (insn : Insn) → IsBehind p i next
    → insn_at p next ≡ Some insn → next ≡ slot → slice_get lines i ≡ Some line → IsAtSlot p lines slot line
at_slot p lines i next slot line insn behind found here stands =
    let within = within_at p i insn behind.0 (ap (insn_at p) (sym behind.1) ∙ found) in
    record {
      index = i;
      at_slot = begins_at p 0 i within ∙ ap Some (omega (arith, behind.1, here));
      on_line = stands;
    }

pub next_behind : (p : List Insn) (i next slots : ℕ) (insn : Insn) → IsBehind p i next → insn_at p next ≡ Some insn
    → slots ≡ slots_taken insn → IsBehind p (i + 1) (next + slots)
next_behind p i next slots insn behind found taken =
    let here = ap (insn_at p) (sym behind.1) ∙ found in
    let within = within_at p i insn behind.0 here in
    (omega arith, rw add-one (omega (arith, behind.1, taken, grown p i insn behind.0 here)))

-- what holds of the program's instructions holds of the text's
pub line_of_slot : (text : List ℕ) (program : List Insn) (lines : List ℕ) (slot line : ℕ)
    → instruction_slots text ≡ beginnings_from 0 program
    → lines ≡ instruction_lines text → IsAtSlot program lines slot line → IsLineOfSlot text slot line
line_of_slot text program lines slot line begin same at = record {
  index = at.index;
  at_slot = ap (λ slots. slice_get slots at.index) begin ∙ at.at_slot;
  on_line = subst (λ ls. slice_get ls at.index ≡ Some line) same at.on_line;
}
