-- The code of terms is typed.
use Rattle.std.proofs.Common.{if◌then◌else◌, ◌≡◌, ℕ, zero, suc, ◌+◌, ◌-◌, ◌*◌, ◌^◌, ◌%◌, ◌<◌, ◌≤◌, ◌==◌, nat_lt, Bool, true, false, not, ◌||◌, min, ◌⊎◌, List, [], ◌∷◌, ◌++◌, length, Option, Some, None, ℤ, pos, slice_index, refl, sym, ap, ◌∙◌, arith, subst, inl, inr, length-append}
use Rattle.std.proofs.lemmas.Option.{same_Some, none-some}
use Rattle.std.proofs.lemmas.Bool.{cases_lt, lt-ltb, le-ltb, ltb-true, ne_eqb, cases_Bool, cond-true, cond-false}
use Rattle.std.proofs.Math.Nat.{mod-eq_of_lt}
use Rattle.std.specs.Int.{w32, w64, cast_signed, cast_unsigned}
use Rattle.node_env.specs.Env.{Extent}
use Rattle.bpf_insn.specs.declared.forms.Reg.TheVariants.{R0, R1, R6}
use Rattle.bpf_insn.specs.declared.forms.Width.TheVariants.{W32}
use Rattle.bpf_insn.specs.declared.forms.Size.TheVariants as size
use Rattle.bpf_insn.specs.declared.forms.AluOp.TheVariants.{Add, Sub, Mul, Div, Mod, Mov}
use Rattle.bpf_insn.specs.declared.forms.AluOp.{AluOp}
use Rattle.bpf_insn.specs.declared.forms.Operand.{Operand}
use Rattle.bpf_insn.specs.Operands.{operand_reads}
use Rattle.bpf_insn.specs.declared.forms.Cond.TheVariants.{Lt, Ge}
use Rattle.bpf_insn.specs.declared.forms.Operand.TheVariants as operand
use Rattle.bpf_insn.specs.declared.forms.Insn.{Insn}
use Rattle.bpf_insn.specs.declared.forms.Insn.TheVariants as i
use Rattle.bpf_insn.specs.declared.forms.Reg.{Reg}
use Rattle.bpf_insn.specs.declared.edges.Way.TheVariants.{Onward, Jumping}
use Rattle.bpf_insn.specs.Registers.{register_number}
use Rattle.bpf_insn.specs.Edges.{BeginsAt, target}
use Rattle.value_range.specs.Span.{Span, span, just, full_of, IsInside, HasMembers}
use Rattle.value_range.proofs.Growing.{alu_grows}
use Rattle.value_range.specs.Results.{alu_of as range_of}
use Rattle.value_range.specs.Conditions.{less, branch_of, ArePairsInside}
use Rattle.value_range.proofs.GrowingPairs.{branch_grows}
use Rattle.bpf_verify.specs.declared.abstract_value.AbstractValue.{AbstractValue}
use Rattle.bpf_verify.specs.declared.abstract_value.AbstractValue.TheVariants.{Unset, Number}
use Rattle.bpf_verify.specs.States.{AbstractState, stack_base, IsKindIn, IsContainedIn, IsProper, IsProperKind, is_pointer_kind, is_unset_kind, kind_of}
use Rattle.bpf_verify.specs.Rules.{operand_kind, some_unset}
use Rattle.bpf_verify.specs.Outcomes.{outcome, refined_by, branch_outcome, of_number_kind, of_number_kinds, with_kind}
use Rattle.bpf_verify.specs.Typable.{Table, IsCovered}
use Rattle.bpf_verify.proofs.StateLaws.{kind_in_itself, contained_further}
use Rattle.clock_nodes.proofs.Taken.{covered, keeps_own, KeepsOwn}
use Rattle.rule_syntax.specs.declared.syntax.Sizes.{Sizes}
use Rattle.rule_syntax.specs.declared.syntax.Operation.{Operation}
use Rattle.rule_syntax.specs.declared.syntax.Operation.TheVariants.{Sum, Difference, Product, Quotient, Remainder}
use Rattle.rule_syntax.specs.declared.syntax.Comparison.{Comparison}
use Rattle.rule_syntax.specs.declared.syntax.Comparison.TheVariants.{Equal, NotEqual, Less, AtMost, Greater, AtLeast}
use Rattle.rule_syntax.specs.declared.syntax.Operator.{Operator}
use Rattle.rule_syntax.specs.declared.syntax.Operator.TheVariants.{Compute, Compare}
use Rattle.rule_nodes.specs.declared.numbers.TheConstants.{PLACES}
use Rattle.rule_nodes.specs.declared.numbers.Place.{Place}
use Rattle.rule_nodes.specs.declared.numbers.Place.TheVariants.{InRegister, OnStack}
use Rattle.rule_nodes.specs.declared.numbers.Purpose.{Purpose}
use Rattle.rule_nodes.specs.declared.numbers.Purpose.TheVariants.{Value, Jump}
use Rattle.rule_nodes.specs.declared.numbers.Tally.{Tally}
use Rattle.rule_nodes.specs.declared.numbers.Tally.TheVariants.{HowMany, LeastMessage}
use Rattle.rule_nodes.specs.declared.numbers.Source.{Source}
use Rattle.rule_nodes.specs.declared.numbers.Source.TheVariants.{Constant, FromLocal, FromWord, Computed}
use Rattle.rule_syntax.specs.declared.syntax.Term.{Term}
use Rattle.rule_syntax.specs.declared.syntax.Term.TheVariants.{Number as Numeral, Nodes, Faults, Modulus, Me, Coin, LoopNode, Local, Word, Message', Binary', Logical', Not', Choice', Count', Least', Sorted'}
use Rattle.rule_meaning.specs.Meaning.{apply_operator}
use Rattle.rule_nodes.specs.Operands.{is_constant, is_operand, is_shared, constant_number, depth_behind, fetched_source, term_source}
use Rattle.rule_nodes.specs.Fits.{HasPlace, SidesFit, Fits, TallyFits}
use Rattle.rule_nodes.specs.Code.{number_place, fetch_code, keep_code, start_code, increment_code, place_operand, load_place, set_number, copy, alu_op_of, cond_of, jump_on, jump_by, jump_at, beyond_purpose, truth_code, by_value, by_test, get_code, operand_code, load_code, jump_register, by_operator, left_code, right_code, beside_code, binary_code, message_by, mirror, set_node, choice_code, if_code, decides, both_far, both_code, message_code, lower_code, tally_start, tally_step, tests_code, tallied_code, tally_code, tally_test, shared_code, sides_code, items_code, exchange_code, exchange_codes, pass_code, pass_codes, nearer_end, passes_before, sorted_code, term_code, over_code}
use Rattle.rule_nodes.proofs.Places.{IsPlace, place_is, not_frame}
use Rattle.rule_nodes.proofs.Sources.{is_found}
use Rattle.rule_nodes.proofs.TallyLaws.{steps_alike}
use Rattle.rule_nodes.proofs.FitsLess.{fits_less}
use Rattle.rule_nodes.proofs.TermRuns.{found_same, behind_more, free_beside, same_depth}
use Rattle.rule_nodes.proofs.Typing.{memory_place, word, held, written_at, known, plain, valued, within, proper_known, some_word, into, Grows, grows_none, written_less, placed_in, placed_beside, register_kind, short, seen, Typing, typed_then, typed_as, typed_none, one_on, one_jump, one_fork, number_typed, fetch_place, fetch_typed, keep_beside, keep_typed, change_typed, begin_typed, second_typed}

held_below : (k d e : ℕ) → d ≤ e → IsKindIn (held k e) (held k d)
held_below k d e le = elim (cases_lt k d) [
  | inl h ↦ rw (lt-ltb k d h, lt-ltb k e (omega (arith, h, le))) (kind_in_itself word)
  | inr h ↦ rw (le-ltb k d h) tt
]

-- places may be forgotten
pub known_below : (d e : ℕ) (k0 k1 k2 : AbstractValue) → d ≤ e → IsContainedIn (known e k0 k1 k2) (known d k0 k1 k2)
known_below d e k0 k1 k2 le =
    within (known e k0 k1 k2) k0 k1 k2 memory_place (held 0 d) (held 1 d) (held 2 d) stack_base (written_at d)
    (kind_in_itself k0) (kind_in_itself k1) (kind_in_itself k2) (kind_in_itself memory_place) (held_below 0 d e le)
    (held_below 1 d e le) (held_below 2 d e le) (kind_in_itself stack_base) (written_less d e le)

pub known_less : (d : ℕ) (k0 k1 k2 : AbstractValue) → IsContainedIn (known (d + 1) k0 k1 k2) (known d k0 k1 k2)
known_less d k0 k1 k2 = known_below d (d + 1) k0 k1 k2 (omega arith)

pub covers_less : (table : Table) (A C : AbstractState) (to : ℕ) → IsContainedIn A C → IsCovered table C to
    → IsCovered table A to
covers_less table A C to h g = let v = seen table C to g in
    covered table A v.there to v.stands (contained_further A C v.there h v.inside)

-- what a condition on r0 leaves
pub left_imm : (d : ℕ) (v : _) (found : Option (Span × Span)) (C : AbstractState)
    → refined_by (valued d) R0 (operand.Imm v) found ≡ Some C → IsContainedIn C (plain d)
left_imm d v None C e = absurd (none-some C e)
left_imm d v (Some pair) C e = subst (λ (x : AbstractState). IsContainedIn x (plain d)) (same_Some _ C e)
    (into _ d Unset Unset Unset tt tt tt refl)

-- a source is in scope, or in the memory
abbrev pub IsThere : Source → ℕ → ℕ → Type 0
IsThere (Constant c) lets memory = Unit {0}
IsThere (FromLocal k) lets memory = k < lets
IsThere (FromWord k) lets memory = 4 * k + 4 ≤ memory
IsThere Computed lets memory = Unit {0}

fetched_there : (t : Term) (z : Sizes) (loops lets d : ℕ) → Fits t z loops lets d
    → IsThere (fetched_source t) lets z.memory
fetched_there (Local k) z loops lets d fits = fits
fetched_there (Word k) z loops lets d fits = fits
fetched_there t z loops lets d fits = tt

pub source_there : (t : Term) (z : Sizes) (J : List ℕ) (loops lets d : ℕ) → Fits t z loops lets d
    → IsThere (term_source t z J) lets z.memory
source_there t z J loops lets d fits =
    let c = Constant (constant_number t z J) in
    let P : Source → Type 0 = λ x. IsThere x lets z.memory in
    elim (cases_Bool (is_constant t)) [
      | inl so ↦ subst P (sym (cond-true (is_constant t) c (fetched_source t) so)) tt
      | inr other ↦ subst P (sym (cond-false (is_constant t) c (fetched_source t) other))
          (fetched_there t z loops lets d fits)
    ]

-- what r1 holds beside r0
abbrev pub place_r1 : Place → AbstractValue
place_r1 (InRegister register) = Unset
place_r1 (OnStack off) = word

abbrev pub r1_kind : Source → AbstractValue
r1_kind (Constant c) = Unset
r1_kind (FromLocal k) = place_r1 (number_place k)
r1_kind (FromWord k) = word
r1_kind Computed = word

proper_r1 : (p : Place) → IsProperKind (place_r1 p)
proper_r1 (InRegister register) = tt
proper_r1 (OnStack off) = some_word

abbrev pub paired : Source → ℕ → AbstractState
paired y d = known d word (r1_kind y) Unset

proper_paired : (y : Source) (d : ℕ) → IsProper (paired y d)
proper_paired (Constant c) d = proper_known d word Unset Unset some_word tt tt
proper_paired (FromLocal k) d = proper_known d word (place_r1 (number_place k)) Unset some_word (proper_r1 (number_place k)) tt
proper_paired (FromWord k) d = proper_known d word word Unset some_word some_word tt
proper_paired Computed d = proper_known d word word Unset some_word some_word tt

-- an operand is a number of 32 bits
record OperandIs (src : Operand) (A : AbstractState) : Type 0 where
  range : Span
  kind : operand_kind W32 src A ≡ Number range
  set : some_unset A (operand_reads src) ≡ false
  ordered : HasMembers range
  inside : IsInside range (full_of 32)

word_inside : IsInside (full_of 32) (full_of 32)
word_inside = record { low = omega arith; high = omega arith }

place_operand_is : (p : Place) (k d : ℕ) → IsPlace p k → k < d
    → OperandIs (place_operand p) (known d word (place_r1 p) Unset)
place_operand_is (InRegister register) k d is lt =
    let e : kind_of (known d word Unset Unset) register ≡ word = register_kind register k d word Unset Unset is lt in
    record {
      range = full_of 32;
      kind = e;
      set = ap (λ (q : AbstractValue). is_unset_kind q || false) e;
      ordered = some_word;
      inside = word_inside;
    }
place_operand_is (OnStack off) k d is lt =
    record { range = full_of 32; kind = refl; set = refl; ordered = some_word; inside = word_inside }

operand_is : (y : Source) (d lets memory : ℕ) → IsThere y lets memory → lets ≤ d → d ≤ PLACES
    → OperandIs (operand_code y) (paired y d)
operand_is (Constant c) d lets memory there below few = record {
  range = just (cast_unsigned w64 (cast_signed w32 c) % 2 ^ 32);
  kind = refl;
  set = refl;
  ordered = record { ordered = omega arith };
  inside = record { low = omega arith; high = omega arith };
}
operand_is (FromLocal k) d lets memory there below few =
    place_operand_is (number_place k) k d (place_is k (omega (arith, there, below, few))) (omega (arith, there, below))
operand_is (FromWord k) d lets memory there below few =
    record { range = full_of 32; kind = refl; set = refl; ordered = some_word; inside = word_inside }
operand_is Computed d lets memory there below few =
    record { range = full_of 32; kind = refl; set = refl; ordered = some_word; inside = word_inside }

-- the result of an operation on a number of 32 bits and an operand is one
pub word_result : (op : AluOp) (k : AbstractValue) (s : Span) → k ≡ Number s → HasMembers s → IsInside s (full_of 32)
    → range_of op W32 (full_of 32) (full_of 32) ≡ full_of 32
    → IsKindIn (of_number_kind (range_of op W32 (full_of 32)) k) word
word_result op k s e ordered inside same = (
  range_of op W32 (full_of 32) s,
  ap (of_number_kind (range_of op W32 (full_of 32))) e,
  subst (λ (x : Span). IsInside (range_of op W32 (full_of 32) s) x) same
      (alu_grows op W32 (full_of 32) s (full_of 32) (full_of 32) (record { ordered = omega arith }) ordered
      word_inside inside),
)

-- what a comparison of two numbers of 32 bits leaves of each
branch_inside : (r : Comparison) (taken : Bool) (pair : Span × Span)
    → branch_of (cond_of r) W32 (full_of 32) (full_of 32) taken ≡ Some pair
    → IsInside pair.0 (full_of 32) × IsInside pair.1 (full_of 32)
branch_inside Equal true pair e = subst (λ (p : Span × Span). IsInside p.0 (full_of 32) × IsInside p.1 (full_of 32))
    (same_Some _ pair e)
    (record { low = omega arith; high = omega arith }, record { low = omega arith; high = omega arith })
branch_inside Equal false pair e = subst (λ (p : Span × Span). IsInside p.0 (full_of 32) × IsInside p.1 (full_of 32))
    (same_Some _ pair e)
    (record { low = omega arith; high = omega arith }, record { low = omega arith; high = omega arith })
branch_inside NotEqual true pair e = subst (λ (p : Span × Span). IsInside p.0 (full_of 32) × IsInside p.1 (full_of 32))
    (same_Some _ pair e)
    (record { low = omega arith; high = omega arith }, record { low = omega arith; high = omega arith })
branch_inside NotEqual false pair e = subst (λ (p : Span × Span). IsInside p.0 (full_of 32) × IsInside p.1 (full_of 32))
    (same_Some _ pair e)
    (record { low = omega arith; high = omega arith }, record { low = omega arith; high = omega arith })
branch_inside Less true pair e = subst (λ (p : Span × Span). IsInside p.0 (full_of 32) × IsInside p.1 (full_of 32))
    (same_Some _ pair e)
    (record { low = omega arith; high = omega arith }, record { low = omega arith; high = omega arith })
branch_inside Less false pair e = subst (λ (p : Span × Span). IsInside p.0 (full_of 32) × IsInside p.1 (full_of 32))
    (same_Some _ pair e)
    (record { low = omega arith; high = omega arith }, record { low = omega arith; high = omega arith })
branch_inside AtMost true pair e = subst (λ (p : Span × Span). IsInside p.0 (full_of 32) × IsInside p.1 (full_of 32))
    (same_Some _ pair e)
    (record { low = omega arith; high = omega arith }, record { low = omega arith; high = omega arith })
branch_inside AtMost false pair e = subst (λ (p : Span × Span). IsInside p.0 (full_of 32) × IsInside p.1 (full_of 32))
    (same_Some _ pair e)
    (record { low = omega arith; high = omega arith }, record { low = omega arith; high = omega arith })
branch_inside Greater true pair e = subst (λ (p : Span × Span). IsInside p.0 (full_of 32) × IsInside p.1 (full_of 32))
    (same_Some _ pair e)
    (record { low = omega arith; high = omega arith }, record { low = omega arith; high = omega arith })
branch_inside Greater false pair e = subst (λ (p : Span × Span). IsInside p.0 (full_of 32) × IsInside p.1 (full_of 32))
    (same_Some _ pair e)
    (record { low = omega arith; high = omega arith }, record { low = omega arith; high = omega arith })
branch_inside AtLeast true pair e = subst (λ (p : Span × Span). IsInside p.0 (full_of 32) × IsInside p.1 (full_of 32))
    (same_Some _ pair e)
    (record { low = omega arith; high = omega arith }, record { low = omega arith; high = omega arith })
branch_inside AtLeast false pair e = subst (λ (p : Span × Span). IsInside p.0 (full_of 32) × IsInside p.1 (full_of 32))
    (same_Some _ pair e)
    (record { low = omega arith; high = omega arith }, record { low = omega arith; high = omega arith })

-- and of the first, beside one number
inside_further : (a b : Span) → IsInside a b → IsInside b (full_of 32) → IsInside a (full_of 32)
inside_further a b h g = record { low = omega (arith, h.low, g.low); high = omega (arith, h.high, g.high) }

branch_first : (r : Comparison) (taken : Bool) (n : ℕ) (pair : Span × Span) → n < 2 ^ 32
    → branch_of (cond_of r) W32 (full_of 32) (just n) taken ≡ Some pair → IsInside pair.0 (full_of 32)
branch_first Equal true n pair small e =
    let all = subst (λ (found : Option (Span × Span)). ArePairsInside found (branch_of (cond_of Equal) W32 (full_of 32)
    (full_of 32) true)) e (branch_grows (cond_of Equal) W32 (full_of 32) (just n) (full_of 32)
    (full_of 32) true some_word
    (record { ordered = omega arith }) word_inside (record { low = omega arith; high = omega (arith, small) })) in
    inside_further pair.0 _ all.0 (record { low = omega arith; high = omega arith })
branch_first Equal false n pair small e =
    let all = subst (λ (found : Option (Span × Span)). ArePairsInside found (branch_of (cond_of Equal) W32 (full_of 32)
    (full_of 32) false)) e (branch_grows (cond_of Equal) W32 (full_of 32) (just n) (full_of 32)
    (full_of 32) false some_word
    (record { ordered = omega arith }) word_inside (record { low = omega arith; high = omega (arith, small) })) in
    inside_further pair.0 _ all.0 (record { low = omega arith; high = omega arith })
branch_first NotEqual true n pair small e =
    let all = subst (λ (found : Option (Span × Span)). ArePairsInside found
    (branch_of (cond_of NotEqual) W32 (full_of 32) (full_of 32) true)) e (branch_grows (cond_of NotEqual) W32
    (full_of 32) (just n) (full_of 32) (full_of 32) true some_word
    (record { ordered = omega arith }) word_inside (record { low = omega arith; high = omega (arith, small) })) in
    inside_further pair.0 _ all.0 (record { low = omega arith; high = omega arith })
branch_first NotEqual false n pair small e =
    let all = subst (λ (found : Option (Span × Span)). ArePairsInside found
    (branch_of (cond_of NotEqual) W32 (full_of 32) (full_of 32) false)) e (branch_grows (cond_of NotEqual) W32
    (full_of 32) (just n) (full_of 32) (full_of 32) false some_word
    (record { ordered = omega arith }) word_inside (record { low = omega arith; high = omega (arith, small) })) in
    inside_further pair.0 _ all.0 (record { low = omega arith; high = omega arith })
branch_first Less true n pair small e =
    let all = subst (λ (found : Option (Span × Span)). ArePairsInside found (branch_of (cond_of Less) W32 (full_of 32)
    (full_of 32) true)) e (branch_grows (cond_of Less) W32 (full_of 32) (just n) (full_of 32)
    (full_of 32) true some_word
    (record { ordered = omega arith }) word_inside (record { low = omega arith; high = omega (arith, small) })) in
    inside_further pair.0 _ all.0 (record { low = omega arith; high = omega arith })
branch_first Less false n pair small e =
    let all = subst (λ (found : Option (Span × Span)). ArePairsInside found (branch_of (cond_of Less) W32 (full_of 32)
    (full_of 32) false)) e (branch_grows (cond_of Less) W32 (full_of 32) (just n) (full_of 32)
    (full_of 32) false some_word
    (record { ordered = omega arith }) word_inside (record { low = omega arith; high = omega (arith, small) })) in
    inside_further pair.0 _ all.0 (record { low = omega arith; high = omega arith })
branch_first AtMost true n pair small e =
    let all = subst (λ (found : Option (Span × Span)). ArePairsInside found (branch_of (cond_of AtMost) W32 (full_of 32)
    (full_of 32) true)) e (branch_grows (cond_of AtMost) W32 (full_of 32) (just n) (full_of 32)
    (full_of 32) true some_word
    (record { ordered = omega arith }) word_inside (record { low = omega arith; high = omega (arith, small) })) in
    inside_further pair.0 _ all.0 (record { low = omega arith; high = omega arith })
branch_first AtMost false n pair small e =
    let all = subst (λ (found : Option (Span × Span)). ArePairsInside found (branch_of (cond_of AtMost) W32 (full_of 32)
    (full_of 32) false)) e (branch_grows (cond_of AtMost) W32 (full_of 32) (just n) (full_of 32)
    (full_of 32) false some_word
    (record { ordered = omega arith }) word_inside (record { low = omega arith; high = omega (arith, small) })) in
    inside_further pair.0 _ all.0 (record { low = omega arith; high = omega arith })
branch_first Greater true n pair small e =
    let all = subst (λ (found : Option (Span × Span)). ArePairsInside found
    (branch_of (cond_of Greater) W32 (full_of 32) (full_of 32) true)) e (branch_grows (cond_of Greater) W32 (full_of 32)
    (just n) (full_of 32) (full_of 32) true some_word
    (record { ordered = omega arith }) word_inside (record { low = omega arith; high = omega (arith, small) })) in
    inside_further pair.0 _ all.0 (record { low = omega arith; high = omega arith })
branch_first Greater false n pair small e =
    let all = subst (λ (found : Option (Span × Span)). ArePairsInside found
    (branch_of (cond_of Greater) W32 (full_of 32) (full_of 32) false)) e (branch_grows (cond_of Greater) W32
    (full_of 32) (just n) (full_of 32) (full_of 32) false some_word
    (record { ordered = omega arith }) word_inside (record { low = omega arith; high = omega (arith, small) })) in
    inside_further pair.0 _ all.0 (record { low = omega arith; high = omega arith })
branch_first AtLeast true n pair small e =
    let all = subst (λ (found : Option (Span × Span)). ArePairsInside found
    (branch_of (cond_of AtLeast) W32 (full_of 32) (full_of 32) true)) e (branch_grows (cond_of AtLeast) W32 (full_of 32)
    (just n) (full_of 32) (full_of 32) true some_word
    (record { ordered = omega arith }) word_inside (record { low = omega arith; high = omega (arith, small) })) in
    inside_further pair.0 _ all.0 (record { low = omega arith; high = omega arith })
branch_first AtLeast false n pair small e =
    let all = subst (λ (found : Option (Span × Span)). ArePairsInside found
    (branch_of (cond_of AtLeast) W32 (full_of 32) (full_of 32) false)) e (branch_grows (cond_of AtLeast) W32
    (full_of 32) (just n) (full_of 32) (full_of 32) false some_word
    (record { ordered = omega arith }) word_inside (record { low = omega arith; high = omega (arith, small) })) in
    inside_further pair.0 _ all.0 (record { low = omega arith; high = omega arith })

left_place : (r : Comparison) (taken : Bool) (register : Reg) (k d n : ℕ) (v : ℤ) (K : AbstractValue) (C : AbstractState)
    → IsPlace (InRegister register) k → k < d → n < 2 ^ 32 → K ≡ word
    → branch_outcome (plain d) (cond_of r) W32 register (operand.Imm v) taken K (Number (just n)) ≡ Some C
    → IsContainedIn C (plain d)
left_place r taken register k d n v K C is lt small e q =
    let h = subst (λ (x : AbstractValue). branch_outcome (plain d) (cond_of r) W32 register (operand.Imm v) taken x
    (Number (just n)) ≡ Some C) e q in
    by (branch_of (cond_of r) W32 (full_of 32) (just n) taken) refl h
  where
    by : (found : Option (Span × Span)) → branch_of (cond_of r) W32 (full_of 32) (just n) taken ≡ found
        → refined_by (plain d) register (operand.Imm v) found ≡ Some C → IsContainedIn C (plain d)
    by None f h = absurd (none-some C h)
    by (Some pair) f h = subst (λ (x : AbstractState). IsContainedIn x (plain d)) (same_Some _ C h)
        (placed_in register k d d (plain d) (Number pair.0) is (grows_none k d lt) refl
        (pair.0, refl, branch_first r taken n pair small f))

-- a number in r0 may be forgotten
pub valued_less : (d : ℕ) → IsContainedIn (valued d) (plain d)
valued_less d = into (valued d) d Unset Unset Unset tt tt tt refl

-- what a comparison of r0 and r1 leaves
left_reg : (r : Comparison) (taken : Bool) (d : ℕ) (C : AbstractState)
    → refined_by (known d word word Unset) R0 (operand.Reg R1)
    (branch_of (cond_of r) W32 (full_of 32) (full_of 32) taken) ≡ Some C → IsContainedIn C (valued d)
left_reg r taken d C e = by (branch_of (cond_of r) W32 (full_of 32) (full_of 32) taken) refl e
  where
    by : (found : Option (Span × Span)) → branch_of (cond_of r) W32 (full_of 32) (full_of 32) taken ≡ found
        → refined_by (known d word word Unset) R0 (operand.Reg R1) found ≡ Some C → IsContainedIn C (valued d)
    by None f h = absurd (none-some C h)
    by (Some pair) f h = subst (λ (x : AbstractState). IsContainedIn x (valued d)) (same_Some _ C h)
        (into _ d word Unset Unset (pair.0, refl, (branch_inside r taken pair f).0) tt tt refl)

-- both stay numbers of 32 bits
both_left : (r : Comparison) (taken : Bool) (d : ℕ) (C : AbstractState)
    → refined_by (known d word word Unset) R0 (operand.Reg R1)
    (branch_of (cond_of r) W32 (full_of 32) (full_of 32) taken) ≡ Some C → IsContainedIn C (known d word word Unset)
both_left r taken d C e = by (branch_of (cond_of r) W32 (full_of 32) (full_of 32) taken) refl e
  where
    by : (found : Option (Span × Span)) → branch_of (cond_of r) W32 (full_of 32) (full_of 32) taken ≡ found
        → refined_by (known d word word Unset) R0 (operand.Reg R1) found ≡ Some C
        → IsContainedIn C (known d word word Unset)
    by None f h = absurd (none-some C h)
    by (Some pair) f h =
        let inside = branch_inside r taken pair f in
        subst (λ (x : AbstractState). IsContainedIn x (known d word word Unset)) (same_Some _ C h)
        (into _ d word word Unset (pair.0, refl, inside.0) (pair.1, refl, inside.1) tt refl)

-- what a comparison of r0 and the register of a place leaves
left_register : (r : Comparison) (taken : Bool) (register : Reg) (k d : ℕ) (K : AbstractValue) (C : AbstractState)
    → IsPlace (InRegister register) k → k < d → K ≡ word
    → branch_outcome (valued d) (cond_of r) W32 R0 (operand.Reg register) taken word K ≡ Some C
    → IsContainedIn C (valued d)
left_register r taken register k d K C is lt e q =
    let h = subst (λ (x : AbstractValue). branch_outcome (valued d) (cond_of r) W32 R0 (operand.Reg register) taken word x
    ≡ Some C) e q in
    by (branch_of (cond_of r) W32 (full_of 32) (full_of 32) taken) refl h
  where
    apart : (register_number register == 0) ≡ false
    apart = ne_eqb (register_number register) 0 (λ q. omega (arith, q, is.0))

    by : (found : Option (Span × Span)) → branch_of (cond_of r) W32 (full_of 32) (full_of 32) taken ≡ found
        → refined_by (valued d) R0 (operand.Reg register) found ≡ Some C → IsContainedIn C (valued d)
    by None f h = absurd (none-some C h)
    by (Some pair) f h =
        let A = with_kind (valued d) R0 (Number pair.0) in
        let B = with_kind A register (Number pair.1) in
        let both : refined_by (valued d) R0 (operand.Reg register) (Some pair) ≡ Some B = rw apart refl in
        let inside = branch_inside r taken pair f in
        subst (λ (x : AbstractState). IsContainedIn x (valued d)) (same_Some B C (sym both ∙ h))
        (placed_beside register k d d A (Number pair.1) word is (grows_none k d lt) refl
        (pair.1, refl, inside.1) (pair.0, refl, inside.0))

module _ (program : List Insn) (shape : Extent) (last : ℕ) (solid : (k : ℕ) → k ≤ last → BeginsAt program k) where
  abbrev T : ℕ → List Insn → (Table → Type 0) → (Table → Type 0) → Type 0
  T slot code O A = Typing program shape last solid slot code O A

  abbrev C : AbstractState → ℕ → Table → Type 0
  C A to table = IsCovered table A to

  -- one part after the other, which offers what the first asks
  pub typed_seq : (slot to : ℕ) (xs ys : List Insn) (O M A : Table → Type 0) → slot + length xs ≡ to → T slot xs O M
      → T to ys M A → T slot (xs ++ ys) O A
  typed_seq slot to xs ys O M A e t1 t2 =
      typed_as program shape last solid slot (xs ++ ys) (λ table. O table × M table) A O A (λ table h. h.0)
      (λ table h. h)
      (typed_then program shape last solid slot to xs ys O M M A e t1 t2 (λ table m a. m))

  pub typed_at : (slot to to2 : ℕ) (code : List Insn) (O : Table → Type 0) (A : AbstractState) → to ≡ to2
      → T slot code O (C A to) → T slot code O (C A to2)
  typed_at slot to to2 code O A e t = subst (λ (n : ℕ). T slot code O (C A n)) e t

  -- where a term leads
  abbrev pub Exits : Purpose → ℕ → ℕ → Table → Type 0
  Exits Value d to table = C (valued d) to table
  Exits (Jump when far) d to table = C (plain d) to table × C (plain d) (to + far) table

  abbrev TermTyped : Purpose → ℕ → ℕ → List Insn → Type 0
  TermTyped purpose d slot code = T slot code (C (plain d) slot) (Exits purpose d (slot + length code))

  by_value_typed : (purpose : Purpose) (d slot : ℕ) (code : List Insn)
      → slot + length (by_value purpose code) + beyond_purpose purpose ≤ last
      → (slot + length code ≤ last → TermTyped Value d slot code) → TermTyped purpose d slot (by_value purpose code)
  by_value_typed Value d slot code le t = t (omega (arith, le))
  by_value_typed (Jump when far) d slot code le t =
      let j = jump_at (jump_on when NotEqual) 0 far in
      let len : length (code ++ j ∷ []) ≡ length code + 1 = length-append code (j ∷ []) in
      let to = slot + length code in
      let f = one_fork program shape last solid to far (cond_of (jump_on when NotEqual)) R0
      (operand.Imm (pos 0)) (valued d) (plain d) (plain d) (λ x e. left_imm d (pos 0) _ x e)
      (λ x e. left_imm d (pos 0) _ x e)
      (proper_known d word Unset Unset some_word tt tt) (keeps_own _ _ _ refl) (omega (arith, len, le)) in
      let e : to + 1 ≡ slot + length (code ++ j ∷ []) = omega (arith, len) in
      let g = subst (λ (n : ℕ). T to (j ∷ []) (C (valued d) to) (λ table. C (plain d) n table × C (plain d)
      (n + far) table)) e f in
      typed_seq slot to code (j ∷ []) (C (plain d) slot) (C (valued d) to) _ refl (t (omega (arith, len, le))) g

  -- the number of a test
  truth_typed : (d slot : ℕ) → slot + 3 ≤ last
      → T slot truth_code (λ table. C (plain d) slot table × C (plain d) (slot + 2) table) (C (valued d) (slot + 3))
  truth_typed d slot le =
      let a = number_typed program shape last solid d 1 slot (omega (arith, le)) in
      let b = one_jump program shape last solid (slot + 1) 1 (valued d)
      (proper_known d word Unset Unset some_word tt tt) (omega (arith, le)) in
      let c = number_typed program shape last solid d 0 (slot + 2) (omega (arith, le)) in
      let e1 : slot + 1 + 1 + 1 ≡ slot + 3 = omega arith in
      let e2 : slot + 2 + 1 ≡ slot + 3 = omega arith in
      let b1 = typed_at (slot + 1) (slot + 1 + 1 + 1) (slot + 3) (i.Ja (pos 1) ∷ []) (C (valued d) (slot + 1))
      (valued d) e1 b in
      let c1 = typed_at (slot + 2) (slot + 2 + 1) (slot + 3) (set_number R0 0 ∷ []) (C (plain d) (slot + 2))
      (valued d) e2 c in
      let bc = typed_then program shape last solid (slot + 1) (slot + 2) (i.Ja (pos 1) ∷ []) (set_number R0 0 ∷ [])
      (C (valued d) (slot + 1)) (C (valued d) (slot + 3)) (C (plain d) (slot + 2))
      (C (valued d) (slot + 3)) (omega arith)
      b1 c1 (λ table o asks. asks) in
      let abc = typed_then program shape last solid slot (slot + 1) (set_number R0 1 ∷ [])
      (i.Ja (pos 1) ∷ set_number R0 0 ∷ []) (C (plain d) slot) (C (valued d) (slot + 1))
      (λ table. C (valued d) (slot + 1) table × C (plain d) (slot + 2) table) (C (valued d) (slot + 3)) refl a bc
      (λ table o asks. o.0) in
      typed_as program shape last solid slot truth_code
      (λ table. C (plain d) slot table × (C (valued d) (slot + 1) table × C (plain d) (slot + 2) table))
      (C (valued d) (slot + 3))
      (λ table. C (plain d) slot table × C (plain d) (slot + 2) table) (C (valued d) (slot + 3))
      (λ table h. (h.0, h.1.1))
      (λ table h. h) abc

  by_test_typed : (purpose : Purpose) (d slot : ℕ) (test : Bool → ℕ → List Insn)
      → slot + length (by_test purpose test) + beyond_purpose purpose ≤ last
      → ((when : Bool) (far : ℕ) → slot + length (test when far) + far ≤ last → TermTyped (Jump when far) d slot
      (test when far))
      → TermTyped purpose d slot (by_test purpose test)
  by_test_typed Value d slot test le t =
      let code = test false 2 in
      let len : length (code ++ truth_code) ≡ length code + 3 = length-append code truth_code in
      let to = slot + length code in
      let e : to + 3 ≡ slot + length (code ++ truth_code) = omega (arith, len) in
      typed_at slot (to + 3) (slot + length (code ++ truth_code)) (code ++ truth_code) (C (plain d) slot) (valued d) e
      (typed_seq slot to code truth_code (C (plain d) slot) (λ table. C (plain d) to table × C (plain d) (to + 2) table)
      (C (valued d) (to + 3)) refl (t false 2 (omega (arith, len, le))) (truth_typed d to (omega (arith, len, le))))
  by_test_typed (Jump when far) d slot test le t = t when far le

  -- a state with one more place than is known where a term leads
  exits_less : (purpose : Purpose) (d to : ℕ) (table : Table) → Exits purpose d to table → Exits purpose (d + 1) to table
  exits_less Value d to table h = covers_less table (valued (d + 1)) (valued d) to (known_less d word Unset Unset) h
  exits_less (Jump when far) d to table h = (
    covers_less table (plain (d + 1)) (plain d) to (known_less d Unset Unset Unset) h.0,
    covers_less table (plain (d + 1)) (plain d) (to + far) (known_less d Unset Unset Unset) h.1,
  )

  -- a number in place d, and what follows
  kept_typed : (d slot : ℕ) (left back : List Insn) (A : Table → Type 0) → d < PLACES
      → slot + length (left ++ (keep_code (number_place d) ∷ back)) ≤ last
      → (slot + length left ≤ last → TermTyped Value d slot left)
      → T (slot + length left + 1) back (C (plain (d + 1)) (slot + length left + 1)) A
      → T slot (left ++ (keep_code (number_place d) ∷ back)) (C (plain d) slot) A
  kept_typed d slot left back A few le first second =
      let rest = keep_code (number_place d) ∷ back in
      let len : length (left ++ rest) ≡ length left + (1 + length back) = omega (arith, length-append left rest) in
      let p1 = slot + length left in
      let a = first (omega (arith, len, le)) in
      let b = keep_typed program shape last solid d p1 few (omega (arith, len, le)) in
      typed_seq slot p1 left rest (C (plain d) slot) (C (valued d) p1) A refl a
      (typed_seq p1 (p1 + 1) (keep_code (number_place d) ∷ []) back (C (valued d) p1) (C (plain (d + 1)) (p1 + 1)) A refl
      b second)

  -- ---- found numbers

  -- into r1, beside r0
  load_one : (d k slot : ℕ) → 4 * k + 4 ≤ shape.memory → slot + 1 ≤ last
      → T slot (i.Load size.W R1 R6 (pos (4 * k)) ∷ []) (C (valued d) slot) (C (known d word word Unset) (slot + 1))
  load_one d k slot inside le =
      let room : nat_lt shape.memory (0 + 4 * k + 4) ≡ false = le-ltb shape.memory (0 + 4 * k + 4)
      (omega (arith, inside)) in
      one_on program shape last solid slot (i.Load size.W R1 R6 (pos (4 * k))) (valued d) _ (known d word word Unset)
      refl refl refl (into _ d word word Unset (kind_in_itself word) (kind_in_itself word) tt refl)
      (proper_known d word Unset Unset some_word tt tt) (keeps_own _ _ _ (rw room refl)) le

  -- into r0, beside r1
  get_typed : (x : Source) (d lets slot : ℕ) → is_found x ≡ true → IsThere x lets shape.memory → lets ≤ d → d ≤ PLACES
      → slot + 1 ≤ last
      → T slot (get_code R0 x ∷ []) (C (known d Unset word Unset) slot) (C (known d word word Unset) (slot + 1))
  get_typed (Constant c) d lets slot found there below few le =
      one_on program shape last solid slot (set_number R0 c) (known d Unset word Unset) _ (known d word word Unset)
      refl refl refl
      (into _ d word word Unset (short (cast_unsigned w64 (cast_signed w32 c) % 2 ^ 32)) (kind_in_itself word) tt
      refl) (proper_known d Unset word Unset tt some_word tt) (keeps_own _ _ _ refl) le
  get_typed (FromLocal k) d lets slot found there below few le =
      fetch_typed program shape last solid k d word slot (omega (arith, there, below)) few some_word le
  get_typed (FromWord k) d lets slot found there below few le =
      let room : nat_lt shape.memory (0 + 4 * k + 4) ≡ false = le-ltb shape.memory (0 + 4 * k + 4)
      (omega (arith, there)) in
      one_on program shape last solid slot (get_code R0 (FromWord k)) (known d Unset word Unset) _
      (known d word word Unset)
      refl refl refl (into _ d word word Unset (kind_in_itself word) (kind_in_itself word) tt refl)
      (proper_known d Unset word Unset tt some_word tt) (keeps_own _ _ _ (rw room refl)) le
  get_typed Computed d lets slot found there below few le = absurd (let no : false ≡ true = found in cc)

  -- as an operand, after the number in r0
  unloaded_typed : (d slot : ℕ) (left : List Insn) → slot + length (left ++ []) ≤ last
      → (slot + length left ≤ last → TermTyped Value d slot left)
      → T slot (left ++ []) (C (plain d) slot) (C (valued d) (slot + length (left ++ [])))
  unloaded_typed d slot left le first =
      let len : length (left ++ []) ≡ length left + 0 = length-append left [] in
      let p1 = slot + length left in
      let e : p1 ≡ slot + length (left ++ []) = omega (arith, len) in
      typed_at slot p1 (slot + length (left ++ [])) (left ++ []) (C (plain d) slot) (valued d) e
      (typed_seq slot p1 left [] (C (plain d) slot) (C (valued d) p1) (C (valued d) p1) refl
      (first (omega (arith, len, le)))
      (typed_none program shape last solid p1 (C (valued d) p1)))

  -- the left number in r0, beside one of a place
  place_loaded_typed : (p : Place) (k d slot : ℕ) (left : List Insn) → IsPlace p k → k < d
      → slot + length (left ++ load_place p) ≤ last → (slot + length left ≤ last → TermTyped Value d slot left)
      → T slot (left ++ load_place p) (C (plain d) slot)
      (C (known d word (place_r1 p) Unset) (slot + length (left ++ load_place p)))
  place_loaded_typed (InRegister register) k d slot left is lt le first = unloaded_typed d slot left le first
  place_loaded_typed (OnStack off) k d slot left is lt le first =
      let load = fetch_code R1 (OnStack off) ∷ [] in
      let len : length (left ++ load) ≡ length left + 1 = length-append left load in
      let p1 = slot + length left in
      let e : p1 + 1 ≡ slot + length (left ++ load) = omega (arith, len) in
      typed_at slot (p1 + 1) (slot + length (left ++ load)) (left ++ load) (C (plain d) slot)
      (known d word word Unset) e
      (typed_seq slot p1 left load (C (plain d) slot) (C (valued d) p1) (C (known d word word Unset) (p1 + 1)) refl
      (first (omega (arith, len, le)))
      (fetch_place program shape last solid (OnStack off) k d R1 word Unset Unset (known d word word Unset) p1 is lt
      some_word tt tt refl (into _ d word word Unset (kind_in_itself word) (kind_in_itself word) tt refl)
      (omega (arith, len, le))))

  loaded_typed : (y : Source) (d lets slot : ℕ) (left : List Insn) → is_found y ≡ true → IsThere y lets shape.memory
      → lets ≤ d → d ≤ PLACES → slot + length (left ++ load_code y) ≤ last → (slot + length left ≤ last → TermTyped Value d slot left)
      → T slot (left ++ load_code y) (C (plain d) slot) (C (paired y d) (slot + length (left ++ load_code y)))
  loaded_typed (Constant c) d lets slot left found there below few le first = unloaded_typed d slot left le first
  loaded_typed (FromLocal k) d lets slot left found there below few le first =
      place_loaded_typed (number_place k) k d slot left (place_is k (omega (arith, there, below, few)))
      (omega (arith, there, below)) le first
  loaded_typed (FromWord k) d lets slot left found there below few le first =
      let load = get_code R1 (FromWord k) ∷ [] in
      let len : length (left ++ load) ≡ length left + 1 = length-append left load in
      let p1 = slot + length left in
      let e : p1 + 1 ≡ slot + length (left ++ load) = omega (arith, len) in
      typed_at slot (p1 + 1) (slot + length (left ++ load)) (left ++ load) (C (plain d) slot)
      (known d word word Unset) e
      (typed_seq slot p1 left load (C (plain d) slot) (C (valued d) p1) (C (known d word word Unset) (p1 + 1)) refl
      (first (omega (arith, len, le))) (load_one d k p1 there (omega (arith, len, le))))
  loaded_typed Computed d lets slot left found there below few le first = absurd (let no : false ≡ true = found in cc)

  -- ---- operators

  alu_keeps : (op : Operation) (src : Operand) (d : ℕ) (k1 : AbstractValue) → OperandIs src (known d word k1 Unset)
      → KeepsOwn shape (i.Alu (alu_op_of op) W32 R0 src) (known d word k1 Unset)
  alu_keeps Sum src d k1 q = record {
    forward = refl;
    known = refl;
    set = q.set;
    frame = refl;
    pointer = ap is_pointer_kind q.kind;
    region = refl;
    stack = refl;
    argument = refl;
    exit = refl;
    base = refl;
  }
  alu_keeps Difference src d k1 q = record {
    forward = refl;
    known = refl;
    set = q.set;
    frame = refl;
    pointer = ap is_pointer_kind q.kind;
    region = refl;
    stack = refl;
    argument = refl;
    exit = refl;
    base = refl;
  }
  alu_keeps Product src d k1 q = record {
    forward = refl;
    known = refl;
    set = q.set;
    frame = refl;
    pointer = ap is_pointer_kind q.kind;
    region = refl;
    stack = refl;
    argument = refl;
    exit = refl;
    base = refl;
  }
  alu_keeps Quotient src d k1 q = record {
    forward = refl;
    known = refl;
    set = q.set;
    frame = refl;
    pointer = ap is_pointer_kind q.kind;
    region = refl;
    stack = refl;
    argument = refl;
    exit = refl;
    base = refl;
  }
  alu_keeps Remainder src d k1 q = record {
    forward = refl;
    known = refl;
    set = q.set;
    frame = refl;
    pointer = ap is_pointer_kind q.kind;
    region = refl;
    stack = refl;
    argument = refl;
    exit = refl;
    base = refl;
  }

  alu_typed : (op : Operation) (src : Operand) (d : ℕ) (k1 : AbstractValue) (slot : ℕ) → OperandIs src (known d word k1 Unset)
      → IsProper (known d word k1 Unset) → slot + 1 ≤ last
      → T slot (i.Alu (alu_op_of op) W32 R0 src ∷ []) (C (known d word k1 Unset) slot) (C (valued d) (slot + 1))
  alu_typed Sum src d k1 slot q is le = one_on program shape last solid slot (i.Alu (alu_op_of Sum) W32 R0 src)
      (known d word k1 Unset) _ (valued d) refl refl refl
      (into _ d word Unset Unset (word_result Add _ q.range q.kind q.ordered q.inside refl) tt tt refl) is
      (alu_keeps Sum src d k1 q) le
  alu_typed Difference src d k1 slot q is le = one_on program shape last solid slot
      (i.Alu (alu_op_of Difference) W32 R0 src) (known d word k1 Unset) _ (valued d) refl refl refl
      (into _ d word Unset Unset (word_result Sub _ q.range q.kind q.ordered q.inside refl) tt tt refl) is
      (alu_keeps Difference src d k1 q) le
  alu_typed Product src d k1 slot q is le = one_on program shape last solid slot (i.Alu (alu_op_of Product) W32 R0 src)
      (known d word k1 Unset) _ (valued d) refl refl refl
      (into _ d word Unset Unset (word_result Mul _ q.range q.kind q.ordered q.inside refl) tt tt refl) is
      (alu_keeps Product src d k1 q) le
  alu_typed Quotient src d k1 slot q is le = one_on program shape last solid slot (i.Alu (alu_op_of Quotient) W32 R0 src)
      (known d word k1 Unset) _ (valued d) refl refl refl
      (into _ d word Unset Unset (word_result Div _ q.range q.kind q.ordered q.inside refl) tt tt refl) is
      (alu_keeps Quotient src d k1 q) le
  alu_typed Remainder src d k1 slot q is le = one_on program shape last solid slot (i.Alu (alu_op_of Remainder) W32 R0 src)
      (known d word k1 Unset) _ (valued d) refl refl refl
      (into _ d word Unset Unset (word_result Mod _ q.range q.kind q.ordered q.inside refl) tt tt refl) is
      (alu_keeps Remainder src d k1 q) le

  -- r0 beside a register: it stays a number of 32 bits
  register_fork : (r : Comparison) (register : Reg) (k d slot far : ℕ) → IsPlace (InRegister register) k → k < d
      → slot + 1 + far ≤ last
      → T slot (jump_by r (operand.Reg register) far ∷ []) (C (valued d) slot)
      (λ table. C (valued d) (slot + 1) table × C (valued d) (slot + 1 + far) table)
  register_fork r register k d slot far is lt le =
      let e : kind_of (valued d) register ≡ word = register_kind register k d word Unset Unset is lt in
      let own : KeepsOwn shape (jump_by r (operand.Reg register) far) (valued d) = record {
        forward = refl;
        known = refl;
        set = ap (λ (q : AbstractValue). is_unset_kind q || false) e;
        frame = refl;
        pointer = ap is_pointer_kind e;
        region = refl;
        stack = refl;
        argument = refl;
        exit = refl;
        base = refl;
      } in
      one_fork program shape last solid slot far (cond_of r) R0 (operand.Reg register) (valued d) (valued d) (valued d)
      (λ x q. left_register r false register k d (kind_of (valued d) register) x is lt e q)
      (λ x q. left_register r true register k d (kind_of (valued d) register) x is lt e q)
      (proper_known d word Unset Unset some_word tt tt) own le

  reg_fork : (r : Comparison) (d slot far : ℕ) → slot + 1 + far ≤ last
      → T slot (jump_by r (operand.Reg R1) far ∷ []) (C (known d word word Unset) slot)
      (λ table. C (valued d) (slot + 1) table × C (valued d) (slot + 1 + far) table)
  reg_fork r d slot far le = one_fork program shape last solid slot far (cond_of r) R0 (operand.Reg R1)
      (known d word word Unset) (valued d) (valued d) (λ x e. left_reg r false d x e) (λ x e. left_reg r true d x e)
      (proper_known d word word Unset some_word some_word tt) (keeps_own _ _ _ refl) le

  place_fork : (r : Comparison) (p : Place) (k d slot far : ℕ) → IsPlace p k → k < d → slot + 1 + far ≤ last
      → T slot (jump_by r (place_operand p) far ∷ []) (C (known d word (place_r1 p) Unset) slot)
      (λ table. C (valued d) (slot + 1) table × C (valued d) (slot + 1 + far) table)
  place_fork r (InRegister register) k d slot far is lt le = register_fork r register k d slot far is lt le
  place_fork r (OnStack off) k d slot far is lt le = reg_fork r d slot far le

  -- where it is forgotten
  fork_less : (d slot far : ℕ) (code : List Insn) (O : Table → Type 0)
      → T slot code O (λ table. C (valued d) (slot + 1) table × C (valued d) (slot + 1 + far) table)
      → T slot code O (λ table. C (plain d) (slot + 1) table × C (plain d) (slot + 1 + far) table)
  fork_less d slot far code O t =
      typed_as program shape last solid slot code O
      (λ table. C (valued d) (slot + 1) table × C (valued d) (slot + 1 + far) table) O
      (λ table. C (plain d) (slot + 1) table × C (plain d) (slot + 1 + far) table) (λ table h. h)
      (λ table h. (
        covers_less table (valued d) (plain d) (slot + 1) (valued_less d) h.0,
        covers_less table (valued d) (plain d) (slot + 1 + far) (valued_less d) h.1,
      )) t

  compare_typed : (r : Comparison) (y : Source) (d lets slot far : ℕ) → IsThere y lets shape.memory → lets ≤ d → d ≤ PLACES
      → slot + 1 + far ≤ last
      → T slot (jump_by r (operand_code y) far ∷ []) (C (paired y d) slot)
      (λ table. C (plain d) (slot + 1) table × C (plain d) (slot + 1 + far) table)
  compare_typed r (Constant c) d lets slot far there below few le =
      one_fork program shape last solid slot far (cond_of r) R0 (operand_code (Constant c)) (valued d)
      (plain d) (plain d)
      (λ x e. left_imm d (cast_signed w32 c) _ x e) (λ x e. left_imm d (cast_signed w32 c) _ x e)
      (proper_known d word Unset Unset some_word tt tt) (keeps_own _ _ _ refl) le
  compare_typed r (FromLocal k) d lets slot far there below few le =
      fork_less d slot far (jump_by r (operand_code (FromLocal k)) far ∷ []) (C (paired (FromLocal k) d) slot)
      (place_fork r (number_place k) k d slot far (place_is k (omega (arith, there, below, few)))
      (omega (arith, there, below)) le)
  compare_typed r (FromWord k) d lets slot far there below few le =
      fork_less d slot far (jump_by r (operand.Reg R1) far ∷ []) (C (known d word word Unset) slot)
      (reg_fork r d slot far le)
  compare_typed r Computed d lets slot far there below few le =
      fork_less d slot far (jump_by r (operand.Reg R1) far ∷ []) (C (known d word word Unset) slot)
      (reg_fork r d slot far le)

  operator_typed : (o : Operator) (y : Source) (purpose : Purpose) (d lets slot : ℕ) (code : List Insn)
      → IsThere y lets shape.memory → lets ≤ d → d ≤ PLACES
      → slot + length (by_operator o (operand_code y) purpose code) + beyond_purpose purpose ≤ last
      → (slot + length code ≤ last → T slot code (C (plain d) slot) (C (paired y d) (slot + length code)))
      → TermTyped purpose d slot (by_operator o (operand_code y) purpose code)
  operator_typed (Compute op) y purpose d lets slot code there below few le two =
      let act = i.Alu (alu_op_of op) W32 R0 (operand_code y) ∷ [] in
      let len : length (code ++ act) ≡ length code + 1 = length-append code act in
      by_value_typed purpose d slot (code ++ act) le
      (λ l.
      let p1 = slot + length code in
      let e : p1 + 1 ≡ slot + length (code ++ act) = omega (arith, len) in
      let b1 = typed_at p1 (p1 + 1) (slot + length (code ++ act)) act (C (paired y d) p1) (valued d) e
      (alu_typed op (operand_code y) d (r1_kind y) p1 (operand_is y d lets shape.memory there below few)
      (proper_paired y d) (omega (arith, len, l))) in
      typed_seq slot p1 code act (C (plain d) slot) (C (paired y d) p1)
      (C (valued d) (slot + length (code ++ act))) refl
      (two (omega (arith, len, l))) b1)
  operator_typed (Compare r) y purpose d lets slot code there below few le two =
      by_test_typed purpose d slot (λ when far. code ++ jump_by (jump_on when r) (operand_code y) far ∷ []) le
      (λ when far l.
      let jump = jump_by (jump_on when r) (operand_code y) far ∷ [] in
      let len : length (code ++ jump) ≡ length code + 1 = length-append code jump in
      let p1 = slot + length code in
      let e : p1 + 1 ≡ slot + length (code ++ jump) = omega (arith, len) in
      let b1 = subst (λ (n : ℕ). T p1 jump (C (paired y d) p1)
      (λ table. C (plain d) n table × C (plain d) (n + far) table)) e
      (compare_typed (jump_on when r) y d lets p1 far there below few (omega (arith, len, l))) in
      typed_seq slot p1 code jump (C (plain d) slot) (C (paired y d) p1)
      (λ table. C (plain d) (slot + length (code ++ jump)) table × C (plain d)
      (slot + length (code ++ jump) + far) table) refl
      (two (omega (arith, len, l))) b1)

  left_typed : (o : Operator) (x : Source) (purpose : Purpose) (d lets slot : ℕ) (right : List Insn) → is_found x ≡ true
      → IsThere x lets shape.memory → lets ≤ d → d ≤ PLACES
      → slot + length (left_code o x purpose right) + beyond_purpose purpose ≤ last
      → (slot + length right ≤ last → TermTyped Value d slot right)
      → TermTyped purpose d slot (left_code o x purpose right)
  left_typed (Compute op) x purpose d lets slot right found there below few le first =
      let get = get_code R0 x ∷ [] in
      let back = copy R1 R0 ∷ get in
      operator_typed (Compute op) Computed purpose d lets slot (right ++ back) tt below few le
      (λ l.
      let len : length (right ++ back) ≡ length right + 2 = length-append right back in
      let p1 = slot + length right in
      let p2 = p1 + 1 in
      let end = slot + length (right ++ back) in
      let e : p2 + 1 ≡ end = omega (arith, len) in
      let a = first (omega (arith, len, l)) in
      let b = second_typed program shape last solid d p1 (omega (arith, len, l)) in
      let c = typed_at p2 (p2 + 1) end get (C (known d Unset word Unset) p2) (known d word word Unset) e
      (get_typed x d lets p2 found there below few (omega (arith, len, l))) in
      let bc = typed_seq p1 p2 (copy R1 R0 ∷ []) get (C (valued d) p1) (C (known d Unset word Unset) p2)
      (C (known d word word Unset) end) refl b c in
      typed_seq slot p1 right back (C (plain d) slot) (C (valued d) p1) (C (known d word word Unset) end) refl a bc)
  left_typed (Compare r) x purpose d lets slot right found there below few le first =
      operator_typed (Compare (mirror r)) x purpose d lets slot (right ++ load_code x) there below few le
      (λ l. loaded_typed x d lets slot right found there below few l first)

  right_typed : (o : Operator) (y : Source) (purpose : Purpose) (d lets slot : ℕ) (left : List Insn) → is_found y ≡ true
      → IsThere y lets shape.memory → lets ≤ d → d ≤ PLACES
      → slot + length (right_code o y purpose left) + beyond_purpose purpose ≤ last
      → (slot + length left ≤ last → TermTyped Value d slot left)
      → TermTyped purpose d slot (right_code o y purpose left)
  right_typed o y purpose d lets slot left found there below few le first =
      operator_typed o y purpose d lets slot (left ++ load_code y) there below few le
      (λ l. loaded_typed y d lets slot left found there below few l first)

  -- a place beside a constant
  place_test_typed : (r : Comparison) (register : Reg) (k c d slot far : ℕ) → IsPlace (InRegister register) k → k < d
      → slot + 1 + far ≤ last
      → T slot (jump_register register r c far ∷ []) (C (plain d) slot)
      (λ table. C (plain d) (slot + 1) table × C (plain d) (slot + 1 + far) table)
  place_test_typed r register k c d slot far is lt le =
      let v = cast_signed w32 c in
      let n = cast_unsigned w64 v % 2 ^ 32 in
      let e : kind_of (plain d) register ≡ word = register_kind register k d Unset Unset Unset is lt in
      let small : n < 2 ^ 32 = omega arith in
      let own : KeepsOwn shape (jump_register register r c far) (plain d) = record {
        forward = refl;
        known = refl;
        set = ap (λ (q : AbstractValue). is_unset_kind q || false) e;
        frame = refl;
        pointer = ap (λ (q : AbstractValue). is_pointer_kind q || false) e;
        region = refl;
        stack = refl;
        argument = refl;
        exit = refl;
        base = refl;
      } in
      one_fork program shape last solid slot far (cond_of r) register (operand.Imm v) (plain d) (plain d) (plain d)
      (λ x q. left_place r false register k d n v (kind_of (plain d) register) x is lt small e q)
      (λ x q. left_place r true register k d n v (kind_of (plain d) register) x is lt small e q)
      (proper_known d Unset Unset Unset tt tt tt) own le

  beside_typed : (p : Place) (r : Comparison) (k c : ℕ) (purpose : Purpose) (d lets slot : ℕ) (left : List Insn)
      → IsPlace p k → k < d → lets ≤ d → d ≤ PLACES
      → slot + length (beside_code p r c purpose left) + beyond_purpose purpose ≤ last
      → (slot + length left ≤ last → TermTyped Value d slot left)
      → TermTyped purpose d slot (beside_code p r c purpose left)
  beside_typed (InRegister register) r k c purpose d lets slot left is lt below few le first =
      by_test_typed purpose d slot (λ when far. jump_register register (jump_on when r) c far ∷ []) le
      (λ when far l. place_test_typed (jump_on when r) register k c d slot far is lt (omega (arith, l)))
  beside_typed (OnStack off) r k c purpose d lets slot left is lt below few le first =
      right_typed (Compare r) (Constant c) purpose d lets slot left refl tt below few le first

  sides_typed : (y x : Source) (o : Operator) (purpose : Purpose) (d deep lets slot : ℕ) (left right : List Insn)
      → IsThere y lets shape.memory → IsThere x lets shape.memory → lets ≤ d → d ≤ PLACES → (is_found x ≡ true → deep ≡ d)
      → (is_found x ≡ false → is_found y ≡ false → (d < PLACES) × (deep ≡ d + 1))
      → slot + length (binary_code y x o d purpose left right) + beyond_purpose purpose ≤ last
      → (slot + length left ≤ last → TermTyped Value d slot left)
      → ((to : ℕ) → deep ≤ PLACES → to + length right ≤ last → TermTyped Value deep to right)
      → TermTyped purpose d slot (binary_code y x o d purpose left right)
  sides_typed (Constant c) (FromLocal k) (Compare r) purpose d deep lets slot left right at_y at_x below
      few same free le first second =
      beside_typed (number_place k) r k c purpose d lets slot left (place_is k (omega (arith, at_x, below, few)))
      (omega (arith, at_x, below)) below few le first
  sides_typed (Constant c) (FromLocal k) (Compute op) purpose d deep lets slot left right at_y at_x below
      few same free le first second = right_typed (Compute op) (Constant c) purpose d lets slot left refl at_y
      below few le first
  sides_typed (Constant c) (Constant e) o purpose d deep lets slot left right at_y at_x below few same free le
      first second =
      by_value_typed purpose d slot (set_number R0 (apply_operator o e c) ∷ []) le
      (λ l. number_typed program shape last solid d (apply_operator o e c) slot l)
  sides_typed (Constant c) (FromWord k) o purpose d deep lets slot left right at_y at_x below few same free le
      first second =
      right_typed o (Constant c) purpose d lets slot left refl at_y below few le first
  sides_typed (Constant c) Computed o purpose d deep lets slot left right at_y at_x below few same free le
      first second =
      right_typed o (Constant c) purpose d lets slot left refl at_y below few le first
  sides_typed (FromLocal k) x o purpose d deep lets slot left right at_y at_x below few same free le first second =
      right_typed o (FromLocal k) purpose d lets slot left refl at_y below few le first
  sides_typed (FromWord k) x o purpose d deep lets slot left right at_y at_x below few same free le first second =
      right_typed o (FromWord k) purpose d lets slot left refl at_y below few le first
  sides_typed Computed (Constant c) o purpose d deep lets slot left right at_y at_x below few same free le
      first second =
      let e : deep ≡ d = same refl in
      left_typed o (Constant c) purpose d lets slot right refl at_x below few le
      (λ l. subst (λ (n : ℕ). TermTyped Value n slot right) e (second slot (omega (arith, e, few)) l))
  sides_typed Computed (FromLocal k) o purpose d deep lets slot left right at_y at_x below few same free le
      first second =
      let e : deep ≡ d = same refl in
      left_typed o (FromLocal k) purpose d lets slot right refl at_x below few le
      (λ l. subst (λ (n : ℕ). TermTyped Value n slot right) e (second slot (omega (arith, e, few)) l))
  sides_typed Computed (FromWord k) o purpose d deep lets slot left right at_y at_x below few same free le
      first second =
      let e : deep ≡ d = same refl in
      left_typed o (FromWord k) purpose d lets slot right refl at_x below few le
      (λ l. subst (λ (n : ℕ). TermTyped Value n slot right) e (second slot (omega (arith, e, few)) l))
  sides_typed Computed Computed o purpose d deep lets slot left right at_y at_x below few same free le first second =
      let deeper = free refl refl in
      let beside = left_code o (FromLocal d) purpose right in
      let whole = left ++ (keep_code (number_place d) ∷ beside) in
      let len : length whole ≡ length left + (1 + length beside) = omega
      (arith, length-append left (keep_code (number_place d) ∷ beside)) in
      let room : slot + length whole + beyond_purpose purpose ≤ last = le in
      let p = slot + length left + 1 in
      let end : p + length beside ≡ slot + length whole = omega (arith, len) in
      let b = left_typed o (FromLocal d) purpose (d + 1) (d + 1) p right refl (omega arith) (omega arith)
      (omega (arith, deeper.0)) (omega (arith, len, room))
      (λ k. subst (λ (n : ℕ). TermTyped Value n p right) deeper.1
      (second p (omega (arith, deeper.0, deeper.1)) k)) in
      let b1 = typed_as program shape last solid p beside (C (plain (d + 1)) p) (Exits purpose (d + 1) (p + length beside))
      (C (plain (d + 1)) p) (Exits purpose d (p + length beside)) (λ table h. h)
      (λ table h. exits_less purpose d (p + length beside) table h) b in
      let b2 = subst (λ (n : ℕ). T p beside (C (plain (d + 1)) p) (Exits purpose d n)) end b1 in
      kept_typed d slot left beside (Exits purpose d (slot + length whole)) deeper.0 (omega (arith, room)) first b2

  -- ---- choices and conditions of two

  pub choice_typed : (d slot : ℕ) (M : AbstractState) (test : ℕ → List Insn) (a b : List Insn) → IsProper M
      → slot + length (choice_code test a b) ≤ last
      → ((far : ℕ) → slot + length (test far) + far ≤ last → TermTyped (Jump false far) d slot (test far))
      → ((to : ℕ) → to + length a ≤ last → T to a (C (plain d) to) (C M (to + length a)))
      → ((to : ℕ) → to + length b ≤ last → T to b (C (plain d) to) (C M (to + length b)))
      → T slot (choice_code test a b) (C (plain d) slot) (C M (slot + length (choice_code test a b)))
  choice_typed d slot M test a b is le tests first second =
      let far = length a + 1 in
      let code = test far in
      let skip = i.Ja (pos (length b)) ∷ b in
      let rest = a ++ skip in
      let len : length (code ++ rest) ≡ length code + (length a + (1 + length b)) = omega
      (arith, length-append code rest, length-append a skip) in
      let p1 = slot + length code in
      let p2 = p1 + length a in
      let p3 = p2 + 1 in
      let end = slot + length (code ++ rest) in
      let t = tests far (omega (arith, len, le)) in
      let ta = first p1 (omega (arith, len, le)) in
      let e1 : p3 + length b ≡ end = omega (arith, len) in
      let tb = typed_at p3 (p3 + length b) end b (C (plain d) p3) M e1 (second p3 (omega (arith, len, le))) in
      let j = typed_at p2 (p2 + 1 + length b) end (i.Ja (pos (length b)) ∷ []) (C M p2) M e1
      (one_jump program shape last solid p2 (length b) M is (omega (arith, len, le))) in
      let jb = typed_then program shape last solid p2 p3 (i.Ja (pos (length b)) ∷ []) b (C M p2) (C M end)
      (C (plain d) p3) (C M end) refl j tb (λ table o asks. asks) in
      let ajb = typed_then program shape last solid p1 p2 a skip (C (plain d) p1) (C M p2)
      (λ table. C M p2 table × C (plain d) p3 table) (C M end) refl ta jb (λ table o asks. o.0) in
      let e2 : p3 ≡ p1 + far = omega arith in
      let all = typed_then program shape last solid slot p1 code rest (C (plain d) slot)
      (λ table. C (plain d) p1 table × C (plain d) (p1 + far) table)
      (λ table. C (plain d) p1 table × (C M p2 table × C (plain d) p3 table)) (C M end) refl t ajb
      (λ table o asks. (o.0, subst (λ (n : ℕ). C (plain d) n table) e2 o.1.1)) in
      typed_as program shape last solid slot (code ++ rest)
      (λ table. C (plain d) slot table × (C (plain d) p1 table × (C M p2 table × C (plain d) p3 table))) (C M end)
      (C (plain d) slot) (C M end) (λ table h. h.0) (λ table h. h) all

  pub if_typed : (alone : Bool) (d slot : ℕ) (test : ℕ → List Insn) (a b : List Insn)
      → slot + length (if_code alone test a b) ≤ last
      → ((far : ℕ) → slot + length (test far) + far ≤ last → TermTyped (Jump false far) d slot (test far))
      → ((to : ℕ) → to + length a ≤ last → T to a (C (plain d) to) (C (plain d) (to + length a)))
      → ((to : ℕ) → to + length b ≤ last → T to b (C (plain d) to) (C (plain d) (to + length b)))
      → T slot (if_code alone test a b) (C (plain d) slot) (C (plain d) (slot + length (if_code alone test a b)))
  if_typed false d slot test a b le tests first second =
      choice_typed d slot (plain d) test a b (proper_known d Unset Unset Unset tt tt tt) le tests first second
  if_typed true d slot test a b le tests first second =
      let far = length a in
      let code = test far in
      let len : length (code ++ a) ≡ length code + length a = length-append code a in
      let p1 = slot + length code in
      let end = slot + length (code ++ a) in
      let e : p1 + length a ≡ end = omega (arith, len) in
      let t = tests far (omega (arith, len, le)) in
      let ta = typed_at p1 (p1 + length a) end a (C (plain d) p1) (plain d) e (first p1 (omega (arith, len, le))) in
      let all = typed_then program shape last solid slot p1 code a (C (plain d) slot)
      (λ table. C (plain d) p1 table × C (plain d) (p1 + far) table) (C (plain d) p1) (C (plain d) end) refl t ta
      (λ table o asks. (o, subst (λ (n : ℕ). C (plain d) n table) (sym e) asks)) in
      typed_as program shape last solid slot (code ++ a) (λ table. C (plain d) slot table × C (plain d) p1 table)
      (C (plain d) end) (C (plain d) slot) (C (plain d) end) (λ table h. h.0) (λ table h. h) all

  either_far : (alone when : Bool) (n far : ℕ) → (both_far alone when n far ≡ n + far) ⊎ (both_far alone when n far ≡ n)
  either_far true true n far = inl refl
  either_far true false n far = inr refl
  either_far false true n far = inr refl
  either_far false false n far = inl refl

  both_typed : (alone when : Bool) (far d slot : ℕ) (left : Bool → ℕ → List Insn) (right : List Insn)
      → slot + length (both_code alone when far left right) + far ≤ last
      → ((w : Bool) (g : ℕ) → slot + length (left w g) + g ≤ last → TermTyped (Jump w g) d slot (left w g))
      → ((to : ℕ) → to + length right + far ≤ last → TermTyped (Jump when far) d to right)
      → TermTyped (Jump when far) d slot (both_code alone when far left right)
  both_typed alone when far d slot left right le first second =
      let w = both_far alone when (length right) far in
      let code = left alone w in
      let len : length (code ++ right) ≡ length code + length right = length-append code right in
      let p1 = slot + length code in
      let end = slot + length (code ++ right) in
      let e : p1 + length right ≡ end = omega (arith, len) in
      let small : w ≤ length right + far = elim (either_far alone when (length right) far) [
        | inl h ↦ omega arith
        | inr h ↦ omega arith
      ] in
      let a = first alone w (omega (arith, len, le, small)) in
      let b = subst (λ (n : ℕ). T p1 right (C (plain d) p1) (λ table. C (plain d) n table × C (plain d)
      (n + far) table)) e (second p1 (omega (arith, len, le))) in
      let link : (table : Table) → C (plain d) p1 table → C (plain d) end table × C (plain d) (end + far) table
      → C (plain d) p1 table × C (plain d) (p1 + w) table = λ table o asks. elim
      (either_far alone when (length right) far) [
        | inl h ↦ let g : end + far ≡ p1 + w = omega (arith, e, h) in
            (o, subst (λ (n : ℕ). C (plain d) n table) g asks.1)
        | inr h ↦ let g : end ≡ p1 + w = omega (arith, e, h) in (o, subst (λ (n : ℕ). C (plain d) n table) g asks.0)
      ] in
      let all = typed_then program shape last solid slot p1 code right (C (plain d) slot)
      (λ table. C (plain d) p1 table × C (plain d) (p1 + w) table) (C (plain d) p1)
      (λ table. C (plain d) end table × C (plain d) (end + far) table) refl a b link in
      typed_as program shape last solid slot (code ++ right) (λ table. C (plain d) slot table × C (plain d) p1 table)
      (λ table. C (plain d) end table × C (plain d) (end + far) table) (C (plain d) slot)
      (λ table. C (plain d) end table × C (plain d) (end + far) table) (λ table h. h.0) (λ table h. h) all

  -- ---- changes of places

  -- a number of 32 bits into a register, after which e places are in use; all other rules are kept by itself
  pub register_typed : (register : Reg) (k d e slot : ℕ) (insn : Insn) (K : AbstractValue)
      → IsPlace (InRegister register) k → Grows k d e → target insn slot Onward ≡ Some (slot + 1)
      → target insn slot Jumping ≡ None → outcome shape insn (plain d) Onward ≡ Some (with_kind (plain d) register K)
      → IsKindIn K word → KeepsOwn shape insn (plain d) → slot + 1 ≤ last
      → T slot (insn ∷ []) (C (plain d) slot) (C (plain e) (slot + 1))
  register_typed register k d e slot insn K is grows on off out inside own le =
      one_on program shape last solid slot insn (plain d) (with_kind (plain d) register K) (plain e) on off out
      (placed_in register k d e (plain d) K is grows refl inside) (proper_known d Unset Unset Unset tt tt tt) own le

  -- what an operation in a register keeps
  alter_keeps : (op : Operation) (register : Reg) (v k d : ℕ) → IsPlace (InRegister register) k → k < d
      → KeepsOwn shape (i.Alu (alu_op_of op) W32 register (operand.Imm (cast_signed w32 v))) (plain d)
  alter_keeps op register v k d is lt = by op
    where
      e : kind_of (plain d) register ≡ word
      e = register_kind register k d Unset Unset Unset is lt

      free : (register_number register == 10) ≡ false
      free = not_frame register (omega (arith, is.0, is.1))

      set : (is_unset_kind (kind_of (plain d) register) || false) ≡ false
      set = ap (λ (q : AbstractValue). is_unset_kind q || false) e

      number : (is_pointer_kind (kind_of (plain d) register) || false) ≡ false
      number = ap (λ (q : AbstractValue). is_pointer_kind q || false) e

      by : (op : Operation)
          → KeepsOwn shape (i.Alu (alu_op_of op) W32 register (operand.Imm (cast_signed w32 v))) (plain d)
      by Sum = record {
        forward = refl;
        known = refl;
        set = set;
        frame = free;
        pointer = number;
        region = refl;
        stack = refl;
        argument = refl;
        exit = refl;
        base = refl;
      }
      by Difference = record {
        forward = refl;
        known = refl;
        set = set;
        frame = free;
        pointer = number;
        region = refl;
        stack = refl;
        argument = refl;
        exit = refl;
        base = refl;
      }
      by Product = record {
        forward = refl;
        known = refl;
        set = set;
        frame = free;
        pointer = number;
        region = refl;
        stack = refl;
        argument = refl;
        exit = refl;
        base = refl;
      }
      by Quotient = record {
        forward = refl;
        known = refl;
        set = set;
        frame = free;
        pointer = number;
        region = refl;
        stack = refl;
        argument = refl;
        exit = refl;
        base = refl;
      }
      by Remainder = record {
        forward = refl;
        known = refl;
        set = set;
        frame = free;
        pointer = number;
        region = refl;
        stack = refl;
        argument = refl;
        exit = refl;
        base = refl;
      }

  -- the register of a place that is changed where it is
  pub alter_typed : (op : Operation) (register : Reg) (k v d slot : ℕ) → IsPlace (InRegister register) k → k < d
      → slot + 1 ≤ last
      → T slot (i.Alu (alu_op_of op) W32 register (operand.Imm (cast_signed w32 v)) ∷ []) (C (plain d) slot)
      (C (plain d) (slot + 1))
  alter_typed op register k v d slot is lt le = by op
    where
      n : ℕ
      n = cast_unsigned w64 (cast_signed w32 v) % 2 ^ 32

      e : kind_of (plain d) register ≡ word
      e = register_kind register k d Unset Unset Unset is lt

      result : (op : AluOp) → range_of op W32 (full_of 32) (full_of 32) ≡ full_of 32
          → IsKindIn (of_number_kinds (range_of op W32) (kind_of (plain d) register) (Number (just n))) word
      result op same =
          subst (λ (q : AbstractValue). IsKindIn (of_number_kinds (range_of op W32) q (Number (just n))) word) (sym e)
          (word_result op (Number (just n)) (just n) refl (record { ordered = omega arith })
          (record { low = omega arith; high = omega arith }) same)

      by : (op : Operation) → T slot (i.Alu (alu_op_of op) W32 register (operand.Imm (cast_signed w32 v)) ∷ [])
          (C (plain d) slot) (C (plain d) (slot + 1))
      by Sum = register_typed register k d d slot _ _ is (grows_none k d lt) refl refl refl (result Add refl)
          (alter_keeps Sum register v k d is lt) le
      by Difference = register_typed register k d d slot _ _ is (grows_none k d lt) refl refl refl (result Sub refl)
          (alter_keeps Difference register v k d is lt) le
      by Product = register_typed register k d d slot _ _ is (grows_none k d lt) refl refl refl (result Mul refl)
          (alter_keeps Product register v k d is lt) le
      by Quotient = register_typed register k d d slot _ _ is (grows_none k d lt) refl refl refl (result Div refl)
          (alter_keeps Quotient register v k d is lt) le
      by Remainder = register_typed register k d d slot _ _ is (grows_none k d lt) refl refl refl (result Mod refl)
          (alter_keeps Remainder register v k d is lt) le

  -- one more in a place that is in use
  increment_typed : (p : Place) (k d slot : ℕ) → number_place k ≡ p → k < d → d ≤ PLACES
      → slot + length (increment_code p) ≤ last
      → T slot (increment_code p) (C (plain d) slot) (C (plain d) (slot + length (increment_code p)))
  increment_typed (InRegister register) k d slot same lt few le =
      alter_typed Sum register k 1 d slot
      (subst (λ (p : Place). IsPlace p k) same (place_is k (omega (arith, lt, few)))) lt le
  increment_typed (OnStack off) k d slot same lt few le =
      let fetch = fetch_code R0 (OnStack off) ∷ [] in
      let add = i.Alu Add W32 R0 (operand.Imm (pos 1)) ∷ [] in
      let keep = keep_code (OnStack off) ∷ [] in
      let p1 = slot + 1 in
      let p2 = p1 + 1 in
      let S = plain d in
      let V = valued d in
      let f = subst (λ (p : Place). T slot (fetch_code R0 p ∷ []) (C S slot) (C V p1)) same
      (fetch_typed program shape last solid k d Unset slot lt few tt (omega (arith, le))) in
      let a = alu_typed Sum (operand.Imm (pos 1)) d Unset p1 (operand_is (Constant 1) d d 0 tt (omega arith) few)
      (proper_known d word Unset Unset some_word tt tt) (omega (arith, le)) in
      let g = subst (λ (p : Place). T p2 (keep_code p ∷ []) (C V p2) (C S (p2 + 1))) same
      (change_typed program shape last solid k d p2 lt few (omega (arith, le))) in
      let e : p2 + 1 ≡ slot + 3 = omega arith in
      let g1 = typed_at p2 (p2 + 1) (slot + 3) keep (C V p2) S e g in
      let ag = typed_seq p1 p2 add keep (C V p1) (C V p2) (C S (slot + 3)) refl a g1 in
      typed_seq slot p1 fetch (i.Alu Add W32 R0 (operand.Imm (pos 1)) ∷ keep_code (OnStack off) ∷ []) (C S slot)
      (C V p1) (C S (slot + 3)) refl f ag

  -- ---- calls, loads, the mail

  me_typed : (d slot : ℕ) → shape.nodes ≤ 64 → slot + 1 ≤ last
      → T slot (i.Call (pos 1) ∷ []) (C (plain d) slot) (C (valued d) (slot + 1))
  me_typed d slot few le = one_on program shape last solid slot (i.Call (pos 1)) (plain d) _ (valued d) refl refl refl
      (into _ d word Unset Unset (
        span 0 (shape.nodes - 1),
        refl,
        record {
          low = omega arith;
          high = omega
              (arith, few);
        },
      ) tt tt
      refl) (proper_known d Unset Unset Unset tt tt tt) (keeps_own _ _ _ refl) le

  coin_typed : (d slot : ℕ) → slot + 1 ≤ last
      → T slot (i.Call (pos 4) ∷ []) (C (plain d) slot) (C (valued d) (slot + 1))
  coin_typed d slot le = one_on program shape last solid slot (i.Call (pos 4)) (plain d) _ (valued d) refl refl refl
      (into _ d word Unset Unset (span 0 1, refl, record { low = omega arith; high = omega arith }) tt tt
      refl) (proper_known d Unset Unset Unset tt tt tt) (keeps_own _ _ _ refl) le

  pub load_typed : (d k slot : ℕ) → 4 * k + 4 ≤ shape.memory → slot + 1 ≤ last
      → T slot (i.Load size.W R0 R6 (pos (4 * k)) ∷ []) (C (plain d) slot) (C (valued d) (slot + 1))
  load_typed d k slot inside le =
      let room : nat_lt shape.memory (0 + 4 * k + 4) ≡ false = le-ltb shape.memory (0 + 4 * k + 4)
      (omega (arith, inside)) in
      one_on program shape last solid slot (i.Load size.W R0 R6 (pos (4 * k))) (plain d) _ (valued d) refl refl refl
      (into _ d word Unset Unset (kind_in_itself word) tt tt refl)
      (proper_known d Unset Unset Unset tt tt tt) (keeps_own _ _ _ (rw room refl)) le

  -- a node's number in r0
  abbrev pub some_node : AbstractValue
  some_node = Number (span 0 (shape.nodes - 1))

  pub proper_node : IsProperKind some_node
  proper_node = record { ordered = omega arith }

  pub node_in_r0 : (d : ℕ) (v : _) (found : Option (Span × Span)) (X : AbstractState)
      → ((pair : Span × Span) → found ≡ Some pair → IsKindIn (Number pair.0) some_node)
      → refined_by (valued d) R0 (operand.Imm v) found ≡ Some X → IsContainedIn X (known d some_node Unset Unset)
  node_in_r0 d v None X h e = absurd (none-some X e)
  node_in_r0 d v (Some pair) X h e = subst (λ (x : AbstractState). IsContainedIn x (known d some_node Unset Unset))
      (same_Some _ X e) (into _ d some_node Unset Unset (h pair refl) tt tt refl)

  less_node : (n : ℕ) (pair : Span × Span) → n ≡ shape.nodes → n ≤ 64 → less (full_of 32) (just n) ≡ Some pair
      → IsKindIn (Number pair.0) some_node
  less_node n pair same few e = by (nat_lt 0 n) refl
    where
      by : (b : Bool) → nat_lt 0 n ≡ b → IsKindIn (Number pair.0) some_node
      by true test =
          let found : Some (span 0 (min (2 ^ 32 - 1) (n - 1)), _) ≡ Some pair = rw test at e in
          let high : min (2 ^ 32 - 1) (n - 1) ≡ pair.0.hi = ap (λ (p : Span × Span). p.0.hi) (same_Some _ pair found) in
          (pair.0, refl, record { low = omega arith; high = omega (arith, high, same, few) })
      by false test = absurd (none-some pair (rw test at e))

  imm_low : (n : ℕ) → n ≤ 64 → cast_unsigned w64 (pos n) % 2 ^ 32 ≡ n
  imm_low n h = mod-eq_of_lt (omega (arith, h))

  below_node : (n : ℕ) (pair : Span × Span) → n ≡ shape.nodes → n ≤ 64
      → branch_of Lt W32 (full_of 32) (just (cast_unsigned w64 (pos n) % 2 ^ 32)) true ≡ Some pair
      → IsKindIn (Number pair.0) some_node
  below_node n pair same few e =
      let limit = imm_low n few in
      let fits : nat_lt n (2 ^ 32) ≡ true = lt-ltb n (2 ^ 32) (omega (arith, few)) in
      let found : less (full_of 32) (just n) ≡ Some pair = rw (limit, fits) at e in
      less_node n pair same few found

  pub not_above_node : (n : ℕ) (pair : Span × Span) → n ≡ shape.nodes → n ≤ 64
      → branch_of Ge W32 (full_of 32) (just (cast_unsigned w64 (pos n) % 2 ^ 32)) false ≡ Some pair
      → IsKindIn (Number pair.0) some_node
  not_above_node n pair same few e =
      let limit = imm_low n few in
      let fits : nat_lt n (2 ^ 32) ≡ true = lt-ltb n (2 ^ 32) (omega (arith, few)) in
      let found : less (full_of 32) (just n) ≡ Some pair = rw (limit, fits) at e in
      less_node n pair same few found

  moved_node : (m : ℕ) → m < 2 ^ 32 → IsKindIn (Number (range_of Mov W32 (span 0 m) (span 0 m))) (Number (span 0 m))
  moved_node zero h = (just _, refl, record { low = omega arith; high = omega arith })
  moved_node (suc m) h = rw (ne_eqb 0 (suc m) (λ e. omega arith), lt-ltb (suc m) (2 ^ 32) h)
      (kind_in_itself (Number (span 0 (suc m))))

  -- a node's number from r0 into r1
  pub name_typed : (d slot : ℕ) → shape.nodes ≤ 64 → slot + 1 ≤ last
      → T slot (copy R1 R0 ∷ []) (C (known d some_node Unset Unset) slot) (C (known d Unset some_node Unset) (slot + 1))
  name_typed d slot few le = one_on program shape last solid slot (copy R1 R0) (known d some_node Unset Unset) _
      (known d Unset some_node Unset) refl refl refl
      (into _ d Unset some_node Unset tt (moved_node (shape.nodes - 1) (omega (arith, few))) tt refl)
      (proper_known d some_node Unset Unset proper_node tt tt) (keeps_own _ _ _ refl) le

  recv_typed : (d slot : ℕ) → 1 ≤ shape.nodes → slot + 1 ≤ last
      → T slot (i.Call (pos 2) ∷ []) (C (known d Unset some_node Unset) slot) (C (valued d) (slot + 1))
  recv_typed d slot some le =
      let one_of : nat_lt (shape.nodes - 1) shape.nodes ≡ true = lt-ltb (shape.nodes - 1) shape.nodes
      (omega (arith, some)) in
      one_on program shape last solid slot (i.Call (pos 2)) (known d Unset some_node Unset) _ (valued d) refl refl refl
      (into _ d word Unset Unset (kind_in_itself word) tt tt refl)
      (proper_known d Unset some_node Unset tt proper_node tt) (keeps_own _ _ _ (rw one_of refl)) le

  message_typed : (d n slot : ℕ) → n ≡ shape.nodes → 1 ≤ n → n ≤ 64 → slot + 5 ≤ last
      → T slot (message_code n) (C (valued d) slot) (C (valued d) (slot + 5))
  message_typed d n slot same some few le =
      let p1 = slot + 1 in
      let p2 = p1 + 1 in
      let p3 = p2 + 1 in
      let p4 = p3 + 1 in
      let end = slot + 5 in
      let N = known d some_node Unset Unset in
      let V = valued d in
      let f = one_fork program shape last solid slot 2 (cond_of Less) R0 (operand.Imm (pos n)) V (plain d) N
      (λ x e. left_imm d (pos n) _ x e) (λ x e. node_in_r0 d (pos n) _ x (λ pair g. below_node n pair same few g) e)
      (proper_known d word Unset Unset some_word tt tt) (keeps_own _ _ _ refl) (omega (arith, le)) in
      let a = number_typed program shape last solid d 4294967295 p1 (omega (arith, le)) in
      let j = typed_at p2 (p2 + 1 + 2) end (i.Ja (pos 2) ∷ []) (C V p2) V (omega arith)
      (one_jump program shape last solid p2 2 V (proper_known d word Unset Unset some_word tt tt)
      (omega (arith, le))) in
      let c = name_typed d p3 (omega (arith, same, few)) (omega (arith, le)) in
      let r = typed_at p4 (p4 + 1) end (i.Call (pos 2) ∷ []) (C (known d Unset some_node Unset) p4) V (omega arith)
      (recv_typed d p4 (omega (arith, same, some)) (omega (arith, le))) in
      let cr = typed_seq p3 p4 (copy R1 R0 ∷ []) (i.Call (pos 2) ∷ []) (C N p3) (C (known d Unset some_node Unset) p4)
      (C V end) refl c r in
      let jcr = typed_then program shape last solid p2 p3 (i.Ja (pos 2) ∷ [])
      (copy R1 R0 ∷ i.Call (pos 2) ∷ []) (C V p2) (C V end) (C N p3) (C V end) refl j cr (λ table o asks. asks) in
      let ajcr = typed_then program shape last solid p1 p2 (set_number R0 4294967295 ∷ [])
      (i.Ja (pos 2) ∷ copy R1 R0 ∷ i.Call (pos 2) ∷ []) (C (plain d) p1) (C V p2) (λ table. C V p2 table × C N p3 table)
      (C V end) refl a jcr (λ table o asks. o.0) in
      let e : p3 ≡ p1 + 2 = omega arith in
      let all = typed_then program shape last solid slot p1 (jump_at Less n 2 ∷ [])
      (set_number R0 4294967295 ∷ i.Ja (pos 2) ∷ copy R1 R0 ∷ i.Call (pos 2) ∷ []) (C V slot)
      (λ table. C (plain d) p1 table × C N (p1 + 2) table)
      (λ table. C (plain d) p1 table × (C V p2 table × C N p3 table)) (C V end) refl f ajcr
      (λ table o asks. (o.0, subst (λ (k : ℕ). C N k table) e o.1.1)) in
      typed_as program shape last solid slot (message_code n)
      (λ table. C V slot table × (C (plain d) p1 table × (C V p2 table × C N p3 table))) (C V end) (C V slot) (C V end)
      (λ table h. h.0) (λ table h. h) all

  -- a known node's number into r1
  pub node_typed : (d j slot : ℕ) → j < shape.nodes → shape.nodes ≤ 64 → slot + 1 ≤ last
      → T slot (set_node R1 j ∷ []) (C (plain d) slot) (C (known d Unset some_node Unset) (slot + 1))
  node_typed d j slot lt few le =
      let imm : cast_unsigned w64 (pos j) % 2 ^ 64 ≡ j = mod-eq_of_lt (omega (arith, lt, few)) in
      one_on program shape last solid slot (set_node R1 j) (plain d) _ (known d Unset some_node Unset) refl refl refl
      (into _ d Unset some_node Unset tt
      (just (cast_unsigned w64 (pos j) % 2 ^ 64), refl, record { low = omega arith; high = omega (arith, lt, imm) }) tt
      refl) (proper_known d Unset Unset Unset tt tt tt) (keeps_own _ _ _ refl) le

  -- the last message from a known node
  known_node_typed : (d j slot : ℕ) → j < shape.nodes → shape.nodes ≤ 64 → slot + 2 ≤ last
      → TermTyped Value d slot (set_node R1 j ∷ i.Call (pos 2) ∷ [])
  known_node_typed d j slot lt few le =
      let a = node_typed d j slot lt few (omega (arith, le)) in
      let e : slot + 1 + 1 ≡ slot + 2 = omega arith in
      let b = typed_at (slot + 1) (slot + 1 + 1) (slot + 2) (i.Call (pos 2) ∷ [])
      (C (known d Unset some_node Unset) (slot + 1)) (valued d) e
      (recv_typed d (slot + 1) (omega (arith, lt)) (omega (arith, le))) in
      typed_seq slot (slot + 1) (set_node R1 j ∷ []) (i.Call (pos 2) ∷ []) (C (plain d) slot)
      (C (known d Unset some_node Unset) (slot + 1)) (C (valued d) (slot + 2)) refl a b

  some_node_typed : (d n slot : ℕ) (code : List Insn) → n ≡ shape.nodes → 1 ≤ n → n ≤ 64
      → slot + length (code ++ message_code n) ≤ last → (slot + length code ≤ last → TermTyped Value d slot code)
      → TermTyped Value d slot (code ++ message_code n)
  some_node_typed d n slot code same some few le first =
      let back = message_code n in
      let len : length (code ++ back) ≡ length code + 5 = length-append code back in
      let p1 = slot + length code in
      let e : p1 + 5 ≡ slot + length (code ++ back) = omega (arith, len) in
      let b1 = typed_at p1 (p1 + 5) (slot + length (code ++ back)) back (C (valued d) p1) (valued d) e
      (message_typed d n p1 same some few (omega (arith, len, le))) in
      typed_seq slot p1 code back (C (plain d) slot) (C (valued d) p1)
      (C (valued d) (slot + length (code ++ back))) refl
      (first (omega (arith, len, le))) b1

  message_by_typed : (y : Source) (d n slot : ℕ) (code : List Insn) → n ≡ shape.nodes → 1 ≤ n → n ≤ 64
      → slot + length (message_by y n code) ≤ last → (slot + length code ≤ last → TermTyped Value d slot code)
      → TermTyped Value d slot (message_by y n code)
  message_by_typed (Constant j) d n slot code same some few le first =
      let known_node = set_node R1 j ∷ i.Call (pos 2) ∷ [] in
      let none = set_number R0 4294967295 ∷ [] in
      let P : List Insn → Type 0 = λ c. slot + length c ≤ last → TermTyped Value d slot c in
      let whole : P (message_by (Constant j) n code) = elim (cases_Bool (nat_lt j n)) [
        | inl so ↦ subst P (sym (cond-true (nat_lt j n) known_node none so))
            (λ l. known_node_typed d j slot (omega (arith, ltb-true j n so, same)) (omega (arith, same, few)) l)
        | inr other ↦ subst P (sym (cond-false (nat_lt j n) known_node none other))
            (λ l. number_typed program shape last solid d 4294967295 slot l)
      ] in
      whole le
  message_by_typed (FromLocal k) d n slot code same some few le first = some_node_typed d n slot code same
      some few le first
  message_by_typed (FromWord k) d n slot code same some few le first = some_node_typed d n slot code same
      some few le first
  message_by_typed Computed d n slot code same some few le first = some_node_typed d n slot code same some few le first

  -- ---- tallies

  -- a message into a place that is in use, if it is less
  lower_typed : (p : Place) (k d j slot : ℕ) → number_place k ≡ p → k < d → d ≤ PLACES → j < shape.nodes
      → shape.nodes ≤ 64 → slot + length (lower_code p j) ≤ last
      → T slot (lower_code p j) (C (plain d) slot) (C (plain d) (slot + length (lower_code p j)))
  lower_typed p k d j slot same lt few node most le =
      let asked = set_node R1 j ∷ i.Call (pos 2) ∷ [] in
      let left = asked ++ load_place p in
      let jump = jump_by AtLeast (place_operand p) 1 ∷ [] in
      let keep = keep_code p ∷ [] in
      let len : length (left ++ (jump ++ keep)) ≡ length left + 2 = length-append left (jump ++ keep) in
      let p1 = slot + length left in
      let p2 = p1 + 1 in
      let p3 = p2 + 1 in
      let S = plain d in
      let V = valued d in
      let K = known d word (place_r1 p) Unset in
      let is : IsPlace p k = subst (λ (q : Place). IsPlace q k) same (place_is k (omega (arith, lt, few))) in
      let a = place_loaded_typed p k d slot asked is lt (omega (arith, len, le))
      (λ l. known_node_typed d j slot node most l) in
      let f = place_fork AtLeast p k d p1 1 is lt (omega (arith, len, le)) in
      let g = subst (λ (q : Place). T p2 (keep_code q ∷ []) (C V p2) (C S p3)) same
      (change_typed program shape last solid k d p2 lt few (omega (arith, len, le))) in
      let fg = typed_then program shape last solid p1 p2 jump keep (C K p1) (λ table. C V p2 table × C V p3 table)
      (C V p2) (C S p3) refl f g (λ table o asks. (o, covers_less table V S p3 (valued_less d) asks)) in
      let fg1 = typed_as program shape last solid p1 (jump ++ keep) (λ table. C K p1 table × C V p2 table) (C S p3)
      (C K p1) (C S p3) (λ table h. h.0) (λ table h. h) fg in
      let e : p3 ≡ slot + length (left ++ (jump ++ keep)) = omega (arith, len) in
      typed_at slot p3 (slot + length (left ++ (jump ++ keep))) (left ++ (jump ++ keep)) (C S slot) S e
      (typed_seq slot p1 left (jump ++ keep) (C S slot) (C K p1) (C S p3) refl a fg1)

  step_typed : (tally : Tally) (d e j slot : ℕ) → d < e → e ≤ PLACES → j < shape.nodes → shape.nodes ≤ 64
      → slot + length (tally_step tally (number_place d) j) ≤ last
      → T slot (tally_step tally (number_place d) j) (C (plain e) slot)
      (C (plain e) (slot + length (tally_step tally (number_place d) j)))
  step_typed HowMany d e j slot below few node most le = increment_typed (number_place d) d e slot refl below few le
  step_typed LeastMessage d e j slot below few node most le =
      lower_typed (number_place d) d e j slot refl below few node most le

  -- the tests of a tally in place d, at depth e
  abbrev pub TestsTyped : Tally → ℕ → ℕ → (ℕ → List Insn) → Type 0
  TestsTyped tally d e test = (j to : ℕ) → to + length (test j) + length (tally_step tally (number_place d) 0) ≤ last
      → TermTyped (tally_test tally d) e to (test j)

  tests_typed : (tally : Tally) (d e slot n : ℕ) (test : ℕ → List Insn) → d < e → e ≤ PLACES → n ≤ shape.nodes
      → shape.nodes ≤ 64 → slot + length (tests_code tally d n test) ≤ last → TestsTyped tally d e test
      → T slot (tests_code tally d n test) (C (plain e) slot) (C (plain e) (slot + length (tests_code tally d n test)))
  tests_typed tally d e slot zero test below few within most le each =
      let same : slot ≡ slot + 0 = omega arith in
      typed_at slot slot (slot + 0) [] (C (plain e) slot) (plain e) same
      (typed_none program shape last solid slot (C (plain e) slot))
  tests_typed tally d e slot (suc n) test below few within most le each =
      let steps = tally_step tally (number_place d) in
      let front = tests_code tally d n test in
      let back = test n ++ steps n in
      let len : length (front ++ back) ≡ length front + (length (test n) + length (steps n)) = omega
      (arith, length-append front back, length-append (test n) (steps n)) in
      let alike : length (steps n) ≡ length (steps 0) = steps_alike tally (number_place d) n in
      let p1 = slot + length front in
      let p2 = p1 + length (test n) in
      let p3 = p2 + length (steps n) in
      let S = plain e in
      let f = tests_typed tally d e slot n test below few (omega (arith, within)) most (omega (arith, len, le)) each in
      let e1 : p2 + length (steps 0) ≡ p3 = omega (arith, alike) in
      let t = subst (λ (x : ℕ). T p1 (test n) (C S p1) (λ table. C S p2 table × C S x table)) e1
      (each n p1 (omega (arith, len, le, alike))) in
      let a = step_typed tally d e n p2 below few (omega (arith, within)) most (omega (arith, len, le)) in
      let ta = typed_then program shape last solid p1 p2 (test n) (steps n) (C S p1) (λ table. C S p2 table × C S p3 table)
      (C S p2) (C S p3) refl t a (λ table o asks. (o, asks)) in
      let ta1 = typed_as program shape last solid p1 back (λ table. C S p1 table × C S p2 table) (C S p3) (C S p1)
      (C S p3) (λ table h. h.0) (λ table h. h) ta in
      let end : p3 ≡ slot + length (front ++ back) = omega (arith, len) in
      typed_at slot p3 (slot + length (front ++ back)) (front ++ back) (C S slot) S end
      (typed_seq slot p1 front back (C S slot) (C S p1) (C S p3) refl f ta1)

  -- the tests of a tally that has begun in place d
  abbrev pub OverTyped : ℕ → ℕ → List Insn → Type 0
  OverTyped d slot tests = slot + length tests ≤ last
      → T slot tests (C (plain (d + 1)) slot) (C (plain (d + 1)) (slot + length tests))

  plain_tests_typed : (tally : Tally) (d slot n : ℕ) (test : ℕ → List Insn) → d < PLACES → n ≤ shape.nodes
      → shape.nodes ≤ 64 → TestsTyped tally d (d + 1) test → OverTyped d slot (tests_code tally d n test)
  plain_tests_typed tally d slot n test small within most each le =
      tests_typed tally d (d + 1) slot n test (omega arith) (omega (arith, small)) within most le each

  -- the right number is kept in place d + 1
  shared_tests_typed : (tally : Tally) (d slot n : ℕ) (o : Operator) (right : List Insn) (left : ℕ → List Insn)
      → d + 1 < PLACES → n ≤ shape.nodes → shape.nodes ≤ 64
      → ((to : ℕ) → to + length right ≤ last → TermTyped Value (d + 1) to right)
      → ((j to : ℕ) → to + length (left j) ≤ last → TermTyped Value (d + 2) to (left j))
      → OverTyped d slot (shared_code tally d n o right left)
  shared_tests_typed tally d slot n o right left small within most first second le =
      let test = λ (j : ℕ). right_code o (FromLocal (d + 1)) (tally_test tally d) (left j) in
      let tests = tests_code tally d n test in
      let whole = shared_code tally d n o right left in
      let len : length whole ≡ length right + (1 + length tests) = omega
      (arith, length-append right (keep_code (number_place (d + 1)) ∷ tests)) in
      let p = slot + length right + 1 in
      let end : p + length tests ≡ slot + length whole = omega (arith, len) in
      let deep : d + 2 ≡ d + 1 + 1 = omega arith in
      let t = tests_typed tally d (d + 2) p n test (omega arith) (omega (arith, small)) within most (omega (arith, len, le))
      (λ j to l. right_typed o (FromLocal (d + 1)) (tally_test tally d) (d + 2) (d + 2) to (left j) refl (omega arith)
      (omega arith) (omega (arith, small)) l (λ k. second j to k)) in
      let t1 = subst (λ (e : ℕ). T p tests (C (plain e) p) (C (plain (d + 2)) (p + length tests))) deep t in
      let t2 = typed_as program shape last solid p tests (C (plain (d + 1 + 1)) p) (C (plain (d + 2)) (p + length tests))
      (C (plain (d + 1 + 1)) p) (C (plain (d + 1)) (p + length tests)) (λ table h. h)
      (λ table h. subst (λ (e : ℕ). C (plain e) (p + length tests) table) (sym deep)
      (covers_less table (plain (d + 1 + 1)) (plain (d + 1)) (p + length tests) (known_less (d + 1) Unset Unset Unset) h))
      t1 in
      let t3 = typed_at p (p + length tests) (slot + length whole) tests (C (plain (d + 1 + 1)) p) (plain (d + 1)) end t2 in
      kept_typed (d + 1) slot right tests (C (plain (d + 1)) (slot + length whole)) small le (λ k. first slot k) t3

  -- a tally that stays in the next place
  pub tallied_typed : (tally : Tally) (d slot : ℕ) (tests : List Insn) → d < PLACES
      → slot + length (tallied_code tally d tests) ≤ last → ((to : ℕ) → OverTyped d to tests)
      → T slot (tallied_code tally d tests) (C (plain d) slot)
      (C (plain (d + 1)) (slot + length (tallied_code tally d tests)))
  tallied_typed tally d slot tests small le each =
      let p2 = slot + 1 in
      let end = slot + length (tallied_code tally d tests) in
      let b = begin_typed program shape last solid d (tally_start tally) slot small (omega (arith, le)) in
      let e : p2 + length tests ≡ end = omega arith in
      let c = typed_at p2 (p2 + length tests) end tests (C (plain (d + 1)) p2) (plain (d + 1)) e
      (each p2 (omega (arith, le))) in
      typed_seq slot p2 (start_code (number_place d) (tally_start tally) ∷ []) tests (C (plain d) slot)
      (C (plain (d + 1)) p2) (C (plain (d + 1)) end) refl b c

  tally_typed : (tally : Tally) (d slot : ℕ) (tests : List Insn) → d < PLACES
      → slot + length (tally_code tally d tests) ≤ last → ((to : ℕ) → OverTyped d to tests)
      → TermTyped Value d slot (tally_code tally d tests)
  tally_typed tally d slot tests small le each =
      let codes = tallied_code tally d tests in
      let last_one = fetch_code R0 (number_place d) ∷ [] in
      let len : length (codes ++ last_one) ≡ length codes + 1 = length-append codes last_one in
      let p3 = slot + length codes in
      let end = slot + length (codes ++ last_one) in
      let c = tallied_typed tally d slot tests small (omega (arith, len, le)) each in
      let f = fetch_typed program shape last solid d (d + 1) Unset p3 (omega arith) (omega (arith, small)) tt
      (omega (arith, len, le)) in
      let e : p3 + 1 ≡ end = omega (arith, len) in
      let f1 = typed_at p3 (p3 + 1) end last_one (C (plain (d + 1)) p3) (valued (d + 1)) e f in
      let f2 = typed_as program shape last solid p3 last_one (C (plain (d + 1)) p3) (C (valued (d + 1)) end)
      (C (plain (d + 1)) p3) (C (valued d) end) (λ table h. h)
      (λ table h. covers_less table (valued (d + 1)) (valued d) end (known_less d word Unset Unset) h) f1 in
      typed_seq slot p3 codes last_one (C (plain d) slot) (C (plain (d + 1)) p3) (C (valued d) end) refl c f2

  -- ---- sorted numbers

  -- r0 beside r1: both stay numbers of 32 bits if it isn't taken
  both_fork : (r : Comparison) (d slot far : ℕ) → slot + 1 + far ≤ last
      → T slot (jump_by r (operand.Reg R1) far ∷ []) (C (known d word word Unset) slot)
      (λ table. C (known d word word Unset) (slot + 1) table × C (valued d) (slot + 1 + far) table)
  both_fork r d slot far le = one_fork program shape last solid slot far (cond_of r) R0 (operand.Reg R1)
      (known d word word Unset) (known d word word Unset) (valued d) (λ x e. both_left r false d x e)
      (λ x e. left_reg r true d x e) (proper_known d word word Unset some_word some_word tt) (keeps_own _ _ _ refl) le

  -- r1 into r0
  first_typed : (d slot : ℕ) → slot + 1 ≤ last
      → T slot (copy R0 R1 ∷ []) (C (known d Unset word Unset) slot) (C (valued d) (slot + 1))
  first_typed d slot le = one_on program shape last solid slot (copy R0 R1) (known d Unset word Unset) _ (valued d) refl
      refl refl (into _ d word Unset Unset (kind_in_itself word) tt tt refl)
      (proper_known d Unset word Unset tt some_word tt) (keeps_own _ _ _ refl) le

  exchange_typed : (r : Comparison) (b e slot : ℕ) → b < e → e ≤ PLACES → slot + 4 ≤ last
      → T slot (exchange_code r (number_place b)) (C (valued e) slot) (C (valued e) (slot + 4))
  exchange_typed r b e slot lt few le =
      let p = number_place b in
      let is = place_is b (omega (arith, lt, few)) in
      let V = valued e in
      let B = known e word word Unset in
      let K = known e Unset word Unset in
      let p1 = slot + 1 in
      let p2 = p1 + 1 in
      let p3 = p2 + 1 in
      let end = slot + 4 in
      let jump = jump_by r (operand.Reg R1) 2 ∷ [] in
      let a = fetch_place program shape last solid p b e R1 word Unset Unset B slot is lt some_word tt tt refl
      (into _ e word word Unset (kind_in_itself word) (kind_in_itself word) tt refl) (omega (arith, le)) in
      let e1 : p1 + 1 + 2 ≡ end = omega arith in
      let f = subst (λ (n : ℕ). T p1 jump (C B p1) (λ table. C B p2 table × C V n table)) e1
      (both_fork r e p1 2 (omega (arith, le))) in
      let g = keep_beside program shape last solid p b e e word p2 is (grows_none b e lt) some_word
      (omega (arith, le)) in
      let e2 : p3 + 1 ≡ end = omega arith in
      let h = typed_at p3 (p3 + 1) end (copy R0 R1 ∷ []) (C K p3) V e2 (first_typed e p3 (omega (arith, le))) in
      let gh = typed_seq p2 p3 (keep_code p ∷ []) (copy R0 R1 ∷ []) (C B p2) (C K p3) (C V end) refl g h in
      let rest = keep_code p ∷ copy R0 R1 ∷ [] in
      let fgh = typed_then program shape last solid p1 p2 jump rest (C B p1) (λ table. C B p2 table × C V end table)
      (C B p2) (C V end) refl f gh (λ table o asks. (o, asks)) in
      let back = jump_by r (operand.Reg R1) 2 ∷ rest in
      let fgh1 = typed_as program shape last solid p1 back (λ table. C B p1 table × C B p2 table) (C V end) (C B p1)
      (C V end) (λ table h. h.0) (λ table h. h) fgh in
      typed_seq slot p1 (fetch_code R1 p ∷ []) back (C V slot) (C B p1) (C V end) refl a fgh1

  exchanges_typed : (r : Comparison) (b m e slot : ℕ) → b + m ≤ e → e ≤ PLACES
      → slot + length (exchange_codes r b m) ≤ last
      → T slot (exchange_codes r b m) (C (valued e) slot) (C (valued e) (slot + length (exchange_codes r b m)))
  exchanges_typed r b zero e slot within few le =
      let same : slot ≡ slot + 0 = omega arith in
      typed_at slot slot (slot + 0) [] (C (valued e) slot) (valued e) same
      (typed_none program shape last solid slot (C (valued e) slot))
  exchanges_typed r b (suc m) e slot within few le =
      let V = valued e in
      let front = exchange_code r (number_place b) in
      let back = exchange_codes r (b + 1) m in
      let len : length (front ++ back) ≡ 4 + length back = length-append front back in
      let p1 = slot + 4 in
      let a = exchange_typed r b e slot (omega (arith, within)) few (omega (arith, len, le)) in
      let f = exchanges_typed r (b + 1) m e p1 (omega (arith, within)) few (omega (arith, len, le)) in
      let same : p1 + length back ≡ slot + length (front ++ back) = omega (arith, len) in
      typed_at slot (p1 + length back) (slot + length (front ++ back)) (front ++ back) (C V slot) V same
      (typed_seq slot p1 front back (C V slot) (C V p1) (C V (p1 + length back)) refl a f)

  pass_typed : (r : Comparison) (a m e slot : ℕ) → a + m < e → e ≤ PLACES → slot + length (pass_code r a m) ≤ last
      → T slot (pass_code r a m) (C (plain e) slot) (C (valued e) (slot + length (pass_code r a m)))
  pass_typed r a m e slot within few le =
      let V = valued e in
      let codes = exchange_codes r (a + 1) m in
      let p1 = slot + 1 in
      let f = fetch_typed program shape last solid a e Unset slot (omega (arith, within)) few tt (omega (arith, le)) in
      let g = exchanges_typed r (a + 1) m e p1 (omega (arith, within)) few (omega (arith, le)) in
      let same : p1 + length codes ≡ slot + length (pass_code r a m) = omega arith in
      typed_at slot (p1 + length codes) (slot + length (pass_code r a m)) (pass_code r a m) (C (plain e) slot) V same
      (typed_seq slot p1 (fetch_code R0 (number_place a) ∷ []) codes (C (plain e) slot) (C V p1)
      (C V (p1 + length codes)) refl f g)

  -- passes, and one more
  selects_typed : (r : Comparison) (d n i slot : ℕ) → i < n → d + n ≤ PLACES
      → slot + length (pass_codes r d n (suc i)) ≤ last
      → (slot + length (pass_codes r d n i) ≤ last
      → T slot (pass_codes r d n i) (C (plain (d + n)) slot) (C (plain (d + n)) (slot + length (pass_codes r d n i))))
      → T slot (pass_codes r d n (suc i)) (C (plain (d + n)) slot)
      (C (valued (d + n)) (slot + length (pass_codes r d n (suc i))))
  selects_typed r d n i slot within few le before =
      let S = plain (d + n) in
      let V = valued (d + n) in
      let front = pass_codes r d n i in
      let back = pass_code r (d + i) (n - 1 - i) in
      let len : length (front ++ back) ≡ length front + length back = length-append front back in
      let p1 = slot + length front in
      let f = before (omega (arith, len, le)) in
      let g = pass_typed r (d + i) (n - 1 - i) (d + n) p1 (omega (arith, within)) few (omega (arith, len, le)) in
      let same : p1 + length back ≡ slot + length (front ++ back) = omega (arith, len) in
      typed_at slot (p1 + length back) (slot + length (front ++ back)) (front ++ back) (C S slot) V same
      (typed_seq slot p1 front back (C S slot) (C S p1) (C V (p1 + length back)) refl f g)

  passes_typed : (r : Comparison) (d n i slot : ℕ) → i ≤ n → d + n ≤ PLACES
      → slot + length (pass_codes r d n i) ≤ last
      → T slot (pass_codes r d n i) (C (plain (d + n)) slot) (C (plain (d + n)) (slot + length (pass_codes r d n i)))
  passes_typed r d n zero slot within few le =
      let S = plain (d + n) in
      let same : slot ≡ slot + 0 = omega arith in
      typed_at slot slot (slot + 0) [] (C S slot) S same (typed_none program shape last solid slot (C S slot))
  passes_typed r d n (suc i) slot within few le =
      let S = plain (d + n) in
      let V = valued (d + n) in
      let end = slot + length (pass_codes r d n (suc i)) in
      typed_as program shape last solid slot (pass_codes r d n (suc i)) (C S slot) (C V end) (C S slot) (C S end)
      (λ table h. h) (λ table h. covers_less table V S end (valued_less (d + n)) h)
      (selects_typed r d n i slot (omega (arith, within)) few le
      (λ l. passes_typed r d n i slot (omega (arith, within)) few l))

  -- the numbers that are sorted
  abbrev ItemsTyped : ℕ → ℕ → (ℕ → List Insn) → Type 0
  ItemsTyped d n item = (j to : ℕ) → j < n → to + length (item j) ≤ last → TermTyped Value (d + j) to (item j)

  items_typed : (d n slot m : ℕ) (item : ℕ → List Insn) → m ≤ n → d + n ≤ PLACES
      → slot + length (items_code d item m) ≤ last → ItemsTyped d n item
      → T slot (items_code d item m) (C (plain d) slot) (C (plain (d + m)) (slot + length (items_code d item m)))
  items_typed d n slot zero item within few le each =
      let same : slot ≡ slot + 0 = omega arith in
      let e : d ≡ d + 0 = omega arith in
      subst (λ (x : ℕ). T slot [] (C (plain d) slot) (C (plain x) (slot + 0))) e
      (typed_at slot slot (slot + 0) [] (C (plain d) slot) (plain d) same
      (typed_none program shape last solid slot (C (plain d) slot)))
  items_typed d n slot (suc m) item within few le each =
      let front = items_code d item m in
      let keep = keep_code (number_place (d + m)) ∷ [] in
      let back = item m ++ keep in
      let len : length (front ++ back) ≡ length front + (length (item m) + 1) = omega
      (arith, length-append front back, length-append (item m) keep) in
      let p1 = slot + length front in
      let p2 = p1 + length (item m) in
      let end = slot + length (front ++ back) in
      let S = plain (d + m) in
      let V = valued (d + m) in
      let N = plain (d + m + 1) in
      let f = items_typed d n slot m item (omega (arith, within)) few (omega (arith, len, le)) each in
      let g = each m p1 (omega (arith, within)) (omega (arith, len, le)) in
      let h = keep_typed program shape last solid (d + m) p2 (omega (arith, within, few)) (omega (arith, len, le)) in
      let same : p2 + 1 ≡ end = omega (arith, len) in
      let h1 = typed_at p2 (p2 + 1) end keep (C V p2) N same h in
      let gh = typed_seq p1 p2 (item m) keep (C S p1) (C V p2) (C N end) refl g h1 in
      let e : d + m + 1 ≡ d + suc m = omega arith in
      subst (λ (x : ℕ). T slot (front ++ back) (C (plain d) slot) (C (plain x) end)) e
      (typed_seq slot p1 front back (C (plain d) slot) (C S p1) (C N end) refl f gh)

  -- the numbers, and then the passes
  found_typed : (r : Comparison) (d n i slot : ℕ) (item : ℕ → List Insn) → i < n → d + n ≤ PLACES
      → slot + length (items_code d item n ++ pass_codes r d n (suc i)) ≤ last → ItemsTyped d n item
      → TermTyped Value d slot (items_code d item n ++ pass_codes r d n (suc i))
  found_typed r d n i slot item within few le each =
      let front = items_code d item n in
      let back = pass_codes r d n (suc i) in
      let len : length (front ++ back) ≡ length front + length back = length-append front back in
      let p1 = slot + length front in
      let end = slot + length (front ++ back) in
      let S = plain (d + n) in
      let V = valued (d + n) in
      let f = items_typed d n slot n item (omega arith) few (omega (arith, len, le)) each in
      let g = selects_typed r d n i p1 within few (omega (arith, len, le))
      (λ l. passes_typed r d n i p1 (omega (arith, within)) few l) in
      let same : p1 + length back ≡ end = omega (arith, len) in
      let g1 = typed_at p1 (p1 + length back) end back (C S p1) V same g in
      let g2 = typed_as program shape last solid p1 back (C S p1) (C V end) (C S p1) (C (valued d) end) (λ table h. h)
      (λ table h. covers_less table V (valued d) end (known_below d (d + n) word Unset Unset (omega arith)) h) g1 in
      typed_seq slot p1 front back (C (plain d) slot) (C S p1) (C (valued d) end) refl f g2

  sorted_typed : (k d n slot : ℕ) (item : ℕ → List Insn) → d + n ≤ PLACES
      → slot + length (sorted_code k d n item) ≤ last → ItemsTyped d n item
      → TermTyped Value d slot (sorted_code k d n item)
  sorted_typed k d n slot item few le each =
      let found = items_code d item n ++ pass_codes (nearer_end k n) d n (suc (passes_before k n)) in
      let none = set_number R0 4294967295 ∷ [] in
      let P : List Insn → Type 0 = λ c. slot + length c ≤ last → TermTyped Value d slot c in
      let whole : P (sorted_code k d n item) = elim (cases_Bool (nat_lt k n)) [
        | inl so ↦
            let lt = ltb-true k n so in
            subst P (sym (cond-true (nat_lt k n) found none so))
            (λ l. found_typed (nearer_end k n) d n (passes_before k n) slot item (omega (arith, lt)) few l each)
        | inr other ↦ subst P (sym (cond-false (nat_lt k n) found none other))
            (λ l. number_typed program shape last solid d 4294967295 slot l)
      ] in
      whole le

  -- the typing of a term for its number, in any loops and at any depth
  abbrev ValueTyped : Term → Sizes → ℕ → Type 0
  ValueTyped t z lets = (I : List ℕ) (e to : ℕ) → lets ≤ e → e ≤ PLACES → Fits t z (length I) lets e
      → to + length (term_code t z I e Value) ≤ last → TermTyped Value e to (term_code t z I e Value)

  -- an operator between two terms
  binary_typed : (o : Operator) (a b : Term) (z : Sizes) (J : List ℕ) (d lets : ℕ) (purpose : Purpose) (slot : ℕ)
      → z.memory ≡ shape.memory → lets ≤ d → d ≤ PLACES
      → HasPlace (is_operand a || is_operand b) d → Fits a z (length J) lets d
      → Fits b z (length J) lets (depth_behind (is_operand a || is_operand b) d)
      → ValueTyped a z lets → ValueTyped b z lets
      → slot + length (binary_code (term_source b z J) (term_source a z J) o d purpose
      (term_code a z J d Value) (term_code b z J (depth_behind (is_operand a || is_operand b) d) Value))
      + beyond_purpose purpose ≤ last
      → TermTyped purpose d slot (binary_code (term_source b z J) (term_source a z J) o d purpose
      (term_code a z J d Value) (term_code b z J (depth_behind (is_operand a || is_operand b) d) Value))
  binary_typed o a b z J d lets purpose slot room below small place fits_a fits_b left right le =
      let deep = depth_behind (is_operand a || is_operand b) d in
      let more : d ≤ deep = behind_more (is_operand a || is_operand b) d in
      let memory = λ (y : Source) (there : IsThere y lets z.memory). subst (λ (m : ℕ). IsThere y lets m) room there in
      sides_typed (term_source b z J) (term_source a z J) o purpose d deep lets slot (term_code a z J d Value)
      (term_code b z J deep Value) (memory (term_source b z J) (source_there b z J (length J) lets deep fits_b))
      (memory (term_source a z J) (source_there a z J (length J) lets d fits_a)) below small
      (λ e. same_depth (is_operand a) (is_operand b) d (sym (found_same a z J) ∙ e))
      (λ e f. free_beside (is_operand a) (is_operand b) d (sym (found_same a z J) ∙ e)
      (sym (found_same b z J) ∙ f) place) le
      (λ k. left J d slot below small fits_a k)
      (λ to few_deep k. right J deep to (omega (arith, below, more)) few_deep fits_b k)

  -- the tests of an operator between two terms
  sides_tests_typed : (tally : Tally) (o : Operator) (a b : Term) (z : Sizes) (J : List ℕ) (d lets slot : ℕ)
      → z.nodes ≡ shape.nodes → z.nodes ≤ 64 → z.memory ≡ shape.memory → lets ≤ d → d < PLACES
      → SidesFit (is_shared o a b (length J)) (is_operand a || is_operand b) d
      (λ e. Fits a z (length J + 1) lets e) (λ e. Fits b z (length J + 1) lets e)
      → ValueTyped a z lets → ValueTyped b z lets
      → OverTyped d slot (sides_code tally o a b z J d (λ I e. term_code a z I e Value) (λ I e. term_code b z I e Value))
  sides_tests_typed tally o a b z J d lets slot same few room below small fits left right =
      by (is_shared o a b (length J)) refl
    where
      more : (j : ℕ) → length J + 1 ≡ length (J ++ j ∷ [])
      more j = omega (arith, length-append J (j ∷ []))

      left_fits : (j e : ℕ) → Fits a z (length J + 1) lets e → Fits a z (length (J ++ j ∷ [])) lets e
      left_fits j e f = subst (λ (n : ℕ). Fits a z n lets e) (more j) f

      right_fits : (j e : ℕ) → Fits b z (length J + 1) lets e → Fits b z (length (J ++ j ∷ [])) lets e
      right_fits j e f = subst (λ (n : ℕ). Fits b z n lets e) (more j) f

      code : Bool → List Insn
      code shared = if shared
          then shared_code tally d z.nodes o (term_code b z (J ++ 0 ∷ []) (d + 1) Value)
          (λ j. term_code a z (J ++ j ∷ []) (d + 2) Value)
          else tests_code tally d z.nodes (λ j. binary_code (term_source b z (J ++ j ∷ [])) (term_source a z (J ++ j ∷ []))
          o (d + 1) (tally_test tally d) (term_code a z (J ++ j ∷ []) (d + 1) Value)
          (term_code b z (J ++ j ∷ []) (depth_behind (is_operand a || is_operand b) (d + 1)) Value))

      Fit : Bool → Type 0
      Fit shared = SidesFit shared (is_operand a || is_operand b) d (λ e. Fits a z (length J + 1) lets e)
          (λ e. Fits b z (length J + 1) lets e)

      by : (shared : Bool) → is_shared o a b (length J) ≡ shared → OverTyped d slot (code (is_shared o a b (length J)))
      by true is =
          let f : Fit true = subst Fit is fits in
          subst (λ (shared : Bool). OverTyped d slot (code shared)) (sym is)
          (shared_tests_typed tally d slot z.nodes o (term_code b z (J ++ 0 ∷ []) (d + 1) Value)
          (λ j. term_code a z (J ++ j ∷ []) (d + 2) Value) f.0 (omega (arith, same)) (omega (arith, same, few))
          (λ to k. right (J ++ 0 ∷ []) (d + 1) to (omega (arith, below)) (omega (arith, small)) (right_fits 0 (d + 1) f.1) k)
          (λ j to k. left (J ++ j ∷ []) (d + 2) to (omega (arith, below)) (omega (arith, f.0)) (left_fits j (d + 2) f.2) k))
      by false is =
          let f : Fit false = subst Fit is fits in
          let found = is_operand a || is_operand b in
          subst (λ (shared : Bool). OverTyped d slot (code shared)) (sym is)
          (plain_tests_typed tally d slot z.nodes (λ j. binary_code (term_source b z (J ++ j ∷ []))
          (term_source a z (J ++ j ∷ [])) o (d + 1) (tally_test tally d) (term_code a z (J ++ j ∷ []) (d + 1) Value)
          (term_code b z (J ++ j ∷ []) (depth_behind found (d + 1)) Value)) small (omega (arith, same))
          (omega (arith, same, few))
          (λ j to k. binary_typed o a b z (J ++ j ∷ []) (d + 1) lets (tally_test tally d) to room (omega (arith, below))
          (omega (arith, small)) f.0 (left_fits j (d + 1) f.1) (right_fits j (depth_behind found (d + 1)) f.2) left right k))

  -- ---- terms

  pub term_typed : (t : Term) (z : Sizes) (J : List ℕ) (d lets : ℕ) (purpose : Purpose) (slot : ℕ)
      → z.nodes ≡ shape.nodes → 1 ≤ z.nodes → z.nodes ≤ 64 → z.memory ≡ shape.memory → lets ≤ d → d ≤ PLACES
      → Fits t z (length J) lets d → slot + length (term_code t z J d purpose) + beyond_purpose purpose ≤ last
      → TermTyped purpose d slot (term_code t z J d purpose)
  term_typed (Numeral v) z J d lets purpose slot same some few room below small fits le =
      by_value_typed purpose d slot (set_number R0 v ∷ []) le (λ l. number_typed program shape last solid d v slot l)
  term_typed Nodes z J d lets purpose slot same some few room below small fits le =
      by_value_typed purpose d slot (set_number R0 z.nodes ∷ []) le
      (λ l. number_typed program shape last solid d z.nodes slot l)
  term_typed Faults z J d lets purpose slot same some few room below small fits le =
      by_value_typed purpose d slot (set_number R0 z.faults ∷ []) le
      (λ l. number_typed program shape last solid d z.faults slot l)
  term_typed Modulus z J d lets purpose slot same some few room below small fits le =
      by_value_typed purpose d slot (set_number R0 z.modulus ∷ []) le
      (λ l. number_typed program shape last solid d z.modulus slot l)
  term_typed Me z J d lets purpose slot same some few room below small fits le =
      by_value_typed purpose d slot (i.Call (pos 1) ∷ []) le (λ l. me_typed d slot (omega (arith, same, few)) l)
  term_typed Coin z J d lets purpose slot same some few room below small fits le =
      by_value_typed purpose d slot (i.Call (pos 4) ∷ []) le (λ l. coin_typed d slot l)
  term_typed (LoopNode k) z J d lets purpose slot same some few room below small fits le =
      by_value_typed purpose d slot (set_number R0 (slice_index J k) ∷ []) le
      (λ l. number_typed program shape last solid d (slice_index J k) slot l)
  term_typed (Local k) z J d lets purpose slot same some few room below small fits le =
      by_value_typed purpose d slot (fetch_code R0 (number_place k) ∷ []) le
      (λ l. fetch_typed program shape last solid k d Unset slot (omega (arith, fits, below)) small tt l)
  term_typed (Word k) z J d lets purpose slot same some few room below small fits le =
      by_value_typed purpose d slot (i.Load size.W R0 R6 (pos (4 * k)) ∷ []) le
      (λ l. load_typed d k slot (omega (arith, fits, room)) l)
  term_typed (Message' p a) z J d lets purpose slot same some few room below small fits le =
      let code = term_code a z J d Value in
      by_value_typed purpose d slot (message_by (term_source a z J) z.nodes code) le
      (λ l. message_by_typed (term_source a z J) d z.nodes slot code same some few l
      (λ k. term_typed a z J d lets Value slot same some few room below small fits (omega (arith, k))))
  term_typed (Binary' o p a q b) z J d lets purpose slot same some few room below small fits le =
      binary_typed o a b z J d lets purpose slot room below small fits.0 fits.1 fits.2
      (λ I e to more few_e fit k. term_typed a z I e lets Value to same some few room more few_e fit
      (omega (arith, k)))
      (λ I e to more few_e fit k. term_typed b z I e lets Value to same some few room more few_e fit
      (omega (arith, k))) le
  term_typed (Logical' c p a q b) z J d lets purpose slot same some few room below small fits le =
      let left = λ (w : Bool) (g : ℕ). term_code a z J d (Jump w g) in
      by_test_typed purpose d slot (λ when far. both_code (decides c) when far left
      (term_code b z J d (Jump when far))) le
      (λ when far l. both_typed (decides c) when far d slot left (term_code b z J d (Jump when far)) l
      (λ w g k. term_typed a z J d lets (Jump w g) slot same some few room below small fits.0 k)
      (λ to k. term_typed b z J d lets (Jump when far) to same some few room below small fits.1 k))
  term_typed (Not' p a) z J d lets purpose slot same some few room below small fits le =
      by_test_typed purpose d slot (λ when far. term_code a z J d (Jump (not when) far)) le
      (λ when far l. term_typed a z J d lets (Jump (not when) far) slot same some few room below small fits l)
  term_typed (Choice' p t q a r b) z J d lets purpose slot same some few room below small fits le =
      let ca = term_code a z J d Value in
      let cb = term_code b z J d Value in
      by_value_typed purpose d slot (choice_code (λ far. term_code t z J d (Jump false far)) ca cb) le
      (λ l. choice_typed d slot (valued d) (λ far. term_code t z J d (Jump false far)) ca cb
      (proper_known d word Unset Unset some_word tt tt) l
      (λ far k. term_typed t z J d lets (Jump false far) slot same some few room below small fits.0 k)
      (λ to k. term_typed a z J d lets Value to same some few room below small fits.1 (omega (arith, k)))
      (λ to k. term_typed b z J d lets Value to same some few room below small fits.2 (omega (arith, k))))
  term_typed (Count' p (Binary' o q a r b)) z J d lets purpose slot same some few room below small fits le =
      let tests = sides_code HowMany o a b z J d (λ I e. term_code a z I e Value) (λ I e. term_code b z I e Value) in
      by_value_typed purpose d slot (tally_code HowMany d tests) le
      (λ l. tally_typed HowMany d slot tests fits.0 l
      (λ to. sides_tests_typed HowMany o a b z J d lets to same few room below fits.0 fits.1
      (λ I e to more few_e fit k. term_typed a z I e lets Value to same some few room more few_e fit
      (omega (arith, k)))
      (λ I e to more few_e fit k. term_typed b z I e lets Value to same some few room more few_e fit
      (omega (arith, k)))))
  term_typed (Count' p t) z J d lets purpose slot same some few room below small fits le =
      let test = λ (j : ℕ). term_code t z (J ++ j ∷ []) (d + 1) (tally_test HowMany d) in
      let tests = tests_code HowMany d z.nodes test in
      by_value_typed purpose d slot (tally_code HowMany d tests) le
      (λ l. tally_typed HowMany d slot tests fits.0 l
      (λ to2. plain_tests_typed HowMany d to2 z.nodes test fits.0 (omega (arith, same)) (omega (arith, same, few))
      (λ j to k.
      let more : length J + 1 ≡ length (J ++ j ∷ []) = omega (arith, length-append J (j ∷ [])) in
      term_typed t z (J ++ j ∷ []) (d + 1) lets (tally_test HowMany d) to same some few room (omega (arith, below))
      (omega (arith, fits.0)) (subst (λ (n : ℕ). Fits t z n lets (d + 1)) more fits.1) k)))
  term_typed (Least' p (Binary' o q a r b)) z J d lets purpose slot same some few room below small fits le =
      let tests = sides_code LeastMessage o a b z J d (λ I e. term_code a z I e Value) (λ I e. term_code b z I e Value) in
      by_value_typed purpose d slot (tally_code LeastMessage d tests) le
      (λ l. tally_typed LeastMessage d slot tests fits.0 l
      (λ to. sides_tests_typed LeastMessage o a b z J d lets to same few room below fits.0 fits.1
      (λ I e to more few_e fit k. term_typed a z I e lets Value to same some few room more few_e fit
      (omega (arith, k)))
      (λ I e to more few_e fit k. term_typed b z I e lets Value to same some few room more few_e fit
      (omega (arith, k)))))
  term_typed (Least' p t) z J d lets purpose slot same some few room below small fits le =
      let test = λ (j : ℕ). term_code t z (J ++ j ∷ []) (d + 1) (tally_test LeastMessage d) in
      let tests = tests_code LeastMessage d z.nodes test in
      by_value_typed purpose d slot (tally_code LeastMessage d tests) le
      (λ l. tally_typed LeastMessage d slot tests fits.0 l
      (λ to2. plain_tests_typed LeastMessage d to2 z.nodes test fits.0 (omega (arith, same)) (omega (arith, same, few))
      (λ j to k.
      let more : length J + 1 ≡ length (J ++ j ∷ []) = omega (arith, length-append J (j ∷ [])) in
      term_typed t z (J ++ j ∷ []) (d + 1) lets (tally_test LeastMessage d) to same some few room (omega (arith, below))
      (omega (arith, fits.0)) (subst (λ (n : ℕ). Fits t z n lets (d + 1)) more fits.1) k)))
  term_typed (Sorted' p k q e) z J d lets purpose slot same some few room below small fits le =
      let item = λ (j : ℕ). term_code e z (J ++ j ∷ []) (d + j) Value in
      by_value_typed purpose d slot (sorted_code (constant_number k z J) d z.nodes item) le
      (λ l. sorted_typed (constant_number k z J) d z.nodes slot item fits.2 l
      (λ j to lt k.
      let more : length J + 1 ≡ length (J ++ j ∷ []) = omega (arith, length-append J (j ∷ [])) in
      term_typed e z (J ++ j ∷ []) (d + j) lets Value to same some few room (omega (arith, below))
      (omega (arith, lt, fits.2)) (subst (λ (n : ℕ). Fits e z n lets (d + j)) more
      (fits_less e z (length J + 1) lets (d + j) (d + z.nodes) (omega (arith, lt)) fits.3)) (omega (arith, k))))

  -- the tests of a tally over the nodes at which a term holds
  pub over_typed : (tally : Tally) (t : Term) (z : Sizes) (J : List ℕ) (d lets slot : ℕ) → z.nodes ≡ shape.nodes
      → 1 ≤ z.nodes → z.nodes ≤ 64 → z.memory ≡ shape.memory → lets ≤ d → TallyFits t z (length J) lets d
      → OverTyped d slot (over_code tally t z J d)
  over_typed tally (Binary' o q a r b) z J d lets slot same some few room below fits =
      sides_tests_typed tally o a b z J d lets slot same few room below fits.0 fits.1
      (λ I e to more few_e fit k. term_typed a z I e lets Value to same some few room more few_e fit
      (omega (arith, k)))
      (λ I e to more few_e fit k. term_typed b z I e lets Value to same some few room more few_e fit
      (omega (arith, k)))
  over_typed tally t z J d lets slot same some few room below fits =
      let test = λ (j : ℕ). term_code t z (J ++ j ∷ []) (d + 1) (tally_test tally d) in
      plain_tests_typed tally d slot z.nodes test fits.0 (omega (arith, same)) (omega (arith, same, few))
      (λ j to k.
      let more : length J + 1 ≡ length (J ++ j ∷ []) = omega (arith, length-append J (j ∷ [])) in
      term_typed t z (J ++ j ∷ []) (d + 1) lets (tally_test tally d) to same some few room (omega (arith, below))
      (omega (arith, fits.0)) (subst (λ (n : ℕ). Fits t z n lets (d + 1)) more fits.1) k)
