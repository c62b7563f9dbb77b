-- Rules, as the verifier asks them.
use Rattle.std.proofs.Common.{◌≡◌, ℕ, suc, ◌+◌, ◌-◌, ◌*◌, ◌<◌, Bool, true, false, cond, ◌||◌, List, Option, Some, None, refl, sym, ap, subst, ◌∙◌, inl, inr, arith}
use Rattle.std.specs.Prelude.{ℤ, pos, negsuc, IsSome, IfSome, is_none, nat_le, if◌then◌else◌}
use Rattle.std.proofs.Math.Bool.{or-false}
use Rattle.std.proofs.lemmas.Bool.{cases_lt, le-leb, lt-leb}
use Rattle.std.proofs.lemmas.Option.{same_Some}
use Rattle.node_env.specs.Env.{Extent}
use Rattle.node_env.specs.Dwords.{dword_of}
use Rattle.bpf_insn.specs.declared.forms.Insn.{Insn}
use Rattle.bpf_insn.specs.declared.forms.Insn.TheVariants.{Alu, Neg, Movsx, Swap, Ja, JaLong, Branch, Call, Exit, Load, LoadSx, StoreReg, StoreImm, LoadImm64}
use Rattle.bpf_insn.specs.Encoding.{slots_taken}
use Rattle.bpf_insn.specs.declared.edges.Way.{Way}
use Rattle.bpf_insn.specs.declared.edges.Way.TheVariants.{Onward, Jumping}
use Rattle.bpf_insn.specs.Programs.{insn_at, slots_of}
use Rattle.bpf_insn.specs.Edges.{distance, target, BeginsAt}
use Rattle.bpf_insn.specs.Operands.{access_of, load_of, store_of}
use Rattle.bpf_insn.proofs.EdgeLaws.{jumps_by_distance, no_distance_no_jump}
use Rattle.bpf_insn.proofs.LayoutLaws.{next_stop, past_end}
use Rattle.bpf_verify.specs.declared.rule.Rule.{Rule}
use Rattle.bpf_verify.specs.declared.rule.Rule.TheVariants.{NotForward, BadTarget, UnknownHelper, UnsetRegister, FrameWrite, PointerMisuse, OutOfRegion, UnsetStackByte, BadArgument, ExitNotNumber, NotPointer}
use Rattle.value_range.specs.Span.{full_of}
use Rattle.bpf_verify.specs.declared.abstract_value.AbstractValue.{AbstractValue}
use Rattle.bpf_verify.specs.declared.abstract_value.AbstractValue.TheVariants.{Unset, Number}
use Rattle.bpf_verify.specs.States.{AbstractState, is_pointer_kind}
use Rattle.bpf_verify.specs.Outcomes.{or_full, entry_at, lowest_place, loaded_kind}
use Rattle.bpf_verify.specs.Rules.{on_base, takes_dword, lacks, touches_written, is_negative, goes_back, is_astray, leads_astray, breaks, KeepsRules, lowest_broken}

-- a byte that is written tells nothing of those after it
pub lacks_past : (A : AbstractState) (place end : ℕ) → place < end → A.written place ≡ true
    → lacks A place (end - place) ≡ lacks A (place + 1) (end - (place + 1))
lacks_past A place end before written =
    let count : end - place ≡ suc (end - (place + 1)) = omega arith in
    rw (count, written) refl

-- a byte that is of no kept pointer tells nothing of those after it
pub touches_past : (A : AbstractState) (place end : ℕ) → place < end
    → is_pointer_kind (A.entries (dword_of place)) ≡ false
    → touches_written A place (end - place) ≡ touches_written A (place + 1) (end - (place + 1))
touches_past A place end before none =
    let count : end - place ≡ suc (end - (place + 1)) = omega arith in
    rw (count, none) refl

-- ---- the lowest rule that is broken

first_none : (b : Bool) (rule : Rule) (rest : Option Rule) → cond b (Some rule) rest ≡ None
    → (b ≡ false) × (rest ≡ None)
first_none true rule rest e = absurd cc
first_none false rule rest e = (refl, e)

pub keeps_rules : (program : List Insn) (shape : Extent) (slot : ℕ) (insn : Insn) (state : Option AbstractState)
    → lowest_broken program shape slot insn state ≡ None → KeepsRules program shape slot insn state
keeps_rules program shape slot insn state e =
    let test : Rule → Bool = λ rule. breaks rule program shape slot insn state in
    let a = first_none (test NotForward) NotForward _ e in
    let b = first_none (test BadTarget) BadTarget _ a.1 in
    let c = first_none (test UnknownHelper) UnknownHelper _ b.1 in
    let d = first_none (test UnsetRegister) UnsetRegister _ c.1 in
    let f = first_none (test FrameWrite) FrameWrite _ d.1 in
    let g = first_none (test PointerMisuse) PointerMisuse _ f.1 in
    let h = first_none (test OutOfRegion) OutOfRegion _ g.1 in
    let j = first_none (test UnsetStackByte) UnsetStackByte _ h.1 in
    let k = first_none (test BadArgument) BadArgument _ j.1 in
    let l = first_none (test ExitNotNumber) ExitNotNumber _ k.1 in
    let m = first_none (test NotPointer) NotPointer _ l.1 in
    by a.0 b.0 c.0 d.0 f.0 g.0 h.0 j.0 k.0 l.0 m.0
  where
    test : Rule → Bool
    test rule = breaks rule program shape slot insn state

    by : test NotForward ≡ false → test BadTarget ≡ false → test UnknownHelper ≡ false → test UnsetRegister ≡ false
        → test FrameWrite ≡ false
        → test PointerMisuse ≡ false → test OutOfRegion ≡ false → test UnsetStackByte ≡ false → test BadArgument ≡ false
        → test ExitNotNumber ≡ false → test NotPointer ≡ false → (rule : Rule) → test rule ≡ false
    by a b c d f g h j k l m NotForward = a
    by a b c d f g h j k l m BadTarget = b
    by a b c d f g h j k l m UnknownHelper = c
    by a b c d f g h j k l m UnsetRegister = d
    by a b c d f g h j k l m FrameWrite = f
    by a b c d f g h j k l m PointerMisuse = g
    by a b c d f g h j k l m OutOfRegion = h
    by a b c d f g h j k l m UnsetStackByte = j
    by a b c d f g h j k l m BadArgument = k
    by a b c d f g h j k l m ExitNotNumber = l
    by a b c d f g h j k l m NotPointer = m

pub none_broken : (program : List Insn) (shape : Extent) (slot : ℕ) (insn : Insn) (state : Option AbstractState)
    → KeepsRules program shape slot insn state → lowest_broken program shape slot insn state ≡ None
none_broken program shape slot insn state kept =
    rw (
      kept NotForward,
      kept BadTarget,
      kept UnknownHelper,
      kept UnsetRegister,
      kept FrameWrite,
      kept PointerMisuse,
      kept OutOfRegion,
      kept UnsetStackByte,
      kept BadArgument,
      kept ExitNotNumber,
      kept NotPointer,
    ) refl

-- ---- where the ways lead

or_false : (a b : Bool) → (a || b) ≡ false → (a ≡ false) × (b ≡ false)
or_false true b e = absurd cc
or_false false b e = (refl, e)

astray_begins : (program : List Insn) (to : ℕ) → is_astray program (Some to) ≡ false → BeginsAt program to
astray_begins program to e = by (insn_at program to) e
  where
    by : (o : Option Insn) → is_none o ≡ false → IsSome o
    by None e = absurd cc
    by (Some insn) e = refl

-- each way leads to an instruction
pub way_begins : (program : List Insn) (slot to : ℕ) (insn : Insn) (way : Way) → leads_astray program slot insn ≡ false
    → target insn slot way ≡ Some to → BeginsAt program to
way_begins program slot to insn Onward kept goes =
    astray_begins program to (ap (is_astray program) (sym goes)
    ∙ (or_false (is_astray program (target insn slot Onward))
    (is_astray program (target insn slot Jumping)) kept).0)
way_begins program slot to insn Jumping kept goes =
    astray_begins program to (ap (is_astray program) (sym goes)
    ∙ (or_false (is_astray program (target insn slot Onward))
    (is_astray program (target insn slot Jumping)) kept).1)

pub begins_within : (program : List Insn) (slot : ℕ) → BeginsAt program slot → slot < slots_of program
begins_within program slot begins =
    elim (cases_lt slot (slots_of program)) [
      | inl h ↦ h
      | inr h ↦ absurd (none (insn_at program slot) (past_end program slot h) begins)
    ]
  where
    none : (o : Option Insn) → o ≡ None → IsSome o → ⊥
    none None e some = absurd cc
    none (Some insn) e some = absurd cc

pub begins_here : (program : List Insn) (slot : ℕ) (i : Insn) → insn_at program slot ≡ Some i → BeginsAt program slot
begins_here program slot i e = subst (λ (o : Option Insn). IsSome o) (sym e) refl

-- an instruction that is found has its slot within the program
pub here_within : (program : List Insn) (slot : ℕ) (i : Insn) → insn_at program slot ≡ Some i → slot < slots_of program
here_within program slot i e = begins_within program slot (begins_here program slot i e)

-- a jump that isn't negative leads forward
pub jumps_forward : (insn : Insn) (slot to : ℕ) → goes_back insn ≡ false → target insn slot Jumping ≡ Some to
    → slot < to
jumps_forward insn slot to kept goes = by (distance insn) refl
  where
    by : (o : Option ℤ) → distance insn ≡ o → slot < to
    by None e = absurd (none (target insn slot Jumping) (no_distance_no_jump insn slot e) goes)
      where
        none : (o : Option ℕ) → o ≡ None → o ≡ Some to → ⊥
        none None e f = absurd cc
        none (Some n) e f = absurd cc
    by (Some (pos n)) e = omega (
      arith,
      same_Some (slot + 1 + n) to
          (sym (jumps_by_distance insn slot (pos n) e) ∙ goes),
    )
    by (Some (negsuc n)) e = absurd (told (is_negative (distance insn)) (ap is_negative e) kept)
      where
        told : (b : Bool) → b ≡ true → b ≡ false → ⊥
        told true e f = absurd cc
        told false e f = absurd cc

pub jump_within : (program : List Insn) (shape : Extent) (slot count : ℕ) (insn : Insn) (state : Option AbstractState)
    → KeepsRules program shape slot insn state
    → count ≡ slots_of program → IfSome (target insn slot Jumping) (λ to. (slot < to) × (to < count))
jump_within program shape slot count insn state kept long = by (target insn slot Jumping) refl
  where
    by : (goal : Option ℕ) → target insn slot Jumping ≡ goal → IfSome goal (λ to. (slot < to) × (to < count))
    by None e = tt
    by (Some to) e = (
      jumps_forward insn slot to (kept NotForward) e,
      omega
          (arith, long, begins_within program to (way_begins program slot to insn Jumping (kept BadTarget) e)),
    )

-- the way onward leads past all slots of the instruction
pub onward_next : (insn : Insn) (slot to : ℕ) → target insn slot Onward ≡ Some to → to ≡ slot + slots_taken insn
onward_next (Alu op width dst src) slot to e = sym cc
onward_next (Neg width dst) slot to e = sym cc
onward_next (Movsx kind dst src) slot to e = sym cc
onward_next (Swap order bits dst) slot to e = sym cc
onward_next (Ja off) slot to e = absurd cc
onward_next (JaLong off) slot to e = absurd cc
onward_next (Branch test width dst src off) slot to e = sym cc
onward_next (Call id) slot to e = sym cc
onward_next Exit slot to e = absurd cc
onward_next (Load size dst base off) slot to e = sym cc
onward_next (LoadSx size dst base off) slot to e = sym cc
onward_next (StoreReg size base off src) slot to e = sym cc
onward_next (StoreImm size base off imm) slot to e = sym cc
onward_next (LoadImm64 dst value) slot to e = sym cc

-- where nothing is known of any double word, a load gives any number
pub nothing_held : (A : AbstractState) (k : AbstractValue) (off : ℤ) (count : ℕ) → ((dword : ℕ) → A.entries dword ≡ Unset)
    → loaded_kind A k off count ≡ Number (full_of (8 * count))
nothing_held A k off count none = by (takes_dword k off count)
  where
    there : (first : Option ℕ) → entry_at A first count ≡ Number (full_of (8 * count))
    there None = refl
    there (Some first) = ap (λ kind. or_full kind count) (none (dword_of first))

    by : (whole : Bool) → (if whole then entry_at A (lowest_place k off) count else Number (full_of (8 * count)))
        ≡ Number (full_of (8 * count))
    by true = there (lowest_place k off)
    by false = refl

-- the way onward leads to an instruction, or past the program's end
pub onward_astray : (program : List Insn) (slot next : ℕ) (insn : Insn) → insn_at program slot ≡ Some insn
    → target insn slot Onward ≡ Some next → nat_le (slots_of program) next ≡ is_none (insn_at program next)
onward_astray program slot next insn here goes =
    let onward = onward_next insn slot next goes in
    rw onward (elim (next_stop program slot insn here) [
      | inl starts ↦ rw (lt-leb (slots_of program) (slot + slots_taken insn)
          (begins_within program (slot + slots_taken insn) starts))
          (sym (there (insn_at program (slot + slots_taken insn)) starts))
      | inr ends ↦ rw (
        past_end program (slot + slots_taken insn) (omega (arith, ends)),
        le-leb (slots_of program) (slot + slots_taken insn) (omega (arith, ends)),
      ) refl
    ])
  where
    there : (found : Option Insn) → IsSome found → is_none found ≡ false
    there (Some i) e = refl
    there None e = absurd cc

-- what is asked of an access is asked of the load or of the store
pub on_access : (asked : AbstractValue → ℤ → ℕ → Bool) (A : AbstractState) (insn : Insn)
    → on_base asked A (access_of insn) ≡ (on_base asked A (load_of insn) || on_base asked A (store_of insn))
on_access asked A (Alu op width dst src) = refl
on_access asked A (Neg width dst) = refl
on_access asked A (Movsx kind dst src) = refl
on_access asked A (Swap order bits dst) = refl
on_access asked A (Ja off) = refl
on_access asked A (JaLong off) = refl
on_access asked A (Branch cond width dst src off) = refl
on_access asked A (Call id) = refl
on_access asked A Exit = refl
on_access asked A (Load size dst base off) = sym (or-false _)
on_access asked A (LoadSx size dst base off) = sym (or-false _)
on_access asked A (StoreReg size base off src) = refl
on_access asked A (StoreImm size base off imm) = refl
on_access asked A (LoadImm64 dst value) = refl
