-- How a listing is shown to be typable: a table for it, made of the states of its parts.
use Rattle.std.proofs.Common.{◌≡◌, ℕ, zero, suc, ◌+◌, ◌<◌, ◌==◌, Bool, true, false, ◌||◌, if◌then◌else◌, List, [], ◌∷◌, ◌++◌, length, Option, Some, None, IsSome, is_none, slice_get, refl, sym, ap, ◌∙◌, arith, subst}
use Rattle.std.proofs.lemmas.Option.{same_Some, none-some}
use Rattle.std.proofs.lemmas.Bool.{ne_eqb}
use Rattle.node_env.specs.Env.{Extent}
use Rattle.bpf_insn.specs.declared.forms.Insn.{Insn}
use Rattle.bpf_insn.specs.declared.edges.Way.{Way}
use Rattle.bpf_insn.specs.declared.edges.Way.TheVariants.{Onward, Jumping}
use Rattle.bpf_insn.specs.Programs.{insn_at, slots_of}
use Rattle.bpf_insn.specs.Edges.{BeginsAt, target}
use Rattle.bpf_verify.specs.declared.abstract_value.AbstractValue.{AbstractValue}
use Rattle.bpf_verify.specs.declared.abstract_value.AbstractValue.TheVariants.{Unset}
use Rattle.bpf_verify.specs.declared.rule.Rule.TheVariants.{NotForward, BadTarget, UnknownHelper, UnsetRegister, FrameWrite, PointerMisuse, OutOfRegion, UnsetStackByte, BadArgument, ExitNotNumber, NotPointer}
use Rattle.bpf_verify.specs.States.{AbstractState, abstract_state, IsKindIn, IsContainedIn, IsProperKind, IsProper, entry_state}
use Rattle.bpf_verify.specs.Rules.{KeepsRules, is_astray, leads_astray, goes_back, calls_unknown, reads_unset, writes_frame, may_misuse_pointer, may_leave_regions, loads_unset, misses_argument, may_exit_with_pointer, accesses_number}
use Rattle.bpf_verify.specs.Outcomes.{outcome}
use Rattle.bpf_verify.specs.Typable.{Table, IsCovered, Typable, Types}
use Rattle.clock_nodes.proofs.Places.{Ones, found}

-- ---- states: what is known of r0, r1, r2 and of r6 to r9

abbrev pub kinds_of : AbstractValue → AbstractValue → AbstractValue → AbstractValue → AbstractValue → AbstractValue → AbstractValue → ℕ → AbstractValue
kinds_of k0 k1 k2 k6 k7 k8 k9 number =
    if number == 0 then k0
    else if number == 1 then k1
    else if number == 2 then k2
    else if number == 6 then k6
    else if number == 7 then k7
    else if number == 8 then k8
    else if number == 9 then k9
    else Unset

abbrev pub state : AbstractValue → AbstractValue → AbstractValue → AbstractValue → AbstractValue → AbstractValue → AbstractValue → AbstractState
state k0 k1 k2 k6 k7 k8 k9 = abstract_state (kinds_of k0 k1 k2 k6 k7 k8 k9) (λ byte. false) (λ dword. Unset)

others : (k0 k1 k2 k6 k7 k8 k9 : AbstractValue) (number : ℕ) → 9 < number → kinds_of k0 k1 k2 k6 k7 k8 k9 number ≡ Unset
others k0 k1 k2 k6 k7 k8 k9 number far = rw (
  ne_eqb number 0 (λ e. omega arith),
  ne_eqb number 1 (λ e. omega arith),
  ne_eqb number 2 (λ e. omega arith),
  ne_eqb number 6 (λ e. omega arith),
  ne_eqb number 7 (λ e. omega arith),
  ne_eqb number 8 (λ e. omega arith),
  ne_eqb number 9 (λ e. omega arith),
) refl

-- a fact of each of the seven, and of a register of which nothing is known
each_kind : (P : ℕ → AbstractValue → Type 0) (k0 k1 k2 k6 k7 k8 k9 : AbstractValue) → P 0 k0 → P 1 k1 → P 2 k2 → P 6 k6 → P 7 k7
    → P 8 k8 → P 9 k9 → ((number : ℕ) → P number Unset) → (number : ℕ) → P number (kinds_of k0 k1 k2 k6 k7 k8 k9 number)
each_kind P k0 k1 k2 k6 k7 k8 k9 h0 h1 h2 h6 h7 h8 h9 none zero = h0
each_kind P k0 k1 k2 k6 k7 k8 k9 h0 h1 h2 h6 h7 h8 h9 none (suc zero) = h1
each_kind P k0 k1 k2 k6 k7 k8 k9 h0 h1 h2 h6 h7 h8 h9 none (suc (suc zero)) = h2
each_kind P k0 k1 k2 k6 k7 k8 k9 h0 h1 h2 h6 h7 h8 h9 none (suc (suc (suc zero))) = none 3
each_kind P k0 k1 k2 k6 k7 k8 k9 h0 h1 h2 h6 h7 h8 h9 none (suc (suc (suc (suc zero)))) = none 4
each_kind P k0 k1 k2 k6 k7 k8 k9 h0 h1 h2 h6 h7 h8 h9 none (suc (suc (suc (suc (suc zero))))) = none 5
each_kind P k0 k1 k2 k6 k7 k8 k9 h0 h1 h2 h6 h7 h8 h9 none (suc (suc (suc (suc (suc (suc zero)))))) = h6
each_kind P k0 k1 k2 k6 k7 k8 k9 h0 h1 h2 h6 h7 h8 h9 none (suc (suc (suc (suc (suc (suc (suc zero))))))) = h7
each_kind P k0 k1 k2 k6 k7 k8 k9 h0 h1 h2 h6 h7 h8 h9 none (suc (suc (suc (suc (suc (suc (suc (suc zero)))))))) = h8
each_kind P k0 k1 k2 k6 k7 k8 k9 h0 h1 h2 h6 h7 h8 h9 none (suc (suc (suc (suc (suc (suc (suc (suc (suc zero)))))))))
    = h9
each_kind P k0 k1 k2 k6 k7 k8 k9 h0 h1 h2 h6 h7 h8 h9 none
    (suc (suc (suc (suc (suc (suc (suc (suc (suc (suc n)))))))))) =
    let number = suc (suc (suc (suc (suc (suc (suc (suc (suc (suc n))))))))) in
    let free = others k0 k1 k2 k6 k7 k8 k9 number (omega arith) in
    subst (λ (k : AbstractValue). P number k) (sym free) (none number)

pub proper : (k0 k1 k2 k6 k7 k8 k9 : AbstractValue) → IsProperKind k0 → IsProperKind k1 → IsProperKind k2 → IsProperKind k6
    → IsProperKind k7 → IsProperKind k8 → IsProperKind k9 → IsProper (state k0 k1 k2 k6 k7 k8 k9)
proper k0 k1 k2 k6 k7 k8 k9 h0 h1 h2 h6 h7 h8 h9 = record {
  kinds = each_kind (λ number kind. IsProperKind kind) k0 k1 k2 k6 k7 k8 k9 h0 h1 h2 h6 h7 h8 h9 (λ number. tt);
  entries = λ dword. tt;
  spelled = λ byte e. absurd (let no : false ≡ true = e in cc);
  apart = λ byte e. absurd (let no : false ≡ true = e in cc);
}

pub within : (A : AbstractState) (k0 k1 k2 k6 k7 k8 k9 : AbstractValue) → IsKindIn (A.kinds 0) k0 → IsKindIn (A.kinds 1) k1
    → IsKindIn (A.kinds 2) k2 → IsKindIn (A.kinds 6) k6 → IsKindIn (A.kinds 7) k7 → IsKindIn (A.kinds 8) k8
    → IsKindIn (A.kinds 9) k9 → IsContainedIn A (state k0 k1 k2 k6 k7 k8 k9)
within A k0 k1 k2 k6 k7 k8 k9 h0 h1 h2 h6 h7 h8 h9 = record {
  kinds = each_kind (λ number kind. IsKindIn (A.kinds number) kind) k0 k1 k2 k6 k7 k8 k9 h0 h1 h2 h6 h7 h8 h9
      (λ number. tt);
  written = λ byte e. absurd (let no : false ≡ true = e in cc);
  entries = λ dword. tt;
}

-- ---- the rules that one instruction keeps by itself

pub record KeepsOwn (shape : Extent) (insn : Insn) (A : AbstractState) : Type 0 where
  pub forward : goes_back insn ≡ false
  pub known : calls_unknown insn ≡ false
  pub set : reads_unset insn A ≡ false
  pub frame : writes_frame insn ≡ false
  pub pointer : may_misuse_pointer shape insn A ≡ false
  pub region : may_leave_regions shape insn A ≡ false
  pub stack : loads_unset insn A ≡ false
  pub argument : misses_argument shape insn A ≡ false
  pub exit : may_exit_with_pointer insn A ≡ false
  pub base : accesses_number insn A ≡ false

-- one of them is broken
abbrev pub breaks_own : Extent → Insn → AbstractState → Bool
breaks_own shape insn A =
    goes_back insn || (calls_unknown insn || (reads_unset insn A || (writes_frame insn
    || (may_misuse_pointer shape insn A || (may_leave_regions shape insn A || (loads_unset insn A
    || (misses_argument shape insn A
    || (may_exit_with_pointer insn A || accesses_number insn A))))))))

neither : (a b : Bool) → (a || b) ≡ false → (a ≡ false) × (b ≡ false)
neither true b e = absurd (let no : true ≡ false = e in cc)
neither false b e = (refl, e)

pub keeps_own : (shape : Extent) (insn : Insn) (A : AbstractState) → breaks_own shape insn A ≡ false
    → KeepsOwn shape insn A
keeps_own shape insn A e0 =
    let (forward, e1) = neither _ _ e0 in
    let (known, e2) = neither _ _ e1 in
    let (set, e3) = neither _ _ e2 in
    let (frame, e4) = neither _ _ e3 in
    let (pointer, e5) = neither _ _ e4 in
    let (region, e6) = neither _ _ e5 in
    let (stack, e7) = neither _ _ e6 in
    let (argument, e8) = neither _ _ e7 in
    let (exit, base) = neither _ _ e8 in
    record {
      forward = forward;
      known = known;
      set = set;
      frame = frame;
      pointer = pointer;
      region = region;
      stack = stack;
      argument = argument;
      exit = exit;
      base = base;
    }

-- where its ways lead to instructions, it keeps them all
keeps : (program : List Insn) (shape : Extent) (slot : ℕ) (insn : Insn) (A : AbstractState) → KeepsOwn shape insn A
    → leads_astray program slot insn ≡ false → KeepsRules program shape slot insn (Some A)
keeps program shape slot insn A own there NotForward = own.forward
keeps program shape slot insn A own there BadTarget = there
keeps program shape slot insn A own there UnknownHelper = own.known
keeps program shape slot insn A own there UnsetRegister = own.set
keeps program shape slot insn A own there FrameWrite = own.frame
keeps program shape slot insn A own there PointerMisuse = own.pointer
keeps program shape slot insn A own there OutOfRegion = own.region
keeps program shape slot insn A own there UnsetStackByte = own.stack
keeps program shape slot insn A own there BadArgument = own.argument
keeps program shape slot insn A own there ExitNotNumber = own.exit
keeps program shape slot insn A own there NotPointer = own.base

-- ---- one slot

pub record Sound (program : List Insn) (shape : Extent) (table : Table) (slot : ℕ) (insn : Insn) (A : AbstractState)
    : Type 0 where
  pub proper : IsProper A
  pub rules : KeepsRules program shape slot insn (Some A)
  pub edges : (to : ℕ) (way : Way) (C : AbstractState) → target insn slot way ≡ Some to
      → outcome shape insn A way ≡ Some C → IsCovered table C to

pub covered : (table : Table) (C D : AbstractState) (to : ℕ) → table to ≡ Some D → IsContainedIn C D
    → IsCovered table C to
covered table C D to e h = rw e h

-- a way that leads nowhere, and one that leads to an instruction
not_astray : (program : List Insn) (goal : Option ℕ) → goal ≡ None → is_astray program goal ≡ false
not_astray program goal e = rw e refl

begun : (found : Option Insn) → IsSome found → is_none found ≡ false
begun None h = absurd (let no : false ≡ true = h in cc)
begun (Some insn) h = refl

not_lost : (program : List Insn) (goal : Option ℕ) (there to : ℕ) → goal ≡ Some there → there ≡ to
    → BeginsAt program to → is_astray program goal ≡ false
not_lost program goal there to e same h = rw (e, same) (begun (insn_at program to) h)

-- what leads to a slot on a way is covered there: no way, no outcome, or an outcome within the state of that slot
record WayCovered (shape : Extent) (table : Table) (slot : ℕ) (insn : Insn) (A : AbstractState) (way : Way)
    : Type 0 where
  edge : (to : ℕ) (C : AbstractState) → target insn slot way ≡ Some to → outcome shape insn A way ≡ Some C
      → IsCovered table C to

no_edge : (shape : Extent) (table : Table) (slot : ℕ) (insn : Insn) (A : AbstractState) (way : Way)
    → target insn slot way ≡ None → WayCovered shape table slot insn A way
no_edge shape table slot insn A way e = record { edge = λ to C f g. absurd (none-some to (sym e ∙ f)) }

an_edge : (shape : Extent) (table : Table) (slot there to : ℕ) (insn : Insn) (A D : AbstractState) (way : Way)
    → target insn slot way ≡ Some there → there ≡ to → table to ≡ Some D
    → ((C : AbstractState) → outcome shape insn A way ≡ Some C → IsContainedIn C D)
    → WayCovered shape table slot insn A way
an_edge shape table slot there to insn A D way e same at inside = record {
  edge = λ goal C f g.
      let goal_is : to ≡ goal = sym same ∙ same_Some there goal (sym e ∙ f) in
      subst (λ (x : ℕ). IsCovered table C x) goal_is (covered table C D to at (inside C g));
}

either_way : (shape : Extent) (table : Table) (slot : ℕ) (insn : Insn) (A : AbstractState)
    → WayCovered shape table slot insn A Onward → WayCovered shape table slot insn A Jumping
    → (to : ℕ) (way : Way) (C : AbstractState) → target insn slot way ≡ Some to
    → outcome shape insn A way ≡ Some C → IsCovered table C to
either_way shape table slot insn A on off to Onward C e f = on.edge to C e f
either_way shape table slot insn A on off to Jumping C e f = off.edge to C e f

pub one_outcome : (B C D : AbstractState) (found : Option AbstractState) → found ≡ Some B → IsContainedIn B D
    → found ≡ Some C → IsContainedIn C D
one_outcome B C D found e h f = subst (λ (x : AbstractState). IsContainedIn x D) (same_Some B C (sym e ∙ f)) h

-- it only goes on
pub sound_on : (program : List Insn) (shape : Extent) (table : Table) (slot there to : ℕ) (insn : Insn)
    (A B D : AbstractState) → target insn slot Onward ≡ Some there → target insn slot Jumping ≡ None
    → outcome shape insn A Onward ≡ Some B → there ≡ to → BeginsAt program to → table to ≡ Some D
    → IsContainedIn B D → IsProper A → KeepsOwn shape insn A → Sound program shape table slot insn A
sound_on program shape table slot there to insn A B D on off out same begins at inside is own = record {
  proper = is;
  rules = keeps program shape slot insn A own
      (rw (not_lost program (target insn slot Onward) there to on same begins)
      (not_astray program (target insn slot Jumping) off));
  edges = either_way shape table slot insn A
      (an_edge shape table slot there to insn A D Onward on same at (λ C f. one_outcome B C D _ out inside f))
      (no_edge shape table slot insn A Jumping off);
}

-- it only jumps
pub sound_jump : (program : List Insn) (shape : Extent) (table : Table) (slot there to : ℕ) (insn : Insn)
    (A B D : AbstractState) → target insn slot Onward ≡ None → target insn slot Jumping ≡ Some there
    → outcome shape insn A Jumping ≡ Some B → there ≡ to → BeginsAt program to → table to ≡ Some D
    → IsContainedIn B D → IsProper A → KeepsOwn shape insn A → Sound program shape table slot insn A
sound_jump program shape table slot there to insn A B D on off out same begins at inside is own = record {
  proper = is;
  rules = keeps program shape slot insn A own
      (rw (not_astray program (target insn slot Onward) on)
      (not_lost program (target insn slot Jumping) there to off same begins));
  edges = either_way shape table slot insn A (no_edge shape table slot insn A Onward on)
      (an_edge shape table slot there to insn A D Jumping off same at (λ C f. one_outcome B C D _ out inside f));
}

-- it has no way
pub sound_end : (program : List Insn) (shape : Extent) (table : Table) (slot : ℕ) (insn : Insn) (A : AbstractState)
    → target insn slot Onward ≡ None → target insn slot Jumping ≡ None → IsProper A → KeepsOwn shape insn A
    → Sound program shape table slot insn A
sound_end program shape table slot insn A on off is own = record {
  proper = is;
  rules = keeps program shape slot insn A own
      (rw (not_astray program (target insn slot Onward) on)
      (not_astray program (target insn slot Jumping) off));
  edges = either_way shape table slot insn A (no_edge shape table slot insn A Onward on)
      (no_edge shape table slot insn A Jumping off);
}

-- it does either
pub sound_fork : (program : List Insn) (shape : Extent) (table : Table) (slot there next away to : ℕ) (insn : Insn)
    (A D E : AbstractState) → target insn slot Onward ≡ Some there → there ≡ next → BeginsAt program next
    → table next ≡ Some D → ((C : AbstractState) → outcome shape insn A Onward ≡ Some C → IsContainedIn C D)
    → target insn slot Jumping ≡ Some away → away ≡ to → BeginsAt program to → table to ≡ Some E
    → ((C : AbstractState) → outcome shape insn A Jumping ≡ Some C → IsContainedIn C E)
    → IsProper A → KeepsOwn shape insn A → Sound program shape table slot insn A
sound_fork program shape table slot there next away to insn A D E on here begins at inside off far begun_there at_far
    inside_far is own = record {
      proper = is;
      rules = keeps program shape slot insn A own
          (rw (not_lost program (target insn slot Onward) there next on here begins)
          (not_lost program (target insn slot Jumping) away to off far begun_there));
      edges = either_way shape table slot insn A
          (an_edge shape table slot there next insn A D Onward on here at inside)
          (an_edge shape table slot away to insn A E Jumping off far at_far inside_far);
    }

-- ---- states along the slots

-- these states stand from a slot on
abbrev pub Marked : Table → ℕ → List AbstractState → Type 0
Marked table slot [] = Unit {0}
Marked table slot (A ∷ As) = (table slot ≡ Some A) × Marked table (slot + 1) As

pub mark_in : (table : Table) (slot : ℕ) (As : List AbstractState) (k : ℕ) (A : AbstractState) → Marked table slot As
    → slice_get As k ≡ Some A → table (slot + k) ≡ Some A
mark_in table slot [] k A h e = absurd cc
mark_in table slot (B ∷ As) zero A h e = let here : slot + 0 ≡ slot = omega arith in ap table here ∙ h.0 ∙ e
mark_in table slot (B ∷ As) (suc k) A h e =
    let here : slot + suc k ≡ slot + 1 + k = omega arith in
    ap table here ∙ mark_in table (slot + 1) As k A h.1 e

pub marks_behind : (table : Table) (slot to : ℕ) (As Bs : List AbstractState) → slot + length As ≡ to
    → Marked table slot (As ++ Bs) → Marked table to Bs
marks_behind table slot to [] Bs e h = let here : slot ≡ to = omega (arith, e) in
    subst (λ (n : ℕ). Marked table n Bs) here h
marks_behind table slot to (A ∷ As) Bs e h = marks_behind table (slot + 1) to As Bs (omega (arith, e)) h.1

marks_from : (all : List AbstractState) (slot : ℕ) (As : List AbstractState)
    → ((k : ℕ) → slice_get all (slot + k) ≡ slice_get As k) → Marked (λ at. slice_get all at) slot As
marks_from all slot [] h = tt
marks_from all slot (A ∷ As) h =
    let here : slot ≡ slot + 0 = omega arith in (
      ap (slice_get all) here ∙ h 0,
      marks_from all (slot + 1) As (λ k. let there : slot + 1 + k ≡ slot + suc k = omega arith in
          ap (slice_get all) there ∙ h (suc k)),
    )

pub marks_whole : (As : List AbstractState) → Marked (λ at. slice_get As at) 0 As
marks_whole As = marks_from As 0 As (λ k. let e : 0 + k ≡ k = omega arith in ap (slice_get As) e)

-- each of these instructions, from the k-th behind a slot on, is sound with a state that stands at its slot
abbrev pub Sounds : List Insn → Extent → Table → ℕ → ℕ → List Insn → Type 0
Sounds program shape table base k [] = Unit {0}
Sounds program shape table base k (insn ∷ is) =
    ((A : AbstractState) × (table (base + k) ≡ Some A) × Sound program shape table (base + k) insn A)
    × Sounds program shape table base (suc k) is

-- counted from another slot
pub counted_from : (program : List Insn) (shape : Extent) (table : Table) (base other k l : ℕ) (is : List Insn)
    → base + k ≡ other + l → Sounds program shape table base k is → Sounds program shape table other l is
counted_from program shape table base other k l [] e h = tt
counted_from program shape table base other k l (insn ∷ is) e h = (
  subst (λ (s : ℕ). (A : AbstractState) × (table s ≡ Some A) × Sound program shape table s insn A) e h.0,
  counted_from program shape table base other (suc k) (suc l) is (omega (arith, e)) h.1,
)

pub sounds_append : (program : List Insn) (shape : Extent) (table : Table) (base k : ℕ) (is js : List Insn)
    → Sounds program shape table base k is → Sounds program shape table base (k + length is) js
    → Sounds program shape table base k (is ++ js)
sounds_append program shape table base k [] js h g =
    let e : base + (k + 0) ≡ base + k = omega arith in
    counted_from program shape table base base (k + 0) k js e g
sounds_append program shape table base k (i ∷ is) js h g =
    let e : base + (k + length (i ∷ is)) ≡ base + (suc k + length is) = omega arith in (
      h.0,
      sounds_append program shape table base (suc k) is js h.1
          (counted_from program shape table base base _ _ js e g),
    )

pub sound_at : (program : List Insn) (shape : Extent) (table : Table) (base k l : ℕ) (is : List Insn) (insn : Insn)
    → Sounds program shape table base k is → slice_get is l ≡ Some insn
    → (A : AbstractState) × (table (base + (k + l)) ≡ Some A) × Sound program shape table (base + (k + l)) insn A
sound_at program shape table base k l [] insn h e = absurd cc
sound_at program shape table base k zero (i ∷ is) insn h e =
    let same : base + k ≡ base + (k + 0) = omega arith in
    let first = subst (λ (s : ℕ). (A : AbstractState) × (table s ≡ Some A) × Sound program shape table s i A) same
    h.0 in
    subst (λ (j : Insn). (A : AbstractState) × (table (base + (k + 0)) ≡ Some A)
    × Sound program shape table (base + (k + 0)) j A) (same_Some i insn e) first
sound_at program shape table base k (suc l) (i ∷ is) insn h e =
    let same : base + (suc k + l) ≡ base + (k + suc l) = omega arith in
    subst (λ (s : ℕ). (A : AbstractState) × (table s ≡ Some A) × Sound program shape table s insn A) same
    (sound_at program shape table base (suc k) l is insn h.1 e)

-- ---- the whole

module _ (program : List Insn) (shape : Extent) (states : List AbstractState) (first : AbstractState)
    (ones : Ones program) (start : slice_get states 0 ≡ Some first) (inside : IsContainedIn (entry_state shape) first)
    (sounds : Sounds program shape (λ at. slice_get states at) 0 0 program) where
  abbrev table : Table
  table at = slice_get states at

  -- each slot's instruction is sound with the state that stands there
  record Here (slot : ℕ) (insn : Insn) : Type 0 where
    known : AbstractState
    stands : table slot ≡ Some known
    sound : Sound program shape table slot insn known

  here : (slot : ℕ) (insn : Insn) → insn_at program slot ≡ Some insn → Here slot insn
  here slot insn e =
      let listed : slice_get program slot ≡ Some insn = sym (found program slot ones) ∙ e in
      let there = sound_at program shape table 0 0 slot program insn sounds listed in
      let same : 0 + (0 + slot) ≡ slot = omega arith in
      subst (λ (s : ℕ). Here s insn) same (record { known = there.0; stands = there.1; sound = there.2 })

  types : Types program shape (slots_of program) table
  types = record {
    entry = covered table (entry_state shape) first 0 start inside;
    proper = λ slot insn A below e f.
        let h = here slot insn e in
        subst IsProper (same_Some h.known A (sym h.stands ∙ f)) h.sound.proper;
    rules = λ slot insn below e.
        let h = here slot insn e in
        subst (λ (known : Option AbstractState). KeepsRules program shape slot insn known) (sym h.stands) h.sound.rules;
    edges = λ slot to insn way A C below end e f g o.
        let h = here slot insn e in
        let same : A ≡ h.known = same_Some A h.known (sym f ∙ h.stands) in
        h.sound.edges to way C g (subst (λ (B : AbstractState). outcome shape insn B way ≡ Some C) same o);
  }

-- where each instruction is sound with the state that stands at its slot, the states are a table
pub typed : (program : List Insn) (shape : Extent) (states : List AbstractState) (first : AbstractState) → Ones program
    → slice_get states 0 ≡ Some first → IsContainedIn (entry_state shape) first
    → Sounds program shape (λ at. slice_get states at) 0 0 program → Typable program shape
typed program shape states first ones start inside sounds = (
  table program shape states first ones start inside sounds,
  types program shape states first ones start inside sounds,
)
