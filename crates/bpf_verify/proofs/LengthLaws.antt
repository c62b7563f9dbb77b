-- The longest path from a slot, by those from the slots that it leads to.
use Rattle.std.proofs.Common.{◌≡◌, ◌≢◌, ℕ, zero, suc, ◌+◌, ◌<◌, ◌≤◌, List, Option, Some, None, length, refl, sym, ap, subst, ◌∙◌, arith, max, inl, inr}
use Rattle.std.specs.Prelude.{slice_index, slice_set}
use Rattle.std.proofs.lemmas.Option.{same_Some, none-some}
use Rattle.std.proofs.lemmas.List.{get_or-set_same, get_or-set_other}
use Rattle.std.proofs.lemmas.Bool.{cases_lt, cases_eq}
use Rattle.node_env.specs.Env.{Extent}
use Rattle.bpf_insn.specs.declared.forms.Insn.{Insn}
use Rattle.bpf_insn.specs.declared.edges.Way.{Way}
use Rattle.bpf_insn.specs.declared.edges.Way.TheVariants.{Onward, Jumping}
use Rattle.bpf_insn.specs.Programs.{insn_at, slots_of}
use Rattle.bpf_insn.specs.Edges.{target, BeginsAt}
use Rattle.bpf_insn.proofs.LayoutLaws.{one_or_two}
use Rattle.bpf_verify.specs.declared.rule.Rule.TheVariants.{NotForward, BadTarget}
use Rattle.bpf_verify.specs.Typable.{Typable}
use Rattle.bpf_verify.specs.Paths.{Path, IsLongestFrom}
use Rattle.bpf_verify.specs.inner.Lengths.{IsLongestOn, HasLongest}
use Rattle.bpf_verify.proofs.RuleLaws.{jumps_forward, way_begins, begins_here, begins_within, onward_next}

way_most : (program : List Insn) (goal : Option ℕ) (b edges end to : ℕ) → IsLongestOn program goal b → goal ≡ Some to
    → Path program edges to end → suc edges ≤ b
way_most program None b edges end to h e p = absurd (none-some to e)
way_most program (Some at) b edges end to h e p = let f : to ≡ at = sym (same_Some at to e) in
    h.most edges end (subst (λ x. Path program edges x end) f p)

way_reached : (program : List Insn) (goal : Option ℕ) (b : ℕ) → IsLongestOn program goal b → 0 < b
    → (to : ℕ) × (edges : ℕ) × (end : ℕ) × (goal ≡ Some to) × (b ≡ suc edges) × Path program edges to end
way_reached program None b h l = absurd (omega (arith, h))
way_reached program (Some to) b h l = (to, h.reached.0, h.reached.1, refl, h.reached.2, h.reached.3)

edge_most : (program : List Insn) (slot b c edges end : ℕ) (i : Insn) (to : ℕ) (way : Way)
    → IsLongestOn program (target i slot Onward) b
    → IsLongestOn program (target i slot Jumping) c → target i slot way ≡ Some to → Path program edges to end
    → suc edges ≤ max b c
edge_most program slot b c edges end i to Onward g h e p =
    let l = way_most program (target i slot Onward) b edges end to g e p in omega arith
edge_most program slot b c edges end i to Jumping g h e p =
    let l = way_most program (target i slot Jumping) c edges end to h e p in omega arith

longest_most : (program : List Insn) (slot b c : ℕ) (i : Insn) → insn_at program slot ≡ Some i
    → IsLongestOn program (target i slot Onward) b
    → IsLongestOn program (target i slot Jumping) c → (edges end : ℕ) → Path program edges slot end
    → suc edges ≤ 1 + max b c
longest_most program slot b c i e g h zero end p = omega arith
longest_most program slot b c i e g h (suc edges) end p =
    let x = p.1 in
    let y : x.0 ≡ i = same_Some x.0 i (sym x.2 ∙ e) in
    let z : target i slot x.1 ≡ Some p.0 = rw y at x.3 in
    let l = edge_most program slot b c edges end i p.0 x.1 g h z p.2 in omega arith

one_way : (program : List Insn) (slot b d : ℕ) (i : Insn) (way : Way) → insn_at program slot ≡ Some i
    → IsLongestOn program (target i slot way) b → 0 < b → d ≡ b
    → (edges : ℕ) × (end : ℕ) × (1 + d ≡ suc edges) × Path program edges slot end
one_way program slot b d i way e g l f =
    let r = way_reached program (target i slot way) b g l in
    let x = r.4 in
    (suc r.1, r.2, omega arith, (r.0, (i, way, e, r.3), r.5))

longest_reached : (program : List Insn) (slot b c : ℕ) (i : Insn) → insn_at program slot ≡ Some i
    → BeginsAt program slot → IsLongestOn program (target i slot Onward) b
    → IsLongestOn program (target i slot Jumping) c
    → (edges : ℕ) × (end : ℕ) × (1 + max b c ≡ suc edges) × Path program edges slot end
longest_reached program slot b c i e s g h =
    elim (cases_eq (max b c) 0) [
      | inl z ↦ (0, slot, omega arith, (refl, s))
      | inr n ↦ elim (cases_lt b c) [
        | inl l ↦ one_way program slot c (max b c) i Jumping e h (omega arith) (omega arith)
        | inr l ↦ one_way program slot b (max b c) i Onward e g (let y : max b c ≢ 0 = n in omega arith) (omega arith)
      ]
    ]

pub longest_here : (program : List Insn) (slot b c d : ℕ) (i : Insn) → insn_at program slot ≡ Some i
    → IsLongestOn program (target i slot Onward) b
    → IsLongestOn program (target i slot Jumping) c → d ≡ max b c → IsLongestFrom program slot (1 + d)
longest_here program slot b c d i e g h f =
    rw f (record {
      reached = longest_reached program slot b c i e (begins_here program slot i e) g h;
      most = longest_most program slot b c i e g h;
    })

way_forward : (i : Insn) (slot to : ℕ) (way : Way) (program : List Insn) (shape : Extent) → Typable program shape
    → slot < slots_of program → insn_at program slot ≡ Some i
    → target i slot way ≡ Some to → slot < to
way_forward i slot to Onward program shape typable within here goes =
    let next = onward_next i slot to goes in
    elim (one_or_two i) [ inl one ↦ omega (arith, next, one) | inr two ↦ omega (arith, next, two) ]
way_forward i slot to Jumping program shape (table, types) within here goes = jumps_forward i slot to
    (types.rules slot i within here NotForward) goes

-- where a way leads: within the program, further on, and its longest path is known
pub led : (program : List Insn) (shape : Extent) (i : Insn) (slot to : ℕ) (way : Way) (counts : List ℕ)
    → Typable program shape → insn_at program slot ≡ Some i
    → HasLongest program (slot + 1) counts → target i slot way ≡ Some to
    → (to < slots_of program) × (slot < to) × (slice_index counts to + to ≤ slots_of program)
    × IsLongestFrom program to (slice_index counts to)
led program shape i slot to way counts typable here known goes =
    let within = begins_within program slot (begins_here program slot i here) in
    let begins = way_begins program slot to i way (typable.1.rules slot i within here BadTarget) goes in
    let forward = way_forward i slot to way program shape typable within here goes in
    let found = known to (omega (arith, forward)) begins in
    (begins_within program to begins, forward, found.1, found.0)

pub longest_on : (program : List Insn) (goal : Option ℕ) (to b : ℕ) → goal ≡ Some to → IsLongestFrom program to b
    → IsLongestOn program goal b
longest_on program goal to b e h = rw e h

-- ---- the list of counts

pub none_counted : (program : List Insn) (slot : ℕ) (counts : List ℕ) → slot ≡ slots_of program
    → HasLongest program slot counts
none_counted program slot counts end at past begins = absurd (omega (arith, begins_within program at begins))

pub one_counted : (program : List Insn) (slot count : ℕ) (counts : List ℕ) → slot < length counts
    → HasLongest program (slot + 1) counts
    → IsLongestFrom program slot count → count + slot ≤ slots_of program
    → HasLongest program slot (slice_set counts slot count)
one_counted program slot count counts within known longest few at past begins =
    elim (cases_eq at slot) [
      | inl e ↦
          let found : slice_index (slice_set counts slot count) at ≡ count = ap
          (slice_index (slice_set counts slot count)) e ∙ get_or-set_same counts slot count 0 within in
          rw (found, e) (longest, few)
      | inr n ↦
          let found : slice_index (slice_set counts slot count) at ≡ slice_index counts at =
          get_or-set_other counts slot at count 0 n in
          rw found (known at (let m : at ≢ slot = n in omega arith) begins)
    ]
