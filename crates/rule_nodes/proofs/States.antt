-- Where the parts of a rule's program stand, and what stays in a state while a part of it runs.
use Rattle.std.proofs.Common.{◌≡◌, ℕ, ◌+◌, ◌^◌, ◌<◌, ◌≤◌, List, [], ◌∷◌, ◌++◌, length, Some, All, refl, sym, ap, ◌∙◌, arith, subst}
use Rattle.std.specs.Ordering.{nat_cmp}
use Rattle.std.specs.FinMap.{FinMap, get, insert}
use Rattle.node_env.specs.declared.region.Region.TheVariants.{Mem}
use Rattle.node_env.specs.Env.{Setting, IsSetting}
use Rattle.bpf_insn.specs.declared.forms.Reg.{Reg}
use Rattle.bpf_insn.specs.declared.forms.Insn.{Insn}
use Rattle.bpf_insn.specs.Registers.{register_number}
use Rattle.bpf_machine.specs.declared.word.Word.{Word}
use Rattle.bpf_machine.specs.declared.word.Word.TheVariants.{Ptr}
use Rattle.bpf_machine.specs.Machine.{MachineState}
use Rattle.bpf_machine.specs.Step.{after_call}
use Rattle.clock_nodes.proofs.Places.{Stands, stands_behind}
use Rattle.clock_nodes.proofs.Forms.{put_other, call_keeps, put, at, called}
use Rattle.rule_syntax.specs.declared.syntax.Sizes.{Sizes}
use Rattle.rule_meaning.specs.Meaning.{NodeState}
use Rattle.rule_nodes.specs.declared.numbers.TheConstants.{PLACES}
use Rattle.rule_nodes.specs.Code.{number_place}
use Rattle.rule_nodes.proofs.Places.{inside, IsIn, At, Framed, IsFramed, in_alike, framed_alike, Placed}

-- ---- places

pub stands_front : (program : List Insn) (slot : ℕ) (xs ys : List Insn) → Stands program slot (xs ++ ys)
    → Stands program slot xs
stands_front program slot [] ys h = tt
stands_front program slot (x ∷ xs) ys h = (h.0, stands_front program (slot + 1) xs ys h.1)

pub stands_back : (program : List Insn) (slot : ℕ) (xs ys : List Insn) → Stands program slot (xs ++ ys)
    → Stands program (slot + length xs) ys
stands_back program slot xs ys h = stands_behind program slot (slot + length xs) xs ys refl h

-- ---- what stays

-- r6, the numbers in the places below d, the memory and what was sent; r10 and what is kept on the stack
pub record Same (d : ℕ) (s t : MachineState) : Type 0 where
  pub r6 : get t.frame.registers 6 ≡ get s.frame.registers 6
  pub places : (k v : ℕ) → k < d → At k s v → At k t v
  pub framed : IsFramed s → IsFramed t
  pub memory : t.memory ≡ s.memory
  pub sent : t.sent ≡ s.sent

pub same_self : (d : ℕ) (s : MachineState) → Same d s s
same_self d s = record { r6 = refl; places = λ k v lt h. h; framed = λ h. h; memory = refl; sent = refl }

pub same_then : (d : ℕ) (s t u : MachineState) → Same d s t → Same d t u → Same d s u
same_then d s t u h g = record {
  r6 = g.r6 ∙ h.r6;
  places = λ k v lt x. g.places k v lt (h.places k v lt x);
  framed = λ x. g.framed (h.framed x);
  memory = g.memory ∙ h.memory;
  sent = g.sent ∙ h.sent;
}

pub same_below : (d e : ℕ) (s t : MachineState) → d ≤ e → Same e s t → Same d s t
same_below d e s t le h = record {
  r6 = h.r6;
  places = λ k v lt x. h.places k v (omega (arith, lt, le)) x;
  framed = h.framed;
  memory = h.memory;
  sent = h.sent;
}

pub same_less : (d : ℕ) (s t : MachineState) → Same (d + 1) s t → Same d s t
same_less d s t h = same_below d (d + 1) s t (omega arith) h

pub same_at : (d : ℕ) (s t : MachineState) (to : ℕ) → Same d s t → Same d s (at t to)
same_at d s t to h =
    record { r6 = h.r6; places = h.places; framed = h.framed; memory = h.memory; sent = h.sent }

-- all but the slot
pub record Alike (s t : MachineState) : Type 0 where
  pub registers : t.frame.registers ≡ s.frame.registers
  pub stack : t.frame.stack ≡ s.frame.stack
  pub kept : t.frame.kept ≡ s.frame.kept
  pub memory : t.memory ≡ s.memory
  pub sent : t.sent ≡ s.sent

pub alike_same : (d : ℕ) (s t : MachineState) → Alike s t → Same d s t
alike_same d s t h = record {
  r6 = ap (λ (m : FinMap nat_cmp Word). get m 6) h.registers;
  places = λ k v lt x. subst (λ (m : FinMap nat_cmp Word). IsIn (number_place k) m t.frame.stack v) (sym h.registers)
      (subst (λ (b : FinMap nat_cmp ℕ). IsIn (number_place k) s.frame.registers b v) (sym h.stack) x);
  framed = λ x. subst (λ (m : FinMap nat_cmp Word). Framed m t.frame.kept) (sym h.registers)
      (subst (λ (m : FinMap nat_cmp Word). Framed s.frame.registers m) (sym h.kept) x);
  memory = h.memory;
  sent = h.sent;
}

pub same_alike : (d : ℕ) (s t u : MachineState) → Same d s t → Alike t u → Same d s u
same_alike d s t u h g = same_then d s t u h (alike_same d t u g)

-- a register below r6
pub same_put : (d : ℕ) (s t : MachineState) (to : ℕ) (dst : Reg) (w : Word) → register_number dst < 6 → Same d s t
    → Same d s (put t to dst w)
same_put d s t to dst w low h =
    let m = t.frame.registers in
    let n = insert m (register_number dst) w in
    let same : (j : ℕ) → 5 < j → get n j ≡ get m j =
    λ j from. put_other m (register_number dst) w j (λ e. omega (arith, e, low, from)) in
    record {
      r6 = same 6 (omega arith) ∙ h.r6;
      places = λ k v lt x. in_alike (number_place k) m n t.frame.stack v (inside k) same (h.places k v lt x);
      framed = λ x. framed_alike m n t.frame.kept same (h.framed x);
      memory = h.memory;
      sent = h.sent;
    }

pub same_call : (d : ℕ) (s t : MachineState) (to answer : ℕ) → Same d s t → Same d s (called t to answer)
same_call d s t to answer h =
    let m = t.frame.registers in
    let n = (after_call t.frame answer).registers in
    let same : (j : ℕ) → 5 < j → get n j ≡ get m j = λ j from. call_keeps t.frame answer j from in
    record {
      r6 = same 6 (omega arith) ∙ h.r6;
      places = λ k v lt x. in_alike (number_place k) m n t.frame.stack v (inside k) same (h.places k v lt x);
      framed = λ x. framed_alike m n t.frame.kept same (h.framed x);
      memory = h.memory;
      sent = h.sent;
    }

-- a place at or above d is no place below it
pub same_placed : (d e v : ℕ) (s t : MachineState) → d ≤ e → e < PLACES → Placed e v s t → Same d s t
same_placed d e v s t le few h = record {
  r6 = h.r6;
  places = λ k w lt x. h.others k w (λ q. omega (arith, q, lt, le)) (omega (arith, lt, le, few)) x;
  framed = h.framed;
  memory = h.memory;
  sent = h.sent;
}

-- ---- a state beside what the rule has made

pub record Holds (env : Setting) (d : ℕ) (u : NodeState) (s : MachineState) : Type 0 where
  pub r6 : get s.frame.registers 6 ≡ Some (Ptr Mem 0)
  pub locals : (k : ℕ) → k < d → At k s (u.locals k)
  pub framed : IsFramed s
  pub small : (k : ℕ) → k < d → u.locals k < 2 ^ 32
  pub memory : s.memory ≡ u.memory
  pub sent : s.sent ≡ u.sent
  pub room : length u.memory ≡ env.shape.memory
  pub bytes : All (λ byte. byte < 256) u.memory

pub still_holds : (env : Setting) (lets d : ℕ) (u : NodeState) (s t : MachineState) → lets ≤ d → Holds env lets u s
    → Same d s t → Holds env lets u t
still_holds env lets d u s t le h same = record {
  r6 = same.r6 ∙ h.r6;
  locals = λ k lt. same.places k (u.locals k) (omega (arith, lt, le)) (h.locals k lt);
  framed = same.framed h.framed;
  small = h.small;
  memory = same.memory ∙ h.memory;
  sent = same.sent ∙ h.sent;
  room = h.room;
  bytes = h.bytes;
}

-- what the sizes are to a setting
pub record IsSized (z : Sizes) (env : Setting) : Type 0 where
  pub nodes : z.nodes ≡ env.shape.nodes
  pub memory : z.memory ≡ env.shape.memory
  pub faults : z.faults < 2 ^ 32
  pub modulus : z.modulus < 2 ^ 32
  pub setting : IsSetting env
