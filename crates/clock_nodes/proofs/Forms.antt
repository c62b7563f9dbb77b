-- What each form of instruction that the programs have does to a state of which its operands are known.
use Rattle.std.proofs.Common.{◌≡◌, ◌≢◌, ℕ, ◌+◌, ◌%◌, ◌^◌, ◌<◌, ◌==◌, true, false, not, List, Some, Ok, nat_lt, nat_le, slice_set, ℤ, pos, ◌+ℤ◌, refl, ◌∙◌, arith}
use Rattle.std.specs.Ordering.{nat_cmp}
use Rattle.std.specs.Cmp.{nat_cmp_total, unsigned_tied}
use Rattle.std.specs.FinMap.{FinMap, get, insert, remove, get-insert, get-remove}
use Rattle.std.proofs.Math.Nat.{mod-eq_of_lt}
use Rattle.std.proofs.lemmas.Bool.{eq-eqb, ne_eqb, lt-ltb}
use Rattle.node_env.specs.declared.region.Region.TheVariants.{Mem}
use Rattle.node_env.specs.Env.{Setting, received}
use Rattle.bpf_insn.specs.declared.forms.Reg.{Reg}
use Rattle.bpf_insn.specs.declared.forms.Width.TheVariants.{W64}
use Rattle.bpf_insn.specs.declared.forms.Size.TheVariants as size
use Rattle.bpf_insn.specs.declared.forms.AluOp.TheVariants.{Add, Mov}
use Rattle.bpf_insn.specs.declared.forms.Cond.{Cond}
use Rattle.bpf_insn.specs.declared.forms.Cond.TheVariants.{Ne, Ge, Lt}
use Rattle.bpf_insn.specs.declared.forms.Operand.{Operand}
use Rattle.bpf_insn.specs.declared.forms.Insn.{Insn}
use Rattle.bpf_insn.specs.declared.forms.Insn.TheVariants as i
use Rattle.bpf_insn.specs.Registers.{register_number}
use Rattle.bpf_insn.specs.Arithmetic.{holds}
use Rattle.bpf_insn.specs.Programs.{insn_at}
use Rattle.bpf_insn.specs.Edges.{BeginsAt}
use Rattle.bpf_machine.specs.declared.word.Word.{Word}
use Rattle.bpf_machine.specs.declared.word.Word.TheVariants.{Num, Ptr}
use Rattle.bpf_machine.specs.Machine.{Frame, MachineState, Running, Ended}
use Rattle.bpf_machine.specs.Step.{operand_of, after_call, byte_at, number_at, with_number, step}

-- ---- finite maps

pub put_same : {A : Type 0} (m : FinMap nat_cmp A) (k : ℕ) (x : A) → get (insert m k x) k ≡ Some x
put_same m k x = rw (get-insert nat_cmp_total m k x k, unsigned_tied k k, eq-eqb k k refl) refl

pub put_other : {A : Type 0} (m : FinMap nat_cmp A) (k : ℕ) (x : A) (j : ℕ) → j ≢ k → get (insert m k x) j ≡ get m j
put_other m k x j h = rw (get-insert nat_cmp_total m k x j, unsigned_tied j k, ne_eqb j k h) refl

removed : (m : FinMap nat_cmp Word) (k j : ℕ) → j ≢ k → get (remove m k) j ≡ get m j
removed m k j h = get-remove nat_cmp_total m k j ∙ rw (unsigned_tied j k, ne_eqb j k h) refl

-- a call takes none of r6 to r10
pub call_keeps : (s : Frame) (answer j : ℕ) → 5 < j → get (after_call s answer).registers j ≡ get s.registers j
call_keeps s answer j h =
    let m1 = remove s.registers 1 in
    let m2 = remove m1 2 in
    let m3 = remove m2 3 in
    let m4 = remove m3 4 in
    put_other (remove m4 5) 0 (Num answer) j (λ e. omega arith)
    ∙ (removed m4 5 j (λ e. omega arith) ∙ (removed m3 4 j (λ e. omega arith)
    ∙ (removed m2 3 j (λ e. omega arith) ∙ (removed m1 2 j (λ e. omega arith)
    ∙ removed s.registers 1 j (λ e. omega arith)))))

-- ---- conditions of small numbers

pub reaches : (a b : ℕ) → a < 2 ^ 64 → b < 2 ^ 64 → holds Ge W64 a b ≡ nat_le b a
reaches a b f g = rw (mod-eq_of_lt f, mod-eq_of_lt g) refl

pub differs : (a b : ℕ) → a < 2 ^ 64 → b < 2 ^ 64 → holds Ne W64 a b ≡ not (a == b)
differs a b f g = rw (mod-eq_of_lt f, mod-eq_of_lt g) refl

pub is_less : (a b : ℕ) → a < 2 ^ 64 → b < 2 ^ 64 → holds Lt W64 a b ≡ nat_lt a b
is_less a b f g = rw (mod-eq_of_lt f, mod-eq_of_lt g) refl

-- ---- states

abbrev pub put : MachineState → ℕ → Reg → Word → MachineState
put s to dst w = record s {
  frame = record {
    slot = to;
    registers = insert s.frame.registers (register_number dst) w;
    stack = s.frame.stack;
    kept = s.frame.kept;
  };
}

abbrev pub at : MachineState → ℕ → MachineState
at s to = record s { frame = record s.frame { slot = to } }

abbrev pub called : MachineState → ℕ → ℕ → MachineState
called s to answer = record s { frame = record (after_call s.frame answer) { slot = to } }

abbrev pub sending : MachineState → ℕ → ℕ → ℕ → MachineState
sending s to j v = record {
  frame = record (after_call s.frame 0) { slot = to };
  memory = s.memory;
  sent = insert s.sent j v;
}

abbrev pub storing : MachineState → ℕ → ℕ → ℕ → MachineState
storing s to k n = record {
  frame = record s.frame { slot = to };
  memory = with_number slice_set s.memory k 4 n;
  sent = s.sent;
}

-- ---- forms, each with the slot to which it leads

pub moves : (program : List Insn) (env : Setting) (s : MachineState) (to : ℕ) (dst : Reg) (src : Operand) (w : Word)
    → insn_at program s.frame.slot ≡ Some (i.Alu Mov W64 dst src)
    → s.frame.slot + 1 ≡ to → BeginsAt program to → operand_of s.frame src ≡ Ok w → (register_number dst == 10) ≡ false
    → step program env s ≡ Ok (Running (put s to dst w))
moves program env s to dst src w here next there e free = rw (here, next, there, e, free) refl

pub adds : (program : List Insn) (env : Setting) (s : MachineState) (to : ℕ) (dst : Reg) (src : Operand) (a b : ℕ)
    → insn_at program s.frame.slot ≡ Some (i.Alu Add W64 dst src)
    → s.frame.slot + 1 ≡ to → BeginsAt program to → get s.frame.registers (register_number dst) ≡ Some (Num a)
    → operand_of s.frame src ≡ Ok (Num b)
    → (register_number dst == 10) ≡ false → a + b < 2 ^ 64
    → step program env s ≡ Ok (Running (put s to dst (Num (a + b))))
adds program env s to dst src a b here next there e f free fits =
    let left : a % 2 ^ 64 ≡ a = mod-eq_of_lt (omega (arith, fits)) in
    let right : b % 2 ^ 64 ≡ b = mod-eq_of_lt (omega (arith, fits)) in
    let sum : (a + b) % 2 ^ 64 ≡ a + b = mod-eq_of_lt fits in
    rw (here, next, there, e, f, free, left, right, sum) refl

pub receives : (program : List Insn) (env : Setting) (s : MachineState) (to j : ℕ)
    → insn_at program s.frame.slot ≡ Some (i.Call (pos 2))
    → s.frame.slot + 1 ≡ to → BeginsAt program to → get s.frame.registers 1 ≡ Some (Num j) → j < env.shape.nodes
    → step program env s ≡ Ok (Running (called s to (received env j)))
receives program env s to j here next there e lt = rw (here, next, there, e, lt-ltb j env.shape.nodes lt) refl

pub sends : (program : List Insn) (env : Setting) (s : MachineState) (to j v : ℕ)
    → insn_at program s.frame.slot ≡ Some (i.Call (pos 3))
    → s.frame.slot + 1 ≡ to → BeginsAt program to → get s.frame.registers 1 ≡ Some (Num j)
    → get s.frame.registers 2 ≡ Some (Num v) → j < env.shape.nodes → v < 2 ^ 32
    → step program env s ≡ Ok (Running (sending s to j v))
sends program env s to j v here next there e f lt fits = rw
    (here, next, there, e, f, lt-ltb j env.shape.nodes lt, lt-ltb v (2 ^ 32) fits) refl

pub tosses : (program : List Insn) (env : Setting) (s : MachineState) (to : ℕ)
    → insn_at program s.frame.slot ≡ Some (i.Call (pos 4))
    → s.frame.slot + 1 ≡ to → BeginsAt program to → step program env s ≡ Ok (Running (called s to env.coin))
tosses program env s to here next there = rw (here, next, there) refl

-- a condition that doesn't hold
pub passes : (program : List Insn) (env : Setting) (s : MachineState) (to : ℕ) (test : Cond) (dst : Reg)
    (src : Operand) (off : ℤ) (a b : ℕ)
    → insn_at program s.frame.slot ≡ Some (i.Branch test W64 dst src off) → s.frame.slot + 1 ≡ to → BeginsAt program to
    → get s.frame.registers (register_number dst) ≡ Some (Num a) → operand_of s.frame src ≡ Ok (Num b)
    → holds test W64 a b ≡ false
    → step program env s ≡ Ok (Running (at s to))
passes program env s to test dst src off a b here next there e f h = rw (here, e, f, h, next, there) refl

-- one that holds
pub jumps : (program : List Insn) (env : Setting) (s : MachineState) (to : ℕ) (test : Cond) (dst : Reg) (src : Operand)
    (n a b : ℕ)
    → insn_at program s.frame.slot ≡ Some (i.Branch test W64 dst src (pos n)) → s.frame.slot + 1 + n ≡ to
    → BeginsAt program to
    → get s.frame.registers (register_number dst) ≡ Some (Num a) → operand_of s.frame src ≡ Ok (Num b)
    → holds test W64 a b ≡ true
    → step program env s ≡ Ok (Running (at s to))
jumps program env s to test dst src n a b here next there e f h = rw (here, e, f, h, next, there) refl

pub goes : (program : List Insn) (env : Setting) (s : MachineState) (to n : ℕ)
    → insn_at program s.frame.slot ≡ Some (i.Ja (pos n)) → s.frame.slot + 1 + n ≡ to → BeginsAt program to
    → step program env s ≡ Ok (Running (at s to))
goes program env s to n here next there = rw (here, next, there) refl

pub loads : (program : List Insn) (env : Setting) (s : MachineState) (to : ℕ) (dst base : Reg) (off : ℤ) (k n : ℕ)
    → insn_at program s.frame.slot ≡ Some (i.Load size.W dst base off)
    → s.frame.slot + 1 ≡ to → BeginsAt program to → get s.frame.registers (register_number base) ≡ Some (Ptr Mem 0)
    → (register_number dst == 10) ≡ false
    → pos 0 +ℤ off ≡ pos k → nat_le (k + 4) env.shape.memory ≡ true
    → number_at (byte_at s.frame s.memory Mem) k 4 ≡ Ok n
    → step program env s ≡ Ok (Running (put s to dst (Num n)))
loads program env s to dst base off k n here next there e free where_ inside read = rw
    (here, next, there, e, free, where_, inside, read) refl

pub stores : (program : List Insn) (env : Setting) (s : MachineState) (to : ℕ) (base src : Reg) (off : ℤ) (k n : ℕ)
    → insn_at program s.frame.slot ≡ Some (i.StoreReg size.W base off src)
    → s.frame.slot + 1 ≡ to → BeginsAt program to → get s.frame.registers (register_number base) ≡ Some (Ptr Mem 0)
    → get s.frame.registers (register_number src) ≡ Some (Num n)
    → pos 0 +ℤ off ≡ pos k → nat_le (k + 4) env.shape.memory ≡ true
    → step program env s ≡ Ok (Running (storing s to k n))
stores program env s to base src off k n here next there e f where_ inside = rw
    (here, next, there, e, f, where_, inside) refl

pub exits : (program : List Insn) (env : Setting) (s : MachineState) (n : ℕ)
    → insn_at program s.frame.slot ≡ Some i.Exit → get s.frame.registers 0 ≡ Some (Num n)
    → step program env s ≡ Ok (Ended s.memory s.sent n)
exits program env s n here e = rw (here, e) refl
