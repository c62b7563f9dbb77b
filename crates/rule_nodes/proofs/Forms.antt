-- The steps of the instructions that rules become, and runs one after the other.
use Rattle.std.proofs.Common.{◌≡◌, ℕ, zero, suc, ◌+◌, ◌%◌, ◌^◌, ◌<◌, ◌≤◌, ◌==◌, nat_le, true, false, List, Some, Ok, ℤ, pos, ◌+ℤ◌, refl, arith, subst}
use Rattle.std.specs.Int.{w64, cast_unsigned}
use Rattle.std.specs.FinMap.{get}
use Rattle.node_env.specs.declared.region.Region.TheVariants.{Mem}
use Rattle.node_env.specs.Env.{Setting}
use Rattle.bpf_insn.specs.declared.forms.Size.TheVariants as size
use Rattle.bpf_insn.specs.declared.forms.Reg.{Reg}
use Rattle.bpf_insn.specs.declared.forms.Reg.TheVariants.{R0}
use Rattle.bpf_insn.specs.declared.forms.Width.TheVariants.{W32}
use Rattle.bpf_insn.specs.declared.forms.AluOp.TheVariants.{Add}
use Rattle.bpf_insn.specs.declared.forms.Cond.{Cond}
use Rattle.bpf_insn.specs.declared.forms.Operand.{Operand}
use Rattle.bpf_insn.specs.declared.forms.Operand.TheVariants as operand
use Rattle.bpf_insn.specs.declared.forms.Insn.{Insn}
use Rattle.bpf_insn.specs.declared.forms.Insn.TheVariants as i
use Rattle.bpf_insn.specs.Registers.{register_number}
use Rattle.bpf_insn.specs.Arithmetic.{holds}
use Rattle.bpf_insn.specs.Programs.{insn_at}
use Rattle.bpf_insn.specs.Edges.{BeginsAt}
use Rattle.bpf_machine.specs.declared.word.Word.TheVariants.{Num, Ptr}
use Rattle.bpf_machine.specs.Machine.{MachineState, Phase, Running}
use Rattle.bpf_machine.specs.Step.{operand_of, step}
use Rattle.bpf_machine.specs.Run.{Leads}
use Rattle.clock_nodes.proofs.Forms.{put, at, called, storing}
use Rattle.rule_syntax.specs.declared.syntax.Operation.{Operation}
use Rattle.rule_syntax.specs.declared.syntax.Operation.TheVariants.{Sum, Difference, Product, Quotient, Remainder}
use Rattle.rule_meaning.specs.Meaning.{apply}
use Rattle.rule_nodes.specs.Code.{set_number, copy, alu_op_of}
use Rattle.rule_nodes.proofs.Small.{low, moved, said, results}

module _ (program : List Insn) (env : Setting) where
  -- ---- steps

  pub sets_number : (s : MachineState) (to : ℕ) (dst : Reg) (v : ℕ)
      → insn_at program s.frame.slot ≡ Some (set_number dst v) → s.frame.slot + 1 ≡ to → BeginsAt program to
      → v < 2 ^ 32 → (register_number dst == 10) ≡ false
      → step program env s ≡ Ok (Running (put s to dst (Num v)))
  sets_number s to dst v here next there small free =
      let same = said v small in
      rw (here, next, there, free, same) refl

  pub copies : (s : MachineState) (to : ℕ) (dst src : Reg) (v : ℕ)
      → insn_at program s.frame.slot ≡ Some (copy dst src) → s.frame.slot + 1 ≡ to → BeginsAt program to
      → get s.frame.registers (register_number src) ≡ Some (Num v) → v < 2 ^ 32 → (register_number dst == 10) ≡ false
      → step program env s ≡ Ok (Running (put s to dst (Num v)))
  copies s to dst src v here next there e small free =
      let same = moved v small in
      rw (here, next, there, e, free, same) refl

  pub operates : (op : Operation) (s : MachineState) (to a b raw : ℕ) (src : Operand)
      → insn_at program s.frame.slot ≡ Some (i.Alu (alu_op_of op) W32 R0 src) → s.frame.slot + 1 ≡ to
      → BeginsAt program to → get s.frame.registers 0 ≡ Some (Num a) → operand_of s.frame src ≡ Ok (Num raw)
      → raw % 2 ^ 32 ≡ b → a < 2 ^ 32 → b < 2 ^ 32
      → step program env s ≡ Ok (Running (put s to R0 (Num (apply op a b))))
  operates Sum s to a b raw src here next there e f l g h =
      let r = results Sum a b raw g h l in rw (here, next, there, e, f, r) refl
  operates Difference s to a b raw src here next there e f l g h =
      let r = results Difference a b raw g h l in rw (here, next, there, e, f, r) refl
  operates Product s to a b raw src here next there e f l g h =
      let r = results Product a b raw g h l in rw (here, next, there, e, f, r) refl
  operates Quotient s to a b raw src here next there e f l g h =
      let r = results Quotient a b raw g h l in rw (here, next, there, e, f, r) refl
  operates Remainder s to a b raw src here next there e f l g h =
      let r = results Remainder a b raw g h l in rw (here, next, there, e, f, r) refl

  -- in any register but r10
  pub operates_in : (op : Operation) (s : MachineState) (to a b raw : ℕ) (dst : Reg) (src : Operand)
      → insn_at program s.frame.slot ≡ Some (i.Alu (alu_op_of op) W32 dst src) → s.frame.slot + 1 ≡ to
      → BeginsAt program to → get s.frame.registers (register_number dst) ≡ Some (Num a)
      → operand_of s.frame src ≡ Ok (Num raw) → (register_number dst == 10) ≡ false
      → raw % 2 ^ 32 ≡ b → a < 2 ^ 32 → b < 2 ^ 32
      → step program env s ≡ Ok (Running (put s to dst (Num (apply op a b))))
  operates_in Sum s to a b raw dst src here next there e f free l g h =
      let r = results Sum a b raw g h l in rw (here, next, there, e, f, free, r) refl
  operates_in Difference s to a b raw dst src here next there e f free l g h =
      let r = results Difference a b raw g h l in rw (here, next, there, e, f, free, r) refl
  operates_in Product s to a b raw dst src here next there e f free l g h =
      let r = results Product a b raw g h l in rw (here, next, there, e, f, free, r) refl
  operates_in Quotient s to a b raw dst src here next there e f free l g h =
      let r = results Quotient a b raw g h l in rw (here, next, there, e, f, free, r) refl
  operates_in Remainder s to a b raw dst src here next there e f free l g h =
      let r = results Remainder a b raw g h l in rw (here, next, there, e, f, free, r) refl

  -- one more
  pub counts : (s : MachineState) (to : ℕ) (dst : Reg) (c : ℕ)
      → insn_at program s.frame.slot ≡ Some (i.Alu Add W32 dst (operand.Imm (pos 1))) → s.frame.slot + 1 ≡ to
      → BeginsAt program to → get s.frame.registers (register_number dst) ≡ Some (Num c)
      → (register_number dst == 10) ≡ false → c + 1 < 2 ^ 32
      → step program env s ≡ Ok (Running (put s to dst (Num (c + 1))))
  counts s to dst c here next there e free small =
      let l = low c (omega (arith, small)) in
      let r = low (c + 1) small in
      rw (here, next, there, e, free, l, r) refl

  pub passes : (s : MachineState) (to : ℕ) (test : Cond) (dst : Reg) (src : Operand) (far a b : ℕ)
      → insn_at program s.frame.slot ≡ Some (i.Branch test W32 dst src (pos far)) → s.frame.slot + 1 ≡ to
      → BeginsAt program to → get s.frame.registers (register_number dst) ≡ Some (Num a)
      → operand_of s.frame src ≡ Ok (Num b) → holds test W32 a b ≡ false
      → step program env s ≡ Ok (Running (at s to))
  passes s to test dst src far a b here next there e f h = rw (here, e, f, h, next, there) refl

  pub jumps : (s : MachineState) (to : ℕ) (test : Cond) (dst : Reg) (src : Operand) (far a b : ℕ)
      → insn_at program s.frame.slot ≡ Some (i.Branch test W32 dst src (pos far)) → s.frame.slot + 1 + far ≡ to
      → BeginsAt program to → get s.frame.registers (register_number dst) ≡ Some (Num a)
      → operand_of s.frame src ≡ Ok (Num b) → holds test W32 a b ≡ true
      → step program env s ≡ Ok (Running (at s to))
  jumps s to test dst src far a b here next there e f h = rw (here, e, f, h, next, there) refl

  pub numbers : (s : MachineState) (to : ℕ) → insn_at program s.frame.slot ≡ Some (i.Call (pos 1))
      → s.frame.slot + 1 ≡ to → BeginsAt program to → step program env s ≡ Ok (Running (called s to env.id))
  numbers s to here next there = rw (here, next, there) refl

  pub stores_number : (s : MachineState) (to : ℕ) (base : Reg) (off imm : ℤ) (k : ℕ)
      → insn_at program s.frame.slot ≡ Some (i.StoreImm size.W base off imm) → s.frame.slot + 1 ≡ to
      → BeginsAt program to
      → get s.frame.registers (register_number base) ≡ Some (Ptr Mem 0) → pos 0 +ℤ off ≡ pos k
      → nat_le (k + 4) env.shape.memory ≡ true
      → step program env s ≡ Ok (Running (storing s to k (cast_unsigned w64 imm)))
  stores_number s to base off imm k here next there e where_ inside = rw (here, next, there, e, where_, inside) refl

  -- ---- runs

  pub leads_add : (k l : ℕ) (s t u : Phase) → Leads program env k s t → Leads program env l t u
      → Leads program env (k + l) s u
  leads_add zero l s t u h g =
      let same : l ≡ 0 + l = omega arith in
      subst (λ (n : ℕ). Leads program env n s u) same (subst (λ (p : Phase). Leads program env l p u) h g)
  leads_add (suc k) l s t u h g =
      let rest : Leads program env (suc (k + l)) s u = (h.0, h.1, leads_add k l h.0 t u h.2 g) in
      let same : suc (k + l) ≡ suc k + l = omega arith in
      subst (λ (n : ℕ). Leads program env n s u) same rest

  -- in at most `limit` steps
  pub record Reaches (s t : MachineState) (limit : ℕ) : Type 0 where
    pub count : ℕ
    pub leads : Leads program env count (Running s) (Running t)
    pub few : count ≤ limit

  pub stays : (s : MachineState) → Reaches s s 0
  stays s = record { count = 0; leads = refl; few = omega arith }

  pub once : (s t : MachineState) → step program env s ≡ Ok (Running t) → Reaches s t 1
  once s t e = record { count = 1; leads = (Running t, e, refl); few = omega arith }

  pub chain : (s t u : MachineState) (k l m : ℕ) → Reaches s t k → Reaches t u l → k + l ≤ m → Reaches s u m
  chain s t u k l m h g le = record {
    count = h.count + g.count;
    leads = leads_add h.count g.count (Running s) (Running t) (Running u) h.leads g.leads;
    few = omega (arith, h.few, g.few, le);
  }

  -- and one step more
  pub further : (s t u : MachineState) (k m : ℕ) → Reaches s t k → step program env t ≡ Ok (Running u) → k + 1 ≤ m
      → Reaches s u m
  further s t u k m h e le = chain s t u k 1 m h (once t u e) le
