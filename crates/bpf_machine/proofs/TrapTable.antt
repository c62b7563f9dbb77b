-- A step fails with the first trap that is found in the table, form by form.
use Rattle.std.proofs.Common.{◌≡◌, ℕ, ◌+◌, ◌≤◌, length, Bool, true, false, List, Option, Some, None, Result, Ok, Err, ◌<◌, refl, sym, ap, ◌∙◌, arith, cond, ℤ, pos}
use Rattle.std.specs.Prelude.{is_some, nat_le, nat_lt, ◌+ℤ◌, ◌==◌, ◌^◌, ◌∷◌, ◌||◌, ◌&&◌, not, find}
use Rattle.std.specs.List.{list_any}
use Rattle.std.specs.Result.{result_err}
use Rattle.std.specs.FinMap.{get}
use Rattle.std.proofs.lemmas.Bool.Decides.{nat_tests}
use Rattle.node_env.specs.declared.region.TheConstants.{STACK_BYTES}
use Rattle.node_env.specs.declared.region.Region.{Region}
use Rattle.node_env.specs.declared.region.Region.TheVariants.{Mem, Stack}
use Rattle.node_env.specs.declared.helper.Helper.{Helper}
use Rattle.node_env.specs.declared.helper.Helper.TheVariants.{Id, Recv, Send, Coin}
use Rattle.node_env.specs.Env.{Setting, region_size}
use Rattle.node_env.specs.Helpers.{helper_of}
use Rattle.node_env.specs.Dwords.{is_aligned}
use Rattle.bpf_insn.specs.declared.forms.Reg.{Reg}
use Rattle.bpf_insn.specs.declared.forms.Width.{Width}
use Rattle.bpf_insn.specs.declared.forms.Width.TheVariants.{W32, W64}
use Rattle.bpf_insn.specs.declared.forms.AluOp.{AluOp}
use Rattle.bpf_insn.specs.declared.forms.AluOp.TheVariants.{Add, Sub, Mul, Div, Sdiv, Or, And, Lsh, Rsh, Mod, Smod, Xor, Mov, Arsh}
use Rattle.bpf_insn.specs.declared.forms.MovsxKind.{MovsxKind}
use Rattle.bpf_insn.specs.declared.forms.Order.{Order}
use Rattle.bpf_insn.specs.declared.forms.SwapBits.{SwapBits}
use Rattle.bpf_insn.specs.declared.forms.Size.{Size}
use Rattle.bpf_insn.specs.declared.forms.Size.TheVariants as bytes
use Rattle.bpf_insn.specs.declared.forms.SxSize.{SxSize}
use Rattle.bpf_insn.specs.declared.forms.SxSize.TheVariants as sx
use Rattle.bpf_insn.specs.declared.forms.Cond.{Cond}
use Rattle.bpf_insn.specs.declared.forms.Operand.{Operand}
use Rattle.bpf_insn.specs.declared.forms.Insn.{Insn}
use Rattle.bpf_insn.specs.declared.forms.Insn.TheVariants as i
use Rattle.bpf_insn.specs.Registers.{register_number}
use Rattle.bpf_insn.specs.Programs.{insn_at}
use Rattle.bpf_insn.specs.Edges.{moved}
use Rattle.bpf_insn.specs.Arithmetic.{alu_result, holds}
use Rattle.bpf_machine.specs.declared.word.Word.{Word}
use Rattle.bpf_machine.specs.declared.word.Word.TheVariants.{Num, Ptr}
use Rattle.bpf_machine.specs.declared.word.TrapKind.{TrapKind}
use Rattle.bpf_machine.specs.declared.word.TrapKind.TheVariants.{NotNumber, OutOfRegion, UnsetByte, NotPointer}
use Rattle.bpf_machine.specs.Machine.{Frame, MachineState}
use Rattle.bpf_insn.specs.Operands.{access_bytes, sx_access_bytes, alu_reads, operand_reads}
use Rattle.bpf_machine.specs.Step.{◌>>=◌, Bytes, alu, alu_word, execute, kept_at, loaded, loaded_word, of_numbers, operand_of, operate, store, touches_kept}
use Rattle.bpf_machine.proofs.KeptLaws.{touches_ends}
use Rattle.bpf_machine.specs.Traps.{access_leaves, applies_to, is_number, is_pointer, is_unset, misses, misuses_pointer, operand_word, sum_leaves, takes_back, word_misses, word_touches}
use Rattle.bpf_machine.proofs.KeptWords.{narrow_word}
use Rattle.bpf_machine.proofs.LowestTrap.{kinds}
use Rattle.bpf_machine.proofs.StepCases.{unset, number, place, word_case, no_helper, some_helper, helper_case, yes, no, bool_case, is_pos, is_neg, int_case, no_slot, some_slot, slot_case, gives, fails, outcome, known, unknown, operand_case, written, unwritten, stack_case, memory_read}

abbrev pub IsTold : List Insn → Setting → Insn → MachineState → Type 0
IsTold program env insn s = result_err (execute program env insn s) ≡ find
    (λ kind. applies_to kind program env insn s.frame) kinds

-- an instruction begins at the slot after the state's
abbrev Next : List Insn → MachineState → Bool
Next program s = is_some (insn_at program (s.frame.slot + 1))

exit_told : (program : List Insn) (env : Setting) (s : MachineState) → IsTold program env i.Exit s
exit_told program env s =
    elim (word_case (get s.frame.registers 0)) [
      | unset e ↦ rw e refl
      | number n e ↦ rw e refl
      | place region offset e ↦ rw e refl
    ]

-- ---- jumps

ja_told : (program : List Insn) (env : Setting) (off : ℤ) (s : MachineState) → IsTold program env (i.Ja off) s
ja_told program env off s =
    elim (slot_case (moved (s.frame.slot + 1) off)) [
      | no_slot e ↦ rw e refl
      | some_slot n e ↦ elim (bool_case (is_some (insn_at program n)))
          [ yes f ↦ rw (e, f) refl | no f ↦ rw (e, f) refl ]
    ]

jal_told : (program : List Insn) (env : Setting) (off : ℤ) (s : MachineState) → IsTold program env (i.JaLong off) s
jal_told program env off s =
    elim (slot_case (moved (s.frame.slot + 1) off)) [
      | no_slot e ↦ rw e refl
      | some_slot n e ↦ elim (bool_case (is_some (insn_at program n)))
          [ yes f ↦ rw (e, f) refl | no f ↦ rw (e, f) refl ]
    ]

-- a branch, once its operands are known
branch_on : (program : List Insn) (env : Setting) (test : Cond) (width : Width) (dst : Reg) (src : Operand) (off : ℤ)
    (s : MachineState) (a b : ℕ)
    → get s.frame.registers (register_number dst) ≡ Some (Num a) → operand_of s.frame src ≡ Ok (Num b)
    → operand_word s.frame src ≡ Some (Num b)
    → list_any (is_unset s.frame) (operand_reads src) ≡ false → IsTold program env (i.Branch test width dst src off) s
branch_on program env test width dst src off s a b e v w u =
    elim (bool_case (holds test width a b)) [
      | no h ↦ elim (bool_case (Next program s))
          [ yes f ↦ rw (e, v, w, u, h, f) refl | no f ↦ rw (e, v, w, u, h, f) refl ]
      | yes h ↦
          elim (slot_case (moved (s.frame.slot + 1) off)) [
            | no_slot z ↦ rw (e, v, w, u, h, z) refl
            | some_slot n z ↦ elim (bool_case (is_some (insn_at program n)))
                [ yes f ↦ rw (e, v, w, u, h, z, f) refl | no f ↦ rw (e, v, w, u, h, z, f) refl ]
          ]
    ]

branch_told : (program : List Insn) (env : Setting) (test : Cond) (width : Width) (dst : Reg) (src : Operand) (off : ℤ)
    (s : MachineState) → IsTold program env (i.Branch test width dst src off) s
branch_told program env test width dst src off s =
    elim (word_case (get s.frame.registers (register_number dst))) [
      | unset e ↦ rw e refl
      | place q m e ↦
          elim (operand_case s.frame src) [
            | unknown o w u ↦ rw (e, o, u) refl
            | known word o w u ↦ rw (e, o, u) refl
          ]
      | number a e ↦
          elim (operand_case s.frame src) [
            | unknown o w u ↦ rw (e, o, w, u) refl
            | known (Num n) o w u ↦ branch_on program env test width dst src off s a n e o w u
            | known (Ptr r n) o w u ↦ rw (e, o, w, u) refl
          ]
    ]

-- ---- arithmetic

-- which trap an operation tells of two words that are read
abbrev word_trap : Setting → AluOp → Width → Word → Word → Option TrapKind
word_trap env op width a b =
    cond (misuses_pointer op width (Some a) (Some b) || false) (Some NotNumber)
    (cond ((sum_leaves env op width (Some a) (Some b) || false) || false) (Some OutOfRegion) None)

-- of numbers alone
abbrev plain_trap : Word → Word → Option TrapKind
plain_trap a b = cond ((is_pointer (Some a) || is_pointer (Some b)) || false) (Some NotNumber) None

plain_told : (op : AluOp) (width : Width) (a b : Word) → result_err (of_numbers op width a b) ≡ plain_trap a b
plain_told op width (Num m) (Num n) = refl
plain_told op width (Num m) (Ptr region offset) = refl
plain_told op width (Ptr region offset) (Num n) = refl
plain_told op width (Ptr region offset) (Ptr other end) = refl

sum_told : (env : Setting) (a b : Word) → result_err (alu_word env Add W64 a b) ≡ word_trap env Add W64 a b
sum_told env (Num m) (Num n) = refl
sum_told env (Ptr q p) (Ptr region offset) = refl
sum_told env (Num n) (Ptr region offset) =
    elim (bool_case (nat_le (alu_result Add W64 n offset) (region_size env.shape region)))
    [ yes f ↦ rw f refl | no f ↦ rw f refl ]
sum_told env (Ptr region offset) (Num n) =
    elim (bool_case (nat_le (alu_result Add W64 offset n) (region_size env.shape region)))
    [ yes f ↦ rw f refl | no f ↦ rw f refl ]

difference_told : (env : Setting) (a b : Word) → result_err (alu_word env Sub W64 a b) ≡ word_trap env Sub W64 a b
difference_told env (Num m) (Num n) = refl
difference_told env (Num m) (Ptr region offset) = refl
difference_told env (Ptr q p) (Ptr region offset) = refl
difference_told env (Ptr region offset) (Num n) =
    elim (bool_case (nat_le (alu_result Sub W64 offset n) (region_size env.shape region)))
    [ yes f ↦ rw f refl | no f ↦ rw f refl ]

-- an operation whose operands are read
operate_on : (program : List Insn) (env : Setting) (op : AluOp) (width : Width) (dst : Reg) (src : Operand)
    (s : MachineState) (a b : Word)
    → alu env op width dst src s.frame ≡ operate env op width dst src s.frame
    → alu_reads op dst src ≡ dst ∷ operand_reads src
    → result_err (alu_word env op width a b) ≡ word_trap env op width a b
    → get s.frame.registers (register_number dst) ≡ Some a → operand_of s.frame src ≡ Ok b
    → operand_word s.frame src ≡ Some b
    → list_any (is_unset s.frame) (operand_reads src) ≡ false → Next program s ≡ true
    → IsTold program env (i.Alu op width dst src) s
operate_on program env op width dst src s a b is all told first second word set next =
    elim (bool_case (register_number dst == 10)) [
      | yes f ↦ rw (is, all, next, first, second, set, f) refl
      | no f ↦
          elim (outcome (alu_word env op width a b)) [
            | gives w e ↦ rw (is, all, next, first, second, word, set, f, e) (ap result_err (sym e) ∙ told)
            | fails k e ↦ rw (is, all, next, first, second, word, set, f, e) (ap result_err (sym e) ∙ told)
          ]
    ]

operate_told : (program : List Insn) (env : Setting) (op : AluOp) (width : Width) (dst : Reg) (src : Operand)
    (s : MachineState)
    → alu env op width dst src s.frame ≡ operate env op width dst src s.frame
    → alu_reads op dst src ≡ dst ∷ operand_reads src
    → ((a b : Word) → result_err (alu_word env op width a b) ≡ word_trap env op width a b)
    → Next program s ≡ true → IsTold program env (i.Alu op width dst src) s
operate_told program env op width dst src s is all told next =
    elim (word_case (get s.frame.registers (register_number dst))) [
      | unset e ↦ rw (is, all, next, e) refl
      | number n e ↦
          elim (operand_case s.frame src) [
            | known w o p u ↦ operate_on program env op width dst src s (Num n) w is all (told (Num n) w) e o p u next
            | unknown o p u ↦ rw (is, all, next, e, o, u) refl
          ]
      | place q n e ↦
          elim (operand_case s.frame src) [
            | known w o p u ↦ operate_on program env op width dst src s (Ptr q n) w is all
                (told (Ptr q n) w) e o p u next
            | unknown o p u ↦ rw (is, all, next, e, o, u) refl
          ]
    ]

move_told : (program : List Insn) (env : Setting) (width : Width) (dst : Reg) (src : Operand) (s : MachineState)
    → Next program s ≡ true → IsTold program env (i.Alu Mov width dst src) s
move_told program env W64 dst src s next =
    elim (operand_case s.frame src) [
      | unknown o p u ↦ rw (next, o, u) refl
      | known w o p u ↦ elim (bool_case (register_number dst == 10))
          [ yes f ↦ rw (next, o, u, f) refl | no f ↦ rw (next, o, u, f) refl ]
    ]
move_told program env W32 dst src s next =
    elim (operand_case s.frame src) [
      | unknown o p u ↦ rw (next, o, u) refl
      | known (Num n) o p u ↦ elim (bool_case (register_number dst == 10))
          [ yes f ↦ rw (next, o, p, u, f) refl | no f ↦ rw (next, o, p, u, f) refl ]
      | known (Ptr r n) o p u ↦ elim (bool_case (register_number dst == 10))
          [ yes f ↦ rw (next, o, p, u, f) refl | no f ↦ rw (next, o, p, u, f) refl ]
    ]

op_told : (program : List Insn) (env : Setting) (op : AluOp) (width : Width) (dst : Reg) (src : Operand)
    (s : MachineState) → Next program s ≡ true → IsTold program env (i.Alu op width dst src) s
op_told program env Mov width dst src s next = move_told program env width dst src s next
op_told program env Add W64 dst src s next = operate_told program env Add W64 dst src s refl refl (sum_told env) next
op_told program env Add W32 dst src s next = operate_told program env Add W32 dst src s refl refl
    (plain_told Add W32) next
op_told program env Sub W64 dst src s next = operate_told program env Sub W64 dst src s refl refl
    (difference_told env) next
op_told program env Sub W32 dst src s next = operate_told program env Sub W32 dst src s refl refl
    (plain_told Sub W32) next
op_told program env Mul width dst src s next = operate_told program env Mul width dst src s refl refl
    (plain_told Mul width) next
op_told program env Div width dst src s next = operate_told program env Div width dst src s refl refl
    (plain_told Div width) next
op_told program env Sdiv width dst src s next = operate_told program env Sdiv width dst src s refl refl
    (plain_told Sdiv width) next
op_told program env Or width dst src s next = operate_told program env Or width dst src s refl refl
    (plain_told Or width) next
op_told program env And width dst src s next = operate_told program env And width dst src s refl refl
    (plain_told And width) next
op_told program env Lsh width dst src s next = operate_told program env Lsh width dst src s refl refl
    (plain_told Lsh width) next
op_told program env Rsh width dst src s next = operate_told program env Rsh width dst src s refl refl
    (plain_told Rsh width) next
op_told program env Mod width dst src s next = operate_told program env Mod width dst src s refl refl
    (plain_told Mod width) next
op_told program env Smod width dst src s next = operate_told program env Smod width dst src s refl refl
    (plain_told Smod width) next
op_told program env Xor width dst src s next = operate_told program env Xor width dst src s refl refl
    (plain_told Xor width) next
op_told program env Arsh width dst src s next = operate_told program env Arsh width dst src s refl refl
    (plain_told Arsh width) next

alu_told : (program : List Insn) (env : Setting) (op : AluOp) (width : Width) (dst : Reg) (src : Operand)
    (s : MachineState) → IsTold program env (i.Alu op width dst src) s
alu_told program env op width dst src s =
    elim (bool_case (Next program s)) [
      | no next ↦ rw next refl
      | yes next ↦ op_told program env op width dst src s next
    ]

neg_told : (program : List Insn) (env : Setting) (width : Width) (dst : Reg) (s : MachineState)
    → IsTold program env (i.Neg width dst) s
neg_told program env width dst s =
    elim (bool_case (Next program s)) [
      | no next ↦ rw next refl
      | yes next ↦
          elim (word_case (get s.frame.registers (register_number dst))) [
            | unset e ↦ rw (next, e) refl
            | number n e ↦ elim (bool_case (register_number dst == 10))
                [ yes f ↦ rw (next, e, f) refl | no f ↦ rw (next, e, f) refl ]
            | place q n e ↦ elim (bool_case (register_number dst == 10))
                [ yes f ↦ rw (next, e, f) refl | no f ↦ rw (next, e, f) refl ]
          ]
    ]

movsx_told : (program : List Insn) (env : Setting) (kind : MovsxKind) (dst src : Reg) (s : MachineState)
    → IsTold program env (i.Movsx kind dst src) s
movsx_told program env kind dst src s =
    elim (bool_case (Next program s)) [
      | no next ↦ rw next refl
      | yes next ↦
          elim (word_case (get s.frame.registers (register_number src))) [
            | unset e ↦ rw (next, e) refl
            | number n e ↦ elim (bool_case (register_number dst == 10))
                [ yes f ↦ rw (next, e, f) refl | no f ↦ rw (next, e, f) refl ]
            | place q n e ↦ elim (bool_case (register_number dst == 10))
                [ yes f ↦ rw (next, e, f) refl | no f ↦ rw (next, e, f) refl ]
          ]
    ]

swap_told : (program : List Insn) (env : Setting) (order : Order) (bits : SwapBits) (dst : Reg) (s : MachineState)
    → IsTold program env (i.Swap order bits dst) s
swap_told program env order bits dst s =
    elim (bool_case (Next program s)) [
      | no next ↦ rw next refl
      | yes next ↦
          elim (word_case (get s.frame.registers (register_number dst))) [
            | unset e ↦ rw (next, e) refl
            | number n e ↦ elim (bool_case (register_number dst == 10))
                [ yes f ↦ rw (next, e, f) refl | no f ↦ rw (next, e, f) refl ]
            | place q n e ↦ elim (bool_case (register_number dst == 10))
                [ yes f ↦ rw (next, e, f) refl | no f ↦ rw (next, e, f) refl ]
          ]
    ]

load_immediate_told : (program : List Insn) (env : Setting) (dst : Reg) (value : ℕ) (s : MachineState)
    → IsTold program env (i.LoadImm64 dst value) s
load_immediate_told program env dst value s =
    elim (bool_case (is_some (insn_at program (s.frame.slot + 2)))) [
      | no next ↦ rw next refl
      | yes next ↦ elim (bool_case (register_number dst == 10)) [ yes f ↦ rw (next, f) refl | no f ↦ rw (next, f) refl ]
    ]

-- ---- loads

-- which trap a load tells of the word in its base
abbrev load_trap : Setting → Frame → Word → ℤ → ℕ → Option TrapKind
load_trap env s base off count =
    cond (word_touches s (Some base) off count && not (takes_back s (Some base) off count)) (Some NotNumber)
    (cond (access_leaves env (Some base) off count || false) (Some OutOfRegion)
    (cond (word_misses s (Some base) off count && not (takes_back s (Some base) off count)) (Some UnsetByte)
    (cond (is_number (Some base) || false) (Some NotPointer) None)))

word_told : (env : Setting) (base : Word) (off : ℤ) (count : ℕ) (memory : List ℕ) (s : Frame)
    → length memory ≡ env.shape.memory → (1 ≤ count) × (count ≤ 8)
    → result_err (loaded_word env base off count memory s) ≡ load_trap env s base off count
word_told env (Num n) off count memory s whole few = refl
word_told env (Ptr Mem offset) off count memory s whole few =
    elim (int_case (pos offset +ℤ off)) [
      | is_neg n z ↦ rw z refl
      | is_pos n z ↦
          elim (bool_case (nat_le (n + count) env.shape.memory)) [
            | no g ↦ rw (z, g) refl
            | yes g ↦
                let fits : n + count ≤ length memory = grind (arith, nat_tests) in
                let read = memory_read s memory n count fits in
                rw (z, g, read.1) refl
          ]
    ]
word_told env (Ptr Stack offset) off count memory s whole few =
    elim (int_case (pos offset +ℤ off)) [
      | is_neg n z ↦ rw z refl
      | is_pos n z ↦
          elim (bool_case (nat_le (n + count) STACK_BYTES)) [
            | no g ↦ rw (z, g) refl
            | yes g ↦
                let ends = touches_ends s n count few.0 few.1 in
                elim (word_case (kept_at s Stack n count)) [
                  | number m k ↦ rw (z, g, ends, k) (taken (touches_kept s n count) (misses s n count))
                  | place q m k ↦ rw (z, g, ends, k) (taken (touches_kept s n count) (misses s n count))
                  | unset k ↦
                      elim (bool_case (touches_kept s n count)) [
                        | yes t ↦ rw (z, g, ends, k, t) refl
                        | no t ↦
                            elim (stack_case s memory n count) [
                              | written v h m ↦ rw (z, g, ends, k, t, h, m) refl
                              | unwritten h m ↦ rw (z, g, ends, k, t, h, m) refl
                            ]
                      ]
                ]
          ]
    ]
  where
    taken : (a b : Bool) → None ≡ cond (a && false) (Some NotNumber) (cond (b && false) (Some UnsetByte) None)
    taken true true = refl
    taken true false = refl
    taken false true = refl
    taken false false = refl

loaded_told : (env : Setting) (base : Word) (off : ℤ) (count : ℕ) (memory : List ℕ) (s : Frame)
    → length memory ≡ env.shape.memory → (1 ≤ count) × (count < 8)
    → result_err (loaded env base off count memory s) ≡ load_trap env s base off count
loaded_told env base off count memory s whole few =
    same (loaded env base off count memory s) ∙ ap result_err (sym (narrow_word env base off count memory s few.1))
    ∙ word_told env base off count memory s whole (few.0, omega (arith, few.1))
  where
    same : (r : Result ℕ TrapKind) → result_err r ≡ result_err (r >>= λ n. Ok (Num n))
    same (Ok n) = refl
    same (Err k) = refl

sx_few : (size : SxSize) → (1 ≤ sx_access_bytes size) × (sx_access_bytes size < 8)
sx_few sx.B = (omega arith, omega arith)
sx_few sx.H = (omega arith, omega arith)
sx_few sx.W = (omega arith, omega arith)

few_bytes : (size : Size) → (1 ≤ access_bytes size) × (access_bytes size ≤ 8)
few_bytes bytes.B = (omega arith, omega arith)
few_bytes bytes.H = (omega arith, omega arith)
few_bytes bytes.W = (omega arith, omega arith)
few_bytes bytes.Dw = (omega arith, omega arith)

load_on : (program : List Insn) (env : Setting) (size : Size) (dst base : Reg) (off : ℤ) (s : MachineState) (a : Word)
    → length s.memory ≡ env.shape.memory
    → get s.frame.registers (register_number base) ≡ Some a → Next program s ≡ true
    → IsTold program env (i.Load size dst base off) s
load_on program env size dst base off s a whole e next =
    elim (bool_case (register_number dst == 10)) [
      | yes f ↦ rw (next, e, f) refl
      | no f ↦
          elim (outcome (loaded_word env a off (access_bytes size) s.memory s.frame)) [
            | gives n l ↦ rw (next, e, f, l) (ap result_err (sym l)
                ∙ word_told env a off (access_bytes size) s.memory s.frame whole (few_bytes size))
            | fails k l ↦ rw (next, e, f, l) (ap result_err (sym l)
                ∙ word_told env a off (access_bytes size) s.memory s.frame whole (few_bytes size))
          ]
    ]

load_told : (program : List Insn) (env : Setting) (size : Size) (dst base : Reg) (off : ℤ) (s : MachineState)
    → length s.memory ≡ env.shape.memory → IsTold program env (i.Load size dst base off) s
load_told program env size dst base off s whole =
    elim (bool_case (Next program s)) [
      | no next ↦ rw next refl
      | yes next ↦
          elim (word_case (get s.frame.registers (register_number base))) [
            | unset e ↦ rw (next, e) refl
            | number n e ↦ load_on program env size dst base off s (Num n) whole e next
            | place q n e ↦ load_on program env size dst base off s (Ptr q n) whole e next
          ]
    ]

load_extended_on : (program : List Insn) (env : Setting) (size : SxSize) (dst base : Reg) (off : ℤ) (s : MachineState)
    (a : Word) → length s.memory ≡ env.shape.memory
    → get s.frame.registers (register_number base) ≡ Some a → Next program s ≡ true
    → IsTold program env (i.LoadSx size dst base off) s
load_extended_on program env size dst base off s a whole e next =
    elim (bool_case (register_number dst == 10)) [
      | yes f ↦ rw (next, e, f) refl
      | no f ↦
          elim (outcome (loaded env a off (sx_access_bytes size) s.memory s.frame)) [
            | gives n l ↦ rw (next, e, f, l) (ap result_err (sym l)
                ∙ loaded_told env a off (sx_access_bytes size) s.memory s.frame whole (sx_few size))
            | fails k l ↦ rw (next, e, f, l) (ap result_err (sym l)
                ∙ loaded_told env a off (sx_access_bytes size) s.memory s.frame whole (sx_few size))
          ]
    ]

load_extended_told : (program : List Insn) (env : Setting) (size : SxSize) (dst base : Reg) (off : ℤ)
    (s : MachineState) → length s.memory ≡ env.shape.memory → IsTold program env (i.LoadSx size dst base off) s
load_extended_told program env size dst base off s whole =
    elim (bool_case (Next program s)) [
      | no next ↦ rw next refl
      | yes next ↦
          elim (word_case (get s.frame.registers (register_number base))) [
            | unset e ↦ rw (next, e) refl
            | number n e ↦ load_extended_on program env size dst base off s (Num n) whole e next
            | place q n e ↦ load_extended_on program env size dst base off s (Ptr q n) whole e next
          ]
    ]

-- ---- stores

-- which trap a store tells of the word in its base
abbrev store_trap : Setting → Word → ℤ → ℕ → Option TrapKind
store_trap env base off count = cond (access_leaves env (Some base) off count) (Some OutOfRegion)
    (cond (is_number (Some base)) (Some NotPointer) None)

store_word_told : (env : Setting) (size : Size) (base : Word) (off : ℤ) (n : ℕ) (b : Bytes)
    → result_err (store env size base off n b) ≡ store_trap env base off (access_bytes size)
store_word_told env size (Num m) off n b = refl
store_word_told env size (Ptr region offset) off n b =
    elim (int_case (pos offset +ℤ off)) [
      | is_neg m z ↦ rw z refl
      | is_pos m z ↦ elim (bool_case (nat_le (m + access_bytes size) (region_size env.shape region)))
          [ yes g ↦ rw (z, g) refl | no g ↦ rw (z, g) refl ]
    ]

store_register_told : (program : List Insn) (env : Setting) (size : Size) (base : Reg) (off : ℤ) (src : Reg)
    (s : MachineState) → IsTold program env (i.StoreReg size base off src) s
store_register_told program env size base off src s =
    elim (bool_case (Next program s)) [
      | no next ↦ rw next refl
      | yes next ↦
          elim (word_case (get s.frame.registers (register_number base))) [
            | unset e ↦ rw (next, e) refl
            | number n e ↦ by_value next (Num n) e
            | place region offset e ↦ by_value next (Ptr region offset) e
          ]
    ]
  where
    kept : Next program s ≡ true → (a : Word) → get s.frame.registers (register_number base) ≡ Some a → (r : Region)
        (m : ℕ) → get s.frame.registers (register_number src) ≡ Some (Ptr r m)
        → IsTold program env (i.StoreReg size base off src) s
    kept next (Num n) e r m v = rw (next, e, v) refl
    kept next (Ptr Mem offset) e r m v = rw (next, e, v) refl
    kept next (Ptr Stack offset) e r m v =
        elim (bool_case (access_bytes size == 8 && is_aligned (pos offset +ℤ off))) [
          | no c ↦ rw (next, e, v, c) refl
          | yes c ↦
              elim (int_case (pos offset +ℤ off)) [
                | is_neg n z ↦ let d = rw z at c in rw (next, e, v, z, d) refl
                | is_pos n z ↦
                    let d = rw z at c in
                    elim (bool_case (nat_le (n + access_bytes size) STACK_BYTES)) [
                      | yes g ↦ rw (next, e, v, z, d, g) refl
                      | no g ↦ rw (next, e, v, z, d, g) refl
                    ]
              ]
        ]

    by_value : Next program s ≡ true → (a : Word) → get s.frame.registers (register_number base) ≡ Some a
        → IsTold program env (i.StoreReg size base off src) s
    by_value next a e =
        elim (word_case (get s.frame.registers (register_number src))) [
          | unset v ↦ rw (next, e, v) refl
          | place r m v ↦ kept next a e r m v
          | number m v ↦
              elim (outcome (store env size a off m (record { frame = s.frame; memory = s.memory }))) [
                | gives b l ↦ rw (next, e, v, l)
                    (ap result_err (sym l) ∙ store_word_told env size a off m
                    (record { frame = s.frame; memory = s.memory }))
                | fails k l ↦ rw (next, e, v, l)
                    (ap result_err (sym l) ∙ store_word_told env size a off m
                    (record { frame = s.frame; memory = s.memory }))
              ]
        ]

store_immediate_told : (program : List Insn) (env : Setting) (size : Size) (base : Reg) (off imm : ℤ)
    (s : MachineState) → IsTold program env (i.StoreImm size base off imm) s
store_immediate_told program env size base off imm s =
    elim (bool_case (Next program s)) [
      | no next ↦ rw next refl
      | yes next ↦
          elim (word_case (get s.frame.registers (register_number base))) [
            | unset e ↦ rw (next, e) refl
            | number n e ↦ rw (next, e) refl
            | place region offset e ↦
                elim (int_case (pos offset +ℤ off)) [
                  | is_neg n z ↦ rw (next, e, z) refl
                  | is_pos n z ↦
                      elim (bool_case (nat_le (n + access_bytes size) (region_size env.shape region)))
                      [ yes f ↦ rw (next, e, z, f) refl | no f ↦ rw (next, e, z, f) refl ]
                ]
          ]
    ]

-- ---- calls

helper_told : (program : List Insn) (env : Setting) (id : ℤ) (helper : Helper) (s : MachineState)
    → Next program s ≡ true → helper_of id ≡ Some helper → IsTold program env (i.Call id) s
helper_told program env id Id s next h = rw (next, h) refl
helper_told program env id Coin s next h = rw (next, h) refl
helper_told program env id Recv s next h =
    elim (word_case (get s.frame.registers 1)) [
      | unset e ↦ rw (next, h, e) refl
      | place q n e ↦ rw (next, h, e) refl
      | number n e ↦ elim (bool_case (nat_lt n env.shape.nodes))
          [ yes f ↦ rw (next, h, e, f) refl | no f ↦ rw (next, h, e, f) refl ]
    ]
helper_told program env id Send s next h =
    elim (word_case (get s.frame.registers 1)) [
      | unset e ↦ rw (next, h, e) refl
      | place q n e ↦
          elim (word_case (get s.frame.registers 2)) [
            | unset v ↦ rw (next, h, e, v) refl
            | place r m v ↦ rw (next, h, e, v) refl
            | number m v ↦ rw (next, h, e, v) refl
          ]
      | number n e ↦
          elim (word_case (get s.frame.registers 2)) [
            | unset v ↦ rw (next, h, e, v) refl
            | place r m v ↦ elim (bool_case (nat_lt n env.shape.nodes))
                [ yes f ↦ rw (next, h, e, v, f) refl | no f ↦ rw (next, h, e, v, f) refl ]
            | number m v ↦
                elim (bool_case (nat_lt n env.shape.nodes)) [
                  | no f ↦ rw (next, h, e, v, f) refl
                  | yes f ↦ elim (bool_case (nat_lt m (2 ^ 32)))
                      [ yes g ↦ rw (next, h, e, v, f, g) refl | no g ↦ rw (next, h, e, v, f, g) refl ]
                ]
          ]
    ]

call_told : (program : List Insn) (env : Setting) (id : ℤ) (s : MachineState) → IsTold program env (i.Call id) s
call_told program env id s =
    elim (bool_case (Next program s)) [
      | no next ↦ rw next refl
      | yes next ↦
          elim (helper_case (helper_of id)) [
            | no_helper h ↦ rw (next, h) refl
            | some_helper helper h ↦ helper_told program env id helper s next h
          ]
    ]

-- ---- every form

pub insn_told : (program : List Insn) (env : Setting) (insn : Insn) (s : MachineState)
    → length s.memory ≡ env.shape.memory → IsTold program env insn s
insn_told program env (i.Alu op width dst src) s whole = alu_told program env op width dst src s
insn_told program env (i.Neg width dst) s whole = neg_told program env width dst s
insn_told program env (i.Movsx kind dst src) s whole = movsx_told program env kind dst src s
insn_told program env (i.Swap order bits dst) s whole = swap_told program env order bits dst s
insn_told program env (i.Ja off) s whole = ja_told program env off s
insn_told program env (i.JaLong off) s whole = jal_told program env off s
insn_told program env (i.Branch test width dst src off) s whole = branch_told program env test width dst src off s
insn_told program env (i.Call id) s whole = call_told program env id s
insn_told program env i.Exit s whole = exit_told program env s
insn_told program env (i.Load size dst base off) s whole = load_told program env size dst base off s whole
insn_told program env (i.LoadSx size dst base off) s whole = load_extended_told program env size dst base off s whole
insn_told program env (i.StoreReg size base off src) s whole = store_register_told program env size base off src s
insn_told program env (i.StoreImm size base off imm) s whole = store_immediate_told program env size base off imm s
insn_told program env (i.LoadImm64 dst value) s whole = load_immediate_told program env dst value s
