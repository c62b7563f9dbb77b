-- What a complete run of any instructions leaves, accepted or not: a memory of the shape's length, bytes, and numbers
-- of 32 bits sent to the shape's nodes.
use Rattle.std.proofs.Common.{◌≡◌, ℕ, zero, suc, ◌/◌, ◌%◌, ◌^◌, ◌<◌, Bool, true, false, List, length, Option, Some, None, IfOk, All, nat_lt, ℤ, if◌then◌else◌, slice_set, sym, ◌∙◌, subst, arith, length-set}
use Rattle.std.specs.Int.{w64, cast_unsigned}
use Rattle.std.proofs.lemmas.Bool.{ltb-true}
use Rattle.std.proofs.lemmas.Result.{IfOk-at_ok}
use Rattle.std.proofs.lemmas.List.Elements.{All-set}
use Rattle.node_env.specs.declared.region.Region.{Region}
use Rattle.node_env.specs.declared.region.Region.TheVariants.{Mem, Stack}
use Rattle.node_env.specs.declared.helper.Helper.{Helper}
use Rattle.node_env.specs.declared.helper.Helper.TheVariants.{Id, Recv, Send, Coin}
use Rattle.node_env.specs.Env.{Setting, AreNumbers}
use Rattle.node_env.specs.Helpers.{helper_of}
use Rattle.node_env.proofs.Numbers.{numbers-empty, numbers-insert}
use Rattle.bpf_insn.specs.declared.forms.Reg.{Reg}
use Rattle.bpf_insn.specs.declared.forms.Reg.TheVariants.{R1, R2}
use Rattle.bpf_insn.specs.declared.forms.Size.{Size}
use Rattle.bpf_insn.specs.declared.forms.Insn.{Insn}
use Rattle.bpf_insn.specs.declared.forms.Insn.TheVariants as i
use Rattle.bpf_insn.specs.Programs.{insn_at}
use Rattle.bpf_insn.specs.Operands.{access_bytes, is_exit}
use Rattle.bpf_insn.specs.Arithmetic.{neg_result, movsx_result, swap_result}
use Rattle.bpf_machine.specs.declared.word.Word.{Word}
use Rattle.bpf_machine.specs.declared.word.Word.TheVariants.{Num, Ptr}
use Rattle.bpf_machine.specs.declared.word.TrapKind.TheVariants.{BadHelper, BadArgument}
use Rattle.bpf_machine.specs.Machine.{MachineState, Phase, Running, Ended, entry}
use Rattle.bpf_machine.specs.Step.{needed, word_of, place, Bytes, bytes_of, with_number, stored, store, keep, store_word, store_register, store_immediate, Calls, calls_of, below, call_helper, call, alu, change, load, load_extended, load_immediate, next_slot, effect, advance, result_of_exit, going_on, ended_by, execute_at}
use Rattle.bpf_machine.specs.Run.{Steps, Leads, End, CompleteRun}
use Rattle.bpf_machine.specs.Sound.{IsSoundEnd}
use Rattle.bpf_machine.proofs.SoundParts.{then_ok, after_any, tested_ok, AreBytes}

-- ---- stores

put_number : (count k n size : ℕ) (memory : List ℕ) → AreBytes size memory
    → AreBytes size (with_number slice_set memory k count n)
put_number zero k n size memory bytes = bytes
put_number (suc count) k n size memory bytes =
    put_number count (suc k) (n / 256) size (slice_set memory k (n % 256))
    (record {
      count = length-set memory k (n % 256) ∙ bytes.count;
      each = All-set (λ b. b < 256) memory k (n % 256) (omega arith) bytes.each;
    })

abbrev HasBytes : ℕ → Bytes → Type 0
HasBytes size b = AreBytes size b.memory

stored_bytes : (size : ℕ) (b : Bytes) (region : Region) (k count n : ℕ) → HasBytes size b
    → HasBytes size (stored b region k count n)
stored_bytes size b Mem k count n bytes = put_number count k n size b.memory bytes
stored_bytes size b Stack k count n bytes = bytes

store_bytes : (env : Setting) (width : Size) (base : Word) (off : ℤ) (n size : ℕ) (b : Bytes) → HasBytes size b
    → IfOk (store env width base off n b) (HasBytes size)
store_bytes env width base off n size b bytes =
    after_any (place env base off (access_bytes width)) _ (HasBytes size)
    (λ at. stored_bytes size b at.0 at.1 (access_bytes width) n bytes)

store_word_bytes : (env : Setting) (width : Size) (base : Word) (off : ℤ) (value : Word) (size : ℕ) (b : Bytes)
    → HasBytes size b → IfOk (store_word env width base off value b) (HasBytes size)
store_word_bytes env width base off (Num n) size b bytes = store_bytes env width base off n size b bytes
store_word_bytes env width base off (Ptr region offset) size b bytes =
    after_any (keep base off (access_bytes width) (Ptr region offset) b.frame) _ (HasBytes size) (λ frame. bytes)

store_register_bytes : (env : Setting) (width : Size) (base : Reg) (off : ℤ) (src : Reg) (size : ℕ) (b : Bytes)
    → HasBytes size b → IfOk (store_register env width base off src b) (HasBytes size)
store_register_bytes env width base off src size b bytes =
    after_any (word_of b.frame base) _ (HasBytes size) (λ a.
    after_any (word_of b.frame src) _ (HasBytes size)
    (λ value. store_word_bytes env width a off value size b bytes))

store_immediate_bytes : (env : Setting) (width : Size) (base : Reg) (off imm : ℤ) (size : ℕ) (b : Bytes)
    → HasBytes size b → IfOk (store_immediate env width base off imm b) (HasBytes size)
store_immediate_bytes env width base off imm size b bytes =
    after_any (word_of b.frame base) _ (HasBytes size)
    (λ a. store_bytes env width a off (cast_unsigned w64 imm) size b bytes)

-- ---- helpers

abbrev HasNumbers : ℕ → Calls → Type 0
HasNumbers nodes c = AreNumbers nodes c.sent

below_limit : (limit : ℕ) (word : Word) → IfOk (below limit word) (λ n. n < limit)
below_limit limit (Num n) = tested_ok (nat_lt n limit) n BadArgument (λ n. n < limit) (λ t. ltb-true n limit t)
below_limit limit (Ptr region offset) = tt

helper_numbers : (env : Setting) (helper : Helper) (c : Calls) → HasNumbers env.shape.nodes c
    → IfOk (call_helper env helper c) (HasNumbers env.shape.nodes)
helper_numbers env Id c sent = sent
helper_numbers env Recv c sent =
    after_any (word_of c.frame R1) _ (HasNumbers env.shape.nodes) (λ a.
    after_any (below env.shape.nodes a) _ (HasNumbers env.shape.nodes) (λ sender. sent))
helper_numbers env Send c sent =
    after_any (word_of c.frame R1) _ (HasNumbers env.shape.nodes) (λ a.
    after_any (word_of c.frame R2) _ (HasNumbers env.shape.nodes) (λ b.
    then_ok (below env.shape.nodes a) _ (λ receiver. receiver < env.shape.nodes) (HasNumbers env.shape.nodes)
    (below_limit env.shape.nodes a) (λ receiver node.
    then_ok (below (2 ^ 32) b) _ (λ value. value < 2 ^ 32) (HasNumbers env.shape.nodes) (below_limit (2 ^ 32) b)
    (λ value small. numbers-insert env.shape.nodes c.sent receiver value node small sent))))
helper_numbers env Coin c sent = sent

call_numbers : (env : Setting) (id : ℤ) (c : Calls) → HasNumbers env.shape.nodes c
    → IfOk (call env id c) (HasNumbers env.shape.nodes)
call_numbers env id c sent =
    after_any (needed BadHelper (helper_of id)) _ (HasNumbers env.shape.nodes)
    (λ helper. helper_numbers env helper c sent)

-- ---- steps

abbrev Fits : Setting → MachineState → Type 0
Fits env s = AreBytes env.shape.memory s.memory × AreNumbers env.shape.nodes s.sent

effect_fits : (env : Setting) (insn : Insn) (s : MachineState) → Fits env s → IfOk (effect env insn s) (Fits env)
effect_fits env (i.Alu op width dst src) s fits =
    after_any (alu env op width dst src s.frame) _ (Fits env) (λ frame. fits)
effect_fits env (i.Neg width dst) s fits =
    after_any (change (neg_result width) dst dst s.frame) _ (Fits env) (λ frame. fits)
effect_fits env (i.Movsx kind dst src) s fits =
    after_any (change (movsx_result kind) dst src s.frame) _ (Fits env) (λ frame. fits)
effect_fits env (i.Swap order bits dst) s fits =
    after_any (change (swap_result order bits) dst dst s.frame) _ (Fits env) (λ frame. fits)
effect_fits env (i.Ja off) s fits = fits
effect_fits env (i.JaLong off) s fits = fits
effect_fits env (i.Branch cond width dst src off) s fits = fits
effect_fits env (i.Call id) s fits =
    then_ok (call env id (calls_of s.frame s.sent)) _ (HasNumbers env.shape.nodes) (Fits env)
    (call_numbers env id (calls_of s.frame s.sent) fits.1) (λ c sent. (fits.0, sent))
effect_fits env i.Exit s fits = fits
effect_fits env (i.Load size dst base off) s fits =
    after_any (load env size dst base off s.memory s.frame) _ (Fits env) (λ frame. fits)
effect_fits env (i.LoadSx size dst base off) s fits =
    after_any (load_extended env size dst base off s.memory s.frame) _ (Fits env) (λ frame. fits)
effect_fits env (i.StoreReg size base off src) s fits =
    then_ok (store_register env size base off src (bytes_of s.frame s.memory)) _ (HasBytes env.shape.memory) (Fits env)
    (store_register_bytes env size base off src env.shape.memory (bytes_of s.frame s.memory) fits.0)
    (λ b bytes. (bytes, fits.1))
effect_fits env (i.StoreImm size base off imm) s fits =
    then_ok (store_immediate env size base off imm (bytes_of s.frame s.memory)) _ (HasBytes env.shape.memory) (Fits env)
    (store_immediate_bytes env size base off imm env.shape.memory (bytes_of s.frame s.memory) fits.0)
    (λ b bytes. (bytes, fits.1))
effect_fits env (i.LoadImm64 dst value) s fits =
    after_any (load_immediate dst value s.frame) _ (Fits env) (λ frame. fits)

advance_fits : (program : List Insn) (env : Setting) (insn : Insn) (s : MachineState) → Fits env s
    → IfOk (advance program env insn s) (Fits env)
advance_fits program env insn s fits =
    after_any (next_slot program insn s.frame) _ (Fits env) (λ slot.
    then_ok (effect env insn s) _ (Fits env) (Fits env) (effect_fits env insn s fits) (λ t after. after))

abbrev FitsAt : Setting → Phase → Type 0
FitsAt env (Running s) = Fits env s
FitsAt env (Ended memory sent r0) = AreBytes env.shape.memory memory × AreNumbers env.shape.nodes sent

execute_fits : (program : List Insn) (env : Setting) (insn : Insn) (s : MachineState) (b : Bool) → Fits env s
    → IfOk (if b then ended_by s (result_of_exit s.frame) else going_on (advance program env insn s)) (FitsAt env)
execute_fits program env insn s true fits = after_any (result_of_exit s.frame) _ (FitsAt env) (λ n. fits)
execute_fits program env insn s false fits =
    then_ok (advance program env insn s) _ (Fits env) (FitsAt env) (advance_fits program env insn s fits)
    (λ t after. after)

execute_at_fits : (program : List Insn) (env : Setting) (found : Option Insn) (s : MachineState) → Fits env s
    → IfOk (execute_at program env found s) (FitsAt env)
execute_at_fits program env None s fits = tt
execute_at_fits program env (Some insn) s fits = execute_fits program env insn s (is_exit insn) fits

steps_fit : (program : List Insn) (env : Setting) (x y : Phase) → FitsAt env x → Steps program env x y → FitsAt env y
steps_fit program env (Running s) y fits goes = IfOk-at_ok (FitsAt env) goes
    (execute_at_fits program env (insn_at program s.frame.slot) s fits)
steps_fit program env (Ended memory sent r0) y fits goes = absurd goes

leads_fit : (program : List Insn) (env : Setting) (count : ℕ) (x y : Phase) → FitsAt env x
    → Leads program env count x y → FitsAt env y
leads_fit program env zero x y fits h = subst (FitsAt env) (sym h) fits
leads_fit program env (suc count) x y fits h =
    leads_fit program env count h.0 y (steps_fit program env x h.0 fits h.1) h.2

pub any_run_leaves : (program : List Insn) (env : Setting) (memory : List ℕ) (end : End)
    → length memory ≡ env.shape.memory → All (λ byte. byte < 256) memory → CompleteRun program env memory end
    → IsSoundEnd env end
any_run_leaves program env memory end whole bytes run =
    let start : FitsAt env (Running (entry env memory)) =
    (record { count = whole; each = bytes }, numbers-empty env.shape.nodes) in
    let left : FitsAt env (Ended end.memory end.sent end.r0) =
    leads_fit program env end.steps (Running (entry env memory)) (Ended end.memory end.sent end.r0) start run in
    record { memory = left.0.count; memory_bytes = left.0.each; sent = left.1 }
