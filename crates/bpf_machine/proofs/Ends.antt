-- What a complete run leaves: a memory of the shape's length, bytes, and numbers of 32 bits sent to the shape's nodes.
use Rattle.std.proofs.Common.{◌≡◌, ℕ, zero, suc, ◌<◌, List, length, Option, Some, None, Ok, IfOk, All, refl, sym, ap, ◌∙◌, subst}
use Rattle.std.specs.Ordering.{nat_cmp}
use Rattle.std.specs.FinMap.{FinMap}
use Rattle.std.proofs.lemmas.Result.{IfOk-at_ok}
use Rattle.node_env.specs.Env.{Setting, IsSetting, AreNumbers}
use Rattle.bpf_insn.specs.declared.forms.Insn.{Insn}
use Rattle.bpf_insn.specs.declared.forms.Insn.TheVariants as i
use Rattle.bpf_insn.specs.Programs.{insn_at, IsProgram}
use Rattle.bpf_machine.specs.Machine.{MachineState, Phase, Running, Ended, entry}
use Rattle.bpf_machine.specs.Step.{advance, result_of_exit, execute, execute_at, step}
use Rattle.bpf_machine.specs.Run.{Steps, Leads, End, CompleteRun}
use Rattle.bpf_machine.specs.Sound.{IsSound, IsSoundEnd}
use Rattle.bpf_machine.proofs.SoundParts.{after_any}
use Rattle.bpf_machine.proofs.SoundLaws.{entry_sound, step_sound}

-- an end leaves what the state had
abbrev Leaves : MachineState → Phase → Type 0
Leaves s (Running t) = Unit {0}
Leaves s (Ended memory sent r0) = (memory ≡ s.memory) × (sent ≡ s.sent)

leaves : (program : List Insn) (env : Setting) (insn : Insn) (s : MachineState)
    → IfOk (execute program env insn s) (Leaves s)
leaves program env (i.Alu op width dst src) s = after_any (advance program env (i.Alu op width dst src) s) _ (Leaves s)
    (λ t. tt)
leaves program env (i.Neg width dst) s = after_any (advance program env (i.Neg width dst) s) _ (Leaves s) (λ t. tt)
leaves program env (i.Movsx kind dst src) s = after_any (advance program env (i.Movsx kind dst src) s) _ (Leaves s)
    (λ t. tt)
leaves program env (i.Swap order bits dst) s = after_any (advance program env (i.Swap order bits dst) s) _ (Leaves s)
    (λ t. tt)
leaves program env (i.Ja off) s = after_any (advance program env (i.Ja off) s) _ (Leaves s) (λ t. tt)
leaves program env (i.JaLong off) s = after_any (advance program env (i.JaLong off) s) _ (Leaves s) (λ t. tt)
leaves program env (i.Branch cond width dst src off) s = after_any
    (advance program env (i.Branch cond width dst src off) s) _ (Leaves s) (λ t. tt)
leaves program env (i.Call id) s = after_any (advance program env (i.Call id) s) _ (Leaves s) (λ t. tt)
leaves program env i.Exit s = after_any (result_of_exit s.frame) _ (Leaves s) (λ n. (refl, refl))
leaves program env (i.Load size dst base off) s = after_any (advance program env (i.Load size dst base off) s) _
    (Leaves s) (λ t. tt)
leaves program env (i.LoadSx size dst base off) s = after_any (advance program env (i.LoadSx size dst base off) s) _
    (Leaves s) (λ t. tt)
leaves program env (i.StoreReg size base off src) s = after_any
    (advance program env (i.StoreReg size base off src) s) _ (Leaves s) (λ t. tt)
leaves program env (i.StoreImm size base off imm) s = after_any
    (advance program env (i.StoreImm size base off imm) s) _ (Leaves s) (λ t. tt)
leaves program env (i.LoadImm64 dst value) s = after_any (advance program env (i.LoadImm64 dst value) s) _ (Leaves s)
    (λ t. tt)

leaves_at : (program : List Insn) (env : Setting) (found : Option Insn) (s : MachineState)
    → IfOk (execute_at program env found s) (Leaves s)
leaves_at program env None s = tt
leaves_at program env (Some insn) s = leaves program env insn s

step_leaves : (program : List Insn) (env : Setting) (s : MachineState) (memory : List ℕ) (sent : FinMap nat_cmp ℕ)
    (r0 : ℕ) → step program env s ≡ Ok (Ended memory sent r0)
    → (memory ≡ s.memory) × (sent ≡ s.sent)
step_leaves program env s memory sent r0 e = IfOk-at_ok (Leaves s) e
    (leaves_at program env (insn_at program s.frame.slot) s)

ended_stays : (program : List Insn) (env : Setting) (count : ℕ) (m left : List ℕ) (out gone : FinMap nat_cmp ℕ)
    (q0 r0 : ℕ) → Leads program env count (Ended m out q0) (Ended left gone r0)
    → (left ≡ m) × (gone ≡ out)
ended_stays program env zero m left out gone q0 r0 h = let e : Ended left gone r0 ≡ Ended m out q0 = h in (cc, cc)
ended_stays program env (suc count) m left out gone q0 r0 h = absurd h.1

run_leaves : (program : List Insn) (env : Setting) (count : ℕ) (s : MachineState) (end : End) → IsProgram program
    → IsSetting env → IsSound env s
    → Leads program env count (Running s) (Ended end.memory end.sent end.r0) → IsSoundEnd env end
run_leaves program env zero s end proper is sound h = absurd
    (let e : Ended end.memory end.sent end.r0 ≡ Running s = h in cc)
run_leaves program env (suc count) s end proper is sound h = by h.0 h.1 h.2
    (λ t known rest. run_leaves program env count t end proper is known rest)
  where
    by : (mid : Phase) → Steps program env (Running s) mid
        → Leads program env count mid (Ended end.memory end.sent end.r0)
        → ((t : MachineState) → IsSound env t → Leads program env count (Running t) (Ended end.memory end.sent end.r0)
        → IsSoundEnd env end) → IsSoundEnd env end
    by (Running t) goes rest later = later t (step_sound program env s t proper is sound goes) rest
    by (Ended m out q0) goes rest later =
        let kept = step_leaves program env s m out q0 goes in
        let same = ended_stays program env count m end.memory out end.sent q0 end.r0 rest in
        let memory : end.memory ≡ s.memory = same.0 ∙ kept.0 in
        let sent : end.sent ≡ s.sent = same.1 ∙ kept.1 in
        record {
          memory = ap length memory ∙ sound.memory;
          memory_bytes = subst (λ (m : List ℕ). All (λ byte. byte < 256) m) (sym memory) sound.memory_bytes;
          sent = subst (AreNumbers env.shape.nodes) (sym sent) sound.sent;
        }

pub complete_run_leaves : (program : List Insn) (env : Setting) (memory : List ℕ) (end : End) → IsProgram program
    → IsSetting env → length memory ≡ env.shape.memory
    → All (λ byte. byte < 256) memory → CompleteRun program env memory end → IsSoundEnd env end
complete_run_leaves program env memory end proper is whole bytes run =
    run_leaves program env end.steps (entry env memory) end proper is (entry_sound env memory is whole bytes) run
