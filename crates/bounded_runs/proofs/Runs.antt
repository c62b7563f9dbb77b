-- Runs from alike inputs.
use Rattle.std.proofs.Common.{◌≡◌, ℕ, zero, suc, ◌+◌, ◌%◌, ◌^◌, ◌<◌, Bool, true, false, List, [], ◌∷◌, Option, Some, None, Result, Ok, Err, length, get_or, ◌/◌, All, if◌then◌else◌, refl, sym, ◌∙◌, subst, ap, arith}
use Rattle.std.specs.Prelude.{slice_get, slice_index, unwrap_or}
use Rattle.std.proofs.lemmas.List.{ext_get_or}
use Rattle.std.proofs.lemmas.Option.{unwrap_or-slice_get}
use Rattle.std.specs.FinMap.{get}
use Rattle.node_env.specs.declared.env.TheConstants.{NO_MAIL}
use Rattle.node_env.specs.Env.{IsSetting, Setting, received}
use Rattle.bpf_insn.specs.declared.forms.Insn.{Insn}
use Rattle.bpf_insn.specs.declared.forms.Insn.TheVariants.{Exit}
use Rattle.bpf_insn.specs.declared.forms.Reg.TheVariants.{R0}
use Rattle.bpf_insn.specs.Programs.{insn_at}
use Rattle.bpf_machine.specs.Machine.{Ended, MachineState, Phase, Running, entry}
use Rattle.bpf_machine.specs.Run.{CompleteRun, End, Leads, Steps}
use Rattle.bpf_machine.specs.declared.word.Word.{Word}
use Rattle.bpf_machine.specs.declared.word.TrapKind.{TrapKind}
use Rattle.bpf_machine.specs.declared.word.TrapKind.TheVariants.{ExitNotNumber}
use Rattle.bpf_machine.specs.Step.{◌>>=◌, ended_by, execute_at, number_in, result_of_exit, step}
use Rattle.bpf_machine.proofs.Composed.{leads_add}
use Rattle.bpf_run.proofs.Alike.{alike_ok}
use Rattle.bounded_runs.specs.declared.marks.Marks.{Marks}
use Rattle.bounded_runs.specs.Bounded.{AreAlikeInputs, Bound, EndsAsOne, EndsByMemory, StayInKept, end_keeping, memory_keeping}
use Rattle.bounded_runs.specs.inner.Marks.{AreMarksOf, has_mark, marks_after}
use Rattle.bounded_runs.specs.inner.Similar.{AreSimilar, AreSimilarMemories, AreFollowed}
use Rattle.bounded_runs.proofs.Keeping.{at_keeping, length-keeping}
use Rattle.bounded_runs.proofs.Similar.{word_same}
use Rattle.bounded_runs.proofs.Parts.{with_inbox}
use Rattle.bounded_runs.proofs.Calls.{AreHeard}
use Rattle.bounded_runs.proofs.Entry.{entry_similar}
use Rattle.bounded_runs.proofs.Steps.{PhasesSimilar, step_similar}

-- ---- inputs

-- of alike inputs only inbox and memory differ
alike_env : (bound : Bound) (env other : Setting) (before start : List ℕ) → AreAlikeInputs bound env other before start
    → other ≡ with_inbox env other.inbox
alike_env bound env other before start alike = rw (sym alike.shape, sym alike.id, sym alike.coin) refl

received_small : (env : Setting) (j : ℕ) → IsSetting env → received env j < 2 ^ 32
received_small env j ok = by (get env.inbox j) refl
  where
    by : (o : Option ℕ) → get env.inbox j ≡ o → unwrap_or o NO_MAIL < 2 ^ 32
    by None e = omega arith
    by (Some v) e = (ok.mail j v e).1

heard : (bound : Bound) (env other : Setting) (before start : List ℕ) → IsSetting env → IsSetting other
    → AreAlikeInputs bound env other before start → AreHeard bound.number env (with_inbox env other.inbox)
heard bound env other before start ok good alike = record {
  alike = alike.messages;
  mine = λ j. received_small env j ok;
  theirs = λ j. received_small other j good;
}

-- ---- the beginning

pub begins_followed : (program : List Insn) (bound : Bound) (env : Setting) (before : List ℕ) (m : Marks)
    → IsSetting env → length m.registers ≡ 11 → ((n : ℕ) → has_mark m.registers n ≡ false)
    → AreMarksOf bound m.bytes before → length before % 4 ≡ 0 → All (λ byte. byte < 256) before
    → AreFollowed program bound env before 0 (entry env before) m
begins_followed program bound env before m ok wide plain marks whole mine other start good theirs alike = (
  entry other start,
  refl,
  subst (λ (e : Setting). AreSimilar bound start m (entry env before) (entry e start))
      (sym (alike_env bound env other before start alike))
      (entry_similar bound m env other.inbox before start wide plain marks whole mine theirs alike.memories),
)

-- ---- a step

running : (bound : Bound) (begun : List ℕ) (m : Marks) (s : MachineState) (p : Phase)
    → PhasesSimilar bound begun m (Running s) p
    → (t : MachineState) × (p ≡ Running t) × AreSimilar bound begun m s t
running bound begun m s (Running t) similar = (t, refl, similar)
running bound begun m s (Ended memory sent r0) similar = absurd similar

-- one step more
leads_next : (program : List Insn) (env : Setting) (count : ℕ) (s t u : Phase) → Leads program env count s t
    → Steps program env t u → Leads program env (count + 1) s u
leads_next program env count s t u runs next = leads_add program env count 1 s t u runs (u, next, refl)

pub step_followed : (program : List Insn) (bound : Bound) (env : Setting) (before : List ℕ) (count : ℕ)
    (s u : MachineState) (m next : Marks) (insn : Insn) → IsSetting env → insn_at program s.frame.slot ≡ Some insn
    → marks_after bound env s.frame insn m ≡ Some next → Steps program env (Running s) (Running u)
    → AreFollowed program bound env before count s m → AreFollowed program bound env before (count + 1) u next
step_followed program bound env before count s u m next insn ok at marks goes followed other start good bytes alike =
    let there = followed other start good bytes alike in
    let t = there.0 in
    let same = alike_env bound env other before start alike in
    let both = step_similar program env other.inbox bound start m next insn s t
    (heard bound env other before start ok good alike) at marks there.2 in
    let found = alike_ok (PhasesSimilar bound start next) (step program env s)
    (step program (with_inbox env other.inbox) t) (Running u) goes both in
    let v = running bound start next u found.0 found.2 in
    let taken : Steps program other (Running t) (Running v.0) =
    subst (λ (e : Setting). step program e t ≡ Ok (Running v.0)) (sym same) (found.1 ∙ ap Ok v.1) in
    (v.0, leads_next program other count (Running (entry other start)) (Running t) (Running v.0) there.1 taken, v.2)

-- ---- the end

byte_same : (l m : List ℕ) (p : ℕ) → slice_get l p ≡ slice_get m p → get_or l p 0 ≡ get_or m p 0
byte_same l m p same =
    sym (unwrap_or-slice_get l p 0) ∙ (ap (λ (o : Option ℕ). unwrap_or o 0) same ∙ unwrap_or-slice_get m p 0)

-- the memory that is left: marked bytes are as when the run began
memory_left : (bound : Bound) (begun : List ℕ) (bytes : List Bool) (m l : List ℕ)
    → AreSimilarMemories bound begun bytes m l → l ≡ memory_keeping (has_mark bytes) 0 m begun
memory_left bound begun bytes m l similar =
    ext_get_or 0 l (memory_keeping (has_mark bytes) 0 m begun)
    (sym similar.size ∙ sym (length-keeping (has_mark bytes) 0 m begun))
    (λ p lt. by p (has_mark bytes p) refl
    ∙ sym (at_keeping (has_mark bytes) 0 m begun p p (omega (arith, lt, similar.size)) (omega arith)))
  where
    by : (p : ℕ) (b : Bool) → has_mark bytes p ≡ b
        → get_or l p 0 ≡ (if has_mark bytes p then slice_index begun p else get_or m p 0)
    by p true e = rw e (byte_same l begun p (similar.stays p e))
    by p false e = rw e (byte_same l m p (sym (similar.plain p e)))

exit_number : (s : MachineState) (r : Result ℕ TrapKind) (r0 : ℕ) → ended_by s r ≡ Ok (Ended s.memory s.sent r0)
    → r ≡ Ok r0
exit_number s (Ok n) r0 e =
    let same : Ended s.memory s.sent n ≡ Ended s.memory s.sent r0 = cc in
    let number : n ≡ r0 = cc in
    ap Ok number
exit_number s (Err trap) r0 e = cc

-- the end of the first run
abbrev end_at : MachineState → ℕ → ℕ → End
end_at s steps r0 = record { steps = steps; memory = s.memory; sent = s.sent; r0 = r0 }

-- where the run ends and r0 isn't marked, the others end so, with their own marked bytes
all_end : (program : List Insn) (bound : Bound) (env : Setting) (before : List ℕ) (count r0 : ℕ) (s : MachineState)
    (m : Marks) → insn_at program s.frame.slot ≡ Some Exit → has_mark m.registers 0 ≡ false
    → Steps program env (Running s) (Ended s.memory s.sent r0)
    → AreFollowed program bound env before count s m → (other : Setting) (start : List ℕ) → IsSetting other
    → All (λ byte. byte < 256) start → AreAlikeInputs bound env other before start
    → CompleteRun program other start (end_keeping (has_mark m.bytes) (end_at s (count + 1) r0) start)
all_end program bound env before count r0 s m at plain ends followed other start good bytes alike =
    let there = followed other start good bytes alike in
    leads_next program other count (Running (entry other start)) (Running there.0)
    (Ended (memory_keeping (has_mark m.bytes) 0 s.memory start) s.sent r0) there.1 (exits there.0 other start there.2)
  where
    exits : (t : MachineState) (e : Setting) (start : List ℕ) → AreSimilar bound start m s t
        → step program e t ≡ Ok (Ended (memory_keeping (has_mark m.bytes) 0 s.memory start) s.sent r0)
    exits t e start similar =
        let word = word_same bound.number m.registers s.frame t.frame R0 similar.frame plain in
        let memory = memory_left bound start m.bytes s.memory t.memory similar.memory in
        let there : insn_at program t.frame.slot ≡ Some Exit = ap (insn_at program) (sym similar.frame.slot) ∙ at in
        let mine : ended_by s (result_of_exit s.frame) ≡ Ok (Ended s.memory s.sent r0) =
        ap (λ (o : Option Insn). execute_at program env o s) (sym at) ∙ ends in
        let number : result_of_exit t.frame ≡ Ok r0 =
        ap (λ (r : Result Word TrapKind). r >>= λ a. number_in ExitNotNumber a) (sym word)
        ∙ exit_number s (result_of_exit s.frame) r0 mine in
        rw (there, number, sym memory, similar.sent) refl

pub end_by_memory : (program : List Insn) (bound : Bound) (env : Setting) (before : List ℕ) (count r0 : ℕ)
    (s : MachineState) (m : Marks) → insn_at program s.frame.slot ≡ Some Exit → has_mark m.registers 0 ≡ false
    → Steps program env (Running s) (Ended s.memory s.sent r0)
    → AreFollowed program bound env before count s m → EndsByMemory program bound env before
end_by_memory program bound env before count r0 s m at plain ends followed = (
  λ start. end_keeping (has_mark m.bytes) (end_at s (count + 1) r0) start,
  all_end program bound env before count r0 s m at plain ends followed,
)

-- if the marked bytes are in kept words, they end as one
pub end_as_one : (program : List Insn) (bound : Bound) (env : Setting) (before : List ℕ) (count r0 : ℕ)
    (s : MachineState) (m : Marks) → insn_at program s.frame.slot ≡ Some Exit → has_mark m.registers 0 ≡ false
    → StayInKept bound.kept (length s.memory) (has_mark m.bytes)
    → Steps program env (Running s) (Ended s.memory s.sent r0)
    → AreFollowed program bound env before count s m → EndsAsOne program bound env before
end_as_one program bound env before count r0 s m at plain among ends followed = (
  end_at s (count + 1) r0,
  has_mark m.bytes,
  among,
  all_end program bound env before count r0 s m at plain ends followed,
)
