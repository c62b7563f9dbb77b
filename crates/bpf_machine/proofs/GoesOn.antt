-- A run that goes on from a state with some fuel: from the entry it is a whole run, and for one step that step.
use Rattle.std.proofs.Common.{◌≡◌, ℕ, zero, suc, ◌+◌, ◌<◌, List, sym, subst, arith}
use Rattle.std.specs.FinMap.{FinMap, empty}
use Rattle.std.specs.Ordering.{nat_cmp}
use Rattle.node_env.specs.Env.{Setting}
use Rattle.bpf_insn.specs.declared.forms.Insn.{Insn}
use Rattle.bpf_machine.specs.declared.word.TrapKind.{TrapKind}
use Rattle.bpf_machine.specs.declared.word.Turn.{Turn}
use Rattle.bpf_machine.specs.declared.word.Turn.TheVariants as turn
use Rattle.bpf_machine.specs.declared.word.Outcome.TheVariants as outcome
use Rattle.bpf_machine.specs.Machine.{Frame, MachineState, Phase, Running, entry, entry_frame, state_of}
use Rattle.bpf_machine.specs.Run.{Steps, Leads, RunAnswers, Turns}
use Rattle.bpf_machine.specs.inner.Parts.{WentOn}
use Rattle.bpf_machine.proofs.RunSteps.{ended_answers, fuel_answers, leads_more, trap_answers}

pub goes_further : (program : List Insn) (env : Setting) (taken : ℕ) (start old new : MachineState)
    → Leads program env taken (Running start) (Running old) → Turns program env old new turn.Next
    → Leads program env (taken + 1) (Running start) (Running new)
goes_further program env taken start old new there turns =
    leads_more program env taken (Running start) old (Running new) there turns

pub ends_there : (program : List Insn) (env : Setting) (fuel taken r0 : ℕ) (start old new : MachineState)
    → taken < fuel → Leads program env taken (Running start) (Running old)
    → Turns program env old new (turn.Ended r0) → WentOn program env fuel start new taken (turn.Ended r0)
ends_there program env fuel taken r0 start old new more there turns = (
  more,
  subst (λ s. Leads program env taken (Running start) (Running s)) (sym turns.1) there,
  subst (λ s. Turns program env s new (turn.Ended r0)) (sym turns.1) turns,
)

pub stuck_there : (program : List Insn) (env : Setting) (fuel taken : ℕ) (kind : TrapKind)
    (start old new : MachineState) → taken < fuel → Leads program env taken (Running start) (Running old)
    → Turns program env old new (turn.Trap kind) → WentOn program env fuel start new taken (turn.Trap kind)
stuck_there program env fuel taken kind start old new more there turns = (
  more,
  subst (λ s. Leads program env taken (Running start) (Running s)) (sym turns.1) there,
  subst (λ s. Turns program env s new (turn.Trap kind)) (sym turns.1) turns,
)

-- where a run begins
pub enters : (env : Setting) (memory : List ℕ) (frame : Frame) (sent : FinMap nat_cmp ℕ) → frame ≡ entry_frame env
    → sent ≡ empty → state_of frame memory sent ≡ entry env memory
enters env memory frame sent at_entry none = cc

went_from_entry : (program : List Insn) (env : Setting) (memory : List ℕ) (fuel taken : ℕ) (start new : MachineState)
    (given answer : Turn) → start ≡ entry env memory → given ≡ answer
    → WentOn program env fuel start new taken given → WentOn program env fuel (entry env memory) new taken answer
went_from_entry program env memory fuel taken start new given answer enters is went =
    subst (λ t. WentOn program env fuel (entry env memory) new taken t) is
    (subst (λ s. WentOn program env fuel s new taken given) enters went)

pub run_ends : (program : List Insn) (env : Setting) (memory : List ℕ) (fuel taken r0 : ℕ)
    (start new : MachineState) (given : Turn) → start ≡ entry env memory → given ≡ turn.Ended r0
    → WentOn program env fuel start new taken given
    → RunAnswers program env memory fuel new.memory new.sent (outcome.Ended r0 (taken + 1))
run_ends program env memory fuel taken r0 start new given enters is went =
    let here = went_from_entry program env memory fuel taken start new given (turn.Ended r0) enters is went in
    ended_answers program env memory taken fuel r0 new new here.0 here.1 here.2

pub run_is_stuck : (program : List Insn) (env : Setting) (memory : List ℕ) (fuel taken : ℕ) (kind : TrapKind)
    (start new : MachineState) (given : Turn) → start ≡ entry env memory → given ≡ turn.Trap kind
    → WentOn program env fuel start new taken given
    → RunAnswers program env memory fuel new.memory new.sent (outcome.Trap new.frame.slot kind)
run_is_stuck program env memory fuel taken kind start new given enters is went =
    let here = went_from_entry program env memory fuel taken start new given (turn.Trap kind) enters is went in
    trap_answers program env memory taken fuel kind new new here.0 here.1 here.2

pub run_is_out_of_fuel : (program : List Insn) (env : Setting) (memory : List ℕ) (fuel taken : ℕ)
    (start new : MachineState) (given : Turn) → start ≡ entry env memory → given ≡ turn.Next
    → WentOn program env fuel start new taken given
    → RunAnswers program env memory fuel new.memory new.sent outcome.OutOfFuel
run_is_out_of_fuel program env memory fuel taken start new given enters is went =
    let here = went_from_entry program env memory fuel taken start new given turn.Next enters is went in
    fuel_answers program env memory fuel new
    (subst (λ n. Leads program env n (Running (entry env memory)) (Running new)) here.0 here.1)

-- nothing was taken, so the state is the one from which it went on
stays : (program : List Insn) (env : Setting) (taken : ℕ) (old new : MachineState) → taken < 1
    → Leads program env taken (Running old) (Running new) → old ≡ new
stays program env zero old new less there = cc
stays program env (suc taken) old new less there = absurd (omega arith)

pub one_turn : (program : List Insn) (env : Setting) (old new : MachineState) (taken : ℕ) (answer : Turn)
    → WentOn program env 1 old new taken answer → Turns program env old new answer
one_turn program env old new taken turn.Next went =
    let once : Leads program env 1 (Running old) (Running new) =
    subst (λ n. Leads program env n (Running old) (Running new)) went.0 went.1 in
    subst (λ (p : Phase). Steps program env (Running old) p) (sym once.2) once.1
one_turn program env old new taken (turn.Ended r0) went =
    subst (λ s. Turns program env s new (turn.Ended r0)) (sym (stays program env taken old new went.0 went.1)) went.2
one_turn program env old new taken (turn.Trap kind) went =
    subst (λ s. Turns program env s new (turn.Trap kind)) (sym (stays program env taken old new went.0 went.1)) went.2
