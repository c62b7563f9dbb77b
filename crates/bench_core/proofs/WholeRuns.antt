-- Each run in a pulse is a complete run of an accepted program, within its budget.
use Rattle.std.proofs.Common.{◌≡◌, ℕ, zero, suc, ◌<◌, List, [], length, Option, Some, MatchOption, IfSome, sym, ap, subst}
use Rattle.std.specs.Prelude.{unwrap_or}
use Rattle.std.specs.Ordering.{nat_cmp}
use Rattle.std.specs.FinMap.{FinMap}
use Rattle.node_env.specs.Env.{Setting}
use Rattle.bpf_insn.specs.declared.forms.Insn.{Insn}
use Rattle.bpf_machine.specs.Machine.{MachineState, Phase, Running, Ended, entry}
use Rattle.bpf_machine.specs.Run.{CompleteRun, End, HasNoSuccessor, Leads, RunsTo, Steps}
use Rattle.bpf_machine.proofs.OneRun.{one_step}
use Rattle.bpf_verify.specs.Accepted.{Accepted, IsVerified}
use Rattle.bpf_verify.specs.Typable.{Typable}
use Rattle.bpf_run.proofs.Runs.{within_longest, run_ends}
use Rattle.bench_core.specs.Setup.{Setup, IsSetup}
use Rattle.bench_core.specs.State.{State, new_state, node_at, mail_from, setting_at, coins_of}
use Rattle.bench_core.specs.Pulse.{Runs, Rests, Pulse}
use Rattle.bench_core.specs.StepList.{entries_of}
use Rattle.bench_core.specs.Headline.{EveryRun, EachEnds, IsWhole}
use Rattle.bench_core.proofs.Acceptance.{HasAccepted, accepted_replay, program_is}
use Rattle.bench_core.proofs.Sound.{Sound, IsShaped, sound_replay, is_setting}
use Rattle.bench_core.proofs.Replays.{steps_are_entries}

-- a state on the way to an end has a next one
on_the_way : (program : List Insn) (env : Setting) (count steps : ℕ) (x : Phase) (s : MachineState) (m : List ℕ)
    (out : FinMap nat_cmp ℕ) (r0 : ℕ)
    → Leads program env count x (Running s) → Leads program env steps x (Ended m out r0) → HasNoSuccessor program env s
    → ⊥
on_the_way program env zero zero x s m out r0 h g last = absurd cc
on_the_way program env zero (suc steps) x s m out r0 h g last =
    last g.0 (subst (λ (p : Phase). Steps program env p g.0) (sym h) g.1)
on_the_way program env (suc count) zero x s m out r0 h g last =
    subst (λ (p : Phase). Steps program env p h.0) (sym g) h.1
on_the_way program env (suc count) (suc steps) x s m out r0 h g last =
    let same : h.0 ≡ g.0 = one_step program env x h.0 g.0 h.1 g.1 in
    on_the_way program env count steps g.0 s m out r0
    (subst (λ (p : Phase). Leads program env count p (Running s)) same h.2) g.2 last

-- from a state that a history leads to
pub whole_run : (s : Setup) (b b' : State) (i : ℕ) (p : Accepted) → IsSetup s → Sound s b → HasAccepted b
    → Pulse s b b' → i < s.shape.nodes → (node_at b.nodes i).program ≡ Some p
    → (end : End) × IsWhole s b b' i p end
whole_run s b b' i p ok sound has pulse lt loaded =
    let within : i < length b.nodes = rw sound.nodes lt in
    let env = setting_at s b.mail pulse.coins i in
    let memory = (node_at b.nodes i).memory in
    let fit : IsVerified p = program_is b i p has loaded in
    let shape : IsShaped s.shape p = subst (λ (o : Option Accepted). IfSome o (IsShaped s.shape)) loaded
    (sound.programs i lt) in
    let runs : Runs s p env (node_at b.nodes i) (node_at b'.nodes i) (mail_from b'.mail i) =
    subst (λ (o : Option Accepted). MatchOption o (Rests (node_at b.nodes i) (node_at b'.nodes i) (mail_from b'.mail i))
    (λ q. Runs s q env (node_at b.nodes i) (node_at b'.nodes i) (mail_from b'.mail i))) loaded
    (pulse.each i within).1 in
    let coins : coins_of b ≡ pulse.coins = ap (λ (o : Option (List ℕ)). unwrap_or o []) pulse.is_open in
    let is = is_setting s b pulse.coins i ok sound pulse.is_open lt in
    let whole = sound.memories i lt in
    let typable : Typable p.program env.shape = subst (Typable p.program) shape fit.typable in (
      runs.end,
      record {
        run = subst (λ (cs : List ℕ). CompleteRun p.program (setting_at s b.mail cs i) memory runs.end)
            (sym coins) runs.run;
        unstuck = λ count state there none.
            on_the_way p.program env count runs.end.steps (Running (entry env memory)) state runs.end.memory
            runs.end.sent runs.end.r0
            (subst (λ (cs : List ℕ). RunsTo p.program (setting_at s b.mail cs i) memory count state) coins there)
            runs.run (subst (λ (cs : List ℕ). HasNoSuccessor p.program (setting_at s b.mail cs i) state) coins none);
        within = within_longest p.program env memory runs.end p.budget fit.program is typable fit.longest whole.length
            whole.bytes runs.run;
        announced = fit.longest;
        memory = runs.memory;
        sends = runs.sends;
      },
    )

pub every_run : EveryRun
every_run s acts b b' i p ok h are pulse lt loaded =
    let replay = steps_are_entries s (new_state s) acts b h in
    whole_run s b b' i p ok (sound_replay s (entries_of acts) b ok replay)
    (accepted_replay s (entries_of acts) b are replay) pulse lt loaded

pub each_ends : EachEnds
each_ends s acts b coins i p ok h are is_open lt loaded =
    let replay = steps_are_entries s (new_state s) acts b h in
    let sound = sound_replay s (entries_of acts) b ok replay in
    let has = accepted_replay s (entries_of acts) b are replay in
    let env = setting_at s b.mail coins i in
    let memory = (node_at b.nodes i).memory in
    let fit : IsVerified p = program_is b i p has loaded in
    let shape : IsShaped s.shape p = subst (λ (o : Option Accepted). IfSome o (IsShaped s.shape)) loaded
    (sound.programs i lt) in
    let is = is_setting s b coins i ok sound is_open lt in
    let whole = sound.memories i lt in
    let typable : Typable p.program env.shape = subst (Typable p.program) shape fit.typable in
    let run = run_ends p.program env memory p.budget fit.program is typable fit.longest whole.length whole.bytes in (
      run.0,
      record { program = p; node = lt; loaded = loaded; run = run.1 },
      within_longest p.program env memory run.0 p.budget fit.program is typable fit.longest whole.length whole.bytes
          run.1,
    )
