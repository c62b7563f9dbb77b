-- The steps that a trace tells (docs/COMMANDS.md, "A trace").
use Rattle.std.specs.Prelude.{ℕ, zero, suc, List, [], ◌∷◌, Result, Ok, Err}
use Rattle.node_env.specs.Env.{Setting}
use Rattle.bpf_insn.specs.declared.forms.Insn.{Insn}
use Rattle.bpf_machine.specs.declared.word.TrapKind.{TrapKind}
use Rattle.bpf_machine.specs.Machine.{MachineState, Phase, Running, Ended, entry}
use Rattle.bpf_machine.specs.Step.{step}

-- a state, and what its step gives: where that leads, or the trap
pub record TracedStep : Type 0 where
  pub state : MachineState
  pub gives : Result Phase TrapKind

abbrev pub step_at : List Insn → Setting → MachineState → TracedStep
step_at program env s = record { state = s; gives = step program env s }

-- what follows a step: nothing after an end or a trap
abbrev pub followed_by : Result Phase TrapKind → (MachineState → List TracedStep) → List TracedStep
followed_by (Ok (Running s)) more = more s
followed_by (Ok (Ended memory sent r0)) more = []
followed_by (Err trap) more = []

-- the steps from a state on, at most as many as there is fuel
abbrev pub steps_from : List Insn → Setting → ℕ → MachineState → List TracedStep
steps_from program env zero s = []
steps_from program env (suc fuel) s =
    step_at program env s ∷ followed_by (step program env s) (steps_from program env fuel)

-- the steps of a run
abbrev pub steps_of : List Insn → Setting → List ℕ → ℕ → List TracedStep
steps_of program env memory fuel = steps_from program env fuel (entry env memory)
