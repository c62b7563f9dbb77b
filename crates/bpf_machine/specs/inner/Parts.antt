-- What the parts of the interpreter give.
use Rattle.std.specs.Prelude.{◌≡◌, ◌<◌, ◌≤◌, ◌+◌, ℕ, ℤ, List, Result, Ok, Err}
use Rattle.node_env.specs.declared.region.TheConstants.{STACK_BYTES}
use Rattle.node_env.specs.Env.{Setting}
use Rattle.node_env.specs.declared.region.Region.{Region}
use Rattle.node_env.specs.declared.region.Region.TheVariants.{Mem, Stack}
use Rattle.bpf_insn.specs.declared.forms.Insn.{Insn}
use Rattle.bpf_insn.specs.Edges.{moved}
use Rattle.bpf_machine.specs.declared.word.Word.{Word}
use Rattle.bpf_machine.specs.declared.word.TrapKind.{TrapKind}
use Rattle.bpf_machine.specs.declared.word.TrapKind.TheVariants.{BadJump}
use Rattle.bpf_machine.specs.declared.word.Turn.{Turn}
use Rattle.bpf_machine.specs.declared.word.Turn.TheVariants as turn
use Rattle.bpf_machine.specs.Machine.{MachineState, Phase, Running, Ended}
use Rattle.bpf_machine.specs.Run.{Leads, Turns}
use Rattle.bpf_machine.specs.Step.{◌>>=◌, Bytes, begins, needed, place, stored}

-- a part that goes on has made what is given, and one that traps has changed nothing
abbrev pub Does : {S A : Type 0} → Result S TrapKind → S → S → Result A TrapKind → Type 0
Does given old new (Ok done) = given ≡ Ok new
Does given old new (Err trap) = (given ≡ Err trap) × (new ≡ old)

-- the same of a whole step
abbrev pub Comes : Result Phase TrapKind → MachineState → MachineState → Turn → Type 0
Comes given old new turn.Next = given ≡ Ok (Running new)
Comes given old new (turn.Ended r0) = (given ≡ Ok (Ended old.memory old.sent r0)) × (new ≡ old)
Comes given old new (turn.Trap trap) = (given ≡ Err trap) × (new ≡ old)

-- a run that goes on from a state with that much fuel: that many steps lead to the new one, which is the state where
-- the fuel ran out, or otherwise that in which it ends or is stuck
abbrev pub WentOn : List Insn → Setting → ℕ → MachineState → MachineState → ℕ → Turn → Type 0
WentOn program env fuel old new taken turn.Next =
    (taken ≡ fuel) × Leads program env taken (Running old) (Running new)
WentOn program env fuel old new taken (turn.Ended r0) =
    (taken < fuel) × Leads program env taken (Running old) (Running new) × Turns program env new new (turn.Ended r0)
WentOn program env fuel old new taken (turn.Trap kind) =
    (taken < fuel) × Leads program env taken (Running old) (Running new) × Turns program env new new (turn.Trap kind)

-- a region, if there is that much memory, has this many bytes
abbrev pub HasBytes : ℕ → Region → ℕ → Type 0
HasBytes memory Mem count = count ≤ memory
HasBytes memory Stack count = count ≤ STACK_BYTES

-- where a jump from a slot leads
abbrev pub jump : List Insn → ℕ → ℤ → Result ℕ TrapKind
jump program slot off = do
  to ← needed BadJump (moved (slot + 1) off)
  begins program to

-- a store of this many bytes
abbrev pub store_bytes : Setting → ℕ → Word → ℤ → ℕ → Bytes → Result Bytes TrapKind
store_bytes env count base off n b = do
  at ← place env base off count
  Ok (stored b at.0 at.1 count n)
