-- A state is stuck exactly where a trap applies.
use Rattle.std.proofs.Common.{◌≡◌, ◌<◌, length, Bool, true, false, List, Option, Some, None, Result, Ok, Err, refl, sym, ap, subst, ◌∙◌, arith}
use Rattle.std.specs.Prelude.{find, ◌↔◌}
use Rattle.std.specs.Result.{result_err}
use Rattle.node_env.specs.Env.{Setting}
use Rattle.bpf_insn.specs.declared.forms.Insn.{Insn}
use Rattle.bpf_insn.specs.Programs.{insn_at}
use Rattle.bpf_machine.specs.declared.word.TrapKind.{TrapKind}
use Rattle.bpf_machine.specs.declared.word.TrapKind.TheVariants.{BadJump, BadHelper, Unset, FrameWrite, NotNumber, OutOfRegion, UnsetByte, BadArgument, NotPointer, ExitNotNumber}
use Rattle.bpf_machine.specs.declared.word.Turn.{Turn}
use Rattle.bpf_machine.specs.declared.word.Turn.TheVariants as turn
use Rattle.bpf_machine.specs.Machine.{MachineState, Phase, Running}
use Rattle.bpf_machine.specs.Step.{execute, step}
use Rattle.bpf_machine.specs.Traps.{IsLowestTrap, applies, applies_to, trap_number}
use Rattle.bpf_machine.specs.inner.Parts.{Comes}
use Rattle.bpf_machine.specs.Run.{HasNoSuccessor, HasTrap, IsStuck, Steps, Turns}
use Rattle.bpf_machine.proofs.LowestTrap.{IsLowest, Told, kinds, told}
use Rattle.bpf_machine.proofs.TrapTable.{insn_told}

data FoundCase (program : List Insn) (s : MachineState) : Type 0 where
  nothing : insn_at program s.frame.slot ≡ None → FoundCase program s
  insn : (i : Insn) → insn_at program s.frame.slot ≡ Some i → FoundCase program s

found_case : (program : List Insn) (s : MachineState) → FoundCase program s
found_case program s = by (insn_at program s.frame.slot) refl
  where
    by : (o : Option Insn) → insn_at program s.frame.slot ≡ o → FoundCase program s
    by None e = nothing e
    by (Some i) e = insn i e

-- where no instruction begins that is a bad jump
nowhere_told : (program : List Insn) (env : Setting) (s : MachineState) → insn_at program s.frame.slot ≡ None
    → IsLowestTrap program env s BadJump
nowhere_told program env s e = record { holds = rw e refl; lowest = lower }
  where
    lower : (other : TrapKind) → trap_number other < 1 → applies other program env s ≡ false
    lower BadJump lt = absurd (omega arith)
    lower BadHelper lt = absurd (omega arith)
    lower Unset lt = absurd (omega arith)
    lower FrameWrite lt = absurd (omega arith)
    lower NotNumber lt = absurd (omega arith)
    lower OutOfRegion lt = absurd (omega arith)
    lower UnsetByte lt = absurd (omega arith)
    lower BadArgument lt = absurd (omega arith)
    lower NotPointer lt = absurd (omega arith)
    lower ExitNotNumber lt = absurd (omega arith)

-- the step's trap, by what the table tells of the instruction
err_told : (program : List Insn) (env : Setting) (s : MachineState) (i : Insn) (kind : TrapKind)
    → length s.memory ≡ env.shape.memory
    → insn_at program s.frame.slot ≡ Some i → execute program env i s ≡ Err kind → IsLowestTrap program env s kind
err_told program env s i kind whole found e =
    let p : TrapKind → Bool = λ k. applies_to k program env i s.frame in
    let is : find p kinds ≡ Some kind = sym (insn_told program env i s whole) ∙ ap result_err e in
    let low : IsLowest p kind = subst (Told p) is (told p) in
    record { holds = rw found low.holds; lowest = λ other lt. rw found (low.lowest other lt) }

ok_told : (program : List Insn) (env : Setting) (s : MachineState) (i : Insn) (t : Phase)
    → length s.memory ≡ env.shape.memory
    → insn_at program s.frame.slot ≡ Some i → execute program env i s ≡ Ok t → (kind : TrapKind)
    → applies kind program env s ≡ false
ok_told program env s i t whole found e kind =
    let p : TrapKind → Bool = λ k. applies_to k program env i s.frame in
    let is : find p kinds ≡ None = sym (insn_told program env i s whole) ∙ ap result_err e in
    let all : (k : TrapKind) → p k ≡ false = subst (Told p) is (told p) in
    rw found (all kind)

step_err : (program : List Insn) (env : Setting) (s : MachineState) (kind : TrapKind)
    → length s.memory ≡ env.shape.memory → step program env s ≡ Err kind → IsLowestTrap program env s kind
step_err program env s kind whole e =
    elim (found_case program s) [
      | nothing none ↦
          let same : BadJump ≡ kind = let g = rw none at e in cc in
          subst (IsLowestTrap program env s) same (nowhere_told program env s none)
      | insn i found ↦ err_told program env s i kind whole found (rw found at e)
    ]

step_ok : (program : List Insn) (env : Setting) (s : MachineState) (t : Phase) → length s.memory ≡ env.shape.memory
    → step program env s ≡ Ok t → (kind : TrapKind) → applies kind program env s ≡ false
step_ok program env s t whole e =
    elim (found_case program s) [
      | nothing none ↦ let g = rw none at e in absurd cc
      | insn i found ↦ ok_told program env s i t whole found (rw found at e)
    ]

result_case : (r : Result Phase TrapKind) (P : Type 0) → ((t : Phase) → r ≡ Ok t → P)
    → ((kind : TrapKind) → r ≡ Err kind → P) → P
result_case (Ok t) P ok err = ok t refl
result_case (Err kind) P ok err = err kind refl

pub stuck_by_trap : (program : List Insn) (env : Setting) (s : MachineState) (kind : TrapKind)
    → length s.memory ≡ env.shape.memory → IsLowestTrap program env s kind → IsStuck program env s kind
stuck_by_trap program env s kind whole low =
    record {
      none = λ t goes. let no : true ≡ false = sym low.holds ∙ step_ok program env s t whole goes kind in absurd cc;
      trap = low;
    }

pub goes_on : (program : List Insn) (env : Setting) (s : MachineState) → length s.memory ≡ env.shape.memory
    → ((kind : TrapKind) → applies kind program env s ≡ false) → (t : Phase) × Steps program env (Running s) t
goes_on program env s whole none =
    result_case (step program env s) ((t : Phase) × Steps program env (Running s) t) (λ t e. (t, e))
    (λ kind e. let low = step_err program env s kind whole e in let no : true ≡ false = sym low.holds ∙ none kind in
    absurd cc)

-- what a step comes to is its turn
pub turn_of : (program : List Insn) (env : Setting) (old new : MachineState) (answer : Turn)
    → length old.memory ≡ env.shape.memory → Comes (step program env old) old new answer
    → Turns program env old new answer
turn_of program env old new turn.Next whole comes = comes
turn_of program env old new (turn.Ended r0) whole comes = comes
turn_of program env old new (turn.Trap kind) whole comes =
    (stuck_by_trap program env old kind whole (step_err program env old kind whole comes.0), comes.1)

-- nothing follows a state exactly where some trap applies
pub stuck_exactly : (program : List Insn) (env : Setting) (s : MachineState) → length s.memory ≡ env.shape.memory
    → HasNoSuccessor program env s ↔ HasTrap program env s
stuck_exactly program env s whole = by (find p kinds) (told p)
  where
    p : TrapKind → Bool
    p k = applies k program env s

    by : (found : Option TrapKind) → Told p found → HasNoSuccessor program env s ↔ HasTrap program env s
    by None free = (
      λ final. let on = goes_on program env s whole free in absurd (final on.0 on.1),
      λ (kind, holds). let never : true ≡ false = sym holds ∙ free kind in cc,
    )
    by (Some kind) low = (
      λ final. (kind, low.holds),
      λ trap. (stuck_by_trap program env s kind whole (record { holds = low.holds; lowest = low.lowest })).none,
    )
