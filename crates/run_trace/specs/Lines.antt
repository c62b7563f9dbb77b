-- The lines of a trace (docs/COMMANDS.md, "A trace").
use Rattle.std.specs.Prelude.{ℕ, suc, if◌then◌else◌, is_some, List, [], ◌∷◌, ◌++◌, codes, map, Option, Some, None, option_map, Result, Ok, Err}
use Rattle.std.specs.Fmt.{decimal}
use Rattle.node_env.specs.Helpers.{arguments_of}
use Rattle.node_env.specs.declared.region.Region.TheVariants.{Mem, Stack}
use Rattle.bpf_insn.specs.declared.forms.Insn.{Insn}
use Rattle.bpf_insn.specs.declared.forms.Reg.{Reg}
use Rattle.bpf_insn.specs.declared.forms.Reg.TheVariants.{R0}
use Rattle.bpf_insn.specs.Operands.{call_of, reads, written_by}
use Rattle.bpf_insn.specs.Programs.{insn_at}
use Rattle.bpf_machine.specs.declared.word.TrapKind.{TrapKind}
use Rattle.bpf_machine.specs.declared.word.Word.{Word}
use Rattle.bpf_machine.specs.declared.word.Word.TheVariants.{Num, Ptr}
use Rattle.bpf_machine.specs.Machine.{Frame, Phase, Running, Ended}
use Rattle.bpf_machine.specs.Traps.{held}
use Rattle.bpf_asm.specs.Canonical.{after_word, canonical_line}
use Rattle.bpf_asm.specs.Words.{register_word}
use Rattle.rule_listing.specs.Listing.{heading_by, line_at}
use Rattle.run_trace.specs.Steps.{TracedStep}

-- ---- registers

-- a number, or a pointer by its region and its offset there
abbrev pub word_text : Word → List ℕ
word_text (Num number) = decimal number
word_text (Ptr Mem offset) = codes "memory+" ++ decimal offset
word_text (Ptr Stack offset) = codes "stack+" ++ decimal offset

abbrev pub held_text : Option Word → List ℕ
held_text None = codes "unset"
held_text (Some word) = word_text word

-- a register, and what it holds
abbrev pub register_change : Reg → Option Word → List ℕ
register_change register word = register_word register ++ (codes " = " ++ held_text word)

-- what a register of a state holds
abbrev pub told_register : Frame → Reg → List ℕ
told_register s register = register_change register (held s register)

-- the registers that an instruction reads, with what they hold before it
abbrev pub read_texts : Frame → Insn → List (List ℕ)
read_texts s insn = map (told_register s) (reads arguments_of insn)

-- the register that an instruction writes: a call writes its answer into r0
abbrev pub destination : Insn → Option Reg
destination insn = if is_some (call_of insn) then Some R0 else written_by insn

-- the register that it wrote, with what it holds after it: nothing at an end or a trap
abbrev pub wrote_text : Result Phase TrapKind → Insn → Option (List ℕ)
wrote_text (Ok (Running t)) insn = option_map (told_register t.frame) (destination insn)
wrote_text (Ok (Ended memory sent r0)) insn = None
wrote_text (Err trap) insn = None

-- ---- lines

-- after an arrow
abbrev pub after_arrow : Option (List ℕ) → List ℕ
after_arrow None = []
after_arrow (Some wrote) = codes " -> " ++ wrote

-- what is told after an instruction: nothing if it reads and wrote no register
abbrev pub step_remark : List (List ℕ) → Option (List ℕ) → List ℕ
step_remark [] None = []
step_remark [] (Some wrote) = codes " #" ++ after_arrow (Some wrote)
step_remark (first ∷ rest) wrote = codes " #" ++ (after_word (first ∷ rest) ++ after_arrow wrote)

-- after the slot: nothing if no instruction begins there
abbrev pub after_slot : TracedStep → Option Insn → List ℕ
after_slot s None = []
after_slot s (Some insn) =
    codes " " ++ (canonical_line insn ++ step_remark (read_texts s.state.frame insn) (wrote_text s.gives insn))

-- the line of a step, without its end
abbrev pub trace_line : List Insn → ℕ → TracedStep → List ℕ
trace_line program number s =
    codes "step " ++ (decimal number ++ (codes " slot " ++ (decimal s.state.frame.slot
    ++ after_slot s (insn_at program s.state.frame.slot))))

-- the lines of steps, numbered from this one on
abbrev pub lines_from : List Insn → ℕ → List TracedStep → List ℕ
lines_from program number [] = []
lines_from program number (s ∷ rest) =
    trace_line program number s ++ (codes "\n" ++ lines_from program (suc number) rest)

-- the first step's number is 1
abbrev pub trace_text : List Insn → List TracedStep → List ℕ
trace_text program steps = lines_from program 1 steps

-- ---- the lines of a rule's program (docs/RULES.md, "Lines and instructions")

-- the same, each below the row of the line that made its instruction, if the step before is of another one: `lines` has
-- the line of each slot
abbrev pub listed_steps_from : List ℕ → List ℕ → List Insn → ℕ → ℕ → List TracedStep → List ℕ
listed_steps_from text lines program before number [] = []
listed_steps_from text lines program before number (s ∷ rest) =
    let line = line_at lines s.state.frame.slot in
    heading_by text before line ++ (trace_line program number s
    ++ (codes "\n" ++ listed_steps_from text lines program line (suc number) rest))

abbrev pub listed_text : List ℕ → List ℕ → List Insn → List TracedStep → List ℕ
listed_text text lines program steps = listed_steps_from text lines program 0 1 steps
