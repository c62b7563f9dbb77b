-- The parts of a line, as the code has them.
use Rattle.std.specs.Prelude.{ℕ, List, [], ◌∷◌, ◌++◌, codes, Option, Some, None, option_map}
use Rattle.std.specs.Fmt.{decimal}
use Rattle.bpf_insn.specs.declared.forms.Insn.{Insn}
use Rattle.bpf_machine.specs.declared.word.Turn.{Turn}
use Rattle.bpf_machine.specs.declared.word.Turn.TheVariants as turns
use Rattle.bpf_machine.specs.Machine.{Frame}
use Rattle.bpf_asm.specs.Canonical.{canonical_line}
use Rattle.run_trace.specs.declared.line.Did.{Did}
use Rattle.run_trace.specs.declared.line.Held.{Held}
use Rattle.run_trace.specs.declared.line.Line.{Line}
use Rattle.run_trace.specs.declared.line.Reading.{Reading}
use Rattle.run_trace.specs.declared.line.Reading.TheVariants as readings
use Rattle.run_trace.specs.Lines.{destination, register_change, step_remark, told_register}

abbrev pub held_in : Held → List ℕ
held_in h = register_change h.register h.word

abbrev pub reading_texts : Reading → List (List ℕ)
reading_texts readings.Nothing = []
reading_texts (readings.One first) = held_in first ∷ []
reading_texts (readings.Two first second) = held_in first ∷ held_in second ∷ []

abbrev pub wrote_in : Option Held → Option (List ℕ)
wrote_in None = None
wrote_in (Some h) = Some (held_in h)

abbrev pub remark_in : Reading → Option Held → List ℕ
remark_in reading wrote = step_remark (reading_texts reading) (wrote_in wrote)

abbrev pub did_in : Did → List ℕ
did_in d = codes " " ++ (canonical_line d.insn ++ remark_in d.reading d.wrote)

abbrev pub after_slot_in : Option Did → List ℕ
after_slot_in None = []
after_slot_in (Some d) = did_in d

abbrev pub step_line_in : Line → List ℕ
step_line_in l = codes "step " ++ (decimal l.number ++ (codes " slot " ++ (decimal l.slot ++ after_slot_in l.did)))

-- the register that an instruction wrote whose step came to this
abbrev pub wrote_by : Turn → Frame → Insn → Option (List ℕ)
wrote_by turns.Next s insn = option_map (told_register s) (destination insn)
wrote_by (turns.Ended r0) s insn = None
wrote_by (turns.Trap kind) s insn = None
