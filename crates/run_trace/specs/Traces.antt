-- What a traced run leaves on its writer (docs/COMMANDS.md, "A trace").
use Rattle.std.specs.Prelude.{ℕ, ◌<◌, List, length, take, Option, Result, Ok, Err}
use Rattle.std.specs.Io.KnownBytes.{Appends}
use Rattle.bpf_insn.specs.declared.forms.Insn.{Insn}
use Rattle.stream_io.specs.declared.parts.PartFault.{PartFault}
use Rattle.stream_io.specs.declared.parts.PartFault.TheVariants as faults
use Rattle.stream_io.specs.Parts.{Breaks, Wrote}
use Rattle.run_trace.specs.declared.tracing.Traced.{Traced}
use Rattle.run_trace.specs.Lines.{trace_text}
use Rattle.run_trace.specs.Steps.{TracedStep}

-- the whole lines of the first steps, and not of all
pub record LeavesFirstLines (old new : Option (List ℕ)) (program : List Insn) (steps : List TracedStep) : Type 0 where
  pub count : ℕ
  pub fewer : count < length steps
  pub left : Appends old new (trace_text program (take count steps))

-- the lines of all steps; their first bytes if a write failed; whole lines of the first steps if there was no
-- memory for one more
abbrev pub LeavesTrace : Option (List ℕ) → Option (List ℕ) → List Insn → List TracedStep → Result Traced PartFault
    → Type 0
LeavesTrace old new program steps (Ok traced) = Wrote old new (trace_text program steps) traced.written
LeavesTrace old new program steps (Err (faults.Write written)) = Breaks old new (trace_text program steps) written
LeavesTrace old new program steps (Err faults.Memory) = LeavesFirstLines old new program steps
