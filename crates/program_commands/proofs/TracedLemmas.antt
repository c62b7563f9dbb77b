-- What `exec --trace` leaves, from the lines of the steps and what is written behind them.
use Rattle.std.proofs.Common.{ℕ, List, length, Option, Ok, Err, inr, refl, sym, subst}
use Rattle.std.specs.Io.KnownBytes.{Appends}
use Rattle.std.proofs.KnownBytes.{Appends-kept, Appends-trans}
use Rattle.std.proofs.Math.Seq.{take-length}
use Rattle.bpf_insn.specs.declared.forms.Insn.{Insn}
use Rattle.run_trace.specs.Lines.{trace_text}
use Rattle.stream_io.specs.Parts.{Wrote}
use Rattle.stream_io.proofs.PartLemmas.{broken}
use Rattle.command_answers.specs.declared.ending.Ending.{Ending}
use Rattle.command_answers.specs.declared.ending.Ending.TheVariants.{Done}
use Rattle.program_commands.specs.declared.exec.Reply.{Reply}
use Rattle.command_answers.specs.declared.fault.Fault.{Fault}
use Rattle.command_answers.specs.declared.fault.Fault.TheVariants as faults
use Rattle.requests.specs.declared.request.ExecOptions.{ExecOptions}
use Rattle.command_answers.specs.Answer.{told_text}
use Rattle.program_commands.specs.Exec.{LeavesSteps, Traces, case_steps, case_trace, traced_text}
use Rattle.command_answers.specs.Output.{Leaves}
use Rattle.program_commands.specs.inner.Exec.{RunsCase, answer_in}
use Rattle.command_answers.specs.inner.Left.{left_in}
use Rattle.command_answers.specs.inner.Faults.{fault_behind}

traces : (asked : ExecOptions) (program : List Insn) (reply : Reply) → RunsCase asked program reply
    → Traces asked program (traced_text asked program reply.outcome (left_in reply.left))
traces asked program reply run = record {
  outcome = reply.outcome;
  left = left_in reply.left;
  runs = record { run = run.0; nodes = run.1 };
  whole = refl;
}

pub traced_whole : (old mid new : Option (List ℕ)) (asked : ExecOptions) (program : List Insn) (reply : Reply)
    (written : ℕ) (ending : Ending) → RunsCase asked program reply → Wrote old mid (case_trace asked program) written
    → Leaves mid new (told_text asked (answer_in asked.fuel reply) (left_in reply.left)) Done (Ok ending)
    → LeavesSteps old new asked program (Ok ending)
traced_whole old mid new asked program reply written ending run wrote told = (
  traced_text asked program reply.outcome (left_in reply.left),
  traces asked program reply run,
  told.0,
  Appends-trans old mid new (case_trace asked program) _ wrote.left told.1,
)

-- the first bytes of what is behind the lines of the steps
pub traced_broken : (old mid new : Option (List ℕ)) (asked : ExecOptions) (program : List Insn) (reply : Reply)
    (written : ℕ) (fault : Fault) → RunsCase asked program reply → Wrote old mid (case_trace asked program) written
    → Leaves mid new (told_text asked (answer_in asked.fuel reply) (left_in reply.left)) Done (Err fault)
    → LeavesSteps old new asked program (Err (fault_behind written fault))
traced_broken old mid new asked program reply written (faults.Write after) run wrote told =
    inr (
      traced_text asked program reply.outcome (left_in reply.left),
      traces asked program reply run,
      broken mid new old written _ after (told_text asked (answer_in asked.fuel reply) (left_in reply.left))
          (case_trace asked program) told.0 refl told.1 wrote,
    )
traced_broken old mid new asked program reply written faults.Memory run wrote told =
    let steps = case_steps asked program in (
      length steps,
      subst (λ l. Appends old new (trace_text program l)) (sym (take-length steps))
          (Appends-kept old mid new (case_trace asked program) wrote.left told),
    )
traced_broken old mid new asked program reply written faults.Read run wrote told = absurd told
traced_broken old mid new asked program reply written faults.Thread run wrote told = absurd told
traced_broken old mid new asked program reply written (faults.CommandLine said) run wrote told = absurd told
