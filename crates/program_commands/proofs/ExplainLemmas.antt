-- What is told of a program is told of the image or the text that it was read from.
use Rattle.std.proofs.Common.{◌≡◌, ◌∙◌, ap, ℕ, List, subst}
use Rattle.std.specs.Prelude.{Result, IfOk, string_bytes}
use Rattle.std.specs.declared.alloc.AllocError.{AllocError}
use Rattle.node_env.specs.Env.{Extent}
use Rattle.bpf_insn.specs.declared.forms.Insn.{Insn}
use Rattle.program_commands.specs.declared.explanation.Told.{Told}
use Rattle.requests.specs.declared.request.ExplainOptions.{ExplainOptions}
use Rattle.bpf_verify.specs.declared.findings.Findings.{Findings}
use Rattle.bpf_verify.specs.Findings.{AreFindings}
use Rattle.command_answers.specs.declared.ending.Ending.{Ending}
use Rattle.requests.specs.Shapes.{asked_extent}
use Rattle.program_commands.specs.Verdict.{verdict_ending}
use Rattle.program_commands.specs.Explained.{Explanation, explanation, explained_text, lines_if_text, verdict_in, ExplainsProgram}

-- what contracts see of what is told
abbrev seen : Told → Explanation
seen told = explanation (string_bytes told.text) told.ending

pub program_told : (asked : ExplainOptions) (lines : List ℕ) (program : List Insn) (shape : Extent)
    (findings : Findings)
    (text : List ℕ) (ending : Ending) → shape ≡ asked_extent asked.shape → AreFindings program shape findings
    → text ≡ explained_text program shape findings lines asked.detail
    → ending ≡ verdict_ending (verdict_in program findings.verdict)
    → ExplainsProgram asked lines program (explanation text ending)
program_told asked lines program shape findings text ending same are said ends = (
  findings,
  subst (λ s. AreFindings program s findings) same are,
  ap (λ t. explanation t ending) (said ∙ ap (λ s. explained_text program s findings lines asked.detail) same)
      ∙ ap (explanation (explained_text program (asked_extent asked.shape) findings lines asked.detail)) ends,
)

pub read_told : (asked : ExplainOptions) (bytes lines : List ℕ) (program : List Insn) (result : Result Told AllocError)
    → lines ≡ lines_if_text asked.text bytes → IfOk result (λ told. ExplainsProgram asked lines program (seen told))
    → IfOk result (λ told. ExplainsProgram asked (lines_if_text asked.text bytes) program (seen told))
read_told asked bytes lines program result same told =
    subst (λ ls. IfOk result (λ t. ExplainsProgram asked ls program (seen t))) same told
