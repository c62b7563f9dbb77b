use Rattle.std.proofs.Common.{ap, inl, inr, refl, ◌++◌, codes, ℕ, Global, Vec}
use Rattle.std.specs.Prelude.{string_bytes}
use Rattle.command_answers.specs.declared.ending.Ending.TheVariants.{Refused}
use Rattle.program_commands.specs.Explained.{Explains, Explanation, explanation}
use Rattle.command_answers.specs.Rejections.{unread_line}
use Rattle.program_commands.proofs.LeavesLemmas.{memory_of_program, responded}
use Rattle.program_commands.proofs.explanation.explanation.Goals as goal

pub returns-in-Ok-explain_read-clause-response : goal.returns-in-Ok-explain_read-clause-response
returns-in-Ok-explain_read-clause-response c =
    let reads = rw c.in-Ok.is at c.in_ok-found.ensures.read in
    let told = c.in-Ok-explain_read.told in (
      explanation (string_bytes told.text) told.ending,
      inr (reads.0, c.in-Ok.read.program, reads.2, c.in-Ok-explain_read.ensures.told),
      ap (λ (v : Vec ℕ Global). v.items) c.into_bytes.ensures.value,
      refl,
    )

pub returns-clause-response : goal.returns-clause-response
returns-clause-response c =
    let reads = rw c.in-Err.is at c.in_ok-found.ensures.read in
    responded {A = Explanation} (Explains c.args.options c.args.bytes.now) (λ told. told.text) (λ told. told.ending)
    (explanation (unread_line c.in-Err.unread ++ codes "\n") Refused) c.rejected.result
    (inl (c.in-Err.unread, reads, refl)) c.rejected.ensures.text c.rejected.ensures.ending
