-- Beside Rejections: what private contracts alone cite.
use Rattle.std.specs.Prelude.{ℕ, List}
use Rattle.scenario_text.specs.Lines.{refusal_line}
use Rattle.scenario_text.specs.Texts.{IsParsed}
use Rattle.command_answers.specs.declared.rejection.Rejection.{Rejection}
use Rattle.command_answers.specs.declared.rejection.Rejection.TheVariants.{Program, Rule, Scenario}
use Rattle.command_answers.specs.Rejections.{uncompiled_line, unread_line}

-- the line of a rejection, without its end
abbrev pub rejection_line : Rejection → List ℕ
rejection_line (Program unread) = unread_line unread
rejection_line (Rule why options) = uncompiled_line why
rejection_line (Scenario rejected) = refusal_line rejected.error

-- of a scenario the rejection has what was made of these bytes, from which the note is written
abbrev pub IsRejectionOf : List ℕ → Rejection → Type 0
IsRejectionOf bytes (Program unread) = Unit {0}
IsRejectionOf bytes (Rule why options) = Unit {0}
IsRejectionOf bytes (Scenario rejected) = IsParsed bytes rejected.parsed
