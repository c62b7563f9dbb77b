-- The exit statuses of the program: 0 done, 1 fault or mismatch, 2 refused, 3 a violation of agreement or
-- stabilisation, 4 not finished.
use Rattle.std.specs.Prelude.{ℕ}
use Rattle.command_answers.specs.declared.ending.Ending.{Ending}
use Rattle.command_answers.specs.declared.ending.Ending.TheVariants.{Done, Refused, Mismatched, Violated, Unfinished}

abbrev pub status_of : Ending → ℕ
status_of Done = 0
status_of Refused = 2
status_of Mismatched = 1
status_of Violated = 3
status_of Unfinished = 4
