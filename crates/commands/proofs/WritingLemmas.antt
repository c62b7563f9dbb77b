-- Why `fault write` and `fault thread` come.
use Rattle.std.proofs.Common.{◌≡◌, Bool, true, false, Result, Err, subst}
use Rattle.std.specs.Prelude.{IfErr}
use Rattle.command_answers.specs.Faults.{HasThreadCause, HasWriteCause}
use Rattle.command_answers.specs.declared.ending.Ending.{Ending}
use Rattle.command_answers.specs.declared.fault.Fault.{Fault}
use Rattle.command_answers.specs.declared.fault.Fault.TheVariants as faults
use Rattle.commands.specs.Causes.{StartingHasCause, WritingHasCause}

pub writing_has_cause : WritingHasCause
writing_has_cause request known failed unstarted old new said_old said_new status after performed ended =
    let no : false ≡ true =
    subst (λ (r : Result Ending Fault). IfErr r (HasWriteCause false)) ended performed.cause in
    absurd cc

pub starting_has_cause : StartingHasCause
starting_has_cause request known failed unwritten old new said_old said_new status performed ended =
    let no : false ≡ true =
    subst (λ (r : Result Ending Fault). IfErr r (HasThreadCause false)) ended performed.thread in
    absurd cc
