use Rattle.program_commands.proofs.program.program_of.Goals as goal

pub returns-then-text-clause-program : goal.returns-then-text-clause-program
returns-then-text-clause-program c = rw c.if-text.true c.program_of_text.ensures.program

pub returns-then-text-clause-unread : goal.returns-then-text-clause-unread
returns-then-text-clause-unread c = rw c.if-text.true c.program_of_text.ensures.unread

pub returns-else-text-clause-program : goal.returns-else-text-clause-program
returns-else-text-clause-program c = rw c.if-text.false c.program_of_image.ensures.program

pub returns-else-text-clause-unread : goal.returns-else-text-clause-unread
returns-else-text-clause-unread c = rw c.if-text.false c.program_of_image.ensures.unread
