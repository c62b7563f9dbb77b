use Rattle.std.proofs.Common.{map}
use Rattle.std.specs.List.{AllZip}
use Rattle.command_line.specs.Lists.{IsMailSlot}
use Rattle.command_line.proofs.exec_words.mail_in.Given as goal

abbrev pub invariant-loop-word : goal.invariant-loop-word
invariant-loop-word l = AllZip IsMailSlot (map (λ word. word.now) l.yielded) l.mail.items
