use Rattle.std.proofs.Common.{◌≡◌, take}
use Rattle.command_line.specs.Lists.{byte_spans, mail_spans}
use Rattle.command_line.proofs.lists.narrowed.Given as goal

abbrev pub invariant-loop-span : goal.invariant-loop-span
invariant-loop-span l = byte_spans l.spans.items ≡ mail_spans (take l.span-index l.wide)
