use Rattle.std.proofs.Common.{inl, rules}
use Rattle.rule_notes.proofs.note.Note.of.Goals as goal

pub invariant_of-result : goal.invariant_of-result
invariant_of-result c = (search rules, inl c.new.ensures.bytes)
