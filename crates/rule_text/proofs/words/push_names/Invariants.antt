use Rattle.std.proofs.Common.{◌≡◌, ◌++◌, map, string_bytes, take}
use Rattle.rule_text.specs.Words.{names_at}
use Rattle.rule_text.proofs.words.push_names.Given as goal

abbrev pub invariant-loop-entry : goal.invariant-loop-entry
invariant-loop-entry l = map string_bytes l.words.items
    ≡ map string_bytes l.initial.words.items ++ names_at l.text (take l.entry-index l.names)
