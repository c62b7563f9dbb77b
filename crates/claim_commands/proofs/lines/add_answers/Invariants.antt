use Rattle.std.proofs.Common.{◌≡◌, ◌++◌, drop, string_bytes}
use Rattle.std.specs.Prelude.{flat_map}
use Rattle.claim_commands.specs.Prove.{answer_lines}
use Rattle.claim_commands.proofs.lines.add_answers.Given as goal

-- what is written and what is still to come are the whole
abbrev pub invariant-loop-answer : goal.invariant-loop-answer
invariant-loop-answer l =
    string_bytes l.text ++ flat_map answer_lines (drop l.answer-index l.answers)
    ≡ string_bytes l.fn.text ++ flat_map answer_lines l.answers
