use Rattle.std.proofs.Common.{◌≡◌, ◌+◌, ◌++◌, drop, string_bytes}
use Rattle.exploration.specs.Answers.{odds_rows, odds_table_text}
use Rattle.exploration.proofs.table.odds_table.Given as goal

-- what is written and what is still to come are the whole
abbrev pub invariant-loop-place : goal.invariant-loop-place
invariant-loop-place l = string_bytes l.text ++ odds_rows (l.first + l.place) (drop (l.first + l.place) l.parts)
    ≡ odds_table_text l.first l.parts
