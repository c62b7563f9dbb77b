-- The lines of a text, one after the other.
use Rattle.std.proofs.Common.{◌≡◌, ℕ, zero, suc, ◌+◌, ◌<◌, ◌-◌, ◌++◌, List, sym, ap, ◌∙◌, arith}
use Rattle.std.specs.Prelude.{codes}
use Rattle.std.specs.Fmt.{decimal}
use Rattle.std.specs.List.{after_first}
use Rattle.rule_listing.specs.Listing.{heading, is_line_end, line_after}

-- the next line
next_line : (before : ℕ) (text : List ℕ) → 0 < before
    → line_after before text ≡ line_after (before - 1) (after_first is_line_end text)
next_line zero text some = absurd (omega (arith, some))
next_line (suc before) text some =
    let same : before ≡ suc before - 1 = omega arith in
    ap (λ n. line_after n (after_first is_line_end text)) same

-- one more line is passed
pub line_passed : (before k : ℕ) (text rest after : List ℕ) → k < before
    → line_after before text ≡ line_after (before - k) rest → after ≡ after_first is_line_end rest
    → line_after before text ≡ line_after (before - (k + 1)) after
line_passed before k text rest after more so_far here =
    let some : 0 < before - k = omega (arith, more) in
    let count : before - k - 1 ≡ before - (k + 1) = omega arith in
    so_far ∙ next_line (before - k) rest some
    ∙ ap (λ n. line_after n (after_first is_line_end rest)) count
    ∙ ap (line_after (before - (k + 1))) (sym here)

-- the row of a line
pub heading_of : (text : List ℕ) (line : ℕ) → 0 < line → heading text line
    ≡ codes "line " ++ (decimal line ++ (codes " " ++ (line_after (line - 1) text ++ codes "\n")))
heading_of text zero some = absurd (omega (arith, some))
heading_of text (suc before) some =
    let same : before ≡ suc before - 1 = omega arith in
    ap (λ n. codes "line " ++ (decimal (suc before) ++ (codes " " ++ (line_after n text ++ codes "\n")))) same
