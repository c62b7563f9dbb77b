use Rattle.std.proofs.Common.{◌≡◌, length, sym, arith}
use Rattle.std.proofs.lemmas.List.Sums.{position_or_len_is}
use Rattle.rule_listing.specs.Listing.{is_line_end}
use Rattle.rule_listing.proofs.lines.line_len.Goals as goal

pub returns : goal.returns
returns c =
    let end : c.loop-at.at ≡ length c.args.text.now = omega (arith, c.loop-at-test.false, c.loop-at.auto.at-end) in
    sym (position_or_len_is is_line_end c.args.text.now (length c.args.text.now) 0 (omega arith)
    (λ k below. c.loop-at.invariant k (omega (arith, end, below))) (λ less. absurd (omega (arith, less))))
