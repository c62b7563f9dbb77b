use Rattle.rule_listing.proofs.LineLemmas.{line_passed}
use Rattle.rule_listing.proofs.lines.line_after.Goals as goal

pub loop-line-preserved : goal.loop-line-preserved
loop-line-preserved c = line_passed c.args.before c.loop-line._line c.args.text.now c.loop-line.rest.now
    c.after_line-rest.result.now c.loop-line-test.true c.loop-line.invariant c.after_line-rest.ensures
