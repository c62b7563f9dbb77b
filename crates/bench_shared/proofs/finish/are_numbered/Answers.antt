use Rattle.std.proofs.Common.{sym, ◌∙◌, arith, below_more}
use Rattle.bench_shared.specs.Ends.{EachOnce}
use Rattle.bench_shared.proofs.finish.are_numbered.Goals as goal

pub loop-n-preserved : goal.loop-n-preserved
loop-n-preserved g c = below_more _ _ c.loop-n.invariant (sym c.numbered.ensures ∙ c.if-numbered-ne1.false)

pub returns-clause-once : goal.returns-clause-once
unfolding EachOnce
returns-clause-once g c = λ _ n below. c.loop-n.invariant n (omega (arith, below, c.loop-n-test.false))
