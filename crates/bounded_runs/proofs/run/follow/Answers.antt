use Rattle.std.proofs.Common.{◌≡◌, subst}
use Rattle.bounded_runs.specs.declared.ends.Ends.{Ends}
use Rattle.bounded_runs.specs.declared.run.Followed.TheVariants.{Ended}
use Rattle.bounded_runs.specs.Bounded.{EndsSo}
use Rattle.bounded_runs.specs.inner.Run.{bound_of_run}
use Rattle.bounded_runs.proofs.AlikeInputs.{ends_unknown}
use Rattle.bounded_runs.proofs.run.follow.Goals as goal

pub returns-in-Some-Exit-clause-ends : goal.returns-in-Some-Exit-clause-ends
returns-in-Some-Exit-clause-ends c ends e before count followed =
    let both : Ended c.follow_exit.result ≡ Ended ends = e in
    let same : c.follow_exit.result ≡ ends = cc in
    subst (λ (x : Ends). EndsSo x c.args.view.program.now (bound_of_run c.args.view) c.args.view.env.now before) same
    (c.follow_exit.ensures.ends before count followed)

pub returns-in-Some-clause-ends : goal.returns-in-Some-clause-ends
returns-in-Some-clause-ends c ends e before count followed =
    ends_unknown ends c.args.view.program.now (bound_of_run c.args.view) c.args.view.env.now before
    (c.follow_step.ensures.goes_on ends e)
