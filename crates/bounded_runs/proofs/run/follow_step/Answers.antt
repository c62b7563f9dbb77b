use Rattle.std.proofs.Common.{refl}
use Rattle.bounded_runs.specs.inner.Run.{bound_of_run}
use Rattle.bounded_runs.proofs.Runs.{step_followed}
use Rattle.bounded_runs.proofs.run.follow_step.Goals as goal

pub returns-in-Next-clause-next : goal.returns-in-Next-clause-next
returns-in-Next-clause-next c e before count followed =
    step_followed c.args.view.program.now (bound_of_run c.args.view) c.args.view.env.now before count _ _
    c.args.run.now.marks c.keep.new.self c.args.insn.now c.shape-shape.ensures.setting c.requires.at
    (c.if-not-keep.ensures refl) c.in-Next.ensures.turns
    followed
