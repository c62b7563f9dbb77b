use Rattle.std.proofs.Common.{ℕ, ◌∙◌, ap, sym, subst}
use Rattle.node_env.specs.Env.{Extent}
use Rattle.bounded_runs.specs.Bounded.{StayInKept}
use Rattle.bounded_runs.specs.inner.Marks.{has_mark}
use Rattle.bounded_runs.specs.inner.Run.{bound_of_run}
use Rattle.bounded_runs.proofs.Runs.{end_as_one, end_by_memory}
use Rattle.bounded_runs.proofs.run.follow_exit.Goals as goal

pub returns-in-Ended-None-clause-ends : goal.returns-in-Ended-None-clause-ends
returns-in-Ended-None-clause-ends c before count followed =
    end_as_one c.args.view.program.now (bound_of_run c.args.view) c.args.view.env.now before count
    c.in-Ended-None.field-0-0 _ c.args.run.now.marks c.requires.exits
    (sym c.is_answer_marked.ensures ∙ c.if-is_answer_marked.false)
    (subst (λ (n : ℕ). StayInKept c.args.view.kept.now n (has_mark c.args.run.now.marks.bytes))
    (c.memory.ensures.value ∙ (ap (λ (shape : Extent). shape.memory) c.shape.ensures.shape ∙ sym c.requires.memory))
    (rw c.in-Ended-None.is-1 at c.marked_byte-marked.ensures)) c.in-Ended-None.ensures.turns.0 followed

pub returns-in-Ended-Some-clause-ends : goal.returns-in-Ended-Some-clause-ends
returns-in-Ended-Some-clause-ends c before count followed =
    end_by_memory c.args.view.program.now (bound_of_run c.args.view) c.args.view.env.now before count
    c.in-Ended-Some.field-0-0 _ c.args.run.now.marks c.requires.exits
    (sym c.is_answer_marked.ensures ∙ c.if-is_answer_marked.false) c.in-Ended-Some.ensures.turns.0 followed
