use Rattle.std.proofs.Common.{◌∙◌, refl}
use Rattle.bench_core.proofs.runs.Runs.run.Goals as goal

pub returns : goal.returns
returns c = (
  c.run_in-done.result,
  c.in_ok-push.ensures.items,
  record {
    task = c.run_in-done.ensures.input ∙ (c.in_ok-task.ensures ∙ rw c.id-node.ensures.value refl);
    ends = c.run_in-done.ensures.end;
  },
)
