use Rattle.std.proofs.Common.{ap, ◌∙◌, ℕ, Global, Vec}
use Rattle.run_commands.specs.Stress.{Replayed}
use Rattle.run_commands.proofs.stress.stress.Goals as goal

pub returns-in-Ok-finished_text-clause-response : goal.returns-in-Ok-finished_text-clause-response
returns-in-Ok-finished_text-clause-response g c = (
  Replayed c.in-Ok.finished,
  (c.in-Ok.ensures.replays, c.in-Ok.ensures.accepted, c.in-Ok.ensures.entries),
  c.done.ensures.text ∙ (ap (λ (v : Vec ℕ Global). v.items) c.into_bytes.ensures.value ∙ c.in-Ok-finished_text.ensures),
  c.done.ensures.ending,
)
