use Rattle.std.proofs.Common.{◌≡◌, ◌∙◌, ap, length, map}
use Rattle.bench_core.specs.State.{all_applied}
use Rattle.bench_core.specs.inner.Replay.{staged_of}
use Rattle.bench_core.specs.Views.{entry_of}
use Rattle.bench_core.proofs.Sound.{length-all_applied}
use Rattle.bench_core.proofs.pulse.prepare.Goals as goal

pub tasks_if-requires : goal.tasks_if-requires
tasks_if-requires c =
    let before = c.args.pulse.now.nodes.now in
    let staged = staged_of (map entry_of c.args.opening.now.staged.now) in
    let after : c.left.result.now ≡ all_applied before staged = c.left.ensures ∙ c.in_ok-changed.ensures.nodes in
    record {
      count = ap length after ∙ (length-all_applied staged before ∙ c.requires.count);
      nodes = rw after c.requires.after;
      mail = c.requires.mail;
      coins = c.requires.coins;
    }
