use Rattle.std.proofs.Common.{length, refl}
use Rattle.step_beginnings.specs.Beginnings.{free_numbers}
use Rattle.claim_proofs.proofs.proving.judged.Goals as goal

pub returns-clause-outcome : goal.returns-clause-outcome
returns-clause-outcome c =
    let start = c.args.proof.now.beginning in (
      c.in-Ok.ensures c.if-not-holds.false,
      (free_numbers start.free.items, length start.memory.items, c.if-not-begins.ensures refl),
    )
