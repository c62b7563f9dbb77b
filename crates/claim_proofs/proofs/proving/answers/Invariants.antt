use Rattle.claim_proofs.specs.Proved.{AreRight}
use Rattle.claim_proofs.proofs.proving.answers.Given as goal

abbrev pub invariant-loop-claimed : goal.invariant-loop-claimed
invariant-loop-claimed l = AreRight l.text l.all.items
