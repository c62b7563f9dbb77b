use Rattle.std.proofs.Common.{arith, refl}
use Rattle.step_beginnings.proofs.Begun.{begun}
use Rattle.step_beginnings.proofs.beginning.begins.Goals as goal

pub returns : goal.returns
returns c =
    λ met. begun c.args.step.now c.args.beginning.now c.in-Some.coin c.numbers_fit.ensures
    (omega (arith, c.if-coin-gt1.false)) (omega (arith, c.if-beginning-eq0.false)) (c.if-not-has_room.ensures.room refl)
    (c.meets.ensures met) c.in-Some.ensures
