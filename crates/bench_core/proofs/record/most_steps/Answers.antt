use Rattle.std.proofs.Common.{◌≡◌, ◌+◌, ◌∷◌, ◌++◌, [], take, sym, ap, ◌∙◌, arith}
use Rattle.std.proofs.lemmas.List.{take_more}
use Rattle.bench_core.proofs.Telling.{no_more, one_more}
use Rattle.bench_core.proofs.record.most_steps.Goals as goal
use Rattle.bench_core.proofs.record.most_steps.Goals.{then-steps-most, else-steps-most}

pub loop-done-preserved : goal.loop-done-preserved
loop-done-preserved c =
    let dones = c.args.dones.now in
    let i = c.loop-done.done-index in
    let d = c.done-item.result in
    let most = c.loop-done.most in
    let more : take (i + 1) dones ≡ take i dones ++ d ∷ [] = take_more dones i d c.loop-done-test.true
    ∙ ap (λ x. take i dones ++ x ∷ []) (sym c.done-item.is) in
    let e = c.steps-steps.ensures in
    elim c.if-steps-most.branch [
      | then-steps-most w ↦ rw (more, w.most-is, e)
          (one_more (take i dones) d most c.loop-done.invariant (omega (arith, w.if-steps-most.true, e)))
      | else-steps-most w ↦ rw (more, w.most-is)
          (no_more (take i dones) d most c.loop-done.invariant (omega (arith, w.if-steps-most.false, e)))
    ]
