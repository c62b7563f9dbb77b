use Rattle.std.proofs.Common.{◌≡◌}
use Rattle.bench_scenario.proofs.InStepLemmas.{went_told}
use Rattle.bench_scenario.proofs.in_step.went_on.Goals as goal

pub returns : goal.returns
returns c =
    went_told c.args.modulus c.args.before.now c.args.after.now c.requires.0 c.as_slice.result.now
    c.as_slice-2.result.now c.counting.result c.unwrap_or.result
    c.requires.1
    (let same : c.as_slice.result.now ≡ c.args.before.now.clocks =
    cc (c.as_slice.ensures.value, c.before-2.view_is) in same)
    (let same : c.as_slice-2.result.now ≡ c.args.after.now.clocks =
    cc (c.as_slice-2.ensures.value, c.after.view_is) in same)
    c.counting.ensures c.unwrap_or.ensures
