use Rattle.std.proofs.Common.{◌≡◌}
use Rattle.bench_scenario.proofs.InStepLemmas.{none_told, one_told}
use Rattle.bench_scenario.proofs.in_step.have_one.Goals as goal

pub returns-then-is_some : goal.returns-then-is_some
returns-then-is_some c =
    let same : c.as_slice-clocks.result.now ≡ c.args.one.now.clocks =
    cc (c.as_slice-clocks.ensures.value, c.one.view_is) in
    one_told c.args.modulus c.args.one.now c.as_slice-clocks.result.now c.first_clock.result c.is_some.result
    c.are_one.result
    same c.first_clock.ensures c.is_some.ensures c.if-is_some.true c.are_one.ensures

pub returns-else-is_some : goal.returns-else-is_some
returns-else-is_some c =
    let same : c.as_slice-clocks.result.now ≡ c.args.one.now.clocks =
    cc (c.as_slice-clocks.ensures.value, c.one.view_is) in
    none_told c.args.modulus c.args.one.now c.as_slice-clocks.result.now c.first_clock.result c.is_some.result
    same c.first_clock.ensures c.is_some.ensures c.if-is_some.false
