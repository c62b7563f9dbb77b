use Rattle.bench_core.specs.inner.Kept.{view_of}
use Rattle.bench_core.proofs.Opening.{sound_of, all_fit}
use Rattle.bench_core.proofs.Closed.{coins_fit, refuses_at}
use Rattle.bench_core.proofs.bench.Bench.close_pulse.Goals as goal

pub check_results-requires : goal.check_results-requires
check_results-requires c =
    let b = c.self.inside in
    let sound = sound_of b c.self.invariant in
    record {
      count = rw c.deref.ensures.value sound.nodes;
      nodes = rw c.deref.ensures.value (all_fit (view_of b).setup (view_of b).state sound);
      mail = sound.mail;
      coins = rw c.deref-2.ensures.value (coins_fit (view_of b).setup b.coins c.in-Some.coins c.in-Some.is sound.coins);
    }

pub returns-in-Err-clause-refusal : goal.returns-in-Err-clause-refusal
returns-in-Err-clause-refusal c =
    let b = c.self.inside in
    refuses_at b c.args.self.now c.in-Some.coins c.deref.result.now c.deref-2.result.now c.deref-3.result.now
    c.args.dones.items c.in-Err.refusal c.self.invariant c.self.view_is c.in-Some.is
    c.deref.ensures.value c.deref-2.ensures.value c.deref-3.ensures.value c.in-Err.ensures.refusal
