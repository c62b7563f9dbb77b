use Rattle.std.proofs.Common.{arith}
use Rattle.stream_io.proofs.ReadLemmas.{only_failed}
use Rattle.bench_scenario.specs.declared.run.TheConstants.{MAX_BYTES, MAX_CALLS}
use Rattle.bench_scenario.proofs.StreamLemmas.{known_front}
use Rattle.bench_scenario.proofs.reading.read_scenario.Goals as goal

pub returns-in-Ok-clause-scenario : goal.returns-in-Ok-clause-scenario
returns-in-Ok-clause-scenario g c =
    known_front _ c.in-Ok.bytes.items c.as_slice.result.now c.scenario_at_front.result c.in-Ok.ensures.exact
    c.as_slice.ensures.value c.scenario_at_front.ensures.scenario

pub returns-in-Err-Stream-clause-cause : goal.returns-in-Err-Stream-clause-cause
returns-in-Err-Stream-clause-cause g c =
    only_failed _ MAX_BYTES MAX_CALLS (omega arith)
    (rw c.in-Err-Stream.field-0-is at c.in-Err-Stream.ensures.cause)

pub returns-in-Ok-clause-cause : goal.returns-in-Ok-clause-cause
returns-in-Ok-clause-cause g c = c.scenario_at_front.ensures.cause (g.R.Source.has_failed c.read_at_most.new.reader)
