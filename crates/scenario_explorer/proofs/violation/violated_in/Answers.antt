use Rattle.std.proofs.lemmas.Result.{IfOk-weaker}
use Rattle.bench_moves.proofs.Rows.{some_mapped}
use Rattle.scenario_explorer.proofs.violation.violated_in.Goals as goal

pub returns : goal.returns
returns g c =
    let known = rw c.in-Some.is at c.in_ok-scenario.ensures in
    IfOk-weaker c.first_violation.result _ _ (λ o has. some_mapped o (λ pulse violates. record {
      scenario = c.in-Some.scenario;
      reads = known.0;
      bench = known.1;
      violates = violates;
    }) has) c.first_violation.ensures
