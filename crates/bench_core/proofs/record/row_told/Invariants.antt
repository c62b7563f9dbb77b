use Rattle.std.proofs.Common.{◌≡◌, ◌≤◌, ◌<◌, ◌⊎◌, ◌==◌, drop, count_by}
use Rattle.clock_nodes.specs.declared.rule.TheConstants.{MAX_MODULUS}
use Rattle.bench_core.specs.declared.limits.TheConstants.{CLOCKS_DIFFER}
use Rattle.bench_core.specs.Settled.{clocks_where}
use Rattle.bench_core.specs.inner.Told.{joined_all}
use Rattle.bench_core.proofs.Tallies.{Tally, moving}
use Rattle.bench_core.proofs.record.row_told.Given as goal

abbrev pub invariant-loop-i : goal.invariant-loop-i
invariant-loop-i l =
    let flags = drop l.i l.settled in
    let all = clocks_where l.modulus l.settled l.nodes in
    record {
      tally : Tally flags (clocks_where l.modulus flags (drop l.i l.nodes)) l.common l.zeros l.count
          (joined_all 0 (moving all))
          (count_by (λ c. c == 0) all) (count_by (λ x. x) l.settled);
      few : l.count ≤ l.i;
      few_zeros : l.zeros ≤ l.i;
      range : (l.common < MAX_MODULUS) ⊎ (l.common ≡ CLOCKS_DIFFER);
    }
