-- What was tested of a bed makes it a bench of clocks.
use Rattle.std.proofs.Common.{◌≡◌, ℕ, ◌*◌, ◌^◌, ◌<◌, ◌≤◌, ◌+◌, not, Bool, true, false, List, None, Contains, inl, sym, subst, arith}
use Rattle.bpf_verify.specs.Accepted.{Accepted}
use Rattle.quorums.specs.Counts.{count}
use Rattle.bench_core.specs.Setup.{IsSetup}
use Rattle.bench_moves.specs.Bed.{Bed, IsAllowed, IsLoaded, RunsRule}
use Rattle.bench_moves.specs.Synchrony.{MayStabilise, NeverPart}
use Rattle.bench_moves.specs.Start.{IsEvery}
use Rattle.sized_benches.specs.Benches.{IsClockBench, is_loaded}
use Rattle.sized_benches.proofs.Paths.{agree_after, may_stabilise as on_paths}
use Rattle.sized_benches.proofs.Runs.{may_stabilise as in_runs, runs_agree}

allowed_small : (any : Bool) (numbers : List ℕ) → ((m : ℕ) → Contains numbers m → m < 2 ^ 32) → (m : ℕ)
    → IsAllowed any numbers m → m < 2 ^ 32
allowed_small true numbers small m is = is
allowed_small false numbers small m is = small m is

pub is_bench : (bed : Bed) (numbers : List ℕ) (empty : ℕ) → IsSetup bed.setup
    → 3 * bed.setup.faults < bed.setup.shape.nodes → empty ≤ bed.setup.faults
    → empty ≡ count bed.setup.shape.nodes (λ j. not (is_loaded bed j))
    → ((i : ℕ) (p : Accepted) → IsLoaded bed i p → RunsRule bed p) → numbers ≡ bed.lies
    → ((m : ℕ) → Contains numbers m → m < 2 ^ 32) → bed.aim ≡ None → IsClockBench bed
is_bench bed numbers empty setup third few counted runs same small aim = record {
  setup = setup;
  third = third;
  few = omega (arith, few, counted);
  clocks = λ i p ok. inl (runs i p ok);
  lies = λ m is. allowed_small bed.any bed.lies
      (subst (λ (l : List ℕ). (m : ℕ) → Contains l m → m < 2 ^ 32) same small) m is;
  aim = aim;
}

-- so it may stabilise from every start, within that many pulses
pub stabilises : (bed : Bed) (pulses : ℕ) → IsClockBench bed → pulses ≡ bed.setup.modulus + 2
    → MayStabilise bed (IsEvery bed) pulses
stabilises bed pulses is e =
    subst (λ (k : ℕ). MayStabilise bed (IsEvery bed) k) (sym e) (record {
      runs = λ x b c es start begin run. in_runs bed is x b c es tt begin run;
      paths = on_paths bed is;
    })

-- and its clocks agree
pub agrees : (bed : Bed) → IsClockBench bed → bed.own ≡ false → NeverPart bed (IsEvery bed)
agrees bed is judged = record {
  runs = λ x b c d es start begin. runs_agree bed is judged x b c d es tt begin;
  paths = agree_after bed is judged;
}
