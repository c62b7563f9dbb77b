use Rattle.std.proofs.Common.{◌+◌, ◌≤◌, vec_len, vec_capacity}
use Rattle.std.specs.Vec.Iter.{into_iter_len}
use Rattle.bench_stress.proofs.loaders.begin.Given as goal

abbrev pub invariant-loop-pass : goal.invariant-loop-pass
invariant-loop-pass g l = vec_len l.begun + into_iter_len l.pass-iterator ≤ vec_capacity l.begun
