use Rattle.std.proofs.Common.{◌≡◌, ◌+◌, vec_len}
use Rattle.bench_shared.specs.Passes.{AreNew}
use Rattle.bench_shared.proofs.shared.loader_passes.Given as goal

abbrev pub invariant-loop-number : goal.invariant-loop-number
invariant-loop-number g l = record {
  parts : l.share.parts + l.number ≡ l.initial.share.parts;
  amount : l.share.amount ≡ 0;
  len : vec_len l.passes ≡ l.number;
  new : AreNew l.passes.items;
}
