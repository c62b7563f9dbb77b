use Rattle.std.proofs.Common.{◌≡◌, ◌+◌, take, length}
use Rattle.std.specs.List.{sum_by}
use Rattle.bench_shared.proofs.finish.have.Given as goal

abbrev pub invariant-loop-pass : goal.invariant-loop-pass
invariant-loop-pass g l = sum_by (λ p. length p.receipts) (take l.pass-index l.loaders) + l.left ≡ l.count
