use Rattle.std.proofs.Common.{◌≡◌, ◌<◌, ℕ, ◌==◌, count_by}
use Rattle.bench_shared.proofs.finish.are_numbered.Given as goal

abbrev pub invariant-loop-n : goal.invariant-loop-n
invariant-loop-n g l = (k : ℕ) → k < l.n → count_by (λ p. p.number == k) l.loaders ≡ 1
