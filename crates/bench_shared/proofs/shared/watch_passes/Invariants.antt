use Rattle.std.proofs.Common.{◌≡◌, vec_len, []}
use Rattle.std.specs.Prelude.{All}
use Rattle.bench_shared.proofs.shared.watch_passes.Given as goal

abbrev pub invariant-loop-number : goal.invariant-loop-number
invariant-loop-number l = record {
  same : l.seat ≡ l.initial.seat;
  len : vec_len l.passes ≡ l._number;
  board : All (λ p. p.board ≡ l.board) l.passes.items;
  rows : All (λ p. p.rows ≡ []) l.passes.items;
}
