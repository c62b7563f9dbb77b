-- Moves with coins that are given, and moves with inboxes and coins that are given.
use Rattle.std.proofs.Common.{ℕ, List, slice_index, arith}
use Rattle.std.specs.Ordering.{nat_cmp}
use Rattle.std.specs.FinMap.{FinMap}
use Rattle.bench_core.specs.State.{AreCoins}
use Rattle.bench_moves.specs.Bed.{Bed}
use Rattle.bench_moves.specs.Space.{Config, Moves}
use Rattle.bench_moves.specs.Paths.{AreInboxes, MovesOn}
use Rattle.sized_benches.specs.Benches.{MovesBy}

pub moves_by : (bed : Bed) (x : Config) (coins : List ℕ) (left : ℕ → List ℕ) (rows : ℕ → FinMap nat_cmp ℕ)
    → AreCoins bed.setup.shape coins → MovesBy bed x coins left rows → Moves bed x left rows
moves_by bed x coins left rows are moves i p ok = record {
  toss = slice_index coins i;
  small = are.1 i 0 (omega (arith, ok.0, are.0));
  comes = moves i p ok;
}

pub moves_by_on : (bed : Bed) (x : Config) (inboxes : ℕ → FinMap nat_cmp ℕ) (coins : List ℕ) (left : ℕ → List ℕ)
    (rows : ℕ → FinMap nat_cmp ℕ) → AreInboxes bed x inboxes → MovesOn bed x inboxes coins left rows
    → MovesBy bed x coins left rows
moves_by_on bed x inboxes coins left rows are moves i p ok =
    let move = moves i p ok in
    record {
      inbox = inboxes i;
      end = move.end;
      mail = are i p ok;
      run = move.run;
      memory = move.memory;
      sends = move.sends;
    }
