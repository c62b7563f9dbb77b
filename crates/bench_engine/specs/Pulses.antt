-- What a pulse of a shared bench leaves.
use Rattle.std.specs.Prelude.{◌≡◌, ◌⊎◌, ℕ, List, [], ◌∷◌, ◌++◌, map}
use Rattle.bench_core.specs.Replay.{Entry, Opened, Abandoned}
use Rattle.bench_core.specs.State.{AreCoins}
use Rattle.bench_core.specs.declared.refusal.CloseError.TheVariants.{NotOpen, Missing, Twice, Stranger, Memory}
use Rattle.bench_shared.specs.Passes.{Placed, entry_in}
use Rattle.bench_shared.specs.Plans.{Plan, IsPlanOpenRefusal}
use Rattle.bench_engine.specs.declared.engine_error.EngineError.{EngineError}
use Rattle.bench_engine.specs.declared.engine_error.EngineError.TheVariants.{Open, Work, Close}

-- receipts more, for these entries
abbrev pub AddsReceipts : List Placed → List Entry → List Placed → Type 0
AddsReceipts old entries new = (more : List Placed) × (map entry_in more ≡ entries) × (new ≡ old ++ more)

-- a failed opening adds no receipt. A later error adds those of Opened and Abandoned; NotOpen may add only Opened, if
-- abandoning failed
abbrev pub Stopped : EngineError → List Placed → List ℕ → List Placed → Type 0
Stopped (Open e) old coins new = new ≡ old
Stopped (Work e) old coins new = AddsReceipts old (Opened coins ∷ Abandoned ∷ []) new
Stopped (Close (Missing i)) old coins new = AddsReceipts old (Opened coins ∷ Abandoned ∷ []) new
Stopped (Close (Twice i)) old coins new = AddsReceipts old (Opened coins ∷ Abandoned ∷ []) new
Stopped (Close (Stranger i)) old coins new = AddsReceipts old (Opened coins ∷ Abandoned ∷ []) new
Stopped (Close Memory) old coins new = AddsReceipts old (Opened coins ∷ Abandoned ∷ []) new
Stopped (Close NotOpen) old coins new = AddsReceipts old (Opened coins ∷ []) new
    ⊎ AddsReceipts old (Opened coins ∷ Abandoned ∷ []) new

-- what the refusal says of the coins
abbrev pub IsPulseRefusal : Plan → List ℕ → EngineError → Type 0
IsPulseRefusal p coins (Open e) = IsPlanOpenRefusal p coins e
IsPulseRefusal p coins (Work e) = AreCoins p.setup.shape coins
IsPulseRefusal p coins (Close e) = AreCoins p.setup.shape coins
