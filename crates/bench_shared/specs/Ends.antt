-- The end of a shared bench: its history beside the receipts.
use Rattle.std.specs.Prelude.{◌≡◌, ℕ, ◌+◌, ◌<◌, ◌==◌, Bool, true, false, if◌then◌else◌, List, [], ◌∷◌, count_by}
use Rattle.bench_core.specs.declared.actor.Actor.{Actor}
use Rattle.bench_core.specs.declared.actor.Actor.TheVariants.{Loader, Engine}
use Rattle.bench_core.specs.Setup.{Setup, IsSetup}
use Rattle.bench_core.specs.State.{Load, Unload, Corrupt, State}
use Rattle.bench_core.specs.Replay.{Entry, Staged, Opened, Closed, Abandoned, Replays, made_by}
use Rattle.bench_shared.specs.Passes.{Placed, LoaderView}

abbrev pub same_actor : Actor → Actor → Bool
same_actor (Loader a) (Loader b) = a == b
same_actor (Loader a) Engine = false
same_actor Engine (Loader b) = false
same_actor Engine Engine = true

abbrev pub is_by : Actor → Entry → Bool
is_by actor entry = same_actor (made_by entry) actor

-- the actor's entries with their places, in order, where the first entry has place n
abbrev pub placed_from : ℕ → Actor → List Entry → List Placed
placed_from n actor [] = []
placed_from n actor (e ∷ es) =
    if is_by actor e then (n, e) ∷ placed_from (n + 1) actor es else placed_from (n + 1) actor es

abbrev pub placed_by : Actor → List Entry → List Placed
placed_by actor history = placed_from 0 actor history

-- the numbers of these passes are those below n, each once
unfoldable pub EachOnce : ℕ → List LoaderView → Type 0
EachOnce n passes = (k : ℕ) → k < n → count_by (λ (p : LoaderView). p.number == k) passes ≡ 1

-- the history leads a bench of this setup to some state
abbrev pub HasReplay : Setup → List Entry → Type 0
HasReplay s history = IsSetup s × (b : State) × Replays s history b

-- whether the entry stages a load
abbrev pub is_load : Entry → Bool
is_load (Staged actor (Load node program)) = true
is_load (Staged actor (Unload node)) = false
is_load (Staged actor (Corrupt node image)) = false
is_load (Opened coins) = false
is_load (Closed row) = false
is_load Abandoned = false

abbrev pub is_close : Entry → Bool
is_close (Staged actor change) = false
is_close (Opened coins) = false
is_close (Closed row) = true
is_close Abandoned = false
