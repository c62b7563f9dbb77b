-- Beside Replay: what proofs and private contracts alone cite.
use Rattle.std.specs.Prelude.{List, [], ◌∷◌}
use Rattle.bench_core.specs.State.{Change}
use Rattle.bench_core.specs.Replay.{Entry, Staged, Opened, Closed, Abandoned}

-- the staged changes of these entries, in order
abbrev pub staged_of : List Entry → List Change
staged_of [] = []
staged_of (Staged actor change ∷ es) = change ∷ staged_of es
staged_of (Opened coins ∷ es) = staged_of es
staged_of (Closed row ∷ es) = staged_of es
staged_of (Abandoned ∷ es) = staged_of es
