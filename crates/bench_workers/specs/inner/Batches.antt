-- Tasks that were run, and what they gave.
use Rattle.std.specs.Prelude.{◌≡◌, ℕ, ◌+◌, ◌*◌, ◌<◌, List, [], map, get_or, slice_get, Some}
use Rattle.bench_core.specs.Tasks.{Task, Done}

-- the results are those of these tasks, in their order
abbrev pub RanInOrder : List Task → List Done → Type 0
RanInOrder tasks dones = map (λ d. d.task) dones ≡ tasks

-- batch j of this many has the tasks at j, j + count, j + 2 count and so on, in order, as long as there are any
unfoldable pub AreDealt : ℕ → List Task → List (List Task) → Type 0
AreDealt count tasks batches =
    (j k : ℕ) → j < count → slice_get (get_or batches j []) k ≡ slice_get tasks (j + k * count)

-- the worker at place k has number k
unfoldable pub AreNumbered : List ℕ → Type 0
AreNumbered workers = (k worker : ℕ) → slice_get workers k ≡ Some worker → worker ≡ k
