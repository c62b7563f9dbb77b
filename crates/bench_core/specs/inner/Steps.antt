-- What one of the results of a node took.
use Rattle.std.specs.Prelude.{◌≡◌, ◌≢◌, ◌⊎◌, ℕ, List, All, Contains, take}
use Rattle.bench_core.specs.Tasks.{Done, IsEnd}

-- a result of this node took this many instructions
pub record Took (dones : List Done) (i k : ℕ) : Type 0 where
  pub one : Done
  pub among : Contains dones one
  pub node : one.task.node ≡ i
  pub ends : IsEnd one
  pub steps : k ≡ one.end.steps

-- or none of the first K is this node's, and 0 is told
abbrev pub TookIn : List Done → ℕ → ℕ → ℕ → Type 0
TookIn dones n i k = Took dones i k ⊎ (All (λ d. d.task.node ≢ i) (take n dones) × (k ≡ 0))

-- or it has none, and 0 is told
abbrev pub TookAt : List Done → ℕ → ℕ → Type 0
TookAt dones i k = Took dones i k ⊎ (All (λ d. d.task.node ≢ i) dones × (k ≡ 0))
