-- What the code tells of a closed pulse, one node after the other.
use Rattle.std.specs.Prelude.{◌≡◌, ◌⊎◌, ℕ, ◌<◌, ◌≤◌, ◌==◌, ◌&&◌, ◌||◌, Bool, if◌then◌else◌, List, Option, [], ◌∷◌, All, Contains, length}
use Rattle.bench_core.specs.declared.limits.TheConstants.{CLOCKS_DIFFER}
use Rattle.bench_core.specs.declared.node_clocks.Held.{Held}
use Rattle.bench_core.specs.declared.node_clocks.Held.TheVariants.{Few, Many}
use Rattle.bench_core.specs.declared.node_clocks.TheConstants.{FEW}
use Rattle.bench_core.specs.State.{Node}
use Rattle.bench_core.specs.Tasks.{Done}

-- which nodes are settled (`settled_flags`), of the marks before and the nodes after
abbrev pub both_marked : List Bool → List Node → List Bool
both_marked [] nodes = []
both_marked (x ∷ marks) [] = []
both_marked (x ∷ marks) (y ∷ nodes) = (x && y.mark) ∷ both_marked marks nodes

-- the common clock so far, 0 before the first, and one clock more
abbrev pub joined_of : ℕ → ℕ → ℕ
joined_of common clock = if (common == 0) || (common == clock) then clock else CLOCKS_DIFFER

abbrev pub joined_all : ℕ → List ℕ → ℕ
joined_all common [] = common
joined_all common (c ∷ cs) = joined_all (joined_of common c) cs

-- the greatest number of steps of these results, 0 if there is none
pub record IsMostSteps (dones : List Done) (steps : ℕ) : Type 0 where
  pub most : All (λ d. d.end.steps ≤ steps) dones
  pub reached : ((one : Done) × Contains dones one × (one.end.steps ≡ steps)) ⊎ ((dones ≡ []) × (steps ≡ 0))

-- a list of a place for each clock of this many nodes, if a record needs one
abbrev pub HoldsClocks : ℕ → List (Option ℕ) → Type 0
HoldsClocks nodes list = FEW < nodes → length list ≡ nodes

-- the clocks that are held
abbrev pub clocks_in : Held → List (Option ℕ)
clocks_in (Few few) = few
clocks_in (Many list) = list.items
