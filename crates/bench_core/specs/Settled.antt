-- Which nodes are settled after a closed pulse, and what their clocks say.
use Rattle.std.specs.Prelude.{◌≡◌, ℕ, Bool, not, ◌&&◌, ◌==◌, if◌then◌else◌, List, [], ◌∷◌, filter, count_by, Contains}
use Rattle.clock_nodes.specs.Rule.{clock_of, clock_below}
use Rattle.bench_core.specs.Setup.{Setup}
use Rattle.bench_core.specs.State.{Node, State}

-- node by node: it ran the clock program in this closed pulse and in the one before
abbrev pub settled_flags : List Node → List Node → List Bool
settled_flags [] after = []
settled_flags (x ∷ before) [] = []
settled_flags (x ∷ before) (y ∷ after) = (x.mark && y.mark) ∷ settled_flags before after

-- the nodes that are not settled, empty ones too
abbrev pub faulty_count : State → State → ℕ
faulty_count b b' = count_by not (settled_flags b.nodes b'.nodes)

-- the value of a clock: the first four bytes, or 0 where these are the modulus or more
abbrev pub value_of : ℕ → List ℕ → ℕ
value_of modulus memory = clock_below modulus (clock_of memory)

-- the clocks of settled nodes, in node order
abbrev pub clocks_where : ℕ → List Bool → List Node → List ℕ
clocks_where m [] nodes = []
clocks_where m (x ∷ flags) [] = []
clocks_where m (x ∷ flags) (y ∷ nodes) = if x then value_of m y.memory
    ∷ clocks_where m flags nodes else clocks_where m flags nodes

abbrev pub settled_clocks : Setup → State → State → List ℕ
settled_clocks s b b' = clocks_where s.modulus (settled_flags b.nodes b'.nodes) b'.nodes

abbrev pub moving_clocks : Setup → State → State → List ℕ
moving_clocks s b b' = filter (λ c. not (c == 0)) (settled_clocks s b b')

-- any two settled clocks that are not zero are equal
abbrev pub Agree : Setup → State → State → Type 0
Agree s b b' = (c d : ℕ) → Contains (moving_clocks s b b') c → Contains (moving_clocks s b b') d → c ≡ d
