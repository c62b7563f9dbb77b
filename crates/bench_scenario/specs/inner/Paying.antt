-- How many workers a scenario is run on (docs/THREADS.md, "When workers pay").
use Rattle.std.specs.Prelude.{ℕ, zero, suc, ◌+◌, ◌==◌, nat_lt, if◌then◌else◌, max, List, [], ◌∷◌}
use Rattle.std.specs.List.{list_any}
use Rattle.scenario_text.specs.declared.scenario.Load.{Load}
use Rattle.scenario_text.specs.declared.scenario.Scenario.{Scenario}
use Rattle.bench_scenario.specs.declared.paying.TheConstants.{PAYING_STEPS}

-- what the program of a load announces in a node
abbrev pub announced_of : Load → ℕ → ℕ
announced_of load node = if list_any (λ n. n == node) load.nodes.items then load.program.budget else 0

-- the most that a program announces which comes into a node
abbrev pub announced_at : List Load → ℕ → ℕ
announced_at [] node = 0
announced_at (load ∷ loads) node = max (announced_of load node) (announced_at loads node)

-- the sum of that over the first nodes
abbrev pub announced_by : List Load → ℕ → ℕ
announced_by loads zero = 0
announced_by loads (suc n) = announced_by loads n + announced_at loads n

-- one, if the pulses are short
abbrev pub useful_workers : Scenario → ℕ → ℕ
useful_workers s workers = if nat_lt (announced_by s.loads.items s.nodes) PAYING_STEPS then 1 else workers
