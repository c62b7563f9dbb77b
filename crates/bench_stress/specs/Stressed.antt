-- The bench that is stressed, and what its hands leave (docs/THREADS.md, "`stress`").
use Rattle.std.specs.Prelude.{◌≡◌, ℕ, ◌+◌, ◌*◌, if◌then◌else◌, nat_lt, List, length, count_by}
use Rattle.bench_core.specs.Setup.{Setup}
use Rattle.bench_core.specs.Replay.{Entry}
use Rattle.bench_core.specs.Views.{setup_of}
use Rattle.bench_shared.specs.Ends.{is_load, is_close}
use Rattle.bench_shared.specs.declared.shared.TheConstants.{MAX_LOADERS}
use Rattle.bench_stress.specs.declared.setup.TheConstants.{NODES, FAULTS, MODULUS, MEMORY}

abbrev pub stressed_setup : Setup
stressed_setup = setup_of (record { nodes = NODES; memory = MEMORY })
    (record { nodes = NODES; faults = FAULTS; modulus = MODULUS })

-- clamps a number of loaders to 1..=MAX_LOADERS
abbrev pub nearest : ℕ → ℕ
nearest n = if nat_lt n 1 then 1 else (if nat_lt MAX_LOADERS n then MAX_LOADERS else n)

-- this many loaders have staged this many loads each, this many pulses were opened and closed, and there is nothing
-- else
pub record HasEntries (loaders loads pulses : ℕ) (history : List Entry) : Type 0 where
  pub staged : count_by is_load history ≡ loaders * loads
  pub closed : count_by is_close history ≡ pulses
  pub all : length history ≡ loaders * loads + 2 * pulses
