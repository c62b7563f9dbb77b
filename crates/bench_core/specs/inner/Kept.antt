-- A bench's fields, as contracts see them, and what is true of them.
use Rattle.std.specs.Prelude.{◌≡◌, ◌≤◌, All, map, drop, length, option_map, vec_capacity, IsSome}
use Rattle.bench_core.specs.declared.limits.TheConstants.{MAX_ENTRIES}
use Rattle.bench_core.specs.declared.bench.Bench.TheInside.{Inside}
use Rattle.bench_core.specs.Setup.{IsSetup}
use Rattle.bench_core.specs.inner.Nodes.{KnowsClock, KnowsFirsts}
use Rattle.bench_core.specs.Replay.{Replays, StagesAccepted, BenchValue, openings, places_of}
use Rattle.bench_core.specs.inner.Replay.{staged_of}
use Rattle.bench_core.specs.Views.{setup_with, entry_of}

abbrev pub view_of : Inside → BenchValue
view_of b = record {
  setup = setup_with b.shape b.rule b.clock;
  state = record {
    nodes = b.nodes.items;
    mail = b.mail;
    closed = b.closed;
    staged = staged_of (drop b.staged_from (map entry_of b.history.items));
    coins = option_map (λ v. v.items) b.coins;
  };
  history = map entry_of b.history.items;
}

pub record IsKept (b : Inside) : Type 0 where
  pub replays : Replays (view_of b).setup (view_of b).history (view_of b).state
  pub accepted : All StagesAccepted (view_of b).history
  pub setup : IsSetup (view_of b).setup
  pub same : b.rule.nodes ≡ b.shape.nodes
  pub flags : KnowsClock b.clock b.nodes.items b.flags.items
  pub firsts : KnowsFirsts b.nodes.items b.firsts.items
  pub spare : length b.spare ≡ b.shape.nodes
  pub opened : b.opened ≡ openings (view_of b).history
  pub counted : IsSome b.coins → 1 ≤ b.opened
  pub staged : b.staged_from ≤ length b.history.items
  pub limit : places_of (view_of b) ≤ MAX_ENTRIES
  pub room : places_of (view_of b) ≤ vec_capacity b.history
