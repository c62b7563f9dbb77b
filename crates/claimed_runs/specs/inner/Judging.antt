-- The watcher that judges properties.
use Rattle.std.specs.Prelude.{◌≡◌, [], ◌∷◌, ◌++◌}
use Rattle.bench_workers.specs.Watching.{Seen}
use Rattle.claimed_runs.specs.declared.watcher.ClaimsWatcher.{ClaimsWatcher}
use Rattle.claimed_runs.specs.Claims.{claimed_pulse, memories_after}
use Rattle.properties.specs.Claims.{claimed_in}
use Rattle.claimed_runs.specs.Views.{memory_lists}

-- it judged a pulse, and kept the memories that it left
pub record JudgesPulse (k : ClaimsWatcher) (x : Seen) (k' : ClaimsWatcher) : Type 0 where
  pub properties : k'.properties.now ≡ k.properties.now
  pub sizes : k'.sizes ≡ k.sizes
  pub pulses : claimed_in k'.pulses.items
      ≡ claimed_in k.pulses.items ++ claimed_pulse k.properties.now k.sizes (memory_lists k.before.items) x ∷ []
  pub before : memory_lists k'.before.items ≡ memories_after x
