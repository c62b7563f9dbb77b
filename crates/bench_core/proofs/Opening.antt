-- What opening a pulse asks, and what it does to a bench's fields.
use Rattle.std.proofs.Common.{◌≡◌, ℕ, ◌-◌, ◌<◌, ◌≤◌, List, [], ◌∷◌, ◌++◌, length, drop, take, map, Option, Some, None, false, is_some, All, Vec, refl, sym, ap, ◌∙◌, arith}
use Rattle.std.specs.Prelude.{option_map, unwrap_or}
use Rattle.std.proofs.lemmas.List.{length-map, take_rest, drop-map, drop_all}
use Rattle.std.proofs.lemmas.List.Elements.{All-weaker, All-from_get_or}
use Rattle.std.specs.declared.alloc.Global.{Global}
use Rattle.bench_core.specs.declared.bench.Bench.TheInside.{Inside}
use Rattle.bench_core.specs.declared.entry.Entry.{Entry}
use Rattle.bench_core.specs.declared.entry.Entry.TheVariants.{Opened}
use Rattle.bench_core.specs.Setup.{Setup}
use Rattle.bench_core.specs.State.{State, Change, Load, Unload, Corrupt, no_node, node_of, all_applied, opened_state, IsChange, AreCoins, coins_of}
use Rattle.bench_core.specs.Replay.{Entry as EntryValue, Staged, Opened as OpenedValue, Closed, Abandoned, BenchValue, Advances, openings}
use Rattle.bench_core.specs.inner.Replay.{staged_of}
use Rattle.bench_core.specs.Tasks.{tasks_of, tasks_from}
use Rattle.bench_core.specs.inner.Nodes.{FitsShape}
use Rattle.bench_core.specs.Views.{entry_of}
use Rattle.bench_core.specs.inner.Kept.{view_of, IsKept}
use Rattle.bench_core.proofs.Acceptance.{HasAccepted, accepted_replay}
use Rattle.bench_core.proofs.Sound.{Sound, sound_replay, sound_opened}
use Rattle.bench_core.proofs.Kept.{entries_push, openings_push}

pub sound_of : (b : Inside) → IsKept b → Sound (view_of b).setup (view_of b).state
sound_of b kept = sound_replay (view_of b).setup (view_of b).history (view_of b).state kept.setup kept.replays

pub accepted_of : (b : Inside) → IsKept b → HasAccepted (view_of b).state
accepted_of b kept = accepted_replay (view_of b).setup (view_of b).history (view_of b).state kept.accepted kept.replays

-- the staged changes stand in the entries from a place on
pub staged_slice : (items : List Entry) (from : ℕ)
    → staged_of (map entry_of (take (length items - from) (drop from items))) ≡ staged_of
    (drop from (map entry_of items))
staged_slice items from = ap (λ es. staged_of (map entry_of es)) (take_rest items from)
    ∙ ap staged_of (sym (drop-map entry_of from items))

node_within : (s : Setup) (c : Change) → IsChange s.shape c → node_of c < s.shape.nodes
node_within s (Load i p) h = h.0
node_within s (Unload i) h = h
node_within s (Corrupt i image) h = h.0

pub staged_within : (b : Inside) → IsKept b → All (λ c. node_of c < b.shape.nodes) (view_of b).state.staged
staged_within b kept = All-weaker (IsChange b.shape) (λ c. node_of c < b.shape.nodes)
    (node_within (view_of b).setup) (view_of b).state.staged (sound_of b kept).staged

pub all_fit : (s : Setup) (b : State) → Sound s b → All (FitsShape s.shape) b.nodes
all_fit s b sound = All-from_get_or (FitsShape s.shape) b.nodes no_node
    (λ i lt. let l : i < s.shape.nodes = omega (arith, lt, sound.nodes) in
    ((sound.memories i l).length, sound.programs i l))

pub nodes_after : (b : Inside) → IsKept b → (coins : List ℕ) → AreCoins b.shape coins
    → All (FitsShape b.shape) (all_applied b.nodes.items (view_of b).state.staged)
nodes_after b kept coins fit = all_fit (view_of b).setup (opened_state (view_of b).state coins)
    (sound_opened (view_of b).setup (view_of b).state coins fit (sound_of b kept))

pub openings_le : (es : List EntryValue) → openings es ≤ length es
openings_le [] = omega arith
openings_le (Staged a c ∷ es) = omega (arith, openings_le es)
openings_le (OpenedValue coins ∷ es) = omega (arith, openings_le es)
openings_le (Closed row ∷ es) = omega (arith, openings_le es)
openings_le (Abandoned ∷ es) = omega (arith, openings_le es)

no_coins : (o : Option (Vec ℕ Global)) → is_some o ≡ false → option_map (λ v. v.items) o ≡ None
no_coins None h = refl
no_coins (Some v) h = absurd cc

-- what is committed when a pulse opens
pub record Opens (b b' : Inside) (coins : List ℕ) (entry : Vec ℕ Global) : Type 0 where
  pub fit : AreCoins b.shape coins
  pub shut : is_some b.coins ≡ false
  pub nodes : b'.nodes.items ≡ all_applied b.nodes.items (view_of b).state.staged
  pub kept : option_map (λ v. v.items) b'.coins ≡ Some coins
  pub enters : entry.items ≡ coins
  pub history : b'.history.items ≡ b.history.items ++ Opened entry ∷ []
  pub from : b'.staged_from ≡ length b'.history.items

pub opened_advances : (b b' : Inside) (coins : List ℕ) (entry : Vec ℕ Global) → Opens b b' coins entry
    → b'.shape ≡ b.shape → b'.rule ≡ b.rule → b'.clock ≡ b.clock → b'.mail ≡ b.mail → b'.closed ≡ b.closed
    → Advances (view_of b) (OpenedValue coins) (view_of b')
opened_advances b b' coins entry h shape rule clock mail closed =
    let entries : map entry_of b'.history.items ≡ map entry_of b.history.items ++ OpenedValue coins ∷ [] =
    entries_push b.history.items b'.history.items (Opened entry) h.history
    ∙ ap (λ xs. map entry_of b.history.items ++ OpenedValue xs ∷ []) h.enters in
    let none_left : staged_of (drop b'.staged_from (map entry_of b'.history.items)) ≡ [] = ap staged_of
    (drop_all b'.staged_from (map entry_of b'.history.items)
    (omega (arith, h.from, length-map b'.history.items entry_of))) in
    record {
      setup = rw (shape, rule, clock) refl;
      history = entries;
      step = (h.fit, no_coins b.coins h.shut, rw (h.nodes, mail, closed, none_left, h.kept) refl);
    }

-- the tasks that were made are those of the bench after it
pub tasks_made : (b b' : BenchValue) (coins : List ℕ) → Advances b (OpenedValue coins) b'
    → tasks_from b.setup b.state.mail coins (openings b.history) 0 b'.state.nodes ≡ tasks_of b'
tasks_made b b' coins h =
    let mail : b'.state.mail ≡ b.state.mail = ap (λ (x : State). x.mail) h.step.2 in
    let is_open : coins_of b'.state ≡ coins = ap (λ (x : State). unwrap_or x.coins []) h.step.2 in
    let number : openings b'.history - 1 ≡ openings b.history =
    let e = ap openings h.history ∙ openings_push b.history (OpenedValue coins) in omega (arith, e) in
    rw (h.setup, mail, is_open, number) refl
