-- What is spelled, and its arrays.
use Rattle.std.proofs.Common.{◌≡◌, true, arith, List, map, subst}
use Rattle.std.specs.Prelude.{codes, Option}
use Rattle.std.proofs.lemmas.List.{map-id}
use Rattle.toml.specs.Data.{Data, Members, get_member}
use Rattle.scenario_text.specs.inner.Arrays.{HasArrays}
use Rattle.scenario_text.specs.Drafts.{Draft}
use Rattle.scenario_text.specs.Noise.{HasNoise}
use Rattle.scenario_text.specs.Tables.{knows, IsTable, MayBeArray}
use Rattle.scenario_text.specs.Spelling.{HasFrame, HasCoins, HasKey, SpellsClock, Spelled, SpelledLoad, SpelledUnload, SpelledCorrupt, SpelledCoin, SpellsNothing, clock_key, clock_draft, top_keys}
use Rattle.scenario_text.proofs.TableLemmas.{tables_read, entries_read, loads_read}

-- a table that spells a scenario has its arrays
pub spelled_arrays : (ms : Members) (d : Draft) → Spelled ms d → HasArrays ms
spelled_arrays ms d spelled =
    let loads = loads_read d.frame d.clock _ d.loads spelled.loads in
    let unloads = entries_read _ _ d.unloads spelled.unloads in
    let corruptions = entries_read _ _ d.corruptions spelled.corruptions in
    let entries = entries_read _ _ d.entries spelled.entries in
    let few = spelled.changes in
    let few_coins = spelled.coin_entries in
    record {
      loads = tables_read _ _ d.loads spelled.loads;
      unloads = tables_read _ _ d.unloads spelled.unloads;
      corruptions = tables_read _ _ d.corruptions spelled.corruptions;
      entries = tables_read _ _ d.entries spelled.entries;
      changes = omega arith;
      coins = omega arith;
    }

pub no_arrays : (ms : Members) → (HasArrays ms → ⊥) → SpellsNothing ms
no_arrays ms none d spelled = none (spelled_arrays ms d spelled)

-- what is read of all keys is spelled, where the arrays aren't too long
pub spelled_whole : (ms : Members) (d : Draft) → knows (top_keys ms) ms ≡ true
    → HasFrame ms d.frame → HasCoins ms d.coins
    → HasKey ms d.coins d.key → d.clock_text ≡ clock_draft (clock_key ms) ms → SpellsClock d.frame ms d.clock
    → MayBeArray (IsTable (SpelledLoad d.frame d.clock)) (get_member (codes "load") ms) d.loads
    → MayBeArray (IsTable (SpelledUnload d.frame)) (get_member (codes "unload") ms) d.unloads
    → MayBeArray (IsTable (SpelledCorrupt d.frame)) (get_member (codes "corrupt") ms) d.corruptions
    → MayBeArray (IsTable (SpelledCoin d.frame)) (get_member (codes "coin") ms) d.entries
    → HasArrays ms → HasNoise d.key d.frame.pulses d.loads → Spelled ms d
spelled_whole ms d known frame coins key text clock loads unloads corruptions entries has noise =
    let loads_are = loads_read d.frame d.clock _ d.loads loads in
    let unloads_are = entries_read _ _ d.unloads unloads in
    let corruptions_are = entries_read _ _ d.corruptions corruptions in
    let entries_are = entries_read _ _ d.entries entries in
    let few = has.changes in
    let few_coins = has.coins in
    record {
      known = known;
      frame = frame;
      coins = coins;
      key = key;
      clock_text = text;
      clock = clock;
      loads = loads;
      unloads = unloads;
      corruptions = corruptions;
      entries = entries;
      changes = omega arith;
      coin_entries = omega arith;
      noise = noise;
    }

-- entries that are their own data
pub plain_entries : {A : Type 0} (reads : Data → A → Type 0) (o p : Option Data) (xs : List A) → o ≡ p
    → MayBeArray reads o (map (λ x. x) xs) → MayBeArray reads p xs
plain_entries reads o p xs held read =
    subst (λ q. MayBeArray reads q xs) held (subst (MayBeArray reads o) (map-id xs) read)
