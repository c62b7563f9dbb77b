-- What one more entry does to a bench's fields.
use Rattle.std.proofs.Common.{◌≡◌, ℕ, zero, suc, ◌+◌, ◌≤◌, List, [], ◌∷◌, ◌++◌, length, drop, map, Option, Some, None, is_some, IsSome, All, cond, vec_capacity, Vec, refl, sym, ap, ◌∙◌, arith, subst, length-append, true}
use Rattle.std.specs.Prelude.{option_map}
use Rattle.std.specs.declared.alloc.Global.{Global}
use Rattle.std.proofs.lemmas.List.{append-nil, map_push, length-map}
use Rattle.std.proofs.lemmas.List.Elements.{All-push}
use Rattle.bench_core.specs.declared.limits.TheConstants.{MAX_ENTRIES}
use Rattle.bench_core.specs.declared.actor.Actor.{Actor}
use Rattle.bench_core.specs.declared.bench.Bench.TheInside.{Inside}
use Rattle.bench_core.specs.declared.change.Change.{Change}
use Rattle.bench_core.specs.declared.entry.Entry.{Entry}
use Rattle.bench_core.specs.declared.entry.Entry.TheVariants.{Staged, Abandoned}
use Rattle.bench_core.specs.Setup.{IsSetup}
use Rattle.bench_core.specs.inner.Nodes.{KnowsClock, KnowsFirsts}
use Rattle.bench_core.specs.State.{IsChange}
use Rattle.bench_core.specs.Replay.{Entry as EntryValue, Staged as StagedValue, Opened as OpenedValue, Closed as ClosedValue, Abandoned as AbandonedValue, BenchValue, Advances, StagesAccepted, openings, places_of}
use Rattle.bench_core.specs.inner.Replay.{staged_of}
use Rattle.bench_core.specs.Views.{change_of, entry_of}
use Rattle.bench_core.specs.inner.Kept.{view_of, IsKept}
use Rattle.bench_core.proofs.Replays.{advances_replay}

-- the staged changes of one more entry
staged_push : (es : List EntryValue) (n : ℕ) (e : EntryValue) → n ≤ length es
    → staged_of (drop n (es ++ e ∷ [])) ≡ staged_of (drop n es) ++ staged_of (e ∷ [])
staged_push [] zero e h = refl
staged_push [] (suc n) e h = absurd (omega arith)
staged_push (x ∷ es) (suc n) e h = staged_push es n e (omega arith)
staged_push (StagedValue a c ∷ es) zero e h = ap (λ cs. c ∷ cs) (staged_push es 0 e (omega arith))
staged_push (OpenedValue coins ∷ es) zero e h = staged_push es 0 e (omega arith)
staged_push (ClosedValue row ∷ es) zero e h = staged_push es 0 e (omega arith)
staged_push (AbandonedValue ∷ es) zero e h = staged_push es 0 e (omega arith)

pub openings_push : (es : List EntryValue) (e : EntryValue) → openings (es ++ e ∷ []) ≡ openings es + openings (e ∷ [])
openings_push [] e = omega arith
openings_push (StagedValue a c ∷ es) e = openings_push es e
openings_push (OpenedValue coins ∷ es) e = omega (arith, openings_push es e)
openings_push (ClosedValue row ∷ es) e = openings_push es e
openings_push (AbandonedValue ∷ es) e = openings_push es e

-- a step keeps what is true of a bench, where its numbers and its room do
pub kept_step : (b b' : Inside) (e : EntryValue) → IsKept b → StagesAccepted e → Advances (view_of b) e (view_of b')
    → b'.rule.nodes ≡ b'.shape.nodes → KnowsClock b'.clock b'.nodes.items b'.flags.items
    → KnowsFirsts b'.nodes.items b'.firsts.items → length b'.spare ≡ b'.shape.nodes
    → b'.opened ≡ b.opened + openings (e ∷ []) → (IsSome b'.coins → 1 ≤ b'.opened)
    → b'.staged_from ≤ length b'.history.items
    → places_of (view_of b') ≤ MAX_ENTRIES → places_of (view_of b') ≤ vec_capacity b'.history → IsKept b'
kept_step b b' e kept accepted step same flags firsts spare opened counted staged limit room =
    record {
      replays = advances_replay (view_of b) (view_of b') e kept.replays step;
      accepted = subst (λ (es : List EntryValue). All StagesAccepted es) (sym step.history)
          (All-push StagesAccepted (view_of b).history e kept.accepted accepted);
      setup = subst IsSetup (sym step.setup) kept.setup;
      same = same;
      flags = flags;
      firsts = firsts;
      spare = spare;
      opened = opened ∙ (ap (λ (n : ℕ). n + openings (e ∷ [])) kept.opened
          ∙ (sym (openings_push (view_of b).history e) ∙ ap openings (sym step.history)));
      counted = counted;
      staged = staged;
      limit = limit;
      room = room;
    }

pub entries_push : (old new : List Entry) (e : Entry) → new ≡ old ++ e ∷ []
    → map entry_of new ≡ map entry_of old ++ entry_of e ∷ []
entries_push old new e is = ap (map entry_of) is ∙ map_push entry_of old e

pub staged_after : (b : Inside) (history : Vec Entry Global) (e : Entry) → b.staged_from ≤ length b.history.items
    → history.items ≡ b.history.items ++ e ∷ []
    → staged_of (drop b.staged_from (map entry_of history.items)) ≡ (view_of b).state.staged
    ++ staged_of (entry_of e ∷ [])
staged_after b history e within is =
    let within' : b.staged_from ≤ length (map entry_of b.history.items) = rw
    (length-map b.history.items entry_of) within in
    ap (λ es. staged_of (drop b.staged_from es)) (entries_push b.history.items history.items e is)
    ∙ staged_push (map entry_of b.history.items) b.staged_from (entry_of e) within'

pub staged_advances : (b : Inside) (history : Vec Entry Global) (actor : Actor) (change : Change)
    → IsChange b.shape (change_of change) → b.staged_from ≤ length b.history.items
    → history.items ≡ b.history.items ++ Staged actor change ∷ []
    → Advances (view_of b) (StagedValue actor (change_of change)) (view_of (record b { history = history }))
staged_advances b history actor change fit within is =
    record {
      setup = refl;
      history = entries_push b.history.items history.items (Staged actor change) is;
      step = (
        fit,
        ap (λ cs. record (view_of b).state { staged = cs })
            (staged_after b history (Staged actor change) within is),
      );
    }

pub abandoned_advances : (b : Inside) (history : Vec Entry Global) → IsSome (view_of b).state.coins
    → b.staged_from ≤ length b.history.items
    → history.items ≡ b.history.items ++ Abandoned ∷ []
    → Advances (view_of b) AbandonedValue (view_of (record b { coins = None; history = history }))
abandoned_advances b history is_open within is =
    record {
      setup = refl;
      history = entries_push b.history.items history.items Abandoned is;
      step = (
        is_open,
        ap (λ cs. record (view_of b).state { staged = cs; coins = None })
            (staged_after b history Abandoned within is ∙ append-nil _),
      );
    }

-- as callers see the bench before
pub as_seen : (v : BenchValue) (b b' : Inside) (e : EntryValue) → view_of b ≡ v → Advances (view_of b) e (view_of b')
    → Advances v e (view_of b')
as_seen v b b' e is h = subst (λ (w : BenchValue). Advances w e (view_of b')) is h

pub length_push : (history history' : List Entry) (e : Entry) → history' ≡ history ++ e ∷ []
    → length history' ≡ length history + 1
length_push history history' e is = ap length is ∙ length-append history (e ∷ [])

-- places, by whether a pulse is open
pub places_seen : (b : Inside) → places_of (view_of b) ≡ length b.history.items + cond (is_some b.coins) 1 0
places_seen b = by b.coins
  where
    by : (o : Option (Vec ℕ Global)) → length (map entry_of b.history.items) + cond
        (is_some (option_map (λ v. v.items) o)) 1 0 ≡ length b.history.items + cond (is_some o) 1 0
    by None = omega (arith, length-map b.history.items entry_of)
    by (Some v) = omega (arith, length-map b.history.items entry_of)

pub is_open_from : (o : Option (Vec ℕ Global)) → is_some o ≡ true → IsSome (option_map (λ v. v.items) o)
is_open_from None h = absurd cc
is_open_from (Some v) h = refl
