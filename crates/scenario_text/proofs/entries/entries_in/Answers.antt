use Rattle.std.proofs.Common.{◌≡◌, ℕ, ◌∷◌, [], ◌++◌, ◌<◌, List, length, map, arith, rules, ap, ◌∙◌}
use Rattle.std.specs.Prelude.{Some}
use Rattle.std.proofs.lemmas.List.Elements.{All-push}
use Rattle.toml.specs.Data.{array as array_data}
use Rattle.toml.specs.View.{view, array_view}
use Rattle.scenario_text.specs.declared.refusal.Place.{Place}
use Rattle.scenario_text.specs.Tables.{ReadsEach, IsTable}
use Rattle.scenario_text.specs.inner.Arrays.{StandsIn}
use Rattle.scenario_text.specs.inner.Setups.{own_clock}
use Rattle.scenario_text.proofs.FrameLemmas.{refuses_more}
use Rattle.scenario_text.proofs.ListLemmas.{map_more}
use Rattle.scenario_text.proofs.TableLemmas.{next_read, next_stands, next_unread}
use Rattle.scenario_text.proofs.entries.entries_in.Goals as goal

-- an entry that spells nothing
pub returns-in_err-entry-clause-refused : goal.returns-in_err-entry-clause-refused
returns-in_err-entry-clause-refused g c =
    let frame = c.args.setup.now.frame in
    let clock = own_clock c.args.setup.now in
    let reads = IsTable (g.E.Entry.spelled frame clock) in
    let breaks = IsTable (g.E.Entry.broken frame clock) in
    let items = c.deref-value-items.result.now in
    let v = c.value-item.result in
    let i = c.loop-index.index in
    let within : i < length items = omega arith in
    let One : Type 0 = (x : g.E.Entry.Draft) → reads (view v) x → ⊥ in
    let None : Type 0 = (xs : List g.E.Entry.Draft) → ReadsEach reads (array_view c.args.array.now) xs → ⊥ in
    let here : Place → ℕ → Type 0 = λ p slot. (p ≡ g.E.Entry.place i) × breaks (view v) slot in
    let there : Place → ℕ → Type 0 = StandsIn g.E.Entry.place breaks
    (Some (array_data (array_view c.args.array.now))) in
    let all = refuses_more c.in_err-entry.field-0.0 One None here there
    (next_unread reads items _ i v within (search rules) c.loop-index.invariant.same)
    (λ p slot is. (i, is.0, next_stands breaks items _ i v within (search rules) c.loop-index.invariant.same slot is.1))
    c.in_err-entry.ensures.refused in
    search (rules, all)

pub loop-index-preserved : goal.loop-index-preserved
loop-index-preserved g c =
    let frame = c.args.setup.now.frame in
    let draft = g.E.Entry.draft_of in
    let items = c.deref-value-items.result.now in
    let i = c.loop-index.index in
    let within : i < length items = omega arith in
    let before = c.loop-index.entries.items in
    let pushed : c.push.new.self.items ≡ before ++ c.in_ok-entry.entry ∷ [] = search rules in
    let mapped : map draft c.push.new.self.items ≡ map draft before ++ draft c.in_ok-entry.entry ∷ [] =
    ap (map draft) pushed ∙ map_more draft before c.in_ok-entry.entry in
    record {
      same = c.loop-index.invariant.same;
      read = next_read (IsTable (g.E.Entry.spelled frame (own_clock c.args.setup.now))) items i c.value-item.result
          (map draft before) _ (draft c.in_ok-entry.entry) within (search rules) c.loop-index.invariant.read
          c.in_ok-entry.ensures.entry mapped;
      fits = rw pushed (All-push (g.E.Entry.fits frame) before c.in_ok-entry.entry c.loop-index.invariant.fits
          c.in_ok-entry.ensures.fits);
    }
