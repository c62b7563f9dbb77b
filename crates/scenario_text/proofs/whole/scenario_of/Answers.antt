use Rattle.std.proofs.Common.{◌≡◌, ℕ, List, map, rules, subst, sym, ◌∙◌}
use Rattle.std.specs.Prelude.{Option, codes, true}
use Rattle.bpf_insn.specs.declared.forms.Insn.{Insn}
use Rattle.toml.specs.Data.{get_member}
use Rattle.toml.specs.View.{table_view}
use Rattle.scenario_text.specs.declared.refusal.Place.{Place}
use Rattle.scenario_text.specs.declared.refusal.Place.TheVariants as places
use Rattle.scenario_text.specs.declared.scenario.ClockKey.TheVariants as keys
use Rattle.scenario_text.specs.Faults.{Refuses}
use Rattle.scenario_text.specs.Spelling.{SpellsClock, HasFrame, clock_key, SpelledLoad, SpelledUnload, SpelledCorrupt, SpelledCoin, SpellsNothing, top_keys}
use Rattle.scenario_text.specs.declared.scenario.Load.{Load as LoadValue}
use Rattle.scenario_text.specs.Noise.{HasNoise}
use Rattle.scenario_text.specs.inner.Setups.{own_clock}
use Rattle.scenario_text.specs.Tables.{IsTable, MayBeArray, knows}
use Rattle.scenario_text.specs.Views.{load_draft, corrupt_of, extent_of}
use Rattle.scenario_text.proofs.FrameLemmas.{excludes, refuses, refuses_more}
use Rattle.scenario_text.proofs.NoiseLemmas.{no_noise}
use Rattle.scenario_text.proofs.WholeLemmas.{no_arrays, plain_entries, spelled_whole}
use Rattle.scenario_text.proofs.BrokenLemmas.{clock_refused, entries_refused, load_broken, none_broken}
use Rattle.scenario_text.specs.Broken.{BrokenAt, BrokenLoad, BrokenText}
use Rattle.scenario_text.specs.declared.refusal.Place.TheVariants.{Load, Unload, Corrupt, Coin}
use Rattle.scenario_text.proofs.whole.scenario_of.Goals as goal

pub returns-in_err-arrays-clause-refused : goal.returns-in_err-arrays-clause-refused
returns-in_err-arrays-clause-refused c =
    let ms = table_view c.args.table.now in
    let all = refuses c.in_err-arrays.field-0.0 (SpellsNothing ms) (BrokenAt ms)
    (excludes c.in_err-arrays.field-0.0 (SpellsNothing ms) c.in_err-arrays.ensures.fault
    (no_arrays ms c.in_err-arrays.ensures.has)) in
    search (rules, all)

pub returns-in_err-setup-clause-refused : goal.returns-in_err-setup-clause-refused
returns-in_err-setup-clause-refused c =
    let ms = table_view c.args.table.now in
    let f = c.in_ok-frame.frame in
    let e = c.in_err-setup.field-0.0 in
    let none : Type 0 = (clock : Option (List Insn)) → SpellsClock f ms clock → ⊥ in
    let here : Place → ℕ → Type 0 = λ p slot. (p ≡ places.Top) × (c.clock_key-clock.result ≡ keys.Clock)
    × BrokenText ms (codes "clock") (extent_of f) slot in
    let there : Place → ℕ → Type 0 = λ p slot. (p ≡ places.Top) × (clock_key ms ≡ keys.Clock)
    × BrokenText ms (codes "clock") (extent_of f) slot in
    let moved : Refuses e none there = refuses_more e none none here there (λ silent. silent)
    (λ p slot is. (is.0, sym c.clock_key-clock.ensures ∙ is.1, is.2)) c.in_err-setup.ensures.refused in
    let all = clock_refused ms f e c.in_ok-frame.ensures.frame moved in
    search (rules, all)

pub returns-in_err-loads-clause-refused : goal.returns-in_err-loads-clause-refused
returns-in_err-loads-clause-refused c =
    let ms = table_view c.args.table.now in
    let f = c.in_ok-setup.setup.frame in
    let clock = own_clock c.in_ok-setup.setup in
    let has : HasFrame ms f = subst (HasFrame ms) (sym c.in_ok-setup.ensures.frame) c.in_ok-frame.ensures.frame in
    let all = entries_refused c.args.alloc SpelledLoad BrokenLoad Load (codes "load") (λ d. d.loads) ms f clock _
    c.in_err-loads.field-0.0 has c.in_ok-setup.ensures.clock c.in_ok-arrays.ensures.loads (λ d spelled. spelled.loads)
    (load_broken ms f clock has c.in_ok-setup.ensures.clock) c.in_err-loads.ensures.refused in
    search (rules, all)

pub returns-in_err-judge_noise-clause-refused : goal.returns-in_err-judge_noise-clause-refused
returns-in_err-judge_noise-clause-refused c =
    let ms = table_view c.args.table.now in
    let f = c.in_ok-setup.setup.frame in
    let clock = own_clock c.in_ok-setup.setup in
    let e = c.in_err-judge_noise.field-0.0 in
    let has : HasFrame ms f = subst (HasFrame ms) (sym c.in_ok-setup.ensures.frame) c.in_ok-frame.ensures.frame in
    let read : MayBeArray (IsTable (SpelledLoad f clock)) (get_member (codes "load") ms)
    (map load_draft c.in_ok-loads.loads.items) =
    subst (λ o. MayBeArray (IsTable (SpelledLoad f clock)) o (map load_draft c.in_ok-loads.loads.items))
    c.in_ok-arrays.ensures.loads c.in_ok-loads.ensures.entries in
    let none : HasNoise c.in_ok-key.key f.pulses (map load_draft c.in_ok-loads.loads.items) → ⊥ =
    subst (λ (ls : List LoadValue). HasNoise c.in_ok-key.key f.pulses (map load_draft ls) → ⊥)
    c.deref.ensures.value c.in_err-judge_noise.ensures.noise in
    let all = refuses e (SpellsNothing ms) (BrokenAt ms) (excludes e (SpellsNothing ms)
    c.in_err-judge_noise.ensures.fault
    (no_noise ms f clock c.in_ok-coins.coins c.in_ok-key.key _ has c.in_ok-key.ensures.key read none)) in
    search (rules, all)

pub returns-in_err-unloads-clause-refused : goal.returns-in_err-unloads-clause-refused
returns-in_err-unloads-clause-refused c =
    let ms = table_view c.args.table.now in
    let f = c.in_ok-setup.setup.frame in
    let has : HasFrame ms f = subst (HasFrame ms) (sym c.in_ok-setup.ensures.frame) c.in_ok-frame.ensures.frame in
    let all = entries_refused c.args.alloc (λ f _. SpelledUnload f) (λ _ _ _ _. ⊥) Unload (codes "unload") (λ d. d.unloads) ms f _ _
    c.in_err-unloads.field-0.0 has c.in_ok-setup.ensures.clock c.in_ok-arrays.ensures.unloads
    (λ d spelled. spelled.unloads) (none_broken ms Unload _) c.in_err-unloads.ensures.refused in
    search (rules, all)

pub returns-in_err-corruptions-clause-refused : goal.returns-in_err-corruptions-clause-refused
returns-in_err-corruptions-clause-refused c =
    let ms = table_view c.args.table.now in
    let f = c.in_ok-setup.setup.frame in
    let has : HasFrame ms f = subst (HasFrame ms) (sym c.in_ok-setup.ensures.frame) c.in_ok-frame.ensures.frame in
    let all = entries_refused c.args.alloc (λ f _. SpelledCorrupt f) (λ _ _ _ _. ⊥) Corrupt (codes "corrupt") (λ d. d.corruptions)
    ms f _ _ c.in_err-corruptions.field-0.0 has c.in_ok-setup.ensures.clock c.in_ok-arrays.ensures.corruptions
    (λ d spelled. spelled.corruptions) (none_broken ms Corrupt _) c.in_err-corruptions.ensures.refused in
    search (rules, all)

pub returns-in_err-entries-clause-refused : goal.returns-in_err-entries-clause-refused
returns-in_err-entries-clause-refused c =
    let ms = table_view c.args.table.now in
    let f = c.in_ok-setup.setup.frame in
    let has : HasFrame ms f = subst (HasFrame ms) (sym c.in_ok-setup.ensures.frame) c.in_ok-frame.ensures.frame in
    let all = entries_refused c.args.alloc (λ f _. SpelledCoin f) (λ _ _ _ _. ⊥) Coin (codes "coin") (λ d. d.entries) ms f _ _
    c.in_err-entries.field-0.0 has c.in_ok-setup.ensures.clock c.in_ok-arrays.ensures.entries
    (λ d spelled. spelled.entries) (none_broken ms Coin _) c.in_err-entries.ensures.refused in
    search (rules, all)

pub returns-clause-reads : goal.returns-clause-reads
returns-clause-reads c =
    let setup = c.in_ok-setup.setup in
    let f = setup.frame in
    let ms = table_view c.args.table.now in
    let held = c.in_ok-arrays.ensures in
    let is_known : c.knows_top_keys.result ≡ true = search rules in
    let known : knows (top_keys ms) ms ≡ true = sym c.knows_top_keys.ensures ∙ is_known in
    record {
      spelled = spelled_whole _ _ known
          (subst (HasFrame ms) (sym c.in_ok-setup.ensures.frame) c.in_ok-frame.ensures.frame)
          c.in_ok-coins.ensures.coins c.in_ok-key.ensures.key (search rules) c.in_ok-setup.ensures.clock
          (subst (λ o. MayBeArray (IsTable (SpelledLoad f (own_clock setup))) o (map load_draft c.in_ok-loads.loads.items))
          held.loads c.in_ok-loads.ensures.entries)
          (plain_entries (IsTable (SpelledUnload f)) _ _ _ held.unloads c.in_ok-unloads.ensures.entries)
          (subst (λ o. MayBeArray (IsTable (SpelledCorrupt f)) o (map corrupt_of c.in_ok-corruptions.corruptions.items))
          held.corruptions c.in_ok-corruptions.ensures.entries)
          (plain_entries (IsTable (SpelledCoin f)) _ _ _ held.entries c.in_ok-entries.ensures.entries)
          held.has
          (subst (λ (ls : List LoadValue). HasNoise c.in_ok-key.key f.pulses (map load_draft ls))
          c.deref.ensures.value c.in_ok-judge_noise.ensures.noise);
      clock = c.in_ok-setup.ensures.fits;
      typable = c.in_ok-loads.ensures.fits;
    }
