-- Where the program stands that a refusal is of.
use Rattle.std.proofs.Common.{◌≡◌, ℕ, List, sym, subst, Global}
use Rattle.std.specs.Prelude.{Option, Some, None, IsSomeAnd, codes}
use Rattle.toml.specs.Data.{Data, array, table, Members, get_member}
use Rattle.bpf_insn.specs.declared.forms.Insn.{Insn}
use Rattle.scenario_text.specs.declared.refusal.Place.{Place}
use Rattle.scenario_text.specs.declared.refusal.Place.TheVariants as places
use Rattle.scenario_text.specs.declared.refusal.ScenarioError.{ScenarioError}
use Rattle.scenario_text.specs.declared.scenario.Frame.{Frame}
use Rattle.scenario_text.specs.declared.scenario.ClockKey.TheVariants as keys
use Rattle.scenario_text.specs.Broken.{BrokenAt, BrokenIn, BrokenLoad, BrokenText, item_at}
use Rattle.scenario_text.specs.Drafts.{Draft}
use Rattle.scenario_text.specs.Faults.{Refuses}
use Rattle.scenario_text.specs.inner.Arrays.{StandsIn}
use Rattle.scenario_text.specs.Tables.{IsTable, MayBeArray}
use Rattle.scenario_text.specs.Spelling.{SpellsClock, HasFrame, Spelled, SpellsNothing, clock_key}
use Rattle.scenario_text.specs.Views.{extent_of}
use Rattle.scenario_text.proofs.FrameLemmas.{no_entries, one_frame, refuses_more}

broken_at : (ms : Members) (f : Frame) (c : Option (List Insn)) → HasFrame ms f → SpellsClock f ms c
    → (p : Place) (slot : ℕ) → BrokenIn f c (get_member (codes "load") ms) p slot → BrokenAt ms p slot
broken_at ms f c has clock places.Top slot is = absurd is
broken_at ms f c has clock (places.Load index) slot is = (f, c, has, clock, is)
broken_at ms f c has clock (places.Unload index) slot is = absurd is
broken_at ms f c has clock (places.Corrupt index) slot is = absurd is
broken_at ms f c has clock (places.Coin index) slot is = absurd is

-- a load whose program is refused is one of the table
pub load_broken : (ms : Members) (f : Frame) (c : Option (List Insn)) → HasFrame ms f → SpellsClock f ms c
    → (p : Place) (slot : ℕ) → StandsIn places.Load (IsTable (BrokenLoad f c)) (get_member (codes "load") ms) p slot
    → BrokenAt ms p slot
load_broken ms f c has clock p slot is =
    broken_at ms f c has clock p slot
    (subst (λ (q : Place). BrokenIn f c (get_member (codes "load") ms) q slot) (sym is.1) is.2)

-- no program of the other entries is refused
none_broken_at : (o : Option Data) (index slot : ℕ)
    → IsSomeAnd o (λ value. IsTable (λ (ms : Members) (slot : ℕ). ⊥) value slot) → ⊥
none_broken_at None index slot is = is
none_broken_at (Some (table ms)) index slot is = is
none_broken_at (Some _) index slot is = is

pub none_broken : (ms : Members) (place : ℕ → Place) (o : Option Data) (p : Place) (slot : ℕ)
    → StandsIn place (IsTable (λ (ms : Members) (slot : ℕ). ⊥)) o p slot → BrokenAt ms p slot
none_broken ms place None p slot is = absurd is.2
none_broken ms place (Some (array items)) p slot is = absurd (none_broken_at (item_at items is.0) is.0 slot is.2)
none_broken ms place (Some _) p slot is = absurd is.2

-- a refusal of the entries that the table has is one of the table
pub entries_refused : {A : Type 0} (g : Global) (reads : Frame → Option (List Insn) → Members → A → Type 0)
    (breaks : Frame → Option (List Insn) → Members → ℕ → Type 0) (place : ℕ → Place) (key : List ℕ)
    (of : Draft → List A)
    (ms : Members) (f : Frame) (c : Option (List Insn)) (o : Option Data) (e : ScenarioError)
    → HasFrame ms f → SpellsClock f ms c → o ≡ get_member key ms
    → ((d : Draft) → Spelled ms d → MayBeArray (IsTable (reads d.frame d.clock)) (get_member key ms) (of d))
    → ((p : Place) (slot : ℕ) → StandsIn place (IsTable (breaks f c)) (get_member key ms) p slot → BrokenAt ms p slot)
    → Refuses e ((xs : List A) → MayBeArray (IsTable (reads f c)) o xs → ⊥) (StandsIn place (IsTable (breaks f c)) o)
    → Refuses e (SpellsNothing ms) (BrokenAt ms)
entries_refused {A} g reads breaks place key of ms f c o e has clock held there breaks_there refused =
    let P : Option Data → Type 0 = λ p. (xs : List A) → MayBeArray (IsTable (reads f c)) p xs → ⊥ in
    let Q : Option Data → Place → ℕ → Type 0 = λ q. StandsIn place (IsTable (breaks f c)) q in
    refuses_more e (P o) (SpellsNothing ms) (Q o) (BrokenAt ms)
    (λ none. no_entries g reads (get_member key ms) of ms f c has clock there (subst P held none))
    (λ p slot is. breaks_there p slot (subst (λ (q : Option Data). Q q p slot) held is)) refused

-- a refusal of the clock is one of the table
pub clock_refused : (ms : Members) (f : Frame) (e : ScenarioError) → HasFrame ms f
    → Refuses e ((c : Option (List Insn)) → SpellsClock f ms c → ⊥)
    (λ p slot. (p ≡ places.Top) × (clock_key ms ≡ keys.Clock) × BrokenText ms (codes "clock") (extent_of f) slot)
    → Refuses e (SpellsNothing ms) (BrokenAt ms)
clock_refused ms f e has refused =
    refuses_more e ((c : Option (List Insn)) → SpellsClock f ms c → ⊥) (SpellsNothing ms)
    (λ p slot. (p ≡ places.Top) × (clock_key ms ≡ keys.Clock) × BrokenText ms (codes "clock") (extent_of f) slot)
    (BrokenAt ms)
    (λ none d spelled. none d.clock
    (subst (λ h. SpellsClock h ms d.clock) (one_frame ms d.frame f spelled.frame has) spelled.clock))
    (λ p slot is. subst (λ (q : Place). BrokenAt ms q slot) (sym is.0) (f, has, is.1, is.2)) refused
