-- A table of which a program is refused reads as no scenario.
use Rattle.std.proofs.Common.{◌≡◌, ℕ, zero, suc, List, [], ◌∷◌, map, refl, sym, subst, inl, inr, Global}
use Rattle.std.specs.Prelude.{Option, Some, None, IfSome, IsSomeAnd, codes, option_map}
use Rattle.toml.specs.Data.{Data, Items, no_items, item, array, string, integer, float, boolean, datetime, table, Members, get_member}
use Rattle.bpf_insn.specs.declared.forms.Insn.{Insn}
use Rattle.node_env.specs.Env.{IsExtent}
use Rattle.bpf_verify.specs.Accepted.{Accepted, IsFirstBroken}
use Rattle.bpf_verify.specs.Typable.{Typable}
use Rattle.bpf_verify.proofs.VerdictLaws.{broken_untypable}
use Rattle.clock_nodes.specs.Rule.{IsRule}
use Rattle.clock_nodes.specs.Listings.{clock_listing}
use Rattle.clock_nodes.proofs.TakenClock.{clock_typable}
use Rattle.scenario_text.specs.declared.refusal.Place.TheVariants as places
use Rattle.scenario_text.specs.declared.scenario.ClockKey.{ClockKey}
use Rattle.scenario_text.specs.declared.scenario.ClockKey.TheVariants as keys
use Rattle.scenario_text.specs.declared.scenario.Frame.{Frame}
use Rattle.scenario_text.specs.declared.scenario.Kind.{Kind}
use Rattle.scenario_text.specs.declared.scenario.Kind.TheVariants.{Asm}
use Rattle.scenario_text.specs.declared.scenario.Load.{Load}
use Rattle.scenario_text.specs.declared.scenario.Scenario.{Scenario}
use Rattle.scenario_text.specs.Broken.{BrokenLoad, BrokenText, IsItemAt, item_at}
use Rattle.scenario_text.specs.Drafts.{LoadDraft}
use Rattle.scenario_text.specs.Laws.{RefusedReadsAsNone}
use Rattle.scenario_text.specs.Spelling.{SpellsClock, HasFrame, IsProgramOf, MeansAt, MeansClock, SpelledLoad, clock_key, clock_rule_of}
use Rattle.scenario_text.specs.Tables.{IsTable, MayBeArray, ReadsEach}
use Rattle.scenario_text.specs.Views.{FitsFrame, FitsLoad, ReadsAs, draft_of, extent_of, frame_of, load_draft}
use Rattle.scenario_text.proofs.ClockLemmas.{none_there, one_clock, one_meaning, one_text}
use Rattle.scenario_text.proofs.EntryLemmas.{Each, each_of_all}
use Rattle.scenario_text.proofs.FrameLemmas.{frame_extent, frame_rule, one_frame}
use Rattle.scenario_text.proofs.NameLemmas.{one_kind}

-- ---- the clock

by_text : (a : Global) (f : Frame) (ms : Members) (o : Option Accepted) (p : List Insn) (slot : ℕ)
    → IsRule f.nodes f.faults f.modulus → IsExtent f.nodes f.memory
    → SpellsClock f ms (option_map (λ v. v.program) o) → IfSome o (FitsFrame f) → MeansClock f (clock_key ms) ms p
    → IsFirstBroken p (extent_of f) slot → ⊥
by_text a f ms None p slot ok is has fits means broken =
    elim has [
      | inl gone ↦ none_there f (clock_key ms) ms p gone means
      | inr listing ↦ broken_untypable p (extent_of f) slot broken
          (subst (λ (q : List Insn). Typable q (extent_of f))
          (one_text a f (clock_key ms) ms (clock_listing (clock_rule_of f)) p listing means)
          (clock_typable (clock_rule_of f) (extent_of f) ok is refl))
    ]
by_text a f ms (Some v) p slot ok is has fits means broken =
    broken_untypable p (extent_of f) slot broken (subst (λ (q : List Insn). Typable q (extent_of f))
    (one_text a f (clock_key ms) ms v.program p has.0 means) fits.1)

by_clock : (a : Global) (f : Frame) (ms : Members) (o : Option Accepted) (p : List Insn) (slot : ℕ)
    → IsRule f.nodes f.faults f.modulus → IsExtent f.nodes f.memory
    → SpellsClock f ms (option_map (λ v. v.program) o) → IfSome o (FitsFrame f) → clock_key ms ≡ keys.Clock
    → MeansAt (get_member (codes "clock") ms) p → IsFirstBroken p (extent_of f) slot → ⊥
by_clock a f ms o p slot ok is has fits key means broken =
    let mine : MeansClock f (clock_key ms) ms p = subst (λ (k : ClockKey). MeansClock f k ms p) (sym key) means in
    by_text a f ms o p slot ok is has fits mine broken

clock_unread : (ms : Members) (s : Scenario) (slot : ℕ) (f : Frame) → HasFrame ms f → clock_key ms ≡ keys.Clock
    → BrokenText ms (codes "clock") (extent_of f) slot → ReadsAs ms s → ⊥
clock_unread ms s slot f has key broken reads =
    let g = frame_of s in
    let same = one_frame ms g f reads.spelled.frame has in
    by_clock s.loads.alloc g ms s.clock broken.program slot (frame_rule ms g reads.spelled.frame)
    (frame_extent ms g reads.spelled.frame) reads.spelled.clock reads.clock key broken.means
    (subst (λ (h : Frame). IsFirstBroken broken.program (extent_of h) slot) (sym same) broken.broken)

-- ---- a load

some_at : (o : Option Data) (P : Data → Type 0) → IsSomeAnd o P → (v : Data) × (o ≡ Some v) × P v
some_at None P is = absurd is
some_at (Some v) P is = (v, refl, is)

load_at : (f : Frame) (reads : Data → LoadDraft → Type 0) (items : Items) (ls : List Load) (index : ℕ) (v : Data)
    → ReadsEach reads items (map load_draft ls) → Each (FitsLoad f) ls → item_at items index ≡ Some v
    → (l : Load) × reads v (load_draft l) × FitsLoad f l
load_at f reads no_items ls index v each fits at = absurd cc
load_at f reads (item w ws) [] index v each fits at = absurd each
load_at f reads (item w ws) (l ∷ ls) zero v each fits at =
    let same : w ≡ v = cc in
    (l, subst (λ (u : Data). reads u (load_draft l)) same each.0, fits.0)
load_at f reads (item w ws) (l ∷ ls) (suc index) v each fits at = load_at f reads ws ls index v each.1 fits.1 at

-- the load that is read there is the one that is refused
load_refused : (f : Frame) (c : Option (List Insn)) (slot : ℕ) (v : Data) (l : Load)
    → IsTable (SpelledLoad f c) v (load_draft l) → FitsLoad f l → IsTable (BrokenLoad f c) v slot → ⊥
load_refused f c slot (table ms) l spelled fits broken =
    let p = (load_draft l).program in
    let q = broken.load.program in
    let mine : MeansAt (get_member (codes "text") ms) p = subst (λ (k : Kind). IsProgramOf f c k ms p)
    (one_kind ms l.kind Asm spelled.named broken.named) spelled.program in
    let theirs : MeansAt (get_member (codes "text") ms) q = subst (λ (k : Kind). IsProgramOf f c k ms q)
    (one_kind ms broken.load.kind Asm broken.spelled.named broken.named) broken.spelled.program in
    broken_untypable q (extent_of f) slot broken.broken (subst (λ (r : List Insn). Typable r (extent_of f))
    (one_meaning (get_member (codes "text") ms) p q mine theirs) fits.1)
load_refused f c slot (array items) l spelled fits broken = absurd spelled
load_refused f c slot (string text) l spelled fits broken = absurd spelled
load_refused f c slot (integer n) l spelled fits broken = absurd spelled
load_refused f c slot (float x) l spelled fits broken = absurd spelled
load_refused f c slot (boolean b) l spelled fits broken = absurd spelled
load_refused f c slot (datetime d) l spelled fits broken = absurd spelled

by_loads : (f : Frame) (c : Option (List Insn)) (o : Option Data) (ls : List Load) (index slot : ℕ)
    → MayBeArray (IsTable (SpelledLoad f c)) o (map load_draft ls) → Each (FitsLoad f) ls
    → IsItemAt (IsTable (BrokenLoad f c)) o index slot → ⊥
by_loads f c None ls index slot each fits stands = absurd stands
by_loads f c (Some (array items)) ls index slot each fits stands =
    let there = some_at (item_at items index) (λ value. IsTable (BrokenLoad f c) value slot) stands in
    let one = load_at f (IsTable (SpelledLoad f c)) items ls index there.0 each fits there.1 in
    load_refused f c slot there.0 one.0 one.1 one.2 there.2
by_loads f c (Some (string text)) ls index slot each fits stands = absurd stands
by_loads f c (Some (integer n)) ls index slot each fits stands = absurd stands
by_loads f c (Some (float x)) ls index slot each fits stands = absurd stands
by_loads f c (Some (boolean b)) ls index slot each fits stands = absurd stands
by_loads f c (Some (datetime d)) ls index slot each fits stands = absurd stands
by_loads f c (Some (table ms)) ls index slot each fits stands = absurd stands

load_unread : (ms : Members) (s : Scenario) (index slot : ℕ) (f : Frame) (c : Option (List Insn)) → HasFrame ms f
    → SpellsClock f ms c → IsItemAt (IsTable (BrokenLoad f c)) (get_member (codes "load") ms) index slot
    → ReadsAs ms s → ⊥
load_unread ms s index slot f c has clock stands reads =
    let g = frame_of s in
    let d = (draft_of s).clock in
    let o = get_member (codes "load") ms in
    let same = one_frame ms g f reads.spelled.frame has in
    let mine = subst (λ (h : Frame). SpellsClock h ms d) same reads.spelled.clock in
    let both = one_clock s.loads.alloc f ms d c mine clock in
    let spelled = subst (λ (k : Option (List Insn)). MayBeArray (IsTable (SpelledLoad f k)) o
    (map load_draft s.loads.items))
    both (subst (λ (h : Frame). MayBeArray (IsTable (SpelledLoad h d)) o (map load_draft s.loads.items)) same
    reads.spelled.loads) in
    let fits = subst (λ (h : Frame). Each (FitsLoad h) s.loads.items) same
    (each_of_all (FitsLoad g) s.loads.items reads.typable) in
    by_loads f c o s.loads.items index slot spelled fits stands

pub refused_reads_as_none : RefusedReadsAsNone
refused_reads_as_none ms places.Top slot s broken reads = clock_unread ms s slot broken.0 broken.1 broken.2 broken.3 reads
refused_reads_as_none ms (places.Load index) slot s broken reads =
    load_unread ms s index slot broken.0 broken.1 broken.2 broken.3 broken.4 reads
refused_reads_as_none ms (places.Unload index) slot s broken reads = absurd broken.4
refused_reads_as_none ms (places.Corrupt index) slot s broken reads = absurd broken.4
refused_reads_as_none ms (places.Coin index) slot s broken reads = absurd broken.4
