-- A text reads as one scenario at most.
use Rattle.std.proofs.Common.{◌≡◌, ℕ, List, [], ◌∷◌, map, refl, ap, ap₂, sym, subst, ◌∙◌, Global}
use Rattle.std.specs.Prelude.{Option, Some, None, IfSome, codes, pos, negsuc, option_map}
use Rattle.toml.specs.Data.{Data, Items, no_items, item, array, string, integer, float, boolean, datetime, table, Members, get_member}
use Rattle.bpf_insn.specs.declared.forms.Insn.{Insn}
use Rattle.bpf_verify.specs.Accepted.{Accepted}
use Rattle.bpf_verify.specs.Paths.{IsLongestPath}
use Rattle.bpf_verify.proofs.VerdictLaws.{one_longest}
use Rattle.clock_nodes.specs.Listings.{say_listing}
use Rattle.scenario_text.specs.declared.scenario.Coins.{Coins}
use Rattle.scenario_text.specs.declared.scenario.Coins.TheVariants.{Zeros, Ones, Chacha}
use Rattle.scenario_text.specs.declared.scenario.CoinEntry.{CoinEntry}
use Rattle.scenario_text.specs.declared.scenario.Frame.{Frame}
use Rattle.scenario_text.specs.declared.scenario.Kind.{Kind}
use Rattle.scenario_text.specs.declared.scenario.Kind.TheVariants.{Clock, Say, Echo, Asm, Rule, Noise}
use Rattle.scenario_text.specs.declared.scenario.Load.{Load}
use Rattle.scenario_text.specs.declared.scenario.Scenario.{Scenario}
use Rattle.scenario_text.specs.declared.scenario.Unload.{Unload}
use Rattle.scenario_text.specs.Drafts.{CorruptDraft, Draft, LoadDraft}
use Rattle.scenario_text.specs.Laws.{OneScenario}
use Rattle.scenario_text.specs.Spelling.{HasKey, IsProgramOf, IsSaid, Spelled, SpelledCoin, SpelledCorrupt, SpelledLoad, SpelledUnload, SpellsClock, load_text}
use Rattle.scenario_text.specs.Tables.{IsArray, IsNumber, IsTable, MayBeArray, ReadsEach}
use Rattle.scenario_text.specs.Texts.{ReadsText}
use Rattle.scenario_text.specs.Views.{FitsFrame, FitsLoad, draft_of, frame_of, load_draft}
use Rattle.scenario_text.proofs.ClockLemmas.{one_clock, one_meaning, one_rule}
use Rattle.scenario_text.proofs.EntryLemmas.{Each, loads_fit}
use Rattle.scenario_text.proofs.FrameLemmas.{one_frame, one_number}
use Rattle.scenario_text.proofs.NameLemmas.{nothing, one_coins, one_kind}

-- ---- arrays

-- what each value is read as
abbrev One : {A : Type 0} → (Data → A → Type 0) → Type 0
One {A} reads = (v : Data) (x y : A) → reads v x → reads v y → x ≡ y

one_each : {A : Type 0} (reads : Data → A → Type 0) → One reads → (items : Items) (xs ys : List A)
    → ReadsEach reads items xs → ReadsEach reads items ys → xs ≡ ys
one_each reads one no_items [] [] read other = refl
one_each reads one no_items (x ∷ xs) ys read other = absurd read
one_each reads one no_items [] (y ∷ ys) read other = absurd other
one_each reads one (item v vs) [] ys read other = absurd read
one_each reads one (item v vs) (x ∷ xs) [] read other = absurd other
one_each reads one (item v vs) (x ∷ xs) (y ∷ ys) read other =
    ap₂ (λ a rest. a ∷ rest) (one v x y read.0 other.0) (one_each reads one vs xs ys read.1 other.1)

one_array : {A : Type 0} (reads : Data → A → Type 0) → One reads → (o : Option Data) (xs ys : List A)
    → IsArray reads o xs → IsArray reads o ys → xs ≡ ys
one_array reads one None xs ys read other = absurd read
one_array reads one (Some (array items)) xs ys read other = one_each reads one items xs ys read other
one_array reads one (Some (string text)) xs ys read other = absurd read
one_array reads one (Some (integer n)) xs ys read other = absurd read
one_array reads one (Some (float z)) xs ys read other = absurd read
one_array reads one (Some (boolean b)) xs ys read other = absurd read
one_array reads one (Some (datetime t)) xs ys read other = absurd read
one_array reads one (Some (table ms)) xs ys read other = absurd read

maybe_array : {A : Type 0} (reads : Data → A → Type 0) → One reads → (o : Option Data) (xs ys : List A)
    → MayBeArray reads o xs → MayBeArray reads o ys → xs ≡ ys
maybe_array reads one None xs ys read other = read ∙ sym other
maybe_array reads one (Some (array items)) xs ys read other = one_each reads one items xs ys read other
maybe_array reads one (Some (string text)) xs ys read other = absurd read
maybe_array reads one (Some (integer n)) xs ys read other = absurd read
maybe_array reads one (Some (float z)) xs ys read other = absurd read
maybe_array reads one (Some (boolean b)) xs ys read other = absurd read
maybe_array reads one (Some (datetime t)) xs ys read other = absurd read
maybe_array reads one (Some (table ms)) xs ys read other = absurd read

one_table : {A : Type 0} (reads : Members → A → Type 0)
    → ((ms : Members) (x y : A) → reads ms x → reads ms y → x ≡ y) → One (IsTable reads)
one_table reads one (table ms) x y read other = one ms x y read other
one_table reads one (array items) x y read other = absurd read
one_table reads one (string text) x y read other = absurd read
one_table reads one (integer n) x y read other = absurd read
one_table reads one (float z) x y read other = absurd read
one_table reads one (boolean b) x y read other = absurd read
one_table reads one (datetime t) x y read other = absurd read

-- ---- values

one_in_range : (low high : ℕ) → One (IsNumber low high)
one_in_range low high v m n read other =
    let same : integer (pos m) ≡ integer (pos n) = sym read.0 ∙ other.0 in
    cc

one_said : One IsSaid
one_said v (Some m) (Some n) read other = ap (λ k. Some k) (one_in_range _ _ v m n read other)
one_said v (Some m) None read other =
    let same : integer (pos m) ≡ integer (negsuc 0) = sym read.0 ∙ other in
    absurd cc
one_said v None (Some n) read other =
    let same : integer (negsuc 0) ≡ integer (pos n) = sym read ∙ other.0 in
    absurd cc
one_said v None None read other = refl

no_key : (ms : Members) (coins : Coins) → HasKey ms coins None → get_member (codes "key") ms ≡ None
no_key ms Zeros has = has
no_key ms Ones has = has
no_key ms Chacha has = absurd has

one_key : (ms : Members) (coins other : Coins) (a b : Option ℕ) → HasKey ms coins a → HasKey ms other b → a ≡ b
one_key ms coins other (Some a) (Some b) has mine = ap (λ k. Some k) (one_number ms (codes "key") _ _ _ _ a b has mine)
one_key ms coins other None (Some b) has mine = absurd (nothing (sym (no_key ms coins has) ∙ mine.0))
one_key ms coins other (Some a) None has mine = absurd (nothing (sym (no_key ms other mine) ∙ has.0))
one_key ms coins other None None has mine = refl

-- ---- entries

one_program_of : (g : Global) (f : Frame) (c : Option (List Insn)) (k : Kind) (ms : Members) (p q : List Insn)
    → IsProgramOf f c k ms p → IsProgramOf f c k ms q → p ≡ q
one_program_of g f c Clock ms p q read other = read ∙ sym other
one_program_of g f c Say ms p q (values, are, long, is) (others, hold, size, has) =
    is ∙ (ap say_listing (one_array IsSaid one_said (get_member (codes "values") ms) values others are hold) ∙ sym has)
one_program_of g f c Echo ms p q read other = read ∙ sym other
one_program_of g f c Asm ms p q read other = one_meaning (get_member (codes "text") ms) p q read other
one_program_of g f c Rule ms p q read other = one_rule g f (get_member (codes "text") ms) p q read other
one_program_of g f c Noise ms p q read other = read ∙ sym other

one_load : (g : Global) (f : Frame) (c : Option (List Insn)) (ms : Members) (x y : LoadDraft) → SpelledLoad f c ms x
    → SpelledLoad f c ms y → x ≡ y
one_load g f c ms x y read other =
    let kind = one_kind ms x.kind y.kind read.named other.named in
    let program = one_program_of g f c y.kind ms x.program y.program
    (subst (λ (k : Kind). IsProgramOf f c k ms x.program) kind read.program) other.program in
    λ k. record {
      pulse = one_number ms (codes "pulse") _ _ _ _ x.pulse y.pulse read.pulse other.pulse k;
      nodes = one_array _ (one_in_range 0 _) (get_member (codes "nodes") ms) x.nodes y.nodes read.nodes other.nodes k;
      kind = kind k;
      text = (read.text ∙ (ap (λ k. load_text k ms) kind ∙ sym other.text)) k;
      program = program k;
    }

one_unload : (f : Frame) (ms : Members) (x y : Unload) → SpelledUnload f ms x → SpelledUnload f ms y → x ≡ y
one_unload f ms x y read other = λ k. record {
  pulse = one_number ms (codes "pulse") _ _ _ _ x.pulse y.pulse read.pulse other.pulse k;
  node = one_number ms (codes "node") _ _ _ _ x.node y.node read.node other.node k;
}

one_corrupt : (f : Frame) (ms : Members) (x y : CorruptDraft) → SpelledCorrupt f ms x → SpelledCorrupt f ms y → x ≡ y
one_corrupt f ms x y read other = λ k. record {
  pulse = one_number ms (codes "pulse") _ _ _ _ x.pulse y.pulse read.pulse other.pulse k;
  node = one_number ms (codes "node") _ _ _ _ x.node y.node read.node other.node k;
  image = one_array _ (one_in_range 0 255) (get_member (codes "image") ms) x.image y.image read.image other.image k;
}

one_coin : (f : Frame) (ms : Members) (x y : CoinEntry) → SpelledCoin f ms x → SpelledCoin f ms y → x ≡ y
one_coin f ms x y read other = λ k. record {
  pulse = one_number ms (codes "pulse") _ _ _ _ x.pulse y.pulse read.pulse other.pulse k;
  node = one_number ms (codes "node") _ _ _ _ x.node y.node read.node other.node k;
  value = one_number ms (codes "value") _ _ _ _ x.value y.value read.value other.value k;
}

-- ---- the whole

one_draft : (g : Global) (ms : Members) (d e : Draft) → Spelled ms d → Spelled ms e → d ≡ e
one_draft g ms d e first second =
    let f = d.frame in
    let framed = one_frame ms d.frame e.frame first.frame second.frame in
    let mine = subst (λ (h : Frame). SpellsClock h ms e.clock) (sym framed) second.clock in
    let clocked = one_clock g f ms d.clock e.clock first.clock mine in
    let load = get_member (codes "load") ms in
    let unload = get_member (codes "unload") ms in
    let corrupt = get_member (codes "corrupt") ms in
    let coin = get_member (codes "coin") ms in
    let loads = subst (λ (c : Option (List Insn)). MayBeArray (IsTable (SpelledLoad f c)) load e.loads) (sym clocked)
    (subst (λ (h : Frame). MayBeArray (IsTable (SpelledLoad h e.clock)) load e.loads) (sym framed) second.loads) in
    let unloads = subst (λ (h : Frame). MayBeArray (IsTable (SpelledUnload h)) unload e.unloads) (sym framed)
    second.unloads in
    let corruptions = subst (λ (h : Frame). MayBeArray (IsTable (SpelledCorrupt h)) corrupt e.corruptions) (sym framed)
    second.corruptions in
    let entries = subst (λ (h : Frame). MayBeArray (IsTable (SpelledCoin h)) coin e.entries) (sym framed)
    second.entries in
    λ k. record {
      frame = framed k;
      coins = one_coins ms d.coins e.coins first.coins second.coins k;
      key = one_key ms d.coins e.coins d.key e.key first.key second.key k;
      clock_text = (first.clock_text ∙ sym second.clock_text) k;
      clock = clocked k;
      loads = maybe_array _ (one_table _ (one_load g f d.clock)) load d.loads e.loads first.loads loads k;
      unloads = maybe_array _ (one_table _ (one_unload f)) unload d.unloads e.unloads first.unloads unloads k;
      corruptions = maybe_array _ (one_table _ (one_corrupt f)) corrupt d.corruptions e.corruptions first.corruptions
          corruptions k;
      entries = maybe_array _ (one_table _ (one_coin f)) coin d.entries e.entries first.entries entries k;
    }

-- ---- accepted programs

one_accepted : (f : Frame) (p q : Accepted) → FitsFrame f p → FitsFrame f q → p.program ≡ q.program → p ≡ q
one_accepted f p q mine theirs same =
    let shape : p.shape ≡ q.shape = mine.0 ∙ sym theirs.0 in
    let budget : p.budget ≡ q.budget = one_longest p.program p.budget q.budget mine.2
    (subst (λ (insns : List Insn). IsLongestPath insns q.budget) (sym same) theirs.2) in
    λ k. record { program = same k; shape = shape k; budget = budget k }

one_own : (f : Frame) (mine theirs : Option Accepted) → IfSome mine (FitsFrame f) → IfSome theirs (FitsFrame f)
    → option_map (λ v. v.program) mine ≡ option_map (λ v. v.program) theirs → mine ≡ theirs
one_own f None None fits fit same = refl
one_own f None (Some q) fits fit same = absurd (nothing same)
one_own f (Some p) None fits fit same = absurd (nothing (sym same))
one_own f (Some p) (Some q) fits fit same =
    let insns : p.program ≡ q.program = cc in
    ap (λ v. Some v) (one_accepted f p q fits fit insns)

one_programs : (f : Frame) (ls ms : List Load) → Each (FitsLoad f) ls → Each (FitsLoad f) ms
    → map load_draft ls ≡ map load_draft ms → map (λ l. l.program) ls ≡ map (λ l. l.program) ms
one_programs f [] [] fits fit same = refl
one_programs f [] (m ∷ ms) fits fit same = absurd cc
one_programs f (l ∷ ls) [] fits fit same = absurd cc
one_programs f (l ∷ ls) (m ∷ ms) fits fit same =
    let head : load_draft l ≡ load_draft m = cc in
    let tail : map load_draft ls ≡ map load_draft ms = cc in
    ap₂ (λ (p : Accepted) ps. p ∷ ps)
    (one_accepted f l.program m.program fits.0 fit.0 (ap (λ (d : LoadDraft). d.program) head))
    (one_programs f ls ms fits.1 fit.1 tail)

-- ---- a text

one_plain : (text : List ℕ) (s other : Scenario) → ReadsText text s → ReadsText text other → draft_of s ≡ draft_of other
one_plain text s other (members, document, reads) (others, same, read) =
    let both : Some members ≡ Some others = sym document.2 ∙ same.2 in
    let table : members ≡ others = cc in
    one_draft s.loads.alloc members (draft_of s) (draft_of other) reads.spelled
    (subst (λ (ms : Members). Spelled ms (draft_of other)) (sym table) read.spelled)

pub one_scenario : OneScenario
one_scenario text s other reads read =
    let plain = one_plain text s other reads read in
    let f = frame_of s in
    let frames : f ≡ frame_of other = ap (λ (d : Draft). d.frame) plain in
    let clock = subst (λ (g : Frame). IfSome other.clock (FitsFrame g)) (sym frames) read.2.clock in
    let fit = subst (λ (g : Frame). Each (FitsLoad g) other.loads.items) (sym frames) (loads_fit text other read) in
    record {
      plain = plain;
      clock = one_own f s.clock other.clock reads.2.clock clock (ap (λ (d : Draft). d.clock) plain);
      programs = one_programs f s.loads.items other.loads.items (loads_fit text s reads) fit
          (ap (λ (d : Draft). d.loads) plain);
    }
