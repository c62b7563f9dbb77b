-- The rules of a scenario, and their programs.
use Rattle.std.proofs.Common.{◌≡◌, ◌⊎◌, ℕ, zero, suc, List, [], ◌∷◌, Option, Some, None, option_map, map, All, Contains, refl, sym, ap, ◌∙◌, subst, arith, inl, inr, Global, slice_index_or}
use Rattle.bench_moves.proofs.Rows.{contains_mapped}
use Rattle.std.proofs.lemmas.List.Elements.{All-contains}
use Rattle.toml.specs.Data.{Data, string, Members, Items, item, no_items, array, table, get_member}
use Rattle.std.specs.Prelude.{Bool, IsTrue, Ok, codes, false, true}
use Rattle.bpf_insn.specs.declared.forms.Insn.{Insn}
use Rattle.program_commands.specs.RuleListing.{IsListingOf}
use Rattle.rule_syntax.specs.declared.syntax.Sizes.{Sizes}
use Rattle.program_commands.specs.Dis.{dis_text}
use Rattle.node_env.specs.Env.{Extent}
use Rattle.clock_nodes.specs.Listings.{clock_listing}
use Rattle.rule_nodes.specs.Ends.{sizes_of}
use Rattle.rule_programs.specs.Programs.{IsProgramOfText, IsRefusalOfText}
use Rattle.rule_programs.specs.declared.program.RuleRefusal.{RuleRefusal}
use Rattle.rule_programs.proofs.ProgramLemmas.{no_program, one_program}
use Rattle.scenario_text.specs.declared.scenario.ClockKey.{ClockKey}
use Rattle.scenario_text.specs.declared.scenario.ClockKey.TheVariants as keys
use Rattle.scenario_text.specs.declared.scenario.Frame.{Frame}
use Rattle.scenario_text.specs.declared.scenario.Kind.{Kind}
use Rattle.scenario_text.specs.declared.scenario.Kind.TheVariants.{Rule}
use Rattle.scenario_text.specs.declared.scenario.Load.{Load}
use Rattle.scenario_text.specs.declared.scenario.Scenario.{Scenario}
use Rattle.scenario_text.specs.Drafts.{LoadDraft, assembler_text, rule_text}
use Rattle.scenario_text.specs.Spelling.{SpellsClock, HasNoText, IsProgramOf, MeansClock, MeansRuleAt, SpelledLoad, clock_insns, clock_key, clock_draft, load_text, clock_rule_of, sizes_in}
use Rattle.scenario_text.specs.Tables.{IsTable, MayBeArray, ReadsEach, text_in, text_under}
use Rattle.scenario_text.specs.Texts.{ReadsText}
use Rattle.scenario_text.specs.Views.{draft_of, extent_of, frame_of, load_draft}
use Rattle.run_commands.specs.NodeRule.{IsProgramText, IsRuleOf, IsRuleWith, clock_rule_text, load_rule, sizes_for}
use Rattle.run_commands.specs.inner.NodeRule.{ClockHas, LoadHas}

nothing : {A : Type 0} {a : A} → None ≡ Some a → ⊥
nothing none = absurd cc

some_same : {A : Type 0} (a b : A) → Some a ≡ Some b → a ≡ b
some_same a b same = cc

-- ---- the clock

no_assembler : (o : Option (List ℕ)) (text : List ℕ) → clock_rule_text (option_map assembler_text o) ≡ Some text → ⊥
no_assembler None text is = nothing is
no_assembler (Some other) text is = nothing is

rule_held : (o : Option Data) (text : List ℕ) → clock_rule_text (option_map rule_text (text_in o)) ≡ Some text
    → o ≡ Some (string text)
rule_held None text is = absurd (nothing is)
rule_held (Some (string other)) text is = ap (λ (t : List ℕ). Some (string t)) (some_same other text is)
rule_held (Some _) text is = absurd (nothing is)

means_rule : (f : Frame) (o : Option Data) (text : List ℕ) (program : List Insn) → o ≡ Some (string text)
    → MeansRuleAt f o program → IsProgramOfText (sizes_in f) text program
means_rule f o text program held means = subst (λ (x : Option Data). MeansRuleAt f x program) held means

clock_of_rule : (f : Frame) (o : Option Data) (text : List ℕ) (program : List Insn) (clock : Option (List Insn))
    → o ≡ Some (string text) → program ≡ clock_insns f clock
    → ((clock ≡ None → (o ≡ None) ⊎ MeansRuleAt f o (clock_listing (clock_rule_of f)))
    × ((insns : List Insn) → clock ≡ Some insns → MeansRuleAt f o insns))
    → IsProgramOfText (sizes_in f) text program
clock_of_rule f o text program None held is by = elim (by.0 refl) [
  | inl none ↦ absurd (nothing (sym none ∙ held))
  | inr means ↦ subst (IsProgramOfText (sizes_in f) text) (sym is)
      (means_rule f o text (clock_listing (clock_rule_of f)) held means)
]
clock_of_rule f o text program (Some insns) held is by =
    subst (IsProgramOfText (sizes_in f) text) (sym is) (means_rule f o text insns held (by.1 insns refl))

abbrev HasClockBy : Frame → ClockKey → Members → Option (List Insn) → Type 0
HasClockBy f key ms None = HasNoText key ms ⊎ MeansClock f key ms (clock_listing (clock_rule_of f))
HasClockBy f key ms (Some insns) = MeansClock f key ms insns × (insns ≡ clock_listing (clock_rule_of f) → ⊥)

has_by : (f : Frame) (ms : Members) (clock : Option (List Insn)) → SpellsClock f ms clock
    → HasClockBy f (clock_key ms) ms clock
has_by f ms None has = has
has_by f ms (Some insns) has = has

by_key : (f : Frame) (key : ClockKey) (ms : Members) (clock : Option (List Insn)) (text : List ℕ)
    (program : List Insn) → clock_rule_text (clock_draft key ms) ≡ Some text → HasClockBy f key ms clock
    → program ≡ clock_insns f clock → IsProgramOfText (sizes_in f) text program
by_key f keys.Absent ms clock text program is has same = absurd (nothing is)
by_key f keys.Clock ms clock text program is has same =
    absurd (no_assembler (text_under (codes "clock") ms) text is)
by_key f keys.Rule ms None text program is has same =
    clock_of_rule f (get_member (codes "rule") ms) text program None
    (rule_held (get_member (codes "rule") ms) text is) same (λ none. has, λ insns some. absurd (nothing some))
by_key f keys.Rule ms (Some own) text program is has same =
    clock_of_rule f (get_member (codes "rule") ms) text program (Some own)
    (rule_held (get_member (codes "rule") ms) text is) same (
      λ none. absurd (nothing (sym none)),
      λ insns some. subst (MeansRuleAt f (get_member (codes "rule") ms)) (some_same own insns some) has.0,
    )

-- the program of the clock is that of its rule
pub clock_means : (s : Scenario) (input text : List ℕ) (program : List Insn) → ReadsText input s
    → clock_rule_text (draft_of s).clock_text ≡ Some text → program ≡ clock_insns (frame_of s) (draft_of s).clock
    → IsProgramOfText (sizes_for s) text program
clock_means s input text program reads is same =
    let spelled = reads.2.spelled in
    by_key (frame_of s) (clock_key reads.0) reads.0 (draft_of s).clock text program
    (ap clock_rule_text (sym spelled.clock_text) ∙ is)
    (has_by (frame_of s) reads.0 (draft_of s).clock spelled.clock) same

-- ---- loads

abbrev IsSpelled : Frame → Option (List Insn) → Load → Type 0
IsSpelled f clock load = (ms : Members) × SpelledLoad f clock ms (load_draft load)

spelled_in : (f : Frame) (clock : Option (List Insn)) (d : Data) (load : Load)
    → IsTable (SpelledLoad f clock) d (load_draft load) → IsSpelled f clock load
spelled_in f clock (table ms) load is = (ms, is)
spelled_in f clock _ load is = absurd is

each_spelled : (f : Frame) (clock : Option (List Insn)) (items : Items) (loads : List Load)
    → ReadsEach (IsTable (SpelledLoad f clock)) items (map load_draft loads) → All (IsSpelled f clock) loads
each_spelled f clock no_items [] read k d lt = absurd (omega (arith, lt))
each_spelled f clock no_items (load ∷ loads) read k d lt = absurd read
each_spelled f clock (item x items) [] read k d lt = absurd read
each_spelled f clock (item x items) (load ∷ loads) read zero d lt = spelled_in f clock x load read.0
each_spelled f clock (item x items) (load ∷ loads) read (suc k) d lt =
    each_spelled f clock items loads read.1 k d (omega (arith, lt))

no_loads : (f : Frame) (clock : Option (List Insn)) (loads : List Load) → map load_draft loads ≡ []
    → All (IsSpelled f clock) loads
no_loads f clock [] none k d lt = absurd (omega (arith, lt))
no_loads f clock (load ∷ loads) none k d lt = absurd cc

loads_spelled : (f : Frame) (clock : Option (List Insn)) (o : Option Data) (loads : List Load)
    → MayBeArray (IsTable (SpelledLoad f clock)) o (map load_draft loads) → All (IsSpelled f clock) loads
loads_spelled f clock None loads read = no_loads f clock loads read
loads_spelled f clock (Some (array items)) loads read = each_spelled f clock items loads read
loads_spelled f clock (Some _) loads read = absurd read

text_held : (o : Option Data) (text : List ℕ) → text_in o ≡ Some text → o ≡ Some (string text)
text_held None text is = absurd (nothing is)
text_held (Some (string other)) text is = ap (λ (t : List ℕ). Some (string t)) (some_same other text is)
text_held (Some _) text is = absurd (nothing is)

by_kind : (f : Frame) (clock : Option (List Insn)) (kind : Kind) (ms : Members) (held : Option (List ℕ))
    (text : List ℕ) (program : List Insn) → load_rule kind held ≡ Some text → held ≡ load_text kind ms
    → IsProgramOf f clock kind ms program → IsProgramOfText (sizes_in f) text program
by_kind f clock Rule ms held text program is was means =
    means_rule f (get_member (codes "text") ms) text program
    (text_held (get_member (codes "text") ms) text (sym was ∙ is)) means
by_kind f clock _ ms held text program is was means = absurd (nothing is)

-- the program of a load is that of its rule
pub loads_mean : (s : Scenario) (input : List ℕ) → ReadsText input s
    → All (λ load. (text : List ℕ) → load_rule load.kind (load_draft load).text ≡ Some text
    → IsProgramOfText (sizes_for s) text load.program.program) s.loads.items
loads_mean s input reads k d lt text is =
    let f = frame_of s in
    let clock = (draft_of s).clock in
    let load = slice_index_or s.loads.items k d in
    let one = loads_spelled f clock (get_member (codes "load") reads.0) s.loads.items reads.2.spelled.loads k d lt in
    by_kind f clock load.kind one.0 (load_draft load).text text load.program.program is one.1.text one.1.program

-- ---- which rule has a program

sizes_same : (s : Scenario) (shape : Extent) → shape ≡ extent_of (frame_of s)
    → sizes_of shape s.faults s.modulus ≡ sizes_for s
sizes_same s shape same = ap (λ (e : Extent). sizes_of e s.faults s.modulus) same

-- a rule that has a program isn't refused
pub not_refused : (g : Global) (s : Scenario) (shape : Extent) (program : List Insn) (text : List ℕ) (e : RuleRefusal)
    → shape ≡ extent_of (frame_of s) → IsRuleWith s program text
    → IsRefusalOfText (sizes_of shape s.faults s.modulus) text e → ⊥
not_refused g s shape program text e same rule refused =
    no_program g (sizes_for s) text e program
    (subst (λ z. IsRefusalOfText z text e) (sizes_same s shape same) refused) rule.1

load_at : (loads : List Load) (d : LoadDraft) → Contains (map load_draft loads) d
    → (load : Load) × Contains loads load × (load_draft load ≡ d)
load_at [] d there = absurd (let lt = there.1 in omega (arith, lt))
load_at (load ∷ loads) d (zero, lt, is) = (load, (0, omega arith, refl), is)
load_at (load ∷ loads) d (suc k, lt, is) =
    let rest = load_at loads d (k, omega (arith, lt), is) in
    let at = rest.1 in
    let less = at.1 in
    (rest.0, (suc at.0, omega (arith, less), at.2), rest.2)

-- no load has it
abbrev pub IsOther : List Insn → Load → Type 0
IsOther program load = (text : List ℕ) → LoadHas load program text → ⊥

-- a rule of the clock
pub clock_has : (s : Scenario) (input text : List ℕ) (program : List Insn) → ReadsText input s
    → ClockHas s program text → IsRuleWith s program text
clock_has s input text program reads has =
    (inl has.rule, clock_means s input text program reads has.rule has.has)

-- a rule of the load at this place
pub load_has : (s : Scenario) (input text : List ℕ) (program : List Insn) (load : Load) → ReadsText input s
    → Contains s.loads.items load → LoadHas load program text → IsRuleWith s program text
load_has s input text program load reads there has =
    let means = All-contains (λ (l : Load). (t : List ℕ) → load_rule l.kind (load_draft l).text ≡ Some t
    → IsProgramOfText (sizes_for s) t l.program.program) s.loads.items load (loads_mean s input reads) there text
    has.rule in (
      inr (load_draft load, contains_mapped load_draft s.loads.items load there, has.rule),
      subst (IsProgramOfText (sizes_for s) text) (sym has.has) means,
    )

-- neither the clock nor a load
pub no_rule : (g : Global) (s : Scenario) (input : List ℕ) (program : List Insn) → ReadsText input s
    → ((text : List ℕ) → ClockHas s program text → ⊥) → All (IsOther program) s.loads.items
    → IsRuleOf s program None
no_rule g s input program reads clock loads text rule = elim rule.0 [
  | inl is ↦ clock text (record {
    rule = is;
    has = one_program g (sizes_for s) text program (clock_insns (frame_of s) (draft_of s).clock) rule.1
        (clock_means s input text (clock_insns (frame_of s) (draft_of s).clock) reads is refl);
  })
  | inr of_load ↦ by_load of_load
]
  where
    by_load : (load : LoadDraft) × Contains (draft_of s).loads load × (load_rule load.kind load.text ≡ Some text) → ⊥
    by_load h =
        let at = load_at s.loads.items h.0 h.1 in
        let is : load_rule at.0.kind (load_draft at.0).text ≡ Some text =
        ap (λ (d : LoadDraft). load_rule d.kind d.text) at.2 ∙ h.2 in
        All-contains (IsOther program) s.loads.items at.0 loads at.1 text (record {
          rule = is;
          has = one_program g (sizes_for s) text program at.0.program.program rule.1
              (All-contains (λ (load : Load). (t : List ℕ) → load_rule load.kind (load_draft load).text ≡ Some t
              → IsProgramOfText (sizes_for s) t load.program.program) s.loads.items at.0 (loads_mean s input reads)
              at.1 text is);
        })

-- ---- texts of programs

-- of a program that no rule has
pub plain_text : (z : Sizes) (program : List Insn) (list : Bool) (told : List ℕ)
    → told ≡ dis_text list program → IsProgramText z program None list told
plain_text z program false told is = is
plain_text z program true told is = is

-- of a rule's program
pub listed_text : (z : Sizes) (program : List Insn) (text : List ℕ) (list : Bool) (told : List ℕ) → IsTrue list
    → IsListingOf z text program told → IsProgramText z program (Some text) list told
listed_text z program text false told asked is = let no : false ≡ true = asked in absurd cc
listed_text z program text true told asked is = is

pub unlisted_text : (z : Sizes) (program : List Insn) (text : List ℕ) (list : Bool) (told : List ℕ)
    → (IsTrue list → ⊥) → told ≡ dis_text false program → IsProgramText z program (Some text) list told
unlisted_text z program text false told unasked is = is
unlisted_text z program text true told unasked is = absurd (unasked refl)
