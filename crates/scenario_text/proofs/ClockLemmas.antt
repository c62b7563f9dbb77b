-- A table has one clock at most.
use Rattle.std.proofs.Common.{◌≡◌, ℕ, List, refl, ap, sym, subst, ◌∙◌, inl, inr, Global}
use Rattle.std.specs.Prelude.{Option, Some, None, codes}
use Rattle.toml.specs.Data.{Data, array, string, integer, float, boolean, datetime, table, Members, get_member}
use Rattle.bpf_insn.specs.declared.forms.Insn.{Insn}
use Rattle.clock_nodes.specs.Listings.{clock_listing}
use Rattle.rule_programs.specs.Programs.{IsProgramOfText}
use Rattle.rule_programs.proofs.ProgramLemmas.{one_program}
use Rattle.scenario_text.specs.declared.scenario.ClockKey.{ClockKey}
use Rattle.scenario_text.specs.declared.scenario.ClockKey.TheVariants as keys
use Rattle.scenario_text.specs.declared.scenario.Frame.{Frame}
use Rattle.scenario_text.specs.Spelling.{SpellsClock, HasNoText, MeansAt, MeansClock, MeansRuleAt, clock_key, clock_rule_of, sizes_in}

-- a value means one program at most
pub one_meaning : (o : Option Data) (p q : List Insn) → MeansAt o p → MeansAt o q → p ≡ q
one_meaning None p q first second = absurd first
one_meaning (Some (string text)) p q first second = let same : Some p ≡ Some q = sym first.reads ∙ second.reads in cc
one_meaning (Some (integer n)) p q first second = absurd first
one_meaning (Some (float x)) p q first second = absurd first
one_meaning (Some (boolean b)) p q first second = absurd first
one_meaning (Some (datetime d)) p q first second = absurd first
one_meaning (Some (array items)) p q first second = absurd first
one_meaning (Some (table ms)) p q first second = absurd first

-- where there is no value, there is no meaning
pub none_meant : (o : Option Data) (p : List Insn) → o ≡ None → MeansAt o p → ⊥
none_meant o p none means = subst (λ o. MeansAt o p) none means

-- ---- rules

-- a value is the rule of one program at most
pub one_rule : (g : Global) (f : Frame) (o : Option Data) (p q : List Insn) → MeansRuleAt f o p → MeansRuleAt f o q → p ≡ q
one_rule g f None p q first second = absurd first
one_rule g f (Some (string text)) p q first second = one_program g (sizes_in f) text p q first second
one_rule g f (Some (integer n)) p q first second = absurd first
one_rule g f (Some (float x)) p q first second = absurd first
one_rule g f (Some (boolean b)) p q first second = absurd first
one_rule g f (Some (datetime d)) p q first second = absurd first
one_rule g f (Some (array items)) p q first second = absurd first
one_rule g f (Some (table ms)) p q first second = absurd first

no_rule : (f : Frame) (o : Option Data) (p : List Insn) → o ≡ None → MeansRuleAt f o p → ⊥
no_rule f o p none means = subst (λ o. MeansRuleAt f o p) none means

-- a text that is the rule of no program means none under its key
pub rule_excluded : (f : Frame) (o : Option Data) (text : List ℕ) (insns : List Insn) → o ≡ Some (string text)
    → ((p : List Insn) → IsProgramOfText (sizes_in f) text p → ⊥) → MeansRuleAt f o insns → ⊥
rule_excluded f o text insns held none means =
    none insns (subst (λ (p : Option Data). MeansRuleAt f p insns) held means)

-- ---- the text of the clock

pub one_text : (g : Global) (f : Frame) (key : ClockKey) (ms : Members) (p q : List Insn) → MeansClock f key ms p
    → MeansClock f key ms q → p ≡ q
one_text g f keys.Absent ms p q first second = absurd first
one_text g f keys.Clock ms p q first second = one_meaning (get_member (codes "clock") ms) p q first second
one_text g f keys.Rule ms p q first second = one_rule g f (get_member (codes "rule") ms) p q first second

pub none_there : (f : Frame) (key : ClockKey) (ms : Members) (p : List Insn) → HasNoText key ms
    → MeansClock f key ms p → ⊥
none_there f keys.Absent ms p none means = means
none_there f keys.Clock ms p none means = none_meant (get_member (codes "clock") ms) p none means
none_there f keys.Rule ms p none means = no_rule f (get_member (codes "rule") ms) p none means

-- a table has the built-in clock or another one
not_both : (g : Global) (f : Frame) (ms : Members) (p : List Insn) → SpellsClock f ms None → SpellsClock f ms (Some p) → ⊥
not_both g f ms p plain own =
    elim plain [
      | inl none ↦ none_there f (clock_key ms) ms p none own.0
      | inr means ↦ own.1 (one_text g f (clock_key ms) ms p (clock_listing (clock_rule_of f)) own.0 means)
    ]

pub one_clock : (g : Global) (f : Frame) (ms : Members) (a b : Option (List Insn)) → SpellsClock f ms a → SpellsClock f ms b → a ≡ b
one_clock g f ms None None first second = refl
one_clock g f ms None (Some q) first second = absurd (not_both g f ms q first second)
one_clock g f ms (Some p) None first second = absurd (not_both g f ms p second first)
one_clock g f ms (Some p) (Some q) first second =
    ap (λ p. Some p) (one_text g f (clock_key ms) ms p q first.0 second.0)

-- a text that is there and means nothing is no clock
pub no_clock : (f : Frame) (ms : Members) → (HasNoText (clock_key ms) ms → ⊥)
    → ((insns : List Insn) → MeansClock f (clock_key ms) ms insns → ⊥)
    → (clock : Option (List Insn)) → SpellsClock f ms clock → ⊥
no_clock f ms there none None has =
    elim has [ inl gone ↦ there gone | inr means ↦ none (clock_listing (clock_rule_of f)) means ]
no_clock f ms there none (Some insns) has = none insns has.0

-- ---- what the text of the clock makes

pub clock_is_rules : (f : Frame) (ms : Members) (key : ClockKey) (p : List Insn) → key ≡ clock_key ms
    → MeansClock f key ms p → p ≡ clock_listing (clock_rule_of f) → SpellsClock f ms None
clock_is_rules f ms key p held means same =
    inr (subst (λ (k : ClockKey). MeansClock f k ms (clock_listing (clock_rule_of f))) held
    (subst (λ (q : List Insn). MeansClock f key ms q) same means))

pub clock_is_own : (f : Frame) (ms : Members) (key : ClockKey) (p : List Insn) → key ≡ clock_key ms
    → MeansClock f key ms p → (p ≡ clock_listing (clock_rule_of f) → ⊥) → SpellsClock f ms (Some p)
clock_is_own f ms key p held means other = (subst (λ (k : ClockKey). MeansClock f k ms p) held means, other)
