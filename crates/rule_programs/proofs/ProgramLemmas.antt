-- A text has one program at most, and none if it is refused.
use Rattle.std.proofs.Common.{◌≡◌, ◌<◌, ℕ, List, length, ap, sym, subst, ◌∙◌, arith, Global}
use Rattle.std.specs.Prelude.{Result, Ok, Err, IfOk, IfErr}
use Rattle.bpf_insn.specs.declared.forms.Insn.{Insn}
use Rattle.bpf_insn.specs.declared.listing.TheConstants.{MAX_SLOTS}
use Rattle.rule_nodes.specs.Code.{rule_code}
use Rattle.rule_syntax.specs.declared.syntax.Sizes.{Sizes}
use Rattle.rule_programs.specs.declared.program.RuleRefusal.{RuleRefusal}
use Rattle.rule_programs.specs.declared.program.RuleRefusal.TheVariants.{Text, NoRoom, TooLong}
use Rattle.rule_text.specs.declared.rule.Rule.{Rule}
use Rattle.rule_programs.specs.Programs.{HasRoom, IsProgramOfText, IsRefusalOfRule, IsRefusalOfText}
use Rattle.rule_text.specs.Rules.{rule_form}
use Rattle.rule_text.specs.Statements.{RuleForm, rule_read}
use Rattle.rule_programs.proofs.Rebuilt.{same_code, same_fit}

-- a text is read as rules of one form
one_form : (text : List ℕ) (a b : Rule) → rule_read text ≡ Ok (rule_form a) → rule_read text ≡ Ok (rule_form b)
    → rule_form a ≡ rule_form b
one_form text a b first second = let both = sym first ∙ second in cc

codes_agree : (g : Global) (a b : Rule) (z : Sizes) → rule_form a ≡ rule_form b
    → rule_code a.statement z ≡ rule_code b.statement z
codes_agree g a b z same = same_code g a.statement b.statement z (ap (λ (f : RuleForm). f.statement) same)

room_agrees : (g : Global) (a b : Rule) (z : Sizes) → rule_form a ≡ rule_form b → HasRoom z a → HasRoom z b
room_agrees g a b z same room =
    let words : a.words ≡ b.words = ap (λ (f : RuleForm). f.words) same in
    let fits = room.words in
    record {
      words = omega arith;
      places = same_fit g a.statement b.statement z (ap (λ (f : RuleForm). f.statement) same) room.places;
    }

pub one_program : (g : Global) (z : Sizes) (text : List ℕ) (p q : List Insn) → IsProgramOfText z text p → IsProgramOfText z text q
    → p ≡ q
one_program g z text p q first second =
    let same = one_form text first.0 second.0 first.1 second.1 in
    first.2.code ∙ (codes_agree g first.0 second.0 z same ∙ sym second.2.code)

pub no_program : (g : Global) (z : Sizes) (text : List ℕ) (e : RuleRefusal) (p : List Insn) → IsRefusalOfText z text e
    → IsProgramOfText z text p → ⊥
no_program g z text (Text error line column) p refused is = let both = sym refused ∙ is.1 in absurd cc
no_program g z text NoRoom p refused is =
    let same = one_form text is.0 refused.0 is.1 refused.1 in
    refused.2 (room_agrees g is.0 refused.0 z same is.2.room)
no_program g z text TooLong p refused is =
    let same = one_form text is.0 refused.0 is.1 refused.1 in
    let code : p ≡ rule_code refused.0.statement z = is.2.code ∙ codes_agree g is.0 refused.0 z same in
    let long : MAX_SLOTS < length p = subst (λ (c : List Insn). MAX_SLOTS < length c) (sym code) refused.2 in
    let short = is.2.short in
    omega arith

-- a refusal of the rule that the text is
refused_text : (z : Sizes) (text : List ℕ) (rule : Rule) (e : RuleRefusal) → rule_read text ≡ Ok (rule_form rule)
    → IsRefusalOfRule z rule e → IsRefusalOfText z text e
refused_text z text rule (Text error line column) reads refused = absurd refused
refused_text z text rule NoRoom reads refused = (rule, reads, refused)
refused_text z text rule TooLong reads refused = (rule, reads, refused)

pub none_of_rule : {P E : Type 0} (g : Global) (z : Sizes) (text : List ℕ) (rule : Rule) (r : Result (Result P RuleRefusal) E)
    → rule_read text ≡ Ok (rule_form rule) → IfOk r (λ made. IfErr made (IsRefusalOfRule z rule))
    → IfOk r (λ made. IfErr made (λ (e : RuleRefusal). (p : List Insn) → IsProgramOfText z text p → ⊥))
none_of_rule g z text rule (Ok (Ok made)) reads refused = tt
none_of_rule g z text rule (Ok (Err e)) reads refused =
    λ p is. no_program g z text e p (refused_text z text rule e reads refused) is
none_of_rule g z text rule (Err e) reads refused = tt
