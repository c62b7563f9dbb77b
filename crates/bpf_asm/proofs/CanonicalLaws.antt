-- The canonical text is read back.
use Rattle.std.proofs.Common.{◌≡◌, ℕ, ℤ, pos, negsuc, ◌+◌, ◌<◌, ◌≤◌, ◌^◌, Bool, true, false, cond, List, [], ◌∷◌, ◌++◌, length, map, refl, sym, ap, ◌∙◌, append_assoc, arith, suc, inl, inr, codes}
use Rattle.std.specs.Prelude.{◌&&◌, ◌==◌, not, nat_lt, option_map, Option, Some, None, FitsSigned}
use Rattle.std.specs.Option.{option_and_then}
use Rattle.std.specs.Int.{w16, w32}
use Rattle.std.specs.List.{list_all, find, AllByRecursion}
use Rattle.std.specs.Str.{bytes_eq}
use Rattle.std.specs.Fmt.{decimal, signed_decimal}
use Rattle.std.proofs.lemmas.Bool.{lt-ltb, false≢true}
use Rattle.std.proofs.lemmas.Fmt.{decimal_is_IsNumeral}
use Rattle.bpf_insn.specs.declared.forms.Reg.{Reg}
use Rattle.bpf_insn.specs.declared.forms.Reg.TheVariants.{R0, R1, R2, R3, R4, R5, R6, R7, R8, R9, R10}
use Rattle.bpf_insn.specs.declared.forms.Operand.{Operand}
use Rattle.bpf_insn.specs.declared.forms.Operand.TheVariants as operands
use Rattle.bpf_insn.specs.declared.forms.Insn.{Insn}
use Rattle.bpf_insn.specs.declared.forms.Insn.TheVariants as insn
use Rattle.bpf_insn.specs.Encoding.{InRange, slots_taken}
use Rattle.bpf_insn.specs.Programs.{IsProgram}
use Rattle.bpf_asm.specs.declared.words.Form.{Form}
use Rattle.bpf_asm.specs.declared.words.Form.TheVariants as forms
use Rattle.bpf_asm.specs.declared.forms.TheConstants.{FORMS}
use Rattle.node_env.specs.declared.helper.Helper.{Helper}
use Rattle.node_env.specs.declared.helper.Helper.TheVariants.{Id, Recv, Send, Coin}
use Rattle.node_env.specs.Helpers.{helper_word, helper_by_word, helper_of}
use Rattle.bpf_asm.specs.Canonical.{with_sign, operand_text, address_text, callee_text, form_in, operand_texts, after_commas, after_word, canonical_line, canonical_text}
use Rattle.bpf_asm.specs.Meaning.{lines_in, is_map, insns_from, places_from, label_slot, before_all, Means}
use Rattle.bpf_asm.specs.Numbers.{numeral_of, magnitude_of, in_field, wide_of}
use Rattle.bpf_asm.specs.Operands.{option_both, immediate_of, operand_spelled, operand_by, callee_of, id_by, wide_number_of, offset_in, address_between, address_of, address_by, target_of, distance, one, two, three, operands_of, operands_by}
use Rattle.bpf_asm.specs.Pieces.{pieces_of, is_blank, is_word_letter, front_of, rest_of, trimmed, first_of}
use Rattle.bpf_asm.specs.Statements.{Line, whole, jump_to, source_by, source_behind, ends_word, line_by, line_of}
use Rattle.bpf_asm.specs.Words.{form_word, register_word, register_by_word}
use Rattle.bpf_asm.proofs.PlainLemmas.{IsPlain, plain-append, piece-mark, piece-alone, front_before, rest_behind, trimmed_behind, decimal_plain, no_digit, digit_no_blank, numeral-decimal, magnitude-decimal, number-decimal, first_digit, Within, within16, within32, in_field-written, number-signed, signed_number-sign}
use Rattle.bpf_asm.proofs.StatementLemmas.{word_read, line_read}
use Rattle.bpf_asm.proofs.WordLaws.{form_named, register_named, register_word_named, helper_named, helper_word_named, helper_number_named}

-- ---- operands part nothing

pub record IsOperand (text : List ℕ) : Type 0 where
  pub comma : IsPlain (λ c. c == 44) text
  pub blank : IsPlain is_blank text
  pub line : IsPlain (λ c. c == 10) text
  pub hash : IsPlain (λ c. c == 35) text

decimal_operand : (n : ℕ) → n < 2 ^ 64 → IsOperand (decimal n)
decimal_operand n small = record {
  comma = decimal_plain (λ c. c == 44) (no_digit 44 (inl (omega arith))) n small;
  blank = decimal_plain is_blank digit_no_blank n small;
  line = decimal_plain (λ c. c == 10) (no_digit 10 (inl (omega arith))) n small;
  hash = decimal_plain (λ c. c == 35) (no_digit 35 (inl (omega arith))) n small;
}

behind_letter : (c : ℕ) (text : List ℕ) → IsOperand (c ∷ []) → IsOperand text → IsOperand (c ∷ text)
behind_letter c text letter o = record {
  comma = plain-append (λ d. d == 44) (c ∷ []) text letter.comma o.comma;
  blank = plain-append is_blank (c ∷ []) text letter.blank o.blank;
  line = plain-append (λ d. d == 10) (c ∷ []) text letter.line o.line;
  hash = plain-append (λ d. d == 35) (c ∷ []) text letter.hash o.hash;
}

signed_operand : (most : ℕ) (z : ℤ) → most < 2 ^ 32 → Within most z → IsOperand (signed_decimal z)
signed_operand most (pos n) small within = decimal_operand n (omega arith)
signed_operand most (negsuc n) small within =
    behind_letter 45 (decimal (suc n)) (record { comma = refl; blank = refl; line = refl; hash = refl })
    (decimal_operand (suc n) (omega arith))

sign_operand : (most : ℕ) (z : ℤ) → most < 2 ^ 32 → Within most z → IsOperand (with_sign z)
sign_operand most (pos n) small within =
    behind_letter 43 (decimal n) (record { comma = refl; blank = refl; line = refl; hash = refl })
    (decimal_operand n (omega arith))
sign_operand most (negsuc n) small within =
    behind_letter 45 (decimal (suc n)) (record { comma = refl; blank = refl; line = refl; hash = refl })
    (decimal_operand (suc n) (omega arith))

-- what the reader needs of a register's word
record IsRegister (r : Reg) : Type 0 where
  operand : IsOperand (register_word r)
  closing : IsPlain (λ c. c == 93) (register_word r)
  letters : list_all is_word_letter (register_word r) ≡ true
  rest : List ℕ
  begins : register_word r ≡ 114 ∷ rest

registers : (r : Reg) → IsRegister r
registers R0 = record {
  operand = record { comma = refl; blank = refl; line = refl; hash = refl };
  closing = refl;
  letters = refl;
  rest = codes "0";
  begins = refl;
}
registers R1 = record {
  operand = record { comma = refl; blank = refl; line = refl; hash = refl };
  closing = refl;
  letters = refl;
  rest = codes "1";
  begins = refl;
}
registers R2 = record {
  operand = record { comma = refl; blank = refl; line = refl; hash = refl };
  closing = refl;
  letters = refl;
  rest = codes "2";
  begins = refl;
}
registers R3 = record {
  operand = record { comma = refl; blank = refl; line = refl; hash = refl };
  closing = refl;
  letters = refl;
  rest = codes "3";
  begins = refl;
}
registers R4 = record {
  operand = record { comma = refl; blank = refl; line = refl; hash = refl };
  closing = refl;
  letters = refl;
  rest = codes "4";
  begins = refl;
}
registers R5 = record {
  operand = record { comma = refl; blank = refl; line = refl; hash = refl };
  closing = refl;
  letters = refl;
  rest = codes "5";
  begins = refl;
}
registers R6 = record {
  operand = record { comma = refl; blank = refl; line = refl; hash = refl };
  closing = refl;
  letters = refl;
  rest = codes "6";
  begins = refl;
}
registers R7 = record {
  operand = record { comma = refl; blank = refl; line = refl; hash = refl };
  closing = refl;
  letters = refl;
  rest = codes "7";
  begins = refl;
}
registers R8 = record {
  operand = record { comma = refl; blank = refl; line = refl; hash = refl };
  closing = refl;
  letters = refl;
  rest = codes "8";
  begins = refl;
}
registers R9 = record {
  operand = record { comma = refl; blank = refl; line = refl; hash = refl };
  closing = refl;
  letters = refl;
  rest = codes "9";
  begins = refl;
}
registers R10 = record {
  operand = record { comma = refl; blank = refl; line = refl; hash = refl };
  closing = refl;
  letters = refl;
  rest = codes "10";
  begins = refl;
}

-- what it needs of a helper's word: it begins with a letter
record IsHelper (h : Helper) : Type 0 where
  operand : IsOperand (helper_word h)
  first : ℕ
  rest : List ℕ
  begins : helper_word h ≡ first ∷ rest
  letter : 57 < first

helpers : (h : Helper) → IsHelper h
helpers Id = record {
  operand = record { comma = refl; blank = refl; line = refl; hash = refl };
  first = 105;
  rest = codes "d";
  begins = refl;
  letter = omega arith;
}
helpers Recv = record {
  operand = record { comma = refl; blank = refl; line = refl; hash = refl };
  first = 114;
  rest = codes "ecv";
  begins = refl;
  letter = omega arith;
}
helpers Send = record {
  operand = record { comma = refl; blank = refl; line = refl; hash = refl };
  first = 115;
  rest = codes "end";
  begins = refl;
  letter = omega arith;
}
helpers Coin = record {
  operand = record { comma = refl; blank = refl; line = refl; hash = refl };
  first = 99;
  rest = codes "oin";
  begins = refl;
  letter = omega arith;
}

-- a number begins with no letter
no_letter : (most : ℕ) (z : ℤ) → most < 2 ^ 32 → Within most z → (c : ℕ) (cs : List ℕ) → signed_decimal z ≡ c ∷ cs
    → c ≤ 57
no_letter most (pos n) small within c cs same =
    (first_digit (decimal n) (decimal_is_IsNumeral n (omega arith)).0 c cs same).1
no_letter most (negsuc n) small within c cs same = let e : 45 ≡ c = cc in omega arith

no_register : (most : ℕ) (z : ℤ) → most < 2 ^ 32 → Within most z → register_by_word (signed_decimal z) ≡ None
no_register most z small within = by_found (register_by_word (signed_decimal z)) refl
  where
    by_found : (o : Option Reg) → register_by_word (signed_decimal z) ≡ o → o ≡ None
    by_found None found = refl
    by_found (Some r) found =
        let r_word = registers r in
        let low = no_letter most z small within 114 r_word.rest
        (register_word_named (signed_decimal z) r found ∙ r_word.begins) in
        absurd (omega (arith, low))

no_helper : (most : ℕ) (z : ℤ) → most < 2 ^ 32 → Within most z → helper_by_word (signed_decimal z) ≡ None
no_helper most z small within = by_found (helper_by_word (signed_decimal z)) refl
  where
    by_found : (o : Option Helper) → helper_by_word (signed_decimal z) ≡ o → o ≡ None
    by_found None found = refl
    by_found (Some h) found =
        let h_word = helpers h in
        let low = no_letter most z small within h_word.first h_word.rest
        (helper_word_named (signed_decimal z) h found ∙ h_word.begins) in
        absurd (omega (arith, low, h_word.letter))

-- ---- operands are read back

immediate_read : (z : ℤ) → FitsSigned w32 z → immediate_of (signed_decimal z) ≡ Some z
immediate_read z fits =
    ap (option_and_then (in_field 2147483647)) (number-signed 2147483647 z (omega arith) (within32 z fits))
    ∙ in_field-written 2147483647 z (within32 z fits)

-- the operand of a source
abbrev SourceInRange : Operand → Type 0
SourceInRange (operands.Imm value) = FitsSigned w32 value
SourceInRange (operands.Reg src) = Unit {0}

source_operand : (src : Operand) → SourceInRange src → IsOperand (operand_text src)
source_operand (operands.Imm value) fits = signed_operand 2147483647 value (omega arith) (within32 value fits)
source_operand (operands.Reg src) fits = (registers src).operand

source_read : (src : Operand) → SourceInRange src → operand_spelled (operand_text src) ≡ Some src
source_read (operands.Imm value) fits =
    ap (λ o. operand_by o (signed_decimal value)) (no_register 2147483647 value (omega arith) (within32 value fits))
    ∙ ap (option_map operands.Imm) (immediate_read value fits)
source_read (operands.Reg src) fits = ap (λ o. operand_by o (register_word src)) (register_named src)

callee_operand : (id : ℤ) → FitsSigned w32 id → (found : Option Helper) → IsOperand (callee_text id found)
callee_operand id fits None = signed_operand 2147483647 id (omega arith) (within32 id fits)
callee_operand id fits (Some h) = (helpers h).operand

callee_read : (id : ℤ) → FitsSigned w32 id → (found : Option Helper) → helper_of id ≡ found
    → callee_of (callee_text id found) ≡ Some id
callee_read id fits None found =
    ap (λ o. id_by o (signed_decimal id)) (no_helper 2147483647 id (omega arith) (within32 id fits))
    ∙ immediate_read id fits
callee_read id fits (Some h) found = ap (λ o. id_by o (helper_word h)) (helper_named h)
    ∙ ap Some (sym (helper_number_named id h found))

target_read : (most : ℕ) (z : ℤ) → most < 2 ^ 32 → Within most z → target_of most (with_sign z) ≡ Some (distance z)
target_read most (pos n) small within =
    ap (λ o. option_map distance (option_and_then (in_field most) o))
    (signed_number-sign (numeral_of 10) numeral-decimal most (pos n) small within)
    ∙ ap (option_map distance) (in_field-written most (pos n) within)
target_read most (negsuc n) small within =
    ap (λ o. option_map distance (option_and_then (in_field most) o))
    (signed_number-sign (numeral_of 10) numeral-decimal most (negsuc n) small within)
    ∙ ap (option_map distance) (in_field-written most (negsuc n) within)

offset_read : (z : ℤ) → Within 32767 z → offset_in (with_sign z) ≡ Some z
offset_read (pos n) within =
    ap (option_and_then (in_field 32767)) (signed_number-sign magnitude_of magnitude-decimal 32767 (pos n)
    (omega arith) within) ∙ in_field-written 32767 (pos n) within
offset_read (negsuc n) within =
    ap (option_and_then (in_field 32767)) (signed_number-sign magnitude_of magnitude-decimal 32767 (negsuc n)
    (omega arith) within) ∙ in_field-written 32767 (negsuc n) within

-- a sign is no letter of a word, and no bracket
sign_ends : (z : ℤ) → (front_of is_word_letter (with_sign z) ≡ [])
    × (rest_of is_word_letter (with_sign z) ≡ with_sign z)
sign_ends (pos n) = (refl, refl)
sign_ends (negsuc n) = (refl, refl)

sign_open : (z : ℤ) → Within 32767 z → IsPlain (λ c. c == 93) (with_sign z)
sign_open (pos n) within = plain-append (λ c. c == 93) (43 ∷ []) (decimal n) refl
    (decimal_plain (λ c. c == 93) (no_digit 93 (inr (omega arith))) n (omega arith))
sign_open (negsuc n) within = plain-append (λ c. c == 93) (45 ∷ []) (decimal (suc n)) refl
    (decimal_plain (λ c. c == 93) (no_digit 93 (inr (omega arith))) (suc n) (omega arith))

address_read : (base : Reg) (off : ℤ) → FitsSigned w16 off
    → address_of (address_text base off) ≡ Some (record { base = base; off = off })
address_read base off fits =
    let within = within16 off fits in
    let r = registers base in
    let word = register_word base in
    let sign = with_sign off in
    let inside : pieces_of (λ c. c == 93) (word ++ (sign ++ (93 ∷ []))) ≡ (word ++ sign) ∷ [] ∷ [] =
    ap (pieces_of (λ c. c == 93)) (sym (append_assoc word sign (93 ∷ [])))
    ∙ piece-mark (λ c. c == 93) (word ++ sign) 93 []
    (plain-append (λ c. c == 93) word sign r.closing (sign_open off within)) refl in
    let ends = sign_ends off in
    ap address_between inside
    ∙ ap (λ w. option_map address_by (option_both (register_by_word w)
    (offset_in (rest_of is_word_letter (word ++ sign))))) (front_before is_word_letter word sign r.letters ends.0)
    ∙ ap (λ o. option_map address_by (option_both (register_by_word word) (offset_in o)))
    (rest_behind is_word_letter word sign r.letters ends.1)
    ∙ ap (λ o. option_map address_by (option_both o (offset_in sign))) (register_named base)
    ∙ ap (λ o. option_map address_by (option_both (Some base) o)) (offset_read off within)

address_operand : (base : Reg) (off : ℤ) → FitsSigned w16 off → IsOperand (address_text base off)
address_operand base off fits =
    let r = (registers base).operand in
    let s = sign_operand 32767 off (omega arith) (within16 off fits) in
    behind_letter 91 (register_word base ++ (with_sign off ++ (93 ∷ [])))
    (record { comma = refl; blank = refl; line = refl; hash = refl }) (record {
      comma = plain-append (λ d. d == 44) (register_word base) (with_sign off ++ (93 ∷ [])) r.comma
          (plain-append (λ d. d == 44) (with_sign off) (93 ∷ []) s.comma refl);
      blank = plain-append is_blank (register_word base) (with_sign off ++ (93 ∷ [])) r.blank
          (plain-append is_blank (with_sign off) (93 ∷ []) s.blank refl);
      line = plain-append (λ d. d == 10) (register_word base) (with_sign off ++ (93 ∷ [])) r.line
          (plain-append (λ d. d == 10) (with_sign off) (93 ∷ []) s.line refl);
      hash = plain-append (λ d. d == 35) (register_word base) (with_sign off ++ (93 ∷ [])) r.hash
          (plain-append (λ d. d == 35) (with_sign off) (93 ∷ []) s.hash refl);
    })

wide_read : (n : ℕ) → n < 2 ^ 64 → wide_number_of (decimal n) ≡ Some n
wide_read n small =
    let h : nat_lt n (2 ^ 64) ≡ true = lt-ltb n (2 ^ 64) small in
    ap (option_and_then wide_of) (number-decimal n small) ∙ ap (λ b. cond b (Some n) None) h

-- ---- operands between commas

operands_one : (a : List ℕ) → IsOperand a → operands_of (32 ∷ a) ≡ one a
operands_one a o = ap (λ ps. operands_by (map trimmed ps)) (piece-alone (λ c. c == 44) (32 ∷ a) o.comma)
    ∙ ap one (trimmed_behind a o.blank)

operands_two : (a b : List ℕ) → IsOperand a → IsOperand b → operands_of (32 ∷ (a ++ (44 ∷ 32 ∷ b))) ≡ two a b
operands_two a b oa ob =
    ap (λ ps. operands_by (map trimmed ps)) (piece-mark (λ c. c == 44) (32 ∷ a) 44 (32 ∷ b) oa.comma refl)
    ∙ ap (λ ps. operands_by (trimmed (32 ∷ a) ∷ map trimmed ps)) (piece-alone (λ c. c == 44) (32 ∷ b) ob.comma)
    ∙ ap (λ x. two x (trimmed (32 ∷ b))) (trimmed_behind a oa.blank) ∙ ap (two a) (trimmed_behind b ob.blank)

operands_three : (a b c : List ℕ) → IsOperand a → IsOperand b → IsOperand c
    → operands_of (32 ∷ (a ++ (44 ∷ 32 ∷ (b ++ (44 ∷ 32 ∷ c))))) ≡ three a b c
operands_three a b c oa ob oc =
    ap (λ ps. operands_by (map trimmed ps)) (piece-mark (λ d. d == 44) (32 ∷ a) 44
    (32 ∷ (b ++ (44 ∷ 32 ∷ c))) oa.comma refl)
    ∙ ap (λ ps. operands_by (trimmed (32 ∷ a) ∷ map trimmed ps))
    (piece-mark (λ d. d == 44) (32 ∷ b) 44 (32 ∷ c) ob.comma refl)
    ∙ ap (λ ps. operands_by (trimmed (32 ∷ a) ∷ trimmed (32 ∷ b) ∷ map trimmed ps))
    (piece-alone (λ d. d == 44) (32 ∷ c) oc.comma)
    ∙ ap (λ x. three x (trimmed (32 ∷ b)) (trimmed (32 ∷ c))) (trimmed_behind a oa.blank)
    ∙ ap (λ x. three a x (trimmed (32 ∷ c))) (trimmed_behind b ob.blank) ∙ ap (three a b) (trimmed_behind c oc.blank)

both_read : {A B : Type 0} (x : Option A) (y : Option B) (a : A) (b : B) → x ≡ Some a → y ≡ Some b
    → option_both x y ≡ Some (a, b)
both_read x y a b first second = ap (λ o. option_both o y) first ∙ ap (option_both (Some a)) second

-- ---- each form

abbrev InsnReads : Insn → Type 0
InsnReads i = source_by (form_in i) (operands_of (after_word (operand_texts i))) ≡ Some (whole i)

branch_reads : (cond : _) (width : _) (dst : Reg) (src : Operand) (off : ℤ) → SourceInRange src → FitsSigned w16 off
    → InsnReads (insn.Branch cond width dst src off)
branch_reads cond width dst src off in_range fits =
    ap (source_by (forms.Branch cond width)) (operands_three (register_word dst) (operand_text src) (with_sign off)
    (registers dst).operand (source_operand src in_range)
    (sign_operand 32767 off (omega arith) (within16 off fits)))
    ∙ ap (option_map (λ x. jump_to (insn.Branch cond width x.0 x.1.0) x.1.1))
    (both_read (register_by_word (register_word dst))
    (option_both (operand_spelled (operand_text src)) (target_of 32767 (with_sign off))) dst (src, distance off)
    (register_named dst)
    (both_read (operand_spelled (operand_text src)) (target_of 32767 (with_sign off)) src (distance off)
    (source_read src in_range) (target_read 32767 off (omega arith) (within16 off fits))))

alu_reads : (op : _) (width : _) (dst : Reg) (src : Operand) → SourceInRange src → InsnReads (insn.Alu op width dst src)
alu_reads op width dst src in_range =
    ap (source_by (forms.Alu op width)) (operands_two (register_word dst) (operand_text src) (registers dst).operand
    (source_operand src in_range))
    ∙ ap (option_map (λ x. whole (insn.Alu op width x.0 x.1)))
    (both_read (register_by_word (register_word dst)) (operand_spelled (operand_text src)) dst src (register_named dst)
    (source_read src in_range))

insn_reads : (i : Insn) → InRange i → InsnReads i
insn_reads (insn.Alu op width dst (operands.Imm value)) fits = alu_reads op width dst (operands.Imm value) fits
insn_reads (insn.Alu op width dst (operands.Reg src)) fits = alu_reads op width dst (operands.Reg src) tt
insn_reads (insn.Neg width dst) fits =
    ap (source_by (forms.Neg width)) (operands_one (register_word dst) (registers dst).operand)
    ∙ ap (option_map (λ r. whole (insn.Neg width r))) (register_named dst)
insn_reads (insn.Movsx kind dst src) fits =
    ap (source_by (forms.Movsx kind)) (operands_two (register_word dst) (register_word src) (registers dst).operand
    (registers src).operand)
    ∙ ap (option_map (λ x. whole (insn.Movsx kind x.0 x.1)))
    (both_read (register_by_word (register_word dst)) (register_by_word (register_word src)) dst src
    (register_named dst) (register_named src))
insn_reads (insn.Swap order bits dst) fits =
    ap (source_by (forms.Swap order bits)) (operands_one (register_word dst) (registers dst).operand)
    ∙ ap (option_map (λ r. whole (insn.Swap order bits r))) (register_named dst)
insn_reads (insn.Ja off) fits =
    ap (source_by forms.Ja) (operands_one (with_sign off) (sign_operand 32767 off (omega arith) (within16 off fits)))
    ∙ ap (option_map (jump_to insn.Ja)) (target_read 32767 off (omega arith) (within16 off fits))
insn_reads (insn.JaLong off) fits =
    ap (source_by forms.JaLong) (operands_one (with_sign off)
    (sign_operand 2147483647 off (omega arith) (within32 off fits)))
    ∙ ap (option_map (jump_to insn.JaLong)) (target_read 2147483647 off (omega arith) (within32 off fits))
insn_reads (insn.Branch cond width dst (operands.Imm value) off) fits = branch_reads cond width dst
    (operands.Imm value) off fits.0 fits.1
insn_reads (insn.Branch cond width dst (operands.Reg src) off) fits = branch_reads cond width dst
    (operands.Reg src) off tt fits
insn_reads (insn.Call id) fits =
    ap (source_by forms.Call) (operands_one (callee_text id (helper_of id))
    (callee_operand id fits (helper_of id)))
    ∙ ap (option_map (λ n. whole (insn.Call n))) (callee_read id fits (helper_of id) refl)
insn_reads insn.Exit fits = refl
insn_reads (insn.Load size dst base off) fits =
    ap (source_by (forms.Load size)) (operands_two (register_word dst) (address_text base off) (registers dst).operand
    (address_operand base off fits))
    ∙ ap (option_map (λ x. whole (insn.Load size x.0 x.1.base x.1.off)))
    (both_read (register_by_word (register_word dst)) (address_of (address_text base off)) dst
    (record { base = base; off = off }) (register_named dst) (address_read base off fits))
insn_reads (insn.LoadSx size dst base off) fits =
    ap (source_by (forms.LoadSx size)) (operands_two (register_word dst) (address_text base off)
    (registers dst).operand (address_operand base off fits))
    ∙ ap (option_map (λ x. whole (insn.LoadSx size x.0 x.1.base x.1.off)))
    (both_read (register_by_word (register_word dst)) (address_of (address_text base off)) dst
    (record { base = base; off = off }) (register_named dst) (address_read base off fits))
insn_reads (insn.StoreReg size base off src) fits =
    ap (source_by (forms.StoreReg size)) (operands_two (address_text base off) (register_word src)
    (address_operand base off fits) (registers src).operand)
    ∙ ap (option_map (λ x. whole (insn.StoreReg size x.0.base x.0.off x.1)))
    (both_read (address_of (address_text base off)) (register_by_word (register_word src))
    (record { base = base; off = off }) src (address_read base off fits) (register_named src))
insn_reads (insn.StoreImm size base off imm) fits =
    ap (source_by (forms.StoreImm size)) (operands_two (address_text base off) (signed_decimal imm)
    (address_operand base off fits.0) (signed_operand 2147483647 imm (omega arith) (within32 imm fits.1)))
    ∙ ap (option_map (λ x. whole (insn.StoreImm size x.0.base x.0.off x.1)))
    (both_read (address_of (address_text base off)) (immediate_of (signed_decimal imm))
    (record { base = base; off = off }) imm (address_read base off fits.0) (immediate_read imm fits.1))
insn_reads (insn.LoadImm64 dst value) small =
    ap (source_by forms.LoadImm64) (operands_two (register_word dst) (decimal value) (registers dst).operand
    (decimal_operand value small))
    ∙ ap (option_map (λ x. whole (insn.LoadImm64 x.0 x.1)))
    (both_read (register_by_word (register_word dst)) (wide_number_of (decimal value)) dst value (register_named dst)
    (wide_read value small))

-- ---- lines

-- what the reader needs of a word
abbrev is_good : List ℕ → Bool
is_good word =
    list_all is_word_letter word
    && (list_all (λ c. not (is_blank c)) word &&
    (list_all (λ c. not (c == 10)) word && (list_all (λ c. not (c == 35)) word && not (length word == 0))))

goods : list_all (λ f. is_good (form_word f)) FORMS ≡ true
goods = refl

both_hold : (a b : Bool) → (a && b) ≡ true → (a ≡ true) × (b ≡ true)
both_hold true b h = (refl, h)
both_hold false b h = absurd (false≢true h)

-- what is found passes each test that all pass
found_all : (p q : Form → Bool) (xs : List Form) (x : Form) → list_all q xs ≡ true → find p xs ≡ Some x → q x ≡ true
found_all p q [] x all found = absurd (cc)
found_all p q (y ∷ ys) x all found = by_test (p y) found (both_hold (q y) (list_all q ys) all) (found_all p q ys x)
  where
    by_test : (t : Bool) → cond t (Some y) (find p ys) ≡ Some x → (q y ≡ true) × (list_all q ys ≡ true)
        → (list_all q ys ≡ true → find p ys ≡ Some x → q x ≡ true) → q x ≡ true
    by_test true found all others = let same : y ≡ x = cc in ap q (sym same) ∙ all.0
    by_test false found all others = others all.1 found

record IsWord (word : List ℕ) : Type 0 where
  letters : list_all is_word_letter word ≡ true
  blank : IsPlain is_blank word
  line : IsPlain (λ c. c == 10) word
  hash : IsPlain (λ c. c == 35) word
  some : (length word == 0) ≡ false

words : (form : Form) → IsWord (form_word form)
words form =
    let w = form_word form in
    let all = found_all (λ f. bytes_eq (form_word f) w) (λ f. is_good (form_word f)) FORMS form goods (form_named form) in
    let a = both_hold (list_all is_word_letter w)
    (list_all (λ c. not (is_blank c)) w && (list_all (λ c. not (c == 10)) w
    && (list_all (λ c. not (c == 35)) w && not (length w == 0)))) all in
    let b = both_hold (list_all (λ c. not (is_blank c)) w)
    (list_all (λ c. not (c == 10)) w && (list_all (λ c. not (c == 35)) w && not (length w == 0))) a.1 in
    let d = both_hold (list_all (λ c. not (c == 10)) w) (list_all (λ c. not (c == 35)) w && not (length w == 0)) b.1 in
    let e = both_hold (list_all (λ c. not (c == 35)) w) (not (length w == 0)) d.1 in
    record { letters = a.0; blank = b.0; line = d.0; hash = e.0; some = not_true (length w == 0) e.1 }
  where
    not_true : (b : Bool) → not b ≡ true → b ≡ false
    not_true true h = sym h
    not_true false h = refl

abbrev AllOperands : List (List ℕ) → Type 0
AllOperands [] = Unit {0}
AllOperands (o ∷ os) = IsOperand o × AllOperands os

insn_operands : (i : Insn) → InRange i → AllOperands (operand_texts i)
insn_operands (insn.Alu op width dst (operands.Imm value)) fits =
    ((registers dst).operand, (source_operand (operands.Imm value) fits, tt))
insn_operands (insn.Alu op width dst (operands.Reg src)) fits = ((registers dst).operand, ((registers src).operand, tt))
insn_operands (insn.Neg width dst) fits = ((registers dst).operand, tt)
insn_operands (insn.Movsx kind dst src) fits = ((registers dst).operand, ((registers src).operand, tt))
insn_operands (insn.Swap order bits dst) fits = ((registers dst).operand, tt)
insn_operands (insn.Ja off) fits = (sign_operand 32767 off (omega arith) (within16 off fits), tt)
insn_operands (insn.JaLong off) fits = (sign_operand 2147483647 off (omega arith) (within32 off fits), tt)
insn_operands (insn.Branch cond width dst (operands.Imm value) off) fits = (
  (registers dst).operand,
  (
    source_operand (operands.Imm value) fits.0,
    (sign_operand 32767 off (omega arith) (within16 off fits.1), tt),
  ),
)
insn_operands (insn.Branch cond width dst (operands.Reg src) off) fits =
    ((registers dst).operand, ((registers src).operand, (sign_operand 32767 off (omega arith) (within16 off fits), tt)))
insn_operands (insn.Call id) fits = (callee_operand id fits (helper_of id), tt)
insn_operands insn.Exit fits = tt
insn_operands (insn.Load size dst base off) fits = ((registers dst).operand, (address_operand base off fits, tt))
insn_operands (insn.LoadSx size dst base off) fits = ((registers dst).operand, (address_operand base off fits, tt))
insn_operands (insn.StoreReg size base off src) fits = (address_operand base off fits, ((registers src).operand, tt))
insn_operands (insn.StoreImm size base off imm) fits =
    (address_operand base off fits.0, (signed_operand 2147483647 imm (omega arith) (within32 imm fits.1), tt))
insn_operands (insn.LoadImm64 dst value) small = ((registers dst).operand, (decimal_operand value small, tt))

plain_after_commas : (marks : ℕ → Bool) → IsPlain marks (codes ", ") → ((o : List ℕ) → IsOperand o → IsPlain marks o)
    → (os : List (List ℕ)) → AllOperands os → IsPlain marks (after_commas os)
plain_after_commas marks comma plain [] all = refl
plain_after_commas marks comma plain (o ∷ []) all = plain-append marks (codes ", ") o comma (plain o all.0)
plain_after_commas marks comma plain (o ∷ p ∷ ps) all =
    plain-append marks (codes ", ") (o ++ after_commas (p ∷ ps)) comma
    (plain-append marks o (after_commas (p ∷ ps)) (plain o all.0) (plain_after_commas marks comma plain (p ∷ ps) all.1))

plain_after_word : (marks : ℕ → Bool) → IsPlain marks (codes ", ") → IsPlain marks (codes " ")
    → ((o : List ℕ) → IsOperand o → IsPlain marks o)
    → (os : List (List ℕ)) → AllOperands os → IsPlain marks (after_word os)
plain_after_word marks comma blank plain [] all = refl
plain_after_word marks comma blank plain (o ∷ []) all = plain-append marks (codes " ") o blank (plain o all.0)
plain_after_word marks comma blank plain (o ∷ p ∷ ps) all =
    plain-append marks (codes " ") (o ++ after_commas (p ∷ ps)) blank
    (plain-append marks o (after_commas (p ∷ ps)) (plain o all.0) (plain_after_commas marks comma plain (p ∷ ps) all.1))

-- what follows a word ends it
record Follows (word rest : List ℕ) : Type 0 where
  front : front_of is_word_letter rest ≡ []
  behind : rest_of is_word_letter rest ≡ rest
  ends : ends_word rest ≡ true
  line : line_by word rest ≡ record { name = None; source = source_behind word rest }

follows : (word : List ℕ) (os : List (List ℕ)) → Follows word (after_word os)
follows word [] = record { front = refl; behind = refl; ends = refl; line = refl }
follows word (o ∷ []) = record { front = refl; behind = refl; ends = refl; line = refl }
follows word (o ∷ p ∷ ps) = record { front = refl; behind = refl; ends = refl; line = refl }

no_blank_first : (word rest : List ℕ) → (length word == 0) ≡ false → IsPlain is_blank word
    → rest_of is_blank (word ++ rest) ≡ word ++ rest
no_blank_first [] rest some plain = absurd (false≢true (sym some))
no_blank_first (c ∷ cs) rest some plain = by_test (is_blank c)
    (both_hold (not (is_blank c)) (list_all (λ d. not (is_blank d)) cs) plain).0
  where
    by_test : (t : Bool) → not t ≡ true → cond t (rest_of is_blank (cs ++ rest)) (c ∷ (cs ++ rest)) ≡ c ∷ (cs ++ rest)
    by_test true h = absurd (false≢true h)
    by_test false h = refl

abbrev line_for : Insn → Line
line_for i = record { name = None; source = Some (Some (whole i)) }

line_means : (i : Insn) → InRange i → line_of (canonical_line i) ≡ line_for i
line_means i in_range =
    let word = form_word (form_in i) in
    let os = operand_texts i in
    let rest = after_word os in
    let w = words (form_in i) in
    let f = follows word os in
    let hash : IsPlain (λ c. c == 35) (word ++ rest) =
    plain-append (λ c. c == 35) word rest w.hash
    (plain_after_word (λ c. c == 35) refl refl (λ o operand. operand.hash) os (insn_operands i in_range)) in
    let source : source_behind word rest ≡ Some (Some (whole i)) = word_read word rest (form_in i)
    (Some (whole i)) w.some (form_named (form_in i)) f.ends (insn_reads i in_range) in
    let line : line_for i ≡ line_by word rest = sym (f.line ∙ ap (λ s. record { name = None; source = s }) source) in
    sym
    (line_read (word ++ rest) (word ++ rest) (word ++ rest) word rest (line_for i)
    (sym (ap first_of (piece-alone (λ c. c == 35) (word ++ rest) hash)))
    (sym (no_blank_first word rest w.some w.blank))
    (sym (front_before is_word_letter word rest w.letters f.front))
    (sym (rest_behind is_word_letter word rest w.letters f.behind)) line)

line_unbroken : (i : Insn) → InRange i → IsPlain (λ c. c == 10) (canonical_line i)
line_unbroken i in_range =
    plain-append (λ c. c == 10) (form_word (form_in i)) (after_word (operand_texts i)) (words (form_in i)).line
    (plain_after_word (λ c. c == 10) refl refl (λ o operand. operand.line) (operand_texts i) (insn_operands i in_range))

-- ---- programs

abbrev lines_for : List Insn → List Line
lines_for [] = record { name = None; source = Some None } ∷ []
lines_for (i ∷ is) = line_for i ∷ lines_for is

lines_read : (is : List Insn) → AllByRecursion InRange is → lines_in (canonical_text is) ≡ lines_for is
lines_read [] all = refl
lines_read (i ∷ is) all =
    let line = canonical_line i in
    let rest = canonical_text is in
    ap lines_in (append_assoc line (10 ∷ []) rest)
    ∙ ap (map line_of) (piece-mark (λ c. c == 10) line 10 rest (line_unbroken i all.0) refl)
    ∙ ap (λ l. l ∷ lines_in rest) (line_means i all.0) ∙ ap (λ ls. line_for i ∷ ls) (lines_read is all.1)

no_places : (slot : ℕ) (is : List Insn) → places_from slot (lines_for is) ≡ []
no_places slot [] = refl
no_places slot (i ∷ is) = no_places (slot + slots_taken i) is

insns_read : (slots : List ℕ → Option ℕ) (slot : ℕ) (is : List Insn) → insns_from slots slot (lines_for is) ≡ Some is
insns_read slots slot [] = refl
insns_read slots slot (i ∷ is) = ap (before_all (Some i)) (insns_read slots (slot + slots_taken i) is)

pub canonical_means : (p : List Insn) → IsProgram p → Means (canonical_text p) p
canonical_means p is_program = record {
  reads = ap (λ ls. cond (is_map (places_from 0 ls)) (insns_from (label_slot (places_from 0 ls)) 0 ls) None)
      (lines_read p is_program.in_range)
      ∙ ap (λ ps. cond (is_map ps) (insns_from (label_slot ps) 0 (lines_for p)) None) (no_places 0 p)
      ∙ insns_read (label_slot []) 0 p;
  is_program = is_program;
}

pub one_meaning : (text : List ℕ) (p q : List Insn) → Means text p → Means text q → p ≡ q
one_meaning text p q first second = let same : Some p ≡ Some q = sym first.reads ∙ second.reads in cc
