-- What is read of a line.
use Rattle.std.proofs.Common.{◌≡◌, ◌≢◌, ℕ, true, false, cond, List, [], ◌∷◌, length, refl, sym, subst, ap, ◌∙◌, inl, inr}
use Rattle.std.specs.Prelude.{Option, Some, None, ◌==◌, ◌⊎◌, option_map, Result, Ok, Err, IfOk, IfErr}
use Rattle.std.specs.Option.{option_and_then}
use Rattle.bpf_asm.specs.declared.words.Form.{Form}
use Rattle.bpf_asm.specs.Operands.{Operands, one, two, three, more, option_both, operands_of}
use Rattle.bpf_asm.specs.inner.Operands.{Reads}
use Rattle.bpf_asm.specs.Pieces.{is_blank, is_word_letter, front_of, rest_of, without_comment}
use Rattle.bpf_asm.specs.Statements.{Source, Line, pair_by, source_by, source_behind, source_spelled, ends_word, line_by, line_of}
use Rattle.bpf_asm.specs.Words.{form_of}

second_missing : {A B : Type 0} (a : Option A) (b : Option B) → b ≡ None → option_both a b ≡ None
second_missing None b none = refl
second_missing (Some a) None none = refl
second_missing (Some a) (Some b) none = absurd (cc)

-- two values, as each reads
both_read : {A B E : Type 0} (a : Option A) (b : Option B) (first : Result A E) (second : Result B E)
    (result : Result (A × B) E)
    → Reads a first → Reads b second → IfOk result (λ x. (first ≡ Ok x.0) × (second ≡ Ok x.1))
    → IfErr result (λ e. (first ≡ Err e) ⊎ (second ≡ Err e)) → Reads (option_both a b) result
both_read a b first second (Ok (u, v)) reads_first reads_second (is_first, is_second) failed =
    let left : a ≡ Some u = subst (λ r. Reads a r) is_first reads_first in
    let right : b ≡ Some v = subst (λ r. Reads b r) is_second reads_second in
    rw (left, right) refl
both_read a b first second (Err e) reads_first reads_second are (inl failed) =
    let none : a ≡ None = subst (λ r. Reads a r) failed reads_first in
    rw none refl
both_read a b first second (Err e) reads_first reads_second are (inr failed) =
    second_missing a b (subst (λ r. Reads b r) failed reads_second)

-- two operands, as each reads
pub pair_read : {A B E : Type 0} (f : List ℕ → Option A) (g : List ℕ → Option B) (operands : Operands) (a b : List ℕ)
    (first : Result A E)
    (second : Result B E) (result : Result (A × B) E) → operands ≡ two a b → Reads (f a) first → Reads (g b) second
    → IfOk result (λ x. (first ≡ Ok x.0) × (second ≡ Ok x.1)) → IfErr result (λ e. (first ≡ Err e) ⊎ (second ≡ Err e))
    → Reads (pair_by f g operands) result
pair_read f g operands a b first second result same reads_first reads_second values fault =
    subst (λ o. Reads (pair_by f g o) result) (sym same)
    (both_read (f a) (g b) first second result reads_first reads_second values fault)

pub no_pair : {A B : Type 0} (f : List ℕ → Option A) (g : List ℕ → Option B) (operands : Operands)
    → ((a b : List ℕ) → operands ≢ two a b)
    → pair_by f g operands ≡ None
no_pair f g (one a) other = refl
no_pair f g (two a b) other = absurd (other a b refl)
no_pair f g (three a b c) other = refl
no_pair f g more other = refl

-- a word with the operands of its form
pub word_read : (word rest : List ℕ) (form : Form) (source : Option Source) → (length word == 0) ≡ false
    → form_of word ≡ Some form → ends_word rest ≡ true
    → source_by form (operands_of rest) ≡ source → source_behind word rest ≡ option_map Some source
word_read [] rest form source some named ends reads = absurd (cc)
word_read (w ∷ ws) rest form source some named ends reads =
    ap (λ b. cond b (option_map Some (option_and_then (λ f. source_by f (operands_of rest)) (form_of (w ∷ ws)))) None)
    ends
    ∙ ap (λ o. option_map Some (option_and_then (λ f. source_by f (operands_of rest)) o)) named
    ∙ ap (option_map Some) reads

pub source_read : (text front word rest : List ℕ) (source : Option (Option Source)) → front ≡ rest_of is_blank text
    → word ≡ front_of is_word_letter front → rest ≡ rest_of is_word_letter front → source ≡ source_behind word rest
    → source ≡ source_spelled text
source_read text front word rest source opened before behind reads =
    reads ∙ ap (λ w. source_behind w rest) before ∙ ap (source_behind (front_of is_word_letter front)) behind
    ∙ ap (λ f. source_behind (front_of is_word_letter f) (rest_of is_word_letter f)) opened

pub line_read : (text code front word rest : List ℕ) (line : Line) → code ≡ without_comment text
    → front ≡ rest_of is_blank code
    → word ≡ front_of is_word_letter front → rest ≡ rest_of is_word_letter front → line ≡ line_by word rest
    → line ≡ line_of text
line_read text code front word rest line uncommented opened before behind reads =
    reads ∙ ap (λ w. line_by w rest) before ∙ ap (line_by (front_of is_word_letter front)) behind
    ∙ ap (λ f. line_by (front_of is_word_letter f) (rest_of is_word_letter f))
    (opened ∙ ap (rest_of is_blank) uncommented)
