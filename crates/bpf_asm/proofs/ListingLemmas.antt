-- The lines of a text, one after another, with the slots of their instructions.
use Rattle.std.proofs.Common.{◌≡◌, ℕ, zero, suc, add-zero, append-nil, ◌+◌, ◌*◌, ◌<◌, ◌≤◌, Bool, true, false, cond, List, [], ◌∷◌, ◌++◌, length, map, drop, take, drop-drop, refl, sym, ap, ◌∙◌, append_assoc, arith, inl, inr, ◌⊎◌}
use Rattle.std.proofs.lemmas.Bool.{false≢true}
use Rattle.std.specs.Prelude.{Option, Some, None, IfSome, ◌==◌, not}
use Rattle.std.specs.Borrow.{Bor}
use Rattle.std.specs.List.{filter, flat_map, range_with_len}
use Rattle.bpf_insn.specs.declared.forms.Insn.{Insn}
use Rattle.bpf_insn.specs.Encoding.{slots_taken}
use Rattle.bpf_insn.specs.Programs.{image_of, insn_at}
use Rattle.bpf_insn.proofs.LayoutLaws.{one_or_two}
use Rattle.bpf_asm.specs.Pieces.{pieces_of, prepend, lines_of}
use Rattle.bpf_asm.specs.inner.Listing.{left_of, number_by}
use Rattle.bpf_asm.specs.inner.Pieces.{pieces_left}
use Rattle.bpf_asm.specs.Meaning.{source_slots}
use Rattle.bpf_asm.specs.Statements.{Line, Source, line_of}
use Rattle.bpf_asm.specs.Listing.{bytes_at, insn_row, has_instruction, line_row, listed, listed_from, without_empty_end}

-- ---- one line after another

not_empty : (front : List ℕ) (pieces : List (List ℕ)) → prepend front pieces ≡ [] → ⊥
not_empty front [] none = absurd (cc)
not_empty front (piece ∷ pieces) none = absurd (cc)

has_line : (text : List ℕ) → lines_of text ≡ [] → ⊥
has_line [] none = absurd (cc)
has_line (c ∷ cs) none = by_test (c == 10) none
  where
    by_test : (t : Bool) → cond t ([] ∷ lines_of cs) (prepend (c ∷ []) (lines_of cs)) ≡ [] → ⊥
    by_test true none = absurd (cc)
    by_test false none = not_empty (c ∷ []) (lines_of cs) none

-- a text of one empty line is empty
one_empty : (text : List ℕ) → lines_of text ≡ [] ∷ [] → text ≡ []
one_empty [] same = refl
one_empty (c ∷ cs) same = absurd (by_test (c == 10) same)
  where
    by_pieces : (pieces : List (List ℕ)) → prepend (c ∷ []) pieces ≡ [] ∷ [] → ⊥
    by_pieces [] same = absurd (cc)
    by_pieces (piece ∷ pieces) same = absurd (cc)

    by_test : (t : Bool) → cond t ([] ∷ lines_of cs) (prepend (c ∷ []) (lines_of cs)) ≡ [] ∷ [] → ⊥
    by_test true same = let none : lines_of cs ≡ [] = cc in has_line cs none
    by_test false same = by_pieces (lines_of cs) same

-- a line before others that are told, and the last line
before_others : (line : List ℕ) (texts : List (List ℕ)) → (texts ≡ [] → ⊥)
    → without_empty_end (line ∷ texts) ≡ line ∷ without_empty_end texts
before_others line [] some = absurd (some refl)
before_others [] (text ∷ texts) some = refl
before_others (c ∷ cs) (text ∷ texts) some = refl

last_line : (line : List ℕ) → (line ≡ [] → ⊥) → without_empty_end (line ∷ []) ≡ line ∷ []
last_line [] some = absurd (some refl)
last_line (c ∷ cs) some = refl

pub next_line : (text line : List ℕ) (behind : Option (Bor (List ℕ))) → (text ≡ [] → ⊥)
    → pieces_of (λ c. c == 10) text ≡ line ∷ pieces_left (λ c. c == 10) behind
    → without_empty_end (lines_of text) ≡ line ∷ without_empty_end (lines_of (left_of behind))
next_line text line None some first =
    ap without_empty_end first ∙ last_line line (λ empty. some (one_empty text (first ∙ ap (λ l. l ∷ []) empty)))
next_line text line (Some rest) some first =
    ap without_empty_end first ∙ before_others line (lines_of rest.now) (has_line rest.now)

pub shorter_left : (text : List ℕ) (behind : Option (Bor (List ℕ))) → (text ≡ [] → ⊥)
    → IfSome behind (λ rest. length rest.now < length text) → length (left_of behind) < length text
shorter_left [] behind some shorter = absurd (some refl)
shorter_left (c ∷ cs) None some shorter = omega arith
shorter_left (c ∷ cs) (Some rest) some shorter = shorter

-- ---- rows

abbrev pub rows_left : List ℕ → ℕ → ℕ → List ℕ → List ℕ
rows_left image number slot rest =
    flat_map (λ l. line_row l (bytes_at image l.slot l.slots))
    (listed_from number slot (without_empty_end (lines_of rest)))

-- a row more, of a line whose instruction has these bytes
pub next_row : (image text line all old new bytes : List ℕ) (behind : Option (Bor (List ℕ))) (number slot slots : ℕ)
    → (text ≡ [] → ⊥) → pieces_of (λ c. c == 10) text ≡ line ∷ pieces_left (λ c. c == 10) behind
    → slots ≡ source_slots (line_of line).source → bytes ≡ bytes_at image slot slots
    → all ≡ old ++ rows_left image number slot text
    → new ≡ old ++ line_row (record { number = number; slot = slot; slots = slots; text = line }) bytes
    → all ≡ new ++ rows_left image (number + 1) (slot + slots) (left_of behind)
next_row image text line all old new bytes behind number slot slots some first taken own before more =
    let row : List ℕ = line_row (listed number slot line) (bytes_at image slot (source_slots (line_of line).source)) in
    let rest : List ℕ = rows_left image (number + 1) (slot + source_slots (line_of line).source) (left_of behind) in
    let opened : rows_left image number slot text ≡ row ++ rest =
    ap (λ texts. flat_map (λ l. line_row l (bytes_at image l.slot l.slots)) (listed_from number slot texts))
    (next_line text line behind some first) in
    let same : new ≡ old ++ row = more
    ∙ ap (λ b. old ++ line_row (record { number = number; slot = slot; slots = slots; text = line }) b) own
    ∙ ap (λ n. old ++ line_row (record { number = number; slot = slot; slots = n; text = line })
    (bytes_at image slot n)) taken in
    before ∙ ap (λ b. old ++ b) opened ∙ sym (append_assoc old row rest) ∙ ap (λ b. b ++ rest) (sym same)
    ∙ ap (λ n. new ++ rows_left image (number + 1) (slot + n) (left_of behind)) (sym taken)

-- the bytes of the next slots
pub next_bytes : (image left behind : List ℕ) (slot slots : ℕ) → left ≡ drop (8 * slot) image
    → behind ≡ drop (8 * slots) left → behind ≡ drop (8 * (slot + slots)) image
next_bytes image left behind slot slots before here =
    let sum : 8 * slot + 8 * slots ≡ 8 * (slot + slots) = omega arith in
    here ∙ ap (drop (8 * slots)) before ∙ drop-drop (8 * slots) (8 * slot) image ∙ ap (λ n. drop n image) sum

pub same_bytes : (image left : List ℕ) (slot slots : ℕ) → left ≡ drop (8 * slot) image
    → take (8 * slots) left ≡ bytes_at image slot slots
same_bytes image left slot slots before = ap (take (8 * slots)) before

-- the slots of the instruction of a line that is read
pub same_slots : (slots : ℕ) (line : Line) (text : List ℕ) → slots ≡ source_slots line.source → line ≡ line_of text
    → slots ≡ source_slots (line_of text).source
same_slots slots line text taken said = taken ∙ ap (λ l. source_slots l.source) said

pub few_slots : (slots : ℕ) (source : Option (Option Source)) → slots ≡ source_slots source → slots ≤ 2
few_slots slots None taken = omega (arith, taken)
few_slots slots (Some None) taken = omega (arith, taken)
few_slots slots (Some (Some source)) taken = by_form (one_or_two source.insn)
  where
    by_form : (slots_taken source.insn ≡ 1) ⊎ (slots_taken source.insn ≡ 2) → slots ≤ 2
    by_form (inl one) = omega (arith, taken, one)
    by_form (inr two) = omega (arith, taken, two)

pub shorter_by : (left rest text : List ℕ) → left ≡ rest → length rest < length text → length left < length text
shorter_by left rest text same less = let long : length left ≡ length rest = ap length same in omega (arith, long, less)

pub some_bytes : (text : List ℕ) (empty : Bool) → empty ≡ (length text == 0) → empty ≡ false → text ≡ [] → ⊥
some_bytes [] empty same full none = absurd (false≢true (sym full ∙ same))
some_bytes (c ∷ cs) empty same full none = absurd (cc)

-- ---- the lines of instructions

abbrev pub numbers_from : ℕ → ℕ → List (List ℕ) → List ℕ
numbers_from number slot texts = map (λ l. l.number) (filter has_instruction (listed_from number slot texts))

-- by the slots before them they don't change
pub same_numbers : (texts : List (List ℕ)) (number slot other : ℕ)
    → numbers_from number slot texts ≡ numbers_from number other texts
same_numbers [] number slot other = refl
same_numbers (text ∷ texts) number slot other = by_test (not (source_slots (line_of text).source == 0))
    (same_numbers texts (number + 1) (slot + source_slots (line_of text).source) (other + source_slots (line_of text).source))
  where
    by_test : (t : Bool)
        → numbers_from (number + 1) (slot + source_slots (line_of text).source) texts
        ≡ numbers_from (number + 1) (other + source_slots (line_of text).source) texts
        → map (λ l. l.number) (cond t (listed number slot text
        ∷ filter has_instruction (listed_from (number + 1) (slot + source_slots (line_of text).source) texts))
        (filter has_instruction (listed_from (number + 1) (slot + source_slots (line_of text).source) texts)))
        ≡ map (λ l. l.number) (cond t (listed number other text
        ∷ filter has_instruction (listed_from (number + 1) (other + source_slots (line_of text).source) texts))
        (filter has_instruction (listed_from (number + 1) (other + source_slots (line_of text).source) texts)))
    by_test true rest = ap (λ numbers. number ∷ numbers) rest
    by_test false rest = rest

pub next_number : (text line all old new : List ℕ) (behind : Option (Bor (List ℕ))) (number slots : ℕ)
    → (text ≡ [] → ⊥) → pieces_of (λ c. c == 10) text ≡ line ∷ pieces_left (λ c. c == 10) behind
    → slots ≡ source_slots (line_of line).source
    → all ≡ old ++ numbers_from number 0 (without_empty_end (lines_of text))
    → new ≡ old ++ number_by number slots
    → all ≡ new ++ numbers_from (number + 1) 0 (without_empty_end (lines_of (left_of behind)))
next_number text line all old new behind number slots some first taken before more =
    let texts : List (List ℕ) = without_empty_end (lines_of (left_of behind)) in
    let rest : List ℕ = numbers_from (number + 1) 0 texts in
    before ∙ ap (λ ts. old ++ numbers_from number 0 ts) (next_line text line behind some first)
    ∙ ap (λ ns. old ++ ns) (by_test (source_slots (line_of line).source == 0)
    (same_numbers texts (number + 1) (0 + source_slots (line_of line).source) 0))
    ∙ ap (λ n. old ++ (number_by number n ++ rest)) (sym taken)
    ∙ sym (append_assoc old (number_by number slots) rest) ∙ ap (λ ns. ns ++ rest) (sym more)
  where
    by_test : (t : Bool)
        → numbers_from (number + 1) (0 + source_slots (line_of line).source) (without_empty_end (lines_of (left_of behind)))
        ≡ numbers_from (number + 1) 0 (without_empty_end (lines_of (left_of behind)))
        → map (λ l. l.number) (cond (not t) (listed number 0 line ∷ filter has_instruction (listed_from (number + 1)
        (0 + source_slots (line_of line).source) (without_empty_end (lines_of (left_of behind)))))
        (filter has_instruction (listed_from (number + 1)
        (0 + source_slots (line_of line).source) (without_empty_end (lines_of (left_of behind))))))
        ≡ cond t [] (number ∷ []) ++ numbers_from (number + 1) 0 (without_empty_end (lines_of (left_of behind)))
    by_test true rest = rest
    by_test false rest = ap (λ numbers. number ∷ numbers) rest

-- ---- one slot more

same_place : (a n : ℕ) → a + 1 + n ≡ a + suc n
same_place a n = omega arith

rows_more : (row : ℕ → List ℕ) (a n : ℕ)
    → flat_map row (range_with_len a (suc n)) ≡ flat_map row (range_with_len a n) ++ row (a + n)
rows_more row a zero = append-nil (row a) ∙ ap row (sym (add-zero a))
rows_more row a (suc n) =
    let later : flat_map row (range_with_len (a + 1) (suc n)) ≡ flat_map row (range_with_len (a + 1) n)
    ++ row (a + 1 + n)
    = rows_more row (a + 1) n in
    ap (λ rest. row a ++ rest) later
    ∙ ap (λ k. row a ++ (flat_map row (range_with_len (a + 1) n) ++ row k)) (same_place a n)
    ∙ sym (append_assoc (row a) (flat_map row (range_with_len (a + 1) n)) (row (a + suc n)))

-- the row of what is found at the next slot
pub row_more : (p : List Insn) (k : ℕ) (image old new : List ℕ) (found : Option Insn) → image ≡ image_of p
    → found ≡ insn_at p k
    → old ≡ flat_map (λ slot. insn_row (image_of p) slot (insn_at p slot)) (range_with_len 0 k)
    → new ≡ old ++ insn_row image k found
    → new ≡ flat_map (λ slot. insn_row (image_of p) slot (insn_at p slot)) (range_with_len 0 (k + 1))
row_more p k image old new found whole here before more =
    let at : suc k ≡ k + 1 = omega arith in
    let place : 0 + k ≡ k = omega arith in
    let row : ℕ → List ℕ = λ slot. insn_row (image_of p) slot (insn_at p slot) in
    more ∙ ap (λ bytes. old ++ insn_row bytes k found) whole ∙ ap (λ f. old ++ insn_row (image_of p) k f) here
    ∙ ap (λ rows. rows ++ row k) before
    ∙ ap (λ n. flat_map row (range_with_len 0 k) ++ row n) (sym place)
    ∙ sym (rows_more row 0 k)
    ∙ ap (λ n. flat_map row (range_with_len 0 n)) at
