-- Rows of slots, one after the other.
use Rattle.std.proofs.Common.{◌≡◌, ℕ, zero, suc, add-zero, append-nil, append_assoc, ◌+◌, ◌-◌, ◌++◌, List, sym, ap, ◌∙◌, arith}
use Rattle.std.specs.Prelude.{Option}
use Rattle.std.specs.List.{flat_map, range_with_len}
use Rattle.bpf_insn.specs.declared.forms.Insn.{Insn}
use Rattle.bpf_insn.specs.Programs.{image_of, insn_at}
use Rattle.rule_listing.specs.Listing.{heading_by, slot_text, line_at, slot_rows}

same_place : (a n : ℕ) → a + 1 + n ≡ a + suc n
same_place a n = omega arith

rows_more : (row : ℕ → List ℕ) (a n : ℕ)
    → flat_map row (range_with_len a (suc n)) ≡ flat_map row (range_with_len a n) ++ row (a + n)
rows_more row a zero = append-nil (row a) ∙ ap row (sym (add-zero a))
rows_more row a (suc n) =
    ap (λ rest. row a ++ rest) (rows_more row (a + 1) n)
    ∙ ap (λ k. row a ++ (flat_map row (range_with_len (a + 1) n) ++ row k)) (same_place a n)
    ∙ sym (append_assoc (row a) (flat_map row (range_with_len (a + 1) n)) (row (a + suc n)))

-- what is listed of the next slot
pub slot_more : (text lines : List ℕ) (p : List Insn) (slot before line : ℕ) (image old mid new : List ℕ)
    (found : Option Insn) → image ≡ image_of p → found ≡ insn_at p slot → before ≡ line_at lines (slot - 1)
    → line ≡ line_at lines slot → old ≡ flat_map (slot_rows text lines p) (range_with_len 0 slot)
    → mid ≡ old ++ heading_by text before line → new ≡ mid ++ slot_text image slot found
    → new ≡ flat_map (slot_rows text lines p) (range_with_len 0 (slot + 1))
slot_more text lines p slot before line image old mid new found whole here was is so_far with_line with_insn =
    let at : suc slot ≡ slot + 1 = omega arith in
    let place : 0 + slot ≡ slot = omega arith in
    let row : ℕ → List ℕ = slot_rows text lines p in
    let head : List ℕ = heading_by text (line_at lines (slot - 1)) (line_at lines slot) in
    let insn : List ℕ = slot_text (image_of p) slot (insn_at p slot) in
    let headed : mid ≡ old ++ head =
    with_line ∙ ap (λ b. old ++ heading_by text b line) was
    ∙ ap (λ l. old ++ heading_by text (line_at lines (slot - 1)) l) is in
    with_insn ∙ ap (λ bytes. mid ++ slot_text bytes slot found) whole
    ∙ ap (λ f. mid ++ slot_text (image_of p) slot f) here ∙ ap (λ l. l ++ insn) headed
    ∙ append_assoc old head insn ∙ ap (λ rows. rows ++ row slot) so_far
    ∙ ap (λ n. flat_map row (range_with_len 0 slot) ++ row n) (sym place) ∙ sym (rows_more row 0 slot)
    ∙ ap (λ n. flat_map row (range_with_len 0 n)) at
