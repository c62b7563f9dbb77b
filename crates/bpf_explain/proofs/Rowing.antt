-- The rows of the slots before an end.
use Rattle.std.proofs.Common.{◌≡◌, ℕ, suc, ◌+◌, ◌≤◌, ◌<◌, List, [], ◌∷◌, ◌++◌, Option, Some, None, length, refl, sym, ap, subst, ◌∙◌, arith}
use Rattle.std.specs.Prelude.{slice_get}
use Rattle.std.specs.List.{flat_map, range_with_len}
use Rattle.std.proofs.lemmas.Grind.{flat_map-append}
use Rattle.std.proofs.lemmas.List.{append-nil, length-append}
use Rattle.node_env.specs.Env.{Extent}
use Rattle.bpf_insn.specs.declared.forms.Insn.{Insn}
use Rattle.bpf_insn.specs.Programs.{insn_at, slots_of}
use Rattle.bpf_verify.specs.declared.findings.Findings.{Findings}
use Rattle.bpf_verify.specs.declared.findings.Verdict.TheVariants.{Refused}
use Rattle.bpf_verify.specs.declared.rule.Rule.{Rule}
use Rattle.bpf_verify.specs.Findings.{AreFindings, IsVerdict, table_in}
use Rattle.bpf_verify.specs.Typable.{Table}
use Rattle.parameters.specs.declared.detail.Detail.{Detail}
use Rattle.bpf_explain.specs.Rows.{insn_listed, insn_count_before, row_at, slot_row, rows_before}
use Rattle.bpf_explain.proofs.Listing.{range_next}

-- one slot more
over_next : {A : Type 0} (f : ℕ → List A) (slot : ℕ)
    → flat_map f (range_with_len 0 (slot + 1)) ≡ flat_map f (range_with_len 0 slot) ++ f slot
over_next f slot =
    let next : slot + 1 ≡ suc slot = omega arith in
    ap (λ n. flat_map f (range_with_len 0 n)) next ∙ ap (flat_map f) (range_next slot)
    ∙ flat_map-append f (range_with_len 0 slot) (slot ∷ [])
    ∙ ap (λ more. flat_map f (range_with_len 0 slot) ++ more) (append-nil (f slot))

pub none_before : (program : List Insn) → insn_count_before program 0 ≡ 0
unfolding insn_count_before
none_before program = refl

pub insns_next : (program : List Insn) (slot count after : ℕ) → count ≡ insn_count_before program slot
    → after ≡ count + length (insn_listed (insn_at program slot)) → after ≡ insn_count_before program (slot + 1)
unfolding insn_count_before
insns_next program slot count after before is =
    let found : ℕ → List Insn = λ at. insn_listed (insn_at program at) in
    is ∙ ap (λ n. n + length (found slot)) before
    ∙ sym (length-append (flat_map found (range_with_len 0 slot)) (found slot)) ∙ ap length (sym (over_next found slot))

pub few_more : (found : Option Insn) → length (insn_listed found) ≤ 1
few_more None = omega arith
few_more (Some insn) = omega arith

pub no_rows : (program : List Insn) (shape : Extent) (table : Table) (detail : Detail) (lines : List ℕ)
    → [] ≡ rows_before program shape table detail lines 0
unfolding rows_before
no_rows program shape table detail lines = refl

pub rows_next : (program : List Insn) (shape : Extent) (table : Table) (detail : Detail) (lines : List ℕ)
    (slot count : ℕ) (line : Option ℕ) (text after : List ℕ)
    → count ≡ insn_count_before program slot → line ≡ slice_get lines count
    → text ≡ rows_before program shape table detail lines slot
    → after ≡ text ++ slot_row shape table detail line slot (insn_at program slot)
    → after ≡ rows_before program shape table detail lines (slot + 1)
unfolding rows_before
rows_next program shape table detail lines slot count line text after counted found before adds =
    adds ∙ ap (λ bytes. bytes ++ slot_row shape table detail line slot (insn_at program slot)) before
    ∙ ap (λ l. rows ++ slot_row shape table detail l slot (insn_at program slot)) (found ∙ ap (slice_get lines) counted)
    ∙ sym (over_next (row_at program shape table detail lines) slot)
  where
    rows : List ℕ
    rows = flat_map (row_at program shape table detail lines) (range_with_len 0 slot)

pub slot_within : (program : List Insn) (shape : Extent) (findings : Findings) (slot : ℕ) (rule : Rule)
    → AreFindings program shape findings → findings.verdict ≡ Refused slot rule → slot < slots_of program
slot_within program shape findings slot rule are e =
    (subst (IsVerdict program shape (table_in findings)) e are.verdict).first.within
