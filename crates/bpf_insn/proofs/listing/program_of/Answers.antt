use Rattle.std.proofs.Common.{◌≤◌, List, length, arith, sym, ap, subst, ◌∙◌}
use Rattle.bpf_insn.specs.declared.forms.Insn.{Insn}
use Rattle.std.specs.List.{All}
use Rattle.std.specs.Prelude.{vec_len}
use Rattle.std.proofs.lemmas.Bool.{eqb-false}
use Rattle.bpf_insn.specs.declared.listing.TheConstants.{MAX_SLOTS}
use Rattle.bpf_insn.specs.Encoding.{InRange}
use Rattle.bpf_insn.specs.Programs.{IsProgram, slots_of}
use Rattle.bpf_insn.proofs.LayoutLaws.{is_program}
use Rattle.bpf_insn.proofs.listing.program_of.Goals as goal
use Rattle.bpf_insn.proofs.listing.program_of.Goals.{In-Some}

is_one : (c : In-Some) → IsProgram c.args.insns.items
is_one c =
    let items = c.args.insns.items in
    let value = c.deref.ensures.value in
    is_program items (subst (λ (p : List Insn). All InRange p) value c.in-Some.ensures.in_range)
    (λ none. eqb-false (vec_len c.args.insns) 0 (sym c.if-is_empty.ensures) (c.args.insns.ok.0 ∙ ap length none))
    (subst (λ (p : List Insn). slots_of p ≤ MAX_SLOTS) value (omega (arith, c.in-Some.ensures.some)))

pub with_image-requires : goal.with_image-requires
with_image-requires c = rw c.deref-2.ensures.value (is_one (goal.at.with_image-requires c).In-Some)

pub returns-in-Ok-clause-program : goal.returns-in-Ok-clause-program
returns-in-Ok-clause-program c =
    let same = c.in-Ok.ensures ∙ c.deref-2.ensures.value in
    (same, rw same (is_one (goal.at.returns-in-Ok-clause-program c).In-Some))

pub returns-in-Err-clause-refusal : goal.returns-in-Err-clause-refusal
returns-in-Err-clause-refusal c = is_one (goal.at.returns-in-Err-clause-refusal c).In-Some
