use Rattle.std.proofs.Common.{◌≡◌, ◌+◌, pos, ◌-ℤ◌, Some, sym, ap, ◌∙◌, arith}
use Rattle.std.proofs.lemmas.Int.{ints, to_z-of_z}
use Rattle.bpf_asm.specs.Meaning.{with_distance}
use Rattle.bpf_asm.specs.inner.Meaning.{known}
use Rattle.bpf_asm.specs.inner.Statements.{name_in}
use Rattle.bpf_asm.proofs.InsnLemmas.{label_resolved}
use Rattle.bpf_asm.proofs.assembler.insn_at.Goals as goal

pub returns : goal.returns
returns c =
    let named : name_in c.args.source.label ≡ Some c.in-Some.name.now = ap name_in c.in-Some.is in
    let found : known c.args.labels.now c.in-Some.name.now ≡ Some c.in-Some-slot_of.target =
    ap (λ n. known c.args.labels.now n.now) (sym c.in-Some.name-is) ∙ sym c.slot_of.ensures.slot
    ∙ c.in-Some-slot_of.is in
    let jump : c.with_distance.result ≡ with_distance
    (pos c.in-Some-slot_of.target -ℤ pos (c.args.slot + 1)) c.args.source.insn =
    c.with_distance.ensures ∙ ap (λ z. with_distance z c.args.source.insn) (grind (arith, ints, to_z-of_z)) in
    ap Some jump ∙ sym (label_resolved c.args.labels.now c.args.slot c.args.source.insn
    (name_in c.args.source.label) c.in-Some.name.now c.in-Some-slot_of.target named found)
