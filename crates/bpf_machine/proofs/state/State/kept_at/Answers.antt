use Rattle.std.proofs.Common.{◌≡◌, ◌%◌, ◌==◌, true, false, None, Option, if◌then◌else◌, refl, sym, ap, ◌∙◌}
use Rattle.std.specs.FinMap.{empty}
use Rattle.node_env.specs.Dwords.{dword_of}
use Rattle.bpf_machine.specs.declared.word.Word.{Word}
use Rattle.bpf_machine.specs.Machine.{Frame}
use Rattle.bpf_machine.proofs.KeptLaws.{get_nothing, nothing_kept}
use Rattle.bpf_machine.proofs.state.State.kept_at.Goals as goal

pub returns-then-not-self : goal.returns-then-not-self
returns-then-not-self c =
    let none : c.args.self.now.kept ≡ empty =
    ap (λ (f : Frame). f.kept) (sym c.self.view_is)
    ∙ nothing_kept c.self.inside.keeps c.self.inside.kept c.self.invariant c.if-not-self.true in
    let nothing : Option Word = None in
    rw (get_nothing c.args.self.now.kept (dword_of c.args.first) none)
    (elim (c.args.first % 8 == 0) as (λ b. nothing ≡ (if b then nothing else nothing)) [
      | true ↦ refl
      | false ↦ refl
    ])
