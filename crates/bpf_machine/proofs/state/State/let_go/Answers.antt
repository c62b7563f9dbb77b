use Rattle.std.proofs.Common.{◌≡◌, sym, ap, ◌∙◌}
use Rattle.std.specs.FinMap.{FinMap, empty}
use Rattle.std.specs.Ordering.{nat_cmp}
use Rattle.bpf_machine.specs.declared.word.Word.{Word}
use Rattle.bpf_machine.specs.Machine.{Frame}
use Rattle.bpf_machine.proofs.KeptLaws.{nothing_kept, remove_nothing}
use Rattle.bpf_machine.proofs.state.State.let_go.Goals as goal

pub returns-else-self : goal.returns-else-self
returns-else-self c =
    let none : c.args.self.now.kept ≡ empty =
    ap (λ (f : Frame). f.kept) (sym c.self.view_is)
    ∙ nothing_kept c.self.inside.keeps c.self.inside.kept c.self.invariant c.if-self.false in
    ap (λ (m : FinMap nat_cmp Word). let f : Frame = record c.args.self.now { kept = m } in f)
    (sym (remove_nothing c.args.self.now.kept c.args.dword none))
