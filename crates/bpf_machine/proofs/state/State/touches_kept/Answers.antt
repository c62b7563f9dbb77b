use Rattle.std.proofs.Common.{◌≡◌, ◌+◌, ◌-◌, refl, sym, ap, ◌∙◌}
use Rattle.std.specs.FinMap.{empty}
use Rattle.node_env.specs.Dwords.{dword_of}
use Rattle.bpf_machine.specs.Machine.{Frame}
use Rattle.bpf_machine.proofs.KeptLaws.{get_nothing, nothing_kept}
use Rattle.bpf_machine.proofs.state.State.touches_kept.Goals as goal

pub returns-then-not-self : goal.returns-then-not-self
returns-then-not-self c =
    let none : c.args.self.now.kept ≡ empty =
    ap (λ (f : Frame). f.kept) (sym c.self.view_is)
    ∙ nothing_kept c.self.inside.keeps c.self.inside.kept c.self.invariant c.if-not-self.true in
    let kept = c.args.self.now.kept in
    rw (
      get_nothing kept (dword_of c.args.first) none,
      get_nothing kept (dword_of (c.args.first + c.args.count - 1)) none,
    ) refl
