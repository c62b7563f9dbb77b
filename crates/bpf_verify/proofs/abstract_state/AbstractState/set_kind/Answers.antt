use Rattle.std.proofs.Common.{arith, refl, ap, ◌∙◌}
use Rattle.bpf_verify.specs.Outcomes.{put_kind}
use Rattle.bpf_verify.specs.inner.Rows.{kind_numbered}
use Rattle.bpf_verify.proofs.KindLaws.{same_state, kind_set}
use Rattle.bpf_verify.proofs.abstract_state.AbstractState.set_kind.Goals as goal

pub returns : goal.returns
returns c = same_state _ _ (λ other.
    kind_set c.args.self.now.kinds.list c.number.result c.args.kind other (omega arith)
    ∙ ap (λ number. put_kind (kind_numbered c.args.self.now.kinds.list) number c.args.kind other)
    c.number.ensures.value)
    (λ _. refl) (λ _. refl)
