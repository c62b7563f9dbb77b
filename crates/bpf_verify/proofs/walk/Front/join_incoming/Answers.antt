use Rattle.std.proofs.Common.{Some, ap, ◌∙◌}
use Rattle.bpf_verify.specs.declared.abstract_state.AbstractState.{AbstractState as KeptState}
use Rattle.bpf_verify.specs.States.{joined_state}
use Rattle.bpf_verify.specs.inner.Rows.{abstract_of}
use Rattle.bpf_verify.proofs.StateLaws.{joined_either_way}
use Rattle.bpf_verify.proofs.walk.Front.join_incoming.Goals as goal
use Rattle.bpf_verify.proofs.walk.Front.join_incoming.Goals.{then-self, else-self}

pub returns-after-self : goal.returns-after-self
returns-after-self c =
    elim c.if-self.branch [
      | then-self w ↦ rw (c.in-Some.is, w.self-is, w.if-self.true) (ap Some (w.join.ensures
          ∙ joined_either_way (abstract_of c.args.self.now.known) (abstract_of w.deref.result.now)
          ∙ ap (λ (row : KeptState). joined_state (abstract_of row) (abstract_of c.args.self.now.known)) w.deref.ensures))
      | else-self w ↦ rw (c.in-Some.is, w.self-is, w.if-self.false)
          (ap (λ (row : KeptState). Some (abstract_of row)) (w.swap.ensures.x_after ∙ w.deref_mut.ensures.value))
    ]
