use Rattle.bpf_verify.specs.inner.Rows.{abstract_of}
use Rattle.bpf_verify.proofs.KindLaws.{called_built}
use Rattle.bpf_verify.proofs.outcomes.call.Goals as goal

pub returns : goal.returns
returns c =
    called_built c.args.shape c.args.helper (abstract_of c.args.known.now) (abstract_of c.set_kind.new.self)
    (abstract_of c.set_kind-2.new.self)
    (abstract_of c.set_kind-3.new.self) (abstract_of c.set_kind-4.new.self) (abstract_of c.set_kind-5.new.self)
    (abstract_of c.set_kind-6.new.self) c.answer-answer.result
    c.answer-answer.ensures c.set_kind.ensures c.set_kind-2.ensures c.set_kind-3.ensures c.set_kind-4.ensures
    c.set_kind-5.ensures c.set_kind-6.ensures
