use Rattle.std.proofs.Common.{sym}
use Rattle.bpf_verify.specs.States.{kind_of}
use Rattle.bpf_verify.specs.inner.Rows.{abstract_of}
use Rattle.bpf_verify.proofs.RulesGrow.{takes_no_part}
use Rattle.bpf_verify.proofs.rules.may_take_part.Goals as goal

pub returns-then-holds_none : goal.returns-then-holds_none
returns-then-holds_none c =
    sym (takes_no_part c.args.shape (abstract_of c.args.known.now) (kind_of (abstract_of c.args.known.now) c.args.base)
    c.args.off c.args.count (c.holds_none.ensures c.if-holds_none.true))
