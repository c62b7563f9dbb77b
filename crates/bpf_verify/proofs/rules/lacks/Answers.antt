use Rattle.std.proofs.Common.{sym, ◌∙◌}
use Rattle.bpf_verify.specs.inner.Rows.{abstract_of}
use Rattle.bpf_verify.proofs.RuleLaws.{lacks_past}
use Rattle.bpf_verify.proofs.rules.lacks.Goals as goal

pub loop-byte-preserved : goal.loop-byte-preserved
loop-byte-preserved c =
    c.loop-byte.invariant ∙ lacks_past (abstract_of c.args.known.now) c.loop-byte.byte c.args.end c.loop-byte-test.true
    (sym c.has.ensures ∙ c.if-not-has.false)
