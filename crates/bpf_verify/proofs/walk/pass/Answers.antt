use Rattle.std.proofs.Common.{◌∙◌, sym}
use Rattle.bpf_verify.specs.inner.Walk.{come_of}
use Rattle.bpf_verify.proofs.RuleLaws.{keeps_rules}
use Rattle.bpf_verify.proofs.walk.pass.Goals as goal

pub send-requires-clause-kept : goal.send-requires-clause-kept
send-requires-clause-kept c =
    keeps_rules c.args.program.now c.args.shape c.args.slot c.args.insn.now (come_of c.args.front.now)
    (sym c.broken.ensures ∙ c.in-None.is)

pub returns-in-Ok-clause-kept : goal.returns-in-Ok-clause-kept
returns-in-Ok-clause-kept c =
    keeps_rules c.args.program.now c.args.shape c.args.slot c.args.insn.now (come_of c.args.front.now)
    (sym c.broken.ensures ∙ c.in-None.is)
