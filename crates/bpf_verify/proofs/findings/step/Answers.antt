use Rattle.std.proofs.Common.{◌∙◌, sym, arith}
use Rattle.bpf_verify.specs.inner.Walk.{come_of, table_of}
use Rattle.bpf_verify.proofs.RuleLaws.{here_within, keeps_rules}
use Rattle.bpf_verify.proofs.Keeping.{settled, keeps_next, refused_at}
use Rattle.bpf_verify.proofs.findings.step.Goals as goal

pub settle-requires : goal.settle-requires
settle-requires c =
    let within = here_within c.args.program.now c.args.slot c.args.insn.now c.requires.here in
    omega (arith, within, c.requires.long)

pub send-requires-clause-kept : goal.send-requires-clause-kept
send-requires-clause-kept c =
    keeps_rules c.args.program.now c.args.shape c.args.slot c.args.insn.now (come_of c.settle.new.front)
    (sym c.broken.ensures ∙ c.in-None.is)

pub returns-in-Some-clause-step : goal.returns-in-Some-clause-step
returns-in-Some-clause-step c =
    refused_at c.args.program.now c.args.shape c.args.slot c.args.insn.now (come_of c.settle.new.front)
    (table_of c.settle.new.rows.items) c.in-Some.rule c.requires.here
    (settled c.args.program.now c.args.shape c.args.slot (come_of c.args.front.now) (come_of c.settle.new.front)
    (table_of c.args.rows.now.items) (table_of c.settle.new.rows.items) c.requires.keeps c.settle.ensures.met
    c.in_ok-settle.ensures.left)
    (sym c.broken.ensures ∙ c.in-Some.is)

pub returns-in_ok-send-in-None-clause-step : goal.returns-in_ok-send-in-None-clause-step
returns-in_ok-send-in-None-clause-step c =
    keeps_next c.args.program.now c.args.shape c.args.slot c.args.insn.now (come_of c.settle.new.front)
    (come_of c.send.new.front) (table_of c.settle.new.rows.items) (table_of c.send.new.rows.items) c.requires.here
    (keeps_rules c.args.program.now c.args.shape c.args.slot c.args.insn.now (come_of c.settle.new.front)
    (sym c.broken.ensures ∙ c.in-None.is))
    (settled c.args.program.now c.args.shape c.args.slot (come_of c.args.front.now) (come_of c.settle.new.front)
    (table_of c.args.rows.now.items) (table_of c.settle.new.rows.items) c.requires.keeps c.settle.ensures.met
    c.in_ok-settle.ensures.left)
    c.in_ok-send-in-None.ensures.rows c.in_ok-send-in-None.ensures.front
