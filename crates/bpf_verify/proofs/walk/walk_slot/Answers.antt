use Rattle.std.proofs.Common.{◌∙◌, ap, arith}
use Rattle.bpf_verify.specs.inner.Walk.{come_of, table_of, met_state}
use Rattle.bpf_verify.proofs.RuleLaws.{here_within}
use Rattle.bpf_verify.proofs.Walking.{walk_past, walk_refused, when_ok, when_err}
use Rattle.bpf_verify.proofs.walk.walk_slot.Goals as goal

pub take_row-row-requires : goal.take_row-row-requires
take_row-row-requires c = omega (
  arith,
  here_within c.args.program.now c.args.slot c.args.insn.now c.requires.here,
  c.requires.long,
)

pub returns-clause-walks : goal.returns-clause-walks
returns-clause-walks c =
    when_ok c.pass.result (λ kept rows front.
    walk_past c.args.program.now c.args.shape c.args.slot c.args.insn.now c.join_incoming.new.self (come_of c.args.front.now)
    (table_of c.args.rows.now.items) (table_of c.take_row-row.new.rows.items)
    c.requires.here c.requires.walks (c.join_incoming.ensures
    ∙ ap (λ row. met_state row (come_of c.args.front.now)) c.take_row-row.ensures.row) c.take_row-row.ensures.ahead
    kept (table_of c.pass.new.rows.items) (come_of c.pass.new.front) rows front)
    c.pass.ensures.kept c.pass.ensures.rows c.pass.ensures.front

pub returns-clause-refused : goal.returns-clause-refused
returns-clause-refused c =
    when_err c.pass.result (walk_refused c.args.program.now c.args.shape c.args.slot c.args.insn.now c.join_incoming.new.self
    (come_of c.args.front.now) (table_of c.args.rows.now.items) (table_of c.take_row-row.new.rows.items)
    c.requires.here c.requires.walks (c.join_incoming.ensures
    ∙ ap (λ row. met_state row (come_of c.args.front.now)) c.take_row-row.ensures.row) c.take_row-row.ensures.ahead)
    c.pass.ensures.refused
