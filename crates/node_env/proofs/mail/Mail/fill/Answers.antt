use Rattle.std.proofs.Common.{arith, rules, ◌∙◌, ap, slice_set}
use Rattle.node_env.specs.inner.Slots.{numbers_of, rows_of}
use Rattle.std.proofs.lemmas.List.{with_items_is}
use Rattle.node_env.proofs.Rows.{length-square}
use Rattle.node_env.proofs.mail.Mail.fill.Goals as goal

pub write_row-requires-clause-sender : goal.write_row-requires-clause-sender
write_row-requires-clause-sender c = omega (arith, length-square _ _ _ c.self.view_is, c.requires.sender)

pub write_row-requires-clause-row : goal.write_row-requires-clause-row
write_row-requires-clause-row c = omega (
  arith,
  length-square _ _ _ c.self.view_is,
  c.requires.nodes,
  c.words.ensures.nodes,
)

pub returns : goal.returns
returns c =
    ap (rows_of c.self.inside.nodes)
    (with_items_is c.self.inside.words c.write_row.new.words
    (search (rules, c.write_row.ensures.square.whole, c.self.invariant.whole)))
    ∙ c.write_row.ensures.rows
    ∙ ap (λ words. slice_set (rows_of c.self.inside.nodes words) c.args.sender
    (numbers_of c.words.result.now)) c.deref_mut.ensures.value
    ∙ ap (λ sent. slice_set (rows_of c.self.inside.nodes c.self.inside.words.items) c.args.sender
    sent) c.words.ensures.sent
    ∙ ap (λ rows. slice_set rows c.args.sender c.args.outbox.now.sent) c.self.view_is
