use Rattle.std.proofs.Common.{arith, rules, ◌≤◌, take, replicate, ◌∙◌, ap, slice_set}
use Rattle.std.specs.FinMap.{empty}
use Rattle.std.proofs.lemmas.List.{take-replicate}
use Rattle.node_env.specs.declared.word.TheConstants.{EMPTY}
use Rattle.node_env.specs.declared.shape.TheConstants.{MAX_NODES}
use Rattle.node_env.specs.inner.Slots.{numbers_of, rows_of}
use Rattle.std.proofs.lemmas.List.{with_items_is}
use Rattle.node_env.proofs.Rows.{length-square, numbers_of-empty}
use Rattle.node_env.proofs.mail.Mail.clear.Goals as goal

pub write_row-requires-clause-sender : goal.write_row-requires-clause-sender
write_row-requires-clause-sender c = omega (arith, length-square _ _ _ c.self.view_is, c.requires)

pub returns : goal.returns
returns c =
    let few : c.self.inside.nodes ≤ MAX_NODES = c.self.invariant.few in
    ap (rows_of c.self.inside.nodes)
    (with_items_is c.self.inside.words c.write_row.new.words
    (search (rules, c.write_row.ensures.square.whole, c.self.invariant.whole)))
    ∙ c.write_row.ensures.rows
    ∙ ap (λ words. slice_set (rows_of c.self.inside.nodes words) c.args.sender
    (numbers_of (take c.self.inside.nodes (replicate MAX_NODES EMPTY)))) c.deref_mut.ensures.value
    ∙ ap (λ sent. slice_set (rows_of c.self.inside.nodes c.self.inside.words.items) c.args.sender
    sent)
    (ap numbers_of (take-replicate c.self.inside.nodes MAX_NODES EMPTY few) ∙ numbers_of-empty c.self.inside.nodes)
    ∙ ap (λ rows. slice_set rows c.args.sender empty) c.self.view_is
