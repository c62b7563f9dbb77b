use Rattle.std.proofs.Common.{rules, ◌∙◌, ap, slice_set}
use Rattle.std.specs.FinMap.{insert}
use Rattle.node_env.specs.Env.{Sendings}
use Rattle.node_env.specs.inner.Slots.{numbers_of}
use Rattle.node_env.proofs.Numbers.{are_sendings}
use Rattle.node_env.proofs.Rows.{numbers_of-set}
use Rattle.node_env.proofs.outbox.Outbox.send.Goals as goal

pub invariant_of-self : goal.invariant_of-self
invariant_of-self c = record {
  sendings = are_sendings _ (search rules) (search rules);
  fit = search rules;
}

pub returns-clause-sent : goal.returns-clause-sent
returns-clause-sent c =
    ap (λ v. numbers_of (slice_set c.self.inside.words.items c.args.receiver v)) c.from.ensures
    ∙ numbers_of-set c.self.inside.words.items c.args.receiver c.args.value (search rules) c.ranges.value.fits
    ∙ ap (λ (outbox : Sendings). insert outbox.sent c.args.receiver c.args.value) c.self.view_is
