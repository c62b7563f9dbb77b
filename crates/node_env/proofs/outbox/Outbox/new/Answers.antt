use Rattle.std.proofs.Common.{rules, ◌≡◌, arith, replicate, subst, sym, All}
use Rattle.std.proofs.lemmas.List.Elements.{All-replicate}
use Rattle.node_env.specs.declared.word.TheConstants.{EMPTY}
use Rattle.node_env.specs.inner.Slots.{IsSlotWord}
use Rattle.node_env.proofs.Numbers.{are_sendings}
use Rattle.node_env.proofs.outbox.Outbox.new.Goals as goal

pub invariant_of-result : goal.invariant_of-result
invariant_of-result c =
    let items : c.in_ok-vec.field-0.items ≡ replicate c.nodes.result EMPTY = (search rules) in
    record {
      sendings = are_sendings c.in_ok-vec.field-0.items (search rules) (search rules);
      fit = subst (All IsSlotWord) (sym items) (All-replicate IsSlotWord c.nodes.result EMPTY (omega arith));
    }
