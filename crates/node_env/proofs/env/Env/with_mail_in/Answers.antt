use Rattle.std.proofs.Common.{rules, arith, ◌≡◌, length, subst, sym, All}
use Rattle.node_env.specs.inner.Slots.{IsSlotWord}
use Rattle.node_env.proofs.Rows.{numbers-words}
use Rattle.node_env.proofs.env.Env.with_mail_in.Goals as goal

pub invariant_of-result : goal.invariant_of-result
invariant_of-result c =
    let words = c.extend_from_slice.new.self in
    let items : words.items ≡ c.words_to.result.now = search rules in
    let count : length words.items ≡ c.args.shape.nodes = (search rules) in (
      count,
      subst (All IsSlotWord) (sym items) c.words_to.ensures.words,
      record {
        extent = search rules;
        id = c.requires.id;
        mail = numbers-words c.args.shape.nodes words.items (omega arith);
        coin = c.requires.coin;
      },
    )
