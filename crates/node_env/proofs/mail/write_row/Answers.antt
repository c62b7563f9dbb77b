use Rattle.std.proofs.Common.{arith, ℕ, ◌≡◌, ◌+◌, sym, subst, get_or, slice_set}
use Rattle.std.proofs.lemmas.List.{length-set}
use Rattle.std.proofs.lemmas.List.Elements.{All-set}
use Rattle.node_env.specs.inner.Slots.{IsSlotWord}
use Rattle.node_env.proofs.Rows.{IsWritten, rows_of-written, written_more}
use Rattle.node_env.proofs.mail.write_row.Goals as goal

pub loop-receiver-preserved : goal.loop-receiver-preserved
loop-receiver-preserved c =
    let receiver : ℕ = c.loop-receiver.receiver in
    let word : ℕ = get_or c.args.row.now receiver 0 in
    record {
      square = record {
        some = c.requires.square.some;
        few = c.requires.square.few;
        whole = omega (arith, length-set c.loop-receiver.words c.place_of.result word);
        fit = All-set IsSlotWord c.loop-receiver.words c.place_of.result word (c.requires.words receiver 0 (omega arith))
            c.loop-receiver.invariant.square.fit;
      };
      written = subst (λ place. IsWritten c.args.nodes c.args.sender (receiver + 1) c.args.words.now c.args.row.now
          (slice_set c.loop-receiver.words place word)) (sym c.place_of.ensures)
          (written_more c.args.nodes c.args.sender receiver c.args.words.now c.args.row.now c.loop-receiver.words
          c.requires.sender c.loop-receiver-test.true c.loop-receiver.invariant.square.whole (omega arith)
          c.loop-receiver.invariant.written);
    }

pub returns-clause-rows : goal.returns-clause-rows
returns-clause-rows c =
    let end : c.loop-receiver.receiver ≡ c.args.nodes = omega arith in
    rows_of-written c.args.nodes c.args.sender c.args.words.now c.args.row.now c.loop-receiver.words c.requires.sender
    c.requires.row (subst (λ k. IsWritten c.args.nodes c.args.sender k c.args.words.now c.args.row.now
    c.loop-receiver.words) end c.loop-receiver.invariant.written)
