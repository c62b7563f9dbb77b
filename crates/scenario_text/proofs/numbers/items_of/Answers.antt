use Rattle.std.proofs.Common.{◌<◌, length, arith, rules}
use Rattle.scenario_text.proofs.TableLemmas.{next_read, next_unread}
use Rattle.scenario_text.proofs.numbers.items_of.Goals as goal

-- an item that says nothing
pub returns-in_default-clause-refused : goal.returns-in_default-clause-refused
returns-in_default-clause-refused g c =
    let items = c.deref-value-items.result.now in
    let i = c.loop-value.value-index in
    let within : i < length items = omega arith in
    next_unread (g.R.ItemReader.reads c.args.reader.now) items _ i c.value-item.result within
    (search rules) c.loop-value.invariant.same c.in_default.ensures

pub loop-value-preserved : goal.loop-value-preserved
loop-value-preserved g c =
    let items = c.deref-value-items.result.now in
    let i = c.loop-value.value-index in
    let within : i < length items = omega arith in
    record {
      same = c.loop-value.invariant.same;
      read = next_read (g.R.ItemReader.reads c.args.reader.now) items i c.value-item.result c.loop-value.items.items _
          c.in-Some.item within (search rules) c.loop-value.invariant.read c.in-Some.ensures (search rules);
    }
