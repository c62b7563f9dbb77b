use Rattle.key_sweep.proofs.BlockLemmas.{block_given}
use Rattle.key_sweep.proofs.block.block_of.Goals as goal

pub returns : goal.returns
returns g c =
    block_given (g.R.RowMaker.is_row c.args.maker.now) c.args.first c.args.count c.in_ok-slots.slots.items
    c.as_slice.result.now c.front_of.result c.as_slice.ensures.value c.front_of.ensures.text c.front_of.ensures.rows
    c.in_ok-slots.ensures
