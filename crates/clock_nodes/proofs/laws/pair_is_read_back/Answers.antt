use Rattle.clock_nodes.proofs.Bytes.{clock_written, mark_written}
use Rattle.clock_nodes.proofs.Pairs.{pair_fits}
use Rattle.clock_nodes.proofs.laws.pair_is_read_back.Goals as goal

pub returns-clause-clock : goal.returns-clause-clock
returns-clause-clock c = clock_written

pub returns-clause-mark : goal.returns-clause-mark
returns-clause-mark c = mark_written

pub returns-clause-fits : goal.returns-clause-fits
returns-clause-fits c = pair_fits
