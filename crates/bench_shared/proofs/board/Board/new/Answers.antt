use Rattle.bench_shared.proofs.Moves.{begins}
use Rattle.bench_shared.proofs.board.Board.new.Goals as goal

pub of_words-requires : goal.of_words-requires
of_words-requires c = begins
