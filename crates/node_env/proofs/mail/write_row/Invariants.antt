use Rattle.node_env.specs.inner.Env.{IsSquare}
use Rattle.node_env.proofs.Rows.{IsWritten}
use Rattle.node_env.proofs.mail.write_row.Given as goal

abbrev pub invariant-loop-receiver : goal.invariant-loop-receiver
invariant-loop-receiver l = record {
  square : IsSquare l.nodes l.words;
  written : IsWritten l.nodes l.sender l.receiver l.fn.words l.row l.words;
}
