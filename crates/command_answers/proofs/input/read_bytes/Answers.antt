use Rattle.stream_io.proofs.ReadLemmas.{only_failed}
use Rattle.command_answers.proofs.input.read_bytes.Goals as goal

pub returns-in-Err-Stream-clause-fault : goal.returns-in-Err-Stream-clause-fault
returns-in-Err-Stream-clause-fault g c =
    only_failed _ c.args.limit c.args.calls c.requires.enough
    (rw c.in-Err-Stream.field-0-is at c.in-Err-Stream.ensures.cause)
