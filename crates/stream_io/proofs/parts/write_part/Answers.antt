use Rattle.stream_io.proofs.PartLemmas.{broken}
use Rattle.stream_io.proofs.parts.write_part.Goals as goal

pub returns-in-Err-clause-fault : goal.returns-in-Err-clause-fault
returns-in-Err-clause-fault g c start text =
    broken _ _ start c.args.before _ c.in-Err.fault.written c.args.part.now text c.in-Err.ensures.part
    c.saturating_add-in-Err.ensures c.in-Err.ensures.prefix
