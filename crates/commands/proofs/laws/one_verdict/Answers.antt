use Rattle.program_commands.proofs.VerdictLemmas as lemmas
use Rattle.commands.proofs.laws.one_verdict.Goals as goal

pub returns : goal.returns
returns c =
    lemmas.one_verdict
    (record {
      one_program = c.one_reading.ensures.program;
      one_refusal = c.one_reading.ensures.refusal;
      apart = c.one_reading.ensures.apart;
      untypable = c.one_verdict.ensures.untypable;
      one_slot = c.one_verdict.ensures.slot;
      one_longest = c.one_verdict.ensures.longest;
    })
