use Rattle.command_answers.proofs.input.read_input.Goals as goal

pub returns-in-Image-clause-bytes : goal.returns-in-Image-clause-bytes
returns-in-Image-clause-bytes g c = rw c.in-Image.is c.read_bytes.ensures.bytes

pub returns-in-Text-clause-bytes : goal.returns-in-Text-clause-bytes
returns-in-Text-clause-bytes g c = rw c.in-Text.is c.read_bytes-in-Text.ensures.bytes

pub returns-in-Scenario-clause-bytes : goal.returns-in-Scenario-clause-bytes
returns-in-Scenario-clause-bytes g c = rw c.in-Scenario.is c.read_bytes-in-Scenario.ensures.bytes
