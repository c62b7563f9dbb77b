use Rattle.clock_rule.proofs.Reading.{text_is_rule}
use Rattle.clock_rule.proofs.laws.the_text_reads_as_the_rule.Goals as goal

pub returns : goal.returns
returns c = record { reads = text_is_rule }
