use Rattle.property_steps.proofs.Always.{always}
use Rattle.property_steps.proofs.laws.a_step_says_always.Goals as goal

pub returns : goal.returns
returns c = always
