use Rattle.bpf_machine.proofs.SoundLaws.{entry_sound, step_sound, step_begins}
use Rattle.bpf_machine.proofs.laws.stays_sound.Goals as goal

pub returns : goal.returns
returns c = record { entry = entry_sound; step = step_sound; begins = step_begins }
