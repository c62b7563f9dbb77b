use Rattle.std.proofs.Common.{◌≡◌, take}
use Rattle.std.specs.List.{flat_map}
use Rattle.bpf_insn.specs.inner.Programs.{spelling_at}
use Rattle.bpf_insn.proofs.spelling.spell_slots.Given as goal

abbrev pub invariant-loop-found : goal.invariant-loop-found
invariant-loop-found l = l.image.items ≡ flat_map spelling_at (take l.found-index l.slots)
