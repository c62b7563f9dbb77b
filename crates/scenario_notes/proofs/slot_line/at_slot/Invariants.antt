use Rattle.scenario_notes.proofs.SlotLemmas.{IsBehind}
use Rattle.scenario_notes.proofs.slot_line.at_slot.Given as goal

abbrev pub invariant-loop-line : goal.invariant-loop-line
invariant-loop-line l = IsBehind l.program l.line-index l.next
