use Rattle.std.proofs.Common.{◌≡◌, ◌++◌, drop, string_bytes, codes}
use Rattle.std.specs.Prelude.{flat_map}
use Rattle.command_answers.specs.Left.{mail_slot_text}
use Rattle.command_answers.proofs.left.add_more.Given as goal

-- what is written and what is still to come are the whole
abbrev pub invariant-loop-slot : goal.invariant-loop-slot
invariant-loop-slot l =
    string_bytes l.text ++ flat_map (λ slot. codes "," ++ mail_slot_text slot) (drop l.slot-index l.slots)
    ≡ string_bytes l.fn.text ++ flat_map (λ slot. codes "," ++ mail_slot_text slot) l.slots
