-- An accepted program, from its parts.
use Rattle.std.specs.Prelude.{◌≡◌, true}
use Rattle.std.specs.Arc.{arc_value}
use Rattle.bpf_verify.specs.declared.verified.VerifiedProgram.TheInside.{Inside}
use Rattle.bpf_verify.specs.Accepted.{Accepted}
use Rattle.bpf_record.specs.Records.{AreRecords}
use Rattle.bpf_record.specs.Blind.{IsBlind}

abbrev pub accepted_of : Inside → Accepted
accepted_of v = record { program = (arc_value v.shared).program; shape = v.shape; budget = v.budget }

-- beside the program are its records
abbrev pub HasRecords : Inside → Type 0
HasRecords v = AreRecords (arc_value v.shared).program (arc_value v.shared).records.items

-- a program that is marked blind is blind
abbrev pub KnowsBlind : Inside → Type 0
KnowsBlind v = (arc_value v.shared).blind ≡ true → IsBlind (arc_value v.shared).program
