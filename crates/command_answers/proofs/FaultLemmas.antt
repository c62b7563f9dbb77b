-- What was said of a fault, by what came of the write.
use Rattle.std.proofs.Common.{List, ℕ, length, take, Option, Result, Ok, Err, sym, subst}
use Rattle.std.specs.Prelude.{IfErr, OnOk}
use Rattle.std.specs.Io.KnownBytes.{Appends}
use Rattle.std.proofs.Math.Seq.{take-length}
use Rattle.stream_io.specs.declared.WriteFault.{WriteFault}
use Rattle.command_answers.specs.Faults.{Says}

pub said_so_much : {A : Type 0} (old new : Option (List ℕ)) (text : List ℕ) (wrote : Result A WriteFault)
    → OnOk wrote (Appends old new text)
    → IfErr wrote (λ fault. Appends old new (take fault.written text)) → Says old new text
said_so_much old new text (Ok a) whole cut = (length text, subst (Appends old new) (sym (take-length text)) whole)
said_so_much old new text (Err fault) whole cut = (fault.written, cut)
