-- What is said in two parts.
use Rattle.std.proofs.Common.{List, Option, arith, length, sym, subst, take, ℕ, ◌+◌, ◌++◌, ◌<◌}
use Rattle.std.specs.Io.KnownBytes.{Appends}
use Rattle.std.proofs.KnownBytes.{Appends-trans}
use Rattle.std.proofs.Math.Seq.{take-append-add}
use Rattle.std.proofs.lemmas.List.{take-append-le}
use Rattle.command_answers.specs.Faults.{Says}

-- the first part was taken
pub said_both : (old mid new : Option (List ℕ)) (first second : List ℕ) → Appends old mid first → Says mid new second
    → Says old new (first ++ second)
said_both old mid new first second whole said = (
  length first + said.0,
  subst (Appends old new) (sym (take-append-add first second said.0))
      (Appends-trans old mid new first (take said.0 second) whole said.1),
)

-- the first part wasn't
pub said_first : (old new : Option (List ℕ)) (first second : List ℕ) (taken : ℕ) → taken < length first
    → Appends old new (take taken first) → Says old new (first ++ second)
said_first old new first second taken few left =
    (taken, subst (Appends old new) (sym (take-append-le taken first second (omega (arith, few)))) left)
