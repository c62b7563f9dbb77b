-- What the parts of the verifier give.
use Rattle.std.specs.Prelude.{◌≡◌, Bool, true, false, Option, Some, None}
use Rattle.bpf_verify.specs.States.{AbstractState}

-- the outcome if there is one, and none where the way isn't taken
abbrev pub Becomes : Option AbstractState → AbstractState → Bool → Type 0
Becomes given new true = given ≡ Some new
Becomes given new false = given ≡ None
