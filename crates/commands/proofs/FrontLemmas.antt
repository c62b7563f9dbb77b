-- What a command leaves of an input, from what it leaves of the bytes that were read.
use Rattle.std.proofs.Common.{◌≡◌, ℕ, Bool, List, [], inl, inr, Option, Result, Err, subst, refl}
use Rattle.std.specs.Prelude.{◌≢◌}
use Rattle.std.proofs.KnownBytes.{Keeps-refl}
use Rattle.command_answers.specs.declared.ending.Ending.{Ending}
use Rattle.command_answers.specs.declared.fault.Fault.{Fault}
use Rattle.command_answers.specs.declared.input.Input.{Input}
use Rattle.command_answers.specs.declared.input.Input.TheVariants as inputs
use Rattle.requests.specs.declared.request.Request.{Request}
use Rattle.command_answers.specs.Faults.{IsFaultOfReading}
use Rattle.commands.specs.Perform.{AreRead, Responds, RespondsTo}

-- what is left of the bytes that were read is left of the input
pub responds_to : (request : Request) (input : Input) (bytes : List ℕ) (known : Option (List ℕ)) (failed : Bool)
    (old new : Option (List ℕ)) (ended : Result Ending Fault) → AreRead input known bytes
    → (input ≡ inputs.Nothing → bytes ≡ []) → Responds request bytes old new ended
    → RespondsTo input request known failed old new ended
responds_to request inputs.Nothing bytes known failed old new ended read none left =
    subst (λ (b : List ℕ). Responds request b old new ended) (none refl) left
responds_to request inputs.Image bytes known failed old new ended read none left = inl (bytes, read, left)
responds_to request inputs.Text bytes known failed old new ended read none left = inl (bytes, read, left)
responds_to request inputs.Scenario bytes known failed old new ended read none left = inl (bytes, read, left)

-- of an input that couldn't be read nothing is left
pub unread : (request : Request) (input : Input) (known : Option (List ℕ)) (failed : Bool) (old : Option (List ℕ))
    (fault : Fault) → input ≢ inputs.Nothing → IsFaultOfReading failed fault
    → RespondsTo input request known failed old old (Err fault)
unread request inputs.Nothing known failed old fault some before = absurd (some refl)
unread request inputs.Image known failed old fault some before = inr (before, Keeps-refl old)
unread request inputs.Text known failed old fault some before = inr (before, Keeps-refl old)
unread request inputs.Scenario known failed old fault some before = inr (before, Keeps-refl old)
