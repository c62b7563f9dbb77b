-- The names of errors of claims (docs/ALL_SIZES.md, "Certificates"; docs/PROPERTIES.md, "Refusals"), and the line that refuses a text of claims.
use Rattle.std.specs.Prelude.{ℕ, List, ◌++◌, codes}
use Rattle.std.specs.Fmt.{decimal}
use Rattle.claim_tokens.specs.declared.errors.ClaimError.{ClaimError}
use Rattle.claim_tokens.specs.declared.errors.ClaimError.TheVariants.{BadCharacter, Expected, UnknownName, NameTwice, OutOfRange, TooDeep, TooLong, NotCovered, NotAssumed}

abbrev pub claim_error_name : ClaimError → List ℕ
claim_error_name BadCharacter = codes "BadCharacter"
claim_error_name Expected = codes "Expected"
claim_error_name UnknownName = codes "UnknownName"
claim_error_name NameTwice = codes "NameTwice"
claim_error_name OutOfRange = codes "OutOfRange"
claim_error_name TooDeep = codes "TooDeep"
claim_error_name TooLong = codes "TooLong"
claim_error_name NotCovered = codes "NotCovered"
claim_error_name NotAssumed = codes "NotAssumed"

-- the line of a refusal, without its end
abbrev pub claims_refusal_line : ClaimError → ℕ → ℕ → List ℕ
claims_refusal_line error line column = codes "refused claims " ++ (claim_error_name error
    ++ (codes " line " ++ (decimal line ++ (codes " column " ++ decimal column))))
