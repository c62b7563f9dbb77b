-- What `prove` leaves on its output (docs/COMMANDS.md, "What prove prints").
use Rattle.std.specs.Prelude.{ℕ, Bool, true, false, if◌then◌else◌, List, ◌++◌, codes, flat_map, string_bytes, Option, Result, Ok, Err, Vec}
use Rattle.std.specs.List.{list_all}
use Rattle.std.specs.declared.alloc.Global.{Global}
use Rattle.std.specs.Fmt.{decimal}
use Rattle.rule_text.specs.Errors.{error_name}
use Rattle.claim_tokens.specs.Errors.{claims_refusal_line}
use Rattle.certified_steps.specs.declared.errors.Unproved.{Unproved}
use Rattle.certified_steps.specs.declared.errors.Unproved.TheVariants as whys
use Rattle.step_searches.specs.declared.covered.Uncovered.TheVariants.{Least, Sorted, Loop, Receiver, Name}
use Rattle.claim_proofs.specs.declared.reader.CertificateError.{CertificateError}
use Rattle.claim_proofs.specs.declared.reader.CertificateError.TheVariants.{NotText, End, Word, TooDeep}
use Rattle.claim_proofs.specs.declared.proving.Answer.{Answer}
use Rattle.claim_proofs.specs.declared.proving.Refusal.{Refusal}
use Rattle.claim_proofs.specs.declared.proving.Refusal.TheVariants.{Rule, Claims, Certificates}
use Rattle.claim_proofs.specs.declared.proving.Outcome.{Outcome}
use Rattle.claim_proofs.specs.declared.proving.Outcome.TheVariants.{Holds, NoCertificate, Unbegun, Rejected, Unjudged, NotCovered}
use Rattle.claim_proofs.specs.Proved.{AreRight, IsProofRefusal}
use Rattle.command_answers.specs.declared.ending.Ending.{Ending}
use Rattle.command_answers.specs.declared.ending.Ending.TheVariants as endings
use Rattle.command_answers.specs.declared.fault.Fault.{Fault}
use Rattle.command_answers.specs.Faults.{IsFaultOfText}
use Rattle.command_answers.specs.Output.{LeavesAny}
use Rattle.requests.specs.declared.request.ProveOptions.{ProveOptions}

-- ---- answers

-- Where it is answered that a step holds, it holds of the rule at all sizes, and begins at those of the answer; a
-- property is answered as the step from any state to where its term holds; or a refusal, of the rule by its first error.
-- Which steps and properties are those of the claims, and what is wrong with claims and certificates, is tested only.
abbrev pub Proves : ProveOptions → Result (Vec Answer Global) Refusal → Type 0
Proves asked (Ok answers) = AreRight (string_bytes asked.rule) answers.items
Proves asked (Err refusal) = IsProofRefusal (string_bytes asked.rule) refusal

-- ---- lines

-- why a certificate isn't judged
abbrev pub reason : Unproved → List ℕ
reason whys.Memory = codes "memory ran out"
reason (whys.Uncovered Loop) = codes "the rule has a loop"
reason (whys.Uncovered Receiver) = codes "the rule sends to one node"
reason (whys.Uncovered Least) = codes "the rule has a least message"
reason (whys.Uncovered Sorted) = codes "the rule sorts numbers"
reason (whys.Uncovered Name) = codes "a word or a free name isn't one of the step's"
reason whys.Silent = codes "the rule sends nothing on some path"
reason whys.TooMany = codes "there are too many variables"
reason whys.TooDeep = codes "the rule or the certificate is too deep"
reason whys.Overflow = codes "a number of the certificate is too large"

abbrev pub outcome_text : Outcome → List ℕ
outcome_text (Holds n f m) = codes "holds for all n, f, M; it begins at n = " ++ (decimal n
    ++ (codes ", f = " ++ (decimal f ++ (codes ", M = " ++ decimal m))))
outcome_text NoCertificate = codes "not proved: no certificate"
outcome_text Unbegun = codes "not proved: the state of the certificate doesn't begin it"
outcome_text Rejected = codes "not proved: the certificate doesn't prove it"
outcome_text (Unjudged why) = codes "not proved: the certificate can't be judged: " ++ reason why
outcome_text NotCovered = codes "not proved: the property isn't covered"

-- the line of a claim, and that of its answer
abbrev pub answer_lines : Answer → List ℕ
answer_lines answer = codes "line " ++ (decimal answer.line ++ (codes ": " ++ (string_bytes answer.text
    ++ (codes "\n  " ++ (outcome_text answer.outcome ++ codes "\n")))))

abbrev pub claim_place_text : ℕ → ℕ → List ℕ
claim_place_text line column = codes " line " ++ (decimal line ++ (codes " column " ++ decimal column))

abbrev pub certificate_text : CertificateError → List ℕ
certificate_text NotText = codes "NotText"
certificate_text End = codes "End"
certificate_text (Word number) = codes "Word " ++ decimal number
certificate_text (TooDeep number) = codes "TooDeep word " ++ decimal number

-- the line of a refusal, without its end
abbrev pub proof_refusal_line : Refusal → List ℕ
proof_refusal_line (Rule error line column) = codes "refused rule " ++ (error_name error ++ claim_place_text line column)
proof_refusal_line (Claims refusal) = claims_refusal_line refusal.error refusal.line refusal.column
proof_refusal_line (Certificates error) = codes "refused certificate " ++ certificate_text error

abbrev pub proved_text : Result (Vec Answer Global) Refusal → List ℕ
proved_text (Ok answers) = flat_map answer_lines answers.items
proved_text (Err refusal) = proof_refusal_line refusal ++ codes "\n"

-- ---- the ending

abbrev pub is_proved : Outcome → Bool
is_proved (Holds n f m) = true
is_proved NoCertificate = false
is_proved Unbegun = false
is_proved Rejected = false
is_proved (Unjudged why) = false
is_proved NotCovered = false

abbrev pub proved_ending : Result (Vec Answer Global) Refusal → Ending
proved_ending (Ok answers) =
    if list_all (λ answer. is_proved answer.outcome) answers.items then endings.Done else endings.Unfinished
proved_ending (Err refusal) = endings.Refused

-- ---- what is left on the output

abbrev pub LeavesProved : Option (List ℕ) → Option (List ℕ) → ProveOptions → List ℕ → Result Ending Fault → Type 0
LeavesProved old new asked certificates ended =
    LeavesAny (Proves asked) proved_text proved_ending (IsFaultOfText certificates) old new ended
