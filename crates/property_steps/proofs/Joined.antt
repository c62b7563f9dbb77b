-- Conditions of terms that are made of others.
use Rattle.std.proofs.Common.{◌≡◌, Bool, true, false, Option, None, Some, Result, Ok, Err, IfOk, IfSome, if◌then◌else◌, not, refl, sym, ap, ap₂, ◌∙◌}
use Rattle.std.specs.declared.alloc.AllocError.{AllocError}
use Rattle.rule_syntax.specs.declared.syntax.Connective.{Connective}
use Rattle.rule_syntax.specs.declared.syntax.Sizes.{Sizes}
use Rattle.rule_syntax.specs.declared.syntax.Term.{Term}
use Rattle.rule_meaning.specs.Meaning.{bit_of, combine, truth}
use Rattle.properties.specs.Pairs.{JudgedNode, pair_holds}
use Rattle.step_searches.specs.declared.claims.Condition.{Condition}
use Rattle.property_steps.specs.Steps.{SaysIf}
use Rattle.property_steps.specs.inner.Conditions.{Joins}

-- a bit holds if it is 1
truth_of_bit : (b : Bool) → b ≡ truth (bit_of b)
truth_of_bit true = refl
truth_of_bit false = refl

denied : (h b : Bool) → (if not h then b else not b) ≡ (if h then truth (bit_of (not b)) else not (truth (bit_of (not b))))
denied true true = refl
denied true false = refl
denied false true = refl
denied false false = refl

-- the truth of one term is that of the other denied
abbrev pub IsDenied : Term → Term → Type 0
IsDenied t u = (z : Sizes) (o r : JudgedNode) → pair_holds u z o r ≡ truth (bit_of (not (pair_holds t z o r)))

-- the truth of a term is that of two terms joined
abbrev pub IsJoined : Connective → Term → Term → Term → Type 0
IsJoined m a b u = (z : Sizes) (o r : JudgedNode)
    → pair_holds u z o r ≡ truth (bit_of (combine m (pair_holds a z o r) (pair_holds b z o r)))

pub says_not : (h : Bool) (t u : Term) (c : Condition) → IsDenied t u → SaysIf (not h) t c → SaysIf h u c
says_not h t u c is_denied says z free p q o r is is' =
    says z free p q o r is is' ∙ denied h (pair_holds t z o r)
    ∙ ap (λ (m : Bool). if h then m else not m) (sym (is_denied z o r))

pub says_found : (h k : Bool) (t u : Term) → ((c : Condition) → SaysIf h t c → SaysIf k u c)
    → (r : Result (Option Condition) AllocError) → IfOk r (λ found. IfSome found (SaysIf h t))
    → IfOk r (λ found. IfSome found (SaysIf k u))
says_found h k t u more (Ok (Some c)) says = more c says
says_found h k t u more (Ok None) says = tt
says_found h k t u more (Err e) says = tt

pub says_joined : (h : Bool) (m made : Connective) (a b u : Term) (ca cb c : Condition)
    → ((v w : Bool) → combine made (if h then v else not v) (if h then w else not w)
    ≡ (if h then combine m v w else not (combine m v w)))
    → IsJoined m a b u → SaysIf h a ca → SaysIf h b cb → Joins made ca cb c → SaysIf h u c
says_joined h m made a b u ca cb c so is_joined one other joins z free p q o r is is' =
    let v = pair_holds a z o r in
    let w = pair_holds b z o r in
    joins z free p q
    ∙ ap₂ (combine made) (one z free p q o r is is') (other z free p q o r is is')
    ∙ so v w
    ∙ ap (λ (x : Bool). if h then x else not x) (truth_of_bit (combine m v w) ∙ sym (is_joined z o r))
