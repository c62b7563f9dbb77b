-- What a tally finds: a count, or the least message.
use Rattle.std.proofs.Common.{◌≡◌, ℕ, zero, suc, ◌+◌, ◌^◌, ◌<◌, ◌≤◌, min, Bool, true, false, if◌then◌else◌, length, refl, arith}
use Rattle.rule_nodes.specs.declared.numbers.Place.{Place}
use Rattle.rule_nodes.specs.declared.numbers.Tally.{Tally}
use Rattle.rule_nodes.specs.declared.numbers.Tally.TheVariants.{HowMany, LeastMessage}
use Rattle.rule_meaning.specs.Meaning.{bit_of, truth, count_below, least_below}
use Rattle.rule_nodes.specs.Code.{tally_start, tally_step}

-- the steps of all nodes have the same length
pub steps_alike : (tally : Tally) (p : Place) (j : ℕ) → length (tally_step tally p j) ≡ length (tally_step tally p 0)
steps_alike HowMany p j = refl
steps_alike LeastMessage p j = refl

-- what the step of node j makes of a number
abbrev pub tally_next : Tally → (ℕ → ℕ) → ℕ → ℕ → ℕ
tally_next HowMany message j v = v + 1
tally_next LeastMessage message j v = min (message j) v

-- and of the nodes below n
abbrev pub tally_below : Tally → ℕ → (ℕ → ℕ) → (ℕ → ℕ) → ℕ
tally_below HowMany n holds message = count_below n holds
tally_below LeastMessage n holds message = least_below n holds message

pub tally_none : (tally : Tally) (holds message : ℕ → ℕ) → tally_start tally ≡ tally_below tally 0 holds message
tally_none HowMany holds message = refl
tally_none LeastMessage holds message = refl

pub tally_more : (tally : Tally) (n : ℕ) (holds message : ℕ → ℕ) → truth (holds n) ≡ true
    → tally_next tally message n (tally_below tally n holds message) ≡ tally_below tally (suc n) holds message
tally_more HowMany n holds message e = rw e refl
tally_more LeastMessage n holds message e = rw e refl

pub tally_stays : (tally : Tally) (n : ℕ) (holds message : ℕ → ℕ) → truth (holds n) ≡ false
    → tally_below tally n holds message ≡ tally_below tally (suc n) holds message
tally_stays HowMany n holds message e =
    let none : count_below n holds + 0 ≡ count_below (suc n) holds = rw e refl in
    omega (arith, none)
tally_stays LeastMessage n holds message e = rw e refl

counts_few : (n : ℕ) (holds : ℕ → ℕ) → count_below n holds ≤ n
counts_few zero holds = omega arith
counts_few (suc n) holds = by (truth (holds n)) (counts_few n holds)
  where
    by : (b : Bool) → count_below n holds ≤ n → count_below n holds + bit_of b ≤ suc n
    by true le = omega (arith, le)
    by false le = omega (arith, le)

least_small : (n : ℕ) (holds message : ℕ → ℕ) → least_below n holds message < 2 ^ 32
least_small zero holds message = omega arith
least_small (suc n) holds message = by (truth (holds n)) (least_small n holds message)
  where
    by : (b : Bool) → least_below n holds message < 2 ^ 32
        → (if b then min (message n) (least_below n holds message) else least_below n holds message) < 2 ^ 32
    by true small = omega (arith, small)
    by false small = small

-- it has 32 bits
pub tally_small : (tally : Tally) (n : ℕ) (holds message : ℕ → ℕ) → n < 2 ^ 32
    → tally_below tally n holds message < 2 ^ 32
tally_small HowMany n holds message few = omega (arith, counts_few n holds, few)
tally_small LeastMessage n holds message few = least_small n holds message

pub tally_start_small : (tally : Tally) → tally_start tally < 2 ^ 32
tally_start_small HowMany = omega arith
tally_start_small LeastMessage = omega arith
