-- How many numbers spans have at least.
use Rattle.std.proofs.Common.{◌≡◌, ◌⊎◌, ◌+◌, ◌-◌, ◌<◌, ◌≤◌, ℕ, zero, suc, List, [], ◌∷◌, length, Any, Contains}
use Rattle.std.proofs.Common.{arith, fold, inl, inr, refl}
use Rattle.std.specs.List.{AllByRecursion}
use Rattle.std.specs.List.Sorted.{IsStrictlySortedBy}
use Rattle.std.specs.Ordering.{nat_cmp}
use Rattle.std.specs.declared.cmp.Ordering.TheVariants.{Less}
use Rattle.std.proofs.lemmas.Bool.Decides.{nat_tests}
use Rattle.command_line.proofs.Among.{Among, among-any, contains-among}
use Rattle.command_line.specs.Lists.{IsInSpan, span_length}

-- the numbers of spans from a on, one that is in two spans counted twice
count_from : ℕ → List (ℕ × ℕ) → ℕ
count_from a [] = 0
count_from a (span ∷ more) = (span.1 + 1 - span.0 - (a - span.0)) + count_from a more

count_is : (spans : List (ℕ × ℕ)) (n : ℕ) → fold (λ a span. a + (span.1 + 1 - span.0)) n spans ≡ n + count_from 0 spans
unfolding count_from
count_is [] n = omega arith
count_is (span ∷ more) n = omega (arith, count_is more (n + (span.1 + 1 - span.0)))

from_more : (a b : ℕ) (spans : List (ℕ × ℕ)) → a ≤ b → count_from b spans ≤ count_from a spans
unfolding count_from
from_more a b [] h = omega arith
from_more a b (span ∷ more) h = let rest = from_more a b more h in omega arith

one_less : (a : ℕ) (spans : List (ℕ × ℕ)) → Among (IsInSpan a) spans
    → count_from (a + 1) spans + 1 ≤ count_from a spans
unfolding count_from
one_less a [] h = elim h [ ]
one_less a (span ∷ more) (inl is) =
    let low = is.0 in let high = is.1 in let rest = from_more a (a + 1) more (omega arith) in omega arith
one_less a (span ∷ more) (inr later) = let rest = one_less a more later in omega arith

in_a_row : (m a : ℕ) (spans : List (ℕ × ℕ)) → ((n : ℕ) → a ≤ n → n < a + m → Any (IsInSpan n) spans)
    → m ≤ count_from a spans
in_a_row zero a spans all = omega arith
in_a_row (suc m) a spans all =
    let here = one_less a spans (among-any (IsInSpan a) spans (all a (omega arith) (omega arith))) in
    let rest = in_a_row m (a + 1) spans (λ n low high. all n (omega arith) (omega arith)) in omega arith

-- spans with all numbers from the first to the last have as many at least
pub span_counts : (first last : ℕ) (spans : List (ℕ × ℕ)) → ((n : ℕ) → first ≤ n → n ≤ last → Any (IsInSpan n) spans)
    → last + 1 - first ≤ span_length spans
span_counts first last spans all =
    let row = in_a_row (last + 1 - first) first spans (λ n low high. all n low (omega arith)) in
    let more = from_more 0 first spans (omega arith) in omega (arith, count_is spans 0)

above : (k : ℕ) (more : List ℕ) → AllByRecursion (λ m. nat_cmp k m ≡ Less) more → AllByRecursion (λ m. k + 1 ≤ m) more
above k [] h = tt
above k (m ∷ more) h =
    let is : nat_cmp k m ≡ Less = h.0 in
    let less : k < m = grind (arith, nat_tests) in (omega arith, above k more h.1)

keys_from : (keys : List ℕ) (a : ℕ) (spans : List (ℕ × ℕ)) → AllByRecursion (λ k. a ≤ k) keys
    → IsStrictlySortedBy nat_cmp keys → AllByRecursion (λ k. Any (IsInSpan k) spans) keys
    → length keys ≤ count_from a spans
unfolding IsStrictlySortedBy
keys_from [] a spans low sorted all = omega arith
keys_from (k ∷ more) a spans low sorted all =
    let rest = keys_from more (k + 1) spans (above k more sorted.0) sorted.1 all.1 in
    let here = one_less k spans (among-any (IsInSpan k) spans all.0) in
    let less = low.0 in
    let start = from_more a k spans less in omega arith

each_in : (keys : List ℕ) (spans : List (ℕ × ℕ)) → ((n : ℕ) → Among (λ x. x ≡ n) keys → Any (IsInSpan n) spans)
    → AllByRecursion (λ k. Any (IsInSpan k) spans) keys
each_in [] spans all = tt
each_in (k ∷ more) spans all = (all k (inl refl), each_in more spans (λ n later. all n (inr later)))

from_0 : (keys : List ℕ) → AllByRecursion (λ k. 0 ≤ k) keys
from_0 [] = tt
from_0 (k ∷ more) = (omega arith, from_0 more)

-- spans with all numbers of a rising list have as many at least
pub keys_count : (keys : List ℕ) (spans : List (ℕ × ℕ)) → IsStrictlySortedBy nat_cmp keys
    → ((n : ℕ) → Contains keys n → Any (IsInSpan n) spans) → length keys ≤ span_length spans
keys_count keys spans sorted all =
    let each = each_in keys spans (λ n among. all n (contains-among keys n among)) in
    let counted = keys_from keys 0 spans (from_0 keys) sorted each in omega (arith, count_is spans 0)
