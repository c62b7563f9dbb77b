-- The same for inboxes: a count of messages is a count of nodes.
use Rattle.std.proofs.Common.{◌≡◌, ℕ, zero, suc, ◌+◌, ◌<◌, ◌≤◌, not, Bool, cond, if◌then◌else◌, List, [], ◌∷◌, length, refl, sym, ap, ◌∙◌, arith}
use Rattle.std.specs.Prelude.{IsTrue, slice_index, count_by}
use Rattle.std.proofs.lemmas.List.Sums.{sum_by-cons}
use Rattle.quorums.specs.Counts.{count, SomeNode, SomeCorrect, HasFewFaults, IsMessageList, AgreeOn}
use Rattle.quorums.proofs.Marks.{count_le, count_not, count_implied, reaches_correct, one_passes_both, one_correct_passes_both, counts_close}

-- the node 0 first
count_front : (n : ℕ) (a : ℕ → Bool) → count (suc n) a ≡ (if a 0 then 1 else 0) + count n (λ j. a (suc j))
count_front zero a = omega arith
count_front (suc n) a = omega (arith, count_front n a)

-- which nodes' messages pass
abbrev pub passing : (ℕ → Bool) → List ℕ → ℕ → Bool
passing t inbox j = t (slice_index inbox j)

pub count_by_is : (t : ℕ → Bool) (inbox : List ℕ) → count_by t inbox ≡ count (length inbox) (passing t inbox)
count_by_is t [] = refl
count_by_is t (x ∷ xs) =
    sum_by-cons (λ v. cond (t v) 1 0) x xs
    ∙ ap (λ (k : ℕ). cond (t x) 1 0 + k) (count_by_is t xs)
    ∙ sym (count_front (length xs) (passing t (x ∷ xs)))

-- with as many messages as nodes
pub counted : (n : ℕ) (t : ℕ → Bool) (inbox : List ℕ) → IsMessageList n inbox → count_by t inbox ≡ count n (passing t inbox)
counted n t inbox is = count_by_is t inbox ∙ ap (λ (k : ℕ). count k (passing t inbox)) is

-- ---- easy facts

pub messages_le : (n : ℕ) (inbox : List ℕ) (s : ℕ → Bool) → IsMessageList n inbox → count_by s inbox ≤ n
messages_le n inbox s is = omega (arith, counted n s inbox is, count_le n (passing s inbox))

pub messages_not : (n : ℕ) (inbox : List ℕ) (s : ℕ → Bool) → IsMessageList n inbox
    → count_by s inbox + count_by (λ v. not (s v)) inbox ≡ n
messages_not n inbox s is =
    let yes = counted n s inbox is in
    let no = counted n (λ v. not (s v)) inbox is in
    let all = count_not n (passing s inbox) in
    omega (arith, yes, no, all)

pub messages_implied : (inbox : List ℕ) (s t : ℕ → Bool) → ((v : ℕ) → IsTrue (s v) → IsTrue (t v))
    → count_by s inbox ≤ count_by t inbox
messages_implied inbox s t h =
    let fewer = count_implied (length inbox) (passing s inbox) (passing t inbox)
    (λ j l e. h (slice_index inbox j) e) in
    omega (arith, count_by_is s inbox, count_by_is t inbox, fewer)

-- ---- the laws

pub message_reaches_correct : (n f : ℕ) (correct : ℕ → Bool) (inbox : List ℕ) (s : ℕ → Bool) → IsMessageList n inbox
    → HasFewFaults n f correct → f < count_by s inbox
    → SomeCorrect n correct (λ w. IsTrue (s (slice_index inbox w)))
message_reaches_correct n f correct inbox s is few more =
    reaches_correct n f correct (passing s inbox) few (omega (arith, counted n s inbox is, more))

pub message_passes_both : (n : ℕ) (inbox : List ℕ) (s t : ℕ → Bool) → IsMessageList n inbox
    → n < count_by s inbox + count_by t inbox
    → SomeNode n (λ w. IsTrue (s (slice_index inbox w)) × IsTrue (t (slice_index inbox w)))
message_passes_both n inbox s t is more =
    one_passes_both n (passing s inbox) (passing t inbox)
    (omega (arith, counted n s inbox is, counted n t inbox is, more))

pub correct_message_passes_both : (n f : ℕ) (correct : ℕ → Bool) (p q : List ℕ) (s t : ℕ → Bool) → IsMessageList n p
    → IsMessageList n q → AgreeOn n correct p q → HasFewFaults n f correct → n + f < count_by s p + count_by t q
    → SomeCorrect n correct (λ w. (slice_index p w ≡ slice_index q w) × IsTrue (s (slice_index p w)) × IsTrue (t (slice_index p w)))
correct_message_passes_both n f correct p q s t is_p is_q agree few more =
    let both = one_correct_passes_both n f correct (passing s p) (passing t q) few
    (omega (arith, counted n s p is_p, counted n t q is_q, more)) in
    let w = both.0 in
    let same = agree w both.1 both.2.0 in
    (w, both.1, (both.2.0, (same, both.2.1.0, ap t same ∙ both.2.1.1)))

pub messages_close : (n f : ℕ) (correct : ℕ → Bool) (p q : List ℕ) (s : ℕ → Bool) → IsMessageList n p → IsMessageList n q
    → AgreeOn n correct p q → HasFewFaults n f correct → count_by s p ≤ count_by s q + f
messages_close n f correct p q s is_p is_q agree few =
    let close = counts_close n f correct (passing s p) (passing s q) few (λ j l c. ap s (agree j l c)) in
    omega (arith, counted n s p is_p, counted n s q is_q, close)
