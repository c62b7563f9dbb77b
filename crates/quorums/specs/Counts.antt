-- Counts of nodes and of messages. The nodes are 0 to n - 1, and a mark is a test of nodes. An inbox is the list of one
-- message for each node.
use Rattle.std.specs.Prelude.{◌≡◌, ℕ, zero, suc, ◌+◌, ◌<◌, ◌≤◌, not, Bool, if◌then◌else◌, List, length, slice_index, IsTrue}

-- how many of the nodes 0 to n - 1 have the mark
abbrev pub count : ℕ → (ℕ → Bool) → ℕ
count zero mark = 0
count (suc n) mark = count n mark + (if mark n then 1 else 0)

-- some node below n has P
abbrev pub SomeNode : ℕ → (ℕ → Type 0) → Type 0
SomeNode n P = (w : ℕ) × (w < n) × P w

-- some correct node below n has P
abbrev pub SomeCorrect : ℕ → (ℕ → Bool) → (ℕ → Type 0) → Type 0
SomeCorrect n correct P = SomeNode n (λ w. IsTrue (correct w) × P w)

-- at most f of the n nodes are outside the set of correct ones
abbrev pub HasFewFaults : ℕ → ℕ → (ℕ → Bool) → Type 0
HasFewFaults n f correct = count n (λ j. not (correct j)) ≤ f

-- two marks are one mark at each correct node
abbrev pub AgreeAt : ℕ → (ℕ → Bool) → (ℕ → Bool) → (ℕ → Bool) → Type 0
AgreeAt n correct a b = (j : ℕ) → j < n → IsTrue (correct j) → a j ≡ b j

-- one inbox of a bench of n nodes
abbrev pub IsMessageList : ℕ → List ℕ → Type 0
IsMessageList n inbox = length inbox ≡ n

-- two inboxes have the same message of each correct node
abbrev pub AgreeOn : ℕ → (ℕ → Bool) → List ℕ → List ℕ → Type 0
AgreeOn n correct p q = (j : ℕ) → j < n → IsTrue (correct j) → slice_index p j ≡ slice_index q j
