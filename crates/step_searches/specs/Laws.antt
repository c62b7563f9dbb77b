-- The laws of quorums as relations, each with a further node whose variables are new.
use Rattle.std.specs.Prelude.{ℕ, zero, suc, ◌+◌, Bool, not, if◌then◌else◌, Option, Some, None, List, [], ◌∷◌, slice_get}
use Rattle.rule_paths.specs.Relations.{Expression, Constant, Variable, Plus, Relation, Always, IsAtMost, AllOf, AnyOf, IsLess}
use Rattle.rule_paths.specs.Stores.{NodeCount, FaultBound, Count}
use Rattle.rule_paths.specs.Paths.{has_32_bits, found_term, answer_of}
use Rattle.step_searches.specs.declared.claims.Condition.{Condition}
use Rattle.step_searches.specs.declared.uses.Tested.{Tested}
use Rattle.step_searches.specs.declared.uses.Use.{Use}
use Rattle.step_searches.specs.declared.uses.Use.TheVariants.{One, Two}
use Rattle.step_searches.specs.Views.{start_view, stated}

-- a relation, and from which on the variables are free
pub record Instance : Type 0 where
  pub facts : Relation
  pub next : ℕ

abbrev pub nothing : ℕ → Instance
nothing k = record { facts = Always; next = k }

-- ---- nodes

abbrev pub words_are_numbers : ℕ → ℕ → Relation
words_are_numbers zero k = Always
words_are_numbers (suc n) k = AllOf (words_are_numbers n k) (has_32_bits (Variable (k + 3 + n)))

-- the variables from k on are a node's: its number, its coin, the number that it sent, and so many words
abbrev pub is_node : ℕ → ℕ → Relation
is_node words k =
    AllOf (words_are_numbers words k)
    (AllOf (has_32_bits (Variable (k + 2)))
    (AllOf (AllOf (IsAtMost (Constant 0) (Variable k)) (IsLess (Variable k) NodeCount))
    (AllOf (IsAtMost (Constant 0) (Variable (k + 1))) (IsAtMost (Variable (k + 1)) (Constant 1)))))

-- the first variable of p and of q, with what each two correct nodes meet
pub record Pair : Type 0 where
  pub words : ℕ
  pub condition : Condition
  pub first : ℕ
  pub second : ℕ

-- so does the node at k, with p, q and itself
abbrev pub is_correct : Pair → ℕ → Relation
is_correct two k =
    let w = start_view k in
    let p = start_view two.first in
    let q = start_view two.second in
    AllOf (stated w w two.condition)
    (AllOf (AllOf (stated w p two.condition) (stated p w two.condition))
    (AllOf (stated w q two.condition) (stated q w two.condition)))

-- ---- answers

-- the node at k has an answer to the test of a count; from m on the variables are free
abbrev pub answered : Count → Bool → ℕ → ℕ → Instance
answered c answer k m =
    let f = found_term (Some (record { node = Variable k; message = Variable (k + 2) })) c.test c.store m in
    record { facts = AllOf f.facts (answer_of f.what answer); next = f.next }

-- how many messages have an answer is one number less another one
abbrev pub more : Count → Bool → Expression
more c answer = if answer then Variable c.variable else NodeCount

abbrev pub less_number : Count → Bool → Expression
less_number c answer = if answer then Constant 0 else Variable c.variable

-- ---- laws

-- more than f have the answer: a correct node's message does
abbrev pub one_count : Pair → Count → Bool → ℕ → Instance
one_count two c answer k =
    let w = answered c answer k (k + 3 + two.words) in
    record {
      facts = AnyOf (IsAtMost (more c answer) (Plus FaultBound (less_number c answer)))
          (AllOf (AllOf (is_node two.words k) (is_correct two k)) w.facts);
      next = w.next;
    }

-- more than n messages of one inbox, or n + f of two, have the answers: one message has both, of two inboxes a correct
-- node's
abbrev pub two_counts : Pair → Bool → Count → Bool → Count → Bool → ℕ → Instance
two_counts two same c answer d other k =
    let u = answered c answer k (k + 3 + two.words) in
    let w = answered d other k u.next in
    record {
      facts = AnyOf (IsAtMost (Plus (more c answer) (more d other))
          (Plus (Plus NodeCount (if same then Constant 0 else FaultBound)) (Plus (less_number c answer) (less_number d other))))
          (AllOf (AllOf (is_node two.words k) (if same then Always else is_correct two k)) (AllOf u.facts w.facts));
      next = w.next;
    }

-- ---- uses of laws

abbrev pub count_at : List Count → List Count → Tested → Option Count
count_at first second t = slice_get (if t.is_second then second else first) t.count

abbrev pub one_used : Pair → Option Count → Bool → ℕ → Instance
one_used two None answer k = nothing k
one_used two (Some c) answer k = one_count two c answer k

abbrev pub two_used : Pair → Bool → Option Count → Bool → Option Count → Bool → ℕ → Instance
two_used two same (Some c) answer (Some d) other k = two_counts two same c answer d other k
two_used two same (Some c) answer None other k = nothing k
two_used two same None answer d other k = nothing k

abbrev pub same_node : Tested → Tested → Bool
same_node t u = if t.is_second then u.is_second else not u.is_second

abbrev pub used : Pair → List Count → List Count → Use → ℕ → Instance
used two first second (One t) k = one_used two (count_at first second t) t.answer k
used two first second (Two t u) k =
    two_used two (same_node t u) (count_at first second t) t.answer (count_at first second u) u.answer k

abbrev pub all_used : Pair → List Count → List Count → List Use → ℕ → Instance
all_used two first second [] k = nothing k
all_used two first second (u ∷ us) k =
    let x = used two first second u k in
    let y = all_used two first second us x.next in
    record { facts = AllOf x.facts y.facts; next = y.next }
