use Rattle.std.proofs.Common.{◌≡◌, ◌≤◌, ◌+◌, ◌*◌, ◌++◌, [], ◌∷◌, length}
use Rattle.bpf_insn.specs.declared.listing.TheConstants.{MAX_SLOTS}
use Rattle.rule_nodes.specs.declared.numbers.Purpose.TheVariants.{Value}
use Rattle.rule_nodes.specs.declared.numbers.Source.TheVariants.{FromLocal}
use Rattle.rule_nodes.specs.Code.{right_code, tests_code, tally_test, items_code, term_code}
use Rattle.rule_nodes.proofs.Shared.{term_size}
use Rattle.rule_nodes.proofs.terms.+terms.Given as goal

-- a function that is called with the same term comes behind the one that calls it
abbrev pub decreases-term : goal.decreases-term
decreases-term l = 3 * term_size l.t.now

abbrev pub decreases-tally_over : goal.decreases-tally_over
decreases-tally_over l = 3 * term_size l.c.now + 2

abbrev pub decreases-tests_over : goal.decreases-tests_over
decreases-tests_over l = 3 * term_size l.c.now + 1

abbrev pub decreases-shared_over : goal.decreases-shared_over
decreases-shared_over l = 3 * term_size l.c.now + 1

abbrev pub decreases-lefts_over : goal.decreases-lefts_over
decreases-lefts_over l = 3 * term_size l.a.now + 1

abbrev pub decreases-sorted_at : goal.decreases-sorted_at
decreases-sorted_at l = 3 * term_size l.e.now + 1

-- the tests and steps of the nodes so far
abbrev pub invariant-tests_over-loop-node : goal.invariant-tests_over-loop-node
invariant-tests_over-loop-node l = record {
  code : l.codes.items ≡ tests_code l.kind l.depth l.node
      (λ j. term_code l.c l.sizes (l.loops ++ j ∷ []) (l.depth + 1) (tally_test l.kind l.depth));
  short : length l.codes.items ≤ MAX_SLOTS;
}

abbrev pub invariant-lefts_over-loop-number : goal.invariant-lefts_over-loop-number
invariant-lefts_over-loop-number l = record {
  code : l.codes.items ≡ tests_code l.kind l.depth l.number
      (λ j. right_code l.operator (FromLocal (l.depth + 1)) (tally_test l.kind l.depth)
      (term_code l.a l.sizes (l.loops ++ j ∷ []) (l.depth + 2) Value));
  short : length l.codes.items ≤ MAX_SLOTS;
}

-- the numbers of the nodes so far
abbrev pub invariant-sorted_at-loop-index : goal.invariant-sorted_at-loop-index
invariant-sorted_at-loop-index l = record {
  code : l.items.items ≡ items_code l.depth (λ j. term_code l.e l.sizes (l.loops ++ j ∷ []) (l.depth + j) Value) l.index;
  short : length l.items.items ≤ MAX_SLOTS;
}
