use Rattle.std.proofs.Common.{◌≡◌, ◌+◌, ◌<◌, ◌≤◌, ◌∙◌, IfOk, List, length, subst, sym, ap, arith, refl, rules}
use Rattle.rule_nodes.specs.declared.numbers.TheConstants.{PLACES}
use Rattle.bpf_insn.specs.declared.forms.Insn.{Insn}
use Rattle.rule_nodes.specs.Code.{term_code, over_code}
use Rattle.rule_nodes.proofs.Lengths.{error_longer, passed_on, message_part, left_part, right_part, left_within, right_within, count_part, least_part, sorted_part, test_part, tests_part, left_in_tests, plain_part, shared_part, second_part, first_part, inverse_part, otherwise_part, chosen_part, choosing_part, item_part, items_part}
use Rattle.rule_nodes.proofs.FitsLess.{item_fits}
use Rattle.rule_nodes.proofs.Loops.{tally_kept, left_kept, shared_made, tally_done, count_made, least_made, items_kept, sorted_made}
use Rattle.rule_nodes.proofs.Shared.{plain_code, count_needs, least_needs, count_smaller, least_smaller}
use Rattle.rule_nodes.proofs.terms.+terms.Goals.{tally_over-then-shares_side_of+in_ok-tests, tally_over-else-shares_side_of+in_ok-tests-2}
use Rattle.rule_nodes.proofs.terms.+terms.Goals as goal

pub term-returns-in_err-index-in-Message-clause-long : goal.term-returns-in_err-index-in-Message-clause-long
term-returns-in_err-index-in-Message-clause-long t c =
    passed_on c.from_residual-in_err-index-in-Message.result c.in_err-index-in-Message.field-0.0 _ _
    (message_part _ _ _ _ _ _ _ _ c.in-Message.is c.deref.ensures) c.in_err-index-in-Message.ensures.long
    c.from_residual-in_err-index-in-Message.ensures.1

pub term-returns-in_err-right-in-Binary-clause-long : goal.term-returns-in_err-right-in-Binary-clause-long
term-returns-in_err-right-in-Binary-clause-long t c =
    passed_on c.from_residual-in_err-right-in-Binary.result c.in_err-right-in-Binary.field-0.0 _ _
    (right_part _ _ _ _ _ _ _ _ _ _ _ _ _ _ _ c.in-Binary.is c.deref-in-Binary-3.ensures
    c.depth_behind_of-behind.ensures.is c.beside_operand.ensures c.deref-in-Binary.ensures c.deref-in-Binary-2.ensures)
    c.in_err-right-in-Binary.ensures.long c.from_residual-in_err-right-in-Binary.ensures.1

pub term-returns-in_err-left-in-Binary-clause-long : goal.term-returns-in_err-left-in-Binary-clause-long
term-returns-in_err-left-in-Binary-clause-long t c =
    passed_on c.from_residual-in_err-left-in-Binary.result c.in_err-left-in-Binary.field-0.0 _ _
    (left_part _ _ _ _ _ _ _ _ _ _ _ c.in-Binary.is c.deref-in-Binary-4.ensures)
    c.in_err-left-in-Binary.ensures.long c.from_residual-in_err-left-in-Binary.ensures.1

pub term-binary_of-requires-clause-left : goal.term-binary_of-requires-clause-left
term-binary_of-requires-clause-left t c =
    left_within _ _ _ _ _ _ _ _ _ _ _ c.in-Binary.is c.deref-in-Binary-5.ensures c.requires.memory c.requires.fits

pub term-binary_of-requires-clause-right : goal.term-binary_of-requires-clause-right
term-binary_of-requires-clause-right t c =
    right_within _ _ _ _ _ _ _ _ _ _ _ c.in-Binary.is c.deref-in-Binary-6.ensures c.requires.memory c.requires.fits

pub term-returns-in_err-code-in-Count-clause-long : goal.term-returns-in_err-code-in-Count-clause-long
term-returns-in_err-code-in-Count-clause-long t c =
    passed_on c.from_residual-in_err-code-in-Count.result c.in_err-code-in-Count.field-0.0 _ _
    (count_part _ _ _ _ _ _ _ _ c.in-Count.is c.deref-in-Count.ensures) c.in_err-code-in-Count.ensures.long
    c.from_residual-in_err-code-in-Count.ensures.1

pub term-returns-in_err-code-in-Least-clause-long : goal.term-returns-in_err-code-in-Least-clause-long
term-returns-in_err-code-in-Least-clause-long t c =
    passed_on c.from_residual-in_err-code-in-Least.result c.in_err-code-in-Least.field-0.0 _ _
    (least_part _ _ _ _ _ _ _ _ c.in-Least.is c.deref-in-Least.ensures) c.in_err-code-in-Least.ensures.long
    c.from_residual-in_err-code-in-Least.ensures.1

pub term-returns-in_ok-by_value_of-in-Count-clause-code : goal.term-returns-in_ok-by_value_of-in-Count-clause-code
term-returns-in_ok-by_value_of-in-Count-clause-code t c =
    let total : c.in_ok-by_value_of-in-Count.field-0.items ≡ term_code c.args.t.now c.args.sizes c.args.loops.now
    c.args.depth c.args.purpose = count_made _ _ _ _ _ _ _ _ _ _ c.in_ok-code-in-Count.ensures.code c.deref-in-Count.ensures
    c.in-Count.is c.in_ok-by_value_of-in-Count.ensures in
    subst (λ (x : List Insn). IfOk c.short-in-Count.result (λ y. y.items ≡ x)) total c.short-in-Count.ensures.code

pub term-returns-in_ok-by_value_of-in-Count-clause-long : goal.term-returns-in_ok-by_value_of-in-Count-clause-long
term-returns-in_ok-by_value_of-in-Count-clause-long t c =
    let total : c.in_ok-by_value_of-in-Count.field-0.items ≡ term_code c.args.t.now c.args.sizes c.args.loops.now
    c.args.depth c.args.purpose = count_made _ _ _ _ _ _ _ _ _ _ c.in_ok-code-in-Count.ensures.code c.deref-in-Count.ensures
    c.in-Count.is c.in_ok-by_value_of-in-Count.ensures in
    let same : length c.in_ok-by_value_of-in-Count.field-0.items ≡ length (term_code c.args.t.now c.args.sizes
    c.args.loops.now c.args.depth c.args.purpose) = ap length total in
    error_longer c.short-in-Count.result _ _ (omega (arith, same)) c.short-in-Count.ensures.long

pub term-returns-in_ok-by_value_of-in-Least-clause-code : goal.term-returns-in_ok-by_value_of-in-Least-clause-code
term-returns-in_ok-by_value_of-in-Least-clause-code t c =
    let total : c.in_ok-by_value_of-in-Least.field-0.items ≡ term_code c.args.t.now c.args.sizes c.args.loops.now
    c.args.depth c.args.purpose = least_made _ _ _ _ _ _ _ _ _ _ c.in_ok-code-in-Least.ensures.code c.deref-in-Least.ensures
    c.in-Least.is c.in_ok-by_value_of-in-Least.ensures in
    subst (λ (x : List Insn). IfOk c.short-in-Least.result (λ y. y.items ≡ x)) total c.short-in-Least.ensures.code

pub term-returns-in_ok-by_value_of-in-Least-clause-long : goal.term-returns-in_ok-by_value_of-in-Least-clause-long
term-returns-in_ok-by_value_of-in-Least-clause-long t c =
    let total : c.in_ok-by_value_of-in-Least.field-0.items ≡ term_code c.args.t.now c.args.sizes c.args.loops.now
    c.args.depth c.args.purpose = least_made _ _ _ _ _ _ _ _ _ _ c.in_ok-code-in-Least.ensures.code c.deref-in-Least.ensures
    c.in-Least.is c.in_ok-by_value_of-in-Least.ensures in
    let same : length c.in_ok-by_value_of-in-Least.field-0.items ≡ length (term_code c.args.t.now c.args.sizes
    c.args.loops.now c.args.depth c.args.purpose) = ap length total in
    error_longer c.short-in-Least.result _ _ (omega (arith, same)) c.short-in-Least.ensures.long

pub term-tally_over-requires : goal.term-tally_over-requires
term-tally_over-requires t c = (
  omega (arith, count_smaller c.args.t.now _ _ _ c.in-Count.is c.deref-in-Count.ensures),
  (
    c.requires.some,
    (
      c.requires.few,
      (
        c.requires.memory,
        (
          c.requires.deep,
          count_needs c.args.t.now _ _ _ c.args.sizes (length c.args.loops.now) c.args.lets c.args.depth c.in-Count.is
              c.deref-in-Count.ensures c.requires.fits,
        ),
      ),
    ),
  ),
)

pub term-tally_over-requires-in-Least : goal.term-tally_over-requires-in-Least
term-tally_over-requires-in-Least t c = (
  omega (arith, least_smaller c.args.t.now _ _ _ c.in-Least.is c.deref-in-Least.ensures),
  (
    c.requires.some,
    (
      c.requires.few,
      (
        c.requires.memory,
        (
          c.requires.deep,
          least_needs c.args.t.now _ _ _ c.args.sizes (length c.args.loops.now) c.args.lets c.args.depth c.in-Least.is
              c.deref-in-Least.ensures c.requires.fits,
        ),
      ),
    ),
  ),
)

pub tests_over-returns-in_err-test-clause-long : goal.tests_over-returns-in_err-test-clause-long
tests_over-returns-in_err-test-clause-long t c =
    passed_on c.from_residual-in_err-test.result c.in_err-test.field-0.0 _ _
    (test_part c.args.kind c.args.c.now c.args.c.now c.args.sizes c.args.loops.now _ _ c.args.depth _ _ c.tally_test_of-skip.ensures refl c.in_ok-inner.ensures
    c.deref.ensures.value c.loop-node-test.true) c.in_err-test.ensures.long
    c.from_residual-in_err-test.ensures.1

pub tests_over-returns-in_err-codes-clause-long : goal.tests_over-returns-in_err-codes-clause-long
tests_over-returns-in_err-codes-clause-long t c =
    let more : c.loop-node.node + 1 ≤ c.args.sizes.nodes = omega (arith, c.loop-node-test.true) in
    passed_on c.from_residual-in_err-codes.result c.in_err-codes.field-0.0 _ _
    (tests_part c.args.kind c.args.sizes c.args.depth _ _ _ more
    (tally_kept c.args.kind c.args.c.now c.args.c.now c.args.sizes c.args.loops.now _ _ c.args.depth _ _ _ _ _ _ _ c.place_of-place.ensures c.tally_test_of-skip.ensures refl
    c.in_ok-inner.ensures c.deref.ensures.value c.in_ok-test.ensures.code
    c.deref-in-loop-node.ensures.value c.in_ok-tallied.ensures c.loop-node.invariant.code))
    c.in_err-codes.ensures.long c.from_residual-in_err-codes.ensures.1

pub lefts_over-returns-in_err-left-clause-long : goal.lefts_over-returns-in_err-left-clause-long
lefts_over-returns-in_err-left-clause-long t c =
    passed_on c.from_residual-in_err-left.result c.in_err-left.field-0.0 _ _
    (left_in_tests c.args.kind c.args.operator c.args.a.now c.args.sizes c.args.loops.now _ _ c.args.depth _
    c.in_ok-inner.ensures c.deref.ensures.value c.loop-number-test.true) c.in_err-left.ensures.long
    c.from_residual-in_err-left.ensures.1

pub lefts_over-returns-in_err-codes-clause-long : goal.lefts_over-returns-in_err-codes-clause-long
lefts_over-returns-in_err-codes-clause-long t c =
    let more : c.loop-number.number + 1 ≤ c.args.sizes.nodes = omega (arith, c.loop-number-test.true) in
    passed_on c.from_residual-in_err-codes.result c.in_err-codes.field-0.0 _ _
    (tests_part c.args.kind c.args.sizes c.args.depth _ _ _ more
    (left_kept c.args.kind c.args.operator c.args.a.now c.args.sizes c.args.loops.now _ _ c.args.depth _ _ _ _ _ _ _ _
    c.place_of-place.ensures c.tally_test_of-skip.ensures c.in_ok-inner.ensures c.deref.ensures.value
    c.in_ok-left.ensures.code c.in_ok-test.ensures c.deref-in-loop-number.ensures.value c.in_ok-tallied.ensures
    c.loop-number.invariant.code))
    c.in_err-codes.ensures.long c.from_residual-in_err-codes.ensures.1

pub sorted_at-term-requires : goal.sorted_at-term-requires
sorted_at-term-requires t c =
    let lt : c.loop-index.index < c.args.sizes.nodes = c.loop-index-test.true in
    let deep : c.args.depth + c.loop-index.index ≤ PLACES = omega (arith, c.requires.deep, lt) in (
      search rules,
      (
        c.requires.some,
        (
          c.requires.few,
          (
            c.requires.memory,
            (
              deep,
              item_fits c.args.e.now c.args.sizes
                  c.args.loops.now _ _ c.args.lets c.args.depth _ c.in_ok-inner.ensures c.deref.ensures.value lt
                  c.requires.fits,
            ),
          ),
        ),
      ),
    )

pub sorted_at-returns-in_err-item-clause-long : goal.sorted_at-returns-in_err-item-clause-long
sorted_at-returns-in_err-item-clause-long t c =
    passed_on c.from_residual-in_err-item.result c.in_err-item.field-0.0 _ _
    (item_part c.args.e.now c.args.sizes c.args.loops.now _ _ c.args.place c.args.depth _ c.in_ok-inner.ensures
    c.deref.ensures.value (omega (arith, c.if-place-sizes.false)) c.loop-index-test.true) c.in_err-item.ensures.long
    c.from_residual-in_err-item.ensures.1

pub sorted_at-returns-in_err-items-clause-long : goal.sorted_at-returns-in_err-items-clause-long
sorted_at-returns-in_err-items-clause-long t c =
    let more : c.loop-index.index + 1 ≤ c.args.sizes.nodes = omega (arith, c.loop-index-test.true) in
    passed_on c.from_residual-in_err-items.result c.in_err-items.field-0.0 _ _
    (items_part c.args.e.now c.args.sizes c.args.loops.now c.args.place c.args.depth _ _
    (omega (arith, c.if-place-sizes.false)) more
    (items_kept c.args.e.now c.args.sizes c.args.loops.now _ _ c.args.depth _ _ _ _ _ c.in_ok-inner.ensures
    c.deref.ensures.value c.in_ok-item.ensures.code c.deref-in-loop-index.ensures.value c.in_ok-with_item.ensures
    c.loop-index.invariant.code)) c.in_err-items.ensures.long c.from_residual-in_err-items.ensures.1

pub term-returns-in_err-code-in-Sorted-clause-long : goal.term-returns-in_err-code-in-Sorted-clause-long
term-returns-in_err-code-in-Sorted-clause-long t c =
    passed_on c.from_residual-in_err-code-in-Sorted.result c.in_err-code-in-Sorted.field-0.0 _ _
    (sorted_part _ _ _ _ _ _ _ _ _ _ _ _ c.in-Sorted.is c.constant_of-place.ensures c.deref-in-Sorted.ensures
    c.deref-in-Sorted-2.ensures) c.in_err-code-in-Sorted.ensures.long c.from_residual-in_err-code-in-Sorted.ensures.1

pub term-returns-in_ok-by_value_of-in-Sorted-clause-code : goal.term-returns-in_ok-by_value_of-in-Sorted-clause-code
term-returns-in_ok-by_value_of-in-Sorted-clause-code t c =
    let total : c.in_ok-by_value_of-in-Sorted.field-0.items ≡ term_code c.args.t.now c.args.sizes c.args.loops.now
    c.args.depth c.args.purpose = sorted_made _ _ _ _ _ _ _ _ _ _ _ _ _ _ c.in_ok-code-in-Sorted.ensures.code
    c.constant_of-place.ensures c.deref-in-Sorted.ensures c.deref-in-Sorted-2.ensures c.in-Sorted.is
    c.in_ok-by_value_of-in-Sorted.ensures in
    subst (λ (x : List Insn). IfOk c.short-in-Sorted.result (λ y. y.items ≡ x)) total c.short-in-Sorted.ensures.code

pub term-returns-in_ok-by_value_of-in-Sorted-clause-long : goal.term-returns-in_ok-by_value_of-in-Sorted-clause-long
term-returns-in_ok-by_value_of-in-Sorted-clause-long t c =
    let total : c.in_ok-by_value_of-in-Sorted.field-0.items ≡ term_code c.args.t.now c.args.sizes c.args.loops.now
    c.args.depth c.args.purpose = sorted_made _ _ _ _ _ _ _ _ _ _ _ _ _ _ c.in_ok-code-in-Sorted.ensures.code
    c.constant_of-place.ensures c.deref-in-Sorted.ensures c.deref-in-Sorted-2.ensures c.in-Sorted.is
    c.in_ok-by_value_of-in-Sorted.ensures in
    let same : length c.in_ok-by_value_of-in-Sorted.field-0.items ≡ length (term_code c.args.t.now c.args.sizes
    c.args.loops.now c.args.depth c.args.purpose) = ap length total in
    error_longer c.short-in-Sorted.result _ _ (omega (arith, same)) c.short-in-Sorted.ensures.long

pub shared_over-returns-in_err-tests-in-Binary-clause-long : goal.shared_over-returns-in_err-tests-in-Binary-clause-long
shared_over-returns-in_err-tests-in-Binary-clause-long t c =
    passed_on c.from_residual-in_err-tests-in-Binary.result c.in_err-tests-in-Binary.field-0.0 _ _
    (shared_part _ _ _ _ _ _ _ _ _ _ _ c.in-Binary.is c.deref-in-Binary-2.ensures c.requires.shared)
    c.in_err-tests-in-Binary.ensures.long c.from_residual-in_err-tests-in-Binary.ensures.1

pub shared_over-returns-clause-code : goal.shared_over-returns-clause-code
shared_over-returns-clause-code t c =
    shared_made _ _ _ _ _ _ _ _ _ _ _ _ _ _ _ _ _ _ c.in-Binary.is c.requires.shared c.in_ok-first-in-Binary.ensures
    c.deref-in-Binary.ensures.value c.deref.ensures c.deref-in-Binary-2.ensures c.in_ok-right-in-Binary.ensures.code
    c.in_ok-tests-in-Binary.ensures.code c.deref-in-Binary-3.ensures.value c.in_ok-kept_then-in-Binary.ensures

pub tally_over-returns-in_err-tests-2-clause-long : goal.tally_over-returns-in_err-tests-2-clause-long
tally_over-returns-in_err-tests-2-clause-long t c =
    passed_on c.from_residual-in_err-tests-2.result c.in_err-tests-2.field-0.0 _ _
    (plain_part c.args.kind c.args.c.now c.args.sizes c.args.loops.now c.args.depth
    (sym c.shares_side_of.ensures ∙ c.if-shares_side_of.false)) c.in_err-tests-2.ensures.long
    c.from_residual-in_err-tests-2.ensures.1

pub tally_over-returns-clause-code : goal.tally_over-returns-clause-code
tally_over-returns-clause-code t c =
    let tests = over_code c.args.kind c.args.c.now c.args.sizes c.args.loops.now c.args.depth in
    let is : c.if-shares_side_of.tests.items ≡ tests = elim c.if-shares_side_of.branch [
      | tally_over-then-shares_side_of+in_ok-tests w ↦ ap (λ v. v.items) w.tests-is ∙ w.in_ok-tests.ensures.code
      | tally_over-else-shares_side_of+in_ok-tests-2 w ↦
          ap (λ v. v.items) w.tests-is ∙ w.in_ok-tests-2.ensures.code
          ∙ sym (plain_code c.args.kind c.args.c.now c.args.sizes c.args.loops.now c.args.depth
          (sym c.shares_side_of.ensures ∙ w.if-shares_side_of.false))
    ] in
    tally_done c.args.kind c.args.depth tests _ _ _ c.place_of.ensures (c.deref.ensures.value ∙ is) c.in_ok-tally_of.ensures

pub term-returns-in_err-right-in-Logical-clause-long : goal.term-returns-in_err-right-in-Logical-clause-long
term-returns-in_err-right-in-Logical-clause-long t c =
    passed_on c.from_residual-in_err-right-in-Logical.result c.in_err-right-in-Logical.field-0.0 _ _
    (second_part _ _ _ _ _ _ _ _ _ _ _ _ c.in-Logical.is c.deref-in-Logical.ensures c.test_of.ensures)
    c.in_err-right-in-Logical.ensures.long c.from_residual-in_err-right-in-Logical.ensures.1

pub term-returns-in_err-code-in-Not-clause-long : goal.term-returns-in_err-code-in-Not-clause-long
term-returns-in_err-code-in-Not-clause-long t c =
    passed_on c.from_residual-in_err-code-in-Not.result c.in_err-code-in-Not.field-0.0 _ _
    (inverse_part _ _ _ _ _ _ _ _ _ c.in-Not.is c.deref-in-Not.ensures c.opposite_test.ensures)
    c.in_err-code-in-Not.ensures.long c.from_residual-in_err-code-in-Not.ensures.1

pub term-returns-in_err-left-in-Logical-clause-long : goal.term-returns-in_err-left-in-Logical-clause-long
term-returns-in_err-left-in-Logical-clause-long t c =
    passed_on c.from_residual-in_err-left-in-Logical.result c.in_err-left-in-Logical.field-0.0 _ _
    (first_part _ _ _ _ _ _ _ _ _ _ _ _ _ _ _ c.in-Logical.is c.deref-in-Logical-3.ensures c.deref-in-Logical.ensures
    c.test_of.ensures (c.deref-in-Logical-2.ensures.value ∙ c.in_ok-right-in-Logical.ensures.code)
    c.first_test-first.ensures) c.in_err-left-in-Logical.ensures.long
    c.from_residual-in_err-left-in-Logical.ensures.1

pub term-returns-in_err-second-in-Choice-clause-long : goal.term-returns-in_err-second-in-Choice-clause-long
term-returns-in_err-second-in-Choice-clause-long t c =
    passed_on c.from_residual-in_err-second-in-Choice.result c.in_err-second-in-Choice.field-0.0 _ _
    (otherwise_part _ _ _ _ _ _ _ _ _ _ _ _ c.in-Choice.is c.deref-in-Choice.ensures)
    c.in_err-second-in-Choice.ensures.long c.from_residual-in_err-second-in-Choice.ensures.1

pub term-returns-in_err-first-in-Choice-clause-long : goal.term-returns-in_err-first-in-Choice-clause-long
term-returns-in_err-first-in-Choice-clause-long t c =
    passed_on c.from_residual-in_err-first-in-Choice.result c.in_err-first-in-Choice.field-0.0 _ _
    (chosen_part _ _ _ _ _ _ _ _ _ _ _ _ c.in-Choice.is c.deref-in-Choice-2.ensures)
    c.in_err-first-in-Choice.ensures.long c.from_residual-in_err-first-in-Choice.ensures.1

pub term-returns-in_err-test-in-Choice-clause-long : goal.term-returns-in_err-test-in-Choice-clause-long
term-returns-in_err-test-in-Choice-clause-long t c =
    passed_on c.from_residual-in_err-test-in-Choice.result c.in_err-test-in-Choice.field-0.0 _ _
    (choosing_part _ _ _ _ _ _ _ _ _ _ _ _ _ _ _ c.in-Choice.is c.deref-in-Choice-3.ensures c.deref-in-Choice-2.ensures
    (c.deref-in-Choice-4.ensures.value ∙ c.in_ok-first-in-Choice.ensures.code) c.skip_test.ensures)
    c.in_err-test-in-Choice.ensures.long c.from_residual-in_err-test-in-Choice.ensures.1
