use Rattle.std.proofs.Common.{◌⊎◌, ◌^◌, ◌<◌, ◌≤◌, ℕ, Any, Contains, arith, inl, inr, ⊎_elim}
use Rattle.std.specs.BTreeSet.{btree_set_len}
use Rattle.command_line.specs.Lists.{IsInSpan, Names, span_length}
use Rattle.command_line.proofs.CountLemmas.{keys_count, span_counts}
use Rattle.command_line.proofs.RangeLemmas.{adds_part, names_within, part_is}
use Rattle.command_line.proofs.lists.add_part_numbers.Goals as goal

pub returns-clause-added : goal.returns-clause-added
returns-clause-added c = adds_part c.args.part.now c.in_ok-span.span.first c.in_ok-span.span.last
    c.args.numbers.now.keys c.insert_span.new.numbers.keys c.in_ok-span.ensures.range c.in_ok-insert_span.ensures

pub returns-then-span-clause-ends : goal.returns-then-span-clause-ends
returns-then-span-clause-ends c = λ part.
    let span = c.in_ok-span.span in
    let fits = part_is (2 ^ 32) c.args.part.now span.first span.last c.in_ok-span.ensures.range part in
    let rises = fits.0 in omega arith

pub returns-then-span-ge-MAX_MAIL-clause-ends : goal.returns-then-span-ge-MAX_MAIL-clause-ends
returns-then-span-ge-MAX_MAIL-clause-ends c = λ spans all.
    let span = c.in_ok-span.span in
    let counted = span_counts span.first span.last spans (λ n low high. all n (inr
    ((names_within c.args.part.now span.first span.last c.in_ok-span.ensures.range n).1 (low, high)))) in
    omega arith

pub returns-then-len-gt-MAX_MAIL-clause-ends : goal.returns-then-len-gt-MAX_MAIL-clause-ends
returns-then-len-gt-MAX_MAIL-clause-ends c = λ spans all.
    let span = c.in_ok-span.span in
    let keys = c.insert_span.new.numbers.keys in
    let counted = keys_count keys spans c.len.ensures.ordered (λ n has. ⊎_elim (λ old. all n (inl old))
    (λ within. all n (inr
    ((names_within c.args.part.now span.first span.last c.in_ok-span.ensures.range n).1 within)))
    ((c.in_ok-insert_span.ensures n).0 has)) in
    omega arith
