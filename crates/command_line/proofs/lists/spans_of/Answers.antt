use Rattle.std.proofs.Common.{◌≡◌, ◌∙◌, [], fold, map, rules, ap}
use Rattle.std.specs.Map.Iter.{deref}
use Rattle.std.proofs.lemmas.Map.Iter.{iter_end}
use Rattle.command_line.specs.Lists.{mail_spans}
use Rattle.command_line.specs.inner.Spans.{with_span_number}
use Rattle.command_line.proofs.SpanLemmas.{made_longest, made_count, made_numbers}
use Rattle.command_line.proofs.lists.spans_of.Goals as goal

pub returns-clause-numbers : goal.returns-clause-numbers
returns-clause-numbers c =
    let all : map deref c.loop-number.yielded ≡ c.args.numbers.now.keys = search (rules, iter_end) in
    made_numbers (mail_spans c.loop-number.spans.items) c.args.numbers.now.keys
    (c.loop-number.invariant ∙ ap (fold with_span_number []) all)
    c.into_iter-number-iterator.ensures.into_iter_gives.4

pub returns-clause-longest : goal.returns-clause-longest
returns-clause-longest c =
    let all : map deref c.loop-number.yielded ≡ c.args.numbers.now.keys = search (rules, iter_end) in
    made_longest (mail_spans c.loop-number.spans.items) c.args.numbers.now.keys
    (c.loop-number.invariant ∙ ap (fold with_span_number []) all)
    c.into_iter-number-iterator.ensures.into_iter_gives.4

pub returns-clause-count : goal.returns-clause-count
returns-clause-count c =
    let all : map deref c.loop-number.yielded ≡ c.args.numbers.now.keys = search (rules, iter_end) in
    made_count (mail_spans c.loop-number.spans.items) c.args.numbers.now.keys
    (c.loop-number.invariant ∙ ap (fold with_span_number []) all)
    c.into_iter-number-iterator.ensures.into_iter_gives.4
