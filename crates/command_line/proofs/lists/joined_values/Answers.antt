use Rattle.std.proofs.Common.{arith, ⊎_elim}
use Rattle.command_line.proofs.EntryLemmas.{join_span}
use Rattle.command_line.specs.Lists.{byte_spans}
use Rattle.command_line.proofs.lists.joined_values.Goals as goal

pub byte_spans_of-requires : goal.byte_spans_of-requires
byte_spans_of-requires c = λ n has.
    let small = c.requires in
    ⊎_elim (λ old. c.in_ok-bytes.ensures.below n old) (λ w. let high = w.1 in omega arith)
    ((c.in_ok-insert_span.ensures n).0 has)

pub returns-clause-numbers : goal.returns-clause-numbers
returns-clause-numbers c =
    join_span (byte_spans c.args.values.now) (byte_spans c.in_ok-spans.spans.items) c.in_ok-bytes.bytes.keys
    c.insert_span.new.numbers.keys (c.args.span.first, c.args.span.last) c.in_ok-bytes.ensures.numbers
    c.in_ok-insert_span.ensures c.in_ok-spans.ensures.numbers
