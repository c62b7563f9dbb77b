use Rattle.std.proofs.Common.{◌≡◌, ◌↔◌, Any, Contains, arith, rules, subst, take, ⊎_elim}
use Rattle.std.proofs.Math.Seq.{take_all}
use Rattle.command_line.specs.Lists.{IsInSpan, byte_spans}
use Rattle.command_line.proofs.EntryLemmas.{one_more_span}
use Rattle.command_line.proofs.lists.bytes_of.Goals as goal

pub loop-span-preserved : goal.loop-span-preserved
loop-span-preserved c = record {
  numbers = λ n. one_more_span c.args.values.now c.loop-span.span-index (record { first = 0; last = 0 })
      c.loop-span.bytes.keys c.insert_span.new.numbers.keys (c.wide_span.result.first, c.wide_span.result.last)
      (search rules) (search rules) (search rules) c.in_ok-insert_span.ensures n (c.loop-span.invariant.numbers n);
  below = λ n has. let small = c.wide_span.ensures.below in
      ⊎_elim (λ old. c.loop-span.invariant.below n old) (λ w. let high = w.1 in omega arith)
      ((c.in_ok-insert_span.ensures n).0 has);
}

pub returns-clause-numbers : goal.returns-clause-numbers
returns-clause-numbers c = λ n.
    let all : take c.loop-span.span-index c.args.values.now ≡ c.args.values.now =
    take_all c.loop-span.span-index c.args.values.now (omega arith) in
    subst (λ xs. Contains c.loop-span.bytes.keys n ↔ Any (IsInSpan n) (byte_spans xs)) all
    (c.loop-span.invariant.numbers n)
