use Rattle.std.proofs.Common.{◌≡◌, ◌++◌, ◌∷◌, [], refl, rules}
use Rattle.command_line.specs.Lists.{byte_spans}
use Rattle.command_line.specs.inner.Spans.{JoinsSpan}
use Rattle.command_line.proofs.lists.add_value.Goals as goal

pub joined_values-requires : goal.joined_values-requires
joined_values-requires c = c.in-Some.ensures.span.below

pub returns-clause-adds : goal.returns-clause-adds
returns-clause-adds c =
    let popped : c.args.all.now.items ≡ c.pop.new.self.items ++ c.in-Some-pop.cells ∷ [] = search rules in
    let joined : JoinsSpan (byte_spans c.in-Some-pop.cells.values.items) (byte_spans c.in_ok-values.values.items)
    (c.in-Some.span.first, c.in-Some.span.last) =
    rw c.as_slice.ensures.value at c.in_ok-values.ensures.numbers in
    record {
      front = c.pop.new.self.items;
      before = c.in-Some-pop.cells;
      after = record {
        first = c.in-Some-pop.cells.first;
        last = c.in-Some-pop.cells.last;
        values = c.in_ok-values.values;
      };
      was = popped;
      is = c.in_ok-push.ensures.items;
      same_first = refl;
      same_last = refl;
      values = record {
        first = c.in-Some.span.first;
        last = c.in-Some.span.last;
        span = c.in-Some.ensures.span;
        joined = joined;
        longest = c.in_ok-values.ensures.longest;
      };
    }
