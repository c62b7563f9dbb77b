use Rattle.command_line.proofs.lists.begin_entry.Goals as goal

pub joined_values-requires : goal.joined_values-requires
joined_values-requires c = c.in-Some-Some.ensures'.span.below

pub returns-clause-begins : goal.returns-clause-begins
returns-clause-begins c = record {
  entry = record {
    first = c.in-Some-Some.places.first;
    last = c.in-Some-Some.places.last;
    values = c.in_ok-values.values;
  };
  is = c.in_ok-push.ensures.items;
  placed = c.in-Some-Some.ensures.place;
  values = record {
    first = c.in-Some-Some.span.first;
    last = c.in-Some-Some.span.last;
    span = c.in-Some-Some.ensures'.span;
    joined = c.in_ok-values.ensures.numbers;
    longest = c.in_ok-values.ensures.longest;
  };
}
