use Rattle.std.proofs.Common.{Some, None}
use Rattle.std.proofs.Math.Dec.{lit<}
use Rattle.std.proofs.lemmas.Str.Pattern.{strip_prefix_char}
use Rattle.command_line.proofs.RejectedLemmas.{no_first, no_last, no_number, no_second_point, range_of}
use Rattle.command_line.proofs.lists.span_in.Goals as goal

pub returns-in-None-clause-other : goal.returns-in-None-clause-other
returns-in-None-clause-other c = no_number c.args.part.now c.in_default.ensures.cases c.in-None.ensures.none

pub returns-in_default-strip_prefix-clause-other : goal.returns-in_default-strip_prefix-clause-other
returns-in_default-strip_prefix-clause-other c = no_second_point c.args.part.now c.in-Some.left c.in-Some.rest
    c.in-Some.ensures.cases
    (strip_prefix_char 46 c.in-Some.rest.now None c.in_default-strip_prefix.ensures.cases (lit< tt))

pub returns-in_default-number_in-clause-other : goal.returns-in_default-number_in-clause-other
returns-in_default-number_in-clause-other c = no_first c.args.part.now c.in-Some.left c.in-Some.rest
    c.in-Some.ensures.cases c.in_default-number_in.ensures.none

pub returns-in_default-number_in-2-clause-other : goal.returns-in_default-number_in-2-clause-other
returns-in_default-number_in-2-clause-other c = no_last c.args.part.now c.in-Some.left c.in-Some.rest
    c.in-Some-strip_prefix.right.now c.in-Some.ensures.cases
    (strip_prefix_char 46 c.in-Some.rest.now (Some c.in-Some-strip_prefix.right) c.in-Some-strip_prefix.ensures.cases
    (lit< tt)) c.in_default-number_in-2.ensures.none

pub returns-clause-range : goal.returns-clause-range
returns-clause-range c = range_of c.args.part.now c.in-Some.left c.in-Some.rest c.in-Some-strip_prefix.right.now
    c.in-Some-number_in-2.first c.in-Some-number_in-3.last c.in-Some.ensures.cases
    (strip_prefix_char 46 c.in-Some.rest.now (Some c.in-Some-strip_prefix.right) c.in-Some-strip_prefix.ensures.cases
    (lit< tt)) c.in-Some-number_in-2.ensures.digits c.in-Some-number_in-3.ensures.digits
