use Rattle.std.proofs.Common.{◌≡◌, ◌^◌, length, map, subst}
use Rattle.std.proofs.Math.Dec.{lit<}
use Rattle.std.proofs.lemmas.Iterator.Consumers.{YieldsList-end, YieldsList-so_far, YieldsList-turn}
use Rattle.std.proofs.lemmas.Iterator.Splits.{YieldsList-from_str_split}
use Rattle.command_line.specs.Lists.{mail_spans, comma_parts}
use Rattle.command_line.specs.inner.Spans.{AreNumbersOf}
use Rattle.command_line.proofs.NumberLemmas.{map_push, one_part, list_of}
use Rattle.command_line.proofs.RejectedLemmas.{ended_list}
use Rattle.command_line.proofs.lists.mail_in.Goals as goal

pub loop-part-preserved : goal.loop-part-preserved
loop-part-preserved c = record {
  numbers = rw map_push (one_part (2 ^ 32) (map (λ part. part.now) c.loop-part.yielded) c.in-Some.part.now
      c.loop-part.numbers.keys c.add_part_numbers.new.numbers.keys c.loop-part.invariant.numbers
      c.in_default.ensures.part c.in_default.ensures.added);
  few = c.in_default.ensures.few;
}

pub returns-clause-list : goal.returns-clause-list
returns-clause-list c =
    let all : map (λ part. part.now) c.loop-part.yielded ≡ comma_parts c.args.text.now =
    (YieldsList-end (YieldsList-from_str_split 44 c.args.text.now (lit< tt) (cc) (cc) (cc)) c.loop-part.yielded _
    c.loop-part.yielded_by _ _ c.in-None.is c.next.ensures.steps).0 in
    list_of (2 ^ 32) (comma_parts c.args.text.now) c.loop-part.numbers.keys (mail_spans c.in_ok-spans_of.field-0.items)
    (subst (λ parts. AreNumbersOf (2 ^ 32) parts c.loop-part.numbers.keys) all c.loop-part.invariant.numbers)
    c.in_ok-spans_of.ensures.numbers c.in_ok-spans_of.ensures.longest

pub returns-in-Err-clause-rejected : goal.returns-in-Err-clause-rejected
returns-in-Err-clause-rejected c =
    let road = YieldsList-from_str_split 44 c.args.text.now (lit< tt) (cc) (cc) (cc) in
    let turn = YieldsList-turn road c.loop-part.yielded _ c.loop-part.yielded_by _ _ _ c.in-Some.is c.next.ensures.steps in
    let front = YieldsList-so_far road c.loop-part.yielded _ c.loop-part.yielded_by in
    ended_list c.args.text.now c.loop-part.numbers.keys (length c.loop-part.yielded) c.in-Some.part.now c.in-Err.fault
    turn.0 turn.1 (subst (λ parts. AreNumbersOf (2 ^ 32) parts c.loop-part.numbers.keys) front c.loop-part.invariant.numbers)
    c.in-Err.ensures.ends
