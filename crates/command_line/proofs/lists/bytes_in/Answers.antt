use Rattle.std.proofs.Common.{◌≡◌, ◌∷◌, [], length, sym, map, subst, refl, rules}
use Rattle.std.proofs.Math.Dec.{lit<}
use Rattle.std.proofs.lemmas.Iterator.Consumers.{YieldsList-end, YieldsList-turn}
use Rattle.std.proofs.lemmas.Iterator.Splits.{YieldsList-from_str_split}
use Rattle.command_line.specs.Lists.{IsBytes, IsPart, byte_spans, comma_parts}
use Rattle.command_line.specs.inner.Spans.{AddsPart, AreNumbersOf}
use Rattle.command_line.proofs.NumberLemmas.{map_push, one_part, list_of}
use Rattle.command_line.proofs.RejectedLemmas.{bytes_below, no_bytes}
use Rattle.command_line.proofs.lists.bytes_in.Goals as goal

pub loop-part-preserved : goal.loop-part-preserved
loop-part-preserved c =
    let part : IsPart 256 c.in-Some.part.now = rw c.if-not-branch.false at c.in_ok-add_bytes.ensures.part in
    let adds : AddsPart c.loop-part.bytes.keys c.add_bytes.new.bytes.keys c.in-Some.part.now =
    rw c.if-not-branch.false at c.in_ok-add_bytes.ensures.added in
    rw map_push (one_part 256 (map (λ part. part.now) c.loop-part.yielded) c.in-Some.part.now
    c.loop-part.bytes.keys c.add_bytes.new.bytes.keys c.loop-part.invariant part adds)

pub byte_spans_of-requires : goal.byte_spans_of-requires
byte_spans_of-requires c =
    bytes_below (map (λ part. part.now) c.loop-part.yielded) c.loop-part.bytes.keys c.loop-part.invariant

pub returns-clause-bytes : goal.returns-clause-bytes
returns-clause-bytes c =
    let all : map (λ part. part.now) c.loop-part.yielded ≡ comma_parts c.args.text.now =
    (YieldsList-end (YieldsList-from_str_split 44 c.args.text.now (lit< tt) (cc) (cc) (cc)) c.loop-part.yielded _
    c.loop-part.yielded_by _ _ c.in-None.is c.next.ensures.steps).0 in
    let values = c.in_ok-values.values in
    let made : c.push.new.self.items ≡ record { first = 0; last = 7; values = values } ∷ [] = search rules in
    subst (IsBytes c.args.text.now) (sym made) (
      refl,
      refl,
      list_of 256 (comma_parts c.args.text.now) c.loop-part.bytes.keys (byte_spans values.items)
          (subst (λ parts. AreNumbersOf 256 parts c.loop-part.bytes.keys) all c.loop-part.invariant)
          c.in_ok-values.ensures.numbers c.in_ok-values.ensures.longest,
    )

pub returns-then-not-branch-clause-rejected : goal.returns-then-not-branch-clause-rejected
returns-then-not-branch-clause-rejected c =
    let turn = YieldsList-turn (YieldsList-from_str_split 44 c.args.text.now (lit< tt) (cc) (cc) (cc))
    c.loop-part.yielded _ c.loop-part.yielded_by _ _ _ c.in-Some.is c.next.ensures.steps in
    let other : IsPart 256 c.in-Some.part.now → ⊥ = rw c.if-not-branch.true at c.in_ok-add_bytes.ensures.other in
    no_bytes c.args.text.now (length c.loop-part.yielded) c.in-Some.part.now turn.0 turn.1 other
