use Rattle.std.proofs.Common.{◌≡◌, length, map, subst}
use Rattle.std.proofs.Math.Dec.{lit<}
use Rattle.std.proofs.lemmas.Iterator.Consumers.{YieldsList-end, YieldsList-so_far, YieldsList-turn}
use Rattle.std.proofs.lemmas.Iterator.Splits.{YieldsList-from_str_split}
use Rattle.command_line.specs.Lists.{AreEntries, comma_parts}
use Rattle.command_line.specs.inner.Entries.{AddsCells, EndsCells}
use Rattle.command_line.proofs.EntryLemmas.{more_cells}
use Rattle.command_line.proofs.RejectedLemmas.{ended_cells}
use Rattle.command_line.proofs.NumberLemmas.{map_push}
use Rattle.command_line.proofs.lists.cells_in.Goals as goal

pub loop-part-preserved : goal.loop-part-preserved
loop-part-preserved c =
    let adds : AddsCells c.loop-part.all.items c.add_cells.new.all.items c.in-Some.part.now =
    rw c.if-not-branch.false at c.in_ok-add_cells.ensures.adds in
    rw map_push (more_cells c.loop-part.all.items c.add_cells.new.all.items
    (map (λ part. part.now) c.loop-part.yielded) c.in-Some.part.now adds c.loop-part.invariant)

pub returns-clause-cells : goal.returns-clause-cells
returns-clause-cells c =
    let all : map (λ part. part.now) c.loop-part.yielded ≡ comma_parts c.args.text.now =
    (YieldsList-end (YieldsList-from_str_split 44 c.args.text.now (lit< tt) (cc) (cc) (cc)) c.loop-part.yielded _
    c.loop-part.yielded_by _ _ c.in-None.is c.next.ensures.steps).0 in
    subst (λ parts. AreEntries parts c.loop-part.all.items) all c.loop-part.invariant

pub returns-then-not-branch-clause-rejected : goal.returns-then-not-branch-clause-rejected
returns-then-not-branch-clause-rejected c =
    let road = YieldsList-from_str_split 44 c.args.text.now (lit< tt) (cc) (cc) (cc) in
    let turn = YieldsList-turn road c.loop-part.yielded _ c.loop-part.yielded_by _ _ _ c.in-Some.is c.next.ensures.steps in
    let front = YieldsList-so_far road c.loop-part.yielded _ c.loop-part.yielded_by in
    let ends : EndsCells c.loop-part.all.items c.in-Some.part.now =
    rw c.if-not-branch.true at c.in_ok-add_cells.ensures.ends in
    ended_cells (comma_parts c.args.text.now) (length c.loop-part.yielded) c.in-Some.part.now c.loop-part.all.items
    turn.0 turn.1 (subst (λ parts. AreEntries parts c.loop-part.all.items) front c.loop-part.invariant) ends
