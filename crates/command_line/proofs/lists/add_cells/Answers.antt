use Rattle.command_line.proofs.RejectedLemmas.{cut_ends, false_more, whole_ends}
use Rattle.command_line.proofs.lists.add_cells.Goals as goal

pub returns-in_ok-begun-in-Some-clause-ends : goal.returns-in_ok-begun-in-Some-clause-ends
returns-in_ok-begun-in-Some-clause-ends c = false_more c.in_ok-begun-in-Some.begun _ _
    (cut_ends c.args.part.now c.in-Some.places c.in-Some.value c.in-Some.ensures.cases c.args.all.now.items)
    c.in_ok-begun-in-Some.ensures.other

pub returns-in_ok-added-in-None-clause-ends : goal.returns-in_ok-added-in-None-clause-ends
returns-in_ok-added-in-None-clause-ends c = false_more c.in_ok-added-in-None.added _ _
    (whole_ends c.args.part.now c.in-None.ensures.cases c.args.all.now.items) c.in_ok-added-in-None.ensures.other
