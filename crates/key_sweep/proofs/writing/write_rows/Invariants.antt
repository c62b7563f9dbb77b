use Rattle.std.proofs.Common.{◌-◌, ◌+◌, ◌≤◌, ◌≡◌}
use Rattle.key_sweep.proofs.RowLemmas.{Swept}
use Rattle.key_sweep.proofs.writing.write_rows.Given as goal

-- the rows of the keys before the next one are written
abbrev pub invariant-loop-next : goal.invariant-loop-next
invariant-loop-next g l =
    record {
      swept : Swept (g.R.RowMaker.is_row l.maker) (g.R.RowMaker.first_row l.maker) (g.W.Write.contents l.fn.writer)
          (g.W.Write.contents l.writer) l.fn.keys.first l.next l.told;
      past : l.past ≡ l.fn.keys.last + 1;
      within : l.next ≤ l.past;
    }

abbrev pub decreases-loop-next : goal.decreases-loop-next
decreases-loop-next g l = l.past - l.next
