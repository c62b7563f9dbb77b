use Rattle.bounded_runs.proofs.marks.Marks.+all_marked.Given as goal

-- proposed from what the function passes where it calls itself
abbrev pub decreases-all_marked : goal.decreases-all_marked
decreases-all_marked l = l.count
