use Rattle.bounded_runs.proofs.marks.Marks.+touches_marked.Given as goal

-- proposed from what the function passes where it calls itself
abbrev pub decreases-touches_marked : goal.decreases-touches_marked
decreases-touches_marked l = l.count
