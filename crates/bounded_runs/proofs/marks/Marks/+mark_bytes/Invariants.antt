use Rattle.bounded_runs.proofs.marks.Marks.+mark_bytes.Given as goal

-- proposed from what the function passes where it calls itself
abbrev pub decreases-mark_bytes : goal.decreases-mark_bytes
decreases-mark_bytes l = l.count
