use Rattle.std.proofs.Common.{◌≡◌, ◌∷◌, ◌++◌, map, take}
use Rattle.bounded_runs.proofs.all.push_longer.Given as goal

abbrev pub invariant-loop-row : goal.invariant-loop-row
invariant-loop-row l = map (λ v. v.items) l.all.items
    ≡ map (λ v. v.items) l.fn.all.items ++ map (λ row. l.first ∷ row) (map (λ v. v.items) (take l.row-index l.rows))
