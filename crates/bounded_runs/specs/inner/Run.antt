-- What runs are followed of: the bound of a run, and of those that are tried.
use Rattle.bounded_runs.specs.declared.all.Tries.{Tries}
use Rattle.bounded_runs.specs.declared.run.RunView.{RunView}
use Rattle.bounded_runs.specs.Bounded.{Bound}

abbrev pub bound_of_run : RunView → Bound
bound_of_run view = record { number = view.bound; kept = view.kept.now }

abbrev pub bound_of_tries : Tries → Bound
bound_of_tries tries = record { number = tries.bound; kept = tries.kept.now }
