use Rattle.run_commands.proofs.TracedRunLemmas.{fits_own, run_of}
use Rattle.run_commands.proofs.traced_run.trace_in.Goals as goal

pub lines_of-requires-clause-fits : goal.lines_of-requires-clause-fits
lines_of-requires-clause-fits g c = fits_own _ _ _ (rw c.in-Ok.is at c.in_ok-found.ensures.fits)

pub lines_of-requires-clause-shape : goal.lines_of-requires-clause-shape
lines_of-requires-clause-shape g c =
    let fits = rw c.in-Ok.is at c.in_ok-found.ensures.fits in fits.program

pub returns-in-Ok-lines_of-clause-told : goal.returns-in-Ok-lines_of-clause-told
returns-in-Ok-lines_of-clause-told g c =
    run_of c.args.place c.in-Ok-lines_of.lines.items c.args.scenario.now c.in-Ok.input
    (rw c.in-Ok.is at c.in_ok-found.ensures.input) (rw c.in-Ok.is at c.in_ok-found.ensures.fits)
    c.in-Ok-lines_of.ensures
