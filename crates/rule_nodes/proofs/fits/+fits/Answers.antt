use Rattle.rule_nodes.proofs.Shared.{count_ok, count_unfit, least_ok, least_unfit, unparted_ok, unparted_unfit}
use Rattle.rule_nodes.proofs.fits.+fits.Goals as goal

pub tally_fits-returns-in_default : goal.tally_fits-returns-in_default
tally_fits-returns-in_default t c = record {
  fits = unparted_ok c.term_fits-in_default.result c.args.c.now c.args.sizes c.args.loops c.args.lets c.args.depth _
      c.in_ok-inner.ensures.more c.in_default.not-Binary c.in_ok-needs_less.ensures.fits
      c.term_fits-in_default.ensures.fits;
  unfit = unparted_unfit c.term_fits-in_default.result c.args.c.now c.args.sizes c.args.loops c.args.lets c.args.depth _
      c.in_ok-inner.ensures.more c.in_default.not-Binary c.term_fits-in_default.ensures.unfit;
}

pub term_fits-returns-in-Count-clause-fits : goal.term_fits-returns-in-Count-clause-fits
term_fits-returns-in-Count-clause-fits t c =
    count_ok c.tally_fits.result c.args.t.now _ _ _ c.args.sizes c.args.loops c.args.lets c.args.depth c.in-Count.is
    c.deref-in-Count.ensures c.tally_fits.ensures.fits

pub term_fits-returns-in-Count-clause-unfit : goal.term_fits-returns-in-Count-clause-unfit
term_fits-returns-in-Count-clause-unfit t c =
    count_unfit c.tally_fits.result c.args.t.now _ _ _ c.args.sizes c.args.loops c.args.lets c.args.depth c.in-Count.is
    c.deref-in-Count.ensures c.tally_fits.ensures.unfit

pub term_fits-returns-in-Least-clause-fits : goal.term_fits-returns-in-Least-clause-fits
term_fits-returns-in-Least-clause-fits t c =
    least_ok c.tally_fits-in-Least.result c.args.t.now _ _ _ c.args.sizes c.args.loops c.args.lets c.args.depth c.in-Least.is
    c.deref-in-Least.ensures c.tally_fits-in-Least.ensures.fits

pub term_fits-returns-in-Least-clause-unfit : goal.term_fits-returns-in-Least-clause-unfit
term_fits-returns-in-Least-clause-unfit t c =
    least_unfit c.tally_fits-in-Least.result c.args.t.now _ _ _ c.args.sizes c.args.loops c.args.lets c.args.depth
    c.in-Least.is c.deref-in-Least.ensures c.tally_fits-in-Least.ensures.unfit
