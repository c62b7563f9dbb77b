use Rattle.rule_formulas.proofs.FormedTerms.{truth_holds, truth_fails}
use Rattle.rule_formulas.proofs.terms.both_answers.Goals as goal

pub returns-in-Truth-clause-holds : goal.returns-in-Truth-clause-holds
returns-in-Truth-clause-holds c w h = truth_holds c.args.what c.in-Truth.holds c.in-Truth.fails w c.in-Truth.is h

pub returns-in-Truth-clause-fails : goal.returns-in-Truth-clause-fails
returns-in-Truth-clause-fails c w h = truth_fails c.args.what c.in-Truth.holds c.in-Truth.fails w c.in-Truth.is h
