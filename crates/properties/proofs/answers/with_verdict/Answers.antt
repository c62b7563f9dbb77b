use Rattle.std.proofs.Common.{◌∙◌, refl, sym}
use Rattle.properties.proofs.TallyLemmas.{tally_held, tally_violated}
use Rattle.properties.proofs.answers.with_verdict.Goals as goal

pub returns-in-Some-clause-tally : goal.returns-in-Some-clause-tally
returns-in-Some-clause-tally c =
    λ vs is. tally_violated c.args.form vs c.args.one c.args.tally _ c.in-Some.violation
    (sym c.counts_for.ensures ∙ c.if-not-counts_for.false) (sym c.violation_of.ensures ∙ c.in-Some.is)
    refl refl refl refl is

pub returns-in-None-clause-tally : goal.returns-in-None-clause-tally
returns-in-None-clause-tally c =
    λ vs is. tally_held c.args.form vs c.args.one c.args.tally _
    (sym c.counts_for.ensures ∙ c.if-not-counts_for.false) (sym c.violation_of.ensures ∙ c.in-None.is)
    refl refl refl (cc) is
