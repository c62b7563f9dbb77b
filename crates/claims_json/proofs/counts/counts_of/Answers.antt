use Rattle.std.proofs.Common.{sym}
use Rattle.claims_json.proofs.CountLemmas.{counts_as}
use Rattle.claims_json.proofs.counts.counts_of.Goals as goal

pub returns-in-Holds-clause-violated : goal.returns-in-Holds-clause-violated
returns-in-Holds-clause-violated c =
    let told = counts_as c.args.form c.args.verdicts.now c.counting_form.result c.answer_of.result _
    c.counting_form.ensures c.answer_of.ensures c.in-Holds.is in
    sym told.1
