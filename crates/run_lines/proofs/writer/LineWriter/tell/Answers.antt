use Rattle.std.proofs.Common.{◌∙◌, ap, refl, rules, sym}
use Rattle.bench_workers.specs.Watching.{seen_of}
use Rattle.run_lines.proofs.LineLemmas.{none_told}
use Rattle.parameters.specs.Pulses.{is_within}
use Rattle.run_lines.proofs.writer.LineWriter.tell.Goals as goal

pub returns-then-not-contains-clause-told : goal.returns-then-not-contains-clause-told
returns-then-not-contains-clause-told g c = record {
  same = record { scenario = refl; form = refl };
  judged = search rules;
  adds = none_told c.args.self.now.scenario.now c.args.self.now.form (seen_of c.args.shown.now) _
      c.args.self.now.written
      (sym (c.contains.ensures ∙ ap (is_within c.args.self.now.form.span) c.pulse_of.ensures) ∙ c.if-not-contains.true);
}
