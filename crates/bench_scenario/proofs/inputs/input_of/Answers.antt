use Rattle.std.proofs.Common.{Some, arith, rules, map, ap, sym, ◌∙◌}
use Rattle.std.specs.FinMap.{get}
use Rattle.std.proofs.lemmas.Grind.{common_steps}
use Rattle.bench_scenario.proofs.InputLemmas.{fits_so}
use Rattle.bench_scenario.proofs.inputs.input_of.Goals as goal

pub returns-clause-fits : goal.returns-clause-fits
returns-clause-fits c =
    let opened = c.args.opened.now in
    fits_so opened.bench opened.coins.items c.args.node _ c.history-history.ensures.setup
    c.history-history.ensures.replays c.requires.node c.requires.coins
    (record {
      program = c.requires.program ∙ ap (λ p. Some p) (sym c.in_ok-program.ensures);
      memory = c.in_ok-memory.ensures.items ∙ c.memory.ensures;
      heard = c.in_ok-heard.ensures ∙ ap (map (λ row. get row c.args.node)) c.mail.ensures.value;
      coin = first_of (search rules, grind (arith, common_steps));
    })
