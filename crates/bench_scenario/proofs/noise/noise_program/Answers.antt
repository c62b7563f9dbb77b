use Rattle.std.proofs.Common.{ℕ, length, ap, subst, sym, ◌∙◌}
use Rattle.bpf_verify.specs.Paths.{IsLongestPath}
use Rattle.bench_scenario.specs.Coins.{keyed}
use Rattle.bench_scenario.specs.Noise.{message_at}
use Rattle.clock_nodes.specs.Listings.{say_listing}
use Rattle.bench_scenario.proofs.NoiseLemmas.{program_is}
use Rattle.bench_scenario.proofs.NoisyLemmas.{notes_length}
use Rattle.node_env.specs.Env.{Extent}
use Rattle.bench_scenario.proofs.noise.noise_program.Goals as goal

pub say_program-requires-clause-values : goal.say_program-requires-clause-values
say_program-requires-clause-values c =
    let s = keyed c.args.scenario.now c.args.draw.key in
    ap length (c.as_slice.ensures.value ∙ c.in_ok-sent.ensures)
    ∙ (notes_length (message_at s c.args.draw.pulse c.args.node) s.nodes
    ∙ sym (ap (λ (e : Extent). e.nodes) c.shape-shape.ensures))

pub returns : goal.returns
returns c =
    let s = keyed c.args.scenario.now c.args.draw.key in
    program_is c.in_ok-program.program s c.args.draw.pulse c.args.node
    (c.in_ok-program.ensures.program ∙ ap say_listing (c.as_slice.ensures.value ∙ c.in_ok-sent.ensures))
    (c.in_ok-program.ensures.fits.0 ∙ c.shape-shape.ensures)
    (subst (λ (n : ℕ). IsLongestPath c.in_ok-program.program.program n) c.budget-announced.ensures.value
    c.budget-announced.ensures.longest)
