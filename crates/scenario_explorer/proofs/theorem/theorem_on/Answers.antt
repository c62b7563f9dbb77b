use Rattle.std.proofs.Common.{◌≡◌, ◌∙◌, ℕ, false, Option, IfSome, sym, subst}
use Rattle.bench_moves.specs.Synchrony.{MayStabilise, NeverPart}
use Rattle.bench_moves.specs.Start.{IsEvery}
use Rattle.scenario_explorer.specs.Explore.{Begins, IsFindingOf}
use Rattle.scenario_explorer.proofs.TheoremLemmas.{theorem_finds}
use Rattle.scenario_explorer.proofs.theorem.theorem_on.Goals as goal

pub returns : goal.returns
returns c =
    let asked = c.args.options.now in
    let s = c.args.scenario.now in
    let bed = c.args.bed.now in
    let within = c.in-Some.within in
    let agrees = subst (λ (o : Option ℕ). IfSome o (λ k. bed.own ≡ false → NeverPart bed (IsEvery bed))) c.in-Some.is
    c.in_ok-within.ensures.agrees in
    let may = subst (λ (o : Option ℕ). IfSome o (MayStabilise bed (IsEvery bed))) c.in-Some.is
    c.in_ok-within.ensures.stabilises in
    subst (IsFindingOf asked bed (Begins asked s)) (sym c.theorem_of.ensures)
    (theorem_finds asked s bed within c.requires (c.speaks_of.ensures c.if-not-speaks_of.false)
    (c.is_answerable.ensures c.if-not-is_answerable.false) (agrees (sym c.is_own.ensures ∙ c.if-is_own.false)) may)
