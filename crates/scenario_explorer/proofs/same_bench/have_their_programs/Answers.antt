use Rattle.std.proofs.Common.{◌≡◌, ◌+◌, ◌<◌, ℕ, List, Option, sym, ap, ◌∙◌, subst, arith, true, false, inl, inr}
use Rattle.std.proofs.lemmas.Bool.{cases_lt}
use Rattle.bpf_verify.specs.Accepted.{Accepted}
use Rattle.bench_moves.specs.Bed.{Bed, IsCorrect}
use Rattle.scenario_explorer.specs.Explore.{HasItsProgram}
use Rattle.scenario_explorer.proofs.same_bench.have_their_programs.Goals as goal
use Rattle.scenario_explorer.proofs.same_bench.have_their_programs.Goals.{then-is_correct+else-not-has_its_program, else-is_correct}

-- one node more
program_more : (programs : List (Option Accepted)) (bed : Bed) (node : ℕ)
    → ((i : ℕ) → i < node → IsCorrect bed i → HasItsProgram programs bed i)
    → (IsCorrect bed node → HasItsProgram programs bed node)
    → (i : ℕ) → i < node + 1 → IsCorrect bed i → HasItsProgram programs bed i
program_more programs bed node below here i lt ok =
    elim (cases_lt i node) [
      | inl less ↦ below i less ok
      | inr past ↦
          let is : node ≡ i = omega (arith, lt, past) in
          subst (λ (k : ℕ). IsCorrect bed k → HasItsProgram programs bed k) is here ok
    ]

pub loop-node-preserved : goal.loop-node-preserved
loop-node-preserved c =
    let more = program_more c.args.programs.now c.args.bed.now c.loop-node.node c.loop-node.invariant in
    elim c.if-is_correct.branch [
      | then-is_correct+else-not-has_its_program w ↦
          more (λ ok. w.has_its_program.ensures w.if-not-has_its_program.false)
      | else-is_correct w ↦
          more (λ ok. absurd (let none : false ≡ true = sym w.if-is_correct.false ∙ c.is_correct.ensures.1 ok in cc))
    ]

pub returns : goal.returns
returns c _ i ok = c.loop-node.invariant i
    (omega (arith, ok.1.0, c.loop-node-test.false, c.nodes-node-end.ensures.value, ap (λ x. x.nodes) c.shape.ensures)) ok
