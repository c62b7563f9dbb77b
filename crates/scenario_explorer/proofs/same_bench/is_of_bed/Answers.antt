use Rattle.std.proofs.Common.{rules, ◌≡◌, ◌⊎◌, ℕ, List, Option, None, is_some, replicate, subst}
use Rattle.bpf_verify.specs.Accepted.{Accepted}
use Rattle.bench_moves.specs.Bed.{IsCorrect}
use Rattle.scenario_text.specs.Views.{extent_of, frame_of, is_strict}
use Rattle.scenario_explorer.specs.Explore.{HasItsProgram, HaveDifferentPrograms, all_loaded}
use Rattle.scenario_explorer.proofs.same_bench.is_of_bed.Goals as goal

pub returns : goal.returns
returns c same =
    let s = c.args.scenario.now in
    let bed = c.args.bed.now in
    let shape : extent_of (frame_of s) ≡ bed.setup.shape = search rules in
    let faults : s.faults ≡ bed.setup.faults = search rules in
    let modulus : s.modulus ≡ bed.setup.modulus = search rules in
    let verdict : is_strict (frame_of s) (is_some s.clock) ≡ bed.own = search rules in
    let placed : c.in_ok-programs.programs.items ≡ all_loaded (replicate s.nodes None) s.loads.items = search rules in
    let Fit = λ (ps : List (Option Accepted)). ((i : ℕ) → IsCorrect bed i → HasItsProgram ps bed i)
    ⊎ HaveDifferentPrograms bed in
    let fit : Fit c.in_ok-programs.programs.items = subst Fit c.as_slice-2.ensures.value
    (c.are_its_programs.ensures same) in
    record {
      shape = shape;
      faults = faults;
      modulus = modulus;
      verdict = verdict;
      programs = subst Fit placed fit;
    }
