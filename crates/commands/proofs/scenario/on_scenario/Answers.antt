use Rattle.command_answers.proofs.WriteLemmas.{memory_unwritten}
use Rattle.command_answers.proofs.StartLemmas.{gives_started, memory_started}
use Rattle.commands.proofs.StartLemmas.{claimed_explore_started, claimed_sweep_started, sweep_started}
use Rattle.commands.proofs.scenario.on_scenario.Goals as goal

pub returns-in-TracedRun-clause-cause : goal.returns-in-TracedRun-clause-cause
returns-in-TracedRun-clause-cause g c =
    c.give.ensures.cause (memory_unwritten _ c.traced_run.result c.traced_run.ensures.fault)

pub returns-in-NodeProgram-clause-cause : goal.returns-in-NodeProgram-clause-cause
returns-in-NodeProgram-clause-cause g c =
    c.give-in-NodeProgram.ensures.cause (memory_unwritten _ c.node_program.result c.node_program.ensures.fault)

pub returns-in-Explore-clause-cause : goal.returns-in-Explore-clause-cause
returns-in-Explore-clause-cause g c =
    c.give-in-Explore.ensures.cause (memory_unwritten _ c.explore.result c.explore.ensures.fault)

-- ---- threads

pub returns-in-Sweep-clause-thread : goal.returns-in-Sweep-clause-thread
returns-in-Sweep-clause-thread g c = sweep_started _ c.args.scenario.now _ _ _ c.sweep.result c.sweep.ensures.left

pub returns-in-ClaimedSweep-clause-thread : goal.returns-in-ClaimedSweep-clause-thread
returns-in-ClaimedSweep-clause-thread g c =
    claimed_sweep_started _ c.args.scenario.now c.in-ClaimedSweep.options _ _ c.claimed_sweep.result
    c.claimed_sweep.ensures.left

pub returns-in-ClaimedExplore-clause-thread : goal.returns-in-ClaimedExplore-clause-thread
returns-in-ClaimedExplore-clause-thread g c =
    claimed_explore_started _ c.args.scenario.now c.in-ClaimedExplore.options _ _ c.claimed_explore.result
    c.claimed_explore.ensures.left

pub returns-in-TracedRun-clause-thread : goal.returns-in-TracedRun-clause-thread
returns-in-TracedRun-clause-thread g c =
    gives_started _ _ _ c.traced_run.result c.give.result (memory_started _ c.traced_run.result c.traced_run.ensures.fault)
    c.give.ensures.left

pub returns-in-NodeProgram-clause-thread : goal.returns-in-NodeProgram-clause-thread
returns-in-NodeProgram-clause-thread g c =
    gives_started _ _ _ c.node_program.result c.give-in-NodeProgram.result (memory_started _ c.node_program.result c.node_program.ensures.fault)
    c.give-in-NodeProgram.ensures.left

pub returns-in-Explore-clause-thread : goal.returns-in-Explore-clause-thread
returns-in-Explore-clause-thread g c =
    gives_started _ _ _ c.explore.result c.give-in-Explore.result (memory_started _ c.explore.result c.explore.ensures.fault)
    c.give-in-Explore.ensures.left
