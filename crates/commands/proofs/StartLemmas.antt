-- `fault thread` doesn't come of commands that start no threads, or none that they need.
use Rattle.std.proofs.Common.{Bool, List, ℕ, Option, inl, inr}
use Rattle.std.specs.Prelude.{IfErr, Result, Ok, Err}
use Rattle.command_answers.specs.declared.ending.Ending.{Ending}
use Rattle.command_answers.specs.declared.fault.Fault.{Fault}
use Rattle.command_answers.specs.declared.fault.Fault.TheVariants.{Read, Write, Memory, Thread, CommandLine}
use Rattle.command_answers.specs.Faults.{HasThreadCause}
use Rattle.parameters.specs.Keys.{KeyRange}
use Rattle.program_commands.specs.Exec.{LeavesExec}
use Rattle.requests.specs.declared.request.ClaimedExploreOptions.{ClaimedExploreOptions}
use Rattle.requests.specs.declared.request.ClaimedSweepOptions.{ClaimedSweepOptions}
use Rattle.requests.specs.declared.request.ExecOptions.{ExecOptions}
use Rattle.run_commands.specs.ClaimedSweep.{LeavesClaimedSweep}
use Rattle.run_commands.specs.Sweep.{LeavesSwept}
use Rattle.scenario_text.specs.declared.scenario.Scenario.{Scenario}
use Rattle.commands.specs.ClaimedExplore.{LeavesClaimedExplore}
use Rattle.commands.proofs.CauseLemmas.{no_thread_of_exec}

pub exec_started : (unstarted : Bool) (asked : ExecOptions) (bytes : List ℕ) (old new : Option (List ℕ))
    (ended : Result Ending Fault) → LeavesExec old new asked bytes ended → IfErr ended (HasThreadCause unstarted)
exec_started unstarted asked bytes old new (Ok ending) left = tt
exec_started unstarted asked bytes old new (Err Read) left = tt
exec_started unstarted asked bytes old new (Err (Write after)) left = tt
exec_started unstarted asked bytes old new (Err Memory) left = tt
exec_started unstarted asked bytes old new (Err Thread) left =
    absurd (no_thread_of_exec asked.trace asked bytes old new left)
exec_started unstarted asked bytes old new (Err (CommandLine said)) left = tt

pub sweep_started : (unstarted : Bool) (s : Scenario) (keys : KeyRange) (old new : Option (List ℕ))
    (ended : Result Ending Fault) → LeavesSwept old new s keys ended → IfErr ended (HasThreadCause unstarted)
sweep_started unstarted s keys old new (Ok ending) left = tt
sweep_started unstarted s keys old new (Err Read) left = tt
sweep_started unstarted s keys old new (Err (Write after)) left = tt
sweep_started unstarted s keys old new (Err Memory) left = tt
sweep_started unstarted s keys old new (Err Thread) (inl none) = absurd none
sweep_started unstarted s keys old new (Err Thread) (inr (no_key, none)) = absurd none
sweep_started unstarted s keys old new (Err (CommandLine said)) left = tt

pub claimed_sweep_started : (unstarted : Bool) (s : Scenario) (asked : ClaimedSweepOptions) (old new : Option (List ℕ))
    (ended : Result Ending Fault) → LeavesClaimedSweep asked old new s ended → IfErr ended (HasThreadCause unstarted)
claimed_sweep_started unstarted s asked old new (Ok ending) left = tt
claimed_sweep_started unstarted s asked old new (Err Read) left = tt
claimed_sweep_started unstarted s asked old new (Err (Write after)) left = tt
claimed_sweep_started unstarted s asked old new (Err Memory) left = tt
claimed_sweep_started unstarted s asked old new (Err Thread) (inl (ps, bounded, inl none)) = absurd none
claimed_sweep_started unstarted s asked old new (Err Thread) (inl (ps, bounded, inr (no_key, none))) = absurd none
claimed_sweep_started unstarted s asked old new (Err Thread) (inr (error, line, column, none)) = absurd none
claimed_sweep_started unstarted s asked old new (Err (CommandLine said)) left = tt

pub claimed_explore_started : (unstarted : Bool) (s : Scenario) (asked : ClaimedExploreOptions) (old new : Option (List ℕ))
    (ended : Result Ending Fault) → LeavesClaimedExplore old new asked s ended → IfErr ended (HasThreadCause unstarted)
claimed_explore_started unstarted s asked old new (Ok ending) left = tt
claimed_explore_started unstarted s asked old new (Err Read) left = tt
claimed_explore_started unstarted s asked old new (Err (Write after)) left = tt
claimed_explore_started unstarted s asked old new (Err Memory) left = tt
claimed_explore_started unstarted s asked old new (Err Thread) (inl (ps, bounded, left)) = absurd left.0
claimed_explore_started unstarted s asked old new (Err Thread) (inr (error, line, column, none)) = absurd none
claimed_explore_started unstarted s asked old new (Err (CommandLine said)) left = tt
