-- The run of a scenario that was read is that of its bench.
use Rattle.std.proofs.Common.{◌≡◌, ℕ, List, arith, refl, subst}
use Rattle.std.specs.Prelude.{◌≢◌}
use Rattle.std.proofs.lemmas.List.{length-map}
use Rattle.bench_core.specs.Setup.{Setup}
use Rattle.bench_core.specs.Told.{PulseTold}
use Rattle.bench_workers.specs.Events.{Event}
use Rattle.bench_workers.specs.declared.event.RunRefusal.{RunRefusal}
use Rattle.bench_workers.specs.declared.event.RunRefusal.TheVariants as refusals
use Rattle.bench_workers.specs.Runs.{IsEventFault, IsRun}
use Rattle.scenario_text.specs.declared.scenario.Scenario.{Scenario}
use Rattle.scenario_text.specs.Texts.{ReadsText}
use Rattle.scenario_text.specs.Views.{corrupt_of}
use Rattle.bench_scenario.specs.Coins.{keyed}
use Rattle.bench_scenario.specs.Events.{events_of}
use Rattle.bench_scenario.specs.Runs.{IsMemoryOrThread, bench_of}
use Rattle.bench_scenario.proofs.FitLemmas.{none_refused}
use Rattle.bench_scenario.proofs.CountLemmas.{entries_within}
use Rattle.bench_scenario.proofs.EventLemmas.{events_fit, keyed_fit}

pub run_met : (s : Scenario) (bench : Setup) (es : List Event) (records : List PulseTold) (left : List (List ℕ))
    → bench ≡ bench_of s → es ≡ events_of s → IsRun bench es records left
    → IsRun (bench_of s) (events_of s) records left
run_met s bench es records left same listed run =
    subst (λ e. IsRun (bench_of s) e records left) listed (subst (λ b. IsRun b es records left) same run)

pub fault_met : (s : Scenario) (bench : Setup) (es : List Event) (place : ℕ) (refusal : RunRefusal)
    → bench ≡ bench_of s → es ≡ events_of s → IsEventFault bench es place refusal
    → IsEventFault (bench_of s) (events_of s) place refusal
fault_met s bench es place refusal same listed fault =
    subst (λ e. IsEventFault (bench_of s) e place refusal) listed (subst (λ b. IsEventFault b es place refusal) same fault)

pub fault_due : (text : List ℕ) (s : Scenario) (place : ℕ) (refusal : RunRefusal) → ReadsText text s
    → IsEventFault (bench_of s) (events_of s) place refusal → refusal ≢ refusals.GateShut → IsMemoryOrThread refusal
fault_due text s place refusal reads fault ungated =
    let changes = reads.2.spelled.changes in
    let pulses = reads.2.spelled.frame.pulses.2 in
    let noise = reads.2.spelled.noise.few in
    let within = entries_within s in
    none_refused (bench_of s) (events_of s) place refusal (events_fit text s reads)
    (omega (arith, length-map s.corruptions.items corrupt_of)) ungated fault

-- with any key a run is that of its bench, and only memory can be wanting where no thread is
pub keyed_met : (s : Scenario) (key : ℕ) (bench : Setup) (es : List Event) (records : List PulseTold)
    (left : List (List ℕ)) → bench ≡ bench_of s → es ≡ events_of (keyed s key) → IsRun bench es records left
    → IsRun (bench_of s) (events_of (keyed s key)) records left
keyed_met s key bench es records left same listed run =
    subst (λ e. IsRun (bench_of s) e records left) listed (subst (λ b. IsRun b es records left) same run)

pub keyed_due : (text : List ℕ) (s : Scenario) (key : ℕ) (bench : Setup) (es : List Event) (place : ℕ)
    (refusal : RunRefusal) → ReadsText text s → bench ≡ bench_of s → es ≡ events_of (keyed s key)
    → IsEventFault bench es place refusal → refusal ≢ refusals.GateShut → IsMemoryOrThread refusal
keyed_due text s key bench es place refusal reads same listed fault ungated =
    let changes = reads.2.spelled.changes in
    let pulses = reads.2.spelled.frame.pulses.2 in
    let noise = reads.2.spelled.noise.few in
    let within = entries_within (keyed s key) in
    none_refused (bench_of s) (events_of (keyed s key)) place refusal (keyed_fit text s key reads)
    (omega (arith, length-map s.corruptions.items corrupt_of)) ungated
    (subst (λ e. IsEventFault (bench_of s) e place refusal) listed (subst (λ b. IsEventFault b es place refusal) same fault))

pub is_memory : (refusal : RunRefusal) → IsMemoryOrThread refusal → refusal ≢ refusals.NoThread
    → refusal ≡ refusals.Memory
is_memory refusals.BadNode due alone = absurd due
is_memory refusals.OtherShape due alone = absurd due
is_memory refusals.BadImage due alone = absurd due
is_memory refusals.HistoryFull due alone = absurd due
is_memory refusals.Memory due alone = refl
is_memory refusals.BadCoins due alone = absurd due
is_memory refusals.NoThread due alone = absurd (alone refl)
is_memory refusals.GateShut due alone = absurd due
