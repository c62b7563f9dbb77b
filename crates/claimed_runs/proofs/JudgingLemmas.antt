-- Pulses, one after the other.
use Rattle.std.proofs.Common.{◌≡◌, ℕ, List, [], ◌∷◌, ◌++◌, map, ap, sym, ◌∙◌, append_assoc, append-nil}
use Rattle.std.specs.Prelude.{is_some}
use Rattle.bench_core.specs.Told.{PulseTold}
use Rattle.bench_workers.specs.Runs.{IsRun}
use Rattle.bench_workers.specs.Watching.{Seen, Watched, Watches}
use Rattle.rule_syntax.specs.declared.syntax.Sizes.{Sizes}
use Rattle.scenario_text.specs.declared.scenario.Scenario.{Scenario}
use Rattle.scenario_text.specs.Views.{frame_of}
use Rattle.bench_scenario.specs.Events.{events_of}
use Rattle.bench_scenario.specs.Reports.{all_agree}
use Rattle.bench_scenario.specs.Runs.{bench_of}
use Rattle.properties.specs.declared.property.Property.{Property}
use Rattle.properties.specs.Claims.{ClaimedPulse, claimed_in}
use Rattle.properties.specs.Texts.{all_hold}
use Rattle.claimed_runs.specs.declared.judged.ClaimsForm.{ClaimsForm}
use Rattle.claimed_runs.specs.declared.report.ClaimsReport.{ClaimsReport}
use Rattle.claimed_runs.specs.declared.watcher.ClaimsWatcher.{ClaimsWatcher}
use Rattle.claimed_runs.specs.Claims.{claimed_after, claimed_pulse, memories_after, scenario_sizes}
use Rattle.claimed_runs.specs.Runs.{IsJudgedRun, ReportsClaims, claimed_of, judged_run_text}
use Rattle.claimed_runs.specs.Views.{memory_lists}
use Rattle.claimed_runs.specs.inner.Judging.{JudgesPulse}

abbrev pub Tells : {S : Type 0} → ClaimsWatcher → S → Seen → ClaimsWatcher → S → Type 0
Tells k o x k' o' = JudgesPulse k x k'

-- what follows the pulses that were judged so far
abbrev judged_with : List ClaimedPulse → List Property → Sizes → List (List ℕ) → List Seen → List ClaimedPulse
judged_with done ps z before xs = done ++ claimed_after ps z before xs

judged_more : (done new : List ClaimedPulse) (ps : List Property) (z : Sizes) (before left : List (List ℕ)) (x : Seen)
    (xs : List Seen) → new ≡ done ++ claimed_pulse ps z before x ∷ [] → left ≡ memories_after x
    → judged_with new ps z left xs ≡ judged_with done ps z before (x ∷ xs)
judged_more done new ps z before left x xs one kept =
    ap (λ (t : List (List ℕ)). new ++ claimed_after ps z t xs) kept
    ∙ (ap (λ (t : List ClaimedPulse). t ++ claimed_after ps z (memories_after x) xs) one
    ∙ append_assoc done (claimed_pulse ps z before x ∷ []) (claimed_after ps z (memories_after x) xs))

-- all pulses that the watcher was shown are judged
judged_all : {S : Type 0} (k k' : ClaimsWatcher) (o o' : S) (ps : List Property) (z : Sizes) (xs : List Seen)
    → k.properties.now ≡ ps → k.sizes ≡ z → Watches Tells k o xs k' o'
    → claimed_in k'.pulses.items ≡ judged_with (claimed_in k.pulses.items) ps z (memory_lists k.before.items) xs
judged_all k k' o o' ps z [] same sized watches =
    ap (λ (w : ClaimsWatcher). claimed_in w.pulses.items) watches.0 ∙ sym (append-nil (claimed_in k.pulses.items))
judged_all k k' o o' ps z (x ∷ xs) same sized watches =
    let k1 = watches.0 in
    let tells = watches.2 in
    let one : claimed_in k1.pulses.items
    ≡ claimed_in k.pulses.items ++ claimed_pulse ps z (memory_lists k.before.items) x ∷ [] =
    tells.pulses ∙ (ap (λ (qs : List Property). claimed_in k.pulses.items
    ++ claimed_pulse qs k.sizes (memory_lists k.before.items) x ∷ []) same
    ∙ ap (λ (y : Sizes). claimed_in k.pulses.items ++ claimed_pulse ps y (memory_lists k.before.items) x ∷ [])
    sized) in
    judged_all k1 k' watches.1 o' ps z xs (tells.properties ∙ same) (tells.sizes ∙ sized) watches.3
    ∙ judged_more (claimed_in k.pulses.items) (claimed_in k1.pulses.items) ps z (memory_lists k.before.items)
    (memory_lists k1.before.items) x xs one tells.before

-- the run of a scenario, and all that its watcher judged
pub judged : {S : Type 0} (s : Scenario) (ps : List Property) (k k' : ClaimsWatcher) (o o' : S) (rs : List PulseTold)
    (memories : List (List ℕ)) → k.properties.now ≡ ps → k.sizes ≡ scenario_sizes (frame_of s)
    → k.before.items ≡ [] → k.pulses.items ≡ [] → IsRun (bench_of s) (events_of s) rs memories
    → (xs : List Seen) × (rs ≡ map (λ x. x.told) xs) × Watched Tells (bench_of s) (events_of s) k o xs k' o'
    → IsJudgedRun s ps rs (claimed_in k'.pulses.items)
judged s ps k k' o o' rs memories same sized fresh none run watched =
    let xs = watched.0 in
    let shown = watched.2 in
    let z = scenario_sizes (frame_of s) in
    let all : claimed_in k'.pulses.items ≡ claimed_of s ps xs =
    judged_all k k' o o' ps z xs same sized shown.watches
    ∙ (ap (λ t. claimed_in t ++ claimed_after ps z (memory_lists k.before.items) xs) none
    ∙ ap (λ t. claimed_after ps z (memory_lists t) xs) fresh) in
    record {
      seen = xs;
      last = shown.last;
      memories = memories;
      shown = shown.shows;
      told = watched.1;
      run = run;
      judged = all;
    }

-- the text of a run that was judged
pub reports : (form : ClaimsForm) (s : Scenario) (ps : List Property) (rs : List PulseTold)
    (pulses : List ClaimedPulse) (text : List ℕ) (says : ClaimsReport) → IsJudgedRun s ps rs pulses
    → text ≡ judged_run_text form s ps rs pulses → says.agrees ≡ all_agree (frame_of s) (is_some s.clock) rs
    → says.holds ≡ all_hold ps pulses → ReportsClaims form s ps text says
reports form s ps rs pulses text says run whole agrees holds = record {
  records = rs;
  pulses = pulses;
  run = run;
  whole = whole;
  agrees = agrees;
  holds = holds;
}
