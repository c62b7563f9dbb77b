-- Lines one after the other.
use Rattle.std.proofs.Common.{◌≡◌, ℕ, zero, suc, ◌+◌, inl, inr, List, [], ◌∷◌, ◌++◌, length, map, take, Ok, Err, arith, refl, ap, sym, subst, ◌∙◌, append_assoc, append-nil}
use Rattle.std.specs.Prelude.{if◌then◌else◌, Bool, false, is_some, IfSome, IsErrAnd, Option, None, Some, Result}
use Rattle.std.proofs.KnownBytes.{Appends-kept}
use Rattle.std.proofs.lemmas.List.{flat_map_more, map-append, take_all}
use Rattle.bench_core.specs.Setup.{Setup}
use Rattle.bench_core.specs.State.{State, new_state, staged_state}
use Rattle.bench_core.specs.Told.{PulseTold}
use Rattle.bench_workers.specs.Events.{Event, Stage}
use Rattle.bench_workers.specs.Events.{Pulse as PulseEvent}
use Rattle.bench_workers.specs.Runs.{IsRun}
use Rattle.bench_workers.specs.Watching.{Seen, Shows, StoppedAt, Watched, Watches}
use Rattle.scenario_text.specs.declared.scenario.Scenario.{Scenario}
use Rattle.scenario_text.specs.Views.{frame_of}
use Rattle.bench_scenario.specs.Events.{events_of}
use Rattle.bench_scenario.specs.Reports.{all_agree}
use Rattle.bench_scenario.specs.Runs.{bench_of}
use Rattle.bench_scenario.specs.Verdicts.{judged_of}
use Rattle.bench_scenario.specs.Watching.{ScenarioEndsAt, WatchedHasThreads}
use Rattle.bench_scenario.specs.declared.verdicts.Judged.{Judged}
use Rattle.bench_scenario.specs.declared.watched.WatchedFault.{WatchedFault}
use Rattle.bench_scenario.specs.declared.watched.WatchedFault.TheVariants as watched
use Rattle.stream_io.specs.declared.parts.PartFault.{PartFault}
use Rattle.stream_io.specs.declared.parts.PartFault.TheVariants as parts
use Rattle.stream_io.specs.Parts.{Adds, IsPartFault, Wrote}
use Rattle.stream_io.proofs.PartLemmas.{adds_nothing, handed_on, wrote_nothing}
use Rattle.run_lines.specs.declared.fault.LinesFault.{LinesFault}
use Rattle.run_lines.specs.declared.fault.LinesFault.TheVariants as faults
use Rattle.run_lines.specs.declared.writer.LineWriter.{LineWriter}
use Rattle.run_lines.specs.Data.{judged_seen}
use Rattle.run_lines.specs.Lines.{first_line, front_text, summary_line, line_within, told_line, whole_text}
use Rattle.parameters.specs.declared.lines.LinesForm.{LinesForm}
use Rattle.parameters.specs.Pulses.{is_within}
use Rattle.run_lines.specs.Telling.{AreShown, HasLinesCause, IsFrontText, IsWholeText, LeavesFront, LeavesLines, LinesHaveThreads}
use Rattle.run_lines.proofs.JudgingLaws.{judges_as_the_report}
use Rattle.run_lines.specs.inner.Writing.{IsEndOfLines, IsReason, KeepsReason, TellsPulse}

-- ---- pulses

-- the pulses but the last are shown by fewer events
shows_fewer : (s : Setup) (b b' : State) (n : ℕ) (earlier : Option PulseTold) (es : List Event) (xs : List Seen)
    (x : Seen) → Shows s b n earlier es (xs ++ x ∷ []) b'
    → (m : ℕ) × (mid : State) × Shows s b n earlier (take m es) xs mid
shows_fewer s b b' n earlier [] [] x shows = let none = shows.0 in absurd cc
shows_fewer s b b' n earlier [] (y ∷ xs) x shows = let none = shows.0 in absurd cc
shows_fewer s b b' n earlier (Stage c ∷ es) xs x shows =
    let fewer = shows_fewer s (staged_state b c) b' (n + 1) earlier es xs x shows.2 in
    (suc fewer.0, fewer.1, (shows.0, shows.1, fewer.2))
shows_fewer s b b' n earlier (PulseEvent coins ∷ es) [] x shows = (0, b, (refl, refl))
shows_fewer s b b' n earlier (PulseEvent coins ∷ es) (y ∷ xs) x shows =
    let fewer = shows_fewer s y.after b' (n + 2) (Some y.told) es xs x shows.3 in
    (suc fewer.0, fewer.1, (shows.0, shows.1, shows.2, fewer.2))

take_twice : {A : Type 0} (m k : ℕ) (es : List A) → (j : ℕ) × (take m (take k es) ≡ take j es)
take_twice zero k es = (0, refl)
take_twice (suc m) zero es = (0, refl)
take_twice (suc m) (suc k) [] = (0, refl)
take_twice (suc m) (suc k) (e ∷ es) = let less = take_twice m k es in (suc less.0, ap (λ t. e ∷ t) less.1)

-- the pulses before the last are shown by a front of the events
shown_before : (s : Scenario) (k : ℕ) (xs : List Seen) (x : Seen) → AreShown s (take k (events_of s)) (xs ++ x ∷ [])
    → (j : ℕ) × AreShown s (take j (events_of s)) xs
shown_before s k xs x shown =
    let fewer = shows_fewer (bench_of s) (new_state (bench_of s)) shown.0 0 None (take k (events_of s)) xs x shown.1 in
    let less = take_twice fewer.0 k (events_of s) in
    (less.0, (fewer.1, subst (λ es. Shows (bench_of s) (new_state (bench_of s)) 0 None es xs fewer.1) less.1 fewer.2))

-- ---- the watcher

-- what is judged of pulses of the scenario
abbrev pub judged_all : Scenario → List Seen → List Judged
judged_all s seen = map (judged_seen (frame_of s) (is_some s.clock)) seen

-- the pulses up to some one are judged, and their lines are written
pub record Stands {S : Type 0} (contents : S → Option (List ℕ)) (old : Option (List ℕ)) (s : Scenario) (form : LinesForm)
    (seen : List Seen) (k : LineWriter) (o : S) : Type 0 where
  pub scenario : k.scenario.now ≡ s
  pub within : k.form ≡ form
  pub judged : k.judged.items ≡ judged_all s seen
  pub wrote : Wrote old (contents o) (front_text s form seen) k.written

line_same : (s t : Scenario) (p q : LinesForm) (x : Seen) → s ≡ t → p ≡ q → line_within s p x ≡ line_within t q x
line_same s t p q x same as_well = ap (λ u. line_within u p x) same ∙ ap (λ r. line_within t r x) as_well

stands_one : {S : Type 0} (contents : S → Option (List ℕ)) (old : Option (List ℕ)) (s : Scenario) (form : LinesForm)
    (seen : List Seen) (x : Seen) (k k1 : LineWriter) (o o1 : S) → Stands contents old s form seen k o
    → TellsPulse contents k o x k1 o1 → Stands contents old s form (seen ++ x ∷ []) k1 o1
stands_one contents old s form seen x k k1 o o1 stands tells =
    let line = line_same k.scenario.now s k.form form x stands.scenario stands.within in
    record {
      scenario = tells.same.scenario ∙ stands.scenario;
      within = tells.same.form ∙ stands.within;
      judged = tells.judged ∙ (ap (λ js. js ++ judged_all k.scenario.now (x ∷ [])) stands.judged
          ∙ (ap (λ (u : Scenario). judged_all s seen ++ judged_all u (x ∷ [])) stands.scenario
          ∙ sym (map-append (judged_seen (frame_of s) (is_some s.clock)) seen (x ∷ []))));
      wrote =
          subst (λ t. Wrote old (contents o1) t k1.written) (flat_map_more (line_within s form) (first_line form.format s) seen x)
          (subst (λ t. Adds (contents o) (contents o1) k.written t k1.written) line tells.adds old
          (front_text s form seen) stands.wrote);
    }

stands_all : {S : Type 0} (contents : S → Option (List ℕ)) (old : Option (List ℕ)) (s : Scenario) (form : LinesForm)
    (seen xs : List Seen) (k k' : LineWriter) (o o' : S) → Stands contents old s form seen k o
    → Watches (TellsPulse contents) k o xs k' o' → Stands contents old s form (seen ++ xs) k' o'
stands_all {S} contents old s form seen [] k k' o o' stands watches =
    subst (λ (w : LineWriter). Stands contents old s form (seen ++ []) w o') (sym watches.0)
    (subst (λ (y : S). Stands contents old s form (seen ++ []) k y) (sym watches.1)
    (subst (λ (xs : List Seen). Stands contents old s form xs k o) (sym (append-nil seen)) stands))
stands_all contents old s form seen (x ∷ xs) k k' o o' stands watches =
    let one = stands_one contents old s form seen x k watches.0 o watches.1 stands watches.2 in
    subst (λ (ys : List Seen). Stands contents old s form ys k' o') (append_assoc seen (x ∷ []) xs)
    (stands_all contents old s form (seen ++ x ∷ []) xs watches.0 k' watches.1 o' one watches.3)

-- ---- how it ends

no_pulse : (s : Scenario) (form : LinesForm) → IsFrontText s form 0 (first_line form.format s)
no_pulse s form = record {
  seen = [];
  shown = (new_state (bench_of s), (refl, refl));
  text = sym (append-nil (first_line form.format s));
}

first_broken : (old new : Option (List ℕ)) (s : Scenario) (form : LinesForm) (fault : PartFault)
    → IsPartFault old new 0 (first_line form.format s) fault → LeavesLines old new s form (Err (faults.Part fault))
first_broken old new s form (parts.Write written) broke =
    (first_line form.format s, inl (0, no_pulse s form), broke old [] (wrote_nothing old))
first_broken old new s form parts.Memory kept = inl kept

-- the first line isn't written
pub first_fault : (old new : Option (List ℕ)) (s : Scenario) (form : LinesForm) (fault : PartFault)
    (result : Result Bool LinesFault) → IsPartFault old new 0 (first_line form.format s) fault
    → IsErrAnd result (λ e. e ≡ faults.Part fault) → LeavesLines old new s form result
first_fault old new s form fault result broken given =
    handed_on (LeavesLines old new s form) (faults.Part fault) result (first_broken old new s form fault broken) given

-- it is, and the watcher begins
pub begins : {S : Type 0} (contents : S → Option (List ℕ)) (old : Option (List ℕ)) (s : Scenario) (form : LinesForm) (n : ℕ)
    (k : LineWriter) (o : S) → Adds old (contents o) 0 (first_line form.format s) n → k.scenario.now ≡ s → k.form ≡ form
    → k.judged.items ≡ [] → k.written ≡ n → Stands contents old s form [] k o
unfolding no_pulse
begins contents old s form n k o adds same as_well none number = record {
  scenario = same;
  within = as_well;
  judged = none;
  wrote = subst (λ t. Wrote old (contents o) t k.written) (no_pulse s form).text
      (subst (λ m. Wrote old (contents o) (first_line form.format s) m) (sym number) (adds old [] (wrote_nothing old)));
}

front_left : {S : Type 0} (contents : S → Option (List ℕ)) (old : Option (List ℕ)) (s : Scenario) (form : LinesForm)
    (seen : List Seen) (events : ℕ) (k : LineWriter) (o : S) → Stands contents old s form seen k o
    → AreShown s (take events (events_of s)) seen → LeavesFront old (contents o) s form events
front_left contents old s form seen events k o stands shown = record {
  told = front_text s form seen;
  front = record { seen = seen; shown = shown; text = refl };
  left = stands.wrote.left;
}

line_broken : {S : Type 0} (contents : S → Option (List ℕ)) (old new : Option (List ℕ)) (s : Scenario) (form : LinesForm)
    (seen : List Seen) (x : Seen) (event : ℕ) (k : LineWriter) (o : S) (fault : PartFault)
    → Stands contents old s form seen k o → AreShown s (take (event + 1) (events_of s)) (seen ++ x ∷ [])
    → IsPartFault (contents o) new k.written (line_within s form x) fault
    → LeavesLines old new s form (Err (faults.Part fault))
line_broken contents old new s form seen x event k o (parts.Write written) stands shown broke =
    let front : IsFrontText s form (event + 1) (front_text s form seen ++ line_within s form x) = record {
      seen = seen ++ x ∷ [];
      shown = shown;
      text = flat_map_more (line_within s form) (first_line form.format s) seen x;
    } in (
      front_text s form seen ++ line_within s form x,
      inl (event + 1, front),
      broke old (front_text s form seen) stands.wrote,
    )
line_broken contents old new s form seen x event k o parts.Memory stands shown kept =
    let before = shown_before s (event + 1) seen x shown in
    inr (
      before.0,
      record {
        told = front_text s form seen;
        front = record { seen = seen; shown = before.1; text = refl };
        left = Appends-kept old (contents o) new (front_text s form seen) stands.wrote.left kept;
      },
    )

line_stopped : {S : Type 0} (contents : S → Option (List ℕ)) (has_failed : S → Bool) (old : Option (List ℕ))
    (s : Scenario) (form : LinesForm) (k k' : LineWriter) (o o' : S) (event : ℕ) (fault : LinesFault)
    → Stands contents old s form [] k o
    → StoppedAt (TellsPulse contents) (KeepsReason contents has_failed) (bench_of s) (events_of s) event k o k' o'
    → IfSome k'.stopped (λ why. fault ≡ faults.Part why) → LeavesLines old (contents o') s form (Err fault)
line_stopped contents has_failed old s form k k' o o' event fault stands ends told =
    let now = stands_all contents old s form [] ends.before k ends.k1 o ends.o1 stands ends.watches in
    let same : fault ≡ faults.Part ends.stops.fault =
    subst (λ kept. IfSome kept (λ f. fault ≡ faults.Part f)) ends.stops.kept told in
    let line = line_same ends.k1.scenario.now s ends.k1.form form ends.here now.scenario now.within in
    let broken = subst (λ t. IsPartFault (contents ends.o1) (contents o') ends.k1.written t ends.stops.fault) line
    ends.stops.why in
    subst (λ f. LeavesLines old (contents o') s form (Err f)) (sym same)
    (line_broken contents old (contents o') s form ends.before ends.here event ends.k1 ends.o1 ends.stops.fault now
    (ends.last, ends.shows) broken)

-- no pulse was run; the run stopped at an event; or the watcher stopped it
pub ends_early : {S : Type 0} (contents : S → Option (List ℕ)) (has_failed : S → Bool) (old : Option (List ℕ))
    (s : Scenario) (form : LinesForm) (k k' : LineWriter) (o o' : S) (end : WatchedFault) (fault : LinesFault)
    → Stands contents old s form [] k o
    → ScenarioEndsAt (TellsPulse contents) (KeepsReason contents has_failed) s k o k' o' end
    → IsReason k'.stopped end fault → LeavesLines old (contents o') s form (Err fault)
unfolding no_pulse
ends_early {S} contents has_failed old s form k k' o o' watched.Memory fault stands ends reason =
    subst (λ f. LeavesLines old (contents o') s form (Err f)) (sym reason)
    (inr (
      0,
      subst (λ (y : S). LeavesFront old (contents y) s form 0) (sym ends.1)
          (front_left contents old s form [] 0 k o stands (no_pulse s form).shown),
    ))
ends_early contents has_failed old s form k k' o o' (watched.Run stop) fault stands ends reason =
    let xs = ends.2.0 in
    let shown = ends.2.1 in
    subst (λ f. LeavesLines old (contents o') s form (Err f)) (sym reason) (
      ends.0,
      ends.1,
      front_left contents old s form xs stop.event k' o'
          (stands_all contents old s form [] xs k k' o o' stands shown.watches) (shown.last, shown.shows),
    )
ends_early contents has_failed old s form k k' o o' (watched.Stopped event) fault stands ends reason =
    line_stopped contents has_failed old s form k k' o o' event fault stands ends reason

-- a write that failed is the cause if the watcher stopped it for that
pub caused_early : {S : Type 0} (contents : S → Option (List ℕ)) (has_failed : S → Bool) (s : Scenario)
    (k k' : LineWriter) (o o' : S) (end : WatchedFault) (fault : LinesFault)
    → ScenarioEndsAt (TellsPulse contents) (KeepsReason contents has_failed) s k o k' o' end
    → IsReason k'.stopped end fault → HasLinesCause (has_failed o') fault
caused_early contents has_failed s k k' o o' watched.Memory fault ends reason =
    subst (HasLinesCause (has_failed o')) (sym reason) tt
caused_early contents has_failed s k k' o o' (watched.Run stop) fault ends reason =
    subst (HasLinesCause (has_failed o')) (sym reason) tt
caused_early contents has_failed s k k' o o' (watched.Stopped event) fault ends reason =
    let same : fault ≡ faults.Part ends.stops.fault =
    subst (λ kept. IfSome kept (λ f. fault ≡ faults.Part f)) ends.stops.kept reason in
    subst (HasLinesCause (has_failed o')) (sym same) ends.stops.cause

-- the run didn't stop for lack of a thread, and the watcher stops it for another reason
pub threads_early : {S : Type 0} (contents : S → Option (List ℕ)) (has_failed : S → Bool) (s : Scenario)
    (k k' : LineWriter) (o o' : S) (end : WatchedFault) (fault : LinesFault)
    → ScenarioEndsAt (TellsPulse contents) (KeepsReason contents has_failed) s k o k' o' end
    → IsReason k'.stopped end fault → WatchedHasThreads end → LinesHaveThreads fault
threads_early contents has_failed s k k' o o' watched.Memory fault ends reason started =
    subst LinesHaveThreads (sym reason) tt
threads_early contents has_failed s k k' o o' (watched.Run stop) fault ends reason started =
    subst LinesHaveThreads (sym reason) started
threads_early contents has_failed s k k' o o' (watched.Stopped event) fault ends reason started =
    let same : fault ≡ faults.Part ends.stops.fault =
    subst (λ kept. IfSome kept (λ f. fault ≡ faults.Part f)) ends.stops.kept reason in
    subst LinesHaveThreads (sym same) tt

-- ---- the last line

-- what came of the last line is what comes of the run
abbrev pub in_run : Result Bool PartFault → Result Bool LinesFault
in_run (Ok agrees) = Ok agrees
in_run (Err fault) = Err (faults.Part fault)

-- all pulses were shown
ended : {S : Type 0} (contents : S → Option (List ℕ)) (old new : Option (List ℕ)) (s : Scenario) (form : LinesForm)
    (xs : List Seen) (memories : List (List ℕ)) (k : LineWriter) (o : S) (result : Result Bool PartFault)
    → Stands contents old s form xs k o → AreShown s (events_of s) xs
    → IsRun (bench_of s) (events_of s) (map (λ x. x.told) xs) memories
    → IsEndOfLines (contents o) new s form.format k.written (map (λ x. x.told) xs) result
    → LeavesLines old new s form (in_run result)
ended contents old new s form xs memories k o (Ok agrees) stands shown run end =
    let m = end.1.0 in (
      whole_text s form xs m,
      record {
        seen = xs;
        summary = m;
        memories = memories;
        shown = shown;
        run = run;
        summed = end.1.2;
        verdict = end.0;
        text = refl;
      },
      (end.1.3 old (front_text s form xs) stands.wrote).left,
    )
ended contents old new s form xs memories k o (Err (parts.Write written)) stands shown run end =
    let agrees = all_agree (frame_of s) (is_some s.clock) (map (λ x. x.told) xs) in
    let whole : IsWholeText s form (front_text s form xs ++ summary_line form.format end.0) agrees = record {
      seen = xs;
      summary = end.0;
      memories = memories;
      shown = shown;
      run = run;
      summed = end.1;
      verdict = refl;
      text = refl;
    } in (
      front_text s form xs ++ summary_line form.format end.0,
      inr (agrees, whole),
      end.2 old (front_text s form xs) stands.wrote,
    )
ended contents old new s form xs memories k o (Err parts.Memory) stands shown run end =
    let es = events_of s in
    let all : take (length es) es ≡ es = take_all (length es) es (omega arith) in
    inr (
      length es,
      record {
        told = front_text s form xs;
        front = record {
          seen = xs;
          shown = (
            shown.0,
            subst (λ fs. Shows (bench_of s) (new_state (bench_of s)) 0 None fs xs shown.0) (sym all) shown.1,
          );
          text = refl;
        };
        left = Appends-kept old (contents o) new (front_text s form xs) stands.wrote.left end.2;
      },
    )

pub ends_whole : {S : Type 0} (contents : S → Option (List ℕ)) (old new : Option (List ℕ)) (s : Scenario) (form : LinesForm)
    (rs : List PulseTold) (memories : List (List ℕ)) (k k' : LineWriter) (o o' : S)
    (result : Result Bool PartFault) → Stands contents old s form [] k o
    → IsRun (bench_of s) (events_of s) rs memories
    → (xs : List Seen) × (rs ≡ map (λ x. x.told) xs) × Watched (TellsPulse contents) (bench_of s) (events_of s) k o xs k' o'
    → IsEndOfLines (contents o') new k'.scenario.now k'.form.format k'.written rs result
    → LeavesLines old new s form (in_run result)
ends_whole contents old new s form rs memories k k' o o' result stands run shown end =
    let xs = shown.0 in
    let now = stands_all contents old s form [] xs k k' o o' stands shown.2.watches in
    ended contents old new s form xs memories k' o' result now (shown.2.last, shown.2.shows)
    (subst (λ ts. IsRun (bench_of s) (events_of s) ts memories) shown.1 run)
    (subst (λ ts. IsEndOfLines (contents o') new s form.format k'.written ts result) shown.1
    (subst (λ (u : Scenario). IsEndOfLines (contents o') new u form.format k'.written rs result) now.scenario
    (subst (λ (f : LinesForm). IsEndOfLines (contents o') new k'.scenario.now f.format k'.written rs result) now.within
    end)))

-- what the watcher judged is what the report judges
pub all_judged : {S : Type 0} (contents : S → Option (List ℕ)) (old : Option (List ℕ)) (s : Scenario) (form : LinesForm)
    (rs : List PulseTold) (k k' : LineWriter) (o o' : S) → Stands contents old s form [] k o
    → (xs : List Seen) × (rs ≡ map (λ x. x.told) xs) × Watched (TellsPulse contents) (bench_of s) (events_of s) k o xs k' o'
    → k'.judged.items ≡ judged_of (frame_of k'.scenario.now) (is_some k'.scenario.now.clock) rs
all_judged contents old s form rs k k' o o' stands shown =
    let xs = shown.0 in
    let now = stands_all contents old s form [] xs k k' o o' stands shown.2.watches in
    let own = is_some s.clock in
    now.judged ∙ (judges_as_the_report (frame_of s) own (bench_of s) (events_of s) xs shown.2.last shown.2.shows
    ∙ (ap (judged_of (frame_of s) own) (sym shown.1)
    ∙ ap (λ (u : Scenario). judged_of (frame_of u) (is_some u.clock) rs) (sym now.scenario)))

-- ---- one pulse

-- outside the span it has no line
pub none_told : (s : Scenario) (form : LinesForm) (x : Seen) (known : Option (List ℕ)) (n : ℕ)
    → is_within form.span x.told.row.pulse ≡ false → Adds known known n (line_within s form x) n
none_told s form x known n out =
    let none : line_within s form x ≡ [] = ap (λ b. if b then told_line form.format s x else []) out in
    subst (λ t. Adds known known n t n) (sym none) (adds_nothing known n)
