-- Pulse by pulse the lines judge what the report judges.
use Rattle.std.proofs.Common.{◌≡◌, ℕ, ◌+◌, List, [], ◌∷◌, map, ap, refl, ◌∙◌}
use Rattle.std.specs.Prelude.{Bool, true, false, Option, Some, None, if◌then◌else◌}
use Rattle.bench_core.specs.Told.{PulseTold}
use Rattle.bench_core.specs.Setup.{Setup}
use Rattle.bench_core.specs.State.{State, new_state, staged_state}
use Rattle.bench_workers.specs.Events.{Event, Stage}
use Rattle.bench_workers.specs.Events.{Pulse as PulseEvent}
use Rattle.bench_workers.specs.Watching.{Seen, Shows}
use Rattle.scenario_text.specs.Views.{is_judged, is_strict}
use Rattle.scenario_text.specs.declared.scenario.Frame.{Frame}
use Rattle.bench_scenario.specs.Verdicts.{judged_after, judged_by, judged_plainly, settled_before}
use Rattle.run_lines.specs.Laws.{AreOfReport}

judged_each : (own : Bool) (modulus : ℕ) (s : Setup) (b : State) (n : ℕ) (earlier : Option PulseTold)
    (es : List Event) (xs : List Seen) (last : State) → Shows s b n earlier es xs last
    → map (λ x. judged_by own modulus (settled_before x.earlier) x.told) xs
    ≡ judged_after own modulus (settled_before earlier) (map (λ x. x.told) xs)
judged_each own modulus s b n earlier [] xs last shows = rw shows.0 refl
judged_each own modulus s b n earlier (Stage c ∷ es) xs last shows =
    judged_each own modulus s (staged_state b c) (n + 1) earlier es xs last shows.2
judged_each own modulus s b n earlier (PulseEvent coins ∷ es) [] last shows = absurd shows
judged_each own modulus s b n earlier (PulseEvent coins ∷ es) (x ∷ xs) last shows =
    let seen = shows.2 in
    let more = judged_each own modulus s x.after (n + 2) (Some x.told) es xs last shows.3 in
    ap (λ e. judged_by own modulus (settled_before e) x.told
    ∷ map (λ y. judged_by own modulus (settled_before y.earlier) y.told) xs) seen.last
    ∙ ap (λ js. judged_by own modulus (settled_before earlier) x.told ∷ js) more

plain_each : (xs : List Seen) → map (λ x. judged_plainly x.told) xs ≡ map judged_plainly (map (λ x. x.told) xs)
plain_each [] = refl
plain_each (x ∷ xs) = ap (λ js. judged_plainly x.told ∷ js) (plain_each xs)

either_each : (b own : Bool) (modulus : ℕ) (s : Setup) (es : List Event) (xs : List Seen) (last : State)
    → Shows s (new_state s) 0 None es xs last
    → map (λ x. if b then judged_by own modulus (settled_before x.earlier) x.told else judged_plainly x.told) xs
    ≡ (if b then judged_after own modulus [] (map (λ x. x.told) xs) else map judged_plainly (map (λ x. x.told) xs))
either_each true own modulus s es xs last shows =
    judged_each own modulus s (new_state s) 0 None es xs last shows
either_each false own modulus s es xs last shows = plain_each xs

pub judges_as_the_report : (f : Frame) (own : Bool) (s : Setup) (es : List Event) (xs : List Seen) (b : State)
    → Shows s (new_state s) 0 None es xs b → AreOfReport f own xs
judges_as_the_report f own s es xs b shows = either_each (is_judged f.version) (is_strict f own) f.modulus s es xs b shows
