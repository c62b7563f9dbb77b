-- What a report judges of closed pulses (docs/SCENARIOS.md, "Verdicts").
use Rattle.std.specs.Prelude.{ℕ, ◌+◌, ◌%◌, ◌==◌, ◌&&◌, nat_lt, if◌then◌else◌, Bool, true, List, [], ◌∷◌, map, Option, Some, None, unwrap_or}
use Rattle.std.specs.List.{list_all}
use Rattle.bench_core.specs.Told.{PulseTold}
use Rattle.scenario_text.specs.declared.scenario.Frame.{Frame}
use Rattle.scenario_text.specs.Views.{is_judged, is_strict}
use Rattle.bench_scenario.specs.declared.verdicts.TheConstants.{FEWEST}
use Rattle.bench_scenario.specs.declared.verdicts.Judged.{Judged}

-- node by node: its clock, if the node is settled
abbrev pub told_clocks : List Bool → List (Option ℕ) → List (Option ℕ)
told_clocks [] clocks = []
told_clocks (settled ∷ rest) [] = []
told_clocks (settled ∷ rest) (clock ∷ clocks) = (if settled then clock else None) ∷ told_clocks rest clocks

abbrev pub settled_in : PulseTold → List (Option ℕ)
settled_in r = told_clocks r.settled r.clocks

-- ---- agreement

abbrev pub first_clock : List (Option ℕ) → Option ℕ
first_clock [] = None
first_clock (Some clock ∷ clocks) = Some clock
first_clock (None ∷ clocks) = first_clock clocks

abbrev pub is_clock : ℕ → Option ℕ → Bool
is_clock clock (Some other) = other == clock
is_clock clock None = true

-- all are equal, and none is past the modulus
abbrev pub are_one : ℕ → List (Option ℕ) → Option ℕ → Bool
are_one modulus clocks (Some first) = nat_lt first modulus && list_all (is_clock first) clocks
are_one modulus clocks None = true

-- strictly, all settled clocks are one number below M; otherwise the record's verdict, by which 0 agrees with every
-- clock, as for the built-in clock
abbrev pub agreement : Bool → ℕ → PulseTold → Option Bool
agreement strict modulus r =
    if nat_lt r.row.settled FEWEST then None
    else if strict then Some (are_one modulus (settled_in r) (first_clock (settled_in r))) else Some r.agree

-- ---- counting

-- from one clock, below the modulus, to the next one
abbrev pub counts_on : ℕ → ℕ → ℕ → Bool
counts_on modulus before after = nat_lt before modulus && (after == (before + 1) % modulus)

-- whether a node counted, if it is settled in both pulses
abbrev pub step_of : ℕ → Option ℕ → Option ℕ → Option Bool
step_of modulus (Some before) (Some after) = Some (counts_on modulus before after)
step_of modulus (Some before) None = None
step_of modulus None after = None

-- both verdicts together: none if both are none, no if one is no, otherwise yes
abbrev pub joined_verdict : Option Bool → Option Bool → Option Bool
joined_verdict None other = other
joined_verdict (Some one) None = Some one
joined_verdict (Some one) (Some other) = Some (one && other)

-- of the settled clocks of two pulses, the later one's after the earlier one's
abbrev pub counting : ℕ → List (Option ℕ) → List (Option ℕ) → Option Bool
counting modulus [] after = None
counting modulus (b ∷ before) [] = None
counting modulus (b ∷ before) (a ∷ after) = joined_verdict (step_of modulus b a) (counting modulus before after)

-- ---- a pulse

-- from version 3 on, with the settled clocks of the pulse before
abbrev pub judged_by : Bool → ℕ → List (Option ℕ) → PulseTold → Judged
judged_by strict modulus before r = record {
  agree = agreement strict modulus r;
  counts = counting modulus before (settled_in r);
}

-- versions 1 and 2 judge agreement alone, as the record has it
abbrev pub judged_plainly : PulseTold → Judged
judged_plainly r = record { agree = Some r.agree; counts = None }

-- the first pulse has none before it
abbrev pub settled_before : Option PulseTold → List (Option ℕ)
settled_before None = []
settled_before (Some earlier) = settled_in earlier

-- by the record of the pulse and that of the pulse before
abbrev pub judgement : Frame → Bool → Option PulseTold → PulseTold → Judged
judgement f own earlier r =
    if is_judged f.version then judged_by (is_strict f own) f.modulus (settled_before earlier) r else judged_plainly r

-- ---- a run

-- pulse after pulse, each with the settled clocks of the one before
abbrev pub judged_after : Bool → ℕ → List (Option ℕ) → List PulseTold → List Judged
judged_after strict modulus before [] = []
judged_after strict modulus before (r ∷ rs) =
    judged_by strict modulus before r ∷ judged_after strict modulus (settled_in r) rs

-- what is judged of each pulse
abbrev pub judged_of : Frame → Bool → List PulseTold → List Judged
judged_of f own rs =
    if is_judged f.version then judged_after (is_strict f own) f.modulus [] rs else map judged_plainly rs

-- no verdict on agreement is no
abbrev pub none_disagrees : List Judged → Bool
none_disagrees js = list_all (λ j. unwrap_or j.agree true) js
