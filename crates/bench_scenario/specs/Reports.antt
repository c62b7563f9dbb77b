-- The report of a scenario and the records of its run (docs/SCENARIOS.md, "The report" and "Verdicts").
use Rattle.std.specs.Prelude.{ℕ, ◌==◌, ◌&&◌, nat_le, if◌then◌else◌, is_some, Bool, true, false, List, [], ◌∷◌, ◌++◌, count_by, flat_map, codes, Option, Some, None}
use Rattle.std.specs.Fmt.{decimal}
use Rattle.bench_core.specs.Told.{PulseTold}
use Rattle.scenario_text.specs.declared.limits.TheConstants.{FIRST_VERSION, CLOCK_VERSION}
use Rattle.scenario_text.specs.declared.scenario.Frame.{Frame}
use Rattle.scenario_text.specs.Views.{is_judged}
use Rattle.bench_scenario.specs.declared.verdicts.Judged.{Judged}
use Rattle.bench_scenario.specs.Verdicts.{judged_of, none_disagrees}

-- ---- the first line

-- the first version isn't told
abbrev pub version_text : Frame → List ℕ
version_text f =
    if f.version == FIRST_VERSION then [] else codes "version " ++ (decimal f.version ++ codes " ")

abbrev pub shape_text : Frame → List ℕ
shape_text f = codes "nodes " ++ (decimal f.nodes ++ (codes " faults " ++ (decimal f.faults
    ++ (codes " modulus " ++ decimal f.modulus))))

-- whose clock it is: the scenario's own, or this project's, which CLOCK_VERSION calls the rule's
abbrev pub clock_name : ℕ → Bool → List ℕ
clock_name version own =
    if own then codes "own" else if version == CLOCK_VERSION then codes "rule" else codes "bed"

-- whether a clock of 0 of one's own agrees with every clock
abbrev pub zero_text : Frame → Bool → List ℕ
zero_text f own = if own && f.zero_agrees then codes " zero agrees" else []

-- the end of the line: from version 3 on it says whose clock it is
abbrev pub clock_end : Frame → Bool → List ℕ
clock_end f own =
    if is_judged f.version then codes " clock " ++ (clock_name f.version own ++ (zero_text f own ++ codes "\n"))
    else codes "\n"

abbrev pub head_line : Frame → Bool → List ℕ
head_line f own = version_text f ++ (shape_text f ++ clock_end f own)

-- ---- the line of a pulse

-- from version 3 on a clock past the modulus has no value
abbrev pub is_past : Frame → ℕ → Bool
is_past f clock = is_judged f.version && nat_le f.modulus clock

-- a blank and the clock, a mark for one without a value, or a dash for none
abbrev pub clock_text : Frame → Option ℕ → List ℕ
clock_text f None = codes " -"
clock_text f (Some clock) = if is_past f clock then codes " !" else codes " " ++ decimal clock

abbrev pub clocks_text : Frame → List (Option ℕ) → List ℕ
clocks_text f clocks = flat_map (clock_text f) clocks

abbrev pub verdict_text : Option Bool → List ℕ
verdict_text None = codes "none"
verdict_text (Some true) = codes "yes"
verdict_text (Some false) = codes "no"

-- the end of the line: from version 3 on it says whether the clocks counted
abbrev pub counts_end : Frame → Option Bool → List ℕ
counts_end f counts =
    if is_judged f.version then codes " counts " ++ (verdict_text counts ++ codes "\n") else codes "\n"

abbrev pub record_line : Frame → PulseTold → Judged → List ℕ
record_line f r j =
    codes "pulse " ++ (decimal r.row.pulse ++ (codes " clocks" ++ (clocks_text f r.clocks
    ++ (codes " settled " ++ (decimal r.row.settled ++ (codes " steps " ++ (decimal r.steps
    ++ (codes " agree " ++ (verdict_text j.agree ++ counts_end f j.counts)))))))))

-- a line for each record, with what is judged of its pulse
abbrev pub record_lines : Frame → List PulseTold → List Judged → List ℕ
record_lines f [] js = []
record_lines f (r ∷ rs) [] = []
record_lines f (r ∷ rs) (j ∷ js) = record_line f r j ++ record_lines f rs js

-- ---- the last line

abbrev pub is_yes : Option Bool → Bool
is_yes (Some verdict) = verdict
is_yes None = false

-- how many pulses agree, and of how many that is judged
abbrev pub agreed : List Judged → ℕ
agreed js = count_by (λ j. is_yes j.agree) js

abbrev pub agreement_judged : List Judged → ℕ
agreement_judged js = count_by (λ j. is_some j.agree) js

-- the end of the line: from version 3 on it says in how many pulses the clocks counted
abbrev pub counted_end : Frame → List Judged → List ℕ
counted_end f js =
    if is_judged f.version
    then codes " counted " ++ (decimal (count_by (λ j. is_yes j.counts) js) ++ (codes " of "
    ++ (decimal (count_by (λ j. is_some j.counts) js) ++ codes "\n")))
    else codes "\n"

abbrev pub last_line : Frame → List Judged → List ℕ
last_line f js =
    codes "agreed " ++ (decimal (agreed js) ++ (codes " of " ++ (decimal (agreement_judged js) ++ counted_end f js)))

-- ---- the report

-- of records, of which this is judged
abbrev pub report_text : Frame → Bool → List PulseTold → List Judged → List ℕ
report_text f own rs js = head_line f own ++ (record_lines f rs js ++ last_line f js)

abbrev pub report_of : Frame → Bool → List PulseTold → List ℕ
report_of f own rs = report_text f own rs (judged_of f own rs)

-- no pulse's verdict on agreement is no
abbrev pub all_agree : Frame → Bool → List PulseTold → Bool
all_agree f own rs = none_disagrees (judged_of f own rs)
