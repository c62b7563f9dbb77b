-- The rows of a sweep (docs/LUCK.md, "The lines").
use Rattle.std.specs.Prelude.{ℕ, List, [], ◌∷◌, codes, Option, Some, None}
use Rattle.std.specs.Fmt.{decimal}
use Rattle.csv.specs.Writing.{default_writer, row_text}
use Rattle.bench_scenario.specs.declared.summary.RunSummary.{RunSummary}

-- the names of the fields
abbrev pub names : List (List ℕ)
names =
    codes "key" ∷ codes "agreed" ∷ codes "of" ∷ codes "first_disagreement" ∷ codes "in_step_since" ∷ codes "steps" ∷ []

-- the row of names
abbrev pub sweep_names : List ℕ
sweep_names = row_text default_writer names

-- nothing is an empty field
abbrev pub number_text : Option ℕ → List ℕ
number_text None = []
number_text (Some n) = decimal n

-- the fields of the run with this key
abbrev pub fields_of : ℕ → RunSummary → List (List ℕ)
fields_of key m = decimal key ∷ decimal m.agreed ∷ decimal m.judged ∷ number_text m.first_disagreement
    ∷ number_text m.in_step_since ∷ decimal m.steps ∷ []

-- the row of that run
abbrev pub summary_row : ℕ → RunSummary → List ℕ
summary_row key m = row_text default_writer (fields_of key m)
