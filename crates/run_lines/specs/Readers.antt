-- What the reader of a line finds in it (docs/OUTPUT.md, "JSON lines").
use Rattle.std.specs.Prelude.{ℕ, Bool, List, [], ◌∷◌, Option, Some, None, codes, is_some, if◌then◌else◌, option_and_then, option_map}
use Rattle.std.specs.Result.{result_ok}
use Rattle.hex.specs.Hex.{decode_of}
use Rattle.serde_json.specs.Data.{Data, Items, no_items, item}
use Rattle.serde_json.specs.Find.{as_array, as_bool, as_null, as_number, as_str, as_u64, get}

abbrev pub number_told : Data → Option ℕ
number_told d = option_and_then as_u64 (as_number d)

-- null is nothing
abbrev pub option_in : {A : Type 0} → (Data → Option A) → Data → Option (Option A)
option_in f d = if is_some (as_null d) then Some None else option_map Some (f d)

-- each of them, if all can be read
abbrev pub each_in : {A : Type 0} → (Data → Option A) → Items → Option (List A)
each_in f no_items = Some []
each_in f (item d ds) = option_and_then (λ x. option_map (λ xs. x ∷ xs) (each_in f ds)) (f d)

abbrev pub list_in : {A : Type 0} → (Data → Option A) → Data → Option (List A)
list_in f d = option_and_then (each_in f) (as_array d)

abbrev pub decoded : List ℕ → Option (List ℕ)
decoded text = result_ok (decode_of text)

abbrev pub bytes_in : Data → Option (List ℕ)
bytes_in d = option_and_then decoded (as_str d)

-- ---- of a pulse

abbrev pub told_pulse : Data → Option ℕ
told_pulse d = option_and_then number_told (get (codes "pulse") d)

abbrev pub told_coins : Data → Option (List ℕ)
told_coins d = option_and_then (list_in number_told) (get (codes "coins") d)

abbrev pub clocks_told : Data → Option (List (Option ℕ))
clocks_told d = option_and_then (list_in (option_in number_told)) (get (codes "clocks") d)

abbrev pub told_settled : Data → Option (List Bool)
told_settled d = option_and_then (list_in as_bool) (get (codes "settled") d)

abbrev pub told_steps : Data → Option (List ℕ)
told_steps d = option_and_then (list_in number_told) (get (codes "steps") d)

abbrev pub told_memory : Data → Option (List (List ℕ))
told_memory d = option_and_then (list_in bytes_in) (get (codes "memory") d)

-- by sender and receiver
abbrev pub told_sent : Data → Option (List (List (Option ℕ)))
told_sent d = option_and_then (list_in (list_in (option_in number_told))) (get (codes "sent") d)
