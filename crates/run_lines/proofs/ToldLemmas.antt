-- What is told is read again.
use Rattle.std.proofs.Common.{◌≡◌, ℕ, List, [], ◌∷◌, map, refl, ◌∙◌}
use Rattle.std.specs.Prelude.{false, Option, Some, None, is_some}
use Rattle.std.specs.List.{AllByRecursion}
use Rattle.serde_json.specs.Data.{Data, Members, put}
use Rattle.serde_json.specs.Find.{as_null, get_member}
use Rattle.serde_json.specs.View.{items_of}
use Rattle.serde_json.proofs.Views.{get_member-put_other}
use Rattle.json_values.specs.Values.{Member, number_data, option_data, with_members}
use Rattle.run_lines.specs.Readers.{each_in, number_told, option_in}

pub list_told : {A B : Type 0} (f : A → Data) (r : Data → Option B) (g : A → B) (xs : List A)
    → AllByRecursion (λ x. r (f x) ≡ Some (g x)) xs → each_in r (items_of (map f xs)) ≡ Some (map g xs)
list_told f r g [] each = refl
list_told f r g (x ∷ xs) each = rw (each.0, list_told f r g xs each.1) refl

pub list_back : {A : Type 0} (f : A → Data) (r : Data → Option A) → ((x : A) → r (f x) ≡ Some x) → (xs : List A)
    → each_in r (items_of (map f xs)) ≡ Some xs
list_back f r each [] = refl
list_back f r each (x ∷ xs) = rw (each x, list_back f r each xs) refl

pub option_back : {A : Type 0} (f : A → Data) (r : Data → Option A) → ((x : A) → r (f x) ≡ Some x)
    → ((x : A) → is_some (as_null (f x)) ≡ false) → (o : Option A) → option_in r (option_data f o) ≡ Some o
option_back f r each some None = refl
option_back f r each some (Some x) = rw (some x, each x) refl

pub number_back : (n : ℕ) → number_told (number_data n) ≡ Some n
number_back n = refl

-- names that aren't among those put change nothing
pub get_with_others : (name : List ℕ) (ms : Members) (more : List Member)
    → AllByRecursion (λ m. name ≡ m.0 → ⊥) more → get_member name (with_members ms more) ≡ get_member name ms
get_with_others name ms [] others = refl
get_with_others name ms (m ∷ more) others =
    get_with_others name (put m.0 m.1 ms) more others.1 ∙ get_member-put_other name m.0 m.1 ms others.0
