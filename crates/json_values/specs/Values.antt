-- Values of JSON: of numbers, of what may be missing, of lists and of members.
use Rattle.std.specs.Prelude.{ℕ, List, [], ◌∷◌, map, Option, Some, None}
use Rattle.serde_json.specs.Data.{Data, Members, null, number, unsigned, array, object, no_members, put}
use Rattle.serde_json.specs.View.{items_of}

abbrev pub number_data : ℕ → Data
number_data n = number (unsigned n)

-- nothing is null
abbrev pub option_data : {A : Type 0} → (A → Data) → Option A → Data
option_data f None = null
option_data f (Some x) = f x

abbrev pub list_data : {A : Type 0} → (A → Data) → List A → Data
list_data f xs = array (items_of (map f xs))

-- a name and a value
abbrev pub Member : Type 0
Member = List ℕ × Data

-- the members with these put among them, one after the other
abbrev pub with_members : Members → List Member → Members
with_members ms [] = ms
with_members ms (m ∷ more) = with_members (put m.0 m.1 ms) more

-- an object keeps its members in the order of their names
abbrev pub object_data : List Member → Data
object_data ms = object (with_members no_members ms)
