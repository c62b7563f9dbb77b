-- Values that have no float and nest no deeper than so many levels.
use Rattle.std.proofs.Common.{◌≡◌, ℕ, suc, ◌≤◌, List, [], ◌∷◌, map, Bool, false, Ordering, Less, Equal, Greater, arith, refl, ap, subst, sym, ◌∙◌}
use Rattle.std.specs.Prelude.{Option, Some, None}
use Rattle.std.specs.List.{AllByRecursion}
use Rattle.std.specs.Ordering.{match_ordering, nat_cmp}
use Rattle.std.specs.Cmp.Lexicographic.{slice_cmp}
use Rattle.std.proofs.lemmas.Bool.{or_parts}
use Rattle.serde_json.specs.Data.{Data, Members, boolean, null, string, no_members, member, put, depth, items_depth, members_depth}
use Rattle.serde_json.specs.Read.{max_depth}
use Rattle.serde_json.specs.View.{items_of}
use Rattle.serde_json.specs.Written.{has_float, items_have_float, members_have_float}
use Rattle.json_values.specs.Values.{Member, list_data, number_data, object_data, option_data, with_members}

pub record IsPlain (levels : ℕ) (d : Data) : Type 0 where
  pub whole : has_float d ≡ false
  pub flat : depth d ≤ levels

-- what a line asks of its value
pub whole_as : (levels : ℕ) (d e : Data) → e ≡ d → IsPlain levels d → has_float e ≡ false
whole_as levels d e same plain = ap has_float same ∙ plain.whole

pub flat_as : (levels : ℕ) (d e : Data) → levels ≤ max_depth → e ≡ d → IsPlain levels d → depth e ≤ max_depth
flat_as levels d e few same plain =
    let flat = plain.flat in
    subst (λ x. depth x ≤ max_depth) (sym same) (let shallow : depth d ≤ max_depth =
    omega (arith, flat, few) in shallow)

record ArePlain (levels : ℕ) (ms : Members) : Type 0 where
  whole : members_have_float ms ≡ false
  flat : members_depth ms ≤ levels

pub plain_number : (levels n : ℕ) → IsPlain levels (number_data n)
plain_number levels n = record { whole = refl; flat = omega arith }

pub plain_string : (levels : ℕ) (text : List ℕ) → IsPlain levels (string text)
plain_string levels text = record { whole = refl; flat = omega arith }

pub plain_boolean : (levels : ℕ) (b : Bool) → IsPlain levels (boolean b)
plain_boolean levels b = record { whole = refl; flat = omega arith }

pub plain_null : (levels : ℕ) → IsPlain levels null
plain_null levels = record { whole = refl; flat = omega arith }

pub plain_option : {A : Type 0} (f : A → Data) (levels : ℕ) → ((x : A) → IsPlain levels (f x)) → (o : Option A)
    → IsPlain levels (option_data f o)
plain_option f levels each None = plain_null levels
plain_option f levels each (Some x) = each x

items_whole : {A : Type 0} (f : A → Data) (levels : ℕ) → ((x : A) → IsPlain levels (f x)) → (xs : List A)
    → items_have_float (items_of (map f xs)) ≡ false
items_whole f levels each [] = refl
items_whole f levels each (x ∷ xs) = rw ((each x).whole, items_whole f levels each xs) refl

items_flat : {A : Type 0} (f : A → Data) (levels : ℕ) → ((x : A) → IsPlain levels (f x)) → (xs : List A)
    → items_depth (items_of (map f xs)) ≤ levels
items_flat f levels each [] = omega arith
items_flat f levels each (x ∷ xs) =
    let here = (each x).flat in
    let rest = items_flat f levels each xs in
    omega (arith, here, rest)

pub plain_list : {A : Type 0} (f : A → Data) (levels : ℕ) → ((x : A) → IsPlain levels (f x)) → (xs : List A)
    → IsPlain (suc levels) (list_data f xs)
plain_list f levels each xs = record {
  whole = items_whole f levels each xs;
  flat = (let flat = items_flat f levels each xs in omega (arith, flat));
}

-- ---- objects

put_at : (o : Ordering) (levels : ℕ) (k l : List ℕ) (d e : Data) (ms : Members) → IsPlain levels d → IsPlain levels e
    → ArePlain levels ms → ArePlain levels (put k d ms)
    → ArePlain levels (match_ordering o (member k d (member l e ms)) (member l d ms) (member l e (put k d ms)))
put_at Less levels k l d e ms new old rest later =
    let a = new.flat in
    let b = old.flat in
    let c = rest.flat in
    record { whole = rw (new.whole, old.whole, rest.whole) refl; flat = omega (arith, a, b, c) }
put_at Equal levels k l d e ms new old rest later =
    let a = new.flat in
    let c = rest.flat in
    record { whole = rw (new.whole, rest.whole) refl; flat = omega (arith, a, c) }
put_at Greater levels k l d e ms new old rest later =
    let b = old.flat in
    let c = later.flat in
    record { whole = rw (old.whole, later.whole) refl; flat = omega (arith, b, c) }

first_of : (levels : ℕ) (l : List ℕ) (e : Data) (ms : Members) → ArePlain levels (member l e ms) → IsPlain levels e
first_of levels l e ms plain =
    let flat = plain.flat in
    record { whole = (or_parts (has_float e) _ plain.whole).0; flat = omega (arith, flat) }

rest_of : (levels : ℕ) (l : List ℕ) (e : Data) (ms : Members) → ArePlain levels (member l e ms) → ArePlain levels ms
rest_of levels l e ms plain =
    let flat = plain.flat in
    record { whole = (or_parts (has_float e) _ plain.whole).1; flat = omega (arith, flat) }

plain_put : (levels : ℕ) (k : List ℕ) (d : Data) (ms : Members) → IsPlain levels d → ArePlain levels ms
    → ArePlain levels (put k d ms)
plain_put levels k d no_members new plain =
    let a = new.flat in
    record { whole = rw new.whole refl; flat = omega (arith, a) }
plain_put levels k d (member l e ms) new plain =
    let old = first_of levels l e ms plain in
    let rest = rest_of levels l e ms plain in
    put_at (slice_cmp nat_cmp k l) levels k l d e ms new old rest (plain_put levels k d ms new rest)

plain_with : (levels : ℕ) (ms : Members) (more : List Member) → ArePlain levels ms
    → AllByRecursion (λ m. IsPlain levels m.1) more → ArePlain levels (with_members ms more)
plain_with levels ms [] plain each = plain
plain_with levels ms (m ∷ more) plain each =
    plain_with levels (put m.0 m.1 ms) more (plain_put levels m.0 m.1 ms each.0 plain) each.1

pub plain_object : (levels : ℕ) (ms : List Member) → AllByRecursion (λ m. IsPlain levels m.1) ms
    → IsPlain (suc levels) (object_data ms)
plain_object levels ms each =
    let plain = plain_with levels no_members ms (record { whole = refl; flat = omega arith }) each in
    let flat = plain.flat in
    record { whole = plain.whole; flat = omega (arith, flat) }
