-- The keys of a table and the items of an array, as the code has them and as their data has them.
use Rattle.std.proofs.Common.{◌≡◌, ℕ, zero, suc, ◌+◌, ◌<◌, ◌≤◌, Bool, true, List, [], ◌∷◌, ◌++◌, length, map, get_or, take, arith, refl, add-one, ap, ap₂, subst, sym, ◌∙◌}
use Rattle.std.proofs.Math.Seq.{take-suc}
use Rattle.std.specs.Prelude.{String, codes, IsSomeAnd, Option, Some, None, string_bytes, ◌&&◌, ◌||◌, is_some}
use Rattle.std.specs.BTreeMap.{BTreeMap, keys}
use Rattle.std.specs.List.{list_all, list_any}
use Rattle.std.specs.Str.{bytes_eq}
use Rattle.std.specs.declared.alloc.Global.{Global}
use Rattle.toml.specs.declared.value.Value.{Value}
use Rattle.toml.specs.View.{items_view, members_view, table_view, view}
use Rattle.toml.specs.Data.{Data, as_integer, array, table, get_member, Items, no_items, item, Members}
use Rattle.scenario_text.specs.Broken.{IsItemAt, item_at}
use Rattle.scenario_text.specs.Tables.{knows, ReadsEach, IsArray, MayBeArray, IsTable, IsNumber}
use Rattle.scenario_text.specs.declared.scenario.Frame.{Frame}
use Rattle.bpf_insn.specs.declared.forms.Insn.{Insn}
use Rattle.scenario_text.specs.Drafts.{LoadDraft}
use Rattle.scenario_text.specs.inner.Arrays.{is_table, all_tables, are_tables, items_length, entry_count, loads_counted, nodes_count, count_in, item_count}
use Rattle.scenario_text.specs.Spelling.{IsSaid, SpelledLoad, load_count}

any_mapped : {A B : Type 0} (test : B → Bool) (f : A → B) (xs : List A)
    → list_any (λ x. test (f x)) xs ≡ list_any test (map f xs)
any_mapped test f [] = refl
any_mapped test f (x ∷ xs) = ap (λ b. test (f x) || b) (any_mapped test f xs)

entries_known : {A : Type 0} (text : A → List ℕ) (names : List A) (es : List (String Global × Value))
    → list_all (λ k. list_any (λ name. bytes_eq (text name) (string_bytes k)) names) (map (λ e. e.0) es)
    ≡ knows (map text names) (members_view es)
entries_known text names [] = refl
entries_known text names (e ∷ es) = ap₂ (λ a b. a && b)
    (any_mapped (λ name. bytes_eq name (string_bytes e.0)) text names) (entries_known text names es)

-- the map's keys are among some names exactly where its data's are
pub keys_known : {A : Type 0} (text : A → List ℕ) (names : List A) (t : BTreeMap (String Global) Value)
    → list_all (λ k. list_any (λ name. bytes_eq (text name) (string_bytes k)) names) (keys t)
    ≡ knows (map text names) (table_view t)
keys_known text names t = entries_known text names t.entries

-- one more value and what it says
pub reads_more : {A : Type 0} (reads : Data → A → Type 0) (vs : List Value) (xs : List A) (v : Value) (x : A)
    → ReadsEach reads (items_view vs) xs → reads (view v) x → ReadsEach reads (items_view (vs ++ v ∷ [])) (xs ++ x ∷ [])
reads_more reads [] [] v x before here = (here, tt)
reads_more reads [] (y ∷ ys) v x before here = absurd before
reads_more reads (w ∷ vs) [] v x before here = absurd before
reads_more reads (w ∷ vs) (y ∷ ys) v x before here = (before.0, reads_more reads vs ys v x before.1 here)

-- where an item says nothing, the items say nothing
pub reads_none : {A : Type 0} (reads : Data → A → Type 0) (vs : List Value) (i : ℕ) (d : Value) (xs : List A)
    → i < length vs
    → ((x : A) → reads (view (get_or vs i d)) x → ⊥) → ReadsEach reads (items_view vs) xs → ⊥
reads_none reads [] i d xs within silent read = omega arith
reads_none reads (v ∷ vs) i d [] within silent read = read
reads_none reads (v ∷ vs) zero d (x ∷ xs) within silent read = silent x read.0
reads_none reads (v ∷ vs) (suc i) d (x ∷ xs) within silent read = reads_none reads vs i d xs (omega arith) silent read.1

-- the next item of an array, and what it says
pub next_read : {A : Type 0} (reads : Data → A → Type 0) (vs : List Value) (i : ℕ) (v : Value) (xs ys : List A) (x : A)
    → i < length vs → get_or vs i v ≡ v
    → ReadsEach reads (items_view (take i vs)) xs → reads (view v) x → ys ≡ xs ++ x ∷ []
    → ReadsEach reads (items_view (take (i + 1) vs)) ys
next_read reads vs i v xs ys x within found before here grown =
    let more = reads_more reads (take i vs) xs v x before here in
    let taken : take (i + 1) vs ≡ take i vs ++ v
    ∷ [] = rw (add-one, take-suc vs i v within) (ap (λ w. take i vs ++ w ∷ []) found) in
    rw (taken, grown) more

-- where the next item of an array says nothing, the array says nothing
pub next_unread : {A : Type 0} (reads : Data → A → Type 0) (vs whole : List Value) (i : ℕ) (v : Value) → i < length vs
    → get_or vs i v ≡ v → vs ≡ whole
    → ((x : A) → reads (view v) x → ⊥) → (xs : List A) → ReadsEach reads (items_view whole) xs → ⊥
next_unread reads vs whole i v within found same silent xs read =
    reads_none reads vs i v xs within (λ x is. silent x (subst (λ w. reads (view w) x) found is))
    (subst (λ ws. ReadsEach reads (items_view ws) xs) (sym same) read)

item_is : (vs : List Value) (i : ℕ) (d : Value) → i < length vs
    → item_at (items_view vs) i ≡ Some (view (get_or vs i d))
item_is [] i d within = absurd (omega arith)
item_is (v ∷ vs) zero d within = refl
item_is (v ∷ vs) (suc i) d within = item_is vs i d (omega arith)

-- what holds of the next item of an array holds of the item at its place
pub next_stands : {A : Type 0} (reads : Data → A → Type 0) (vs whole : List Value) (i : ℕ) (v : Value) → i < length vs
    → get_or vs i v ≡ v → vs ≡ whole → (x : A) → reads (view v) x → IsItemAt reads (Some (array (items_view whole))) i x
next_stands reads vs whole i v within found same x is =
    let item : item_at (items_view whole) i ≡ Some (view v) =
    ap (λ (ws : List Value). item_at (items_view ws) i) (sym same)
    ∙ (item_is vs i v within ∙ ap (λ w. Some (view w)) found) in
    subst (λ (o : Option Data). IsSomeAnd o (λ value. reads value x)) (sym item) is

-- as many as there are items
pub reads_length : {A : Type 0} (reads : Data → A → Type 0) (vs : List Value) (xs : List A)
    → ReadsEach reads (items_view vs) xs → length xs ≡ length vs
reads_length reads [] [] read = refl
reads_length reads [] (x ∷ xs) read = absurd read
reads_length reads (v ∷ vs) [] read = absurd read
reads_length reads (v ∷ vs) (x ∷ xs) read = ap suc (reads_length reads vs xs read.1)

-- each item that says something has a kind
each_is : {A : Type 0} (reads : Data → A → Type 0) (test : Data → Bool)
    → ((d : Data) (x : A) → reads d x → test d ≡ true) → (vs : List Value) (xs : List A)
    → ReadsEach reads (items_view vs) xs → list_all (λ v. test (view v)) vs ≡ true
each_is reads test has [] xs read = refl
each_is reads test has (v ∷ vs) [] read = absurd read
each_is reads test has (v ∷ vs) (x ∷ xs) read = ap₂ (λ a b. a && b) (has (view v) x read.0)
    (each_is reads test has vs xs read.1)

number_is_integer : (high : ℕ) (d : Data) (n : ℕ) → IsNumber 0 high d n → is_some (as_integer d) ≡ true
number_is_integer high d n is = ap (λ e. is_some (as_integer e)) is.0

said_is_integer : (d : Data) (v : Option ℕ) → IsSaid d v → is_some (as_integer d) ≡ true
said_is_integer d (Some v) is = ap (λ e. is_some (as_integer e)) is.0
said_is_integer d None is = ap (λ e. is_some (as_integer e)) is

pub numbers_are_integers : (high : ℕ) (vs : List Value) (ns : List ℕ) → ReadsEach (IsNumber 0 high) (items_view vs) ns
    → list_all (λ v. is_some (as_integer (view v))) vs ≡ true
numbers_are_integers high vs ns read = each_is (IsNumber 0 high) (λ d. is_some (as_integer d))
    (number_is_integer high) vs ns read

pub said_are_integers : (vs : List Value) (xs : List (Option ℕ)) → ReadsEach IsSaid (items_view vs) xs
    → list_all (λ v. is_some (as_integer (view v))) vs ≡ true
said_are_integers vs xs read = each_is IsSaid (λ d. is_some (as_integer d)) said_is_integer vs xs read

-- an array of another length says nothing of the wanted length
pub no_length : {A : Type 0} (reads : Data → A → Type 0) (o : Option Data) (vs : List Value) (n : ℕ) (xs : List A)
    → o ≡ Some (array (items_view vs))
    → (length vs ≡ n → ⊥) → IsArray reads o xs → length xs ≡ n → ⊥
no_length reads o vs n xs is other read long =
    other (sym (reads_length reads vs xs (subst (λ p. IsArray reads p xs) is read)) ∙ long)

-- ---- the count of loads

pub items_length_view : (vs : List Value) → items_length (items_view vs) ≡ length vs
items_length_view [] = refl
items_length_view (v ∷ vs) = ap suc (items_length_view vs)

pub counted_more : (vs : List Value) (i : ℕ) (d : Value) → i < length vs
    → item_count (items_view (take (i + 1) vs)) ≡ item_count (items_view (take i vs)) + count_in (view (get_or vs i d))
counted_more [] i d within = omega arith
counted_more (v ∷ vs) zero d within = omega arith
counted_more (v ∷ vs) (suc i) d within =
    let on : suc i + 1 ≡ suc (i + 1) = omega arith in
    let more = counted_more vs i d (omega arith) in
    let whole : count_in (view v) + item_count (items_view (take (i + 1) vs)) ≡
    (count_in (view v) + item_count (items_view (take i vs))) + count_in (view (get_or vs i d)) = omega arith in
    ap (λ k. item_count (items_view (take k (v ∷ vs)))) on ∙ whole

pub counted_take : (vs : List Value) (i : ℕ) → item_count (items_view (take i vs)) ≤ item_count (items_view vs)
counted_take [] zero = omega arith
counted_take [] (suc i) = omega arith
counted_take (v ∷ vs) zero = omega arith
counted_take (v ∷ vs) (suc i) = let less = counted_take vs i in omega arith

each_length : {A : Type 0} (reads : Data → A → Type 0) (items : Items) (xs : List A) → ReadsEach reads items xs
    → items_length items ≡ length xs
each_length reads no_items [] read = refl
each_length reads no_items (x ∷ xs) read = absurd read
each_length reads (item v vs) [] read = absurd read
each_length reads (item v vs) (x ∷ xs) read = ap suc (each_length reads vs xs read.1)

pub array_length : {A : Type 0} (reads : Data → A → Type 0) (o : Option Data) (xs : List A) → IsArray reads o xs
    → nodes_count o ≡ length xs
array_length reads (Some (array items)) xs read = each_length reads items xs read
array_length reads _ xs read = absurd read

load_counted : (f : Frame) (c : Option (List Insn)) (d : Data) (load : LoadDraft) → IsTable (SpelledLoad f c) d load
    → count_in d ≡ length load.nodes
load_counted f c (table ms) load read = array_length _ (get_member (codes "nodes") ms) load.nodes read.nodes
load_counted f c _ load read = absurd read

-- the loads that are spelled are as many as were counted
pub each_load_counted : (f : Frame) (c : Option (List Insn)) (items : Items) (loads : List LoadDraft)
    → ReadsEach (IsTable (SpelledLoad f c)) items loads → item_count items ≡ load_count loads
each_load_counted f c no_items [] read = refl
each_load_counted f c no_items (l ∷ ls) read = absurd read
each_load_counted f c (item v vs) [] read = absurd read
each_load_counted f c (item v vs) (l ∷ ls) read = ap₂ (λ a b. a + b) (load_counted f c v l read.0)
    (each_load_counted f c vs ls read.1)

-- ---- kinds

pub tables_by_values : (vs : List Value) → list_all (λ v. is_table (view v)) vs ≡ all_tables (items_view vs)
tables_by_values [] = refl
tables_by_values (v ∷ vs) = ap (λ b. is_table (view v) && b) (tables_by_values vs)

table_read : {A : Type 0} (reads : Members → A → Type 0) (d : Data) (x : A) → IsTable reads d x → is_table d ≡ true
table_read reads (table ms) x read = refl
table_read reads _ x read = absurd read

all_tables_read : {A : Type 0} (reads : Members → A → Type 0) (items : Items) (xs : List A)
    → ReadsEach (IsTable reads) items xs → all_tables items ≡ true
all_tables_read reads no_items [] read = refl
all_tables_read reads no_items (x ∷ xs) read = absurd read
all_tables_read reads (item d ds) [] read = absurd read
all_tables_read reads (item d ds) (x ∷ xs) read = ap₂ (λ a b. a && b) (table_read reads d x read.0)
    (all_tables_read reads ds xs read.1)

-- what is read is an array of tables, or none
pub tables_read : {A : Type 0} (reads : Members → A → Type 0) (o : Option Data) (xs : List A)
    → MayBeArray (IsTable reads) o xs → are_tables o ≡ true
tables_read reads None xs read = refl
tables_read reads (Some (array items)) xs read = all_tables_read reads items xs read
tables_read reads (Some _) xs read = absurd read

-- as many as are read
pub entries_read : {A : Type 0} (reads : Data → A → Type 0) (o : Option Data) (xs : List A) → MayBeArray reads o xs
    → entry_count o ≡ length xs
entries_read reads None xs read = sym (ap length read)
entries_read reads (Some (array items)) xs read = each_length reads items xs read
entries_read reads (Some _) xs read = absurd read

pub loads_read : (f : Frame) (c : Option (List Insn)) (o : Option Data) (loads : List LoadDraft)
    → MayBeArray (IsTable (SpelledLoad f c)) o loads
    → loads_counted o ≡ load_count loads
loads_read f c None loads read = sym (ap load_count read)
loads_read f c (Some (array items)) loads read = each_load_counted f c items loads read
loads_read f c (Some _) loads read = absurd read
