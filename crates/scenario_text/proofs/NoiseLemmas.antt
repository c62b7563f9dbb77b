-- The loads of noise that are read, and those that any scenario of the table has.
use Rattle.std.proofs.Common.{◌≡◌, ◌≤◌, ◌<◌, ◌-◌, ◌*◌, ◌^◌, min, ℕ, zero, suc, ◌+◌, List, [], ◌∷◌, length, map, take, get_or, arith, refl, ap, ap₂, sym, subst, ◌∙◌}
use Rattle.std.specs.Prelude.{Option, Some, None, codes, ◌||◌, if◌then◌else◌}
use Rattle.std.specs.List.{list_any}
use Rattle.toml.specs.Data.{Data, Items, no_items, item, array, string, integer, float, boolean, datetime, table, Members, get_member}
use Rattle.bpf_insn.specs.declared.forms.Insn.{Insn}
use Rattle.scenario_text.specs.declared.scenario.Coins.{Coins}
use Rattle.scenario_text.specs.declared.scenario.Coins.TheVariants.{Zeros, Ones, Chacha}
use Rattle.scenario_text.specs.declared.scenario.Frame.{Frame}
use Rattle.scenario_text.specs.declared.scenario.Load.{Load}
use Rattle.scenario_text.specs.Drafts.{LoadDraft}
use Rattle.scenario_text.specs.Noise.{HasNoise, HasNoiseKey, any_noise, is_noise, noise_count, noise_pulses}
use Rattle.scenario_text.specs.Spelling.{HasFrame, HasKey, SpelledLoad, SpellsNothing}
use Rattle.scenario_text.specs.Tables.{IsTable, MayBeArray, ReadsEach}
use Rattle.scenario_text.specs.Views.{load_draft}
use Rattle.scenario_text.proofs.FrameLemmas.{one_frame, one_number}
use Rattle.scenario_text.proofs.NameLemmas.{nothing, one_kind}
use Rattle.scenario_text.proofs.TableLemmas.{array_length}

-- ---- the count, load by load

pub any_loads : (ls : List Load) → list_any (λ l. is_noise l.kind) ls ≡ any_noise (map load_draft ls)
any_loads [] = refl
any_loads (l ∷ ls) = ap (λ b. is_noise l.kind || b) (any_loads ls)

pub count_more : (pulses : ℕ) (ls : List Load) (i : ℕ) (d : Load) → i < length ls
    → noise_count pulses (map load_draft (take (i + 1) ls))
    ≡ noise_count pulses (map load_draft (take i ls)) + noise_pulses pulses (load_draft (get_or ls i d))
count_more pulses [] i d within = absurd (omega arith)
count_more pulses (l ∷ ls) zero d within = omega arith
count_more pulses (l ∷ ls) (suc i) d within =
    let on : suc i + 1 ≡ suc (i + 1) = omega arith in
    let more = count_more pulses ls i d (omega arith) in
    let here = noise_pulses pulses (load_draft l) in
    let whole : here + noise_count pulses (map load_draft (take (i + 1) ls)) ≡
    (here + noise_count pulses (map load_draft (take i ls))) + noise_pulses pulses (load_draft (get_or ls i d)) =
    omega arith in
    ap (λ k. noise_count pulses (map load_draft (take k (l ∷ ls)))) on ∙ whole

pub count_take : (pulses : ℕ) (ls : List Load) (i : ℕ)
    → noise_count pulses (map load_draft (take i ls)) ≤ noise_count pulses (map load_draft ls)
count_take pulses [] zero = omega arith
count_take pulses [] (suc i) = omega arith
count_take pulses (l ∷ ls) zero = omega arith
count_take pulses (l ∷ ls) (suc i) = let less = count_take pulses ls i in omega arith

-- ---- a table has one such count

-- what of two readings of a load is one
record SameNoise (x y : LoadDraft) : Type 0 where
  pub pulse : x.pulse ≡ y.pulse
  pub nodes : length x.nodes ≡ length y.nodes
  pub kind : x.kind ≡ y.kind

same_pulses : (pulses : ℕ) (x y : LoadDraft) → SameNoise x y → noise_pulses pulses x ≡ noise_pulses pulses y
same_pulses pulses x y same =
    ap (λ k. if is_noise k then length x.nodes * (pulses + 1 - x.pulse) else 0) same.kind
    ∙ (ap (λ n. if is_noise y.kind then n * (pulses + 1 - x.pulse) else 0) same.nodes
    ∙ ap (λ p. if is_noise y.kind then length y.nodes * (pulses + 1 - p) else 0) same.pulse)

same_load : (f g : Frame) (c d : Option (List Insn)) (v : Data) (x y : LoadDraft) → IsTable (SpelledLoad f c) v x
    → IsTable (SpelledLoad g d) v y → SameNoise x y
same_load f g c d (table ms) x y read other = record {
  pulse = one_number ms (codes "pulse") _ _ _ _ x.pulse y.pulse read.pulse other.pulse;
  nodes = sym (array_length _ (get_member (codes "nodes") ms) x.nodes read.nodes)
      ∙ array_length _ (get_member (codes "nodes") ms) y.nodes other.nodes;
  kind = one_kind ms x.kind y.kind read.named other.named;
}
same_load f g c d (array items) x y read other = absurd read
same_load f g c d (string text) x y read other = absurd read
same_load f g c d (integer n) x y read other = absurd read
same_load f g c d (float z) x y read other = absurd read
same_load f g c d (boolean b) x y read other = absurd read
same_load f g c d (datetime t) x y read other = absurd read

record OneNoise (pulses : ℕ) (xs ys : List LoadDraft) : Type 0 where
  pub any : any_noise xs ≡ any_noise ys
  pub count : noise_count pulses xs ≡ noise_count pulses ys

none_same : (pulses : ℕ) → OneNoise pulses [] []
none_same pulses = record { any = refl; count = refl }

each_same : (pulses : ℕ) (f g : Frame) (c d : Option (List Insn)) (items : Items) (xs ys : List LoadDraft)
    → ReadsEach (IsTable (SpelledLoad f c)) items xs → ReadsEach (IsTable (SpelledLoad g d)) items ys
    → OneNoise pulses xs ys
each_same pulses f g c d no_items [] [] read other = none_same pulses
each_same pulses f g c d no_items (x ∷ xs) ys read other = absurd read
each_same pulses f g c d no_items [] (y ∷ ys) read other = absurd other
each_same pulses f g c d (item v vs) [] ys read other = absurd read
each_same pulses f g c d (item v vs) (x ∷ xs) [] read other = absurd other
each_same pulses f g c d (item v vs) (x ∷ xs) (y ∷ ys) read other =
    let first = same_load f g c d v x y read.0 other.0 in
    let rest = each_same pulses f g c d vs xs ys read.1 other.1 in
    record {
      any = ap₂ (λ k b. is_noise k || b) first.kind rest.any;
      count = ap₂ (λ m n. m + n) (same_pulses pulses x y first) rest.count;
    }

one_noise : (pulses : ℕ) (f g : Frame) (c d : Option (List Insn)) (o : Option Data) (xs ys : List LoadDraft)
    → MayBeArray (IsTable (SpelledLoad f c)) o xs → MayBeArray (IsTable (SpelledLoad g d)) o ys
    → OneNoise pulses xs ys
one_noise pulses f g c d None xs ys read other =
    subst (λ us. OneNoise pulses us ys) (sym read) (subst (OneNoise pulses []) (sym other) (none_same pulses))
one_noise pulses f g c d (Some (array items)) xs ys read other = each_same pulses f g c d items xs ys read other
one_noise pulses f g c d (Some (string text)) xs ys read other = absurd read
one_noise pulses f g c d (Some (integer n)) xs ys read other = absurd read
one_noise pulses f g c d (Some (float z)) xs ys read other = absurd read
one_noise pulses f g c d (Some (boolean b)) xs ys read other = absurd read
one_noise pulses f g c d (Some (datetime t)) xs ys read other = absurd read
one_noise pulses f g c d (Some (table ms)) xs ys read other = absurd read

-- ---- and one key

absent_key : (ms : Members) (coins : Coins) → HasKey ms coins None → get_member (codes "key") ms ≡ None
absent_key ms Zeros has = has
absent_key ms Ones has = has
absent_key ms Chacha has = absurd has

same_key : (ms : Members) (coins other : Coins) (key mine : Option ℕ) (xs ys : List LoadDraft) → HasKey ms coins key
    → HasKey ms other mine → any_noise xs ≡ any_noise ys → HasNoiseKey mine ys → HasNoiseKey key xs
same_key ms coins other (Some k) mine xs ys has theirs same held = tt
same_key ms coins other None (Some k) xs ys has theirs same held =
    absurd (nothing (sym (absent_key ms coins has) ∙ theirs.0))
same_key ms coins other None None xs ys has theirs same held = same ∙ held

-- a table whose noise isn't as it has to be spells nothing
pub no_noise : (ms : Members) (f : Frame) (c : Option (List Insn)) (coins : Coins) (key : Option ℕ)
    (loads : List LoadDraft) → HasFrame ms f → HasKey ms coins key
    → MayBeArray (IsTable (SpelledLoad f c)) (get_member (codes "load") ms) loads
    → (HasNoise key f.pulses loads → ⊥) → SpellsNothing ms
no_noise ms f c coins key loads has held read none d spelled =
    let pulses : f.pulses ≡ d.frame.pulses = ap (λ (g : Frame). g.pulses) (one_frame ms f d.frame has spelled.frame) in
    let one = one_noise f.pulses f d.frame c d.clock (get_member (codes "load") ms) loads d.loads read spelled.loads in
    let there : noise_count f.pulses d.loads ≡ noise_count d.frame.pulses d.loads =
    ap (λ p. noise_count p d.loads) pulses in
    none (record {
      keyed = same_key ms coins d.coins key d.key loads d.loads held spelled.key one.any spelled.noise.keyed;
      few = omega (arith, one.count, there, spelled.noise.few);
    })

-- ---- the room that is left

-- one load more, which has room
pub room_left : (most room count pulses before after : ℕ) → room + before ≡ most → after ≡ before + pulses
    → count ≡ min pulses (2 ^ 64 - 1) → count ≤ room → most < 2 ^ 64 - 1 → (room - count) + after ≡ most
room_left most room count pulses before after was next is fits small = omega (arith, was, next, is, fits, small)

-- one that has none
pub no_room : (most room count pulses before after whole : ℕ) → room + before ≡ most → after ≡ before + pulses
    → count ≡ min pulses (2 ^ 64 - 1) → room < count → after ≤ whole → whole ≤ most → ⊥
no_room most room count pulses before after whole was next is above part few =
    omega (arith, was, next, is, above, part, few)
