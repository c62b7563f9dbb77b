-- What a transition of a bench of clocks leads to.
use Rattle.std.proofs.Common.{◌≡◌, ◌≢◌, ◌⊎◌, inl, inr, ℕ, zero, suc, ◌+◌, ◌-◌, ◌%◌, ◌<◌, ◌≤◌, ◌==◌, ◌&&◌, ◌||◌, nat_lt, Bool, true, false, if◌then◌else◌, List, length, slice_index, replicate, refl, sym, ap, ap₂, ◌∙◌, subst, arith}
use Rattle.std.specs.Prelude.{IsTrue}
use Rattle.std.specs.Ordering.{nat_cmp}
use Rattle.std.specs.FinMap.{FinMap}
use Rattle.std.proofs.Math.Nat.{mod-eq_of_lt, mod-lt, mod_self}
use Rattle.std.proofs.lemmas.Bool.{and_parts, cases_eq, eqb-true, ne_eqb, lt-ltb}
use Rattle.std.proofs.lemmas.List.{get_or-replicate, length-replicate}
use Rattle.bpf_verify.specs.Accepted.{Accepted}
use Rattle.clock_nodes.specs.Rule.{clock_of, clock_below}
use Rattle.rule_syntax.specs.declared.syntax.Sizes.{Sizes}
use Rattle.rule_meaning.specs.Meaning.{word_at}
use Rattle.rule_steps.specs.Steps.{Between, EachCorrect}
use Rattle.clock_steps.specs.Claims.{node_clock, mark_in, common}
use Rattle.clock_steps.proofs.Pulse.{clock_is}
use Rattle.clock_steps.proofs.Steps.{alike, common_from}
use Rattle.clock_steps.proofs.Luck.{Has, Low}
use Rattle.bench_core.specs.State.{AreCoins}
use Rattle.bench_moves.specs.Bed.{Agrees, AgreeTwo, Bed, IsLoaded, KeepsStep, told}
use Rattle.bench_moves.specs.Space.{Config, IsConfigOf, Moves, memory_at}
use Rattle.bench_moves.proofs.Aiming.{clocks_keep}
use Rattle.sized_benches.specs.Benches.{IsClockBench, IsCommonAt, IsUniform, MovesBy, is_loaded, node_in, bed_sizes}
use Rattle.sized_benches.proofs.Coins.{moves_by}
use Rattle.sized_benches.proofs.OnePulse.{agree, common_next, common_one, low_next, small, some_low}
use Rattle.sized_benches.proofs.Built.{is_loaded_so}
use Rattle.sized_benches.proofs.Moved.{bounds, by_pulsed, move_pulsed, move_uniform}

has_common : (c : ℕ) (p : Between) → IsTrue (common c p p) → Has (c, 1) p
has_common c p h =
    let parts = and_parts (node_clock p == c) ((mark_in p == 1) && (p.sent == c)) h in
    let rest = and_parts (mark_in p == 1) (p.sent == c) parts.1 in
    record {
      clock = eqb-true (node_clock p) c parts.0;
      mark = eqb-true (mark_in p) 1 rest.0;
      sent = eqb-true p.sent c rest.1;
    }

common_has : (c : ℕ) (p : Between) → Has (c, 1) p → IsTrue (common c p p)
common_has c p h = common_from c p p h.clock h.mark h.sent

alike_equal : (a b : ℕ) → IsTrue (alike a b) → a ≢ 0 → b ≢ 0 → a ≡ b
alike_equal a b h not_a not_b =
    eqb-true a b (sym (ap₂ (λ (s t : Bool). s || (t || (a == b))) (ne_eqb a 0 not_a) (ne_eqb b 0 not_b)) ∙ h)

-- a coin for each node, of this number
pub equal_coins : (bed : Bed) (v : ℕ) → v < 2 → AreCoins bed.setup.shape (replicate bed.setup.shape.nodes v)
equal_coins bed v bit =
    let n = bed.setup.shape.nodes in (
      length-replicate {A = ℕ} n v,
      λ i d lt. subst (λ (c : ℕ). c < 2)
          (sym (get_or-replicate n i v d (omega (arith, lt, length-replicate {A = ℕ} n v)))) bit,
    )

module _ (bed : Bed) (is : IsClockBench bed) where
  abbrev n : ℕ
  n = bed.setup.shape.nodes

  abbrev z : Sizes
  z = bed_sizes bed

  abbrev loaded : ℕ → Bool
  loaded = is_loaded bed

  abbrev modulus : ℕ
  modulus = bed.setup.modulus

  -- each loaded node has an unmarked 0, or the marked clock c
  abbrev pub InLow : ℕ → Config → Type 0
  InLow c x = IsUniform bed x × EachCorrect n loaded (λ i. Low c (node_in x i))

  -- ---- clocks that are told

  told_is : (m : List ℕ) → 8 ≤ length m → word_at 0 m < modulus → told bed m ≡ word_at 0 m
  told_is m l below =
      let lt : clock_of m < modulus = omega (arith, sym (clock_is m l), below) in
      by (lt-ltb (clock_of m) modulus lt) bed.own ∙ sym (clock_is m l)
    where
      by : nat_lt (clock_of m) modulus ≡ true → (own : Bool)
          → (if own then clock_of m else clock_below modulus (clock_of m)) ≡ clock_of m
      by lt true = refl
      by lt false = ap (λ (b : Bool). if b then clock_of m else 0) lt

  told_in : (x : Config) → IsUniform bed x → (i : ℕ) (p : Accepted) → IsLoaded bed i p
      → node_clock (node_in x i) < modulus → told bed (memory_at x i) ≡ node_clock (node_in x i)
  told_in x uniform i p ok below =
      told_is (memory_at x i) (omega (arith, uniform.every.sized i p ok, is.setup.extent.least)) below

  -- ---- transitions

  pub goes_agree : bed.own ≡ false → (x y : Config) (left : ℕ → List ℕ) (rows : ℕ → FinMap nat_cmp ℕ) → IsUniform bed x
      → Moves bed x left rows → IsConfigOf bed left rows y → Agrees bed (memory_at y)
  goes_agree judged x y left rows uniform moves to i j ok_i ok_j ne =
      let by = move_pulsed bed is x y left rows uniform moves to in
      let after = move_uniform bed is x y left rows uniform.every moves to in
      let pulse = by.1 in
      let lt_i = ok_i.1.0 in
      let lt_j = ok_j.1.0 in
      let so_i = is_loaded_so bed i ok_i.0 ok_i.1 in
      let so_j = is_loaded_so bed j ok_j.0 ok_j.1 in
      let below = small z loaded (bounds bed is) is.few by.0 (node_in x) (node_in y) pulse.before pulse.sees pulse.after in
      let same = agree z loaded (bounds bed is) is.few by.0 (node_in x) (node_in y) pulse.before pulse.sees pulse.after i j
      lt_i so_i lt_j so_j in
      let told_i = told_in y after i ok_i.0 ok_i.1 (below i lt_i so_i) in
      let told_j = told_in y after j ok_j.0 ok_j.1 (below j lt_j so_j) in
      let a = told bed (memory_at y i) in
      let b = told bed (memory_at y j) in
      let equal : a ≢ 0 → b ≢ 0 → a ≡ b =
      λ not_a not_b. told_i ∙ alike_equal (node_clock (node_in y i)) (node_clock (node_in y j)) same
      (λ e. not_a (told_i ∙ e)) (λ e. not_b (told_j ∙ e)) ∙ sym told_j in
      subst (λ (own : Bool). AgreeTwo own modulus a b) (sym judged) equal

  pub goes_common : (c : ℕ) (x y : Config) (left : ℕ → List ℕ) (rows : ℕ → FinMap nat_cmp ℕ) → IsCommonAt bed c x
      → Moves bed x left rows → IsConfigOf bed left rows y → IsCommonAt bed ((c + 1) % modulus) y
  goes_common c x y left rows all moves to =
      let by = move_pulsed bed is x y left rows all.uniform moves to in
      let pulse = by.1 in
      let next = common_next z loaded (bounds bed is) is.few by.0 (node_in x) (node_in y) pulse.before pulse.sees
      pulse.after c all.below (λ i lt so. has_common c (node_in x i) (all.each i lt so)) in
      record {
        uniform = move_uniform bed is x y left rows all.uniform.every moves to;
        below = mod-lt (c + 1) (omega (arith, all.below));
        each = λ i lt so. common_has ((c + 1) % modulus) (node_in y i) (next i lt so);
      }

  told_common : (c : ℕ) (x : Config) → IsCommonAt bed c x → (i : ℕ) (p : Accepted) → IsLoaded bed i p
      → told bed (memory_at x i) ≡ c
  told_common c x all i p ok =
      let has = has_common c (node_in x i) (all.each i ok.0 (is_loaded_so bed i p ok)) in
      told_in x all.uniform i p ok (omega (arith, has.clock, all.below)) ∙ has.clock

  pub common_keeps : (c : ℕ) (x y : Config) → IsCommonAt bed c x → IsCommonAt bed ((c + 1) % modulus) y
      → KeepsStep bed (memory_at x) (memory_at y)
  common_keeps c x y before after =
      let d = (c + 1) % modulus in
      clocks_keep bed (memory_at x) (memory_at y) (sym is.aim) (record {
        equal = λ i j ok_i ok_j.
            told_common d y after i ok_i.0 ok_i.1 ∙ sym (told_common d y after j ok_j.0 ok_j.1);
        goes_on = λ i ok.
            let was = told_common c x before i ok.0 ok.1 in (
              subst (λ (v : ℕ). v < modulus) (sym was) before.below,
              told_common d y after i ok.0 ok.1 ∙ ap (λ (v : ℕ). (v + 1) % modulus) (sym was),
            );
      })

  -- after a transition from nodes of which each sent one number the marked clocks are one
  pub goes_low : (x y : Config) (left : ℕ → List ℕ) (rows : ℕ → FinMap nat_cmp ℕ) → IsUniform bed x
      → Moves bed x left rows → IsConfigOf bed left rows y → (c : ℕ) × (c < modulus) × InLow c y
  goes_low x y left rows uniform moves to =
      let by = move_pulsed bed is x y left rows uniform moves to in
      let pulse = by.1 in
      let some = some_low z loaded (bounds bed is) is.few by.0 (node_in x) (node_in y) pulse.before pulse.sees pulse.after in
      (some.0, some.1, (move_uniform bed is x y left rows uniform.every moves to, some.2))

  coins_are : (v : ℕ) → EachCorrect n loaded (λ i. slice_index (replicate n v) i ≡ v)
  coins_are v i lt so = get_or-replicate n i v 0 lt

  -- coins 0 advance it, until it is 0
  pub zeros_low : (c : ℕ) (x y : Config) (left : ℕ → List ℕ) (rows : ℕ → FinMap nat_cmp ℕ) → c < modulus → InLow c x
      → MovesBy bed x (replicate n 0) left rows → IsConfigOf bed left rows y → InLow ((c + 1) % modulus) y
  zeros_low c x y left rows below low moves to =
      let are = equal_coins bed 0 (omega arith) in
      let by = by_pulsed bed is x y (replicate n 0) left rows low.0 are moves to in
      let pulse = by.1 in (
        move_uniform bed is x y left rows low.0.every (moves_by bed x (replicate n 0) left rows are moves) to,
        low_next z loaded (bounds bed is) is.few by.0 (node_in x) (node_in y) pulse.before pulse.sees pulse.after c below
            (λ i lt so. pulse.coin i lt so ∙ coins_are 0 i lt so) low.1,
      )

  -- coins 1 then make it common
  pub ones_common : (x y : Config) (left : ℕ → List ℕ) (rows : ℕ → FinMap nat_cmp ℕ) → InLow 0 x
      → MovesBy bed x (replicate n 1) left rows → IsConfigOf bed left rows y → IsCommonAt bed 1 y
  ones_common x y left rows low moves to =
      let are = equal_coins bed 1 (omega arith) in
      let by = by_pulsed bed is x y (replicate n 1) left rows low.0 are moves to in
      let pulse = by.1 in
      let next = common_one z loaded (bounds bed is) is.few by.0 (node_in x) (node_in y) pulse.before pulse.sees
      pulse.after (λ i lt so. pulse.coin i lt so ∙ coins_are 1 i lt so) low.1 in
      record {
        uniform = move_uniform bed is x y left rows low.0.every (moves_by bed x (replicate n 1) left rows are moves) to;
        below = omega (arith, is.setup.least);
        each = λ i lt so. common_has 1 (node_in y i) (next i lt so);
      }

  -- ---- how many pulses are left

  abbrev pub InCommon : Config → Type 0
  InCommon x = (c : ℕ) × IsCommonAt bed c x

  -- no more than k: none to a common clock, one to 0, and M - c + 1 to the clock c
  abbrev pub Left : ℕ → Config → Type 0
  Left k x = InCommon x ⊎ ((InLow 0 x × (1 ≤ k)) ⊎ ((c : ℕ) × (1 ≤ c) × (c < modulus) × InLow c x × (modulus - c + 1 ≤ k)))

  pub left_none : (x : Config) → Left 0 x → InCommon x
  left_none x (inl all) = all
  left_none x (inr (inl low)) = absurd (omega (arith, low.1))
  left_none x (inr (inr low)) = absurd (omega (arith, low.4))

  pub goes_in_common : (x y : Config) (left : ℕ → List ℕ) (rows : ℕ → FinMap nat_cmp ℕ) → InCommon x
      → Moves bed x left rows → IsConfigOf bed left rows y → InCommon y
  goes_in_common x y left rows all moves to =
      ((all.0 + 1) % modulus, goes_common all.0 x y left rows all.1 moves to)

  left_low : (k c : ℕ) (y : Config) → c < modulus → InLow c y → modulus ≤ k → Left k y
  left_low k zero y below low most = inr (inl (low, omega (arith, below, most)))
  left_low k (suc c) y below low most = inr (inr (suc c, omega arith, below, low, omega (arith, below, most)))

  -- M after a transition from nodes of which each sent one number
  pub goes_left : (x y : Config) (left : ℕ → List ℕ) (rows : ℕ → FinMap nat_cmp ℕ) → IsUniform bed x
      → Moves bed x left rows → IsConfigOf bed left rows y → Left modulus y
  goes_left x y left rows uniform moves to =
      let some = goes_low x y left rows uniform moves to in
      left_low modulus some.0 y some.1 some.2 (omega arith)

  next_low : (k c : ℕ) (y : Config) → 1 ≤ c → c < modulus → modulus - c + 1 ≤ suc k → InLow ((c + 1) % modulus) y
      → Left k y
  next_low k c y some below most low = elim (cases_eq (c + 1) modulus) [
    | inl e ↦
        let none : (c + 1) % modulus ≡ 0 = ap (λ (x : ℕ). x % modulus) e ∙ mod_self modulus in
        inr (inl (subst (λ (d : ℕ). InLow d y) none low, omega (arith, e, most)))
    | inr ne ↦
        let less : c + 1 < modulus = omega (arith, ne, below) in
        inr (inr (
          c + 1,
          omega arith,
          less,
          subst (λ (d : ℕ). InLow d y) (mod-eq_of_lt less) low,
          omega (arith, most, less),
        ))
  ]

  -- with the right coins one less is left
  abbrev pub CoinsTo : (Config → Type 0) → Config → Type 0
  CoinsTo There x = (coins : List ℕ) × AreCoins bed.setup.shape coins
      × ((y : Config) (left : ℕ → List ℕ) (rows : ℕ → FinMap nat_cmp ℕ) → MovesBy bed x coins left rows
      → IsConfigOf bed left rows y → There y)

  pub any_coins : (There : Config → Type 0) (x : Config)
      → ((y : Config) (left : ℕ → List ℕ) (rows : ℕ → FinMap nat_cmp ℕ) → Moves bed x left rows
      → IsConfigOf bed left rows y → There y) → CoinsTo There x
  any_coins There x goes =
      let are = equal_coins bed 0 (omega arith) in (
        replicate n 0,
        are,
        λ y left rows moves to. goes y left rows (moves_by bed x (replicate n 0) left rows are moves) to,
      )

  pub falls : (k : ℕ) (x : Config) → Left (suc k) x → CoinsTo (Left k) x
  falls k x (inl all) =
      any_coins (Left k) x (λ y left rows moves to. inl (goes_in_common x y left rows all moves to))
  falls k x (inr (inl low)) = (
    replicate n 1,
    equal_coins bed 1 (omega arith),
    λ y left rows moves to. inl (1, ones_common x y left rows low.0 moves to),
  )
  falls k x (inr (inr low)) = (
    replicate n 0,
    equal_coins bed 0 (omega arith),
    λ y left rows moves to. next_low k low.0 y low.1 low.2 low.4
        (zeros_low low.0 x y left rows low.2 low.3 moves to),
  )
