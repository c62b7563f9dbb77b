-- What all runs of a bench of clocks do.
use Rattle.std.proofs.Common.{◌≡◌, false, ℕ, zero, suc, ◌+◌, ◌^◌, ◌<◌, List, length, All, Option, None, Some, IfSome, refl, sym, ap, ◌∙◌, subst, arith}
use Rattle.std.specs.Ordering.{nat_cmp}
use Rattle.std.specs.FinMap.{FinMap, get}
use Rattle.node_env.specs.Env.{inbox_of}
use Rattle.bench_core.specs.State.{State, mail_from}
use Rattle.bench_moves.specs.Bed.{Bed, Agrees, KeepsStep, memories_of}
use Rattle.bench_moves.specs.Space.{CoinsLead, Config, InStepFrom, IsBegin, IsConfigOf, LeadsInto, LuckFrom, Moves, MovesTo, NeverPartsFrom, memory_at}
use Rattle.bench_moves.specs.Start.{IsEvery}
use Rattle.bench_moves.proofs.Held.{begin_run, closed_grows}
use Rattle.bench_moves.proofs.Meeting.{agrees_says, keeps_says}
use Rattle.bench_moves.proofs.Never.{AreLayers, at_last, first_place, held_begin, layers_hold, there_run}
use Rattle.bench_moves.proofs.Tossing.{begin_inboxes, closes_once, stays_in_step}
use Rattle.bench_core.specs.State.{AreCoins}
use Rattle.sized_benches.specs.Benches.{AnyState, IsClockBench, IsCommonAt, IsUniform, MovesBy}
use Rattle.sized_benches.proofs.Coins.{moves_by_on}
use Rattle.sized_benches.proofs.Built.{built, built_is}
use Rattle.sized_benches.proofs.Moved.{move_uniform}
use Rattle.sized_benches.proofs.Leading.{CoinsTo, InCommon, Left, any_coins, common_keeps, falls, goes_agree, goes_common, goes_in_common, goes_left, left_none}

-- every move from the one set leads to the other
abbrev Goes : Bed → (Config → Type 0) → (Config → Type 0) → Type 0
Goes bed Here There = (x y : Config) (left : ℕ → List ℕ) (rows : ℕ → FinMap nat_cmp ℕ) → Here x
    → Moves bed x left rows → IsConfigOf bed left rows y → There y

-- from each of the one set there are coins by which every move leads into the other, whatever liars send
abbrev CoinsInto : Bed → (Config → Type 0) → (Config → Type 0) → Type 0
CoinsInto bed Here There = (x : Config) → Here x → (coins : List ℕ) × AreCoins bed.setup.shape coins
    × ((left : ℕ → List ℕ) (rows : ℕ → FinMap nat_cmp ℕ) → MovesBy bed x coins left rows
    → (y : Config) × There y × IsConfigOf bed left rows y)

goes_into : (bed : Bed) (Here There : Config → Type 0) → Goes bed Here There → LeadsInto bed Here There
goes_into bed Here There goes x left rows here moves =
    let is = built_is bed left rows in (built bed left rows, goes x (built bed left rows) left rows here moves is, is)

module _ (bed : Bed) (is : IsClockBench bed) where
  -- a state of a bench is one of all configurations
  begin_every : (x : Config) (b : State) → IsBegin bed x b → IsEvery bed x
  begin_every x b begin =
      let held = held_begin bed x b is.setup begin in
      let stands = begin.stands in
      record {
        sized = λ i p ok.
            ap (λ (m : List ℕ). length m) (stands.memories i p ok) ∙ (held.sound.memories i ok.0).length;
        bytes = λ i p ok.
            subst (λ (m : List ℕ). All (λ byte. byte < 256) m) (sym (stands.memories i p ok))
            (held.sound.memories i ok.0).bytes;
        sent = λ i j p q ok other.
            subst (λ (o : Option ℕ). IfSome o (λ m. m < 2 ^ 32)) (sym (stands.sent i j p q ok other))
            (numbers_small (get (mail_from b.mail j) i) (λ v e. (held.sound.rows j other.0 i v e).1));
      }
    where
      numbers_small : (o : Option ℕ) → ((v : ℕ) → o ≡ Some v → v < 2 ^ 32) → IfSome o (λ m. m < 2 ^ 32)
      numbers_small None h = tt
      numbers_small (Some v) h = h v refl

  -- ---- agreement

  layer : ℕ → Config → Type 0
  layer zero x = IsEvery bed x
  layer (suc k) x = IsUniform bed x

  every_uniform : Goes bed (IsEvery bed) (IsUniform bed)
  every_uniform x y left rows every moves to = move_uniform bed is x y left rows every moves to

  uniform_uniform : Goes bed (IsUniform bed) (IsUniform bed)
  uniform_uniform x y left rows uniform moves to = move_uniform bed is x y left rows uniform.every moves to

  layers : AreLayers bed 1 layer
  unfolding layer
  layers = record { next = next; closed = goes_into bed (IsUniform bed) (IsUniform bed) uniform_uniform }
    where
      next : (k : ℕ) → k < 1 → LeadsInto bed (layer k) (layer (k + 1))
      next zero lt = goes_into bed (IsEvery bed) (IsUniform bed) every_uniform
      next (suc k) lt = absurd (omega (arith, lt))

  agreeing : bed.own ≡ false → MovesTo bed (IsUniform bed) (λ before after. Agrees bed after)
  agreeing judged x left rows uniform moves =
      let y = built bed left rows in
      let to = built_is bed left rows in
      agrees_says bed (memory_at x) (memory_at x) (memory_at y) left (λ i p ok. refl) (λ i p ok. to.memories i p ok)
      (goes_agree bed is judged x y left rows uniform moves to)

  from_every_state : bed.own ≡ false → NeverPartsFrom bed (IsEvery bed)
  unfolding layer
  from_every_state judged = layers_hold bed 1 layer (λ before after. Agrees bed after) is.setup (λ before other after same h. h) layers
      (agreeing judged)

  pub runs_agree : bed.own ≡ false → NeverPartsFrom bed AnyState
  runs_agree judged x b c d es start begin =
      from_every_state judged x b c d es (begin_every x b begin) begin

  -- ---- a common clock

  common_stays : LeadsInto bed (InCommon bed is) (InCommon bed is)
  common_stays = goes_into bed (InCommon bed is) (InCommon bed is) (λ x y left rows all moves to.
      goes_in_common bed is x y left rows all moves to)

  keeping : MovesTo bed (InCommon bed is) (KeepsStep bed)
  keeping x left rows all moves =
      let y = built bed left rows in
      let to = built_is bed left rows in
      keeps_says bed (memory_at x) (memory_at x) (memory_at y) left (λ i p ok. refl) (λ i p ok. to.memories i p ok)
      (common_keeps bed is all.0 x y all.1 (goes_common bed is all.0 x y left rows all.1 moves to))

  pub runs_keep : (c : ℕ) → InStepFrom 0 bed (IsCommonAt bed c)
  runs_keep c x b s d es all begin run later pulse =
      stays_in_step bed (InCommon bed is) x is.setup common_stays keeping (c, all) b begin s d es run pulse

  -- ---- coins

  coins_into : (Here There : Config → Type 0) → ((x : Config) → Here x → CoinsTo bed is There x)
      → CoinsInto bed Here There
  coins_into Here There to x here =
      let by = to x here in (
        by.0,
        by.1,
        λ left rows moves.
            let y = built bed left rows in
            let so = built_is bed left rows in
            (y, by.2 y left rows moves so, so),
      )

  -- one pulse more
  led_more : (k : ℕ) (Here There : Config → Type 0) (x : Config) → CoinsInto bed Here There
      → ((y : Config) → There y → CoinsLead k bed y) → Here x → CoinsLead (suc k) bed x
  led_more k Here There x into on here = λ b begin.
      let by = into x here in (
        by.0,
        by.1,
        λ c d es run closed tossed pulse lies.
            let once = closes_once bed x b c d es by.0 is.setup begin run closed tossed pulse lies in
            let moves = moves_by_on bed x (λ i. inbox_of i b.mail) by.0 (memories_of d) (mail_from d.mail)
            (begin_inboxes bed x b is.setup begin) once.moves in
            let to = by.2 (memories_of d) (mail_from d.mail) moves in
            (to.0, once.begins to.0 to.2, on to.0 to.1),
      )

  coins_lead : (k : ℕ) (x : Config) → Left bed is k x → CoinsLead k bed x
  coins_lead zero x here =
      stays_in_step bed (InCommon bed is) x is.setup common_stays keeping (left_none bed is x here)
  coins_lead (suc k) x here =
      led_more k (Left bed is (suc k)) (Left bed is k) x
      (coins_into (Left bed is (suc k)) (Left bed is k) (λ y there. falls bed is k y there))
      (λ y there. coins_lead k y there) here

  from_uniform : (x : Config) → IsUniform bed x → CoinsLead (suc bed.setup.modulus) bed x
  from_uniform x uniform =
      led_more bed.setup.modulus (IsUniform bed) (Left bed is bed.setup.modulus) x
      (coins_into (IsUniform bed) (Left bed is bed.setup.modulus) (λ w here.
      any_coins bed is (Left bed is bed.setup.modulus) w
      (λ y left rows moves to. goes_left bed is w y left rows here moves to)))
      (λ y there. coins_lead bed.setup.modulus y there) uniform

  from_every : (x : Config) → IsEvery bed x → CoinsLead (suc (suc bed.setup.modulus)) bed x
  from_every x every =
      led_more (suc bed.setup.modulus) (IsEvery bed) (IsUniform bed) x
      (coins_into (IsEvery bed) (IsUniform bed) (λ w here.
      any_coins bed is (IsUniform bed) w (λ y left rows moves to. every_uniform w y left rows here moves to)))
      (λ y there. from_uniform y there) every

  every_every : LeadsInto bed (IsEvery bed) (IsEvery bed)
  every_every = goes_into bed (IsEvery bed) (IsEvery bed) (λ x y left rows every moves to.
      (every_uniform x y left rows every moves to).every)

  pub may_stabilise : LuckFrom (bed.setup.modulus + 2) bed AnyState
  may_stabilise x b c es any begin run =
      let start = begin_every x b begin in
      let stay = λ (k : ℕ). IsEvery bed in
      let end = there_run bed b.closed 0 stay b es c is.setup
      (record { next = λ k lt. absurd (omega (arith, lt)); closed = every_every }) (held_begin bed x b is.setup begin)
      (0, (x, start, begin.stands), first_place b.closed 0) run in
      let at = at_last bed b.closed 0 stay c (omega (arith, closed_grows bed b es c run)) end.1 in
      let e : suc (suc bed.setup.modulus) ≡ bed.setup.modulus + 2 = omega arith in (
        at.0,
        begin_run bed x at.0 b es c begin run end.0 at.2,
        subst (λ (m : ℕ). CoinsLead m bed at.0) e (from_every at.0 at.1),
      )
