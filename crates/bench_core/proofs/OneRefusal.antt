-- At most one refusal of a call applies.
use Rattle.std.proofs.Common.{◌≡◌, ℕ, ◌<◌, List, All, slice_get, Option, Some, None, IsSome, IsNone, refl, sym, ap, ◌∙◌, subst, arith, inl, inr}
use Rattle.std.proofs.lemmas.Bool.{cases_lt}
use Rattle.std.proofs.lemmas.Option.{same_Some, slice_get_within, get_or_from_slice_get}
use Rattle.bench_core.specs.declared.refusal.StageError.{StageError}
use Rattle.bench_core.specs.declared.refusal.StageError.TheVariants as stage
use Rattle.bench_core.specs.declared.refusal.OpenError.TheVariants as opening
use Rattle.bench_core.specs.declared.refusal.CloseError.TheVariants as closing
use Rattle.bench_core.specs.Setup.{Setup}
use Rattle.bench_core.specs.State.{Change, Load, Unload, Corrupt, node_of, IsChange}
use Rattle.bench_core.specs.Tasks.{Task, Done}
use Rattle.bench_core.specs.Refusals.{IsMisfit, IsLowest, IsStranger}
use Rattle.bench_core.specs.Laws.{OneStageRefusal, OneOpenRefusal, OneCloseRefusal}

-- ---- of a change

node_below : (s : Setup) (c : Change) → IsChange s.shape c → node_of c < s.shape.nodes
node_below s (Load i p) h = h.0
node_below s (Unload i) h = h
node_below s (Corrupt i image) h = h.0

fits_so : (s : Setup) (c : Change) (e : StageError) → IsChange s.shape c → IsMisfit s.shape c e → ⊥
fits_so s c stage.BadNode fits h = omega (arith, h, node_below s c fits)
fits_so s (Load i p) stage.OtherShape fits h = h.1 fits.1
fits_so s (Unload i) stage.OtherShape fits h = h.1
fits_so s (Corrupt i image) stage.OtherShape fits h = h.1
fits_so s (Load i p) stage.BadImage fits h = h.1
fits_so s (Unload i) stage.BadImage fits h = h.1
fits_so s (Corrupt i image) stage.BadImage fits h = h.1 fits.1.length
fits_so s c stage.HistoryFull fits h = h
fits_so s c stage.Memory fits h = h

not_both : (s : Setup) (c : Change) → IsMisfit s.shape c stage.OtherShape → IsMisfit s.shape c stage.BadImage → ⊥
not_both s (Load i p) h k = k.1
not_both s (Unload i) h k = k.1
not_both s (Corrupt i image) h k = h.1

pub one_stage_refusal : OneStageRefusal
one_stage_refusal b c stage.BadNode stage.BadNode h k = refl
one_stage_refusal b c stage.BadNode stage.OtherShape h k = absurd (omega (arith, h, k.0))
one_stage_refusal b c stage.BadNode stage.BadImage h k = absurd (omega (arith, h, k.0))
one_stage_refusal b c stage.BadNode stage.HistoryFull h k = absurd (fits_so b.setup c stage.BadNode k.0 h)
one_stage_refusal b c stage.BadNode stage.Memory h k = absurd (fits_so b.setup c stage.BadNode k.0 h)
one_stage_refusal b c stage.OtherShape stage.BadNode h k = absurd (omega (arith, k, h.0))
one_stage_refusal b c stage.OtherShape stage.OtherShape h k = refl
one_stage_refusal b c stage.OtherShape stage.BadImage h k = absurd (not_both b.setup c h k)
one_stage_refusal b c stage.OtherShape stage.HistoryFull h k = absurd (fits_so b.setup c stage.OtherShape k.0 h)
one_stage_refusal b c stage.OtherShape stage.Memory h k = absurd (fits_so b.setup c stage.OtherShape k.0 h)
one_stage_refusal b c stage.BadImage stage.BadNode h k = absurd (omega (arith, k, h.0))
one_stage_refusal b c stage.BadImage stage.OtherShape h k = absurd (not_both b.setup c k h)
one_stage_refusal b c stage.BadImage stage.BadImage h k = refl
one_stage_refusal b c stage.BadImage stage.HistoryFull h k = absurd (fits_so b.setup c stage.BadImage k.0 h)
one_stage_refusal b c stage.BadImage stage.Memory h k = absurd (fits_so b.setup c stage.BadImage k.0 h)
one_stage_refusal b c stage.HistoryFull stage.HistoryFull h k = refl
one_stage_refusal b c stage.HistoryFull stage.Memory h k = absurd (omega (arith, h.1, k.1))
one_stage_refusal b c stage.HistoryFull stage.BadNode h k = absurd (fits_so b.setup c stage.BadNode h.0 k)
one_stage_refusal b c stage.HistoryFull stage.OtherShape h k = absurd (fits_so b.setup c stage.OtherShape h.0 k)
one_stage_refusal b c stage.HistoryFull stage.BadImage h k = absurd (fits_so b.setup c stage.BadImage h.0 k)
one_stage_refusal b c stage.Memory stage.Memory h k = refl
one_stage_refusal b c stage.Memory stage.HistoryFull h k = absurd (omega (arith, h.1, k.1))
one_stage_refusal b c stage.Memory stage.BadNode h k = absurd (fits_so b.setup c stage.BadNode h.0 k)
one_stage_refusal b c stage.Memory stage.OtherShape h k = absurd (fits_so b.setup c stage.OtherShape h.0 k)
one_stage_refusal b c stage.Memory stage.BadImage h k = absurd (fits_so b.setup c stage.BadImage h.0 k)

-- ---- of an opening

open_and_not : {X : Type 0} (o : Option X) → IsSome o → IsNone o → ⊥
open_and_not None h k = cc
open_and_not (Some x) h k = cc

pub one_open_refusal : OneOpenRefusal
one_open_refusal b coins opening.PulseOpen opening.PulseOpen h k = refl
one_open_refusal b coins opening.PulseOpen opening.BadCoins h k = absurd (open_and_not b.state.coins h k.0)
one_open_refusal b coins opening.PulseOpen opening.HistoryFull h k = absurd (open_and_not b.state.coins h k.0.0)
one_open_refusal b coins opening.PulseOpen opening.Memory h k = absurd (open_and_not b.state.coins h k.0.0)
one_open_refusal b coins opening.BadCoins opening.PulseOpen h k = absurd (open_and_not b.state.coins k h.0)
one_open_refusal b coins opening.BadCoins opening.BadCoins h k = refl
one_open_refusal b coins opening.BadCoins opening.HistoryFull h k = absurd (h.1 k.0.1)
one_open_refusal b coins opening.BadCoins opening.Memory h k = absurd (h.1 k.0.1)
one_open_refusal b coins opening.HistoryFull opening.PulseOpen h k = absurd (open_and_not b.state.coins k h.0.0)
one_open_refusal b coins opening.HistoryFull opening.BadCoins h k = absurd (k.1 h.0.1)
one_open_refusal b coins opening.HistoryFull opening.HistoryFull h k = refl
one_open_refusal b coins opening.HistoryFull opening.Memory h k = absurd (omega (arith, h.1, k.1))
one_open_refusal b coins opening.Memory opening.PulseOpen h k = absurd (open_and_not b.state.coins k h.0.0)
one_open_refusal b coins opening.Memory opening.BadCoins h k = absurd (k.1 h.0.1)
one_open_refusal b coins opening.Memory opening.HistoryFull h k = absurd (omega (arith, h.1, k.1))
one_open_refusal b coins opening.Memory opening.Memory h k = refl

-- ---- of a close

one_lowest : (P : ℕ → Type 0) (i j : ℕ) → IsLowest P i → IsLowest P j → i ≡ j
one_lowest P i j h k =
    elim (cases_lt i j) [
      | inl lt ↦ absurd (k.1 i lt h.0)
      | inr past ↦ elim (cases_lt j i) [ inl lt ↦ absurd (h.1 j lt k.0) | inr other ↦ omega (arith, past, other) ]
    ]

one_stranger : (handed : Task → Type 0) (dones : List Done) (i j : ℕ) → IsStranger handed dones i
    → IsStranger handed dones j → i ≡ j
one_stranger handed dones i j h k =
    elim (cases_lt h.place k.place) [
      | inl lt ↦ absurd (h.stranger (k.before h.place h.one lt h.at))
      | inr past ↦ elim (cases_lt k.place h.place) [
        | inl lt ↦ absurd (k.stranger (h.before k.place k.one lt k.at))
        | inr other ↦
            let here : h.place ≡ k.place = omega (arith, past, other) in
            let same : h.one ≡ k.one = same_Some h.one k.one (sym h.at ∙ (ap (slice_get dones) here ∙ k.at)) in
            sym h.node ∙ (ap (λ (d : Done). d.task.node) same ∙ k.node)
      ]
    ]

known_so : (handed : Task → Type 0) (dones : List Done) (i : ℕ) → IsStranger handed dones i
    → All (λ d. handed d.task) dones → ⊥
known_so handed dones i h known =
    h.stranger (subst (λ (d : Done). handed d.task) (get_or_from_slice_get dones h.place h.one h.one h.at)
    (known h.place h.one (slice_get_within dones h.place h.one h.at)))

pub one_close_refusal : OneCloseRefusal
one_close_refusal b dones closing.NotOpen closing.NotOpen h k = refl
one_close_refusal b dones closing.NotOpen (closing.Missing j) h k = absurd (open_and_not b.state.coins k.0 h)
one_close_refusal b dones closing.NotOpen (closing.Twice j) h k = absurd (open_and_not b.state.coins k.0 h)
one_close_refusal b dones closing.NotOpen (closing.Stranger j) h k = absurd (open_and_not b.state.coins k.0 h)
one_close_refusal b dones closing.NotOpen closing.Memory h k = absurd (open_and_not b.state.coins k.0 h)
one_close_refusal b dones (closing.Missing i) closing.NotOpen h k = absurd (open_and_not b.state.coins h.0 k)
one_close_refusal b dones (closing.Missing i) (closing.Missing j) h k = ap closing.Missing (one_lowest _ i j h.1 k.1)
one_close_refusal b dones (closing.Missing i) (closing.Twice j) h k = absurd (k.1 i h.1.0)
one_close_refusal b dones (closing.Missing i) (closing.Stranger j) h k = absurd (k.1 i h.1.0)
one_close_refusal b dones (closing.Missing i) closing.Memory h k = absurd (k.1.none_missing i h.1.0)
one_close_refusal b dones (closing.Twice i) closing.NotOpen h k = absurd (open_and_not b.state.coins h.0 k)
one_close_refusal b dones (closing.Twice i) (closing.Missing j) h k = absurd (h.1 j k.1.0)
one_close_refusal b dones (closing.Twice i) (closing.Twice j) h k = ap closing.Twice (one_lowest _ i j h.2 k.2)
one_close_refusal b dones (closing.Twice i) (closing.Stranger j) h k = absurd (k.2 i h.2.0)
one_close_refusal b dones (closing.Twice i) closing.Memory h k = absurd (k.1.none_twice i h.2.0)
one_close_refusal b dones (closing.Stranger i) closing.NotOpen h k = absurd (open_and_not b.state.coins h.0 k)
one_close_refusal b dones (closing.Stranger i) (closing.Missing j) h k = absurd (h.1 j k.1.0)
one_close_refusal b dones (closing.Stranger i) (closing.Twice j) h k = absurd (h.2 j k.2.0)
one_close_refusal b dones (closing.Stranger i) (closing.Stranger j) h k = ap closing.Stranger
    (one_stranger _ dones i j h.3 k.3)
one_close_refusal b dones (closing.Stranger i) closing.Memory h k = absurd (known_so _ dones i h.3 k.1.no_stranger)
one_close_refusal b dones closing.Memory closing.NotOpen h k = absurd (open_and_not b.state.coins h.0 k)
one_close_refusal b dones closing.Memory (closing.Missing j) h k = absurd (h.1.none_missing j k.1.0)
one_close_refusal b dones closing.Memory (closing.Twice j) h k = absurd (h.1.none_twice j k.2.0)
one_close_refusal b dones closing.Memory (closing.Stranger j) h k = absurd (known_so _ dones j k.3 h.1.no_stranger)
one_close_refusal b dones closing.Memory closing.Memory h k = refl
