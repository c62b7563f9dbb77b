-- Events that a bench takes, wherever there is room.
use Rattle.std.proofs.Common.{◌≡◌, ℕ, zero, suc, ◌+◌, ◌≤◌, List, [], ◌∷◌, ◌++◌, map, take, arith, subst, refl}
use Rattle.std.specs.Prelude.{◌≢◌, flat_map, slice_get, Some}
use Rattle.bench_core.specs.declared.limits.TheConstants.{MAX_ENTRIES}
use Rattle.bench_core.specs.declared.refusal.StageError.TheVariants as stage
use Rattle.bench_core.specs.Setup.{Setup}
use Rattle.bench_core.specs.State.{AreCoins}
use Rattle.bench_core.specs.Refusals.{IsMisfit}
use Rattle.bench_workers.specs.Events.{Event, Stage, Pulse}
use Rattle.bench_workers.specs.declared.event.RunRefusal.{RunRefusal}
use Rattle.bench_workers.specs.declared.event.RunRefusal.TheVariants as refusals
use Rattle.bench_workers.specs.Runs.{IsEventFault, IsFirstRefused, IsRefusalOf, entries_after}
use Rattle.scenario_text.proofs.EntryLemmas.{Each}
use Rattle.bench_scenario.specs.Runs.{IsMemoryOrThread}

pub each_append : {A : Type 0} (P : A → Type 0) (xs ys : List A) → Each P xs → Each P ys → Each P (xs ++ ys)
each_append P [] ys first second = second
each_append P (x ∷ xs) ys first second = (first.0, each_append P xs ys first.1 second)

pub each_flat : {A B : Type 0} (P : B → Type 0) (Q : A → Type 0) (f : A → List B) (xs : List A)
    → ((x : A) → Q x → Each P (f x)) → Each Q xs → Each P (flat_map f xs)
each_flat P Q f [] leads each = tt
each_flat P Q f (x ∷ xs) leads each = each_append P (f x) (flat_map f xs) (leads x each.0)
    (each_flat P Q f xs leads each.1)

pub each_map : {A B : Type 0} (P : B → Type 0) (Q : A → Type 0) (f : A → B) (xs : List A) → ((x : A) → Q x → P (f x))
    → Each Q xs → Each P (map f xs)
each_map P Q f [] leads each = tt
each_map P Q f (x ∷ xs) leads each = (leads x each.0, each_map P Q f xs leads each.1)

each_at : {A : Type 0} (P : A → Type 0) (xs : List A) (k : ℕ) (x : A) → slice_get xs k ≡ Some x → Each P xs → P x
each_at P [] k x at each = absurd (cc)
each_at P (y ∷ xs) zero x at each = let same : y ≡ x = cc in subst P same each.0
each_at P (y ∷ xs) (suc k) x at each = each_at P xs k x at each.1

-- the bench takes the event, wherever there is room
abbrev pub Fits : Setup → Event → Type 0
Fits s (Stage c) = (IsMisfit s.shape c stage.BadNode → ⊥) × (IsMisfit s.shape c stage.OtherShape → ⊥)
    × (IsMisfit s.shape c stage.BadImage → ⊥)
Fits s (Pulse coins) = AreCoins s.shape coins

abbrev pub entries_of : Event → ℕ
entries_of (Stage c) = 1
entries_of (Pulse coins) = 2

pub entries_append : (xs ys : List Event) → entries_after (xs ++ ys) ≡ entries_after xs + entries_after ys
entries_append [] ys = omega arith
entries_append (Stage c ∷ xs) ys = let more = entries_append xs ys in omega arith
entries_append (Pulse coins ∷ xs) ys = let more = entries_append xs ys in omega arith

entries_before : (es : List Event) (k : ℕ) (e : Event) → slice_get es k ≡ Some e
    → entries_after (take k es) + entries_of e ≤ entries_after es
entries_before [] k e at = absurd (cc)
entries_before (Stage c ∷ es) zero e at = let same : Stage c ≡ e = cc in
    subst (λ x. 0 + entries_of x ≤ 1 + entries_after es) same (omega arith)
entries_before (Pulse coins ∷ es) zero e at = let same : Pulse coins ≡ e = cc in
    subst (λ x. 0 + entries_of x ≤ 2 + entries_after es) same (omega arith)
entries_before (Stage c ∷ es) (suc k) e at = let rest = entries_before es k e at in omega arith
entries_before (Pulse coins ∷ es) (suc k) e at = let rest = entries_before es k e at in omega arith

refused_here : (s : Setup) (n : ℕ) (e : Event) (refusal : RunRefusal) → Fits s e → n + entries_of e ≤ MAX_ENTRIES
    → refusal ≢ refusals.GateShut
    → IsRefusalOf s n e refusal → IsMemoryOrThread refusal
refused_here s n (Stage c) refusals.BadNode fits room ungated refused = fits.0 refused
refused_here s n (Stage c) refusals.OtherShape fits room ungated refused = fits.1 refused
refused_here s n (Stage c) refusals.BadImage fits room ungated refused = fits.2 refused
refused_here s n (Stage c) refusals.HistoryFull fits room ungated refused = absurd (let full = refused.1 in omega arith)
refused_here s n (Stage c) refusals.Memory fits room ungated refused = tt
refused_here s n (Stage c) refusals.BadCoins fits room ungated refused = refused
refused_here s n (Stage c) refusals.NoThread fits room ungated refused = tt
refused_here s n (Stage c) refusals.GateShut fits room ungated refused = refused
refused_here s n (Pulse coins) refusals.BadNode fits room ungated refused = refused
refused_here s n (Pulse coins) refusals.OtherShape fits room ungated refused = refused
refused_here s n (Pulse coins) refusals.BadImage fits room ungated refused = refused
refused_here s n (Pulse coins) refusals.HistoryFull fits room ungated refused = absurd
    (let full = refused.1 in omega arith)
refused_here s n (Pulse coins) refusals.Memory fits room ungated refused = tt
refused_here s n (Pulse coins) refusals.BadCoins fits room ungated refused = refused fits
refused_here s n (Pulse coins) refusals.NoThread fits room ungated refused = tt
refused_here s n (Pulse coins) refusals.GateShut fits room ungated refused = ungated refl

first_refused : (s : Setup) (es : List Event) (k : ℕ) (refusal : RunRefusal) → Each (Fits s) es
    → entries_after es ≤ MAX_ENTRIES → refusal ≢ refusals.GateShut
    → IsFirstRefused s es k refusal → IsMemoryOrThread refusal
first_refused s es k refusal each few ungated first =
    let room = entries_before es k first.event first.here in
    refused_here s (entries_after (take k es)) first.event refusal (each_at (Fits s) es k first.event first.here each)
    (omega arith) ungated first.refused

-- where the bench takes each event, and has room for all, none is refused for itself
pub none_refused : (s : Setup) (es : List Event) (k : ℕ) (refusal : RunRefusal) → Each (Fits s) es
    → entries_after es ≤ MAX_ENTRIES → refusal ≢ refusals.GateShut
    → IsEventFault s es k refusal → IsMemoryOrThread refusal
none_refused s es k refusals.BadNode each few ungated fault =
    first_refused s es k refusals.BadNode each few ungated fault
none_refused s es k refusals.OtherShape each few ungated fault =
    first_refused s es k refusals.OtherShape each few ungated fault
none_refused s es k refusals.BadImage each few ungated fault =
    first_refused s es k refusals.BadImage each few ungated fault
none_refused s es k refusals.HistoryFull each few ungated fault =
    first_refused s es k refusals.HistoryFull each few ungated fault
none_refused s es k refusals.Memory each few ungated fault = tt
none_refused s es k refusals.BadCoins each few ungated fault =
    first_refused s es k refusals.BadCoins each few ungated fault
none_refused s es k refusals.NoThread each few ungated fault = tt
none_refused s es k refusals.GateShut each few ungated fault = ungated refl
