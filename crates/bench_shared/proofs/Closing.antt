-- What a close of the locked bench tells of the shared one.
use Rattle.std.proofs.Common.{◌≡◌, ℕ, ◌-◌, List, [], ◌∷◌, ◌++◌, length, Some, None, All, refl, sym, ap, ◌∙◌, subst, arith, length-append}
use Rattle.std.specs.Prelude.{Option, slice_get}
use Rattle.bench_core.specs.Setup.{Setup}
use Rattle.bench_core.specs.Told.{PulseTold, IsRecord}
use Rattle.bench_core.specs.Replay.{Advances, BenchValue, Staged, Opened, Closed, Abandoned, Replays, StagesAccepted}
use Rattle.bench_shared.specs.Passes.{Placed, OneMore}
use Rattle.bench_shared.specs.Told.{OpenedLast, TellsClose}

pub tells_close : (s : Setup) (old new : BenchValue) (coins : List ℕ) (told : PulseTold) → old.setup ≡ s
    → Replays old.setup old.history old.state → All StagesAccepted old.history → old.state.coins ≡ Some coins
    → Advances old (Closed told.row) new
    → IsRecord old.setup old.state new.state told → TellsClose s coins told
tells_close s old new coins told same replays accepted now step tells =
    subst (λ (t : Setup). TellsClose t coins told) same record {
      history = old.history;
      before = old.state;
      after = new.state;
      replays = replays;
      accepted = accepted;
      is_open = now;
      pulse = step.step.0;
      tells = tells;
    }

-- ---- the receipt of an opening

at_end : {A : Type 0} (l : List A) (x : A) → slice_get (l ++ x ∷ []) (length (l ++ x ∷ []) - 1) ≡ Some x
at_end {A} l x = ap (slice_get (l ++ x ∷ [])) (omega (arith, length-append l (x ∷ []))) ∙ behind l
  where
    behind : (l : List A) → slice_get (l ++ x ∷ []) (length l) ≡ Some x
    behind [] = refl
    behind (y ∷ ys) = behind ys

opened_in : Option Placed → List ℕ
opened_in None = []
opened_in (Some (place, Staged actor change)) = []
opened_in (Some (place, Opened coins)) = coins
opened_in (Some (place, Closed row)) = []
opened_in (Some (place, Abandoned)) = []

-- the coins of the receipt that was added last
pub opened_is : (old new : List Placed) (coins last : List ℕ) → OneMore old (Opened coins) new → OpenedLast new last
    → last ≡ coins
unfolding opened_in
opened_is old new coins last more opened =
    ap opened_in (sym opened.1 ∙ ap (λ l. slice_get l (length l - 1)) more.1 ∙ at_end old (more.0, Opened coins))
