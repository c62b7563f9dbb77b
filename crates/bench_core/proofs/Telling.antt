-- Lists that are written one place after the other, and what is told of a closed pulse.
use Rattle.std.proofs.Common.{◌≡◌, ℕ, zero, suc, ◌+◌, ◌<◌, ◌≤◌, ◌&&◌, Bool, false, List, [], ◌∷◌, ◌++◌, length, map, get_or, slice_set, refl, sym, ap, ◌∙◌, arith, inl, inr, get_or-set_same, get_or-set_other}
use Rattle.std.proofs.lemmas.Bool.{cases_eq}
use Rattle.std.proofs.lemmas.List.Elements.{All-nil, All-push, All-weaker, Contains-push, Contains-append_left}
use Rattle.std.proofs.lemmas.List.{length-map}
use Rattle.bench_core.specs.State.{Node, node_at}
use Rattle.bench_core.specs.Settled.{settled_flags}
use Rattle.bench_core.specs.inner.Told.{both_marked, IsMostSteps}
use Rattle.bench_core.specs.Tasks.{Done}
use Rattle.bench_core.proofs.Replays.{same_lists}
use Rattle.bench_core.proofs.Counting.{get_map}

-- a write at the next place, where each place before holds what it is to hold
pub set_more : {X : Type 0} (xs : List X) (f : ℕ → X) (d v : X) (i : ℕ) → i < length xs
    → ((k : ℕ) → k < i → get_or xs k d ≡ f k) → v ≡ f i
    → (k : ℕ) → k < i + 1 → get_or (slice_set xs i v) k d ≡ f k
set_more xs f d v i lt before here k within =
    elim (cases_eq k i) [
      | inl e ↦ ap (λ (n : ℕ). get_or (slice_set xs i v) n d) e ∙ (get_or-set_same xs i v d lt ∙ (here ∙ ap f (sym e)))
      | inr ne ↦ get_or-set_other xs i k v d ne ∙ before k (omega arith)
    ]

length-both : (marks : List Bool) (nodes : List Node) → length marks ≡ length nodes
    → length (both_marked marks nodes) ≡ length marks
length-both [] nodes e = refl
length-both (x ∷ marks) [] e = absurd (omega arith)
length-both (x ∷ marks) (y ∷ nodes) e = ap suc (length-both marks nodes (omega arith))

get-both : (marks : List Bool) (nodes : List Node) (k : ℕ) → length marks ≡ length nodes → k < length marks
    → get_or (both_marked marks nodes) k false ≡ (get_or marks k false && (node_at nodes k).mark)
get-both [] nodes k e lt = absurd (omega arith)
get-both (x ∷ marks) [] k e lt = absurd (omega arith)
get-both (x ∷ marks) (y ∷ nodes) zero e lt = refl
get-both (x ∷ marks) (y ∷ nodes) (suc k) e lt = get-both marks nodes k (omega arith) (omega arith)

pub both_by_place : (marks written : List Bool) (nodes : List Node) → length marks ≡ length nodes
    → length written ≡ length marks
    → ((k : ℕ) → k < length nodes → get_or written k false ≡ (get_or marks k false && (node_at nodes k).mark))
    → written ≡ both_marked marks nodes
both_by_place marks written nodes e whole each =
    same_lists false written (both_marked marks nodes) (whole ∙ sym (length-both marks nodes e))
    (λ k lt. each k (omega (arith, lt, whole, e)) ∙ sym (get-both marks nodes k e (omega (arith, lt, whole))))

pub map_by_place : {X Y : Type 0} (f : X → Y) (written : List Y) (xs : List X) (d : X) (e : Y)
    → length written ≡ length xs
    → ((k : ℕ) → k < length xs → get_or written k e ≡ f (get_or xs k d)) → written ≡ map f xs
map_by_place f written xs d e whole each =
    same_lists e written (map f xs) (whole ∙ sym (length-map xs f))
    (λ k lt. each k (omega (arith, lt, whole)) ∙ sym (get_map f xs k d e (omega (arith, lt, whole))))

-- of marks before and nodes after, as of nodes before and after
pub both_settled : (before after : List Node) → both_marked
    (map (λ x. x.mark) before) after ≡ settled_flags before after
both_settled [] after = refl
both_settled (x ∷ before) [] = refl
both_settled (x ∷ before) (y ∷ after) = ap (λ fs. (x.mark && y.mark) ∷ fs) (both_settled before after)

-- ---- the greatest number of steps

pub no_more : (ds : List Done) (d : Done) (k : ℕ) → IsMostSteps ds k → d.end.steps ≤ k → IsMostSteps (ds ++ d ∷ []) k
no_more ds d k h le = record {
  most = All-push (λ x. x.end.steps ≤ k) ds d h.most le;
  reached = elim h.reached [
    | inl at ↦ inl (at.0, Contains-append_left ds (d ∷ []) at.0 at.1, at.2)
    | inr none ↦ inl (d, Contains-push ds d, omega (arith, le, none.1))
  ];
}

pub one_more : (ds : List Done) (d : Done) (k : ℕ) → IsMostSteps ds k → k ≤ d.end.steps
    → IsMostSteps (ds ++ d ∷ []) d.end.steps
one_more ds d k h le = record {
  most = All-push (λ x. x.end.steps ≤ d.end.steps) ds d
      (All-weaker (λ x. x.end.steps ≤ k) (λ x. x.end.steps ≤ d.end.steps) (λ x few. omega (arith, few, le)) ds h.most)
      (omega arith);
  reached = inl (d, Contains-push ds d, refl);
}

pub none_most : IsMostSteps [] 0
none_most = record { most = All-nil (λ d. d.end.steps ≤ 0); reached = inr (refl, refl) }
