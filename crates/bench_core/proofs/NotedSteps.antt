-- The steps of results are noted one after the other.
use Rattle.std.proofs.Common.{◌≡◌, ◌≢◌, ℕ, ◌+◌, ◌<◌, List, [], ◌∷◌, ◌++◌, length, get_or, take, replicate, slice_set, inl, inr, sym, ap, subst, ◌∙◌, arith}
use Rattle.std.specs.Prelude.{All, Contains}
use Rattle.std.proofs.lemmas.Bool.{cases_eq}
use Rattle.std.proofs.lemmas.List.{get_or-set_same, get_or-set_other, get_or-replicate, take_all}
use Rattle.std.proofs.lemmas.List.Elements.{All-nil, All-push}
use Rattle.bench_core.specs.Tasks.{Done, IsEnd}
use Rattle.bench_core.specs.inner.Steps.{TookIn, TookAt}

-- of no result nothing is noted
pub took_none : (dones : List Done) (nodes i : ℕ) → i < nodes → TookIn dones 0 i (get_or (replicate nodes 0) i 0)
took_none dones nodes i within = inr (All-nil (λ d. d.task.node ≢ i), get_or-replicate nodes i 0 0 within)

-- one more result, of another node
took_on : (dones : List Done) (n : ℕ) (d : Done) (i k : ℕ) → take (n + 1) dones ≡ take n dones ++ d ∷ []
    → d.task.node ≢ i → TookIn dones n i k → TookIn dones (n + 1) i k
took_on dones n d i k more other (inl took) = inl took
took_on dones n d i k more other (inr none) =
    inr (
      subst (All (λ e. e.task.node ≢ i)) (sym more)
          (All-push (λ e. e.task.node ≢ i) (take n dones) d none.0 other),
      none.1,
    )

-- one more result, of a node of its own
pub took_more : (dones : List Done) (n : ℕ) (d : Done) (steps : List ℕ) → take (n + 1) dones ≡ take n dones ++ d ∷ []
    → Contains dones d → IsEnd d → (i : ℕ) → i < length steps → TookIn dones n i (get_or steps i 0)
    → TookIn dones (n + 1) i (get_or (slice_set steps d.task.node d.end.steps) i 0)
took_more dones n d steps more among ends i within before =
    elim (cases_eq i d.task.node) [
      | inl e ↦ inl (record {
        one = d;
        among = among;
        node = sym e;
        ends = ends;
        steps = ap (λ k. get_or (slice_set steps d.task.node d.end.steps) k 0) e
            ∙ get_or-set_same steps d.task.node d.end.steps 0 (omega (arith, within, e));
      })
      | inr other ↦
          let kept : get_or (slice_set steps d.task.node d.end.steps) i 0 ≡ get_or steps i 0 =
          get_or-set_other steps d.task.node i d.end.steps 0 other in
          subst (TookIn dones (n + 1) i) (sym kept)
          (took_on dones n d i (get_or steps i 0) more (λ e. other (sym e)) before)
    ]

-- after all results
pub took_all : (dones : List Done) (i k n : ℕ) → length dones < n + 1 → TookIn dones n i k → TookAt dones i k
took_all dones i k n whole (inl took) = inl took
took_all dones i k n whole (inr none) =
    inr (subst (All (λ d. d.task.node ≢ i)) (take_all n dones (omega (arith, whole))) none.0, none.1)
