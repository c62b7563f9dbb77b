use Rattle.std.proofs.Common.{◌≡◌, ◌∷◌, [], ℕ, List, length, get_or, map, All, slice_set, refl, ap, sym, subst, ◌∙◌, arith, inl, inr, get_or-set_same, get_or-set_other, rules}
use Rattle.std.proofs.lemmas.Bool.{cases_eq, cases_lt}
use Rattle.std.proofs.lemmas.List.{set_past}
use Rattle.std.proofs.lemmas.List.Elements.{All-head, All-tail}
use Rattle.bench_core.specs.State.{Change, Load, Unload, Corrupt, Node, no_node, node_at, applied, all_applied}
use Rattle.bench_core.specs.inner.Nodes.{KeepsPrograms, KnowsFirsts}
use Rattle.bench_core.specs.inner.Replay.{staged_of}
use Rattle.bench_core.specs.Views.{entry_of}
use Rattle.bench_core.proofs.Sound.{length-all_applied}
use Rattle.bench_core.proofs.pulse.firsts_after.Goals as goal

kept_once : (xs : List Node) (c : Change) (i : ℕ) → KeepsPrograms c
    → (node_at (applied xs c) i).program ≡ (node_at xs i).program
kept_once xs (Load k p) i h = absurd h
kept_once xs (Unload k) i h = absurd h
kept_once xs (Corrupt k image) i h =
    let y : Node = record { program = (node_at xs k).program; memory = image; mark = (node_at xs k).mark } in
    elim (cases_eq i k) [
      | inl e ↦ elim (cases_lt k (length xs)) [
        | inl lt ↦ ap (λ (n : ℕ). (node_at (slice_set xs k y) n).program) e
            ∙ (ap (λ (x : Node). x.program) (get_or-set_same xs k y no_node lt)
            ∙ ap (λ (n : ℕ). (node_at xs n).program) (sym e))
        | inr past ↦ ap (λ (ys : List Node). (node_at ys i).program) (set_past xs k y past)
      ]
      | inr ne ↦ ap (λ (x : Node). x.program) (get_or-set_other xs k i y no_node ne)
    ]

kept_all : (cs : List Change) (xs : List Node) (i : ℕ) → All KeepsPrograms cs
    → (node_at (all_applied xs cs) i).program ≡ (node_at xs i).program
kept_all [] xs i h = refl
kept_all (c ∷ cs) xs i h =
    kept_all cs (applied xs c) i (All-tail KeepsPrograms c cs h)
    ∙ kept_once xs c i (All-head KeepsPrograms c cs h)

firsts_kept : (cs : List Change) (xs : List Node) (firsts : List ℕ) → All KeepsPrograms cs → KnowsFirsts xs firsts
    → KnowsFirsts (all_applied xs cs) firsts
firsts_kept cs xs firsts keep h =
    let whole = length-all_applied cs xs in
    record {
      count = h.count ∙ sym whole;
      within = λ i lt. let low = h.within i (omega (arith, lt, whole)) in omega (arith, low, whole);
      same = λ i lt. kept_all cs xs (get_or firsts i 0) keep
          ∙ (h.same i (omega (arith, lt, whole)) ∙ sym (kept_all cs xs i keep));
    }

pub returns : goal.returns
returns c =
    let staged = staged_of (map entry_of c.args.staged.now) in
    let items : c.in_ok-kept.kept.items ≡ c.args.firsts.now = search rules in
    let kept = firsts_kept staged c.args.before.now c.args.firsts.now
    (c.keep_programs.ensures c.if-not-keep_programs.false) c.requires.firsts in
    subst (λ (fs : List ℕ). KnowsFirsts c.args.nodes.now fs) (sym items)
    (subst (λ (xs : List Node). KnowsFirsts xs c.args.firsts.now) (sym c.requires.nodes) kept)
