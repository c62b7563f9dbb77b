use Rattle.std.proofs.Common.{◌≡◌, ◌<◌, ◌+◌, ◌∷◌, ℕ, List, drop, map, length, All, ap, sym, subst, ◌∙◌, arith, refl}
use Rattle.std.proofs.lemmas.List.{drop_more}
use Rattle.std.proofs.lemmas.List.Elements.{All-head, All-tail}
use Rattle.bench_core.specs.State.{all_applied, applied, Change, Node, node_of}
use Rattle.bench_core.specs.inner.Replay.{staged_of}
use Rattle.bench_core.specs.Views.{entry_of, change_of}
use Rattle.bench_core.specs.declared.entry.Entry.{Entry}
use Rattle.bench_core.specs.declared.entry.Entry.TheVariants.{Staged, Opened, Closed, Abandoned}
use Rattle.bench_core.proofs.node.apply_all.Goals as goal
use Rattle.bench_core.proofs.node.apply_all.Goals.{in-Staged+in_ok-apply, in_default}

-- what is left to apply, with its nodes within
abbrev Left : List Node → ℕ → List Node → List Entry → Type 0
Left target n nodes es = (all_applied nodes (staged_of (map entry_of es)) ≡ target)
    × All (λ ch. node_of ch < n) (staged_of (map entry_of es))

left_skip : (target : List Node) (n : ℕ) (nodes : List Node) (e : Entry) (es : List Entry)
    → ((a : _) (ch : _) → e ≡ Staged a ch → ⊥) → Left target n nodes (e ∷ es) → Left target n nodes es
left_skip target n nodes (Staged a ch) es not h = absurd (not a ch refl)
left_skip target n nodes (Opened coins) es not h = h
left_skip target n nodes (Closed row) es not h = h
left_skip target n nodes Abandoned es not h = h

pub apply-requires-clause-within : goal.apply-requires-clause-within
apply-requires-clause-within c =
    let es = c.args.entries.now in
    let i = c.loop-entry.entry-index in
    let rest : drop i es ≡ Staged c.in-Staged.actor c.in-Staged.change
    ∷ drop (i + 1) es = drop_more es i _ c.loop-entry-test.true
    ∙ ap (λ x. x ∷ drop (i + 1) es) (sym c.entry-item.is ∙ c.in-Staged.is) in
    let fit = subst (λ xs. All (λ ch. node_of ch < length c.args.nodes.now) (staged_of (map entry_of xs))) rest
    c.loop-entry.invariant.within in
    let here = All-head (λ (ch : Change). node_of ch < length c.args.nodes.now) (change_of c.in-Staged.change)
    (staged_of (map entry_of (drop (i + 1) es))) fit in
    omega (arith, here, c.loop-entry.auto.nodes)

pub loop-entry-preserved : goal.loop-entry-preserved
loop-entry-preserved c =
    let es = c.args.entries.now in
    let i = c.loop-entry.entry-index in
    let target = all_applied c.args.nodes.now (staged_of (map entry_of es)) in
    let n = length c.args.nodes.now in
    let more : drop i es ≡ c.entry-item.result ∷ drop (i + 1) es = drop_more es i _ c.loop-entry-test.true
    ∙ ap (λ x. x ∷ drop (i + 1) es) (sym c.entry-item.is) in
    let left = subst (Left target n c.loop-entry.nodes) more
    (c.loop-entry.invariant.nodes, c.loop-entry.invariant.within) in
    elim c.match-entry.branch [
      | in-Staged+in_ok-apply w ↦
          let left' = subst (λ x. Left target n c.loop-entry.nodes (x ∷ drop (i + 1) es)) w.in-Staged.is left in
          let nodes : c.match-entry.nodes ≡ applied c.loop-entry.nodes (change_of w.in-Staged.change) = w.nodes-is
          ∙ w.in_ok-apply.ensures.nodes in
          record {
            nodes = ap (λ ns. all_applied ns (staged_of (map entry_of (drop (i + 1) es)))) nodes ∙ left'.0;
            within = All-tail (λ (ch : Change). node_of ch < n) (change_of w.in-Staged.change) _ left'.1;
            flags = rw (w.nodes-is, w.flags-is) w.in_ok-apply.ensures.flags;
          }
      | in_default w ↦
          let left' = left_skip target n c.loop-entry.nodes c.entry-item.result
          (drop (i + 1) es) w.in_default.not-Staged left in
          record {
            nodes = ap (λ ns. all_applied ns (staged_of (map entry_of (drop (i + 1) es)))) w.nodes-is ∙ left'.0;
            within = left'.1;
            flags = rw (w.nodes-is, w.flags-is) c.loop-entry.invariant.flags;
          }
    ]
