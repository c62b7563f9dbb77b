use Rattle.std.proofs.Common.{◌≡◌, ◌<◌, [], map, get_or, All, Contains, ap, length, sym, subst, ◌∙◌, arith, below_more}
use Rattle.std.proofs.lemmas.List.{get_or_default, length-map}
use Rattle.bounded_runs.specs.Bounded.{Bound, EndsSo}
use Rattle.bounded_runs.specs.inner.Inputs.{env_with, rows_of}
use Rattle.bounded_runs.proofs.AlikeInputs.{ends_left, ends_right}
use Rattle.bounded_runs.proofs.AllRows.{item_at, row_length}
use Rattle.bounded_runs.proofs.EveryInput.{AreAll, bound_of_messages, bounded_by}
use Rattle.bounded_runs.proofs.all.ends_of.Goals as goal

pub loop-inbox-init : goal.loop-inbox-init
loop-inbox-init c = λ k lt. absurd (omega (arith, lt))

pub ends_with-requires-clause-inbox : goal.ends_with-requires-clause-inbox
ends_with-requires-clause-inbox c =
    let inboxes = c.deref-inbox-items.result.now in
    let i = c.loop-inbox.inbox-index in
    let is = c.deref-in-loop-inbox.ensures.value
    ∙ item_at (λ v. v.items) inboxes i c.inbox-item.result [] c.loop-inbox-test.true c.inbox-item.is in
    let whole = ap (map (λ v. v.items)) c.deref-inbox-items.ensures.value ∙ c.in_ok-inboxes.ensures in
    ap length is
    ∙ (row_length (record { number = c.args.bound; kept = [] }) c.nodes-2.result (map (λ v. v.items) inboxes) i whole
    (omega (arith, c.loop-inbox-test.true, length-map inboxes (λ v. v.items)))
    ∙ (c.nodes-2.ensures.value ∙ ap (λ shape. shape.nodes) c.shape-shape.ensures))

pub loop-inbox-preserved : goal.loop-inbox-preserved
loop-inbox-preserved c =
    let program = c.args.program.now.program in
    let bound : Bound = record { number = c.args.bound; kept = c.args.kept.now } in
    let inboxes = c.deref-inbox-items.result.now in
    let i = c.loop-inbox.inbox-index in
    let memories = map (λ v. v.items) c.deref.result.now in
    let old = c.loop-inbox.ends in
    let new = c.in_ok-ends_with.field-0 in
    let is = c.deref-in-loop-inbox.ensures.value
    ∙ item_at (λ v. v.items) inboxes i c.inbox-item.result [] c.loop-inbox-test.true c.inbox-item.is in
    rw c.and-ends.ensures (below_more _ _
    (λ k lt coin small n d within.
    ends_left old new program bound _ _ (c.loop-inbox.invariant k lt coin small n d within))
    (λ coin small n d within. ends_right old new program bound _ _
    (subst (λ row. EndsSo new program bound (env_with c.args.program.now.shape c.args.id row coin)
    (get_or memories n d)) is (c.in_ok-ends_with.ensures coin small n d within))))

pub returns : goal.returns
returns c =
    let program = c.args.program.now.program in
    let shape = c.args.program.now.shape in
    let bound : Bound = record { number = c.args.bound; kept = c.args.kept.now } in
    let id = c.args.id in
    let memories = map (λ v. v.items) c.deref.result.now in
    let inboxes = c.deref-inbox-items.result.now in
    let rows = map (λ v. v.items) inboxes in
    let nodes = c.nodes-2.ensures.value ∙ ap (λ s. s.nodes) c.shape-shape.ensures in
    let whole : rows ≡ rows_of (bound_of_messages bound) 0 shape.nodes =
    ap (map (λ v. v.items)) c.deref-inbox-items.ensures.value
    ∙ (c.in_ok-inboxes.ensures ∙ ap (rows_of (bound_of_messages bound) 0) nodes) in
    let size = c.memory.ensures.value ∙ ap (λ s. s.memory) c.shape-shape.ensures in
    let all : AreAll bound shape.memory memories = subst (λ vecs. AreAll bound shape.memory (map (λ v. v.items) vecs))
    (sym c.deref.ensures.value) (λ m is bytes.
    let near = c.in_ok-memories.ensures.each m (is ∙ sym size) bytes in (
      near.0,
      omega (arith, near.1, length-map c.in_ok-memories.memories.items (λ v. v.items)),
      near.2,
    )) in
    bounded_by c.loop-inbox.ends program shape id bound memories c.ranges.bound.fits all (λ row coin listed small.
    let there : Contains rows row = subst (λ r. Contains r row) (sym whole) listed in
    let count = length-map inboxes (λ v. v.items) in
    let within : there.0 < c.loop-inbox.inbox-index = omega (arith, there.1, c.loop-inbox-test.false, count) in
    subst (λ r. All (EndsSo c.loop-inbox.ends program bound (env_with shape id r coin)) memories)
    (get_or_default rows there.0 [] row there.1 ∙ there.2) (c.loop-inbox.invariant there.0 within coin small))
