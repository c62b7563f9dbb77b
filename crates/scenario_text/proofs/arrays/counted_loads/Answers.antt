use Rattle.std.proofs.Common.{◌≡◌, ℕ, ◌+◌, ◌-◌, ◌<◌, ◌≤◌, take, get_or, arith, rules, ap, ap₂, sym, subst, ◌∙◌}
use Rattle.toml.specs.View.{view, items_view}
use Rattle.scenario_text.specs.inner.Arrays.{count_in, item_count}
use Rattle.scenario_text.proofs.TableLemmas.{counted_more, counted_take}
use Rattle.scenario_text.proofs.arrays.counted_loads.Goals as goal

over : (most total count part whole : ℕ) → total ≤ most → most - total < count → part ≡ total + count → part ≤ whole
    → most < whole
over most total count part whole few above is within = omega arith

pub returns-then-count-most : goal.returns-then-count-most
returns-then-count-most c =
    let items = c.deref-value-items.result.now in
    let i = c.loop-value.value-index in
    let v = c.value-item.result in
    let found : get_or items i v ≡ v = search rules in
    let count : c.count_in-count.result ≡ count_in (view (get_or items i v)) = c.count_in-count.ensures
    ∙ ap (λ w. count_in (view w)) (sym found) in
    let more = counted_more items i v (omega arith) in
    let total : item_count (items_view (take (i + 1) items)) ≡ c.loop-value.total + c.count_in-count.result =
    more ∙ sym (ap₂ (λ a b. a + b) c.loop-value.invariant.total count) in
    let above = over c.args.most c.loop-value.total c.count_in-count.result _ _ c.loop-value.invariant.few
    (omega arith) total (counted_take items (i + 1)) in
    subst (λ vs. c.args.most < item_count (items_view vs)) c.loop-value.invariant.same above

pub loop-value-preserved : goal.loop-value-preserved
loop-value-preserved c =
    let items = c.deref-value-items.result.now in
    let i = c.loop-value.value-index in
    let v = c.value-item.result in
    let found : get_or items i v ≡ v = search rules in
    let count : c.count_in-count.result ≡ count_in (view (get_or items i v)) = c.count_in-count.ensures
    ∙ ap (λ w. count_in (view w)) (sym found) in
    let more = counted_more items i v (omega arith) in
    record {
      same = c.loop-value.invariant.same;
      total = ap₂ (λ a b. a + b) c.loop-value.invariant.total count ∙ sym more;
      few = omega arith;
    }
