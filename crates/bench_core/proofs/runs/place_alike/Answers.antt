use Rattle.std.proofs.Common.{◌∙◌, ℕ, get_or, length, refl, sym, ap, rules}
use Rattle.std.proofs.lemmas.Option.{slice_get_read}
use Rattle.bench_core.proofs.runs.place_alike.Goals as goal

pub returns-then-is_seen_with : goal.returns-then-is_seen_with
returns-then-is_seen_with c =
    let firsts = c.args.firsts.now in
    let dones = c.args.dones.now in
    let found = c.in-Some.ensures.lookup in (
      c.in-Some.done.now,
      slice_get_read dones (length dones) _ c.in-Some.done.now refl found.3.0 found.1,
      record {
        blind = search rules;
        first = ap (λ (k : ℕ). get_or firsts k 0) (sym c.node.ensures.value)
            ∙ (c.is_same_first.ensures c.if-is_same_first.true
            ∙ ap (λ (k : ℕ). get_or firsts k 0) c.id.ensures.value);
        before = c.is_seen_with.ensures.memory c.if-is_seen_with.true;
        sees = c.is_seen_with.ensures.setting c.if-is_seen_with.true;
      },
    )
