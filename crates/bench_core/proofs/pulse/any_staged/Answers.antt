use Rattle.std.proofs.Common.{◌≡◌, ◌∷◌, ◌+◌, List, drop, map, ap, sym, ◌∙◌, arith, refl}
use Rattle.std.proofs.lemmas.List.{drop_more, drop_all}
use Rattle.bench_core.specs.declared.entry.Entry.{Entry}
use Rattle.bench_core.specs.declared.entry.Entry.TheVariants.{Staged, Opened, Closed, Abandoned}
use Rattle.bench_core.specs.inner.Replay.{staged_of}
use Rattle.bench_core.specs.Views.{entry_of}
use Rattle.bench_core.proofs.pulse.any_staged.Goals as goal

unstaged : (e : Entry) (es : List Entry) → ((a : _) (ch : _) → e ≡ Staged a ch → ⊥)
    → staged_of (map entry_of es) ≡ staged_of (map entry_of (e ∷ es))
unstaged (Staged a ch) es not = absurd (not a ch refl)
unstaged (Opened coins) es not = refl
unstaged (Closed row) es not = refl
unstaged Abandoned es not = refl

pub loop-entry-preserved : goal.loop-entry-preserved
loop-entry-preserved c =
    let es = c.args.entries.now in
    let i = c.loop-entry.entry-index in
    let more : drop i es ≡ c.entry-item.result ∷ drop (i + 1) es = drop_more es i _ c.loop-entry-test.true
    ∙ ap (λ x. x ∷ drop (i + 1) es) (sym c.entry-item.is) in
    unstaged c.entry-item.result (drop (i + 1) es) c.in_default.not-Staged
    ∙ (ap (λ x. staged_of (map entry_of x)) (sym more) ∙ c.loop-entry.invariant)

pub returns : goal.returns
returns c = λ _.
    sym c.loop-entry.invariant
    ∙ ap (λ x. staged_of (map entry_of x)) (drop_all c.loop-entry.entry-index c.args.entries.now (omega arith))
