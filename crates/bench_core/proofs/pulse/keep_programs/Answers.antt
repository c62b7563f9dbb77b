use Rattle.std.proofs.Common.{◌≡◌, ◌∷◌, ◌+◌, List, drop, map, All, ap, sym, subst, ◌∙◌, arith}
use Rattle.std.proofs.lemmas.List.{drop_more, drop_all}
use Rattle.std.proofs.lemmas.List.Elements.{All-cons, All-nil}
use Rattle.bench_core.specs.declared.entry.Entry.{Entry}
use Rattle.bench_core.specs.declared.entry.Entry.TheVariants.{Staged, Opened, Closed, Abandoned}
use Rattle.bench_core.specs.inner.Nodes.{KeepsPrograms, StagesKept}
use Rattle.bench_core.specs.inner.Replay.{staged_of}
use Rattle.bench_core.specs.Views.{change_of, entry_of}
use Rattle.bench_core.proofs.pulse.keep_programs.Goals as goal

-- all that are staged keep programs
abbrev Keep : List Entry → Type 0
Keep es = All KeepsPrograms (staged_of (map entry_of es))

more : (e : Entry) (es : List Entry) → StagesKept (entry_of e) → Keep es → Keep (e ∷ es)
more (Staged a ch) es h rest = All-cons KeepsPrograms (change_of ch) (staged_of (map entry_of es)) h rest
more (Opened coins) es h rest = rest
more (Closed row) es h rest = rest
more Abandoned es h rest = rest

pub loop-entry-preserved : goal.loop-entry-preserved
loop-entry-preserved c = λ h.
    let es = c.args.entries.now in
    let i = c.loop-entry.entry-index in
    let here : drop i es ≡ c.entry-item.result ∷ drop (i + 1) es = drop_more es i _ c.loop-entry-test.true
    ∙ ap (λ x. x ∷ drop (i + 1) es) (sym c.entry-item.is) in
    c.loop-entry.invariant (subst Keep (sym here) (more c.entry-item.result (drop (i + 1) es)
    (c.keeps_programs.ensures c.if-not-keeps_programs.false) h))

pub returns : goal.returns
returns c = λ _.
    c.loop-entry.invariant (subst Keep (sym (drop_all c.loop-entry.entry-index c.args.entries.now (omega arith)))
    (All-nil KeepsPrograms))
