use Rattle.std.proofs.Common.{ℕ, sym, subst}
use Rattle.std.proofs.lemmas.Result.{IfOk-weaker}
use Rattle.std.specs.Prelude.{IfOk}
use Rattle.rule_syntax.specs.declared.syntax.Term.{Term}
use Rattle.rule_paths.specs.Stores.{Store}
use Rattle.rule_paths.specs.Paths as paths
use Rattle.rule_formulas.specs.Stores.{written_store}
use Rattle.rule_formulas.specs.Forms.{around_of, IsFormed, IsValued}
use Rattle.rule_formulas.proofs.terms.+form.Goals as goal

pub returns-in_ok-w-in-Choice : goal.returns-in_ok-w-in-Choice
returns-in_ok-w-in-Choice t c =
    let s : Store = written_store c.args.store.now in
    let r = around_of c.args.around in
    let f = paths.found_term r c.in-Choice.test.value s c.args.k in
    let hx : IsFormed c.in_ok-x-in-Choice.x f =
    subst (λ (u : Term). IsFormed c.in_ok-x-in-Choice.x (paths.found_term r u s c.args.k)) c.deref-in-Choice.ensures c.in_ok-x-in-Choice.ensures in
    let fa = paths.found_term r c.in-Choice.a.value s f.next in
    let ha : IsFormed c.in_ok-f-in-Choice.f fa =
    subst (λ (n : ℕ). IsFormed c.in_ok-f-in-Choice.f (paths.found_term r c.in-Choice.a.value s n)) hx.next
    (subst (λ (u : Term). IsFormed c.in_ok-f-in-Choice.f (paths.found_term r u s c.in_ok-x-in-Choice.x.next)) c.deref-in-Choice-2.ensures c.in_ok-f-in-Choice.ensures) in
    let y = paths.numbered fa in
    let hy : IsValued c.in_ok-y-in-Choice.y y = c.in_ok-y-in-Choice.ensures fa ha in
    let fb = paths.found_term r c.in-Choice.b.value s y.next in
    let hb : IsFormed c.in_ok-g-in-Choice.g fb =
    subst (λ (n : ℕ). IsFormed c.in_ok-g-in-Choice.g (paths.found_term r c.in-Choice.b.value s n)) hy.next
    (subst (λ (u : Term). IsFormed c.in_ok-g-in-Choice.g (paths.found_term r u s c.in_ok-y-in-Choice.y.next)) c.deref-in-Choice-3.ensures c.in_ok-g-in-Choice.ensures) in
    let w = paths.numbered fb in
    let hw : IsValued c.in_ok-w-in-Choice.w w = c.in_ok-w-in-Choice.ensures fb hb in
    subst (λ (u : Term). IfOk c.choice.result (λ m. IsFormed m (paths.found_term r u s c.args.k))) (sym c.in-Choice.is)
    (IfOk-weaker c.choice.result _ _ (λ m says. says f y w hx hy hw) c.choice.ensures)
