use Rattle.std.proofs.Common.{◌≡◌, ℕ, ◌+◌, Some, None, List, refl, sym, ap, subst, inl, inr, ◌∙◌}
use Rattle.std.specs.Prelude.{IfOk, IsTrue}
use Rattle.std.proofs.lemmas.Result.{IfOk-weaker}
use Rattle.rule_syntax.specs.declared.syntax.Statement.{Statement}
use Rattle.rule_paths.specs.Relations.{Expression}
use Rattle.rule_paths.specs.Stores.{Store}
use Rattle.rule_paths.specs.Paths as paths
use Rattle.rule_paths.specs.Paths.{store_local, passed, with_let_count, rule_place}
use Rattle.rule_formulas.specs.Numbers.{expression}
use Rattle.rule_formulas.specs.Stores.{store_from}
use Rattle.rule_formulas.specs.declared.stores.Write.{Write}
use Rattle.rule_formulas.specs.Forms.{IsFormed, IsValued}
use Rattle.step_searches.specs.Searches.{paths_end}
use Rattle.certified_steps.specs.declared.search.Rest.{Rest}
use Rattle.certified_steps.specs.Searching.{path_place, behind, let_behind, if_behind, Refuted}
use Rattle.certified_steps.proofs.Moves.{moved, no_count, one_count}
use Rattle.certified_steps.proofs.search.+walks.Goals as goal

pub walk-returns-in-Second : goal.walk-returns-in-Second
walk-returns-in-Second t c =
    subst (λ (r : Rest). IfOk c.walk_second.result (λ yes. IsTrue yes → Refuted c.args.goal.now.known.now
    (behind c.args.task.now r (path_place c.args.at.now)))) (sym c.in-Second.is) (c.walk_second.ensures)

pub walk-returns-in-End : goal.walk-returns-in-End
walk-returns-in-End t c =
    subst (λ (r : Rest). IfOk c.close.result (λ yes. IsTrue yes → Refuted c.args.goal.now.known.now
    (behind c.args.task.now r (path_place c.args.at.now)))) (sym c.in-End.is) (c.close.ensures)

pub walk-returns-in-Nothing : goal.walk-returns-in-Nothing
walk-returns-in-Nothing t c =
    subst (λ (r : Rest). IfOk c.walk.result (λ yes. IsTrue yes → Refuted c.args.goal.now.known.now
    (behind c.args.task.now r (path_place c.args.at.now)))) (sym c.in-Then.is) (subst (λ (s : Statement). IfOk c.walk.result (λ yes. IsTrue yes → Refuted c.args.goal.now.known.now
    (passed s c.in-Then.d (path_place c.args.at.now) (behind c.args.task.now c.in-Then.more.now)))) (sym c.in-Nothing.is) (c.walk.ensures))

pub walk-returns-in-Then-p : goal.walk-returns-in-Then-p
walk-returns-in-Then-p t c =
    subst (λ (r : Rest). IfOk c.walk-in-Then-p.result (λ yes. IsTrue yes → Refuted c.args.goal.now.known.now
    (behind c.args.task.now r (path_place c.args.at.now)))) (sym c.in-Then.is) (subst (λ (s : Statement). IfOk c.walk-in-Then-p.result (λ yes. IsTrue yes → Refuted c.args.goal.now.known.now
    (passed s c.in-Then.d (path_place c.args.at.now) (behind c.args.task.now c.in-Then.more.now)))) (sym c.in-Then-p.is) (subst (λ (s : Statement). IfOk c.walk-in-Then-p.result (λ yes. IsTrue yes → Refuted c.args.goal.now.known.now
    (passed c.in-Then-p.a.value c.in-Then.d (path_place c.args.at.now) (λ next. passed s c.in-Then.d next (behind c.args.task.now c.in-Then.more.now))))) c.deref.ensures
    (subst (λ (s : Statement). IfOk c.walk-in-Then-p.result (λ yes. IsTrue yes → Refuted c.args.goal.now.known.now
    (passed s c.in-Then.d (path_place c.args.at.now) (λ next. passed c.deref.result.now c.in-Then.d next (behind c.args.task.now c.in-Then.more.now))))) c.deref-in-Then-p.ensures c.walk-in-Then-p.ensures)))

pub walk-returns-else-d : goal.walk-returns-else-d
walk-returns-else-d t c =
    subst (λ (r : Rest). IfOk c.walk_let.result (λ yes. IsTrue yes → Refuted c.args.goal.now.known.now
    (behind c.args.task.now r (path_place c.args.at.now)))) (sym c.in-Then.is) (subst (λ (s : Statement). IfOk c.walk_let.result (λ yes. IsTrue yes → Refuted c.args.goal.now.known.now
    (passed s c.in-Then.d (path_place c.args.at.now) (behind c.args.task.now c.in-Then.more.now)))) (sym c.in-Let.is) (subst (λ (s : Statement). IfOk c.walk_let.result (λ yes. IsTrue yes → Refuted c.args.goal.now.known.now
    (let_behind c.in-Let.e c.in-Then.d (λ next. passed s (c.in-Then.d + 1) next (behind c.args.task.now c.in-Then.more.now)) (path_place c.args.at.now)))) c.deref-in-Let.ensures c.walk_let.ensures))

pub walk-returns-in-Assign : goal.walk-returns-in-Assign
walk-returns-in-Assign t c =
    subst (λ (r : Rest). IfOk c.walk_assign.result (λ yes. IsTrue yes → Refuted c.args.goal.now.known.now
    (behind c.args.task.now r (path_place c.args.at.now)))) (sym c.in-Then.is) (subst (λ (s : Statement). IfOk c.walk_assign.result (λ yes. IsTrue yes → Refuted c.args.goal.now.known.now
    (passed s c.in-Then.d (path_place c.args.at.now) (behind c.args.task.now c.in-Then.more.now)))) (sym c.in-Assign.is) (c.walk_assign.ensures))

pub walk-returns-in-If : goal.walk-returns-in-If
walk-returns-in-If t c =
    subst (λ (r : Rest). IfOk c.walk_if.result (λ yes. IsTrue yes → Refuted c.args.goal.now.known.now
    (behind c.args.task.now r (path_place c.args.at.now)))) (sym c.in-Then.is) (subst (λ (s : Statement). IfOk c.walk_if.result (λ yes. IsTrue yes → Refuted c.args.goal.now.known.now
    (passed s c.in-Then.d (path_place c.args.at.now) (behind c.args.task.now c.in-Then.more.now)))) (sym c.in-If.is) (subst (λ (s : Statement). IfOk c.walk_if.result (λ yes. IsTrue yes → Refuted c.args.goal.now.known.now
    (if_behind c.in-If.t (λ next. passed c.in-If.a.value c.in-Then.d next (behind c.args.task.now c.in-Then.more.now)) (λ next. passed s c.in-Then.d next (behind c.args.task.now c.in-Then.more.now)) (path_place c.args.at.now)))) c.deref-in-If-2.ensures
    (subst (λ (s : Statement). IfOk c.walk_if.result (λ yes. IsTrue yes → Refuted c.args.goal.now.known.now
    (if_behind c.in-If.t (λ next. passed s c.in-Then.d next (behind c.args.task.now c.in-Then.more.now)) (λ next. passed c.deref-in-If-2.result.now c.in-Then.d next (behind c.args.task.now c.in-Then.more.now)) (path_place c.args.at.now)))) c.deref-in-If.ensures c.walk_if.ensures)))

pub walk-returns-in-SendAll : goal.walk-returns-in-SendAll
walk-returns-in-SendAll t c =
    subst (λ (r : Rest). IfOk c.walk_send.result (λ yes. IsTrue yes → Refuted c.args.goal.now.known.now
    (behind c.args.task.now r (path_place c.args.at.now)))) (sym c.in-Then.is) (subst (λ (s : Statement). IfOk c.walk_send.result (λ yes. IsTrue yes → Refuted c.args.goal.now.known.now
    (passed s c.in-Then.d (path_place c.args.at.now) (behind c.args.task.now c.in-Then.more.now)))) (sym c.in-SendAll.is) (c.walk_send.ensures))

pub walk_assign-returns : goal.walk_assign-returns
walk_assign-returns t c =
    let at = path_place c.args.at.now in
    let s : Store = at.store in
    let hx = c.in_ok-x.ensures in
    let a = paths.all_stored c.args.a.now s at.next in
    let store : store_from c.deref.result.now s ≡ a.store = ap (λ (l : List Write). store_from l s) c.deref.ensures.value ∙ hx.store in
    IfOk-weaker c.walk.result _ _ (λ yes says is v known h.
    says is v (hx.facts v h.0, known) (moved (behind c.args.task.now c.args.rest.now) v _ _ at.sent at.sent at.counts at.counts _ _
    (sym store) refl refl (sym hx.next) h.1)) c.walk.ensures

pub walk_if-returns-then-branch : goal.walk_if-returns-then-branch
walk_if-returns-then-branch t c =
    let at = path_place c.args.at.now in
    let f = paths.found_term None c.args.branches.now.test.now at.store at.next in
    let hx : IsFormed c.in_ok-x-in-Follow.x f = c.in_ok-x-in-Follow.ensures in
    let so = c.in_ok-holds-in-Follow.ensures.holds f.what hx.what in
    let not_so = c.in_ok-holds-in-Follow.ensures.fails f.what hx.what in
    IfOk-weaker c.walk-then-branch.result _ _ (λ yes says is v known h. elim h.1 [
      | inl a ↦ c.in_ok-walk-in-Follow.ensures c.if-branch.true v (so v a.0, (hx.facts v h.0, known))
          (moved (behind c.args.task.now c.args.branches.now.first.now) v at.store at.store at.sent at.sent at.counts at.counts _ _ refl refl refl (sym hx.next) a.1)
      | inr b ↦ says is v (not_so v b.0, (hx.facts v h.0, known))
          (moved (behind c.args.task.now c.args.branches.now.second.now) v at.store at.store at.sent at.sent at.counts at.counts _ _ refl refl refl (sym hx.next) b.1)
    ]) c.walk-then-branch.ensures

pub walk_let-returns-in-Some : goal.walk_let-returns-in-Some
walk_let-returns-in-Some t c =
    let at = path_place c.args.at.now in
    let e = c.args.bound.now.term.now in
    let local = c.args.bound.now.local in
    let f = paths.found_term None e at.store at.next in
    let hx : IsValued c.in_ok-x.x (paths.numbered f) = c.in_ok-x.ensures f c.in_ok-f.ensures in
    let store : store_local local (expression c.in_ok-x.x.number) at.store ≡ store_local local (paths.numbered f).number at.store =
    ap (λ (x : Expression). store_local local x at.store) hx.number in
    let counts = one_count e c.in-Some.test.now at.store at.next at.counts c.in-Some.ensures.some in
    IfOk-weaker c.walk.result _ _ (λ yes says is v known h.
    says is v (hx.facts v h.0, known) (moved (behind c.args.task.now c.args.rest.now) v _ _ at.sent at.sent _ _ _ _
    (sym store) refl counts (sym hx.next) h.1)) c.walk.ensures

pub walk_let-returns : goal.walk_let-returns
walk_let-returns t c =
    let at = path_place c.args.at.now in
    let e = c.args.bound.now.term.now in
    let local = c.args.bound.now.local in
    let f = paths.found_term None e at.store at.next in
    let hx : IsValued c.in_ok-x.x (paths.numbered f) = c.in_ok-x.ensures f c.in_ok-f.ensures in
    let store : store_local local (expression c.in_ok-x.x.number) at.store ≡ store_local local (paths.numbered f).number at.store =
    ap (λ (x : Expression). store_local local x at.store) hx.number in
    let counts = no_count e at.store at.next at.counts (c.in-None.ensures.none refl) in
    IfOk-weaker c.walk-in-None.result _ _ (λ yes says is v known h.
    says is v (hx.facts v h.0, known) (moved (behind c.args.task.now c.args.rest.now) v _ _ at.sent at.sent _ _ _ _
    (sym store) refl counts (sym hx.next) h.1)) c.walk-in-None.ensures

pub walk_second-returns : goal.walk_second-returns
walk_second-returns t c =
    let at = path_place c.args.at.now in
    let task = c.args.task.now in
    subst (λ (n : ℕ). IfOk c.walk.result (λ yes. IsTrue yes → Refuted c.args.goal.now.known.now
    (passed task.rule.now 0 (rule_place n at.next) (paths_end task.step.now task.uses.now at)))) c.in_ok-start.ensures c.walk.ensures

pub walk_send-returns : goal.walk_send-returns
walk_send-returns t c =
    let at = path_place c.args.at.now in
    let f = paths.found_term None c.args.e.now at.store at.next in
    let hx : IsValued c.in_ok-x.x (paths.numbered f) = c.in_ok-x.ensures f c.in_ok-f.ensures in
    IfOk-weaker c.walk.result _ _ (λ yes says is v known h.
    says is v (hx.facts v h.0, known) (moved (behind c.args.task.now c.args.rest.now) v at.store at.store _ _ at.counts at.counts _ _
    refl (ap (λ (x : Expression). Some x) (sym hx.number)) refl (sym hx.next) h.1)) c.walk.ensures
