use Rattle.std.proofs.Common.{ℕ, subst, inl, inr}
use Rattle.rule_paths.specs.Relations.{Expression, Plus, IsAtMost}
use Rattle.rule_paths.specs.Stores.{FaultBound}
use Rattle.rule_formulas.specs.Numbers.{expression, integers, Implies}
use Rattle.step_searches.specs.Laws as laws
use Rattle.certified_steps.specs.Instances.{IsInstance, answer_count}
use Rattle.certified_steps.proofs.instances.one_count.Goals as goal

pub returns : goal.returns
returns c =
    let a = c.args.a.now in
    let d = answer_count a in
    let k = c.args.k in
    let holds = a.tested.answer in
    let hw = subst (λ (n : ℕ). IsInstance c.in_ok-w.w (laws.answered d holds k n)) c.in_ok-m.ensures c.in_ok-w.ensures in
    let few : Implies (IsAtMost (laws.more d holds) (Plus FaultBound (laws.less_number d holds))) c.in_ok-few.few =
    subst (λ (e : Expression). Implies (IsAtMost (laws.more d holds) (Plus FaultBound e)) c.in_ok-few.few) c.fewer.ensures
    (subst (λ (e : Expression). Implies (IsAtMost e (Plus FaultBound (expression c.fewer.result))) c.in_ok-few.few) c.more.ensures c.in_ok-few.ensures) in
    record {
      facts = λ v h.
          let i = integers v in
          c.in_ok-either.ensures i (elim h [
            | inl x ↦ inl (few v x)
            | inr x ↦ inr (c.in_ok-heard.ensures i
                (c.in_ok-sender.ensures i (c.in_ok-node.ensures v x.0.0) (c.in_ok-correct.ensures v x.0.1)) (hw.facts v x.1))
          ]);
      next = hw.next;
    }
