use Rattle.std.proofs.Common.{◌≡◌, ℕ, Bool, if◌then◌else◌, subst, inl, inr}
use Rattle.rule_paths.specs.Relations.{Always}
use Rattle.rule_formulas.specs.Numbers.{integers, Implies}
use Rattle.step_searches.specs.Laws as laws
use Rattle.step_searches.specs.Searches.{pair_of}
use Rattle.certified_steps.specs.Instances.{IsInstance, answer_count, few_of_two}
use Rattle.certified_steps.proofs.instances.two_counts.Goals as goal

pub returns : goal.returns
returns c =
    let a = c.args.a.now in
    let b = c.args.b.now in
    let k = c.args.k in
    let one = a.tested.answer in
    let two = b.tested.answer in
    let hu = subst (λ (n : ℕ). IsInstance c.in_ok-u.u (laws.answered (answer_count a) one k n)) c.in_ok-m.ensures c.in_ok-u.ensures in
    let hw = subst (λ (n : ℕ). IsInstance c.in_ok-w.w (laws.answered (answer_count b) two k n)) hu.next c.in_ok-w.ensures in
    let same : c.is_same_node-same.result ≡ laws.same_node a.tested b.tested = c.is_same_node-same.ensures in
    let few = subst (λ (x : Bool). Implies (few_of_two x (answer_count a) one (answer_count b) two) c.in_ok-few.few) same c.in_ok-few.ensures in
    let correct = subst (λ (x : Bool). Implies (if x then Always else laws.is_correct (pair_of c.args.step.now) k) c.in_ok-correct.correct) same c.in_ok-correct.ensures in
    record {
      facts = λ v h.
          let i = integers v in
          c.in_ok-either.ensures i (elim h [
            | inl x ↦ inl (few v x)
            | inr x ↦ inr (c.in_ok-heard.ensures i
                (c.in_ok-sender.ensures i (c.in_ok-node.ensures v x.0.0) (correct v x.0.1))
                (c.in_ok-tested.ensures i (hu.facts v x.1.0) (hw.facts v x.1.1)))
          ]);
      next = hw.next;
    }
