use Rattle.std.proofs.Common.{◌≡◌, ℕ, ◌+◌, ◌-◌, Some, subst, arith}
use Rattle.rule_paths.specs.Relations.{Variable}
use Rattle.rule_paths.specs.Paths as paths
use Rattle.rule_paths.specs.Paths.{has_32_bits, store_with}
use Rattle.rule_formulas.specs.Numbers.{integers}
use Rattle.rule_formulas.specs.Stores.{written_store}
use Rattle.rule_formulas.specs.Forms.{IsFormed}
use Rattle.certified_steps.proofs.instances.answered.Goals as goal

pub returns : goal.returns
returns c =
    let a = c.args.a.now in
    let s = written_store a.store.now in
    let k = c.args.k in
    let e : c.in_ok-beyond_node.field-0 - 1 ≡ k + 2 = omega (arith, c.in_ok-beyond_node.ensures) in
    let hx = subst (λ (n : ℕ). IsFormed c.in_ok-x.x (paths.found_term (Some (record { node = Variable k; message = Variable n })) a.test.now s c.args.m))
    e c.in_ok-x.ensures in
    let f = paths.found_term (Some (record { node = Variable k; message = Variable (k + 2) })) a.test.now s c.args.m in
    let said = c.answer_of-answer.ensures f.what (c.in_ok-both_ways.ensures.holds f.what hx.what) (c.in_ok-both_ways.ensures.fails f.what hx.what) in
    record {
      facts = λ v h. c.in_ok-both.ensures (integers v) (hx.facts v h.0) (said v h.1);
      next = hx.next;
    }
