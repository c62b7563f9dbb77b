use Rattle.std.proofs.Common.{◌≡◌, Bool, true, false, sym, subst, rules}
use Rattle.rule_paths.specs.Paths as paths
use Rattle.rule_paths.specs.Paths.{has_32_bits, store_with}
use Rattle.rule_formulas.specs.Numbers.{Implies}
use Rattle.certified_steps.proofs.instances.answer_of.Goals as goal

pub returns-then-answer : goal.returns-then-answer
returns-then-answer c w holds fails =
    let is : c.args.answer ≡ true = search rules in
    subst (λ (b : Bool). Implies (paths.answer_of w b) c.args.answers.holds) (sym is) holds

pub returns-else-answer : goal.returns-else-answer
returns-else-answer c w holds fails =
    let is : c.args.answer ≡ false = search rules in
    subst (λ (b : Bool). Implies (paths.answer_of w b) c.args.answers.fails) (sym is) fails
