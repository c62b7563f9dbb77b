use Rattle.std.proofs.Common.{◌≡◌, ◌-◌, get_or, refl, arith, rules}
use Rattle.rule_syntax.specs.declared.syntax.Target.TheVariants.{ToLocal, ToWord}
use Rattle.rule_formulas.specs.declared.numbers.Number.TheVariants as numbers
use Rattle.rule_formulas.specs.declared.stores.Write.{Write}
use Rattle.rule_formulas.proofs.StoreLists.{word_same, word_other}
use Rattle.rule_formulas.proofs.stores.+word_in.Goals as goal

abbrev nothing : Write
nothing = record { target = ToLocal 0; number = numbers.Constant 0 }

pub returns-then-eq : goal.returns-then-eq
returns-then-eq t c s h =
    let w = get_or c.args.writes.now (c.args.n - 1) nothing in
    let is : w.target ≡ ToWord c.args.k = search rules in
    word_same c.args.writes.now c.args.n c.args.k w nothing s (omega (arith, c.if-n-eq0.false)) (search rules) refl is

pub returns-else-eq : goal.returns-else-eq
returns-else-eq t c s h =
    let w = get_or c.args.writes.now (c.args.n - 1) nothing in
    let is_not : w.target ≡ ToWord c.args.k → ⊥ = λ e. search rules in
    word_other c.args.writes.now c.args.n c.args.k w nothing s _ (omega (arith, c.if-n-eq0.false)) (search rules) refl is_not (c.word_in.ensures s h)
