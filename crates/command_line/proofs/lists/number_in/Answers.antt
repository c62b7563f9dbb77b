use Rattle.std.proofs.Common.{◌≡◌, ◌<◌, ◌^◌, ℕ, get_or, subst, sym}
use Rattle.std.specs.Prelude.{Option, IfSome, IfNone, Some, None}
use Rattle.command_line.specs.Lists.{IsDecimal}
use Rattle.command_line.proofs.RejectedLemmas.{begins_with_plus, decimal_if, none_if}
use Rattle.command_line.proofs.lists.number_in.Goals as goal

pub returns-then-starts_with-clause-none : goal.returns-then-starts_with-clause-none
returns-then-starts_with-clause-none c = begins_with_plus c.args.text.now c.starts_with.result c.starts_with.ensures.cases
    c.if-starts_with.true

pub returns-clause-none : goal.returns-clause-none
returns-clause-none c = subst (λ (o : Option ℕ). IfNone o ((n : ℕ) → IsDecimal c.args.text.now n → n < 2 ^ 32 → ⊥))
    (sym c.ok.ensures.value) (none_if c.args.text.now c.parse.result c.parse.ensures.value.0)

pub returns-clause-digits : goal.returns-clause-digits
returns-clause-digits c = subst (λ (o : Option ℕ). IfSome o (IsDecimal c.args.text.now)) (sym c.ok.ensures.value)
    (decimal_if c.args.text.now c.starts_with.result c.starts_with.ensures.cases c.if-starts_with.false c.parse.result
    c.parse.ensures.value.0)
