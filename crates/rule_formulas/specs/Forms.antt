-- Formulas of found_term terms.
use Rattle.std.specs.Prelude.{◌≡◌, Option, Some, None}
use Rattle.rule_paths.specs.Relations.{Relation}
use Rattle.rule_paths.specs.Paths as paths
use Rattle.rule_formulas.specs.declared.terms.Around.{Around}
use Rattle.rule_formulas.specs.declared.terms.What.{What}
use Rattle.rule_formulas.specs.declared.terms.What.TheVariants.{Value, Truth, Sender}
use Rattle.rule_formulas.specs.declared.terms.Formed.{Formed}
use Rattle.rule_formulas.specs.declared.terms.Valued.{Valued}
use Rattle.rule_formulas.specs.Numbers.{expression, Implies}

abbrev pub around_of : Option Around → Option paths.Around
around_of None = None
around_of (Some a) = Some (record { node = expression a.node; message = expression a.message })

abbrev pub IsFormedWhat : What → paths.What → Type 0
IsFormedWhat (Value x) what = what ≡ paths.Value (expression x)
IsFormedWhat (Truth so not_so) what =
    (p q : Relation) × (what ≡ paths.Truth p q) × Implies p so × Implies q not_so
IsFormedWhat (Sender x message) what = what ≡ paths.Sender (expression x) (expression message)

pub record IsFormed (made : Formed) (f : paths.Found) : Type 0 where
  pub facts : Implies f.facts made.facts
  pub what : IsFormedWhat made.what f.what
  pub next : made.next ≡ f.next

pub record IsValued (made : Valued) (f : paths.Numbered) : Type 0 where
  pub facts : Implies f.facts made.facts
  pub number : expression made.number ≡ f.number
  pub next : made.next ≡ f.next
