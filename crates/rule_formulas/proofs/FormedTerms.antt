-- What is formed of a term, by what it is.
use Rattle.std.proofs.Common.{◌≡◌, ℕ, ◌+◌, refl, sym, ap, subst}
use Rattle.linear_certificates.specs.declared.data.Formula.{Formula}
use Rattle.linear_certificates.specs.Meaning.{Assignment}
use Rattle.linear_certificates.specs.Meaning as linear
use Rattle.rule_paths.specs.Relations.{Variable, Relation, Always, RelationHolds}
use Rattle.rule_paths.specs.Paths as paths
use Rattle.rule_formulas.specs.declared.numbers.Number.{Number}
use Rattle.rule_formulas.specs.declared.numbers.Number.TheVariants as numbers
use Rattle.rule_formulas.specs.declared.terms.What.{What}
use Rattle.rule_formulas.specs.declared.terms.What.TheVariants.{Value, Truth, Sender}
use Rattle.rule_formulas.specs.declared.terms.Formed.{Formed}
use Rattle.rule_formulas.specs.declared.terms.Valued.{Valued}
use Rattle.rule_formulas.specs.Numbers.{expression, integers, Implies}
use Rattle.rule_formulas.specs.Forms.{IsFormedWhat, IsFormed, IsValued}

pub value_numbered : (x : Formed) (n : Number) (f : paths.Found) → x.what ≡ Value n → IsFormed x f
    → IsValued (record { facts = x.facts; number = n; next = x.next }) (paths.numbered f)
value_numbered x n f e h =
    let made : Valued = record { facts = x.facts; number = n; next = x.next } in
    let what : f.what ≡ paths.Value (expression n) = subst (λ (k : What). IsFormedWhat k f.what) e h.what in
    subst (λ (k : paths.What). IsValued made (paths.numbered_as k f.facts f.next)) (sym what)
    (record { facts = h.facts; number = refl; next = h.next })

pub sender_numbered : (x : Formed) (n m : Number) (f : paths.Found) → x.what ≡ Sender n m → IsFormed x f
    → IsValued (record { facts = x.facts; number = n; next = x.next }) (paths.numbered f)
sender_numbered x n m f e h =
    let made : Valued = record { facts = x.facts; number = n; next = x.next } in
    let what : f.what ≡ paths.Sender (expression n) (expression m) = subst (λ (k : What). IsFormedWhat k f.what) e h.what in
    subst (λ (k : paths.What). IsValued made (paths.numbered_as k f.facts f.next)) (sym what)
    (record { facts = h.facts; number = refl; next = h.next })

pub truth_numbered : (x : Formed) (so not_so bit facts : Formula) (f : paths.Found) → x.what ≡ Truth so not_so
    → ((p q : Relation) → Implies p so → Implies q not_so → Implies (paths.is_bit p q (Variable x.next)) bit)
    → ((v : Assignment) → linear.FormulaHolds v x.facts → linear.FormulaHolds v bit → linear.FormulaHolds v facts) → IsFormed x f
    → IsValued (record { facts = facts; number = numbers.Variable x.next; next = x.next + 1 }) (paths.numbered f)
truth_numbered x so not_so bit facts f e is both h =
    let made : Valued = record { facts = facts; number = numbers.Variable x.next; next = x.next + 1 } in
    let what : IsFormedWhat (Truth so not_so) f.what = subst (λ (k : What). IsFormedWhat k f.what) e h.what in
    let p = what.0 in
    let q = what.1 in
    subst (λ (k : paths.What). IsValued made (paths.numbered_as k f.facts f.next)) (sym what.2) (record {
      facts = λ v g. both (integers v) (h.facts v g.0) (is p q what.3 what.4 v
          (subst (λ (n : ℕ). RelationHolds v (paths.is_bit p q (Variable n))) (sym h.next) g.1));
      number = ap Variable h.next;
      next = ap (λ (n : ℕ). n + 1) h.next;
    })

pub truth_holds : (what : What) (so not_so : Formula) (w : paths.What) → what ≡ Truth so not_so → IsFormedWhat what w
    → Implies (paths.holds_of w) so
truth_holds what so not_so w e h =
    let is : IsFormedWhat (Truth so not_so) w = subst (λ (k : What). IsFormedWhat k w) e h in
    subst (λ (k : paths.What). Implies (paths.holds_of k) so) (sym is.2) is.3

pub truth_fails : (what : What) (so not_so : Formula) (w : paths.What) → what ≡ Truth so not_so → IsFormedWhat what w
    → Implies (paths.fails_of w) not_so
truth_fails what so not_so w e h =
    let is : IsFormedWhat (Truth so not_so) w = subst (λ (k : What). IsFormedWhat k w) e h in
    subst (λ (k : paths.What). Implies (paths.fails_of k) not_so) (sym is.2) is.4

-- ---- messages

pub sender_message : (x : Formed) (n m : Number) (f : paths.Found) → x.what ≡ Sender n m → IsFormed x f
    → IsFormed (record { facts = x.facts; what = Value m; next = x.next }) (paths.message_as f.what f)
sender_message x n m f e h =
    let made : Formed = record { facts = x.facts; what = Value m; next = x.next } in
    let what : f.what ≡ paths.Sender (expression n) (expression m) = subst (λ (k : What). IsFormedWhat k f.what) e h.what in
    subst (λ (k : paths.What). IsFormed made (paths.message_as k f)) (sym what)
    (record { facts = h.facts; what = refl; next = h.next })

abbrev any_message : Formed → Formed → paths.Found → Type 0
any_message made x f = IsFormed made (paths.with_fresh f.facts x.next (λ r. Always))

pub value_message : (made x : Formed) (n : Number) (f : paths.Found) → x.what ≡ Value n → IsFormed x f → any_message made x f
    → IsFormed made (paths.message_as f.what f)
value_message made x n f e h g =
    let what : f.what ≡ paths.Value (expression n) = subst (λ (k : What). IsFormedWhat k f.what) e h.what in
    subst (λ (k : paths.What). IsFormed made (paths.message_as k f)) (sym what)
    (subst (λ (n : ℕ). IsFormed made (paths.with_fresh f.facts n (λ r. Always))) h.next g)

pub truth_message : (made x : Formed) (so not_so : Formula) (f : paths.Found) → x.what ≡ Truth so not_so → IsFormed x f
    → any_message made x f → IsFormed made (paths.message_as f.what f)
truth_message made x so not_so f e h g =
    let what : IsFormedWhat (Truth so not_so) f.what = subst (λ (k : What). IsFormedWhat k f.what) e h.what in
    subst (λ (k : paths.What). IsFormed made (paths.message_as k f)) (sym what.2)
    (subst (λ (n : ℕ). IsFormed made (paths.with_fresh f.facts n (λ r. Always))) h.next g)
