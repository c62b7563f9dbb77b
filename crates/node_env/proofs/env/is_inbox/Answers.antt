use Rattle.std.proofs.Common.{arith, ◌≡◌, ◌<◌, ℕ, Option, Some, None, true, length, not, eqb, sym, ◌∙◌, ap, subst, refl, get_or, eq-eqb}
use Rattle.std.specs.Option.{option_eq}
use Rattle.node_env.proofs.Rows.{inbox_slot}
use Rattle.node_env.proofs.env.is_inbox.Goals as goal

equal_to_itself : (slot : Option ℕ) → option_eq eqb slot slot ≡ true
equal_to_itself None = refl
equal_to_itself (Some n) = eq-eqb n n refl

pub returns-then-ne : goal.returns-then-ne
returns-then-ne c = (
  λ never. cc,
  λ e.
      let low : c.loop-sender.sender < length c.args.mail.now = omega arith in
      let read : get_or c.args.inbox.now c.loop-sender.sender None ≡ c.slot.result =
      inbox_slot c.args.inbox.now c.args.mail.now c.loop-sender.sender c.args.receiver low e ∙ sym c.slot.ensures in
      let equal : option_eq eqb (get_or c.args.inbox.now c.loop-sender.sender None) c.slot.result ≡ true =
      subst (λ slot. option_eq eqb (get_or c.args.inbox.now c.loop-sender.sender None) slot ≡ true) read
      (equal_to_itself (get_or c.args.inbox.now c.loop-sender.sender None)) in
      sym (c.if-ne.ensures ∙ ap not equal),
)
