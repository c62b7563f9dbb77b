use Rattle.std.proofs.Common.{arith, inl, inr, ⊎_elim}
use Rattle.command_line.proofs.NumberLemmas.{one_more}
use Rattle.command_line.proofs.lists.insert_span.Goals as goal

pub loop-number-init : goal.loop-number-init
loop-number-init c = λ n. ((λ h. inl h), (λ h. ⊎_elim (λ old. old) (λ none. absurd (omega arith)) h))

pub loop-number-preserved : goal.loop-number-preserved
loop-number-preserved c = one_more c.args.numbers.now.keys c.loop-number.numbers.keys c.insert.new.self.keys
    c.args.span.first c.loop-number.number c.loop-number.auto.number c.loop-number.invariant
    c.in_ok-insert.ensures.keys

pub returns-in_ok-insert : goal.returns-in_ok-insert
returns-in_ok-insert c =
    let more = one_more c.args.numbers.now.keys c.loop-number.numbers.keys c.insert.new.self.keys c.args.span.first
    c.loop-number.number c.loop-number.auto.number c.loop-number.invariant c.in_ok-insert.ensures.keys in λ n. (
      (λ h. ⊎_elim (λ old. inl old) (λ w. inr (w.0, omega arith)) ((more n).0 h)),
      (λ h. (more n).1 (⊎_elim (λ old. inl old) (λ w. inr (w.0, omega arith)) h)),
    )
