use Rattle.std.proofs.Common.{List, ℕ, subst}
use Rattle.command_answers.proofs.StartLemmas.{started_reading}
use Rattle.command_answers.proofs.WriteLemmas.{of_reading}
use Rattle.commands.specs.Perform.{Responds}
use Rattle.commands.proofs.FrontLemmas.{responds_to, unread}
use Rattle.commands.proofs.perform.carry_out.Goals as goal

pub returns-in-Ok-clause-carried_out : goal.returns-in-Ok-clause-carried_out
returns-in-Ok-clause-carried_out g c =
    let old = g.W.Write.contents c.args.out.now in
    let new = g.W.Write.contents c.respond.new.out in
    let left = subst (λ (b : List ℕ). Responds c.args.request.now b old new c.respond.result) c.as_slice.ensures.value
    c.respond.ensures.left in (
      c.input_of.result,
      c.input_of.ensures,
      responds_to c.args.request.now c.input_of.result c.in-Ok.bytes.items (g.R.Source.remaining c.args.reader.now) _ old new
          c.respond.result c.in-Ok.ensures.bytes c.in-Ok.ensures.nothing left,
    )

pub returns-in-Ok-clause-taken : goal.returns-in-Ok-clause-taken
returns-in-Ok-clause-taken g c = (c.input_of.result, c.input_of.ensures, c.in-Ok.ensures.taken)

pub returns-in-Err-clause-carried_out : goal.returns-in-Err-clause-carried_out
returns-in-Err-clause-carried_out g c = (
  c.input_of.result,
  c.input_of.ensures,
  unread c.args.request.now c.input_of.result (g.R.Source.remaining c.args.reader.now) _ _ c.in-Err.fault
      c.in-Err.ensures.something c.in-Err.ensures.fault,
)

pub returns-in-Err-clause-taken : goal.returns-in-Err-clause-taken
returns-in-Err-clause-taken g c = (c.input_of.result, c.input_of.ensures, c.in-Err.ensures.taken)

pub returns-in-Ok-clause-cost : goal.returns-in-Ok-clause-cost
returns-in-Ok-clause-cost g c = (c.input_of.result, c.input_of.ensures, c.in-Ok.ensures.cost)

pub returns-in-Err-clause-cost : goal.returns-in-Err-clause-cost
returns-in-Err-clause-cost g c = (c.input_of.result, c.input_of.ensures, c.in-Err.ensures.cost)

pub returns-in-Err-clause-cause : goal.returns-in-Err-clause-cause
returns-in-Err-clause-cause g c = of_reading _ _ c.in-Err.fault c.in-Err.ensures.fault

pub returns-in-Err-clause-thread : goal.returns-in-Err-clause-thread
returns-in-Err-clause-thread g c = started_reading _ _ c.in-Err.fault c.in-Err.ensures.fault
