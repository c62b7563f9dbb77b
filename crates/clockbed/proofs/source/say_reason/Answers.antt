use Rattle.std.proofs.Common.{List, codes, subst, ℕ}
use Rattle.command_answers.proofs.FaultLemmas.{said_so_much}
use Rattle.command_answers.specs.Faults.{Says}
use Rattle.clockbed.proofs.SayLemmas.{said_both, said_first}
use Rattle.clockbed.proofs.source.say_reason.Goals as goal

pub returns-in-Ok : goal.returns-in-Ok
returns-in-Ok g c =
    let old = g.E.Write.contents c.args.err.now in
    let mid = g.E.Write.contents c.write_fully.new.writer in
    let new = g.E.Write.contents c.write_fully-in-Ok.new.writer in
    let said = said_so_much mid new c.as_bytes.result.now c.write_fully-in-Ok.result c.write_fully-in-Ok.ensures.all
    c.write_fully-in-Ok.ensures.prefix in
    said_both old mid new (codes ": ") c.args.reason.now c.in-Ok.ensures.all
    (subst (λ (reason : List ℕ). Says mid new reason) c.as_bytes.ensures.value said)

pub returns-in-Err : goal.returns-in-Err
returns-in-Err g c =
    said_first (g.E.Write.contents c.args.err.now) (g.E.Write.contents c.write_fully.new.writer) (codes ": ")
    c.args.reason.now c.in-Err.field-0.written c.in-Err.ensures.part c.in-Err.ensures.prefix
