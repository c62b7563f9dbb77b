use Rattle.std.proofs.Common.{List, codes, inr, refl, subst, [], ℕ, ◌++◌}
use Rattle.std.specs.Io.KnownBytes.{Appends}
use Rattle.command_answers.specs.Faults.{Says}
use Rattle.clockbed.proofs.SayLemmas.{said_both, said_first}
use Rattle.clockbed.proofs.source.tell_reason.Goals as goal

pub returns-in-Ok : goal.returns-in-Ok
returns-in-Ok g c =
    let old = g.E.Write.contents c.args.err.now in
    let mid = g.E.Write.contents c.write_fully.new.writer in
    let new = g.E.Write.contents c.say_reason.new.err in
    let name = subst (λ (n : List ℕ). Appends old mid n) c.as_bytes.ensures.value c.in-Ok.ensures.all in
    inr (
      c.args.name.now ++ (codes ": " ++ c.as_str.result.now),
      (c.as_str.result.now, refl),
      said_both old mid new c.args.name.now (codes ": " ++ c.as_str.result.now) name c.say_reason.ensures,
    )

pub returns-in-Err : goal.returns-in-Err
returns-in-Err g c =
    let old = g.E.Write.contents c.args.err.now in
    let new = g.E.Write.contents c.write_fully.new.writer in
    let said = said_first old new c.as_bytes.result.now (codes ": " ++ []) c.in-Err.field-0.written c.in-Err.ensures.part
    c.in-Err.ensures.prefix in
    inr (
      c.args.name.now ++ (codes ": " ++ []),
      ([], refl),
      subst (λ (n : List ℕ). Says old new (n ++ (codes ": " ++ []))) c.as_bytes.ensures.value said,
    )
