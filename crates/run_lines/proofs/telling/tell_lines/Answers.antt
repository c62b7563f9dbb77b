use Rattle.std.specs.Prelude.{Err, IfErr, Ok}
use Rattle.stream_io.proofs.PartLemmas.{handed_on}
use Rattle.run_lines.specs.declared.fault.LinesFault.TheVariants.{Part}
use Rattle.run_lines.specs.Telling.{HasLinesCause, LeavesLines, LinesHaveThreads}
use Rattle.run_lines.proofs.LineLemmas.{all_judged, begins, caused_early, ends_early, ends_whole, first_fault, threads_early}
use Rattle.run_lines.proofs.telling.tell_lines.Goals as goal

pub returns-in_err-written-clause-left : goal.returns-in_err-written-clause-left
returns-in_err-written-clause-left g c =
    first_fault _ _ c.args.scenario.now c.args.form c.in_err-written.field-0.0 c.from_residual.result
    c.in_err-written.ensures.fault c.from_residual.ensures.1

pub returns-in_err-written-clause-cause : goal.returns-in_err-written-clause-cause
returns-in_err-written-clause-cause g c =
    handed_on (λ result. IfErr result (HasLinesCause (g.W.Sink.has_failed c.write_first.new.out)))
    (Part c.in_err-written.field-0.0) c.from_residual.result c.in_err-written.ensures.cause c.from_residual.ensures.1

pub returns-in_err-written-clause-thread : goal.returns-in_err-written-clause-thread
returns-in_err-written-clause-thread g c started =
    handed_on (λ result. IfErr result LinesHaveThreads) (Part c.in_err-written.field-0.0) c.from_residual.result tt
    c.from_residual.ensures.1

pub write_last-requires : goal.write_last-requires
write_last-requires g c =
    let contents = g.W.Write.contents in
    let old = contents c.args.out.now in
    let s = c.args.scenario.now in
    let stands = begins contents old s c.args.form c.in_ok-written.written c.new-writer.result c.write_first.new.out
    c.in_ok-written.ensures.told c.new-writer.ensures.scenario c.new-writer.ensures.form
    c.new-writer.ensures.judged c.new-writer.ensures.written in
    rw c.as_slice.ensures.value
    (all_judged contents old s c.args.form c.in-Ok.run'.records.items c.new-writer.result c.run_watched.new.watcher
    c.write_first.new.out c.run_watched.new.sink stands c.in-Ok.ensures.watched)

pub returns-in-Err-clause-left : goal.returns-in-Err-clause-left
returns-in-Err-clause-left g c =
    let contents = g.W.Write.contents in
    let old = contents c.args.out.now in
    let s = c.args.scenario.now in
    let stands = begins contents old s c.args.form c.in_ok-written.written c.new-writer.result c.write_first.new.out
    c.in_ok-written.ensures.told c.new-writer.ensures.scenario c.new-writer.ensures.form
    c.new-writer.ensures.judged c.new-writer.ensures.written in
    ends_early contents g.W.Sink.has_failed old s c.args.form c.new-writer.result c.run_watched.new.watcher
    c.write_first.new.out c.run_watched.new.sink c.in-Err.end c.fault.result stands c.in-Err.ensures.ends
    c.fault.ensures

pub returns-in-Err-clause-cause : goal.returns-in-Err-clause-cause
returns-in-Err-clause-cause g c =
    caused_early g.W.Write.contents g.W.Sink.has_failed c.args.scenario.now c.new-writer.result
    c.run_watched.new.watcher c.write_first.new.out c.run_watched.new.sink c.in-Err.end c.fault.result
    c.in-Err.ensures.ends c.fault.ensures

pub returns-in-Err-clause-thread : goal.returns-in-Err-clause-thread
returns-in-Err-clause-thread g c started =
    threads_early g.W.Write.contents g.W.Sink.has_failed c.args.scenario.now c.new-writer.result
    c.run_watched.new.watcher c.write_first.new.out c.run_watched.new.sink c.in-Err.end c.fault.result
    c.in-Err.ensures.ends c.fault.ensures (c.in-Err.ensures.thread started)

pub returns-in_err-agrees-clause-left : goal.returns-in_err-agrees-clause-left
returns-in_err-agrees-clause-left g c =
    let contents = g.W.Write.contents in
    let old = contents c.args.out.now in
    let s = c.args.scenario.now in
    let stands = begins contents old s c.args.form c.in_ok-written.written c.new-writer.result c.write_first.new.out
    c.in_ok-written.ensures.told c.new-writer.ensures.scenario c.new-writer.ensures.form
    c.new-writer.ensures.judged c.new-writer.ensures.written in
    handed_on (LeavesLines old (contents c.write_last.new.out) s c.args.form)
    (Part c.in_err-agrees.field-0.0) c.from_residual-in_err-agrees.result
    (ends_whole contents old (contents c.write_last.new.out) s c.args.form c.in-Ok.run'.records.items _
    c.new-writer.result c.run_watched.new.watcher c.write_first.new.out c.run_watched.new.sink
    (Err c.in_err-agrees.field-0.0) stands c.in-Ok.ensures.run c.in-Ok.ensures.watched
    (rw c.as_slice.ensures.value at c.in_err-agrees.ensures.end)) c.from_residual-in_err-agrees.ensures.1

pub returns-in_err-agrees-clause-cause : goal.returns-in_err-agrees-clause-cause
returns-in_err-agrees-clause-cause g c =
    handed_on (λ result. IfErr result (HasLinesCause (g.W.Sink.has_failed c.write_last.new.out)))
    (Part c.in_err-agrees.field-0.0) c.from_residual-in_err-agrees.result c.in_err-agrees.ensures.cause
    c.from_residual-in_err-agrees.ensures.1

pub returns-in_err-agrees-clause-thread : goal.returns-in_err-agrees-clause-thread
returns-in_err-agrees-clause-thread g c started =
    handed_on (λ result. IfErr result LinesHaveThreads) (Part c.in_err-agrees.field-0.0)
    c.from_residual-in_err-agrees.result tt c.from_residual-in_err-agrees.ensures.1

pub returns-clause-left : goal.returns-clause-left
returns-clause-left g c =
    let contents = g.W.Write.contents in
    let old = contents c.args.out.now in
    let s = c.args.scenario.now in
    let stands = begins contents old s c.args.form c.in_ok-written.written c.new-writer.result c.write_first.new.out
    c.in_ok-written.ensures.told c.new-writer.ensures.scenario c.new-writer.ensures.form
    c.new-writer.ensures.judged c.new-writer.ensures.written in
    ends_whole contents old (contents c.write_last.new.out) s c.args.form c.in-Ok.run'.records.items _
    c.new-writer.result c.run_watched.new.watcher c.write_first.new.out c.run_watched.new.sink
    (Ok c.in_ok-agrees.agrees) stands c.in-Ok.ensures.run c.in-Ok.ensures.watched
    (rw c.as_slice.ensures.value at c.in_ok-agrees.ensures.end)
