use Rattle.std.proofs.Common.{◌≡◌, true, false, Some, length, ◌==◌, sym, ap, ◌∙◌, rules}
use Rattle.bpf_asm.specs.Statements.{ends_word, source_by}
use Rattle.bpf_asm.specs.inner.Statements.{source_in}
use Rattle.bpf_asm.specs.Words.{form_of}
use Rattle.bpf_asm.proofs.StatementLemmas.{word_read}
use Rattle.bpf_asm.proofs.statements.source_behind.Goals as goal

pub returns : goal.returns
returns c =
    let some : (length c.args.word.now == 0) ≡ false = search rules in
    let named : form_of c.args.word.now ≡ Some c.in-Some.form = search rules in
    let ends : ends_word c.args.rest.now ≡ true = search rules in
    sym (word_read c.args.word.now c.args.rest.now c.in-Some.form
    (Some (source_in c.in_ok-read_source.field-0)) some named ends
    (ap (source_by c.in-Some.form) c.read_parts.ensures ∙ c.in_ok-read_source.ensures))
