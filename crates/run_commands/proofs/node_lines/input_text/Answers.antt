use Rattle.std.proofs.Common.{ap, ◌∙◌, ◌++◌}
use Rattle.std.specs.Prelude.{string_bytes}
use Rattle.std.specs.Fmt.{decimal}
use Rattle.command_answers.specs.Left.{mail_text}
use Rattle.run_commands.specs.TracedRun.{place_lines}
use Rattle.run_commands.proofs.TracedRunLemmas.{added}
use Rattle.run_commands.proofs.node_lines.input_text.Goals as goal

pub returns : goal.returns
returns c =
    let asked = c.args.options in
    let x = c.args.input.now in
    added (place_lines asked.pulse asked.node x.memory.items) (mail_text x.heard.items) (decimal x.coin)
    (string_bytes c.in_ok-text.text) _ _ _
    (c.in_ok-text.ensures ∙ ap (place_lines asked.pulse asked.node) c.deref.ensures.value)
    c.in_ok-push_str.ensures.bytes
    (c.in_ok-add_mail.ensures ∙ ap (λ m. string_bytes c.push_str.new.self ++ mail_text m) c.deref-2.ensures.value)
    c.in_ok-write.ensures.bytes
