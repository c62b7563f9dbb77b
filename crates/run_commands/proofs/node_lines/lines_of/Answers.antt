use Rattle.std.proofs.Common.{ℕ, List, ◌++◌, ap, ◌∙◌}
use Rattle.run_commands.proofs.TracedRunLemmas.{lines_made, setting_made}
use Rattle.run_commands.proofs.node_lines.lines_of.Goals as goal

pub returns : goal.returns
returns c =
    let asked = c.args.options in
    let x = c.args.input in
    let new = c.new-env in
    let told = c.in_ok-told.told in
    let sees = setting_made new.result x.program.shape asked.node x (new.ensures.shape ∙ c.shape.ensures)
    new.ensures.id new.ensures.inbox new.ensures.coin in
    lines_made c.args.scenario.now asked.pulse asked.node x new.result told.end told.lines.items
    c.in_ok-lines.lines.items _ _ sees c.in_ok-told.ensures.complete c.in_ok-told.ensures.nodes
    (c.in_ok-lines.ensures.items ∙ (c.as_bytes.ensures.value ∙ c.in_ok-text.ensures)) c.in_ok-told.ensures.lines
    (c.in_ok-extend_from_slice.ensures.items
    ∙ ap (λ (l : List ℕ). c.in_ok-lines.lines.items ++ l) c.deref.ensures.value) c.in_ok-add_end.ensures
