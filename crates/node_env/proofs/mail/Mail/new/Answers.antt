use Rattle.std.proofs.Common.{rules, ◌≡◌, ◌*◌, ◌∙◌, ap, replicate}
use Rattle.std.specs.FinMap.{empty}
use Rattle.node_env.specs.inner.Slots.{rows_of}
use Rattle.node_env.specs.declared.word.TheConstants.{EMPTY}
use Rattle.node_env.proofs.Rows.{rows_of-empty}
use Rattle.node_env.proofs.mail.Mail.new.Goals as goal

pub returns : goal.returns
returns c =
    let nodes = c.nodes-nodes.result in
    let items : c.in_ok-words.words.items ≡ replicate (nodes * nodes) EMPTY = (search rules) in
    ap (rows_of nodes) items ∙ rows_of-empty nodes ∙ ap (λ n. replicate n empty) c.nodes-nodes.ensures.value
