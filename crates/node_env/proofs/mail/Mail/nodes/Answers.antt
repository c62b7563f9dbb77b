use Rattle.std.proofs.Common.{length, sym, ◌∙◌, ap, subst, All}
use Rattle.node_env.specs.Env.{AreNumbers}
use Rattle.node_env.proofs.Rows.{length-rows_of, rows-numbers}
use Rattle.node_env.proofs.mail.Mail.nodes.Goals as goal

pub returns-clause-value : goal.returns-clause-value
returns-clause-value c = sym (length-rows_of c.self.inside.nodes c.self.inside.words.items)
    ∙ ap length c.self.view_is

pub returns-clause-numbers : goal.returns-clause-numbers
returns-clause-numbers c = subst (All (AreNumbers c.self.inside.nodes)) c.self.view_is
    (rows-numbers c.self.inside.nodes c.self.inside.words.items)
