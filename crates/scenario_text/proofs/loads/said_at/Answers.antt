use Rattle.std.proofs.Common.{◌≡◌, length, arith}
use Rattle.scenario_text.specs.Spelling.{IsSaid}
use Rattle.scenario_text.proofs.TableLemmas.{no_length}
use Rattle.scenario_text.proofs.loads.said_at.Goals as goal

pub returns-then-len-nodes-clause-refused : goal.returns-then-len-nodes-clause-refused
returns-then-len-nodes-clause-refused c vs read long =
    let items = c.in_ok-array.array.now.items in
    let other : length items ≡ c.args.nodes → ⊥ = (λ same. omega arith) in
    no_length IsSaid _ items c.args.nodes vs c.in_ok-array.ensures.array other read long
