use Rattle.std.proofs.Common.{◌≡◌, length, arith}
use Rattle.scenario_text.specs.Tables.{IsNumber}
use Rattle.scenario_text.proofs.TableLemmas.{no_length}
use Rattle.scenario_text.proofs.corruptions.image_at.Goals as goal

pub returns-then-len-memory-clause-refused : goal.returns-then-len-memory-clause-refused
returns-then-len-memory-clause-refused c vs read long =
    let items = c.in_ok-array.array.now.items in
    let other : length items ≡ c.args.memory → ⊥ = (λ same. omega arith) in
    no_length (IsNumber 0 255) _ items c.args.memory vs c.in_ok-array.ensures.array other read long
