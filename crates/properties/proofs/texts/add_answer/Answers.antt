use Rattle.std.proofs.Common.{ap}
use Rattle.std.specs.Prelude.{codes, string_bytes}
use Rattle.properties.specs.Texts.{property_answer_text, violated_by_text}
use Rattle.properties.proofs.TextLemmas.{then_rest}
use Rattle.properties.proofs.texts.add_answer.Goals as goal

pub returns-in_ok-add-in-ViolatedLast : goal.returns-in_ok-add-in-ViolatedLast
returns-in_ok-add-in-ViolatedLast c =
    then_rest c.add_place-in-ViolatedLast.result (string_bytes c.add_place-in-ViolatedLast.new.text)
    (string_bytes c.add-in-ViolatedLast.new.text) (string_bytes c.args.text.now)
    (codes "violated in the last judged pulse, ") (violated_by_text c.in-ViolatedLast.last (codes ","))
    (property_answer_text c.args.answer) c.in_ok-add-in-ViolatedLast.ensures (ap property_answer_text c.in-ViolatedLast.is)
    c.add_place-in-ViolatedLast.ensures
