use Rattle.std.proofs.Common.{refl, rules}
use Rattle.std.proofs.lemmas.Map.Text.{btree_map_updates_str}
use Rattle.bpf_asm.proofs.LabelLemmas.{label_again, label_new}
use Rattle.bpf_asm.proofs.labels.add_label.Goals as goal

pub returns-then-contains_key : goal.returns-then-contains_key
returns-then-contains_key c = λ places has.
    label_again c.args.labels.now _ places c.args.name.now c.args.slot refl (search rules) (search rules) has

pub returns-in_ok-insert : goal.returns-in_ok-insert
returns-in_ok-insert c = λ places has.
    label_new c.args.labels.now _ places c.args.name.now c.args.slot
    (λ q. btree_map_updates_str c.args.name.now c.args.labels.now.slots c.insert.new.self _
    c.in_ok-insert.ensures.updates q)
    refl (search rules) has
