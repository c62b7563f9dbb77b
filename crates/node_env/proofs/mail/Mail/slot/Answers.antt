use Rattle.std.proofs.Common.{arith, ◌*◌, ◌<◌, ◌≤◌, sym, ◌∙◌, ap, suc, get_or}
use Rattle.std.proofs.Math.Nat.{mul-le-mul_right}
use Rattle.std.specs.FinMap.{empty, get}
use Rattle.node_env.specs.inner.Slots.{word_slot}
use Rattle.node_env.proofs.Rows.{length-square, get-rows_of}
use Rattle.node_env.proofs.mail.Mail.slot.Goals as goal

pub place_of-requires-clause-receiver : goal.place_of-requires-clause-receiver
place_of-requires-clause-receiver c = omega (arith, length-square _ _ _ c.self.view_is, c.requires.receiver)

pub place_of-requires-clause-sender : goal.place_of-requires-clause-sender
place_of-requires-clause-sender c = omega (arith, length-square _ _ _ c.self.view_is, c.requires.sender)

pub index-requires : goal.index-requires
index-requires c =
    let low : suc c.args.receiver ≤ c.self.inside.nodes = omega
    (arith, length-square _ _ _ c.self.view_is, c.requires.receiver) in
    let inner : c.args.sender < c.self.inside.nodes = omega
    (arith, length-square _ _ _ c.self.view_is, c.requires.sender) in
    let lines : suc c.args.receiver * c.self.inside.nodes ≤ c.self.inside.nodes * c.self.inside.nodes =
    mul-le-mul_right c.self.inside.nodes low in
    omega (arith, c.self.invariant.whole, c.place_of.ensures)

pub returns : goal.returns
returns c =
    let low : c.args.sender < c.self.inside.nodes = omega
    (arith, length-square _ _ _ c.self.view_is, c.requires.sender) in
    let inner : c.args.receiver < c.self.inside.nodes = omega
    (arith, length-square _ _ _ c.self.view_is, c.requires.receiver) in
    c.slot_in.ensures
    ∙ ap word_slot (c.index.ensures ∙ ap (λ q. get_or c.self.inside.words.items q c.index.result.now) c.place_of.ensures)
    ∙ sym (get-rows_of c.self.inside.nodes c.args.sender c.args.receiver c.index.result.now c.self.inside.words.items
    low inner c.self.invariant.whole)
    ∙ ap (λ rows. get (get_or rows c.args.sender empty) c.args.receiver) c.self.view_is
