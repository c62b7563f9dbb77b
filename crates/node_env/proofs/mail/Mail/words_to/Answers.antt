use Rattle.std.proofs.Common.{arith, ◌*◌, ◌≡◌, ◌<◌, ◌≤◌, take, drop, sym, ◌∙◌, ap, suc, length}
use Rattle.std.proofs.Math.Nat.{mul-le-mul_right}
use Rattle.std.proofs.lemmas.List.{length-take-le, length-drop}
use Rattle.node_env.specs.Env.{inbox_of}
use Rattle.node_env.specs.inner.Slots.{numbers_of}
use Rattle.node_env.proofs.Rows.{length-square, inbox_words}
use Rattle.node_env.proofs.mail.Mail.words_to.Goals as goal

pub place_of-first-requires-clause-receiver : goal.place_of-first-requires-clause-receiver
place_of-first-requires-clause-receiver c = omega (arith, length-square _ _ _ c.self.view_is, c.requires)

pub part-requires : goal.part-requires
part-requires c =
    let low : suc c.args.receiver ≤ c.self.inside.nodes = omega
    (arith, length-square _ _ _ c.self.view_is, c.requires) in
    let lines : suc c.args.receiver * c.self.inside.nodes ≤ c.self.inside.nodes * c.self.inside.nodes =
    mul-le-mul_right c.self.inside.nodes low in
    omega (arith, c.self.invariant.whole, c.place_of-first.ensures, ap length c.deref.ensures.value)

pub returns-clause-nodes : goal.returns-clause-nodes
returns-clause-nodes c =
    let low : suc c.args.receiver ≤ c.self.inside.nodes = omega
    (arith, length-square _ _ _ c.self.view_is, c.requires) in
    let lines : suc c.args.receiver * c.self.inside.nodes ≤ c.self.inside.nodes * c.self.inside.nodes =
    mul-le-mul_right c.self.inside.nodes low in
    let items : length c.deref.result.now ≡ c.self.inside.nodes * c.self.inside.nodes =
    ap length c.deref.ensures.value ∙ c.self.invariant.whole in
    ap length c.part.ensures
    ∙ length-take-le c.self.inside.nodes (drop c.place_of-first.result c.deref.result.now)
    (omega (arith, length-drop c.place_of-first.result c.deref.result.now, c.place_of-first.ensures))
    ∙ sym (length-square _ _ _ c.self.view_is)

pub returns-clause-inbox : goal.returns-clause-inbox
returns-clause-inbox c =
    let place : c.place_of-first.result ≡ c.args.receiver * c.self.inside.nodes = omega arith in
    let low : c.args.receiver < c.self.inside.nodes = omega
    (arith, length-square _ _ _ c.self.view_is, c.requires) in
    ap numbers_of (c.part.ensures
    ∙ ap (λ q. take c.self.inside.nodes (drop q c.deref.result.now)) place
    ∙ ap (λ words. take c.self.inside.nodes (drop (c.args.receiver * c.self.inside.nodes) words)) c.deref.ensures.value)
    ∙ inbox_words c.self.inside.nodes c.args.receiver c.self.inside.words.items low c.self.invariant.whole
    ∙ ap (inbox_of c.args.receiver) c.self.view_is
