use Rattle.std.proofs.Common.{◌≡◌, ◌++◌, ◌∷◌, [], arith, length, sym, map, subst, rules}
use Rattle.std.specs.List.{AllZip}
use Rattle.std.proofs.Math.Dec.{lit<}
use Rattle.std.proofs.lemmas.Iterator.Consumers.{YieldsList-end, YieldsList-turn}
use Rattle.std.proofs.lemmas.Iterator.Splits.{YieldsList-from_str_split}
use Rattle.command_line.specs.Lists.{IsMailSlot, IsNoMail, comma_parts}
use Rattle.command_line.proofs.NumberLemmas.{map_push, zip_length, zip_none, zip_push}
use Rattle.command_line.proofs.exec_words.mail_in.Goals as goal

pub loop-word-preserved : goal.loop-word-preserved
loop-word-preserved c =
    let made : c.push.new.self.items ≡ c.loop-word.mail.items ++ c.in-Ok.slot ∷ [] = search rules in
    subst (AllZip IsMailSlot (map (λ word. word.now) (c.loop-word.yielded ++ c.in-Some.word ∷ []))) (sym made)
    (rw map_push (zip_push IsMailSlot (map (λ word. word.now) c.loop-word.yielded) c.loop-word.mail.items
    c.in-Some.word.now c.in-Ok.slot c.loop-word.invariant c.in-Ok.ensures.slot))

pub returns-in-Err-clause-rejected : goal.returns-in-Err-clause-rejected
returns-in-Err-clause-rejected c =
    let turn = YieldsList-turn (YieldsList-from_str_split 44 c.args.list.now (lit< tt) (cc) (cc) (cc))
    c.loop-word.yielded _ c.loop-word.yielded_by _ _ _ c.in-Some.is c.next.ensures.steps in
    let other = c.in-Err.ensures.other in
    subst (IsNoMail c.args.nodes c.args.list.now) (sym other.0) (λ mail all.
    zip_none IsMailSlot (comma_parts c.args.list.now) (length c.loop-word.yielded) c.in-Some.word.now turn.0 turn.1
    other.1 mail all.0)

pub returns-then-len-nodes-clause-mail : goal.returns-then-len-nodes-clause-mail
returns-then-len-nodes-clause-mail c =
    let all : map (λ word. word.now) c.loop-word.yielded ≡ comma_parts c.args.list.now =
    (YieldsList-end (YieldsList-from_str_split 44 c.args.list.now (lit< tt) (cc) (cc) (cc)) c.loop-word.yielded _
    c.loop-word.yielded_by _ _ c.in-None.is c.next.ensures.steps).0 in
    (subst (λ parts. AllZip IsMailSlot parts c.loop-word.mail.items) all c.loop-word.invariant, search rules)

pub returns-else-len-nodes-clause-rejected : goal.returns-else-len-nodes-clause-rejected
returns-else-len-nodes-clause-rejected c = λ mail slots.
    let all : map (λ word. word.now) c.loop-word.yielded ≡ comma_parts c.args.list.now =
    (YieldsList-end (YieldsList-from_str_split 44 c.args.list.now (lit< tt) (cc) (cc) (cc)) c.loop-word.yielded _
    c.loop-word.yielded_by _ _ c.in-None.is c.next.ensures.steps).0 in
    let mine = zip_length IsMailSlot (comma_parts c.args.list.now) c.loop-word.mail.items
    (subst (λ parts. AllZip IsMailSlot parts c.loop-word.mail.items) all c.loop-word.invariant) in
    let theirs = zip_length IsMailSlot (comma_parts c.args.list.now) mail slots.0 in
    let nodes = slots.1 in
    let other = c.if-len-nodes.false in absurd (other (omega arith))
