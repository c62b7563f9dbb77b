use Rattle.std.proofs.Common.{[], ◌≡◌, ◌∙◌, ap, fold, map}
use Rattle.std.proofs.lemmas.Iterator.Consumers.{YieldsList-end}
use Rattle.std.proofs.lemmas.Iterator.Splits.{YieldsList-from_lines}
use Rattle.std.specs.Str.Lines.{lines}
use Rattle.clockbed.specs.Words.{with_line}
use Rattle.clockbed.proofs.images.listed.Goals as goal

pub returns : goal.returns
returns c =
    let all : map (λ line. line.now) c.loop-line.yielded ≡ lines c.args.text.now =
    (YieldsList-end (YieldsList-from_lines c.args.text.now (cc)) c.loop-line.yielded _ c.loop-line.yielded_by _ _
    c.in-None.is c.next.ensures.steps).0 in
    c.loop-line.invariant ∙ ap (fold with_line []) all
