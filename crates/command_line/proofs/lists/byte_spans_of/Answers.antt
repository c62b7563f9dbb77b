use Rattle.std.proofs.Common.{◌≡◌, ◌↔◌, ◌<◌, ℕ, List, All, Any, Contains, sym, subst, rules}
use Rattle.explored.specs.declared.options.MailSpan.{MailSpan}
use Rattle.command_line.specs.Lists.{AreLongest, IsInSpan, byte_spans, mail_spans}
use Rattle.command_line.proofs.RejectedLemmas.{spans_below}
use Rattle.command_line.proofs.lists.byte_spans_of.Goals as goal

pub narrowed-requires : goal.narrowed-requires
narrowed-requires c =
    let spans = c.in_ok-wide.wide.items in
    let all = spans_below spans 256 c.in_ok-wide.ensures.longest
    (λ n within. c.requires n ((c.in_ok-wide.ensures.numbers n).0 within)) in
    subst (λ (xs : List MailSpan). All (λ span. (span.first < 256) × (span.last < 256)) xs) (sym c.as_slice.ensures.value) all

pub returns-clause-numbers : goal.returns-clause-numbers
returns-clause-numbers c = λ n.
    let same : byte_spans c.in_ok-spans.spans.items ≡ mail_spans c.in_ok-wide.wide.items = search rules in
    subst (λ spans. Any (IsInSpan n) spans ↔ Contains c.args.bytes.now.keys n) (sym same)
    (c.in_ok-wide.ensures.numbers n)

pub returns-clause-longest : goal.returns-clause-longest
returns-clause-longest c =
    let same : byte_spans c.in_ok-spans.spans.items ≡ mail_spans c.in_ok-wide.wide.items = search rules in
    subst AreLongest (sym same) c.in_ok-wide.ensures.longest
