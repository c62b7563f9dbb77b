use Rattle.std.proofs.Common.{◌≡◌, ◌-◌, ◌<◌, ◌++◌, [], ◌∷◌, ap, set, arith, sym, ◌∙◌, rules, vec_len}
use Rattle.std.proofs.lemmas.Grind.{common_steps}
use Rattle.command_line.proofs.SpanLemmas.{joined, apart, alone}
use Rattle.command_line.specs.Lists.{mail_spans}
use Rattle.command_line.specs.inner.Spans.{with_span_number}
use Rattle.command_line.proofs.lists.add_number.Goals as goal
use Rattle.command_line.proofs.lists.add_number.Goals.{in_default-via-in-Some+else-is_next, in_default-via-in-None-1}

pub returns-in-Some : goal.returns-in-Some
returns-in-Some c =
    let some : 0 < vec_len c.args.spans.now = search rules in
    joined c.args.spans.now.items (vec_len c.args.spans.now - 1) c.args.number c.in-Some.span.now (omega arith)
    (sym c.in-Some.ensures.value) (search rules)

pub returns-in_ok-push-in_default : goal.returns-in_ok-push-in_default
returns-in_ok-push-in_default c =
    let start = c.args.spans.now.items in
    let n = c.args.number in
    let pushed : mail_spans (start ++ record { first = n; last = n } ∷ []) ≡ with_span_number (mail_spans start) n =
    elim c.in_default.branch [
      | in_default-via-in-Some+else-is_next w ↦
          let some : 0 < vec_len c.args.spans.now = search rules in
          apart start (vec_len c.args.spans.now - 1) n w.in-Some.span.now (omega arith)
          (sym w.in-Some.ensures.value) (search rules)
      | in_default-via-in-None-1 w ↦ alone start n (search rules)
    ] in
    let same : c.in_default.spans.items ≡ start = elim c.in_default.branch [
      | in_default-via-in-Some+else-is_next w ↦
          let some : 0 < vec_len c.args.spans.now = search rules in
          let kept : set start (vec_len c.args.spans.now - 1) w.in-Some.span.now ≡ start =
          grind (arith, common_steps, w.in-Some.ensures.value) in
          ap (λ v. v.items) w.spans-is ∙ kept
      | in_default-via-in-None-1 w ↦ ap (λ v. v.items) w.spans-is
    ] in
    ap mail_spans (c.in_ok-push-in_default.ensures.items
    ∙ ap (λ xs. xs ++ record { first = n; last = n } ∷ []) same) ∙ pushed
