use Rattle.std.proofs.Common.{◌-◌, ◌+◌, ◌≡◌, length, subst, sym, ap, ◌∙◌, arith}
use Rattle.bpf_verify.specs.inner.Lengths.{HasLongest}
use Rattle.bpf_verify.proofs.RuleLaws.{here_within}
use Rattle.bpf_verify.proofs.LengthLaws.{none_counted, one_counted}
use Rattle.bpf_verify.proofs.longest.longest.Goals as goal

pub down-init : goal.down-init
down-init c = record {
  long = omega (arith, c.fill.invariant, c.fill-test.false, c.slot_count-count.ensures.count);
  known = none_counted c.args.program.now c.slot_count-count.result c.fill.counts.items
      c.slot_count-count.ensures.count;
}

pub down-preserved-in-Some : goal.down-preserved-in-Some
down-preserved-in-Some c =
    let next : c.down.slot - 1 + 1 ≡ c.down.slot = omega (arith, c.down-test.true) in
    record {
      long = c.down.invariant.long;
      known = one_counted c.args.program.now (c.down.slot - 1) c.count_from.result c.down.counts.items
          (omega (
            arith,
            here_within c.args.program.now (c.down.slot - 1) c.in-Some.insn
                (sym c.insn_at.ensures.found ∙ c.in-Some.is),
            c.down.invariant.long,
            c.deref.ensures.len,
            ap length
                c.deref.ensures.value,
          ))
          (subst (λ n. HasLongest c.args.program.now n c.down.counts.items) (sym next) c.down.invariant.known)
          c.count_from.ensures.value c.count_from.ensures.few;
    }
