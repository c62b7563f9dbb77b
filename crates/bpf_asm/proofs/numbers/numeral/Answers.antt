use Rattle.std.proofs.Common.{◌≡◌, ◌<◌, ◌∙◌, rules, arith, get_or, sym, ap}
use Rattle.std.specs.Char.{digit_value}
use Rattle.bpf_asm.proofs.NumberLemmas.{next_digit, next_passes}
use Rattle.bpf_asm.proofs.numbers.numeral.Goals as goal

pub loop-byte-preserved : goal.loop-byte-preserved
loop-byte-preserved c =
    let byte = get_or c.args.digits.now c.loop-byte.byte-index 0 in
    let read : digit_value byte ≡ c.in_ok-digit.digit = sym
    (c.in_ok-digit.ensures.value.1 ∙ ap digit_value c.from.ensures) in
    let small : digit_value byte < c.args.radix = omega
    (arith, read, ap digit_value c.from.ensures, c.in_ok-digit.ensures.value.0) in
    record {
      digits = next_passes _ c.args.digits.now _ (omega arith) (search rules) c.loop-byte.invariant.digits;
      total = next_digit _ c.args.digits.now _ c.in_ok-digit.digit _ _ (omega arith)
          (omega arith) read c.loop-byte.invariant.total c.next_total-total.ensures;
    }
