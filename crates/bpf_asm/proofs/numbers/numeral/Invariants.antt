use Rattle.std.proofs.Common.{◌≡◌, drop}
use Rattle.std.specs.Prelude.{nat_lt}
use Rattle.std.specs.List.{list_all}
use Rattle.std.specs.Char.{digit_value}
use Rattle.bpf_asm.proofs.NumberLemmas.{Totals}
use Rattle.bpf_asm.proofs.numbers.numeral.Given as goal

abbrev pub invariant-loop-byte : goal.invariant-loop-byte
invariant-loop-byte l = record {
  digits : list_all (λ c. nat_lt (digit_value c) l.radix) l.digits
      ≡ list_all (λ c. nat_lt (digit_value c) l.radix) (drop l.byte-index l.digits);
  total : Totals l.radix l.digits l.byte-index l.total;
}
