use Rattle.std.proofs.Common.{◌%◌, ◌^◌, arith}
use Rattle.std.proofs.lemmas.Nat.{mul-le}
use Rattle.value_range.proofs.arithmetic.shift_left.Goals as goal

pub fitting_range-requires : goal.fitting_range-requires
fitting_range-requires c =
    let factor = 2 ^ (c.b.inside.lo % c.bits.result) in
    rw (c.shifted.ensures, c.shifted-then-b.ensures)
    (mul-le c.a.inside.lo factor c.a.inside.hi factor (omega arith) (omega arith))
