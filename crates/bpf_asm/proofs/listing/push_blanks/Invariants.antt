use Rattle.std.proofs.Common.{◌≡◌, ◌++◌, replicate}
use Rattle.bpf_asm.proofs.listing.push_blanks.Given as goal

abbrev pub invariant-loop-blank : goal.invariant-loop-blank
invariant-loop-blank l = l.row.items ≡ l.fn.row.items ++ replicate l._blank 32
