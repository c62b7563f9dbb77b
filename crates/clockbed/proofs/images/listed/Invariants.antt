use Rattle.std.proofs.Common.{◌≡◌, [], fold, map, string_bytes}
use Rattle.clockbed.specs.Words.{with_line}
use Rattle.clockbed.proofs.images.listed.Given as goal

-- the list is that of the lines so far
abbrev pub invariant-loop-line : goal.invariant-loop-line
invariant-loop-line l = string_bytes l.list ≡ fold with_line [] (map (λ line. line.now) l.yielded)
