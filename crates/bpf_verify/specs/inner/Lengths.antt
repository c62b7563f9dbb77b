-- How the longest paths are counted, from the last slot down.
use Rattle.std.specs.Prelude.{◌≡◌, ℕ, ◌+◌, ◌≤◌, List, MatchOption, Option, slice_index}
use Rattle.bpf_insn.specs.declared.forms.Insn.{Insn}
use Rattle.bpf_insn.specs.Programs.{slots_of}
use Rattle.bpf_insn.specs.Edges.{BeginsAt}
use Rattle.bpf_verify.specs.Paths.{IsLongestFrom}

-- the longest path on one way, 0 if there is no such way
abbrev pub IsLongestOn : List Insn → Option ℕ → ℕ → Type 0
IsLongestOn program goal count = MatchOption goal (count ≡ 0) (λ to. IsLongestFrom program to count)

-- from a slot on, the counts are those of the longest paths
abbrev pub HasLongest : List Insn → ℕ → List ℕ → Type 0
HasLongest program slot counts = (at : ℕ) → slot ≤ at → BeginsAt program at
    → IsLongestFrom program at (slice_index counts at) × (slice_index counts at + at ≤ slots_of program)
