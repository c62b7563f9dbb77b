-- The longest path through what says values has all its instructions.
use Rattle.std.proofs.Common.{◌≡◌, ℕ, suc, ◌+◌, List, [], ◌∷◌, ◌++◌, length, Option, Some, None, refl, arith, subst}
use Rattle.bpf_insn.specs.declared.forms.Insn.{Insn}
use Rattle.bpf_insn.specs.declared.edges.Way.TheVariants.{Onward, Jumping}
use Rattle.bpf_insn.specs.Programs.{insn_at}
use Rattle.bpf_insn.specs.Edges.{target}
use Rattle.bpf_verify.specs.Accepted.{Accepted}
use Rattle.bpf_verify.specs.Paths.{IsLongestFrom, IsLongestPath}
use Rattle.bpf_verify.specs.inner.Lengths.{IsLongestOn}
use Rattle.bpf_verify.proofs.LengthLaws.{longest_here, longest_on}
use Rattle.bpf_verify.proofs.VerdictLaws.{one_longest}
use Rattle.clock_nodes.specs.Listings.{say_blocks, say_listing, tail}
use Rattle.clock_nodes.proofs.HostileRuns.{ones_say}
use Rattle.clock_nodes.proofs.Places.{Stands, stands_whole}

no_way : (program : List Insn) (goal : Option ℕ) → goal ≡ None → IsLongestOn program goal 0
no_way program goal e = rw e refl

-- an instruction that only goes on
goes_on : (program : List Insn) (slot count : ℕ) (insn : Insn) → insn_at program slot ≡ Some insn
    → target insn slot Onward ≡ Some (slot + 1) → target insn slot Jumping ≡ None
    → IsLongestFrom program (slot + 1) count → IsLongestFrom program slot (1 + count)
goes_on program slot count insn here on off h = longest_here program slot count 0 count insn here
    (longest_on program (target insn slot Onward) (slot + 1) count on h)
    (no_way program (target insn slot Jumping) off) (omega arith)

from_tail : (program : List Insn) (slot : ℕ) → Stands program slot tail → IsLongestFrom program slot 2
from_tail program slot stands =
    let last : IsLongestFrom program (slot + 1) 1 = longest_here program (slot + 1) 0 0 0 _ stands.1.0
    (no_way program _ refl) (no_way program _ refl) refl in
    goes_on program slot 1 _ stands.0 refl refl last

from_says : (program : List Insn) (slot j : ℕ) (values : List (Option ℕ))
    → Stands program slot (say_blocks j values ++ tail)
    → IsLongestFrom program slot (length (say_blocks j values ++ tail))
from_says program slot j [] stands = from_tail program slot stands
from_says program slot j (None ∷ values) stands = from_says program slot (suc j) values stands
from_says program slot j (Some value ∷ values) stands =
    let rest = from_says program (slot + 1 + 1 + 1) (suc j) values stands.1.1.1 in
    let count = length (say_blocks (suc j) values ++ tail) in
    let h2 : IsLongestFrom program (slot + 1 + 1) (1 + count) =
    goes_on program _ count _ stands.1.1.0 refl refl rest in
    let h1 : IsLongestFrom program (slot + 1) (1 + (1 + count)) =
    goes_on program _ _ _ stands.1.0 refl refl h2 in
    let h0 : IsLongestFrom program slot (1 + (1 + (1 + count))) =
    goes_on program _ _ _ stands.0 refl refl h1 in
    let whole : 1 + (1 + (1 + count)) ≡ suc (suc (suc count)) = omega arith in
    subst (λ (n : ℕ). IsLongestFrom program slot n) whole h0

say_longest : (values : List (Option ℕ)) → IsLongestPath (say_listing values) (length (say_listing values))
say_longest values = from_says (say_listing values) 0 0 values (stands_whole (say_listing values) (ones_say values))

-- so an accepted program that says values announces as many
pub say_announces : (v : Accepted) (values : List (Option ℕ)) → v.program ≡ say_listing values
    → IsLongestPath v.program v.budget → v.budget ≡ length (say_listing values)
say_announces v values is longest =
    one_longest (say_listing values) v.budget (length (say_listing values))
    (subst (λ (p : List Insn). IsLongestPath p v.budget) is longest) (say_longest values)
