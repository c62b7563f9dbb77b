-- The longest path through the clock's listing, from its end to its beginning.
use Rattle.std.proofs.Common.{◌≡◌, ℕ, zero, suc, ◌+◌, ◌*◌, List, ◌++◌, Option, Some, None, max, slice_get, refl, ap, ◌∙◌, arith, subst}
use Rattle.bpf_insn.specs.declared.forms.Insn.{Insn}
use Rattle.bpf_insn.specs.declared.edges.Way.TheVariants.{Onward, Jumping}
use Rattle.bpf_insn.specs.Programs.{insn_at}
use Rattle.bpf_insn.specs.Edges.{target}
use Rattle.bpf_verify.specs.Paths.{IsLongestFrom, IsLongestPath}
use Rattle.bpf_verify.specs.inner.Lengths.{IsLongestOn}
use Rattle.bpf_verify.proofs.LengthLaws.{longest_here, longest_on}
use Rattle.clock_nodes.specs.Rule.{Rule, quorum_of}
use Rattle.clock_nodes.specs.Listings.{count_blocks, choice, store_listing, send_blocks, tail, listing, clock_listing}
use Rattle.clock_nodes.proofs.Places.{Stands, found_in, stands_behind, stands_whole}
use Rattle.clock_nodes.proofs.ClockRuns.{ones_clock}

-- ---- one instruction

no_way : (program : List Insn) (goal : Option ℕ) → goal ≡ None → IsLongestOn program goal 0
no_way program goal e = rw e refl

led_to : (program : List Insn) (goal : Option ℕ) (there to count : ℕ) → goal ≡ Some there → there ≡ to
    → IsLongestFrom program to count → IsLongestOn program goal count
led_to program goal there to count e same h = longest_on program goal to count (e ∙ ap (λ (x : ℕ). Some x) same) h

-- it only goes on, or only jumps
one_way : (program : List Insn) (slot there to count : ℕ) (insn : Insn) → insn_at program slot ≡ Some insn
    → target insn slot Onward ≡ Some there → target insn slot Jumping ≡ None → there ≡ to
    → IsLongestFrom program to count → IsLongestFrom program slot (1 + count)
one_way program slot there to count insn here on off same h = longest_here program slot count 0 count insn here
    (led_to program (target insn slot Onward) there to count on same h)
    (no_way program (target insn slot Jumping) off) (omega arith)

leap : (program : List Insn) (slot there to count : ℕ) (insn : Insn) → insn_at program slot ≡ Some insn
    → target insn slot Onward ≡ None → target insn slot Jumping ≡ Some there → there ≡ to
    → IsLongestFrom program to count → IsLongestFrom program slot (1 + count)
leap program slot there to count insn here on off same h = longest_here program slot 0 count count insn here
    (no_way program (target insn slot Onward) on)
    (led_to program (target insn slot Jumping) there to count off same h) (omega arith)

-- it does either, and the one count or the other is the greater
fork : (program : List Insn) (slot there next away to b c d : ℕ) (insn : Insn) → insn_at program slot ≡ Some insn
    → target insn slot Onward ≡ Some there → there ≡ next → target insn slot Jumping ≡ Some away → away ≡ to
    → IsLongestFrom program next b → IsLongestFrom program to c → d ≡ max b c
    → IsLongestFrom program slot (1 + d)
fork program slot there next away to b c d insn here on same off other g h most = longest_here program slot b c d insn
    here (led_to program (target insn slot Onward) there next b on same g)
    (led_to program (target insn slot Jumping) away to c off other h) most

as_many : (program : List Insn) (slot b c : ℕ) → b ≡ c → IsLongestFrom program slot b → IsLongestFrom program slot c
as_many program slot b c e h = subst (λ (n : ℕ). IsLongestFrom program slot n) e h

-- ---- the parts

from_tail : (program : List Insn) (slot : ℕ) → Stands program slot tail → IsLongestFrom program slot 2
from_tail program slot stands =
    let last : IsLongestFrom program (slot + 1) 1 = longest_here program (slot + 1) 0 0 0 _ stands.1.0
    (no_way program _ refl) (no_way program _ refl) refl in
    as_many program slot (1 + 1) 2 refl (one_way program slot _ (slot + 1) 1 _ stands.0 refl refl refl last)

from_sends : (program rest : List Insn) (slot n j count : ℕ) → Stands program slot (send_blocks n j ++ rest)
    → ((to : ℕ) → Stands program to rest → IsLongestFrom program to count)
    → IsLongestFrom program slot (3 * n + count)
from_sends program rest slot zero j count stands behind =
    as_many program slot count (3 * 0 + count) (omega arith) (behind slot stands)
from_sends program rest slot (suc n) j count stands behind =
    let c = 3 * n + count in
    let h3 : IsLongestFrom program (slot + 1 + 1 + 1) c = from_sends program rest (slot + 1 + 1 + 1) n (suc j) count
    stands.1.1.1 behind in
    let h2 : IsLongestFrom program (slot + 1 + 1) (1 + c) = one_way program _ _ _ c _ stands.1.1.0 refl refl refl h3 in
    let h1 : IsLongestFrom program (slot + 1) (1 + (1 + c)) = one_way program _ _ _ _ _ stands.1.0 refl refl refl h2 in
    let h0 : IsLongestFrom program slot (1 + (1 + (1 + c))) = one_way program _ _ _ _ _ stands.0 refl refl refl h1 in
    as_many program slot _ _ (omega arith) h0

from_store : (program rest : List Insn) (slot count : ℕ) → Stands program slot (store_listing ++ rest)
    → IsLongestFrom program (slot + 1 + 1) count → IsLongestFrom program slot (2 + count)
from_store program rest slot count stands h2 =
    let h1 : IsLongestFrom program (slot + 1) (1 + count) = one_way program _ _ _ _ _ stands.1.0 refl refl refl h2 in
    let h0 : IsLongestFrom program slot (1 + (1 + count)) = one_way program _ _ _ _ _ stands.0 refl refl refl h1 in
    as_many program slot _ _ (omega arith) h0

from_counts : (program rest : List Insn) (slot n j count : ℕ) → Stands program slot (count_blocks n j ++ rest)
    → ((to : ℕ) → Stands program to rest → IsLongestFrom program to count)
    → IsLongestFrom program slot (4 * n + count)
from_counts program rest slot zero j count stands behind =
    as_many program slot count (4 * 0 + count) (omega arith) (behind slot stands)
from_counts program rest slot (suc n) j count stands behind =
    let c = 4 * n + count in
    let end = slot + 1 + 1 + 1 + 1 in
    let h4 : IsLongestFrom program end c = from_counts program rest end n (suc j) count stands.1.1.1.1 behind in
    let h3 : IsLongestFrom program (slot + 1 + 1 + 1) (1 + c) = one_way program _ _ _ c _ stands.1.1.1.0 refl refl
    refl h4 in
    let h2 : IsLongestFrom program (slot + 1 + 1) (1 + (1 + c)) = fork program _ _ _ _ end (1 + c) c (1 + c) _
    stands.1.1.0 refl refl refl refl h3 h4 (omega arith) in
    let h1 : IsLongestFrom program (slot + 1) (1 + (1 + (1 + c))) = one_way program _ _ _ _ _ stands.1.0 refl refl
    refl h2 in
    let h0 : IsLongestFrom program slot (1 + (1 + (1 + (1 + c)))) = one_way program _ _ _ _ _ stands.0 refl refl refl
    h1 in
    as_many program slot _ _ (omega arith) h0

from_choice : (program rest : List Insn) (base quorum modulus count : ℕ)
    → Stands program base (choice quorum modulus ++ rest) → IsLongestFrom program (base + 18) count
    → IsLongestFrom program base (8 + count)
from_choice program rest base quorum modulus count stands end =
    let Longest = λ (k c : ℕ). IsLongestFrom program (base + k) c in
    let at = λ (k : ℕ) (insn : Insn) (e : slice_get (choice quorum modulus ++ rest) k ≡ Some insn).
    found_in program base (choice quorum modulus ++ rest) k insn stands e in
    let h17 : Longest 17 (1 + count) = one_way program _ _ (base + 18) _ _ (at 17 _ refl) refl refl (omega arith) end in
    let h16 : Longest 16 (1 + (1 + count)) = fork program _ _ (base + 17) _ (base + 18) (1 + count) count (1 + count) _
    (at 16 _ refl) refl (omega arith) refl (omega arith) h17 end (omega arith) in
    let h15 : Longest 15 (3 + count) = as_many program _ _ _ (omega arith)
    (one_way program _ _ (base + 16) _ _ (at 15 _ refl) refl refl (omega arith) h16) in
    let h14 : Longest 14 (4 + count) = as_many program _ _ _ (omega arith)
    (one_way program _ _ (base + 15) _ _ (at 14 _ refl) refl refl (omega arith) h15) in
    let h13 : Longest 13 (1 + count) = leap program _ _ (base + 18) _ _ (at 13 _ refl) refl refl (omega arith) end in
    let h12 : Longest 12 (2 + count) = as_many program _ _ _ (omega arith)
    (one_way program _ _ (base + 13) _ _ (at 12 _ refl) refl refl (omega arith) h13) in
    let h11 : Longest 11 (3 + count) = as_many program _ _ _ (omega arith)
    (one_way program _ _ (base + 12) _ _ (at 11 _ refl) refl refl (omega arith) h12) in
    let h10 : Longest 10 (1 + count) = leap program _ _ (base + 18) _ _ (at 10 _ refl) refl refl (omega arith) end in
    let h9 : Longest 9 (2 + count) = as_many program _ _ _ (omega arith)
    (one_way program _ _ (base + 10) _ _ (at 9 _ refl) refl refl (omega arith) h10) in
    let h8 : Longest 8 (3 + count) = as_many program _ _ _ (omega arith)
    (one_way program _ _ (base + 9) _ _ (at 8 _ refl) refl refl (omega arith) h9) in
    let h7 : Longest 7 (4 + count) = as_many program _ _ _ (omega arith)
    (one_way program _ _ (base + 8) _ _ (at 7 _ refl) refl refl (omega arith) h8) in
    let h6 : Longest 6 (5 + count) = as_many program _ _ _ (omega arith) (fork program _ _ (base + 7) _ (base + 11)
    (4 + count) (3 + count) (4 + count) _ (at 6 _ refl) refl (omega arith) refl (omega arith) h7 h11 (omega arith)) in
    let h5 : Longest 5 (6 + count) = as_many program _ _ _ (omega arith)
    (one_way program _ _ (base + 6) _ _ (at 5 _ refl) refl refl (omega arith) h6) in
    let h4 : Longest 4 (7 + count) = as_many program _ _ _ (omega arith) (fork program _ _ (base + 5) _ (base + 14)
    (6 + count) (4 + count) (6 + count) _ (at 4 _ refl) refl (omega arith) refl (omega arith) h5 h14 (omega arith)) in
    let h3 : Longest 3 (1 + count) = leap program _ _ (base + 18) _ _ (at 3 _ refl) refl refl (omega arith) end in
    let h2 : Longest 2 (2 + count) = as_many program _ _ _ (omega arith)
    (one_way program _ _ (base + 3) _ _ (at 2 _ refl) refl refl (omega arith) h3) in
    let h1 : Longest 1 (3 + count) = as_many program _ _ _ (omega arith)
    (one_way program _ _ (base + 2) _ _ (at 1 _ refl) refl refl (omega arith) h2) in
    let h0 : Longest 0 (8 + count) = as_many program _ _ _ (omega arith) (fork program _ _ (base + 1) _ (base + 4)
    (3 + count) (7 + count) (7 + count) _ (at 0 _ refl) refl (omega arith) refl (omega arith) h1 h4 (omega arith)) in
    let here : base + 0 ≡ base = omega arith in
    subst (λ (x : ℕ). IsLongestFrom program x (8 + count)) here h0

-- ---- the whole

from_end : (program : List Insn) (slot quorum modulus n : ℕ)
    → Stands program slot (choice quorum modulus ++ (store_listing ++ (send_blocks n 0 ++ tail)))
    → IsLongestFrom program slot (12 + 3 * n)
from_end program slot quorum modulus n stands =
    let rest = store_listing ++ (send_blocks n 0 ++ tail) in
    let sends : Stands program (slot + 18) rest = stands_behind program slot (slot + 18) (choice quorum modulus) rest
    (omega arith) stands in
    let h : IsLongestFrom program (slot + 18 + 1 + 1) (3 * n + 2) = from_sends program tail _ n 0 2 sends.1.1
    (λ to at. from_tail program to at) in
    as_many program slot (8 + (2 + (3 * n + 2))) (12 + 3 * n) (omega arith)
    (from_choice program rest slot quorum modulus (2 + (3 * n + 2)) stands
    (from_store program (send_blocks n 0 ++ tail) (slot + 18) (3 * n + 2) sends h))

longest_of : (program : List Insn) (n quorum modulus : ℕ) → Stands program 0 (listing n quorum modulus)
    → IsLongestFrom program 0 (17 + 7 * n)
longest_of program n quorum modulus stands =
    let c = 4 * n + (12 + 3 * n) in
    let h5 : IsLongestFrom program 5 c = from_counts program _ 5 n 0 (12 + 3 * n) stands.1.1.1.1.1
    (λ to at. from_end program to quorum modulus n at) in
    let h4 : IsLongestFrom program 4 (1 + c) = one_way program _ _ _ _ _ stands.1.1.1.1.0 refl refl refl h5 in
    let h3 : IsLongestFrom program 3 (1 + (1 + c)) = one_way program _ _ _ _ _ stands.1.1.1.0 refl refl refl h4 in
    let h2 : IsLongestFrom program 2 (1 + (1 + (1 + c))) = fork program _ _ 3 _ 4 (1 + (1 + c)) (1 + c) (1 + (1 + c)) _
    stands.1.1.0 refl refl refl refl h3 h4 (omega arith) in
    let h1 : IsLongestFrom program 1 (1 + (1 + (1 + (1 + c)))) = one_way program _ _ _ _ _ stands.1.0 refl refl refl
    h2 in
    as_many program 0 _ _ (omega arith) (one_way program _ _ _ _ _ stands.0 refl refl refl h1)

pub clock_longest : (rule : Rule) → IsLongestPath (clock_listing rule) (17 + 7 * rule.nodes)
clock_longest rule = longest_of (clock_listing rule) rule.nodes (quorum_of rule) rule.modulus
    (stands_whole (clock_listing rule) (ones_clock rule.nodes (quorum_of rule) rule.modulus))
