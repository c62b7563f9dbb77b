-- The listings are programs: their numbers are of their types, and their slots are counted.
use Rattle.std.proofs.Common.{◌≡◌, ℕ, zero, suc, ◌+◌, ◌*◌, ◌<◌, ◌≤◌, ◌^◌, List, [], ◌∷◌, ◌++◌, length, Option, Some, None, All, pos, refl, ◌∙◌, arith, rules}
use Rattle.std.specs.Prelude.{FitsSigned}
use Rattle.std.specs.Int.{w16, w32, cast_signed}
use Rattle.std.specs.List.{AllByRecursion}
use Rattle.std.proofs.lemmas.Int.{ints}
use Rattle.std.proofs.lemmas.List.{length-append}
use Rattle.std.proofs.lemmas.List.Elements.{All-head, All-tail}
use Rattle.node_env.specs.declared.shape.TheConstants.{MAX_NODES}
use Rattle.node_env.specs.Slots.{IsSlot}
use Rattle.bpf_insn.specs.declared.forms.Insn.{Insn}
use Rattle.bpf_insn.specs.declared.listing.TheConstants.{MAX_SLOTS}
use Rattle.bpf_insn.specs.Encoding.{InRange}
use Rattle.bpf_insn.specs.Programs.{IsProgram, slots_of}
use Rattle.bpf_insn.proofs.LayoutLaws.{slots_of-cons}
use Rattle.clock_nodes.specs.Rule.{Rule, IsRule, quorum_of}
use Rattle.clock_nodes.specs.Listings.{head, count_blocks, choice, store_listing, send_blocks, tail, listing, clock_listing, say_blocks, say_listing, echo_blocks, echo_listing}
use Rattle.clock_nodes.proofs.Places.{Ones}
use Rattle.clock_nodes.proofs.ClockRuns.{ones_clock}
use Rattle.clock_nodes.proofs.HostileRuns.{ones_say, ones_echo}

-- ---- ranges

abbrev AreInRange : List Insn → Type 0
AreInRange is = AllByRecursion InRange is

in_append : (xs ys : List Insn) → AreInRange xs → AreInRange ys → AreInRange (xs ++ ys)
in_append [] ys h g = g
in_append (x ∷ xs) ys h g = (h.0, in_append xs ys h.1 g)

fit32 : (n : ℕ) → n < 2 ^ 31 → FitsSigned w32 (pos n)
fit32 n h = omega (arith, h)

fit16 : (n : ℕ) → n < 2 ^ 15 → FitsSigned w16 (pos n)
fit16 n h = omega (arith, h)

in_choice : (q m : ℕ) → q < 2 ^ 31 → m < 2 ^ 31 → AreInRange (choice q m)
in_choice q m g h = search (rules, fit32, fit16)

in_head : (m : ℕ) → m < 2 ^ 31 → AreInRange (head m)
in_head m h = search (rules, fit32, fit16)

in_counts : (n j : ℕ) → n + j < 2 ^ 31 → AreInRange (count_blocks n j)
in_counts zero j h = tt
in_counts (suc n) j h = let rest = in_counts n (suc j) (omega (arith, h)) in search (rules, fit32, fit16, rest)

in_sends : (n j : ℕ) → n + j < 2 ^ 31 → AreInRange (send_blocks n j)
in_sends zero j h = tt
in_sends (suc n) j h = let rest = in_sends n (suc j) (omega (arith, h)) in search (rules, fit32, fit16, rest)

-- ---- slots

-- each instruction has one, so there are as many as instructions
count_of : (p : List Insn) → Ones p → slots_of p ≡ length p
count_of [] h = refl
count_of (i ∷ p) h = omega (arith, slots_of-cons i p, h.0, count_of p h.1)

pub length_counts : (n j : ℕ) → length (count_blocks n j) ≡ 4 * n
length_counts zero j = refl
length_counts (suc n) j = omega (arith, length_counts n (suc j))

pub length_sends : (n j : ℕ) → length (send_blocks n j) ≡ 3 * n
length_sends zero j = refl
length_sends (suc n) j = omega (arith, length_sends n (suc j))

pub clock_slots : (nodes quorum modulus : ℕ) → slots_of (listing nodes quorum modulus) ≡ 27 + 7 * nodes
clock_slots nodes quorum modulus =
    let sends = send_blocks nodes 0 in
    let counts = count_blocks nodes 0 in
    omega (
      arith,
      count_of (listing nodes quorum modulus) (ones_clock nodes quorum modulus),
      length_counts nodes 0,
      length_sends nodes 0,
      length-append sends tail,
      length-append counts (choice quorum modulus ++ (store_listing ++ (sends ++ tail))),
    )

program_of : (p : List Insn) → AreInRange p → 1 ≤ slots_of p → slots_of p ≤ MAX_SLOTS → IsProgram p
program_of p range some few = record { in_range = range; some_slots = some; few_slots = few }

pub clock_is_program : (rule : Rule) → IsRule rule.nodes rule.faults rule.modulus → IsProgram (clock_listing rule)
clock_is_program rule ok =
    let n = rule.nodes in
    let q = quorum_of rule in
    let m = rule.modulus in
    let slots = clock_slots n q m in
    let few : n + 0 < 2 ^ 31 = omega (arith, ok.few) in
    let q_few : q < 2 ^ 31 = omega (arith, ok.few) in
    let m_few : m < 2 ^ 31 = omega (arith, ok.most) in
    let sends = send_blocks n 0 ++ tail in
    let stores = store_listing ++ sends in
    let choices = choice q m ++ stores in
    let in_stores : AreInRange stores = (
      fit16 0 (omega arith),
      (
        fit16 4 (omega arith),
        in_append (send_blocks n 0) tail (in_sends n 0 few)
            (fit32 0 (omega arith), (tt, tt)),
      ),
    ) in
    let in_counted : AreInRange (count_blocks n 0 ++ choices) = in_append (count_blocks n 0) choices
    (in_counts n 0 few) (in_append (choice q m) stores (in_choice q m q_few m_few) in_stores) in
    program_of (clock_listing rule) (in_append (head m) (count_blocks n 0 ++ choices) (in_head m m_few) in_counted)
    (omega (arith, slots)) (omega (arith, slots, ok.few))

-- ---- say

-- 32 bits that are read as signed
fit_signed : (value : ℕ) → value < 2 ^ 32 → FitsSigned w32 (cast_signed w32 value)
fit_signed value small = omega (arith, ints, small)

in_says : (values : List (Option ℕ)) (j : ℕ) → length values + j < 2 ^ 31 → All IsSlot values
    → AreInRange (say_blocks j values)
in_says [] j few fit = tt
in_says (None ∷ values) j few fit = in_says values (suc j) (omega (arith, few)) (All-tail IsSlot None values fit)
in_says (Some value ∷ values) j few fit =
    let rest = in_says values (suc j) (omega (arith, few)) (All-tail IsSlot (Some value) values fit) in (
      fit32 j (omega (arith, few)),
      (
        fit_signed value (All-head IsSlot (Some value) values fit),
        (fit32 3 (omega arith), rest),
      ),
    )

length_says : (values : List (Option ℕ)) (j : ℕ) → length (say_blocks j values) ≤ 3 * length values
length_says [] j = omega arith
length_says (None ∷ values) j = omega (arith, length_says values (suc j))
length_says (Some value ∷ values) j = omega (arith, length_says values (suc j))

say_count : (values : List (Option ℕ)) → slots_of (say_listing values) ≡ length (say_blocks 0 values) + 2
say_count values = count_of (say_listing values) (ones_say values) ∙ length-append (say_blocks 0 values) tail

pub say_slots : (values : List (Option ℕ)) → slots_of (say_listing values) ≤ 2 + 3 * length values
say_slots values = omega (arith, say_count values, length_says values 0)

pub say_is_program : (values : List (Option ℕ)) → length values ≤ MAX_NODES → All IsSlot values
    → IsProgram (say_listing values)
say_is_program values few fit =
    program_of (say_listing values) (in_append (say_blocks 0 values) tail (in_says values 0 (omega (arith, few)) fit)
    (fit32 0 (omega arith), (tt, tt)))
    (omega (arith, say_count values)) (omega (arith, say_slots values, few))

-- ---- echo

in_echoes : (n j : ℕ) → n + j < 2 ^ 31 → AreInRange (echo_blocks n j)
in_echoes zero j h = tt
in_echoes (suc n) j h = let rest = in_echoes n (suc j) (omega (arith, h)) in search (rules, fit32, fit16, rest)

length_echoes : (n j : ℕ) → length (echo_blocks n j) ≡ 5 * n
length_echoes zero j = refl
length_echoes (suc n) j = omega (arith, length_echoes n (suc j))

pub echo_slots : (nodes : ℕ) → slots_of (echo_listing nodes) ≡ 2 + 5 * nodes
echo_slots nodes = omega (
  arith,
  count_of (echo_listing nodes) (ones_echo nodes),
  length-append
      (echo_blocks nodes 0) tail,
  length_echoes nodes 0,
)

pub echo_is_program : (nodes : ℕ) → nodes ≤ MAX_NODES → IsProgram (echo_listing nodes)
echo_is_program nodes few =
    program_of (echo_listing nodes) (in_append (echo_blocks nodes 0) tail (in_echoes nodes 0 (omega (arith, few)))
    (fit32 0 (omega arith), (tt, tt)))
    (omega (arith, echo_slots nodes)) (omega (arith, echo_slots nodes, few))
