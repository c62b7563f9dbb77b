-- The tables of the listings that don't keep to the rule.
use Rattle.std.proofs.Common.{◌≡◌, ℕ, zero, suc, ◌+◌, ◌-◌, ◌^◌, ◌%◌, ◌<◌, ◌≤◌, true, nat_lt, List, [], ◌∷◌, ◌++◌, length, Option, Some, None, slice_get, pos, refl, arith}
use Rattle.std.specs.Int.{w32, w64, cast_signed, cast_unsigned}
use Rattle.std.proofs.lemmas.Bool.{lt-ltb, eq-eqb}
use Rattle.node_env.specs.Env.{Extent, IsExtent}
use Rattle.bpf_insn.specs.declared.forms.Insn.{Insn}
use Rattle.bpf_insn.specs.Edges.{BeginsAt}
use Rattle.bpf_insn.specs.declared.forms.Width.TheVariants.{W32}
use Rattle.bpf_insn.specs.declared.forms.AluOp.TheVariants.{Mov}
use Rattle.value_range.specs.Span.{just, full_of}
use Rattle.value_range.specs.Results.{alu_of}
use Rattle.bpf_verify.specs.declared.abstract_value.AbstractValue.{AbstractValue}
use Rattle.bpf_verify.specs.declared.abstract_value.AbstractValue.TheVariants.{Unset, Number}
use Rattle.bpf_verify.specs.States.{AbstractState, IsKindIn, IsContainedIn, IsProperKind, IsProper}
use Rattle.bpf_verify.specs.Typable.{Table, Typable}
use Rattle.bpf_verify.proofs.StateLaws.{kind_in_itself}
use Rattle.clock_nodes.specs.Listings.{say_block, say_blocks, say_listing, echo_block, echo_blocks, echo_listing, tail}
use Rattle.clock_nodes.proofs.Places.{Stands, begins, first_begins, found_in, stands_behind, stands_whole}
use Rattle.clock_nodes.proofs.HostileRuns.{ones_say, ones_echo}
use Rattle.clock_nodes.proofs.Taken.{state, proper, within, keeps_own, sound_on, sound_end, Marked, mark_in, marks_behind, marks_whole, Sounds, counted_from, sounds_append, typed}
use Rattle.clock_nodes.proofs.TakenClock.{node, some_node, still_node, small_kind, imm_is}

-- ---- what is known: a node's number in r1, what is said in r2, what was heard in r0

abbrev word : AbstractValue
word = Number (full_of 32)

abbrev nothing : AbstractState
nothing = state Unset Unset Unset Unset Unset Unset Unset

abbrev naming : Extent → AbstractState
naming shape = state Unset (node shape) Unset Unset Unset Unset Unset

abbrev saying : Extent → AbstractState
saying shape = state Unset (node shape) word Unset Unset Unset Unset

abbrev hearing : AbstractState
hearing = state word Unset Unset Unset Unset Unset Unset

abbrev holding : AbstractState
holding = state Unset Unset word Unset Unset Unset Unset

-- ---- the states of the parts

abbrev say_states : Extent → List (Option ℕ) → List AbstractState
say_states shape [] = []
say_states shape (None ∷ values) = say_states shape values
say_states shape (Some value ∷ values) = nothing ∷ naming shape ∷ saying shape ∷ say_states shape values

abbrev echo_states : Extent → ℕ → List AbstractState
echo_states shape zero = []
echo_states shape (suc n) = nothing ∷ naming shape ∷ hearing ∷ holding ∷ saying shape ∷ echo_states shape n

abbrev tail_states : List AbstractState
tail_states = nothing ∷ hearing ∷ []

some_word : IsProperKind word
some_word = record { ordered = omega arith }

is_nothing : IsProper nothing
is_nothing = proper _ _ _ _ _ _ _ tt tt tt tt tt tt tt

is_naming : (shape : Extent) → IsProper (naming shape)
is_naming shape = proper _ _ _ _ _ _ _ tt (some_node shape) tt tt tt tt tt

is_saying : (shape : Extent) → IsProper (saying shape)
is_saying shape = proper _ _ _ _ _ _ _ tt (some_node shape) some_word tt tt tt tt

is_hearing : IsProper hearing
is_hearing = proper _ _ _ _ _ _ _ some_word tt tt tt tt tt tt

is_holding : IsProper holding
is_holding = proper _ _ _ _ _ _ _ tt tt some_word tt tt tt tt

to_nothing : (A : AbstractState) → IsContainedIn A nothing
to_nothing A = within A _ _ _ _ _ _ _ tt tt tt tt tt tt tt

to_naming : (shape : Extent) (A : AbstractState) → IsKindIn (A.kinds 1) (node shape) → IsContainedIn A (naming shape)
to_naming shape A r1 = within A _ _ _ _ _ _ _ tt r1 tt tt tt tt tt

to_saying : (shape : Extent) (A : AbstractState) → IsKindIn (A.kinds 1) (node shape) → IsKindIn (A.kinds 2) word
    → IsContainedIn A (saying shape)
to_saying shape A r1 r2 = within A _ _ _ _ _ _ _ tt r1 r2 tt tt tt tt

to_hearing : (A : AbstractState) → IsKindIn (A.kinds 0) word → IsContainedIn A hearing
to_hearing A r0 = within A _ _ _ _ _ _ _ r0 tt tt tt tt tt tt

to_holding : (A : AbstractState) → IsKindIn (A.kinds 2) word → IsContainedIn A holding
to_holding A r2 = within A _ _ _ _ _ _ _ tt tt r2 tt tt tt tt

still_word : IsKindIn word word
still_word = kind_in_itself word

-- the low 32 bits of a number, whatever it is
short : (x : ℕ) → IsKindIn (Number (alu_of Mov W32 (just x) (just x))) word
short x = rw (eq-eqb x x refl) (just _, refl, record { low = omega arith; high = omega arith })

-- ---- the tail

tail_sounds : (program : List Insn) (shape : Extent) (table : Table) (base : ℕ) → Stands program base tail
    → Marked table base tail_states → Sounds program shape table base 0 tail
tail_sounds program shape table base stands marks =
    let At = λ (k : ℕ) (A : AbstractState) (e : slice_get tail_states k ≡ Some A).
    mark_in table base tail_states k A marks e in
    let next : BeginsAt program (base + 1) = begins program (base + 1) _ stands.1.0 in
    let s0 = sound_on program shape table (base + 0) _ (base + 1) _ nothing _ hearing refl refl refl (omega arith) next
    (At 1 _ refl) (to_hearing _ (small_kind 0 (2 ^ 32 - 1) (omega arith))) is_nothing (keeps_own _ _ _ refl) in
    let s1 = sound_end program shape table (base + 1) _ hearing refl refl is_hearing (keeps_own _ _ _ refl) in
    ((nothing, At 0 _ refl, s0), ((hearing, At 1 _ refl, s1), tt))

-- ---- `say`

first_said : (shape : Extent) (table : Table) (slot : ℕ) (values : List (Option ℕ))
    → Marked table slot (say_states shape values ++ tail_states) → table slot ≡ Some nothing
first_said shape table slot [] marks = marks.0
first_said shape table slot (None ∷ values) marks = first_said shape table slot values marks
first_said shape table slot (Some value ∷ values) marks = marks.0

say_sounds : (program rest : List Insn) (shape : Extent) (table : Table) (base j value : ℕ) (As : List AbstractState)
    → shape.nodes ≤ 64 → j < shape.nodes → Stands program base (say_block j value ++ rest)
    → Marked table base (nothing ∷ naming shape ∷ saying shape ∷ As) → BeginsAt program (base + 3)
    → table (base + 3) ≡ Some nothing → Sounds program shape table base 0 (say_block j value)
say_sounds program rest shape table base j value As few lt stands marks begun there =
    let At = λ (k : ℕ) (A : AbstractState) (e : slice_get (nothing ∷ naming shape ∷ saying shape ∷ As) k ≡ Some A).
    mark_in table base (nothing ∷ naming shape ∷ saying shape ∷ As) k A marks e in
    let begin = λ (k : ℕ) (insn : Insn) (e : slice_get (say_block j value ++ rest) k ≡ Some insn).
    begins program (base + k) insn (found_in program base (say_block j value ++ rest) k insn stands e) in
    let receiver : cast_unsigned w64 (pos j) % 2 ^ 64 ≡ j = imm_is j (omega (arith, lt, few)) in
    let one_of : nat_lt (shape.nodes - 1) shape.nodes ≡ true = lt-ltb (shape.nodes - 1) shape.nodes
    (omega (arith, lt)) in
    let s0 = sound_on program shape table (base + 0) _ (base + 1) _ nothing _ (naming shape) refl refl refl
    (omega arith) (begin 1 _ refl) (At 1 _ refl)
    (to_naming shape _ (small_kind _ (shape.nodes - 1) (omega (arith, lt, receiver)))) is_nothing
    (keeps_own _ _ _ refl) in
    let s1 = sound_on program shape table (base + 1) _ (base + 2) _ (naming shape) _ (saying shape) refl refl refl
    (omega arith) (begin 2 _ refl) (At 2 _ refl) (to_saying shape _ (still_node shape)
    (short (cast_unsigned w64 (cast_signed w32 value) % 2 ^ 32))) (is_naming shape)
    (keeps_own _ _ _ refl) in
    let s2 = sound_on program shape table (base + 2) _ (base + 3) _ (saying shape) _ nothing refl refl refl
    (omega arith) begun there (to_nothing _) (is_saying shape) (keeps_own _ _ _ (rw one_of refl)) in
    ((nothing, At 0 _ refl, s0), ((naming shape, At 1 _ refl, s1), ((saying shape, At 2 _ refl, s2), tt)))

says_sound : (program : List Insn) (shape : Extent) (table : Table) (base : ℕ) (values : List (Option ℕ)) (j : ℕ)
    → shape.nodes ≤ 64 → length values + j ≡ shape.nodes → Stands program base (say_blocks j values ++ tail)
    → Marked table base (say_states shape values ++ tail_states)
    → Sounds program shape table base 0 (say_blocks j values)
says_sound program shape table base [] j few all stands marks = tt
says_sound program shape table base (None ∷ values) j few all stands marks =
    says_sound program shape table base values (suc j) few (omega (arith, all)) stands marks
says_sound program shape table base (Some value ∷ values) j few all stands marks =
    let next = base + 3 in
    let behind : Stands program next (say_blocks (suc j) values ++ tail) = stands_behind program base next
    (say_block j value) (say_blocks (suc j) values ++ tail) (omega arith) stands in
    let marks_next : Marked table next (say_states shape values ++ tail_states) = marks_behind table base next
    (nothing ∷ naming shape ∷ saying shape ∷ []) (say_states shape values ++ tail_states) (omega arith) marks in
    let begun = first_begins program next (say_blocks (suc j) values) tail refl behind in
    let one = say_sounds program (say_blocks (suc j) values ++ tail) shape table base j value
    (say_states shape values ++ tail_states) few (omega (arith, all)) stands marks begun
    (first_said shape table next values marks_next) in
    let others = says_sound program shape table next values (suc j) few (omega (arith, all)) behind marks_next in
    sounds_append program shape table base 0 (say_block j value) (say_blocks (suc j) values) one
    (counted_from program shape table next base 0 3 (say_blocks (suc j) values) (omega arith) others)

length_said : (shape : Extent) (values : List (Option ℕ)) (j : ℕ)
    → length (say_states shape values) ≡ length (say_blocks j values)
length_said shape [] j = refl
length_said shape (None ∷ values) j = length_said shape values (suc j)
length_said shape (Some value ∷ values) j = omega (arith, length_said shape values (suc j))

pub say_typable : (values : List (Option ℕ)) (shape : Extent) → IsExtent shape.nodes shape.memory
    → length values ≡ shape.nodes → Typable (say_listing values) shape
say_typable values shape is whole =
    let program = say_listing values in
    let blocks = say_blocks 0 values in
    let states = say_states shape values ++ tail_states in
    let table : Table = λ at. slice_get states at in
    let stands = stands_whole program (ones_say values) in
    let marks = marks_whole states in
    let end = 0 + length blocks in
    let stand_tail : Stands program end tail = stands_behind program 0 end blocks tail refl stands in
    let mark_tail : Marked table end tail_states = marks_behind table 0 end (say_states shape values) tail_states
    (omega (arith, length_said shape values 0)) marks in
    let s_blocks = says_sound program shape table 0 values 0 (omega (arith, is.few)) (omega (arith, whole))
    stands marks in
    let s_tail = tail_sounds program shape table end stand_tail mark_tail in
    typed program shape states nothing (ones_say values) (first_said shape table 0 values marks) (to_nothing _)
    (sounds_append program shape table 0 0 blocks tail s_blocks
    (counted_from program shape table end 0 0 (0 + length blocks) tail (omega arith) s_tail))

-- ---- `echo`

first_echoed : (shape : Extent) (table : Table) (slot n : ℕ) → Marked table slot (echo_states shape n ++ tail_states)
    → table slot ≡ Some nothing
first_echoed shape table slot zero marks = marks.0
first_echoed shape table slot (suc n) marks = marks.0

echo_sounds : (program rest : List Insn) (shape : Extent) (table : Table) (base j n : ℕ) (As : List AbstractState)
    → shape.nodes ≤ 64 → j < shape.nodes → Stands program base (echo_block j ++ rest)
    → Marked table base (echo_states shape (suc n) ++ As) → BeginsAt program (base + 5)
    → table (base + 5) ≡ Some nothing → Sounds program shape table base 0 (echo_block j)
echo_sounds program rest shape table base j n As few lt stands marks begun there =
    let At = λ (k : ℕ) (A : AbstractState) (e : slice_get (echo_states shape (suc n) ++ As) k ≡ Some A).
    mark_in table base (echo_states shape (suc n) ++ As) k A marks e in
    let begin = λ (k : ℕ) (insn : Insn) (e : slice_get (echo_block j ++ rest) k ≡ Some insn).
    begins program (base + k) insn (found_in program base (echo_block j ++ rest) k insn stands e) in
    let named : cast_unsigned w64 (pos j) % 2 ^ 64 ≡ j = imm_is j (omega (arith, lt, few)) in
    let one_of : nat_lt (shape.nodes - 1) shape.nodes ≡ true = lt-ltb (shape.nodes - 1) shape.nodes
    (omega (arith, lt)) in
    let in_range = small_kind (cast_unsigned w64 (pos j) % 2 ^ 64) (shape.nodes - 1) (omega (arith, lt, named)) in
    let s0 = sound_on program shape table (base + 0) _ (base + 1) _ nothing _ (naming shape) refl refl refl
    (omega arith) (begin 1 _ refl) (At 1 _ refl) (to_naming shape _ in_range) is_nothing (keeps_own _ _ _ refl) in
    let s1 = sound_on program shape table (base + 1) _ (base + 2) _ (naming shape) _ hearing refl refl refl
    (omega arith) (begin 2 _ refl) (At 2 _ refl) (to_hearing _ still_word) (is_naming shape)
    (keeps_own _ _ _ (rw one_of refl)) in
    let s2 = sound_on program shape table (base + 2) _ (base + 3) _ hearing _ holding refl refl refl (omega arith)
    (begin 3 _ refl) (At 3 _ refl) (to_holding _ still_word) is_hearing (keeps_own _ _ _ refl) in
    let s3 = sound_on program shape table (base + 3) _ (base + 4) _ holding _ (saying shape) refl refl refl
    (omega arith) (begin 4 _ refl) (At 4 _ refl) (to_saying shape _ in_range still_word) is_holding
    (keeps_own _ _ _ refl) in
    let s4 = sound_on program shape table (base + 4) _ (base + 5) _ (saying shape) _ nothing refl refl refl
    (omega arith) begun there (to_nothing _) (is_saying shape) (keeps_own _ _ _ (rw one_of refl)) in (
      (nothing, At 0 _ refl, s0),
      (
        (naming shape, At 1 _ refl, s1),
        (
          (hearing, At 2 _ refl, s2),
          ((holding, At 3 _ refl, s3), ((saying shape, At 4 _ refl, s4), tt)),
        ),
      ),
    )

echoes_sound : (program : List Insn) (shape : Extent) (table : Table) (base n j : ℕ)
    → shape.nodes ≤ 64 → n + j ≡ shape.nodes → Stands program base (echo_blocks n j ++ tail)
    → Marked table base (echo_states shape n ++ tail_states) → Sounds program shape table base 0 (echo_blocks n j)
echoes_sound program shape table base zero j few all stands marks = tt
echoes_sound program shape table base (suc n) j few all stands marks =
    let next = base + 5 in
    let states = nothing ∷ naming shape ∷ hearing ∷ holding ∷ saying shape ∷ [] in
    let behind : Stands program next (echo_blocks n (suc j) ++ tail) = stands_behind program base next (echo_block j)
    (echo_blocks n (suc j) ++ tail) (omega arith) stands in
    let marks_next : Marked table next (echo_states shape n ++ tail_states) = marks_behind table base next states
    (echo_states shape n ++ tail_states) (omega arith) marks in
    let begun = first_begins program next (echo_blocks n (suc j)) tail refl behind in
    let one = echo_sounds program (echo_blocks n (suc j) ++ tail) shape table base j n tail_states few
    (omega (arith, all)) stands marks begun (first_echoed shape table next n marks_next) in
    let others = echoes_sound program shape table next n (suc j) few (omega (arith, all)) behind marks_next in
    sounds_append program shape table base 0 (echo_block j) (echo_blocks n (suc j)) one
    (counted_from program shape table next base 0 5 (echo_blocks n (suc j)) (omega arith) others)

length_echoed : (shape : Extent) (n j : ℕ) → length (echo_states shape n) ≡ length (echo_blocks n j)
length_echoed shape zero j = refl
length_echoed shape (suc n) j = omega (arith, length_echoed shape n (suc j))

pub echo_typable : (shape : Extent) → IsExtent shape.nodes shape.memory → Typable (echo_listing shape.nodes) shape
echo_typable shape is =
    let n = shape.nodes in
    let program = echo_listing n in
    let blocks = echo_blocks n 0 in
    let states = echo_states shape n ++ tail_states in
    let table : Table = λ at. slice_get states at in
    let stands = stands_whole program (ones_echo n) in
    let marks = marks_whole states in
    let end = 0 + length blocks in
    let stand_tail : Stands program end tail = stands_behind program 0 end blocks tail refl stands in
    let mark_tail : Marked table end tail_states = marks_behind table 0 end (echo_states shape n) tail_states
    (omega (arith, length_echoed shape n 0)) marks in
    let s_blocks = echoes_sound program shape table 0 n 0 (omega (arith, is.few)) (omega arith) stands marks in
    let s_tail = tail_sounds program shape table end stand_tail mark_tail in
    typed program shape states nothing (ones_echo n) (first_echoed shape table 0 n marks) (to_nothing _)
    (sounds_append program shape table 0 0 blocks tail s_blocks
    (counted_from program shape table end 0 0 (0 + length blocks) tail (omega arith) s_tail))
