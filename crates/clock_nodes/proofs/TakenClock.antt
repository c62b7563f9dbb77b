-- The table of the clock's listing, part by part.
use Rattle.std.proofs.Common.{◌≡◌, ℕ, zero, suc, ◌+◌, ◌-◌, ◌*◌, ◌^◌, ◌%◌, ◌<◌, ◌≤◌, Bool, true, false, nat_lt, List, [], ◌∷◌, ◌++◌, length, Option, Some, None, IsSome, slice_get, min, drop, ℤ, pos, refl, sym, ap, arith, subst}
use Rattle.std.specs.Int.{w64, cast_unsigned}
use Rattle.std.proofs.Math.Nat.{mod-eq_of_lt}
use Rattle.std.proofs.lemmas.Option.{same_Some, none-some}
use Rattle.std.proofs.lemmas.Bool.{lt-ltb, le-ltb}
use Rattle.node_env.specs.declared.region.Region.TheVariants.{Mem}
use Rattle.node_env.specs.Env.{Extent, IsExtent}
use Rattle.bpf_insn.specs.declared.forms.Reg.{Reg}
use Rattle.bpf_insn.specs.declared.forms.Reg.TheVariants.{R7, R8}
use Rattle.bpf_insn.specs.declared.forms.Width.TheVariants.{W64}
use Rattle.bpf_insn.specs.declared.forms.Cond.TheVariants.{Lt}
use Rattle.bpf_insn.specs.declared.forms.Operand.TheVariants as operand
use Rattle.bpf_insn.specs.declared.forms.Insn.{Insn}
use Rattle.bpf_insn.specs.Edges.{BeginsAt}
use Rattle.value_range.specs.Span.{Span, span, just, full_of, is_single, IsInside}
use Rattle.value_range.specs.Conditions.{less, branch_of}
use Rattle.bpf_verify.specs.declared.abstract_value.AbstractValue.{AbstractValue}
use Rattle.bpf_verify.specs.declared.abstract_value.AbstractValue.TheVariants.{Unset, Number, Pointer}
use Rattle.bpf_verify.specs.States.{AbstractState, IsKindIn, IsContainedIn, IsProperKind, IsProper, entry_state}
use Rattle.bpf_verify.specs.Outcomes.{with_kind, refined_by}
use Rattle.bpf_verify.specs.Typable.{Table, Typable}
use Rattle.bpf_verify.proofs.StateLaws.{kind_in_itself}
use Rattle.clock_nodes.specs.declared.rule.TheConstants.{MAX_MODULUS}
use Rattle.clock_nodes.specs.Rule.{Rule, IsRule, quorum_of}
use Rattle.clock_nodes.specs.Listings.{head, count_block, count_blocks, choice, store_listing, send_block, send_blocks, tail, listing, clock_listing}
use Rattle.clock_nodes.proofs.Places.{Stands, begins, first_begins, found_in, stands_behind, stands_whole}
use Rattle.clock_nodes.proofs.ClockRuns.{ones_clock}
use Rattle.clock_nodes.proofs.Programs.{length_counts, length_sends}
use Rattle.clock_nodes.proofs.Taken.{state, proper, within, keeps_own, sound_on, sound_jump, sound_end, sound_fork, one_outcome, Marked, mark_in, marks_behind, marks_whole, Sounds, counted_from, sounds_append, typed}

-- ---- what is known: the memory's place in r6, and numbers of 32 or 64 bits

abbrev place : AbstractValue
place = Pointer Mem (just 0)

abbrev word : AbstractValue
word = Number (full_of 32)

abbrev any : AbstractValue
any = Number (full_of 64)

-- a clock that went on may be the modulus
abbrev more : AbstractValue
more = Number (span 0 (2 ^ 32))

abbrev pub node : Extent → AbstractValue
node shape = Number (span 0 (shape.nodes - 1))

abbrev at_entry : AbstractState
at_entry = state Unset place Unset Unset Unset Unset Unset

-- the memory's place alone, and with the clock
abbrev placed : AbstractState
placed = state Unset Unset Unset place Unset Unset Unset

abbrev clocked : AbstractState
clocked = state Unset Unset Unset place word Unset Unset

-- between the blocks that count, and within one
abbrev counting : AbstractState
counting = state Unset Unset Unset place word any Unset

abbrev asking : Extent → AbstractState
asking shape = state Unset (node shape) Unset place word any Unset

abbrev hearing : AbstractState
hearing = state word Unset Unset place word any Unset

-- the clock and the mark, and the mark alone
abbrev paired : AbstractState
paired = state Unset Unset Unset place word Unset word

abbrev marked : AbstractState
marked = state Unset Unset Unset place Unset Unset word

-- the coin, and with the clock
abbrev tossed : AbstractState
tossed = state word Unset Unset place Unset Unset Unset

abbrev taken_coin : AbstractState
taken_coin = state word Unset Unset place word Unset Unset

abbrev went_on : AbstractState
went_on = state Unset Unset Unset place more Unset Unset

abbrev went_on_marked : AbstractState
went_on_marked = state Unset Unset Unset place more Unset word

-- between the blocks that send, and within one
abbrev sending : AbstractState
sending = state Unset Unset Unset Unset word Unset Unset

abbrev naming : Extent → AbstractState
naming shape = state Unset (node shape) Unset Unset word Unset Unset

abbrev saying : Extent → AbstractState
saying shape = state Unset (node shape) word Unset word Unset Unset

abbrev answering : AbstractState
answering = state word Unset Unset Unset Unset Unset Unset

-- ---- the states of the parts

abbrev head_states : List AbstractState
head_states = at_entry ∷ placed ∷ clocked ∷ placed ∷ clocked ∷ []

abbrev count_states : Extent → ℕ → List AbstractState
count_states shape zero = []
count_states shape (suc n) = counting ∷ asking shape ∷ hearing ∷ counting ∷ count_states shape n

abbrev choice_states : List AbstractState
choice_states =
    counting ∷ placed ∷ clocked ∷ paired ∷ clocked ∷ placed ∷ marked ∷ placed ∷ tossed ∷ taken_coin ∷ paired
    ∷ placed ∷ clocked ∷ paired ∷ clocked ∷ went_on ∷ went_on_marked ∷ marked ∷ []

abbrev store_states : List AbstractState
store_states = paired ∷ paired ∷ []

abbrev send_states : Extent → ℕ → List AbstractState
send_states shape zero = []
send_states shape (suc n) = sending ∷ naming shape ∷ saying shape ∷ send_states shape n

abbrev tail_states : List AbstractState
tail_states = sending ∷ answering ∷ []

abbrev end_states : Extent → ℕ → List AbstractState
end_states shape n = store_states ++ (send_states shape n ++ tail_states)

abbrev clock_states : Extent → ℕ → List AbstractState
clock_states shape n = head_states ++ (count_states shape n ++ (choice_states ++ end_states shape n))

length_count_states : (shape : Extent) (n : ℕ) → length (count_states shape n) ≡ 4 * n
length_count_states shape zero = refl
length_count_states shape (suc n) = omega (arith, length_count_states shape n)

length_states : (shape : Extent) (n : ℕ) → length (send_states shape n) ≡ 3 * n
length_states shape zero = refl
length_states shape (suc n) = omega (arith, length_states shape n)

-- ---- ranges

ordered : (a b : ℕ) → a ≤ b → IsInside (just a) (span 0 b)
ordered a b h = record { low = omega arith; high = h }

pub small_kind : (a b : ℕ) → a ≤ b → IsKindIn (Number (just a)) (Number (span 0 b))
small_kind a b h = (just a, refl, ordered a b h)

pub imm_is : (n : ℕ) → n < 2 ^ 32 → cast_unsigned w64 (pos n) % 2 ^ 64 ≡ n
imm_is n h = mod-eq_of_lt (omega (arith, h))

-- of the numbers below the modulus
less_few : (a : Span) (m : ℕ) (pair : Span × Span) → m ≤ MAX_MODULUS → less a (just m) ≡ Some pair
    → pair.0.hi ≤ 2 ^ 32 - 1
less_few a m pair few e = by (nat_lt a.lo m) refl
  where
    by : (b : Bool) → nat_lt a.lo m ≡ b → pair.0.hi ≤ 2 ^ 32 - 1
    by true test =
        let found : Some (span a.lo (min a.hi (m - 1)), _) ≡ Some pair = rw test at e in
        let same : min a.hi (m - 1) ≡ pair.0.hi = ap (λ (p : Span × Span). p.0.hi) (same_Some _ pair found) in
        omega (arith, same, few)
    by false test = absurd (none-some pair (rw test at e))

-- a number that is known to be below the modulus
below : (a : Span) (modulus : ℕ) (pair : Span × Span) → is_single a ≡ false → nat_lt a.hi (2 ^ 64) ≡ true
    → modulus ≤ MAX_MODULUS
    → branch_of Lt W64 a (just (cast_unsigned w64 (pos modulus) % 2 ^ 64)) true ≡ Some pair
    → IsKindIn (Number pair.0) word
below a modulus pair many high few e =
    let limit : cast_unsigned w64 (pos modulus) % 2 ^ 64 ≡ modulus = imm_is modulus (omega (arith, few)) in
    let fits : nat_lt modulus (2 ^ 64) ≡ true = lt-ltb modulus (2 ^ 64) (omega (arith, few)) in
    let found : less a (just modulus) ≡ Some pair = rw (limit, many, high, fits) at e in
    (pair.0, refl, record { low = omega arith; high = less_few a modulus pair few found })

-- what is left of a register by a condition on it and a number
left_of : (A : AbstractState) (dst : Reg) (imm : ℤ) (found : Option (Span × Span)) (C D : AbstractState)
    → ((pair : Span × Span) → found ≡ Some pair → IsContainedIn (with_kind A dst (Number pair.0)) D)
    → refined_by A dst (operand.Imm imm) found ≡ Some C → IsContainedIn C D
left_of A dst imm None C D h e = absurd (none-some C e)
left_of A dst imm (Some pair) C D h e = subst (λ (x : AbstractState). IsContainedIn x D) (same_Some _ C e)
    (h pair refl)

-- ---- each state has members, and what is within it

some_place : IsProperKind place
some_place = record { ordered = omega arith }

some_word : IsProperKind word
some_word = record { ordered = omega arith }

some_any : IsProperKind any
some_any = record { ordered = omega arith }

some_more : IsProperKind more
some_more = record { ordered = omega arith }

pub some_node : (shape : Extent) → IsProperKind (node shape)
some_node shape = record { ordered = omega arith }

is_entry : IsProper at_entry
is_entry = proper _ _ _ _ _ _ _ tt some_place tt tt tt tt tt

is_placed : IsProper placed
is_placed = proper _ _ _ _ _ _ _ tt tt tt some_place tt tt tt

is_clocked : IsProper clocked
is_clocked = proper _ _ _ _ _ _ _ tt tt tt some_place some_word tt tt

is_counting : IsProper counting
is_counting = proper _ _ _ _ _ _ _ tt tt tt some_place some_word some_any tt

is_asking : (shape : Extent) → IsProper (asking shape)
is_asking shape = proper _ _ _ _ _ _ _ tt (some_node shape) tt some_place some_word some_any tt

is_hearing : IsProper hearing
is_hearing = proper _ _ _ _ _ _ _ some_word tt tt some_place some_word some_any tt

is_paired : IsProper paired
is_paired = proper _ _ _ _ _ _ _ tt tt tt some_place some_word tt some_word

is_marked : IsProper marked
is_marked = proper _ _ _ _ _ _ _ tt tt tt some_place tt tt some_word

is_tossed : IsProper tossed
is_tossed = proper _ _ _ _ _ _ _ some_word tt tt some_place tt tt tt

is_taken_coin : IsProper taken_coin
is_taken_coin = proper _ _ _ _ _ _ _ some_word tt tt some_place some_word tt tt

is_went_on : IsProper went_on
is_went_on = proper _ _ _ _ _ _ _ tt tt tt some_place some_more tt tt

is_went_on_marked : IsProper went_on_marked
is_went_on_marked = proper _ _ _ _ _ _ _ tt tt tt some_place some_more tt some_word

is_sending : IsProper sending
is_sending = proper _ _ _ _ _ _ _ tt tt tt tt some_word tt tt

is_naming : (shape : Extent) → IsProper (naming shape)
is_naming shape = proper _ _ _ _ _ _ _ tt (some_node shape) tt tt some_word tt tt

is_saying : (shape : Extent) → IsProper (saying shape)
is_saying shape = proper _ _ _ _ _ _ _ tt (some_node shape) some_word tt some_word tt tt

is_answering : IsProper answering
is_answering = proper _ _ _ _ _ _ _ some_word tt tt tt tt tt tt

to_placed : (A : AbstractState) → IsKindIn (A.kinds 6) place → IsContainedIn A placed
to_placed A r6 = within A _ _ _ _ _ _ _ tt tt tt r6 tt tt tt

to_clocked : (A : AbstractState) → IsKindIn (A.kinds 6) place → IsKindIn (A.kinds 7) word → IsContainedIn A clocked
to_clocked A r6 r7 = within A _ _ _ _ _ _ _ tt tt tt r6 r7 tt tt

to_counting : (A : AbstractState) → IsKindIn (A.kinds 6) place → IsKindIn (A.kinds 7) word → IsKindIn (A.kinds 8) any
    → IsContainedIn A counting
to_counting A r6 r7 r8 = within A _ _ _ _ _ _ _ tt tt tt r6 r7 r8 tt

to_asking : (shape : Extent) (A : AbstractState) → IsKindIn (A.kinds 1) (node shape) → IsKindIn (A.kinds 6) place
    → IsKindIn (A.kinds 7) word → IsKindIn (A.kinds 8) any → IsContainedIn A (asking shape)
to_asking shape A r1 r6 r7 r8 = within A _ _ _ _ _ _ _ tt r1 tt r6 r7 r8 tt

to_hearing : (A : AbstractState) → IsKindIn (A.kinds 0) word → IsKindIn (A.kinds 6) place
    → IsKindIn (A.kinds 7) word → IsKindIn (A.kinds 8) any → IsContainedIn A hearing
to_hearing A r0 r6 r7 r8 = within A _ _ _ _ _ _ _ r0 tt tt r6 r7 r8 tt

to_paired : (A : AbstractState) → IsKindIn (A.kinds 6) place → IsKindIn (A.kinds 7) word → IsKindIn (A.kinds 9) word
    → IsContainedIn A paired
to_paired A r6 r7 r9 = within A _ _ _ _ _ _ _ tt tt tt r6 r7 tt r9

to_marked : (A : AbstractState) → IsKindIn (A.kinds 6) place → IsKindIn (A.kinds 9) word → IsContainedIn A marked
to_marked A r6 r9 = within A _ _ _ _ _ _ _ tt tt tt r6 tt tt r9

to_tossed : (A : AbstractState) → IsKindIn (A.kinds 0) word → IsKindIn (A.kinds 6) place → IsContainedIn A tossed
to_tossed A r0 r6 = within A _ _ _ _ _ _ _ r0 tt tt r6 tt tt tt

to_taken_coin : (A : AbstractState) → IsKindIn (A.kinds 0) word → IsKindIn (A.kinds 6) place
    → IsKindIn (A.kinds 7) word → IsContainedIn A taken_coin
to_taken_coin A r0 r6 r7 = within A _ _ _ _ _ _ _ r0 tt tt r6 r7 tt tt

to_went_on : (A : AbstractState) → IsKindIn (A.kinds 6) place → IsKindIn (A.kinds 7) more → IsContainedIn A went_on
to_went_on A r6 r7 = within A _ _ _ _ _ _ _ tt tt tt r6 r7 tt tt

to_went_on_marked : (A : AbstractState) → IsKindIn (A.kinds 6) place → IsKindIn (A.kinds 7) more
    → IsKindIn (A.kinds 9) word → IsContainedIn A went_on_marked
to_went_on_marked A r6 r7 r9 = within A _ _ _ _ _ _ _ tt tt tt r6 r7 tt r9

to_sending : (A : AbstractState) → IsKindIn (A.kinds 7) word → IsContainedIn A sending
to_sending A r7 = within A _ _ _ _ _ _ _ tt tt tt tt r7 tt tt

to_naming : (shape : Extent) (A : AbstractState) → IsKindIn (A.kinds 1) (node shape) → IsKindIn (A.kinds 7) word
    → IsContainedIn A (naming shape)
to_naming shape A r1 r7 = within A _ _ _ _ _ _ _ tt r1 tt tt r7 tt tt

to_saying : (shape : Extent) (A : AbstractState) → IsKindIn (A.kinds 1) (node shape) → IsKindIn (A.kinds 2) word
    → IsKindIn (A.kinds 7) word → IsContainedIn A (saying shape)
to_saying shape A r1 r2 r7 = within A _ _ _ _ _ _ _ tt r1 r2 tt r7 tt tt

to_answering : (A : AbstractState) → IsKindIn (A.kinds 0) word → IsContainedIn A answering
to_answering A r0 = within A _ _ _ _ _ _ _ r0 tt tt tt tt tt tt

still_place : IsKindIn place place
still_place = kind_in_itself place

still_word : IsKindIn word word
still_word = kind_in_itself word

still_any : IsKindIn any any
still_any = kind_in_itself any

pub still_node : (shape : Extent) → IsKindIn (node shape) (node shape)
still_node shape = kind_in_itself (node shape)

-- ---- the head

head_sounds : (program rest : List Insn) (shape : Extent) (table : Table) (base modulus : ℕ) (As : List AbstractState)
    → 8 ≤ shape.memory → modulus ≤ MAX_MODULUS → Stands program base (head modulus ++ rest)
    → Marked table base (head_states ++ As) → BeginsAt program (base + 5) → table (base + 5) ≡ Some counting
    → Sounds program shape table base 0 (head modulus)
head_sounds program rest shape table base modulus As eight few stands marks begun there =
    let At = λ (k : ℕ) (A : AbstractState) (e : slice_get (head_states ++ As) k ≡ Some A).
    mark_in table base (head_states ++ As) k A marks e in
    let begin = λ (k : ℕ) (insn : Insn) (e : slice_get (head modulus ++ rest) k ≡ Some insn).
    begins program (base + k) insn (found_in program base (head modulus ++ rest) k insn stands e) in
    let inside : nat_lt shape.memory 4 ≡ false = le-ltb shape.memory 4 (omega (arith, eight)) in (
      (
        at_entry,
        At 0 _ refl,
        sound_on program shape table (base + 0) _ (base + 1) _ at_entry _ placed refl refl refl
            (omega arith) (begin 1 _ refl) (At 1 _ refl) (to_placed _ still_place) is_entry (keeps_own _ _ _ refl),
      ),
      (
        (
          placed,
          At 1 _ refl,
          sound_on program shape table (base + 1) _ (base + 2) _ placed _ clocked refl refl refl
              (omega arith) (begin 2 _ refl) (At 2 _ refl) (to_clocked _ still_place still_word) is_placed
              (keeps_own _ _ _ (rw inside refl)),
        ),
        (
          (
            clocked,
            At 2 _ refl,
            sound_fork program shape table (base + 2) _ (base + 3) _ (base + 4) _ clocked placed
                clocked refl (omega arith) (begin 3 _ refl) (At 3 _ refl)
                (λ C f. left_of clocked R7 (pos modulus) _ C placed (λ pair e. to_placed _ still_place) f)
                refl (omega arith) (begin 4 _ refl) (At 4 _ refl)
                (λ C f. left_of clocked R7 (pos modulus) _ C clocked (λ pair e. to_clocked _ still_place
                (below (full_of 32) modulus pair refl refl few e)) f)
                is_clocked (keeps_own _ _ _ refl),
          ),
          (
            (
              placed,
              At 3 _ refl,
              sound_on program shape table (base + 3) _ (base + 4) _ placed _ clocked refl refl refl
                  (omega arith) (begin 4 _ refl) (At 4 _ refl)
                  (to_clocked _ still_place (small_kind 0 (2 ^ 32 - 1) (omega arith))) is_placed (keeps_own _ _ _ refl),
            ),
            (
              (
                clocked,
                At 4 _ refl,
                sound_on program shape table (base + 4) _ (base + 5) _ clocked _ counting refl refl
                    refl (omega arith) begun there
                    (to_counting _ still_place still_word (small_kind 0 (2 ^ 64 - 1) (omega arith))) is_clocked
                    (keeps_own _ _ _ refl),
              ),
              tt,
            ),
          ),
        ),
      ),
    )

-- ---- the blocks that count

first_counting : (shape : Extent) (table : Table) (slot n : ℕ) (As : List AbstractState)
    → Marked table slot (count_states shape n ++ (choice_states ++ As)) → table slot ≡ Some counting
first_counting shape table slot zero As marks = marks.0
first_counting shape table slot (suc n) As marks = marks.0

count_sounds : (program rest : List Insn) (shape : Extent) (table : Table) (base j n : ℕ) (As : List AbstractState)
    → shape.nodes ≤ 64 → j < shape.nodes → Stands program base (count_block j ++ rest)
    → Marked table base (count_states shape (suc n) ++ As) → BeginsAt program (base + 4)
    → table (base + 4) ≡ Some counting → Sounds program shape table base 0 (count_block j)
count_sounds program rest shape table base j n As few lt stands marks begun there =
    let At = λ (k : ℕ) (A : AbstractState) (e : slice_get (count_states shape (suc n) ++ As) k ≡ Some A).
    mark_in table base (count_states shape (suc n) ++ As) k A marks e in
    let begin = λ (k : ℕ) (insn : Insn) (e : slice_get (count_block j ++ rest) k ≡ Some insn).
    begins program (base + k) insn (found_in program base (count_block j ++ rest) k insn stands e) in
    let sender : cast_unsigned w64 (pos j) % 2 ^ 64 ≡ j = imm_is j (omega (arith, lt, few)) in
    let one_of : nat_lt (shape.nodes - 1) shape.nodes ≡ true = lt-ltb (shape.nodes - 1) shape.nodes
    (omega (arith, lt)) in (
      (
        counting,
        At 0 _ refl,
        sound_on program shape table (base + 0) _ (base + 1) _ counting _ (asking shape) refl refl
            refl (omega arith) (begin 1 _ refl) (At 1 _ refl)
            (to_asking shape _ (small_kind _ (shape.nodes - 1) (omega (arith, lt, sender))) still_place still_word
            still_any)
            is_counting (keeps_own _ _ _ refl),
      ),
      (
        (
          asking shape,
          At 1 _ refl,
          sound_on program shape table (base + 1) _ (base + 2) _ (asking shape) _ hearing refl
              refl refl (omega arith) (begin 2 _ refl) (At 2 _ refl)
              (to_hearing _ still_word still_place still_word still_any) (is_asking shape)
              (keeps_own _ _ _ (rw one_of refl)),
        ),
        (
          (
            hearing,
            At 2 _ refl,
            sound_fork program shape table (base + 2) _ (base + 3) _ (base + 4) _ hearing counting
                counting refl (omega arith) (begin 3 _ refl) (At 3 _ refl)
                (λ C f. one_outcome _ C counting _ refl (to_counting _ still_place still_word still_any) f)
                refl (omega arith) begun there
                (λ C f. one_outcome _ C counting _ refl (to_counting _ still_place still_word still_any) f)
                is_hearing (keeps_own _ _ _ refl),
          ),
          (
            (
              counting,
              At 3 _ refl,
              sound_on program shape table (base + 3) _ (base + 4) _ counting _ counting refl refl
                  refl (omega arith) begun there (to_counting _ still_place still_word still_any) is_counting
                  (keeps_own _ _ _ refl),
            ),
            tt,
          ),
        ),
      ),
    )

counts_sound : (program rest : List Insn) (shape : Extent) (table : Table) (base n j : ℕ) (As : List AbstractState)
    → shape.nodes ≤ 64 → n + j ≡ shape.nodes → IsSome (slice_get rest 0)
    → Stands program base (count_blocks n j ++ rest)
    → Marked table base (count_states shape n ++ (choice_states ++ As))
    → Sounds program shape table base 0 (count_blocks n j)
counts_sound program rest shape table base zero j As few all more stands marks = tt
counts_sound program rest shape table base (suc n) j As few all more stands marks =
    let next = base + 4 in
    let behind : Stands program next (count_blocks n (suc j) ++ rest) = stands_behind program base next (count_block j)
    (count_blocks n (suc j) ++ rest) (omega arith) stands in
    let states = counting ∷ asking shape ∷ hearing ∷ counting ∷ [] in
    let marks_next : Marked table next (count_states shape n ++ (choice_states ++ As)) = marks_behind table base next
    states (count_states shape n ++ (choice_states ++ As)) (omega arith) marks in
    let begun = first_begins program next (count_blocks n (suc j)) rest more behind in
    let one = count_sounds program (count_blocks n (suc j) ++ rest) shape table base j n (choice_states ++ As) few
    (omega (arith, all)) stands marks begun (first_counting shape table next n As marks_next) in
    let others = counts_sound program rest shape table next n (suc j) As few (omega (arith, all)) more behind
    marks_next in
    sounds_append program shape table base 0 (count_block j) (count_blocks n (suc j)) one
    (counted_from program shape table next base 0 4 (count_blocks n (suc j)) (omega arith) others)

-- ---- the choice

choice_sounds : (program rest : List Insn) (shape : Extent) (table : Table) (base quorum modulus : ℕ)
    (As : List AbstractState) → 8 ≤ shape.memory → modulus ≤ MAX_MODULUS
    → Stands program base (choice quorum modulus ++ rest) → Marked table base (choice_states ++ As)
    → BeginsAt program (base + 18) → table (base + 18) ≡ Some paired
    → Sounds program shape table base 0 (choice quorum modulus)
choice_sounds program rest shape table base quorum modulus As eight few stands marks begun there =
    let At = λ (k : ℕ) (A : AbstractState) (e : slice_get (choice_states ++ As) k ≡ Some A).
    mark_in table base (choice_states ++ As) k A marks e in
    let begin = λ (k : ℕ) (insn : Insn) (e : slice_get (choice quorum modulus ++ rest) k ≡ Some insn).
    begins program (base + k) insn (found_in program base (choice quorum modulus ++ rest) k insn stands e) in
    let inside : nat_lt shape.memory 8 ≡ false = le-ltb shape.memory 8 eight in
    let zero_word = small_kind 0 (2 ^ 32 - 1) (omega arith) in
    let one_word = small_kind 1 (2 ^ 32 - 1) (omega arith) in
    let coin_word : IsKindIn (Number (span 0 1)) word =
    (span 0 1, refl, record { low = omega arith; high = omega arith }) in
    let more_word : IsKindIn (Number (span 1 (2 ^ 32))) more =
    (span 1 (2 ^ 32), refl, record { low = omega arith; high = omega arith }) in
    let rest_word : IsKindIn (Number (span 1 (2 ^ 32 - 1))) word =
    (span 1 (2 ^ 32 - 1), refl, record { low = omega arith; high = omega arith }) in
    let s17 = sound_on program shape table (base + 17) _ (base + 18) _ marked _ paired refl refl refl (omega arith)
    begun there (to_paired _ still_place zero_word still_word) is_marked (keeps_own _ _ _ refl) in
    let s16 = sound_fork program shape table (base + 16) _ (base + 17) _ (base + 18) _ went_on_marked marked paired
    refl (omega arith) (begin 17 _ refl) (At 17 _ refl)
    (λ C f. left_of went_on_marked R7 (pos modulus) _ C marked (λ pair e. to_marked _ still_place still_word) f)
    refl (omega arith) begun there
    (λ C f. left_of went_on_marked R7 (pos modulus) _ C paired (λ pair e. to_paired _ still_place
    (below (span 0 (2 ^ 32)) modulus pair refl refl few e) still_word) f)
    is_went_on_marked (keeps_own _ _ _ refl) in
    let s15 = sound_on program shape table (base + 15) _ (base + 16) _ went_on _ went_on_marked refl refl refl
    (omega arith) (begin 16 _ refl) (At 16 _ refl) (to_went_on_marked _ still_place (kind_in_itself more) one_word)
    is_went_on (keeps_own _ _ _ refl) in
    let s14 = sound_on program shape table (base + 14) _ (base + 15) _ clocked _ went_on refl refl refl (omega arith)
    (begin 15 _ refl) (At 15 _ refl) (to_went_on _ still_place more_word) is_clocked (keeps_own _ _ _ refl) in
    let s13 = sound_jump program shape table (base + 13) _ (base + 18) _ paired _ paired refl refl refl (omega arith)
    begun there (to_paired _ still_place still_word still_word) is_paired (keeps_own _ _ _ refl) in
    let s12 = sound_on program shape table (base + 12) _ (base + 13) _ clocked _ paired refl refl refl (omega arith)
    (begin 13 _ refl) (At 13 _ refl) (to_paired _ still_place still_word one_word) is_clocked
    (keeps_own _ _ _ refl) in
    let s11 = sound_on program shape table (base + 11) _ (base + 12) _ placed _ clocked refl refl refl (omega arith)
    (begin 12 _ refl) (At 12 _ refl) (to_clocked _ still_place one_word) is_placed (keeps_own _ _ _ refl) in
    let s10 = sound_jump program shape table (base + 10) _ (base + 18) _ paired _ paired refl refl refl (omega arith)
    begun there (to_paired _ still_place still_word still_word) is_paired (keeps_own _ _ _ refl) in
    let s9 = sound_on program shape table (base + 9) _ (base + 10) _ taken_coin _ paired refl refl refl (omega arith)
    (begin 10 _ refl) (At 10 _ refl) (to_paired _ still_place still_word still_word) is_taken_coin
    (keeps_own _ _ _ refl) in
    let s8 = sound_on program shape table (base + 8) _ (base + 9) _ tossed _ taken_coin refl refl refl (omega arith)
    (begin 9 _ refl) (At 9 _ refl) (to_taken_coin _ still_word still_place still_word) is_tossed
    (keeps_own _ _ _ refl) in
    let s7 = sound_on program shape table (base + 7) _ (base + 8) _ placed _ tossed refl refl refl (omega arith)
    (begin 8 _ refl) (At 8 _ refl) (to_tossed _ coin_word still_place) is_placed (keeps_own _ _ _ refl) in
    let s6 = sound_fork program shape table (base + 6) _ (base + 7) _ (base + 11) _ marked placed placed
    refl (omega arith) (begin 7 _ refl) (At 7 _ refl)
    (λ C f. one_outcome _ C placed _ refl (to_placed _ still_place) f)
    refl (omega arith) (begin 11 _ refl) (At 11 _ refl)
    (λ C f. one_outcome _ C placed _ refl (to_placed _ still_place) f) is_marked (keeps_own _ _ _ refl) in
    let s5 = sound_on program shape table (base + 5) _ (base + 6) _ placed _ marked refl refl refl (omega arith)
    (begin 6 _ refl) (At 6 _ refl) (to_marked _ still_place still_word) is_placed
    (keeps_own _ _ _ (rw inside refl)) in
    let s4 = sound_fork program shape table (base + 4) _ (base + 5) _ (base + 14) _ clocked placed clocked
    refl (omega arith) (begin 5 _ refl) (At 5 _ refl)
    (λ C f. one_outcome _ C placed _ refl (to_placed _ still_place) f)
    refl (omega arith) (begin 14 _ refl) (At 14 _ refl)
    (λ C f. one_outcome _ C clocked _ refl (to_clocked _ still_place rest_word) f)
    is_clocked (keeps_own _ _ _ refl) in
    let s3 = sound_jump program shape table (base + 3) _ (base + 18) _ paired _ paired refl refl refl (omega arith)
    begun there (to_paired _ still_place still_word still_word) is_paired (keeps_own _ _ _ refl) in
    let s2 = sound_on program shape table (base + 2) _ (base + 3) _ clocked _ paired refl refl refl (omega arith)
    (begin 3 _ refl) (At 3 _ refl) (to_paired _ still_place still_word zero_word) is_clocked
    (keeps_own _ _ _ refl) in
    let s1 = sound_on program shape table (base + 1) _ (base + 2) _ placed _ clocked refl refl refl (omega arith)
    (begin 2 _ refl) (At 2 _ refl) (to_clocked _ still_place zero_word) is_placed (keeps_own _ _ _ refl) in
    let s0 = sound_fork program shape table (base + 0) _ (base + 1) _ (base + 4) _ counting placed clocked
    refl (omega arith) (begin 1 _ refl) (At 1 _ refl)
    (λ C f. left_of counting R8 (pos quorum) _ C placed (λ pair e. to_placed _ still_place) f)
    refl (omega arith) (begin 4 _ refl) (At 4 _ refl)
    (λ C f. left_of counting R8 (pos quorum) _ C clocked (λ pair e. to_clocked _ still_place still_word) f)
    is_counting (keeps_own _ _ _ refl) in
    let t9 : Sounds program shape table base 9 (drop 9 (choice quorum modulus)) = (
      (taken_coin, At 9 _ refl, s9),
      (
        (paired, At 10 _ refl, s10),
        (
          (placed, At 11 _ refl, s11),
          (
            (clocked, At 12 _ refl, s12),
            (
              (paired, At 13 _ refl, s13),
              (
                (clocked, At 14 _ refl, s14),
                (
                  (went_on, At 15 _ refl, s15),
                  ((went_on_marked, At 16 _ refl, s16), ((marked, At 17 _ refl, s17), tt)),
                ),
              ),
            ),
          ),
        ),
      ),
    ) in (
      (counting, At 0 _ refl, s0),
      (
        (placed, At 1 _ refl, s1),
        (
          (clocked, At 2 _ refl, s2),
          (
            (paired, At 3 _ refl, s3),
            (
              (clocked, At 4 _ refl, s4),
              (
                (placed, At 5 _ refl, s5),
                (
                  (marked, At 6 _ refl, s6),
                  (
                    (placed, At 7 _ refl, s7),
                    ((tossed, At 8 _ refl, s8), t9),
                  ),
                ),
              ),
            ),
          ),
        ),
      ),
    )

-- ---- the store_listing

store_sounds : (program rest : List Insn) (shape : Extent) (table : Table) (base : ℕ) (As : List AbstractState)
    → 8 ≤ shape.memory → Stands program base (store_listing ++ rest) → Marked table base (store_states ++ As)
    → BeginsAt program (base + 2) → table (base + 2) ≡ Some sending → Sounds program shape table base 0 store_listing
store_sounds program rest shape table base As eight stands marks begun there =
    let At = λ (k : ℕ) (A : AbstractState) (e : slice_get (store_states ++ As) k ≡ Some A).
    mark_in table base (store_states ++ As) k A marks e in
    let next : BeginsAt program (base + 1) = begins program (base + 1) _ stands.1.0 in
    let clock : nat_lt shape.memory 4 ≡ false = le-ltb shape.memory 4 (omega (arith, eight)) in
    let mark : nat_lt shape.memory 8 ≡ false = le-ltb shape.memory 8 eight in (
      (
        paired,
        At 0 _ refl,
        sound_on program shape table (base + 0) _ (base + 1) _ paired _ paired refl refl refl
            (omega arith) next (At 1 _ refl) (to_paired _ still_place still_word still_word) is_paired
            (keeps_own _ _ _ (rw clock refl)),
      ),
      (
        (
          paired,
          At 1 _ refl,
          sound_on program shape table (base + 1) _ (base + 2) _ paired _ sending refl refl refl
              (omega arith) begun there (to_sending _ still_word) is_paired (keeps_own _ _ _ (rw mark refl)),
        ),
        tt,
      ),
    )

-- ---- the blocks that send

first_sending : (shape : Extent) (table : Table) (slot n : ℕ) → Marked table slot (send_states shape n ++ tail_states)
    → table slot ≡ Some sending
first_sending shape table slot zero marks = marks.0
first_sending shape table slot (suc n) marks = marks.0

send_sounds : (program rest : List Insn) (shape : Extent) (table : Table) (base j n : ℕ) (As : List AbstractState)
    → shape.nodes ≤ 64 → j < shape.nodes → Stands program base (send_block j ++ rest)
    → Marked table base (send_states shape (suc n) ++ As) → BeginsAt program (base + 3)
    → table (base + 3) ≡ Some sending → Sounds program shape table base 0 (send_block j)
send_sounds program rest shape table base j n As few lt stands marks begun there =
    let At = λ (k : ℕ) (A : AbstractState) (e : slice_get (send_states shape (suc n) ++ As) k ≡ Some A).
    mark_in table base (send_states shape (suc n) ++ As) k A marks e in
    let begin = λ (k : ℕ) (insn : Insn) (e : slice_get (send_block j ++ rest) k ≡ Some insn).
    begins program (base + k) insn (found_in program base (send_block j ++ rest) k insn stands e) in
    let receiver : cast_unsigned w64 (pos j) % 2 ^ 64 ≡ j = imm_is j (omega (arith, lt, few)) in
    let one_of : nat_lt (shape.nodes - 1) shape.nodes ≡ true = lt-ltb (shape.nodes - 1) shape.nodes
    (omega (arith, lt)) in (
      (
        sending,
        At 0 _ refl,
        sound_on program shape table (base + 0) _ (base + 1) _ sending _ (naming shape) refl refl
            refl (omega arith) (begin 1 _ refl) (At 1 _ refl)
            (to_naming shape _ (small_kind _ (shape.nodes - 1) (omega (arith, lt, receiver))) still_word)
            is_sending (keeps_own _ _ _ refl),
      ),
      (
        (
          naming shape,
          At 1 _ refl,
          sound_on program shape table (base + 1) _ (base + 2) _ (naming shape) _
              (saying shape) refl refl refl (omega arith) (begin 2 _ refl) (At 2 _ refl)
              (to_saying shape _ (still_node shape) still_word still_word) (is_naming shape) (keeps_own _ _ _ refl),
        ),
        (
          (
            saying shape,
            At 2 _ refl,
            sound_on program shape table (base + 2) _ (base + 3) _ (saying shape) _ sending
                refl refl refl (omega arith) begun there (to_sending _ still_word) (is_saying shape)
                (keeps_own _ _ _ (rw one_of refl)),
          ),
          tt,
        ),
      ),
    )

sends_sound : (program : List Insn) (shape : Extent) (table : Table) (base n j : ℕ)
    → shape.nodes ≤ 64 → n + j ≡ shape.nodes → Stands program base (send_blocks n j ++ tail)
    → Marked table base (send_states shape n ++ tail_states) → Sounds program shape table base 0 (send_blocks n j)
sends_sound program shape table base zero j few all stands marks = tt
sends_sound program shape table base (suc n) j few all stands marks =
    let next = base + 3 in
    let behind : Stands program next (send_blocks n (suc j) ++ tail) = stands_behind program base next (send_block j)
    (send_blocks n (suc j) ++ tail) (omega arith) stands in
    let states = sending ∷ naming shape ∷ saying shape ∷ [] in
    let marks_next : Marked table next (send_states shape n ++ tail_states) = marks_behind table base next
    states (send_states shape n ++ tail_states) (omega arith) marks in
    let begun = first_begins program next (send_blocks n (suc j)) tail refl behind in
    let one = send_sounds program (send_blocks n (suc j) ++ tail) shape table base j n tail_states few
    (omega (arith, all)) stands marks begun (first_sending shape table next n marks_next) in
    let others = sends_sound program shape table next n (suc j) few (omega (arith, all)) behind marks_next in
    sounds_append program shape table base 0 (send_block j) (send_blocks n (suc j)) one
    (counted_from program shape table next base 0 3 (send_blocks n (suc j)) (omega arith) others)

-- ---- the tail

tail_sounds : (program : List Insn) (shape : Extent) (table : Table) (base : ℕ) → Stands program base tail
    → Marked table base tail_states → Sounds program shape table base 0 tail
tail_sounds program shape table base stands marks =
    let At = λ (k : ℕ) (A : AbstractState) (e : slice_get tail_states k ≡ Some A).
    mark_in table base tail_states k A marks e in
    let next : BeginsAt program (base + 1) = begins program (base + 1) _ stands.1.0 in (
      (
        sending,
        At 0 _ refl,
        sound_on program shape table (base + 0) _ (base + 1) _ sending _ answering refl refl refl
            (omega arith) next (At 1 _ refl) (to_answering _ (small_kind 0 (2 ^ 32 - 1) (omega arith))) is_sending
            (keeps_own _ _ _ refl),
      ),
      (
        (
          answering,
          At 1 _ refl,
          sound_end program shape table (base + 1) _ answering refl refl is_answering
              (keeps_own _ _ _ refl),
        ),
        tt,
      ),
    )

-- ---- the whole

ends_sound : (program : List Insn) (shape : Extent) (table : Table) (base quorum modulus : ℕ)
    → IsExtent shape.nodes shape.memory → modulus ≤ MAX_MODULUS
    → Stands program base (choice quorum modulus ++ (store_listing ++ (send_blocks shape.nodes 0 ++ tail)))
    → Marked table base (choice_states ++ end_states shape shape.nodes)
    → Sounds program shape table base 0 (choice quorum modulus ++ (store_listing ++ (send_blocks shape.nodes 0 ++ tail)))
ends_sound program shape table base quorum modulus is few stands marks =
    let n = shape.nodes in
    let sends = send_blocks n 0 in
    let last = sends ++ tail in
    let at_sends = base + 20 in
    let stand_store : Stands program (base + 18) (store_listing ++ last) = stands_behind program base (base + 18)
    (choice quorum modulus) (store_listing ++ last) (omega arith) stands in
    let mark_store : Marked table (base + 18) (end_states shape n) = marks_behind table base (base + 18) choice_states
    (end_states shape n) (omega arith) marks in
    let stand_sends : Stands program at_sends last = stands_behind program (base + 18) at_sends store_listing last (omega arith)
    stand_store in
    let mark_sends : Marked table at_sends (send_states shape n ++ tail_states) = marks_behind table (base + 18)
    at_sends store_states (send_states shape n ++ tail_states) (omega arith) mark_store in
    let at_tail = at_sends + length sends in
    let stand_tail : Stands program at_tail tail = stands_behind program at_sends at_tail sends tail refl stand_sends in
    let mark_tail : Marked table at_tail tail_states = marks_behind table at_sends at_tail (send_states shape n)
    tail_states (omega (arith, length_states shape n, length_sends n 0)) mark_sends in
    let begun : BeginsAt program at_sends = first_begins program at_sends sends tail refl stand_sends in
    let same : at_sends ≡ base + 18 + 2 = omega arith in
    let begun_too : BeginsAt program (base + 18 + 2) = subst (λ (s : ℕ). BeginsAt program s) same begun in
    let first : table (base + 18 + 2) ≡ Some sending = subst (λ (s : ℕ). table s ≡ Some sending) same
    (first_sending shape table at_sends n mark_sends) in
    let few_nodes : n ≤ 64 = omega (arith, is.few) in
    let s_choice = choice_sounds program (store_listing ++ last) shape table base quorum modulus (end_states shape n)
    (omega (arith, is.least)) few stands marks (begins program (base + 18) _ stand_store.0) mark_store.0 in
    let s_store = store_sounds program last shape table (base + 18) (send_states shape n ++ tail_states)
    (omega (arith, is.least)) stand_store mark_store begun_too first in
    let s_sends = sends_sound program shape table at_sends n 0 few_nodes (omega arith) stand_sends mark_sends in
    let s_tail = tail_sounds program shape table at_tail stand_tail mark_tail in
    let s_last : Sounds program shape table at_sends 0 last = sounds_append program shape table at_sends 0 sends tail
    s_sends (counted_from program shape table at_tail at_sends 0 (0 + length sends) tail (omega arith) s_tail) in
    let s_rest : Sounds program shape table (base + 18) 0 (store_listing ++ last) = sounds_append program shape table
    (base + 18) 0 store_listing last s_store
    (counted_from program shape table at_sends (base + 18) 0 2 last (omega arith) s_last) in
    sounds_append program shape table base 0 (choice quorum modulus) (store_listing ++ last) s_choice
    (counted_from program shape table (base + 18) base 0 18 (store_listing ++ last) (omega arith) s_rest)

all_sound : (program : List Insn) (shape : Extent) (table : Table) (quorum modulus : ℕ)
    → IsExtent shape.nodes shape.memory → modulus ≤ MAX_MODULUS
    → Stands program 0 (listing shape.nodes quorum modulus) → Marked table 0 (clock_states shape shape.nodes)
    → Sounds program shape table 0 0 (listing shape.nodes quorum modulus)
all_sound program shape table quorum modulus is few stands marks =
    let n = shape.nodes in
    let counts = count_blocks n 0 in
    let ends = choice quorum modulus ++ (store_listing ++ (send_blocks n 0 ++ tail)) in
    let stand_counts : Stands program 5 (counts ++ ends) = stands_behind program 0 5 (head modulus) (counts ++ ends)
    (omega arith) stands in
    let mark_counts : Marked table 5 (count_states shape n ++ (choice_states ++ end_states shape n)) =
    marks_behind table 0 5 head_states (count_states shape n ++ (choice_states ++ end_states shape n)) (omega arith)
    marks in
    let at_ends = 5 + length counts in
    let stand_ends : Stands program at_ends ends = stands_behind program 5 at_ends counts ends refl stand_counts in
    let mark_ends : Marked table at_ends (choice_states ++ end_states shape n) = marks_behind table 5 at_ends
    (count_states shape n) (choice_states ++ end_states shape n)
    (omega (arith, length_count_states shape n, length_counts n 0)) mark_counts in
    let begun : BeginsAt program 5 = first_begins program 5 counts ends refl stand_counts in
    let s_head = head_sounds program (counts ++ ends) shape table 0 modulus
    (count_states shape n ++ (choice_states ++ end_states shape n)) (omega (arith, is.least)) few stands marks begun
    (first_counting shape table 5 n (end_states shape n) mark_counts) in
    let s_counts = counts_sound program ends shape table 5 n 0 (end_states shape n) (omega (arith, is.few))
    (omega arith)
    refl stand_counts mark_counts in
    let s_ends = ends_sound program shape table at_ends quorum modulus is few stand_ends mark_ends in
    let s_rest : Sounds program shape table 5 0 (counts ++ ends) = sounds_append program shape table 5 0 counts ends
    s_counts (counted_from program shape table at_ends 5 0 (0 + length counts) ends (omega arith) s_ends) in
    sounds_append program shape table 0 0 (head modulus) (counts ++ ends) s_head
    (counted_from program shape table 5 0 0 5 (counts ++ ends) (omega arith) s_rest)

clock_sounds : (rule : Rule) (shape : Extent) → IsRule rule.nodes rule.faults rule.modulus
    → IsExtent shape.nodes shape.memory → rule.nodes ≡ shape.nodes
    → Sounds (clock_listing rule) shape (λ at. slice_get (clock_states shape shape.nodes) at) 0 0 (clock_listing rule)
clock_sounds rule shape ok is nodes =
    let program = clock_listing rule in
    let states = clock_states shape shape.nodes in
    let same : listing shape.nodes (quorum_of rule) rule.modulus ≡ program = ap
    (λ (n : ℕ). listing n (quorum_of rule) rule.modulus) (sym nodes) in
    let stands : Stands program 0 (listing shape.nodes (quorum_of rule) rule.modulus) = subst
    (λ (is : List Insn). Stands program 0 is) (sym same)
    (stands_whole program (ones_clock rule.nodes (quorum_of rule) rule.modulus)) in
    subst (λ (is : List Insn). Sounds program shape (λ at. slice_get states at) 0 0 is) same
    (all_sound program shape (λ at. slice_get states at) (quorum_of rule) rule.modulus is ok.most stands
    (marks_whole states))

-- the clock is typable for every shape of its nodes
pub clock_typable : (rule : Rule) (shape : Extent) → IsRule rule.nodes rule.faults rule.modulus
    → IsExtent shape.nodes shape.memory → rule.nodes ≡ shape.nodes → Typable (clock_listing rule) shape
clock_typable rule shape ok is nodes = typed (clock_listing rule) shape (clock_states shape shape.nodes) at_entry
    (ones_clock rule.nodes (quorum_of rule) rule.modulus) refl
    (within (entry_state shape) _ _ _ _ _ _ _ tt still_place tt tt tt tt tt) (clock_sounds rule shape ok is nodes)
