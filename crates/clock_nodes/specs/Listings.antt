-- The programs of the nodes, as lists of instructions (docs/CLOCK.md, "The programs").
-- Helper 2 receives, helper 3 sends, and helper 4 is the coin.
use Rattle.std.specs.Prelude.{ℕ, zero, suc, pos, List, [], ◌∷◌, ◌++◌, Option, Some, None}
use Rattle.std.specs.Int.{w32, cast_signed}
use Rattle.bpf_insn.specs.declared.forms.Reg.TheVariants.{R0, R1, R2, R6, R7, R8, R9}
use Rattle.bpf_insn.specs.declared.forms.Width.TheVariants.{W32, W64}
use Rattle.bpf_insn.specs.declared.forms.Size.TheVariants as size
use Rattle.bpf_insn.specs.declared.forms.AluOp.TheVariants.{Add, Mov}
use Rattle.bpf_insn.specs.declared.forms.Cond.TheVariants.{Ne, Ge, Lt}
use Rattle.bpf_insn.specs.declared.forms.Operand.TheVariants.{Imm, Reg}
use Rattle.bpf_insn.specs.declared.forms.Insn.{Insn}
use Rattle.bpf_insn.specs.declared.forms.Insn.TheVariants.{Alu, Branch, Ja, Call, Exit, Load, StoreReg}
use Rattle.clock_nodes.specs.Rule.{Rule, quorum_of}

-- ---- the clock: r6 is the memory's place, r7 the clock, r8 its support, r9 the mark

-- the clock into r7, or 0 if it is the modulus or more
abbrev pub head : ℕ → List Insn
head modulus =
    Alu Mov W64 R6 (Reg R1) ∷ Load size.W R7 R6 (pos 0)
    ∷ Branch Lt W64 R7 (Imm (pos modulus)) (pos 1) ∷ Alu Mov W64 R7 (Imm (pos 0)) ∷ Alu Mov W64 R8 (Imm (pos 0)) ∷ []

-- one more in r8 where node j sent the clock
abbrev pub count_block : ℕ → List Insn
count_block j =
    Alu Mov W64 R1 (Imm (pos j)) ∷ Call (pos 2) ∷ Branch Ne W64 R0 (Reg R7) (pos 1)
    ∷ Alu Add W64 R8 (Imm (pos 1)) ∷ []

-- that for n nodes from j on
abbrev pub count_blocks : ℕ → ℕ → List Insn
count_blocks zero j = []
count_blocks (suc n) j = count_block j ++ count_blocks n (suc j)

-- the new clock into r7 and the new mark into r9: each of the four cases jumps after the last
abbrev pub choice : ℕ → ℕ → List Insn
choice quorum modulus =
    Branch Ge W64 R8 (Imm (pos quorum)) (pos 3)
    ∷ Alu Mov W64 R7 (Imm (pos 0)) ∷ Alu Mov W64 R9 (Imm (pos 0)) ∷ Ja (pos 14)
    ∷ Branch Ne W64 R7 (Imm (pos 0)) (pos 9) ∷ Load size.W R9 R6 (pos 4) ∷ Branch Ne W64 R9 (Imm (pos 0)) (pos 4)
    ∷ Call (pos 4) ∷ Alu Mov W64 R7 (Reg R0) ∷ Alu Mov W64 R9 (Reg R0) ∷ Ja (pos 7)
    ∷ Alu Mov W64 R7 (Imm (pos 1)) ∷ Alu Mov W64 R9 (Imm (pos 1)) ∷ Ja (pos 4)
    ∷ Alu Add W64 R7 (Imm (pos 1)) ∷ Alu Mov W64 R9 (Imm (pos 1))
    ∷ Branch Lt W64 R7 (Imm (pos modulus)) (pos 1) ∷ Alu Mov W64 R7 (Imm (pos 0)) ∷ []

-- both into the memory
abbrev pub store_listing : List Insn
store_listing = StoreReg size.W R6 (pos 0) R7 ∷ StoreReg size.W R6 (pos 4) R9 ∷ []

-- the clock to node j
abbrev pub send_block : ℕ → List Insn
send_block j = Alu Mov W64 R1 (Imm (pos j)) ∷ Alu Mov W64 R2 (Reg R7) ∷ Call (pos 3) ∷ []

abbrev pub send_blocks : ℕ → ℕ → List Insn
send_blocks zero j = []
send_blocks (suc n) j = send_block j ++ send_blocks n (suc j)

-- an end with 0 in r0
abbrev pub tail : List Insn
tail = Alu Mov W64 R0 (Imm (pos 0)) ∷ Exit ∷ []

-- the clock program for `nodes` nodes: a clock that at least `quorum` messages support advances, modulo `modulus`
abbrev pub listing : ℕ → ℕ → ℕ → List Insn
listing nodes quorum modulus =
    head modulus ++ (count_blocks nodes 0 ++ (choice quorum modulus ++ (store_listing ++ (send_blocks nodes 0
    ++ tail))))

-- the clock program of a rule
abbrev pub clock_listing : Rule → List Insn
clock_listing rule = listing rule.nodes (quorum_of rule) rule.modulus

-- ---- a node that sends fixed values

-- the value to node j
abbrev pub say_block : ℕ → ℕ → List Insn
say_block j value = Alu Mov W64 R1 (Imm (pos j)) ∷ Alu Mov W32 R2 (Imm (cast_signed w32 value)) ∷ Call (pos 3) ∷ []

-- the values, if there are some, to the nodes from j on
abbrev pub say_blocks : ℕ → List (Option ℕ) → List Insn
say_blocks j [] = []
say_blocks j (None ∷ values) = say_blocks (suc j) values
say_blocks j (Some value ∷ values) = say_block j value ++ say_blocks (suc j) values

abbrev pub say_listing : List (Option ℕ) → List Insn
say_listing values = say_blocks 0 values ++ tail

-- ---- a node that returns each node's message to it

abbrev pub echo_block : ℕ → List Insn
echo_block j =
    Alu Mov W64 R1 (Imm (pos j)) ∷ Call (pos 2) ∷ Alu Mov W64 R2 (Reg R0)
    ∷ Alu Mov W64 R1 (Imm (pos j)) ∷ Call (pos 3) ∷ []

abbrev pub echo_blocks : ℕ → ℕ → List Insn
echo_blocks zero j = []
echo_blocks (suc n) j = echo_block j ++ echo_blocks n (suc j)

abbrev pub echo_listing : ℕ → List Insn
echo_listing nodes = echo_blocks nodes 0 ++ tail
