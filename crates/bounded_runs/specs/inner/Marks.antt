-- Which registers and bytes of memory may hold other numbers in a run from an input that is alike: large numbers, and
-- bytes of kept words.
use Rattle.std.specs.Prelude.{◌≡◌, ℕ, zero, suc, ◌*◌, ◌/◌, ◌%◌, ◌^◌, ◌==◌, Bool, true, false, ◌||◌, ◌&&◌, not, nat_lt, nat_le, if◌then◌else◌, Option, Some, None, Result, Ok, Err, ℤ, List, length, slice_index_or, slice_set}
use Rattle.node_env.specs.declared.region.Region.{Region}
use Rattle.node_env.specs.declared.region.Region.TheVariants.{Mem, Stack}
use Rattle.node_env.specs.declared.helper.Helper.{Helper}
use Rattle.node_env.specs.declared.helper.Helper.TheVariants.{Id, Recv, Send, Coin}
use Rattle.node_env.specs.Env.{Setting, received}
use Rattle.node_env.specs.Helpers.{helper_of}
use Rattle.bpf_insn.specs.declared.forms.Reg.{Reg}
use Rattle.bpf_insn.specs.declared.forms.Reg.TheVariants.{R1, R2}
use Rattle.bpf_insn.specs.declared.forms.Width.{Width}
use Rattle.bpf_insn.specs.declared.forms.Cond.{Cond}
use Rattle.bpf_insn.specs.declared.forms.Cond.TheVariants.{Eq, Gt, Ge, Ne, Lt, Le}
use Rattle.bpf_insn.specs.declared.forms.AluOp.TheVariants.{Mov}
use Rattle.bpf_insn.specs.declared.forms.Operand.{Operand}
use Rattle.bpf_insn.specs.declared.forms.Operand.TheVariants as operand
use Rattle.bpf_insn.specs.declared.forms.Insn.{Insn}
use Rattle.bpf_insn.specs.declared.forms.Insn.TheVariants as i
use Rattle.bpf_insn.specs.Arithmetic.{bits_of}
use Rattle.bpf_insn.specs.Operands.{access_bytes, sx_access_bytes}
use Rattle.bpf_insn.specs.Registers.{register_number}
use Rattle.bpf_machine.specs.declared.word.Word.{Word}
use Rattle.bpf_machine.specs.declared.word.Word.TheVariants.{Num, Ptr}
use Rattle.bpf_machine.specs.declared.word.TrapKind.{TrapKind}
use Rattle.bpf_machine.specs.Machine.{Frame}
use Rattle.bpf_machine.specs.Step.{operand_of, place, word_of}
use Rattle.bounded_runs.specs.declared.marks.Marks.{Marks}
use Rattle.bounded_runs.specs.declared.marks.StepView.{StepView}
use Rattle.bounded_runs.specs.Bounded.{Bound, is_kept, memory_word}

-- ---- registers

abbrev pub has_mark : List Bool → ℕ → Bool
has_mark marks n = slice_index_or marks n false

abbrev pub register_marked : Marks → Reg → Bool
register_marked m register = has_mark m.registers (register_number register)

abbrev pub operand_marked : Marks → Operand → Bool
operand_marked m (operand.Imm imm) = false
operand_marked m (operand.Reg register) = register_marked m register

abbrev pub with_mark : Marks → Reg → Bool → Marks
with_mark m register marked = record m { registers = slice_set m.registers (register_number register) marked }

-- after a call r1 to r5 are unset, and the answer is in r0
abbrev pub with_answer : Marks → Bool → Marks
with_answer m marked = record m {
  registers = slice_set
      (slice_set (slice_set (slice_set (slice_set (slice_set m.registers 1 false) 2 false) 3 false) 4 false) 5 false)
      0 marked;
}

-- the marks, unless one of what is read is marked
abbrev pub if_plain : Bool → Marks → Option Marks
if_plain marked next = if marked then None else Some next

-- ---- comparisons

-- every large number compares alike with this one on its right
abbrev pub decides_left : ℕ → Cond → ℕ → Bool
decides_left bound Eq y = nat_lt y bound
decides_left bound Ne y = nat_lt y bound
decides_left bound Gt y = nat_lt y bound
decides_left bound Le y = nat_lt y bound
decides_left bound Ge y = nat_le y bound
decides_left bound Lt y = nat_le y bound
decides_left bound cond y = false

-- with this one on its left
abbrev pub decides_right : ℕ → Cond → ℕ → Bool
decides_right bound Eq y = nat_lt y bound
decides_right bound Ne y = nat_lt y bound
decides_right bound Lt y = nat_lt y bound
decides_right bound Ge y = nat_lt y bound
decides_right bound Le y = nat_le y bound
decides_right bound Gt y = nat_le y bound
decides_right bound cond y = false

abbrev pub is_decided : (ℕ → Bool) → Width → Result Word TrapKind → Bool
is_decided decides width (Ok (Num y)) = decides (y % 2 ^ bits_of width)
is_decided decides width (Ok (Ptr region offset)) = false
is_decided decides width (Err trap) = false

-- a comparison of a marked number with one that isn't, or of two that aren't, comes out alike
abbrev pub comparison_decided : Bool → Bool → ℕ → Cond → Width → Result Word TrapKind → Result Word TrapKind → Bool
comparison_decided false false bound cond width a b = true
comparison_decided true false bound cond width a b = is_decided (decides_left bound cond) width b
comparison_decided false true bound cond width a b = is_decided (decides_right bound cond) width a
comparison_decided true true bound cond width a b = false

-- ---- bytes of memory

-- the bytes of the word are to be marked: it is kept, or it is large
abbrev pub is_unseen : Bound → ℕ → ℕ → Bool
is_unseen bound k word = is_kept bound.kept k || nat_le bound.number word

-- the marks are those of the bytes of such words of a memory
abbrev pub AreMarksOf : Bound → List Bool → List ℕ → Type 0
AreMarksOf bound bytes m = (p : ℕ)
    → has_mark bytes p ≡ (nat_lt p (length m) && is_unseen bound (p / 4) (memory_word m (p / 4)))

-- one of this many bytes from p on is marked
abbrev pub touches_marked : List Bool → ℕ → ℕ → Bool
touches_marked bytes p zero = false
touches_marked bytes p (suc count) = has_mark bytes p || touches_marked bytes (suc p) count

-- all of them are
abbrev pub all_marked : List Bool → ℕ → ℕ → Bool
all_marked bytes p zero = true
all_marked bytes p (suc count) = has_mark bytes p && all_marked bytes (suc p) count

-- the marks, where all of them are marked or none is
abbrev pub with_byte_marks : List Bool → ℕ → ℕ → Bool → List Bool
with_byte_marks bytes p zero marked = bytes
with_byte_marks bytes p (suc count) marked = with_byte_marks (slice_set bytes p marked) (suc p) count marked

-- the access takes a whole word
abbrev pub is_whole_word : ℕ → ℕ → Bool
is_whole_word first count = (count == 4) && (first % 4 == 0)

-- it takes a whole word that isn't kept, and that is large still
abbrev pub takes_large : List Bool → List Bool → ℕ → ℕ → Bool
takes_large kept bytes first count =
    is_whole_word first count && (not (is_kept kept (first / 4)) && all_marked bytes first count)

-- a load of such a word marks the register; of marked bytes nothing else is loaded
abbrev pub after_load : List Bool → Marks → Reg → ℕ → ℕ → Option Marks
after_load kept m dst first count =
    if takes_large kept m.bytes first count then Some (with_mark m dst true)
    else if_plain (touches_marked m.bytes first count) (with_mark m dst false)

-- a store takes the marks of its bytes away
abbrev pub after_store : Marks → ℕ → ℕ → Marks
after_store m first count = record m { bytes = with_byte_marks m.bytes first count false }

abbrev pub at_place : Result (Region × ℕ) TrapKind → (ℕ → Option Marks) → Option Marks → Option Marks
at_place (Ok (Mem, first)) memory stack = memory first
at_place (Ok (Stack, first)) memory stack = stack
at_place (Err trap) memory stack = None

-- where an access begins
abbrev pub place_from : Setting → Result Word TrapKind → ℤ → ℕ → Result (Region × ℕ) TrapKind
place_from env (Ok base) off count = place env base off count
place_from env (Err trap) off count = Err trap

-- ---- helpers

abbrev pub is_large : ℕ → Setting → Result Word TrapKind → Bool
is_large bound env (Ok (Num sender)) = nat_le bound (received env sender)
is_large bound env (Ok (Ptr region offset)) = false
is_large bound env (Err trap) = false

abbrev pub after_helper : ℕ → Setting → Frame → Option Helper → Marks → Option Marks
after_helper bound env s None m = None
after_helper bound env s (Some Id) m = Some (with_answer m false)
after_helper bound env s (Some Coin) m = Some (with_answer m false)
after_helper bound env s (Some Recv) m =
    if_plain (register_marked m R1) (with_answer m (is_large bound env (word_of s R1)))
after_helper bound env s (Some Send) m =
    if_plain (register_marked m R1 || register_marked m R2) (with_answer m false)

-- ---- instructions

-- the marks after an instruction; None if it may tell large numbers apart
abbrev pub marks_after : Bound → Setting → Frame → Insn → Marks → Option Marks
marks_after bound env s (i.Alu Mov width dst src) m = Some (with_mark m dst (operand_marked m src))
marks_after bound env s (i.Alu op width dst src) m =
    if_plain (register_marked m dst || operand_marked m src) (with_mark m dst false)
marks_after bound env s (i.Neg width dst) m = if_plain (register_marked m dst) (with_mark m dst false)
marks_after bound env s (i.Movsx kind dst src) m = if_plain (register_marked m src) (with_mark m dst false)
marks_after bound env s (i.Swap order bits dst) m = if_plain (register_marked m dst) (with_mark m dst false)
marks_after bound env s (i.Ja off) m = Some m
marks_after bound env s (i.JaLong off) m = Some m
marks_after bound env s (i.Branch cond width dst src off) m = if_plain
    (not (comparison_decided (register_marked m dst) (operand_marked m src) bound.number cond width (word_of s dst)
    (operand_of s src))) m
marks_after bound env s (i.Call id) m = after_helper bound.number env s (helper_of id) m
marks_after bound env s i.Exit m = None
marks_after bound env s (i.Load size dst base off) m =
    if register_marked m base then None
    else at_place (place_from env (word_of s base) off (access_bytes size))
    (λ first. after_load bound.kept m dst first (access_bytes size)) (Some (with_mark m dst false))
marks_after bound env s (i.LoadSx size dst base off) m =
    if register_marked m base then None
    else at_place (place_from env (word_of s base) off (sx_access_bytes size))
    (λ first. if_plain (touches_marked m.bytes first (sx_access_bytes size)) (with_mark m dst false))
    (Some (with_mark m dst false))
marks_after bound env s (i.StoreReg size base off src) m =
    if register_marked m base || register_marked m src then None
    else at_place (place_from env (word_of s base) off (access_bytes size))
    (λ first. Some (after_store m first (access_bytes size))) (Some m)
marks_after bound env s (i.StoreImm size base off imm) m =
    if register_marked m base then None
    else at_place (place_from env (word_of s base) off (access_bytes size))
    (λ first. Some (after_store m first (access_bytes size))) (Some m)
marks_after bound env s (i.LoadImm64 dst value) m = Some (with_mark m dst false)

-- of a step
abbrev pub bound_in : StepView → Bound
bound_in view = record { number = view.bound; kept = view.kept.now }
