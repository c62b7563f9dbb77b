-- What one line says (docs/ASSEMBLER.md, "Lines").
use Rattle.std.specs.Prelude.{ℕ, ℤ, pos, ◌==◌, ◌||◌, Bool, true, List, [], ◌∷◌, Option, Some, None, option_map}
use Rattle.std.specs.Prelude.{if◌then◌else◌}
use Rattle.std.specs.Option.{option_and_then}
use Rattle.bpf_insn.specs.declared.forms.Reg.{Reg}
use Rattle.bpf_insn.specs.declared.forms.Operand.{Operand}
use Rattle.bpf_insn.specs.declared.forms.Insn.{Insn}
use Rattle.bpf_insn.specs.declared.forms.Insn.TheVariants as insn
use Rattle.bpf_asm.specs.declared.numbers.TheConstants.{GREATEST_IMMEDIATE, GREATEST_OFFSET}
use Rattle.bpf_asm.specs.declared.words.Form.{Form}
use Rattle.bpf_asm.specs.declared.words.Form.TheVariants.{Alu, Neg, Movsx, Swap, Ja, JaLong, Branch, Call, Exit, Load}
use Rattle.bpf_asm.specs.declared.words.Form.TheVariants.{LoadSx, StoreReg, StoreImm, LoadImm64}
use Rattle.bpf_asm.specs.Operands.{Operands, one, two, three, operands_of, option_both, Target, distance, label}
use Rattle.bpf_asm.specs.Operands.{target_of, immediate_of, operand_spelled, callee_of, wide_number_of}
use Rattle.bpf_asm.specs.Operands.{address_of, is_name}
use Rattle.bpf_asm.specs.Pieces.{is_blank, is_word_letter, front_of, rest_of, without_comment}
use Rattle.bpf_asm.specs.Words.{form_of, register_by_word}

-- an instruction as it is written: a jump to a label still has the distance 0
pub record Source : Type 0 where
  pub insn : Insn
  pub label : Option (List ℕ)

-- a line: its label or none, and its instruction or none; outer None is a line that no rule reads
pub record Line : Type 0 where
  pub name : Option (List ℕ)
  pub source : Option (Option Source)

-- ---- the operands of each form

abbrev pub whole : Insn → Source
whole insn = record { insn = insn; label = None }

abbrev pub jump_to : (ℤ → Insn) → Target → Source
jump_to jump (distance off) = record { insn = jump off; label = None }
jump_to jump (label name) = record { insn = jump (pos 0); label = Some name }

abbrev pub single_by : {A : Type 0} → (List ℕ → Option A) → Operands → Option A
single_by read (one a) = read a
single_by read _ = None

abbrev pub pair_by : {A B : Type 0} → (List ℕ → Option A) → (List ℕ → Option B) → Operands → Option (A × B)
pair_by read_first read_second (two a b) = option_both (read_first a) (read_second b)
pair_by read_first read_second _ = None

abbrev pub nothing_of : List ℕ → Option (Unit {0})
nothing_of [] = Some tt
nothing_of _ = None

-- a register, what it is compared with, and where the jump goes
abbrev pub compared_in : Operands → Option (Reg × (Operand × Target))
compared_in (three a b c) = option_both (register_by_word a) (option_both (operand_spelled b) (target_of GREATEST_OFFSET c))
compared_in _ = None

abbrev pub source_by : Form → Operands → Option Source
source_by (Alu op width) operands =
    option_map (λ x. whole (insn.Alu op width x.0 x.1)) (pair_by register_by_word operand_spelled operands)
source_by (Neg width) operands = option_map (λ dst. whole (insn.Neg width dst)) (single_by register_by_word operands)
source_by (Movsx kind) operands =
    option_map (λ x. whole (insn.Movsx kind x.0 x.1)) (pair_by register_by_word register_by_word operands)
source_by (Swap order bits) operands =
    option_map (λ dst. whole (insn.Swap order bits dst)) (single_by register_by_word operands)
source_by Ja operands = option_map (jump_to insn.Ja) (single_by (target_of GREATEST_OFFSET) operands)
source_by JaLong operands = option_map (jump_to insn.JaLong) (single_by (target_of GREATEST_IMMEDIATE) operands)
source_by (Branch cond width) operands =
    option_map (λ x. jump_to (insn.Branch cond width x.0 x.1.0) x.1.1) (compared_in operands)
source_by Call operands = option_map (λ id. whole (insn.Call id)) (single_by callee_of operands)
source_by Exit operands = option_map (λ x. whole insn.Exit) (single_by nothing_of operands)
source_by (Load size) operands =
    option_map (λ x. whole (insn.Load size x.0 x.1.base x.1.off)) (pair_by register_by_word address_of operands)
source_by (LoadSx size) operands =
    option_map (λ x. whole (insn.LoadSx size x.0 x.1.base x.1.off)) (pair_by register_by_word address_of operands)
source_by (StoreReg size) operands =
    option_map (λ x. whole (insn.StoreReg size x.0.base x.0.off x.1)) (pair_by address_of register_by_word operands)
source_by (StoreImm size) operands =
    option_map (λ x. whole (insn.StoreImm size x.0.base x.0.off x.1)) (pair_by address_of immediate_of operands)
source_by LoadImm64 operands =
    option_map (λ x. whole (insn.LoadImm64 x.0 x.1)) (pair_by register_by_word wide_number_of operands)

-- ---- lines

-- after a word is a blank, the end, or the "[" (91) of its first operand
abbrev pub ends_word : List ℕ → Bool
ends_word [] = true
ends_word (c ∷ cs) = is_blank c || (c == 91)

-- the instruction of a word and of what is after it; where neither is there, none is written
abbrev pub source_behind : List ℕ → List ℕ → Option (Option Source)
source_behind [] [] = Some None
source_behind [] (c ∷ cs) = None
source_behind (w ∷ ws) rest =
    if ends_word rest
    then option_map Some (option_and_then (λ form. source_by form (operands_of rest)) (form_of (w ∷ ws))) else None

abbrev pub source_spelled : List ℕ → Option (Option Source)
source_spelled text =
    let front = rest_of is_blank text in source_behind (front_of is_word_letter front) (rest_of is_word_letter front)

-- a label, and what is after its colon
abbrev pub named : List ℕ → List ℕ → Line
named name rest =
    if is_name name then record { name = Some name; source = source_spelled rest } else record { name = None; source = None }

-- the letters at the front of a line are a label where a colon (58) follows at once
abbrev pub line_by : List ℕ → List ℕ → Line
line_by word [] = record { name = None; source = source_behind word [] }
line_by word (c ∷ cs) = if c == 58 then named word cs else record { name = None; source = source_behind word (c ∷ cs) }

abbrev pub line_of : List ℕ → Line
line_of text =
    let front = rest_of is_blank (without_comment text) in
    line_by (front_of is_word_letter front) (rest_of is_word_letter front)
