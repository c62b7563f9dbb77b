-- The operands of instructions (docs/ASSEMBLER.md, "Operands").
use Rattle.std.specs.Prelude.{ℕ, ℤ, pos, ◌==◌, ◌||◌, ◌&&◌, Bool, false, List, [], ◌∷◌, length}
use Rattle.std.specs.Prelude.{nat_le, Option, Some, None, option_map, map, if◌then◌else◌}
use Rattle.std.specs.Option.{option_and_then}
use Rattle.std.specs.List.{list_all}
use Rattle.bpf_insn.specs.declared.forms.Reg as registers
use Rattle.bpf_insn.specs.declared.forms.Operand.{Operand}
use Rattle.bpf_insn.specs.declared.forms.Operand.TheVariants.{Imm, Reg}
use Rattle.node_env.specs.declared.helper.Helper.{Helper}
use Rattle.node_env.specs.Helpers.{helper_by_word, helper_number}
use Rattle.bpf_asm.specs.declared.numbers.TheConstants.{GREATEST_IMMEDIATE, GREATEST_OFFSET}
use Rattle.bpf_asm.specs.declared.operands.TheConstants.{NAME_LETTERS}
use Rattle.bpf_asm.specs.declared.operands.Address.{Address}
use Rattle.bpf_asm.specs.Numbers.{numeral_of, magnitude_of, number_of, signed_number_of, in_field, wide_of}
use Rattle.bpf_asm.specs.Pieces.{pieces_of, trimmed, begins_name, is_word_letter, front_of, rest_of}
use Rattle.bpf_asm.specs.Words.{register_by_word}

-- a value made of two, if both are there
abbrev pub option_both : {A B : Type 0} → Option A → Option B → Option (A × B)
option_both (Some a) (Some b) = Some (a, b)
option_both _ _ = None

-- ---- single operands

abbrev pub immediate_of : List ℕ → Option ℤ
immediate_of text = option_and_then (in_field GREATEST_IMMEDIATE) (number_of text)

-- a register or otherwise an immediate
abbrev pub operand_by : Option registers.Reg → List ℕ → Option Operand
operand_by (Some register) text = Some (Reg register)
operand_by None text = option_map Imm (immediate_of text)

abbrev pub operand_spelled : List ℕ → Option Operand
operand_spelled text = operand_by (register_by_word text) text

-- what a call names: a helper by its word, or otherwise by an immediate
abbrev pub id_by : Option Helper → List ℕ → Option ℤ
id_by (Some helper) text = Some (helper_number helper)
id_by None text = immediate_of text

abbrev pub callee_of : List ℕ → Option ℤ
callee_of text = id_by (helper_by_word text) text

abbrev pub wide_number_of : List ℕ → Option ℕ
wide_number_of text = option_and_then wide_of (number_of text)

-- the bytes from the base of an address: 0 if nothing is written
abbrev pub offset_in : List ℕ → Option ℤ
offset_in [] = Some (pos 0)
offset_in (c ∷ cs) = option_and_then (in_field GREATEST_OFFSET) (signed_number_of magnitude_of (c ∷ cs))

abbrev pub address_by : registers.Reg × ℤ → Address
address_by parts = record { base = parts.0; off = parts.1 }

-- what is between "[" (91) and "]" (93): a register and its offset, with no blank
abbrev pub address_inside : List ℕ → Option Address
address_inside inside =
    option_map address_by
    (option_both (register_by_word (front_of is_word_letter inside)) (offset_in (rest_of is_word_letter inside)))

abbrev pub address_between : List (List ℕ) → Option Address
address_between (inside ∷ [] ∷ []) = address_inside inside
address_between _ = None

abbrev pub address_of : List ℕ → Option Address
address_of [] = None
address_of (c ∷ cs) = if c == 91 then address_between (pieces_of (λ d. d == 93) cs) else None

abbrev pub starts_name : List ℕ → Bool
starts_name [] = false
starts_name (c ∷ cs) = begins_name c

-- a letter or "_", then letters, digits and "_", at most NAME_LETTERS in all
abbrev pub is_name : List ℕ → Bool
is_name text = starts_name text && (list_all is_word_letter text && nat_le (length text) NAME_LETTERS)

-- where a jump goes: this many slots on from the next one, or to a label
pub data Target : Type 0 where
  distance : ℤ → Target
  label : List ℕ → Target

-- a sign and a decimal number, if a field of this greatest number holds it, or a label
abbrev pub target_of : ℕ → List ℕ → Option Target
target_of most [] = None
target_of most (c ∷ cs) =
    if (c == 43) || (c == 45)
    then option_map distance (option_and_then (in_field most) (signed_number_of (numeral_of 10) (c ∷ cs))) else
    if is_name (c ∷ cs) then Some (label (c ∷ cs)) else None

-- ---- the operands of an instruction, parted by commas (44), with blanks around each

pub data Operands : Type 0 where
  one : List ℕ → Operands
  two : List ℕ → List ℕ → Operands
  three : List ℕ → List ℕ → List ℕ → Operands
  more : Operands

abbrev pub operands_by : List (List ℕ) → Operands
operands_by (a ∷ []) = one a
operands_by (a ∷ b ∷ []) = two a b
operands_by (a ∷ b ∷ c ∷ []) = three a b c
operands_by _ = more

abbrev pub parts_of : List ℕ → List (List ℕ)
parts_of text = map trimmed (pieces_of (λ c. c == 44) text)

abbrev pub operands_of : List ℕ → Operands
operands_of text = operands_by (parts_of text)
