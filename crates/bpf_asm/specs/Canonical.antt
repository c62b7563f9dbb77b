-- The canonical text of a program (docs/ASSEMBLER.md, "Canonical text").
-- ---- operands
use Rattle.std.specs.Prelude.{ℕ, ℤ, pos, negsuc, suc, List, [], ◌∷◌, ◌++◌, codes, Option, Some, None}
use Rattle.std.specs.List.{flat_map}
use Rattle.std.specs.Fmt.{decimal, signed_decimal}
use Rattle.bpf_insn.specs.declared.forms.Reg.{Reg}
use Rattle.bpf_insn.specs.declared.forms.Operand.{Operand}
use Rattle.bpf_insn.specs.declared.forms.Operand.TheVariants.{Imm}
use Rattle.bpf_insn.specs.declared.forms.Operand.TheVariants as operands
use Rattle.bpf_insn.specs.declared.forms.Insn.{Insn}
use Rattle.bpf_insn.specs.declared.forms.Insn.TheVariants as insns
use Rattle.bpf_asm.specs.declared.words.Form.{Form}
use Rattle.bpf_asm.specs.declared.words.Form.TheVariants as forms
use Rattle.node_env.specs.declared.helper.Helper.{Helper}
use Rattle.node_env.specs.Helpers.{helper_of, helper_word}
use Rattle.bpf_asm.specs.Words.{form_word, register_word}

-- a number with its sign always, as of distances and offsets
abbrev pub with_sign : ℤ → List ℕ
with_sign (pos n) = codes "+" ++ decimal n
with_sign (negsuc n) = codes "-" ++ decimal (suc n)

-- a register or an immediate
abbrev pub operand_text : Operand → List ℕ
operand_text (operands.Reg src) = register_word src
operand_text (operands.Imm imm) = signed_decimal imm

-- the address of a load or a store
abbrev pub address_text : Reg → ℤ → List ℕ
address_text base off = codes "[" ++ (register_word base ++ (with_sign off ++ codes "]"))

-- a helper's word, and the number of a call that has none
abbrev pub callee_text : ℤ → Option Helper → List ℕ
callee_text id (Some helper) = helper_word helper
callee_text id None = signed_decimal id

-- ---- instructions

-- all of an instruction but its operands
abbrev pub form_in : Insn → Form
form_in (insns.Alu op width dst src) = forms.Alu op width
form_in (insns.Neg width dst) = forms.Neg width
form_in (insns.Movsx kind dst src) = forms.Movsx kind
form_in (insns.Swap order bits dst) = forms.Swap order bits
form_in (insns.Ja off) = forms.Ja
form_in (insns.JaLong off) = forms.JaLong
form_in (insns.Branch cond width dst src off) = forms.Branch cond width
form_in (insns.Call id) = forms.Call
form_in insns.Exit = forms.Exit
form_in (insns.Load size dst base off) = forms.Load size
form_in (insns.LoadSx size dst base off) = forms.LoadSx size
form_in (insns.StoreReg size base off src) = forms.StoreReg size
form_in (insns.StoreImm size base off imm) = forms.StoreImm size
form_in (insns.LoadImm64 dst value) = forms.LoadImm64

-- its operands in order, as they are written
abbrev pub operand_texts : Insn → List (List ℕ)
operand_texts (insns.Alu op width dst src) = register_word dst ∷ operand_text src ∷ []
operand_texts (insns.Neg width dst) = register_word dst ∷ []
operand_texts (insns.Movsx kind dst src) = register_word dst ∷ register_word src ∷ []
operand_texts (insns.Swap order bits dst) = register_word dst ∷ []
operand_texts (insns.Ja off) = with_sign off ∷ []
operand_texts (insns.JaLong off) = with_sign off ∷ []
operand_texts (insns.Branch cond width dst src off) = register_word dst ∷ operand_text src ∷ with_sign off ∷ []
operand_texts (insns.Call id) = callee_text id (helper_of id) ∷ []
operand_texts insns.Exit = []
operand_texts (insns.Load size dst base off) = register_word dst ∷ address_text base off ∷ []
operand_texts (insns.LoadSx size dst base off) = register_word dst ∷ address_text base off ∷ []
operand_texts (insns.StoreReg size base off src) = address_text base off ∷ register_word src ∷ []
operand_texts (insns.StoreImm size base off imm) = address_text base off ∷ signed_decimal imm ∷ []
operand_texts (insns.LoadImm64 dst value) = register_word dst ∷ decimal value ∷ []

-- ---- lines

-- the further operands, each after a comma and a blank
abbrev pub after_commas : List (List ℕ) → List ℕ
after_commas [] = []
after_commas (operand ∷ []) = codes ", " ++ operand
after_commas (operand ∷ rest) = codes ", " ++ (operand ++ after_commas rest)

-- the operands after the blank that follows the word
abbrev pub after_word : List (List ℕ) → List ℕ
after_word [] = []
after_word (operand ∷ []) = codes " " ++ operand
after_word (operand ∷ rest) = codes " " ++ (operand ++ after_commas rest)

abbrev pub canonical_line : Insn → List ℕ
canonical_line insn = form_word (form_in insn) ++ after_word (operand_texts insn)

-- one instruction a line
abbrev pub canonical_text : List Insn → List ℕ
canonical_text program = flat_map (λ insn. canonical_line insn ++ codes "\n") program
