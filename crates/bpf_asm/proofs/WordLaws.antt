-- Forms, helpers and registers, and their words, name each other.
use Rattle.std.proofs.Common.{◌≡◌, ℕ, ℤ, List, [], ◌∷◌, Some, Bool, true, false, ◌&&◌, cond, refl, sym, arith}
use Rattle.std.specs.List.{find, list_all}
use Rattle.std.specs.Str.{bytes_eq}
use Rattle.std.specs.Ordering.{int_eq}
use Rattle.std.proofs.lemmas.Slice.Eq.{bytes_eq-Decides}
use Rattle.std.proofs.lemmas.Bool.Decides.{Decides-int_eq}
use Rattle.bpf_insn.specs.declared.forms.Reg.{Reg}
use Rattle.bpf_insn.specs.declared.forms.Reg.TheVariants.{R0, R1, R2, R3, R4, R5, R6, R7, R8, R9, R10}
use Rattle.bpf_insn.specs.declared.forms.AluOp.TheVariants as ops
use Rattle.bpf_insn.specs.declared.forms.Width.TheVariants.{W32, W64}
use Rattle.bpf_insn.specs.declared.forms.MovsxKind.TheVariants as kinds
use Rattle.bpf_insn.specs.declared.forms.Order.TheVariants as orders
use Rattle.bpf_insn.specs.declared.forms.SwapBits.TheVariants as bits
use Rattle.bpf_insn.specs.declared.forms.Cond.TheVariants as conds
use Rattle.bpf_insn.specs.declared.forms.Size.TheVariants as sizes
use Rattle.bpf_insn.specs.declared.forms.SxSize.TheVariants as sx_sizes
use Rattle.bpf_asm.specs.declared.words.Form.{Form}
use Rattle.bpf_asm.specs.declared.words.Form.TheVariants as forms
use Rattle.bpf_asm.specs.declared.forms.TheConstants.{FORMS}
use Rattle.node_env.specs.declared.helper.Helper.{Helper}
use Rattle.node_env.specs.declared.helper.Helper.TheVariants.{Id, Recv, Send, Coin}
use Rattle.node_env.specs.declared.helper.TheConstants.{HELPERS}
use Rattle.node_env.specs.Helpers.{helper_word, helper_number, helper_by_word, helper_of}
use Rattle.bpf_asm.specs.declared.registers.TheConstants.{REGISTERS}
use Rattle.bpf_asm.specs.Words.{form_word, form_of, register_word, register_by_word}

-- what is found passes the test
pub found_passes : {X : Type 0} (p : X → Bool) (xs : List X) (x : X) → find p xs ≡ Some x → p x ≡ true
found_passes p [] x none = cc
found_passes p (y ∷ ys) x found = by_test (p y) refl found (found_passes p ys x)
  where
    by_test : (t : Bool) → p y ≡ t → cond t (Some y) (find p ys) ≡ Some x → (find p ys ≡ Some x → p x ≡ true)
        → p x ≡ true
    by_test true passes e others = cc
    by_test false fails e others = others e

same_bytes : (a b : List ℕ) → bytes_eq a b ≡ true → a ≡ b
same_bytes a b same = grind (arith, bytes_eq-Decides a b)

pub word_named : (word : List ℕ) (form : Form) → form_of word ≡ Some form → word ≡ form_word form
word_named word form found = sym (same_bytes (form_word form) word
    (found_passes (λ f. bytes_eq (form_word f) word) FORMS form found))

pub form_named : (form : Form) → form_of (form_word form) ≡ Some form
form_named (forms.Alu ops.Add W32) = refl
form_named (forms.Alu ops.Sub W32) = refl
form_named (forms.Alu ops.Mul W32) = refl
form_named (forms.Alu ops.Div W32) = refl
form_named (forms.Alu ops.Sdiv W32) = refl
form_named (forms.Alu ops.Or W32) = refl
form_named (forms.Alu ops.And W32) = refl
form_named (forms.Alu ops.Lsh W32) = refl
form_named (forms.Alu ops.Rsh W32) = refl
form_named (forms.Alu ops.Mod W32) = refl
form_named (forms.Alu ops.Smod W32) = refl
form_named (forms.Alu ops.Xor W32) = refl
form_named (forms.Alu ops.Mov W32) = refl
form_named (forms.Alu ops.Arsh W32) = refl
form_named (forms.Alu ops.Add W64) = refl
form_named (forms.Alu ops.Sub W64) = refl
form_named (forms.Alu ops.Mul W64) = refl
form_named (forms.Alu ops.Div W64) = refl
form_named (forms.Alu ops.Sdiv W64) = refl
form_named (forms.Alu ops.Or W64) = refl
form_named (forms.Alu ops.And W64) = refl
form_named (forms.Alu ops.Lsh W64) = refl
form_named (forms.Alu ops.Rsh W64) = refl
form_named (forms.Alu ops.Mod W64) = refl
form_named (forms.Alu ops.Smod W64) = refl
form_named (forms.Alu ops.Xor W64) = refl
form_named (forms.Alu ops.Mov W64) = refl
form_named (forms.Alu ops.Arsh W64) = refl
form_named (forms.Neg W32) = refl
form_named (forms.Neg W64) = refl
form_named (forms.Movsx kinds.From8To32) = refl
form_named (forms.Movsx kinds.From16To32) = refl
form_named (forms.Movsx kinds.From8To64) = refl
form_named (forms.Movsx kinds.From16To64) = refl
form_named (forms.Movsx kinds.From32To64) = refl
form_named (forms.Swap orders.Le bits.Bits16) = refl
form_named (forms.Swap orders.Le bits.Bits32) = refl
form_named (forms.Swap orders.Le bits.Bits64) = refl
form_named (forms.Swap orders.Be bits.Bits16) = refl
form_named (forms.Swap orders.Be bits.Bits32) = refl
form_named (forms.Swap orders.Be bits.Bits64) = refl
form_named (forms.Swap orders.Always bits.Bits16) = refl
form_named (forms.Swap orders.Always bits.Bits32) = refl
form_named (forms.Swap orders.Always bits.Bits64) = refl
form_named forms.Ja = refl
form_named forms.JaLong = refl
form_named (forms.Branch conds.Eq W32) = refl
form_named (forms.Branch conds.Gt W32) = refl
form_named (forms.Branch conds.Ge W32) = refl
form_named (forms.Branch conds.Set W32) = refl
form_named (forms.Branch conds.Ne W32) = refl
form_named (forms.Branch conds.Sgt W32) = refl
form_named (forms.Branch conds.Sge W32) = refl
form_named (forms.Branch conds.Lt W32) = refl
form_named (forms.Branch conds.Le W32) = refl
form_named (forms.Branch conds.Slt W32) = refl
form_named (forms.Branch conds.Sle W32) = refl
form_named (forms.Branch conds.Eq W64) = refl
form_named (forms.Branch conds.Gt W64) = refl
form_named (forms.Branch conds.Ge W64) = refl
form_named (forms.Branch conds.Set W64) = refl
form_named (forms.Branch conds.Ne W64) = refl
form_named (forms.Branch conds.Sgt W64) = refl
form_named (forms.Branch conds.Sge W64) = refl
form_named (forms.Branch conds.Lt W64) = refl
form_named (forms.Branch conds.Le W64) = refl
form_named (forms.Branch conds.Slt W64) = refl
form_named (forms.Branch conds.Sle W64) = refl
form_named forms.Call = refl
form_named forms.Exit = refl
form_named (forms.Load sizes.B) = refl
form_named (forms.Load sizes.H) = refl
form_named (forms.Load sizes.W) = refl
form_named (forms.Load sizes.Dw) = refl
form_named (forms.LoadSx sx_sizes.B) = refl
form_named (forms.LoadSx sx_sizes.H) = refl
form_named (forms.LoadSx sx_sizes.W) = refl
form_named (forms.StoreReg sizes.B) = refl
form_named (forms.StoreReg sizes.H) = refl
form_named (forms.StoreReg sizes.W) = refl
form_named (forms.StoreReg sizes.Dw) = refl
form_named (forms.StoreImm sizes.B) = refl
form_named (forms.StoreImm sizes.H) = refl
form_named (forms.StoreImm sizes.W) = refl
form_named (forms.StoreImm sizes.Dw) = refl
form_named forms.LoadImm64 = refl

pub helper_word_named : (word : List ℕ) (helper : Helper) → helper_by_word word ≡ Some helper
    → word ≡ helper_word helper
helper_word_named word helper found = sym (same_bytes (helper_word helper) word
    (found_passes (λ h. bytes_eq (helper_word h) word) HELPERS helper found))

pub helper_named : (helper : Helper) → helper_by_word (helper_word helper) ≡ Some helper
helper_named Id = refl
helper_named Recv = refl
helper_named Send = refl
helper_named Coin = refl

pub helper_numbered : (helper : Helper) → helper_of (helper_number helper) ≡ Some helper
helper_numbered Id = refl
helper_numbered Recv = refl
helper_numbered Send = refl
helper_numbered Coin = refl

same_numbers : (a b : ℤ) → int_eq a b ≡ true → a ≡ b
same_numbers a b same = grind (arith, Decides-int_eq a b)

pub helper_number_named : (number : ℤ) (helper : Helper) → helper_of number ≡ Some helper
    → number ≡ helper_number helper
helper_number_named number helper found = sym (same_numbers (helper_number helper) number
    (found_passes (λ h. int_eq (helper_number h) number) HELPERS helper found))

pub register_word_named : (word : List ℕ) (register : Reg) → register_by_word word ≡ Some register
    → word ≡ register_word register
register_word_named word register found = sym (same_bytes (register_word register) word
    (found_passes (λ r. bytes_eq (register_word r) word) REGISTERS register found))

pub register_named : (register : Reg) → register_by_word (register_word register) ≡ Some register
register_named R0 = refl
register_named R1 = refl
register_named R2 = refl
register_named R3 = refl
register_named R4 = refl
register_named R5 = refl
register_named R6 = refl
register_named R7 = refl
register_named R8 = refl
register_named R9 = refl
register_named R10 = refl

-- ---- a test that passes on each of a list passes on what is found there: so a fact of every word is one computation

passes_found : {X : Type 0} (p test : X → Bool) (xs : List X) (x : X) → list_all test xs ≡ true → find p xs ≡ Some x
    → test x ≡ true
passes_found p test [] x all none = cc
passes_found p test (y ∷ ys) x all found = by_tests (p y) (test y) refl all found (passes_found p test ys x)
  where
    by_tests : (t u : Bool) → test y ≡ u → (u && list_all test ys) ≡ true → cond t (Some y) (find p ys) ≡ Some x
        → (list_all test ys ≡ true → find p ys ≡ Some x → test x ≡ true) → test x ≡ true
    by_tests true true passes rest e others = cc
    by_tests true false passes rest e others = cc
    by_tests false true passes rest e others = others rest e
    by_tests false false passes rest e others = cc

pub every_form : (test : Form → Bool) → list_all test FORMS ≡ true → (form : Form) → test form ≡ true
every_form test all form = passes_found (λ f. bytes_eq (form_word f) (form_word form)) test FORMS form all (form_named form)

pub every_register : (test : Reg → Bool) → list_all test REGISTERS ≡ true → (register : Reg) → test register ≡ true
every_register test all register = passes_found
    (λ r. bytes_eq (register_word r) (register_word register)) test REGISTERS register all (register_named register)
