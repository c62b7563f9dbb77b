-- Images have one reading, or one fault.
use Rattle.std.proofs.Common.{◌≡◌, ℕ, ◌+◌, ◌*◌, ◌<◌, ◌≤◌, true, false, List, [], ◌∷◌, ◌++◌, length, drop, refl, sym, ap, ◌∙◌, append_assoc, arith, inl, inr}
use Rattle.std.specs.List.{AllByRecursion}
use Rattle.std.proofs.lemmas.List.{length-append, drop_at, get_or-drop, append-nil}
use Rattle.std.specs.Prelude.{◌==◌, ◌↔◌, Bool}
use Rattle.std.specs.Bool.{Decides, IsTrue}
use Rattle.std.proofs.lemmas.Bool.{cases_order, eqb-true, eqb-false}
use Rattle.bpf_insn.specs.declared.forms.Insn.{Insn}
use Rattle.bpf_insn.specs.declared.slot.SlotFault.{SlotFault}
use Rattle.bpf_insn.specs.declared.slot.SlotFault.TheVariants.{Truncated, UnknownOpcode, BadRegister, NonZeroField, BadWidth}
use Rattle.bpf_insn.specs.declared.listing.TheConstants.{MAX_SLOTS}
use Rattle.bpf_insn.specs.Encoding.{spelling, InRange, slots_taken}
use Rattle.bpf_insn.specs.Programs.{image_of, slots_of, IsProgram}
use Rattle.bpf_insn.specs.inner.Programs.{layout, slots_by}
use Rattle.bpf_insn.specs.Images.{IsFaultAt, IsFault, IsFirstFault, RefusesImage, fault_number}
use Rattle.bpf_insn.specs.inner.Images.{IsFirst, error_at}
use Rattle.bpf_insn.proofs.SlotLaws.{IsBytes, ok_is}
use Rattle.bpf_insn.proofs.FrontLaws.{front_at, front_again, length_spelling}
use Rattle.bpf_insn.proofs.LayoutLaws.{slots_of-cons}

-- no spelling begins another
pub one_spelling : (i j : Insn) (x y : List ℕ) → InRange i → InRange j → spelling i ++ x ≡ spelling j ++ y
    → (i ≡ j) × (x ≡ y)
one_spelling i j x y ri rj e =
    let same : i ≡ j = ok_is i j (sym (front_again i x ri) ∙ (ap front_at e ∙ front_again j y rj)) in
    let len : length (spelling j) ≡ 8 * slots_taken i = length_spelling j
    ∙ ap (λ (k : Insn). 8 * slots_taken k) (sym same) in (
      same,
      sym (drop_at (spelling i) x (8 * slots_taken i) (length_spelling i))
          ∙ (ap (drop (8 * slots_taken i)) e ∙ drop_at (spelling j) y (8 * slots_taken i) len),
    )

not_empty : (i : Insn) (x : List ℕ) → [] ≡ spelling i ++ x → ⊥
not_empty i x e = absurd cc

pub image_once : (p q : List Insn) → AllByRecursion InRange p → AllByRecursion InRange q → image_of p ≡ image_of q
    → p ≡ q
image_once [] [] rp rq e = refl
image_once [] (j ∷ q) rp rq e = absurd (not_empty j (image_of q) e)
image_once (i ∷ p) [] rp rq e = absurd (not_empty i (image_of p) (sym e))
image_once (i ∷ p) (j ∷ q) rp rq e =
    let first = one_spelling i j (image_of p) (image_of q) rp.0 rq.0 e in
    let rest = image_once p q rp.1 rq.1 first.1 in
    let head = first.0 in
    cc

-- programs in the ranges of their types are the same where their images are
same_image : (left right : List Insn) → IsProgram left → IsProgram right → image_of left ≡ image_of right → left ≡ right
same_image left right p q e = image_once left right p.in_range q.in_range e

-- what a comparison of two images tells of their programs
pub told_by_images : (r : Bool) (xs ys : List ℕ) (left right : List Insn) → Decides r (xs ≡ ys) → xs ≡ image_of left
    → ys ≡ image_of right
    → IsProgram left → IsProgram right → IsTrue r ↔ (left ≡ right)
told_by_images true xs ys left right d m t p q =
    ((λ told. same_image left right p q (sym m ∙ d.0 refl ∙ t)), (λ same. grind arith))
told_by_images false xs ys left right d m t p q =
    ((λ told. grind (arith, told)), (λ same. grind (arith, d.1 (m ∙ ap image_of same ∙ sym t))))

-- bytes with a fault are no image
pub fault_apart : (before p : List Insn) (rest : List ℕ) (f : SlotFault) → AllByRecursion InRange before
    → AllByRecursion InRange p → IsFaultAt f rest → image_of before ++ rest ≡ image_of p → ⊥
fault_apart [] [] rest f rb rp at e = let none : length rest ≡ 0 = ap length e in let left = at.left in omega arith
fault_apart [] (j ∷ p) rest f rb rp at e = at.none j (image_of p) rp.0 e
fault_apart (i ∷ before) [] rest f rb rp at e = not_empty i (image_of before ++ rest)
    (sym e ∙ append_assoc (spelling i) (image_of before) rest)
fault_apart (i ∷ before) (j ∷ p) rest f rb rp at e =
    let first = one_spelling i j (image_of before ++ rest) (image_of p) rb.0 rp.0
    (sym (append_assoc (spelling i) (image_of before) rest) ∙ e) in
    fault_apart before p rest f rb.1 rp.1 at first.1

-- bytes have one fault
pub fault_once : (b c : List Insn) (r s : List ℕ) (f g : SlotFault) → AllByRecursion InRange b
    → AllByRecursion InRange c → IsFaultAt f r → IsFaultAt g s → image_of b ++ r ≡ image_of c ++ s → (b ≡ c) × (r ≡ s)
fault_once [] [] r s f g rb rc at ag e = (refl, e)
fault_once [] (j ∷ c) r s f g rb rc at ag e = absurd
    (at.none j (image_of c ++ s) rc.0 (e ∙ append_assoc (spelling j) (image_of c) s))
fault_once (i ∷ b) [] r s f g rb rc at ag e = absurd
    (ag.none i (image_of b ++ r) rb.0 (sym e ∙ append_assoc (spelling i) (image_of b) r))
fault_once (i ∷ b) (j ∷ c) r s f g rb rc at ag e =
    let first = one_spelling i j (image_of b ++ r) (image_of c ++ s) rb.0 rc.0
    (sym (append_assoc (spelling i) (image_of b) r) ∙ (e ∙ append_assoc (spelling j) (image_of c) s)) in
    let others = fault_once b c r s f g rb.1 rc.1 at ag first.1 in
    let head = first.0 in
    let tail = others.0 in
    (cc, others.1)

fault_of_number : (f g : SlotFault) → fault_number f ≡ fault_number g → f ≡ g
fault_of_number Truncated Truncated e = refl
fault_of_number Truncated UnknownOpcode e = absurd (omega arith)
fault_of_number Truncated BadRegister e = absurd (omega arith)
fault_of_number Truncated NonZeroField e = absurd (omega arith)
fault_of_number Truncated BadWidth e = absurd (omega arith)
fault_of_number UnknownOpcode Truncated e = absurd (omega arith)
fault_of_number UnknownOpcode UnknownOpcode e = refl
fault_of_number UnknownOpcode BadRegister e = absurd (omega arith)
fault_of_number UnknownOpcode NonZeroField e = absurd (omega arith)
fault_of_number UnknownOpcode BadWidth e = absurd (omega arith)
fault_of_number BadRegister Truncated e = absurd (omega arith)
fault_of_number BadRegister UnknownOpcode e = absurd (omega arith)
fault_of_number BadRegister BadRegister e = refl
fault_of_number BadRegister NonZeroField e = absurd (omega arith)
fault_of_number BadRegister BadWidth e = absurd (omega arith)
fault_of_number NonZeroField Truncated e = absurd (omega arith)
fault_of_number NonZeroField UnknownOpcode e = absurd (omega arith)
fault_of_number NonZeroField BadRegister e = absurd (omega arith)
fault_of_number NonZeroField NonZeroField e = refl
fault_of_number NonZeroField BadWidth e = absurd (omega arith)
fault_of_number BadWidth Truncated e = absurd (omega arith)
fault_of_number BadWidth UnknownOpcode e = absurd (omega arith)
fault_of_number BadWidth BadRegister e = absurd (omega arith)
fault_of_number BadWidth NonZeroField e = absurd (omega arith)
fault_of_number BadWidth BadWidth e = refl

pub same_fault : (f g : SlotFault) (bytes : List ℕ) → IsFaultAt f bytes → IsFaultAt g bytes → f ≡ g
same_fault f g bytes at ag =
    elim (cases_order (fault_number f) (fault_number g)) [
      | inl e ↦ fault_of_number f g e
      | inr (inl lt) ↦ absurd (ag.lowest f lt at.holds)
      | inr (inr lt) ↦ absurd (at.lowest g lt ag.holds)
    ]

pub length-image : (p : List Insn) → length (image_of p) ≡ 8 * slots_of p
length-image [] = refl
length-image (i ∷ p) = length-append (spelling i) (image_of p)
    ∙ omega (arith, length_spelling i, length-image p, slots_of-cons i p)

-- ---- a loop over the bytes

-- these instructions were read, and this is left
pub record IsRead (bytes : List ℕ) (before : List Insn) (rest : List ℕ) : Type 0 where
  pub in_range : AllByRecursion InRange before
  pub parts : bytes ≡ image_of before ++ rest
  pub fits : IsBytes rest

image-last : (p : List Insn) (i : Insn) → image_of (p ++ i ∷ []) ≡ image_of p ++ spelling i
image-last [] i = append-nil (spelling i)
image-last (j ∷ p) i = ap (λ (t : List ℕ). spelling j ++ t) (image-last p i)
    ∙ sym (append_assoc (spelling j) (image_of p) (spelling i))

range-last : (p : List Insn) (i : Insn) → AllByRecursion InRange p → InRange i → AllByRecursion InRange (p ++ i ∷ [])
range-last [] i rp ri = (ri, tt)
range-last (j ∷ p) i rp ri = (rp.0, range-last p i rp.1 ri)

pub read_more : (bytes : List ℕ) (before : List Insn) (rest : List ℕ) (i : Insn) → IsRead bytes before rest
    → IsFirst rest i → IsRead bytes (before ++ i ∷ []) (drop (8 * slots_taken i) rest)
read_more bytes before rest i read first =
    record {
      in_range = range-last before i read.in_range first.range;
      parts = read.parts ∙ (ap (λ (t : List ℕ). image_of before ++ t) first.parts
          ∙ (sym (append_assoc (image_of before) (spelling i) (drop (8 * slots_taken i) rest))
          ∙ ap (λ (t : List ℕ). t ++ drop (8 * slots_taken i) rest) (sym (image-last before i))));
      fits = λ k. rw get_or-drop (read.fits (8 * slots_taken i + k));
    }

pub slots_of-last : (p : List Insn) (i : Insn) → slots_of (p ++ i ∷ []) ≡ slots_of p + slots_taken i
slots_of-last [] i = omega arith
slots_of-last (j ∷ p) i = slots_of-cons j (p ++ i ∷ []) ∙ omega (arith, slots_of-last p i, slots_of-cons j p)

pub layout-last : (p : List Insn) (i : Insn) → layout (p ++ i ∷ []) ≡ layout p ++ slots_by i
layout-last [] i = append-nil (slots_by i)
layout-last (j ∷ p) i = ap (λ t. slots_by j ++ t) (layout-last p i)
    ∙ sym (append_assoc (slots_by j) (layout p) (slots_by i))

pub read_fault : (bytes : List ℕ) (before : List Insn) (rest : List ℕ) (f : SlotFault) (slot : ℕ)
    → IsRead bytes before rest → slots_of before ≡ slot → IsFaultAt f rest → IsFault bytes slot f
read_fault bytes before rest f slot read place at =
    record { before = before; rest = rest; in_range = read.in_range; parts = read.parts; place = place; at = at }

pub refuses_at : (bytes : List ℕ) (slot : ℕ) (f : SlotFault) → IsFirstFault bytes slot f
    → RefusesImage bytes (error_at f slot)
refuses_at bytes slot Truncated h = h
refuses_at bytes slot UnknownOpcode h = h
refuses_at bytes slot BadRegister h = h
refuses_at bytes slot NonZeroField h = h
refuses_at bytes slot BadWidth h = h

pub read_whole : (bytes : List ℕ) (before : List Insn) (rest : List ℕ) → IsRead bytes before rest → length rest ≡ 0
    → 0 < length bytes → length bytes ≤ 8 * MAX_SLOTS → IsProgram before × (bytes ≡ image_of before)
read_whole bytes before [] read none some few =
    let whole : bytes ≡ image_of before = read.parts ∙ append-nil (image_of before) in
    let len : length bytes ≡ 8 * slots_of before = ap length whole ∙ length-image before in
    (record { in_range = read.in_range; some_slots = omega arith; few_slots = omega arith }, whole)
read_whole bytes before (b ∷ rest) read none some few = absurd (omega arith)

-- a test that bytes are left
pub some_left : (rest : List ℕ) → false ≡ (length rest == 0) → 0 < length rest
some_left rest e = let none = eqb-false (length rest) 0 (sym e) in omega arith

pub none_left : (rest : List ℕ) → true ≡ (length rest == 0) → length rest ≡ 0
none_left rest e = eqb-true (length rest) 0 (sym e)

pub slots_below : (bytes : List ℕ) (before : List Insn) (rest : List ℕ) → IsRead bytes before rest
    → length bytes ≤ 8 * MAX_SLOTS → slots_of before ≤ MAX_SLOTS
slots_below bytes before rest read few = omega (
  arith,
  ap length read.parts,
  length-append
      (image_of before) rest,
  length-image before,
)
