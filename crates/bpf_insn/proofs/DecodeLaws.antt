-- Bytes are the image of one program, or have one refusal.
use Rattle.std.proofs.Common.{◌≡◌, ◌≢◌, ℕ, ◌*◌, ◌<◌, ◌≤◌, List, [], ◌++◌, length, Result, Ok, Err, refl, sym, ap, ◌∙◌, arith, inl, inr, ◌⊎◌}
use Rattle.std.specs.Prelude.{IfOk, IfErr, MatchResult}
use Rattle.std.proofs.lemmas.List.{length-append}
use Rattle.bpf_insn.specs.declared.forms.Insn.{Insn}
use Rattle.bpf_insn.specs.declared.slot.SlotFault.{SlotFault}
use Rattle.bpf_insn.specs.declared.slot.SlotFault.TheVariants.{Truncated, UnknownOpcode, BadRegister, NonZeroField, BadWidth}
use Rattle.bpf_insn.specs.declared.listing.TheConstants.{MAX_SLOTS}
use Rattle.bpf_insn.specs.declared.image.ImageError.{ImageError}
use Rattle.bpf_insn.specs.declared.image.ImageError.TheVariants as errors
use Rattle.bpf_insn.specs.Programs.{image_of, slots_of, IsProgram}
use Rattle.bpf_insn.specs.Images.{IsFirstFault, RefusesImage, IsImage}
use Rattle.bpf_insn.specs.inner.Images.{error_at}
use Rattle.bpf_insn.proofs.ImageLaws.{image_once, fault_apart, fault_once, same_fault, length-image}

-- a refusal by its kind
data Kind : Type 0 where
  None : Kind
  Many : Kind
  At : (fault : SlotFault) (slot : ℕ) → Kind
  Short : Kind

abbrev kind_of : ImageError → Kind
kind_of errors.Empty = None
kind_of errors.TooLong = Many
kind_of (errors.Truncated slot) = At Truncated slot
kind_of (errors.UnknownOpcode slot) = At UnknownOpcode slot
kind_of (errors.BadRegister slot) = At BadRegister slot
kind_of (errors.NonZeroField slot) = At NonZeroField slot
kind_of (errors.BadWidth slot) = At BadWidth slot
kind_of errors.Memory = Short

abbrev error_of : Kind → ImageError
error_of None = errors.Empty
error_of Many = errors.TooLong
error_of (At fault slot) = error_at fault slot
error_of Short = errors.Memory

back : (e : ImageError) → error_of (kind_of e) ≡ e
back errors.Empty = refl
back errors.TooLong = refl
back (errors.Truncated slot) = refl
back (errors.UnknownOpcode slot) = refl
back (errors.BadRegister slot) = refl
back (errors.NonZeroField slot) = refl
back (errors.BadWidth slot) = refl
back errors.Memory = refl

abbrev RefusesBy : List ℕ → Kind → Type 0
RefusesBy bytes None = bytes ≡ []
RefusesBy bytes Many = 8 * MAX_SLOTS < length bytes
RefusesBy bytes (At fault slot) = IsFirstFault bytes slot fault
RefusesBy bytes Short = IsImage bytes

by_kind : (bytes : List ℕ) (e : ImageError) → RefusesImage bytes e → RefusesBy bytes (kind_of e)
by_kind bytes errors.Empty h = h
by_kind bytes errors.TooLong h = h
by_kind bytes (errors.Truncated slot) h = h
by_kind bytes (errors.UnknownOpcode slot) h = h
by_kind bytes (errors.BadRegister slot) h = h
by_kind bytes (errors.NonZeroField slot) h = h
by_kind bytes (errors.BadWidth slot) h = h
by_kind bytes errors.Memory h = h

-- ---- an image has no refusal but memory

no_refusal : (bytes : List ℕ) (p : List Insn) (k : Kind) → IsProgram p → bytes ≡ image_of p → RefusesBy bytes k
    → k ≡ Short
no_refusal bytes p None program e h = absurd (omega
    (arith, ap length h, ap length e, length-image p, program.some_slots))
no_refusal bytes p Many program e h = absurd (omega (arith, ap length e, length-image p, program.few_slots))
no_refusal bytes p (At fault slot) program e h =
    absurd (fault_apart h.1.before p h.1.rest fault h.1.in_range program.in_range h.1.at (sym h.1.parts ∙ e))
no_refusal bytes p Short program e h = refl

-- ---- one refusal

empty_fault : (bytes : List ℕ) (fault : SlotFault) (slot : ℕ) → bytes ≡ [] → IsFirstFault bytes slot fault → ⊥
empty_fault bytes fault slot e h =
    let left = h.1.at.left in
    omega (arith, length-after h.1.before h.1.rest, ap length (sym e ∙ h.1.parts))
  where
    length-after : (p : List Insn) (rest : List ℕ) → length rest ≤ length (image_of p ++ rest)
    length-after p rest = omega (arith, length-append (image_of p) rest)

refused_once_by : (bytes : List ℕ) (k j : Kind) → RefusesBy bytes k → RefusesBy bytes j → k ≢ Short → j ≢ Short → k ≡ j
refused_once_by bytes Short j h i m n = absurd (m refl)
refused_once_by bytes None Short h i m n = absurd (n refl)
refused_once_by bytes None None h i m n = refl
refused_once_by bytes None Many h i m n = absurd (omega (arith, ap length h))
refused_once_by bytes None (At fault slot) h i m n = absurd (empty_fault bytes fault slot h i)
refused_once_by bytes Many Short h i m n = absurd (n refl)
refused_once_by bytes Many None h i m n = absurd (omega (arith, ap length i))
refused_once_by bytes Many Many h i m n = refl
refused_once_by bytes Many (At fault slot) h i m n = absurd (omega (arith, i.0))
refused_once_by bytes (At fault slot) Short h i m n = absurd (n refl)
refused_once_by bytes (At fault slot) None h i m n = absurd (empty_fault bytes fault slot i h)
refused_once_by bytes (At fault slot) Many h i m n = absurd (omega (arith, h.0))
refused_once_by bytes (At fault slot) (At other place) h i m n =
    let a = h.1 in
    let b = i.1 in
    let once = fault_once a.before b.before a.rest b.rest fault other a.in_range b.in_range a.at b.at
    (sym a.parts ∙ b.parts) in
    let same = same_fault fault other b.rest (rw once.1 at a.at) b.at in
    let where_is : slot ≡ place = sym a.place ∙ (ap slots_of once.0 ∙ b.place) in
    cc

memory_kind : (e : ImageError) → kind_of e ≡ Short → e ≡ errors.Memory
memory_kind e h = sym (back e) ∙ ap error_of h

pub refused_once : (bytes : List ℕ) (e d : ImageError) → RefusesImage bytes e → RefusesImage bytes d
    → e ≢ errors.Memory → d ≢ errors.Memory → e ≡ d
refused_once bytes e d h i m n =
    let same = refused_once_by bytes (kind_of e) (kind_of d) (by_kind bytes e h) (by_kind bytes d i)
    (λ s. m (memory_kind e s)) (λ s. n (memory_kind d s)) in
    sym (back e) ∙ (ap error_of same ∙ back d)

pub only_memory : (bytes : List ℕ) (p : List Insn) (e : ImageError) → IsProgram p → bytes ≡ image_of p
    → RefusesImage bytes e → e ≡ errors.Memory
only_memory bytes p e program image refused = memory_kind e
    (no_refusal bytes p (kind_of e) program image (by_kind bytes e refused))

-- ---- the answer of a decoder

pub only_program : (bytes : List ℕ) (p : List Insn) (r : Result (List Insn) ImageError)
    → IfOk r (λ q. IsProgram q × (bytes ≡ image_of q)) → IfErr r (RefusesImage bytes) → IsProgram p → bytes ≡ image_of p
    → MatchResult r (λ q. q ≡ p) (λ e. e ≡ errors.Memory)
only_program bytes p (Ok q) ok err program e = image_once q p ok.0.in_range program.in_range (sym ok.1 ∙ e)
only_program bytes p (Err d) ok err program e = only_memory bytes p d program e err

short_or_not : (k : Kind) → (k ≡ Short) ⊎ (k ≢ Short)
short_or_not None = inr (λ e. cc)
short_or_not Many = inr (λ e. cc)
short_or_not (At fault slot) = inr (λ e. cc)
short_or_not Short = inl refl

abbrev failed : ImageError → Result (List Insn) ImageError
failed e = Err e

pub only_refusal : (bytes : List ℕ) (d : ImageError) (r : Result (List Insn) ImageError)
    → IfOk r (λ q. IsProgram q × (bytes ≡ image_of q)) → IfErr r (RefusesImage bytes) → RefusesImage bytes d
    → d ≢ errors.Memory → r ≡ Err d
only_refusal bytes d (Ok q) ok err h n = absurd (n (only_memory bytes q d ok.0 ok.1 h))
only_refusal bytes d (Err e) ok err h n =
    elim (short_or_not (kind_of e)) [
      | inl short ↦
          let image : IsImage bytes = rw (memory_kind e short) at err in
          absurd (n (only_memory bytes image.0 d image.1 image.2 h))
      | inr other ↦ ap failed (refused_once bytes e d err h (λ s. other (ap kind_of s)) n)
    ]
