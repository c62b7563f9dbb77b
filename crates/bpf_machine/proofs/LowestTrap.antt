-- The lowest of the traps that pass a test.
use Rattle.std.proofs.Common.{◌≡◌, ℕ, ◌+◌, ◌<◌, ◌≤◌, Bool, true, false, List, [], ◌∷◌, Option, Some, None, refl, sym, ap, ◌∙◌, arith, cond, inl, inr, ◌⊎◌}
use Rattle.std.specs.Prelude.{find, ◌==◌, if◌then◌else◌}
use Rattle.bpf_machine.specs.declared.word.TrapKind.{TrapKind}
use Rattle.bpf_machine.specs.declared.word.TrapKind.TheVariants.{BadJump, BadHelper, Unset, FrameWrite, NotNumber, OutOfRegion, UnsetByte, BadArgument, NotPointer, ExitNotNumber}
use Rattle.bpf_machine.specs.Traps.{trap_number}

abbrev pub kinds : List TrapKind
kinds = BadJump ∷ BadHelper ∷ Unset ∷ FrameWrite ∷ NotNumber ∷ OutOfRegion ∷ UnsetByte ∷ BadArgument ∷ NotPointer
    ∷ ExitNotNumber ∷ []

-- ---- numbers

abbrev kind_at : ℕ → Option TrapKind
kind_at n =
    if n == 1 then Some BadJump
    else if n == 2 then Some BadHelper
    else if n == 3 then Some Unset
    else if n == 4 then Some FrameWrite
    else if n == 5 then Some NotNumber
    else if n == 6 then Some OutOfRegion
    else if n == 7 then Some UnsetByte
    else if n == 8 then Some BadArgument
    else if n == 9 then Some NotPointer
    else if n == 10 then Some ExitNotNumber
    else None

kind_again : (kind : TrapKind) → kind_at (trap_number kind) ≡ Some kind
kind_again BadJump = refl
kind_again BadHelper = refl
kind_again Unset = refl
kind_again FrameWrite = refl
kind_again NotNumber = refl
kind_again OutOfRegion = refl
kind_again UnsetByte = refl
kind_again BadArgument = refl
kind_again NotPointer = refl
kind_again ExitNotNumber = refl

pub kind_by_number : (kind other : TrapKind) → trap_number kind ≡ trap_number other → kind ≡ other
kind_by_number kind other e =
    let same : Some kind ≡ Some other = sym (kind_again kind) ∙ (ap kind_at e ∙ kind_again other) in
    cc

number_range : (kind : TrapKind) → (1 ≤ trap_number kind) × (trap_number kind < 11)
number_range BadJump = (omega arith, omega arith)
number_range BadHelper = (omega arith, omega arith)
number_range Unset = (omega arith, omega arith)
number_range FrameWrite = (omega arith, omega arith)
number_range NotNumber = (omega arith, omega arith)
number_range OutOfRegion = (omega arith, omega arith)
number_range UnsetByte = (omega arith, omega arith)
number_range BadArgument = (omega arith, omega arith)
number_range NotPointer = (omega arith, omega arith)
number_range ExitNotNumber = (omega arith, omega arith)

-- ---- looking for the lowest

-- no trap of a lower number passes
abbrev pub NoneBelow : (TrapKind → Bool) → ℕ → Type 0
NoneBelow p n = (other : TrapKind) → trap_number other < n → p other ≡ false

-- this one passes, and none of a lower number does
pub record IsLowest (p : TrapKind → Bool) (kind : TrapKind) : Type 0 where
  pub holds : p kind ≡ true
  pub lowest : NoneBelow p (trap_number kind)

abbrev pub Told : (TrapKind → Bool) → Option TrapKind → Type 0
Told p None = (kind : TrapKind) → p kind ≡ false
Told p (Some kind) = IsLowest p kind

none_below_first : (p : TrapKind → Bool) → NoneBelow p 1
none_below_first p other lt = absurd (omega (arith, (number_range other).0))

below_or_same : (n m : ℕ) → n < m + 1 → (n < m) ⊎ (n ≡ m)
below_or_same n m lt = grind arith

none_below_next : (p : TrapKind → Bool) (kind : TrapKind) → NoneBelow p (trap_number kind) → p kind ≡ false
    → NoneBelow p (trap_number kind + 1)
none_below_next p kind below e other lt =
    elim (below_or_same (trap_number other) (trap_number kind) lt) [
      | inl lower ↦ below other lower
      | inr same ↦ ap p (kind_by_number other kind same) ∙ e
    ]

look : (p : TrapKind → Bool) (kind : TrapKind) (rest : Option TrapKind) → NoneBelow p (trap_number kind)
    → (NoneBelow p (trap_number kind + 1) → Told p rest) → Told p (cond (p kind) (Some kind) rest)
look p kind rest below later = by (p kind) refl
  where
    by : (b : Bool) → p kind ≡ b → Told p (cond b (Some kind) rest)
    by true e = record { holds = e; lowest = below }
    by false e = later (none_below_next p kind below e)

none : (p : TrapKind → Bool) → NoneBelow p 11 → Told p None
none p below kind = below kind (number_range kind).1

-- what is found first is the lowest
pub told : (p : TrapKind → Bool) → Told p (find p kinds)
told p =
    look p BadJump _ (none_below_first p) (λ b1. look p BadHelper _ b1
    (λ b2. look p Unset _ b2 (λ b3. look p FrameWrite _ b3
    (λ b4. look p NotNumber _ b4 (λ b5. look p OutOfRegion _ b5
    (λ b6. look p UnsetByte _ b6 (λ b7. look p BadArgument _ b7
    (λ b8. look p NotPointer _ b8 (λ b9. look p ExitNotNumber _ b9 (λ b10. none p b10))))))))))
