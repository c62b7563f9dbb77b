-- Places, as the machine has them: registers, and bytes of the stack.
use Rattle.std.proofs.Common.{◌≡◌, ◌≢◌, ℕ, zero, suc, ◌+◌, ◌-◌, ◌*◌, ◌/◌, ◌%◌, ◌^◌, ◌<◌, ◌≤◌, ◌==◌, nat_le, min, true, false, Some, None, Ok, pos, negsuc, ◌+ℤ◌, List, refl, sym, ap, ◌∙◌, arith, subst, inl, inr, ◌⊎◌}
use Rattle.std.specs.Ordering.{nat_cmp}
use Rattle.std.specs.Int.{w32, w64, cast_signed, cast_unsigned}
use Rattle.std.specs.FinMap.{FinMap, get, insert, remove}
use Rattle.std.proofs.lemmas.Bool.{cases_eq, cases_lt, le-ltb, le-leb}
use Rattle.node_env.specs.declared.region.Region.TheVariants.{Stack}
use Rattle.node_env.specs.Env.{Setting}
use Rattle.node_env.specs.Dwords.{dword_of}
use Rattle.bpf_insn.specs.declared.forms.Reg.{Reg}
use Rattle.bpf_insn.specs.declared.forms.Insn.{Insn}
use Rattle.bpf_insn.specs.Registers.{register_number}
use Rattle.bpf_insn.specs.Programs.{insn_at}
use Rattle.bpf_insn.specs.Edges.{BeginsAt}
use Rattle.bpf_machine.specs.declared.word.Word.{Word}
use Rattle.bpf_machine.specs.declared.word.Word.TheVariants.{Num, Ptr}
use Rattle.bpf_machine.specs.Machine.{MachineState, Running}
use Rattle.bpf_machine.specs.Step.{number_at, with_number, still_kept, step}
use Rattle.bpf_machine.proofs.KeptLaws.{beside_number, removed_same, removed_other}
use Rattle.clock_nodes.proofs.Forms.{put_same, put_other, put}
use Rattle.rule_nodes.specs.declared.numbers.TheConstants.{PLACES}
use Rattle.rule_nodes.specs.declared.numbers.Place.{Place}
use Rattle.rule_nodes.specs.declared.numbers.Place.TheVariants.{InRegister, OnStack}
use Rattle.rule_nodes.specs.Code.{number_place, fetch_code, keep_code, start_code}
use Rattle.rule_nodes.proofs.Small.{moved, said, imm_low}

pub place_on_stack : (k : ℕ) → 3 ≤ k → number_place k ≡ OnStack (negsuc (4 * min (k - 3) (PLACES - 4) + 3))
place_on_stack zero h = absurd (omega (arith, h))
place_on_stack (suc zero) h = absurd (omega (arith, h))
place_on_stack (suc (suc zero)) h = absurd (omega (arith, h))
place_on_stack (suc (suc (suc k))) h =
    let e : k ≡ suc (suc (suc k)) - 3 = omega arith in
    ap (λ (n : ℕ). OnStack (negsuc (4 * min n (PLACES - 4) + 3))) e

-- ---- which register, which bytes

-- r7, r8 or r9, or four bytes inside the stack
abbrev pub IsInside : Place → Type 0
IsInside (InRegister register) = (6 < register_number register) × (register_number register < 10)
IsInside (OnStack (pos n)) = ⊥
IsInside (OnStack (negsuc n)) = (3 ≤ n) × (n < 512)

pub inside : (k : ℕ) → IsInside (number_place k)
inside zero = (omega arith, omega arith)
inside (suc zero) = (omega arith, omega arith)
inside (suc (suc zero)) = (omega arith, omega arith)
inside (suc (suc (suc k))) = (omega arith, omega arith)

-- place k
abbrev pub IsPlace : Place → ℕ → Type 0
IsPlace (InRegister register) k = (register_number register ≡ 7 + k) × (k < 3)
IsPlace (OnStack (pos n)) k = ⊥
IsPlace (OnStack (negsuc n)) k = (n + 9 ≡ 4 * k) × (k < 131)

pub place_is : (k : ℕ) → k < PLACES → IsPlace (number_place k) k
place_is zero h = (refl, omega arith)
place_is (suc zero) h = (refl, omega arith)
place_is (suc (suc zero)) h = (refl, omega arith)
place_is (suc (suc (suc k))) h = (omega (arith, h), omega (arith, h))

pub not_frame : (register : Reg) → register_number register < 10 → (register_number register == 10) ≡ false
not_frame register lt = grind (arith, lt)

-- ---- what is in a place

-- the place has this number
abbrev pub IsIn : Place → FinMap nat_cmp Word → FinMap nat_cmp ℕ → ℕ → Type 0
IsIn (InRegister register) registers stack v = get registers (register_number register) ≡ Some (Num v)
IsIn (OnStack (pos n)) registers stack v = ⊥
IsIn (OnStack (negsuc n)) registers stack v = number_at (get stack) (511 - n) 4 ≡ Ok v

abbrev pub At : ℕ → MachineState → ℕ → Type 0
At k s v = IsIn (number_place k) s.frame.registers s.frame.stack v

-- r10 is the end of the stack, and no pointer is kept there
pub record Framed (registers kept : FinMap nat_cmp Word) : Type 0 where
  pub r10 : get registers 10 ≡ Some (Ptr Stack 512)
  pub free : (dword : ℕ) → get kept dword ≡ None

abbrev pub IsFramed : MachineState → Type 0
IsFramed s = Framed s.frame.registers s.frame.kept

-- only r7, r8, r9 and the stack count
pub in_alike : (p : Place) (m w : FinMap nat_cmp Word) (stack : FinMap nat_cmp ℕ) (v : ℕ) → IsInside p
    → ((j : ℕ) → 5 < j → get w j ≡ get m j) → IsIn p m stack v → IsIn p w stack v
in_alike (InRegister register) m w stack v ok same h = same (register_number register) (omega (arith, ok.0)) ∙ h
in_alike (OnStack (pos n)) m w stack v ok same h = h
in_alike (OnStack (negsuc n)) m w stack v ok same h = h

pub framed_alike : (m w kept : FinMap nat_cmp Word) → ((j : ℕ) → 5 < j → get w j ≡ get m j) → Framed m kept
    → Framed w kept
framed_alike m w kept same h = record { r10 = same 10 (omega arith) ∙ h.r10; free = h.free }

-- ---- writes

-- after a number is put into four bytes of the stack
abbrev pub stacking : MachineState → ℕ → ℕ → ℕ → MachineState
stacking s to first v = record s {
  frame = record {
    slot = to;
    registers = s.frame.registers;
    stack = with_number insert s.frame.stack first 4 v;
    kept = still_kept s.frame.kept first 4;
  };
}

-- of a number that is put there only the low 32 bits count
stacking_low : (s : MachineState) (to first raw v : ℕ) → raw % 2 ^ 32 ≡ v
    → stacking s to first raw ≡ stacking s to first v
stacking_low s to first raw v h =
    let e0 : raw % 256 ≡ v % 256 = omega (arith, h) in
    let e1 : raw / 256 % 256 ≡ v / 256 % 256 = omega (arith, h) in
    let e2 : raw / 256 / 256 % 256 ≡ v / 256 / 256 % 256 = omega (arith, h) in
    let e3 : raw / 256 / 256 / 256 % 256 ≡ v / 256 / 256 / 256 % 256 = omega (arith, h) in
    rw (e0, e1, e2, e3) refl

gone : (m : FinMap nat_cmp Word) (k j : ℕ) → get m j ≡ None → get (remove m k) j ≡ None
gone m k j e = elim (cases_eq j k) [
  | inl same ↦ rw same (removed_same m k)
  | inr other ↦ removed_other m k j other ∙ e
]

still_free : (kept : FinMap nat_cmp Word) (first count d : ℕ) → get kept d ≡ None
    → get (still_kept kept first count) d ≡ None
still_free kept first count d h =
    gone (remove kept (dword_of first)) (dword_of (first + count - 1)) d (gone kept (dword_of first) d h)

-- the four bytes spell the number
spelled : (m : FinMap nat_cmp ℕ) (b v : ℕ) → v < 2 ^ 32 → number_at (get (with_number insert m b 4 v)) b 4 ≡ Ok v
spelled m b v small =
    let b1 = suc b in
    let b2 = suc b1 in
    let b3 = suc b2 in
    let m0 = insert m b (v % 256) in
    let m1 = insert m0 b1 (v / 256 % 256) in
    let m2 = insert m1 b2 (v / 256 / 256 % 256) in
    let m3 = insert m2 b3 (v / 256 / 256 / 256 % 256) in
    let e3 : get m3 b3 ≡ Some (v / 256 / 256 / 256 % 256) = put_same m2 b3 (v / 256 / 256 / 256 % 256) in
    let e2 : get m3 b2 ≡ Some (v / 256 / 256 % 256) = put_other m2 b3 _ b2 (λ e. omega (arith, e))
    ∙ put_same m1 b2 (v / 256 / 256 % 256) in
    let e1 : get m3 b1 ≡ Some (v / 256 % 256) = put_other m2 b3 _ b1 (λ e. omega (arith, e))
    ∙ put_other m1 b2 _ b1 (λ e. omega (arith, e)) ∙ put_same m0 b1 (v / 256 % 256) in
    let e0 : get m3 b ≡ Some (v % 256) = put_other m2 b3 _ b (λ e. omega (arith, e))
    ∙ put_other m1 b2 _ b (λ e. omega (arith, e)) ∙ put_other m0 b1 _ b (λ e. omega (arith, e))
    ∙ put_same m b (v % 256) in
    rw (e0, e1, e2, e3) (ap Ok (omega (arith, small)))

-- four other bytes spell what they spelled
beside : (m : FinMap nat_cmp ℕ) (b c v : ℕ) → (c + 4 ≤ b) ⊎ (b + 4 ≤ c)
    → number_at (get (with_number insert m b 4 v)) c 4 ≡ number_at (get m) c 4
beside m b c v apart =
    let w = with_number insert m b 4 v in
    let at_0 : get w c ≡ get m c = beside_number 4 b v m c (further c (omega arith) (omega arith)) in
    let at_1 : get w (suc c) ≡ get m (suc c) = beside_number 4 b v m (suc c)
    (further (suc c) (omega arith) (omega arith)) in
    let at_2 : get w (suc (suc c)) ≡ get m (suc (suc c)) = beside_number 4 b v m (suc (suc c))
    (further (suc (suc c)) (omega arith) (omega arith)) in
    let at_3 : get w (suc (suc (suc c))) ≡ get m (suc (suc (suc c))) = beside_number 4 b v m (suc (suc (suc c)))
    (further (suc (suc (suc c))) (omega arith) (omega arith)) in
    rw (at_0, at_1, at_2, at_3) refl
  where
    further : (j : ℕ) → c ≤ j → j < c + 4 → (j < b) ⊎ (b + 4 ≤ j)
    further j from below = elim apart [
      | inl before ↦ inl (omega (arith, before, from, below))
      | inr behind ↦ inr (omega (arith, behind, from, below))
    ]

-- ---- a number is put into place d

pub record Placed (d v : ℕ) (s t : MachineState) : Type 0 where
  pub there : At d t v
  pub others : (k w : ℕ) → k ≢ d → k < PLACES → At k s w → At k t w
  pub r6 : get t.frame.registers 6 ≡ get s.frame.registers 6
  pub scratch : (j : ℕ) → j < 6 → get t.frame.registers j ≡ get s.frame.registers j
  pub framed : IsFramed s → IsFramed t
  pub memory : t.memory ≡ s.memory
  pub sent : t.sent ≡ s.sent

record PutIn (p : Place) (d v : ℕ) (s t : MachineState) : Type 0 where
  there : IsIn p t.frame.registers t.frame.stack v
  others : (q : Place) (k w : ℕ) → IsPlace q k → k ≢ d → IsIn q s.frame.registers s.frame.stack w
      → IsIn q t.frame.registers t.frame.stack w
  r6 : get t.frame.registers 6 ≡ get s.frame.registers 6
  scratch : (j : ℕ) → j < 6 → get t.frame.registers j ≡ get s.frame.registers j
  framed : IsFramed s → IsFramed t
  memory : t.memory ≡ s.memory
  sent : t.sent ≡ s.sent

placed_of : (d v : ℕ) (s t : MachineState) → PutIn (number_place d) d v s t → Placed d v s t
placed_of d v s t h = record {
  there = h.there;
  others = λ k w other small at. h.others (number_place k) k w (place_is k small) other at;
  r6 = h.r6;
  scratch = h.scratch;
  framed = h.framed;
  memory = h.memory;
  sent = h.sent;
}

-- in a register
put_in : (register : Reg) (d v : ℕ) (s : MachineState) (to : ℕ) → register_number register ≡ 7 + d → d < 3
    → PutIn (InRegister register) d v s (put s to register (Num v))
put_in register d v s to number small =
    let m = s.frame.registers in
    let r = register_number register in
    record {
      there = put_same m r (Num v);
      others = λ q k w is other at. beside_register q k w is other at;
      r6 = put_other m r (Num v) 6 (λ e. omega (arith, e, number));
      scratch = λ j lt. put_other m r (Num v) j (λ e. omega (arith, e, number, lt));
      framed = λ h. record { r10 = put_other m r (Num v) 10 (λ e. omega (arith, e, number, small)) ∙ h.r10; free = h.free };
      memory = refl;
      sent = refl;
    }
  where
    beside_register : (q : Place) (k w : ℕ) → IsPlace q k → k ≢ d → IsIn q s.frame.registers s.frame.stack w
        → IsIn q (insert s.frame.registers (register_number register) (Num v)) s.frame.stack w
    beside_register (InRegister other) k w is apart at =
        put_other s.frame.registers (register_number register) (Num v) (register_number other)
        (λ e. apart (omega (arith, e, number, is.0))) ∙ at
    beside_register (OnStack (pos n)) k w is apart at = at
    beside_register (OnStack (negsuc n)) k w is apart at = at

-- on the stack
stack_in : (n d v : ℕ) (s : MachineState) (to : ℕ) → n + 9 ≡ 4 * d → d < 131 → v < 2 ^ 32
    → PutIn (OnStack (negsuc n)) d v s (stacking s to (511 - n) v)
stack_in n d v s to number small fits =
    record {
      there = spelled s.frame.stack (511 - n) v fits;
      others = λ q k w is other at. beside_bytes q k w is other at;
      r6 = refl;
      scratch = λ j lt. refl;
      framed = λ h. record { r10 = h.r10; free = λ j. still_free s.frame.kept (511 - n) 4 j (h.free j) };
      memory = refl;
      sent = refl;
    }
  where
    beside_bytes : (q : Place) (k w : ℕ) → IsPlace q k → k ≢ d → IsIn q s.frame.registers s.frame.stack w
        → IsIn q s.frame.registers (with_number insert s.frame.stack (511 - n) 4 v) w
    beside_bytes (InRegister other) k w is apart at = at
    beside_bytes (OnStack (pos l)) k w is apart at = at
    beside_bytes (OnStack (negsuc l)) k w is apart at =
        beside s.frame.stack (511 - n) (511 - l) v
        (elim (cases_lt k d) [
          | inl below ↦ inr (omega (arith, below, number, is.0, small, is.1))
          | inr above ↦ inl (omega (arith, above, apart, number, is.0, small, is.1))
        ]) ∙ at

-- ---- steps

where_ : (n : ℕ) → n < 512 → pos 512 +ℤ negsuc n ≡ pos (511 - n)
where_ n small = rw (le-ltb 512 (suc n) (omega (arith, small))) (ap pos (omega arith))

fits_in : (n : ℕ) → 3 ≤ n → nat_le (511 - n + 4) 512 ≡ true
fits_in n low = le-leb (511 - n + 4) 512 (omega (arith, low))

module _ (program : List Insn) (env : Setting) where
  -- a place into a register
  pub fetches : (p : Place) (s : MachineState) (to : ℕ) (dst : Reg) (v : ℕ) → IsInside p
      → insn_at program s.frame.slot ≡ Some (fetch_code dst p) → s.frame.slot + 1 ≡ to → BeginsAt program to
      → IsIn p s.frame.registers s.frame.stack v → IsFramed s → v < 2 ^ 32 → (register_number dst == 10) ≡ false
      → step program env s ≡ Ok (Running (put s to dst (Num v)))
  fetches (InRegister register) s to dst v ok here next there e framed small free =
      let same = moved v small in
      rw (here, next, there, e, free, same) refl
  fetches (OnStack (pos n)) s to dst v ok here next there e framed small free = absurd ok
  fetches (OnStack (negsuc n)) s to dst v ok here next there e framed small free =
      let base = framed.r10 in
      let offset = where_ n ok.1 in
      let room = fits_in n ok.0 in
      let first = framed.free (dword_of (511 - n)) in
      let second = framed.free (dword_of (511 - n + 4 - 1)) in
      rw (here, next, there, base, free, offset, room, first, second, e) refl

  -- where a store leads
  record Stored (p : Place) (d v : ℕ) (s : MachineState) (to : ℕ) : Type 0 where
    new : MachineState
    runs : step program env s ≡ Ok (Running new)
    slot : new.frame.slot ≡ to
    fact : PutIn p d v s new

  -- r0 into a place
  keeps : (p : Place) (d v : ℕ) (s : MachineState) (to : ℕ) → IsPlace p d
      → insn_at program s.frame.slot ≡ Some (keep_code p) → s.frame.slot + 1 ≡ to → BeginsAt program to
      → get s.frame.registers 0 ≡ Some (Num v) → IsFramed s → v < 2 ^ 32 → Stored p d v s to
  keeps (InRegister register) d v s to is here next there e framed small =
      let same = moved v small in
      let free = not_frame register (omega (arith, is.0, is.1)) in
      record {
        new = put s to register (Num v);
        runs = rw (here, next, there, e, free, same) refl;
        slot = refl;
        fact = put_in register d v s to is.0 is.1;
      }
  keeps (OnStack (pos n)) d v s to is here next there e framed small = absurd is
  keeps (OnStack (negsuc n)) d v s to is here next there e framed small =
      let base = framed.r10 in
      let offset = where_ n (omega (arith, is.0, is.1)) in
      let room = fits_in n (omega (arith, is.0)) in
      record {
        new = stacking s to (511 - n) v;
        runs = rw (here, next, there, base, e, offset, room) refl;
        slot = refl;
        fact = stack_in n d v s to is.0 is.1 small;
      }

  -- a number of 32 bits into a place
  starts : (p : Place) (d v : ℕ) (s : MachineState) (to : ℕ) → IsPlace p d
      → insn_at program s.frame.slot ≡ Some (start_code p v) → s.frame.slot + 1 ≡ to → BeginsAt program to
      → IsFramed s → v < 2 ^ 32 → Stored p d v s to
  starts (InRegister register) d v s to is here next there framed small =
      let same = said v small in
      let free = not_frame register (omega (arith, is.0, is.1)) in
      record {
        new = put s to register (Num v);
        runs = rw (here, next, there, free, same) refl;
        slot = refl;
        fact = put_in register d v s to is.0 is.1;
      }
  starts (OnStack (pos n)) d v s to is here next there framed small = absurd is
  starts (OnStack (negsuc n)) d v s to is here next there framed small =
      let raw = cast_unsigned w64 (cast_signed w32 v) in
      let base = framed.r10 in
      let offset = where_ n (omega (arith, is.0, is.1)) in
      let room = fits_in n (omega (arith, is.0)) in
      let run : step program env s ≡ Ok (Running (stacking s to (511 - n) raw)) =
      rw (here, next, there, base, offset, room) refl in
      record {
        new = stacking s to (511 - n) v;
        runs = run ∙ ap (λ (x : MachineState). Ok (Running x)) (stacking_low s to (511 - n) raw v (imm_low v small));
        slot = refl;
        fact = stack_in n d v s to is.0 is.1 small;
      }

  -- a number goes into place d
  pub record PlacedAt (d v : ℕ) (s : MachineState) (to : ℕ) : Type 0 where
    pub new : MachineState
    pub runs : step program env s ≡ Ok (Running new)
    pub slot : new.frame.slot ≡ to
    pub fact : Placed d v s new

  placed_at : (d v : ℕ) (s : MachineState) (to : ℕ) → Stored (number_place d) d v s to → PlacedAt d v s to
  placed_at d v s to h =
      record { new = h.new; runs = h.runs; slot = h.slot; fact = placed_of d v s h.new h.fact }

  pub keeps_at : (d v : ℕ) (s : MachineState) (to : ℕ) → d < PLACES
      → insn_at program s.frame.slot ≡ Some (keep_code (number_place d)) → s.frame.slot + 1 ≡ to → BeginsAt program to
      → get s.frame.registers 0 ≡ Some (Num v) → IsFramed s → v < 2 ^ 32 → PlacedAt d v s to
  keeps_at d v s to few here next there e framed small =
      placed_at d v s to (keeps (number_place d) d v s to (place_is d few) here next there e framed small)

  pub starts_at : (d v : ℕ) (s : MachineState) (to : ℕ) → d < PLACES
      → insn_at program s.frame.slot ≡ Some (start_code (number_place d) v) → s.frame.slot + 1 ≡ to → BeginsAt program to
      → IsFramed s → v < 2 ^ 32 → PlacedAt d v s to
  starts_at d v s to few here next there framed small =
      placed_at d v s to (starts (number_place d) d v s to (place_is d few) here next there framed small)

  -- what a register alone is given
  pub put_at : (register : Reg) (d v : ℕ) (s : MachineState) (to : ℕ) → number_place d ≡ InRegister register
      → register_number register ≡ 7 + d → d < 3 → Placed d v s (put s to register (Num v))
  put_at register d v s to is number small =
      placed_of d v s (put s to register (Num v))
      (subst (λ (p : Place). PutIn p d v s (put s to register (Num v))) (sym is) (put_in register d v s to number small))
