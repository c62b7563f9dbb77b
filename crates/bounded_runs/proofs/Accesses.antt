-- What loads and stores do to two states that differ in marked numbers alone.
use Rattle.std.proofs.Common.{◌≡◌, ℕ, ◌*◌, ◌/◌, Bool, true, false, cond, List, Option, Some, None, Result, Ok, Err, ◌==◌, ◌||◌, ◌&&◌, if◌then◌else◌, ℤ, pos, ◌+ℤ◌, refl, sym, ◌∙◌, subst, ap, arith}
use Rattle.std.specs.Prelude.{slice_get, slice_set}
use Rattle.std.specs.Int.{w64, cast_unsigned}
use Rattle.std.specs.Ordering.{nat_cmp}
use Rattle.std.specs.FinMap.{FinMap, get}
use Rattle.std.proofs.lemmas.Bool.{or_parts}
use Rattle.node_env.specs.declared.region.TheConstants.{STACK_BYTES}
use Rattle.node_env.specs.declared.region.Region.{Region}
use Rattle.node_env.specs.declared.region.Region.TheVariants.{Mem, Stack}
use Rattle.node_env.specs.Env.{Setting}
use Rattle.node_env.specs.Dwords.{is_aligned}
use Rattle.bpf_insn.specs.declared.forms.Reg.{Reg}
use Rattle.bpf_insn.specs.declared.forms.Size.{Size}
use Rattle.bpf_insn.specs.declared.forms.SxSize.{SxSize}
use Rattle.bpf_insn.specs.Arithmetic.{movsx_result}
use Rattle.bpf_insn.specs.Operands.{access_bytes, sx_access_bytes}
use Rattle.bpf_insn.specs.Registers.{register_number}
use Rattle.bpf_machine.specs.declared.word.Word.{Word}
use Rattle.bpf_machine.specs.declared.word.Word.TheVariants.{Num, Ptr}
use Rattle.bpf_machine.specs.declared.word.TrapKind.{TrapKind}
use Rattle.bpf_machine.specs.declared.word.TrapKind.TheVariants.{NotNumber}
use Rattle.bpf_machine.specs.Machine.{Frame}
use Rattle.bpf_machine.specs.Step.{◌>>=◌, Bytes, byte_at, inside, keep, keep_inside, kept_at, kept_frame, load, load_extended, loaded, loaded_word, number_at, number_from, or_number, place, store, store_immediate, store_register, store_word, stored, sx_kind, with_register, word_of, writable}
use Rattle.bpf_run.proofs.Alike.{Alike, after_alike, then_alike, then_written}
use Rattle.bounded_runs.specs.declared.marks.Marks.{Marks}
use Rattle.bounded_runs.specs.Bounded.{Bound, is_kept}
use Rattle.bounded_runs.specs.inner.Marks.{after_load, after_store, all_marked, at_place, if_plain, place_from, register_marked, takes_large, touches_marked, with_mark}
use Rattle.bounded_runs.specs.inner.Similar.{AreSimilarFrames, AreSimilarMemories, IsLarge}
use Rattle.bounded_runs.proofs.Similar.{word_same}
use Rattle.bounded_runs.proofs.Parts.{put_frames, with_inbox}
use Rattle.bounded_runs.proofs.Calls.{plain_marks}
use Rattle.bounded_runs.proofs.Places.{large_taken, number_same, stored_similar, untouched}

place_same : (env : Setting) (inbox : FinMap nat_cmp ℕ) (base : Word) (off : ℤ) (count : ℕ)
    → place env base off count ≡ place (with_inbox env inbox) base off count
place_same env inbox (Num n) off count = refl
place_same env inbox (Ptr region offset) off count = refl

-- marks that were made unless a register was marked
unless_marked : (b : Bool) (o : Option Marks) (next : Marks) → cond b None o ≡ Some next → (b ≡ false) × (o ≡ Some next)
unless_marked true o next e = absurd (let no : None ≡ Some next = e in cc)
unless_marked false o next e = (refl, e)

-- ---- loads

-- the stack gives both the same
stack_number : (s t : Frame) (m l : List ℕ) (first count : ℕ) → s.stack ≡ t.stack → s.kept ≡ t.kept
    → number_from s m Stack first count ≡ number_from t l Stack first count
stack_number s t m l first count stack kept =
    rw (
      kept,
      number_same (byte_at s m Stack) (byte_at t l Stack) first count
          (λ p _ _. ap (λ (bytes : FinMap nat_cmp ℕ). get bytes p) stack),
    ) refl

stack_word : (s t : Frame) (m l : List ℕ) (first count : ℕ) → s.stack ≡ t.stack → s.kept ≡ t.kept
    → or_number (number_from s m Stack first count) (kept_at s Stack first count)
    ≡ or_number (number_from t l Stack first count) (kept_at t Stack first count)
stack_word s t m l first count stack kept =
    rw (stack_number s t m l first count stack kept, ap (λ (k : FinMap nat_cmp Word). kept_in k first count) kept) refl
  where
    kept_in : FinMap nat_cmp Word → ℕ → ℕ → Option Word
    kept_in k first count = kept_at (record s { kept = k }) Stack first count

-- what two loads give: one number, or two large ones
abbrev LoadAlike : ℕ → Bool → Result ℕ TrapKind → Result ℕ TrapKind → Type 0
LoadAlike bound false r q = r ≡ q
LoadAlike bound true r q = (a : ℕ) × (b : ℕ) × (r ≡ Ok a) × (q ≡ Ok b) × IsLarge bound a × IsLarge bound b

-- a large word
word_loaded : (bound : Bound) (begun : List ℕ) (bytes : List Bool) (m l : List ℕ) (first : ℕ) → first ≡ 4 * (first / 4)
    → is_kept bound.kept (first / 4) ≡ false → all_marked bytes first 4 ≡ true
    → AreSimilarMemories bound begun bytes m l
    → LoadAlike bound.number true (number_at (slice_get m) first 4) (number_at (slice_get l) first 4)
word_loaded bound begun bytes m l first even seen all similar =
    let both = similar.large (first / 4) (subst (λ (k : ℕ). all_marked bytes k 4 ≡ true) even all) seen in
    let mine = both.0 in
    let theirs = both.1 in (
      mine.0,
      theirs.0,
      ap (λ (k : ℕ). number_at (slice_get m) k 4) even ∙ mine.1,
      ap (λ (k : ℕ). number_at (slice_get l) k 4) even ∙ theirs.1,
      mine.2,
      theirs.2,
    )

-- other bytes, none of which is marked
bytes_loaded : (bound : Bound) (begun : List ℕ) (bytes : List Bool) (m l : List ℕ) (first count : ℕ)
    → touches_marked bytes first count ≡ false → AreSimilarMemories bound begun bytes m l
    → number_at (slice_get m) first count ≡ number_at (slice_get l) first count
bytes_loaded bound begun bytes m l first count plain similar =
    number_same (slice_get m) (slice_get l) first count
    (λ p le lt. similar.plain p (untouched bytes first count p plain le lt))

-- what is loaded is put into a register
put_loaded : (bound : ℕ) (marks : List Bool) (s t : Frame) (dst : Reg) (b : Bool) (r q : Result ℕ TrapKind)
    → LoadAlike bound b r q → AreSimilarFrames bound marks s t
    → Alike (AreSimilarFrames bound (slice_set marks (register_number dst) b))
    ((r >>= λ n. Ok (Num n)) >>= λ word. Ok (with_register s dst word))
    ((q >>= λ n. Ok (Num n)) >>= λ word. Ok (with_register t dst word))
put_loaded bound marks s t dst false r q e similar =
    then_alike (r >>= λ n. Ok (Num n)) (q >>= λ n. Ok (Num n)) _ _
    (AreSimilarFrames bound (slice_set marks (register_number dst) false))
    (ap (λ (z : Result ℕ TrapKind). z >>= λ n. Ok (Num n)) e)
    (λ word _. put_frames bound marks s t dst false word word refl similar)
put_loaded bound marks s t dst true r q h similar =
    rw (h.2, h.3) (put_frames bound marks s t dst true (Num h.0) (Num h.1) (h.0, h.1, refl, refl, h.4, h.5) similar)

-- a load of memory
memory_loaded : (bound : Bound) (begun : List ℕ) (m next : Marks) (s t : Frame) (mine theirs : List ℕ)
    (dst : Reg) (first count : ℕ) → after_load bound.kept m dst first count ≡ Some next
    → AreSimilarFrames bound.number m.registers s t → AreSimilarMemories bound begun m.bytes mine theirs
    → Alike (AreSimilarFrames bound.number next.registers)
    ((number_at (slice_get mine) first count >>= λ n. Ok (Num n)) >>= λ word. Ok (with_register s dst word))
    ((number_at (slice_get theirs) first count >>= λ n. Ok (Num n)) >>= λ word. Ok (with_register t dst word))
    × (m.bytes ≡ next.bytes)
memory_loaded bound begun m next s t mine theirs dst first count marks frames memories =
    by (takes_large bound.kept m.bytes first count) refl marks
  where
    After : Marks → Type 0
    After n = Alike (AreSimilarFrames bound.number n.registers)
        ((number_at (slice_get mine) first count >>= λ n. Ok (Num n)) >>= λ word. Ok (with_register s dst word))
        ((number_at (slice_get theirs) first count >>= λ n. Ok (Num n)) >>= λ word. Ok (with_register t dst word))
        × (m.bytes ≡ n.bytes)

    by : (b : Bool) → takes_large bound.kept m.bytes first count ≡ b
        → cond b (Some (with_mark m dst true)) (if_plain (touches_marked m.bytes first count) (with_mark m dst false))
        ≡ Some next → After next
    by true e h =
        let at = large_taken bound.kept m.bytes first count e in
        let whole : all_marked m.bytes first 4 ≡ true =
        subst (λ (c : ℕ). all_marked m.bytes first c ≡ true) at.0 at.3 in
        let same : with_mark m dst true ≡ next = cc in
        subst After same (
          subst (λ (c : ℕ). Alike (AreSimilarFrames bound.number (with_mark m dst true).registers)
              ((number_at (slice_get mine) first c >>= λ n. Ok (Num n)) >>= λ word. Ok (with_register s dst word))
              ((number_at (slice_get theirs) first c >>= λ n. Ok (Num n)) >>= λ word. Ok (with_register t dst word)))
              (sym at.0)
              (put_loaded bound.number m.registers s t dst true _ _
              (word_loaded bound begun m.bytes mine theirs first at.1 at.2 whole memories) frames),
          refl,
        )
    by false e h =
        let plain = plain_marks (touches_marked m.bytes first count) (with_mark m dst false) next h in
        subst After plain.1 (
          put_loaded bound.number m.registers s t dst false _ _
              (bytes_loaded bound begun m.bytes mine theirs first count plain.0 memories) frames,
          refl,
        )

pub no_marks : (next : Marks) → None ≡ Some next → ⊥
no_marks next e = let no : None ≡ Some next = e in cc

pub some_same : (m next : Marks) → Some m ≡ Some next → m ≡ next
some_same m next e = cc

pub load_similar : (env : Setting) (inbox : FinMap nat_cmp ℕ) (bound : Bound) (begun : List ℕ) (m next : Marks)
    (size : Size) (dst base : Reg) (off : ℤ) (s t : Frame) (mine theirs : List ℕ)
    → (if register_marked m base then None
    else at_place (place_from env (word_of s base) off (access_bytes size))
    (λ first. after_load bound.kept m dst first (access_bytes size)) (Some (with_mark m dst false))) ≡ Some next
    → AreSimilarFrames bound.number m.registers s t → AreSimilarMemories bound begun m.bytes mine theirs
    → Alike (AreSimilarFrames bound.number next.registers) (load env size dst base off mine s)
    (load (with_inbox env inbox) size dst base off theirs t) × (m.bytes ≡ next.bytes)
load_similar env inbox bound begun m next size dst base off s t mine theirs marks frames memories =
    let plain = unless_marked (register_marked m base) _ next marks in
    by_word (word_of s base) (word_of t base) (word_same bound.number m.registers s t base frames plain.0) plain.1
  where
    count : ℕ
    count = access_bytes size

    After : Result Frame TrapKind → Result Frame TrapKind → Type 0
    After r q = Alike (AreSimilarFrames bound.number next.registers) r q × (m.bytes ≡ next.bytes)

    from : Result (Region × ℕ) TrapKind → Frame → List ℕ → Result Frame TrapKind
    from r f memory = writable dst >>= λ register.
        (r >>= λ at. or_number (number_from f memory at.0 at.1 count) (kept_at f at.0 at.1 count))
        >>= λ word. Ok (with_register f register word)

    by_place : (r : Result (Region × ℕ) TrapKind)
        → at_place r (λ first. after_load bound.kept m dst first count) (Some (with_mark m dst false)) ≡ Some next
        → After (from r s mine) (from r t theirs)
    by_place (Ok (Mem, first)) h =
        let both = memory_loaded bound begun m next s t mine theirs dst first count h frames memories in
        (then_written dst _ _ (AreSimilarFrames bound.number next.registers) both.0, both.1)
    by_place (Ok (Stack, first)) h =
        let same = some_same (with_mark m dst false) next h in (
          subst (λ (n : Marks). Alike (AreSimilarFrames bound.number n.registers) (from (Ok (Stack, first)) s mine)
              (from (Ok (Stack, first)) t theirs)) same
              (then_written dst _ _ (AreSimilarFrames bound.number (with_mark m dst false).registers)
              (then_alike (or_number (number_from s mine Stack first count) (kept_at s Stack first count))
              (or_number (number_from t theirs Stack first count) (kept_at t Stack first count)) _ _
              (AreSimilarFrames bound.number (with_mark m dst false).registers)
              (stack_word s t mine theirs first count frames.stack frames.kept)
              (λ word _. put_frames bound.number m.registers s t dst false word word refl frames))),
          ap (λ (n : Marks). n.bytes) same,
        )
    by_place (Err trap) h = absurd (no_marks next h)

    by_word : (r q : Result Word TrapKind) → r ≡ q
        → at_place (place_from env r off count) (λ first. after_load bound.kept m dst first count)
        (Some (with_mark m dst false)) ≡ Some next
        → After
        (r >>= λ x. writable dst >>= λ register. loaded_word env x off count mine s
        >>= λ word. Ok (with_register s register word))
        (q >>= λ x. writable dst >>= λ register. loaded_word (with_inbox env inbox) x off count theirs t
        >>= λ word. Ok (with_register t register word))
    by_word (Ok x) q e h =
        subst (λ (z : Result Word TrapKind). After (from (place env x off count) s mine)
        (z >>= λ y. writable dst >>= λ register. loaded_word (with_inbox env inbox) y off count theirs t
        >>= λ word. Ok (with_register t register word))) e
        (subst (λ (p : Result (Region × ℕ) TrapKind). After (from (place env x off count) s mine) (from p t theirs))
        (place_same env inbox x off count) (by_place (place env x off count) h))
    by_word (Err trap) q e h = absurd (no_marks next h)

-- ---- loads that extend the sign

pub load_extended_similar : (env : Setting) (inbox : FinMap nat_cmp ℕ) (bound : Bound) (begun : List ℕ)
    (m next : Marks) (size : SxSize) (dst base : Reg) (off : ℤ) (s t : Frame) (mine theirs : List ℕ)
    → (if register_marked m base then None
    else at_place (place_from env (word_of s base) off (sx_access_bytes size))
    (λ first. if_plain (touches_marked m.bytes first (sx_access_bytes size)) (with_mark m dst false))
    (Some (with_mark m dst false))) ≡ Some next
    → AreSimilarFrames bound.number m.registers s t → AreSimilarMemories bound begun m.bytes mine theirs
    → Alike (AreSimilarFrames bound.number next.registers) (load_extended env size dst base off mine s)
    (load_extended (with_inbox env inbox) size dst base off theirs t) × (m.bytes ≡ next.bytes)
load_extended_similar env inbox bound begun m next size dst base off s t mine theirs marks frames memories =
    let plain = unless_marked (register_marked m base) _ next marks in
    by_word (word_of s base) (word_of t base) (word_same bound.number m.registers s t base frames plain.0) plain.1
  where
    count : ℕ
    count = sx_access_bytes size

    After : Result Frame TrapKind → Result Frame TrapKind → Type 0
    After r q = Alike (AreSimilarFrames bound.number next.registers) r q × (m.bytes ≡ next.bytes)

    from : Result (Region × ℕ) TrapKind → Frame → List ℕ → Result Frame TrapKind
    from r f memory = writable dst >>= λ register.
        (r >>= λ at. number_from f memory at.0 at.1 count)
        >>= λ n. Ok (with_register f register (Num (movsx_result (sx_kind size) n)))

    put : (r q : Result ℕ TrapKind) → r ≡ q → with_mark m dst false ≡ next
        → After (writable dst >>= λ register. r
        >>= λ n. Ok (with_register s register (Num (movsx_result (sx_kind size) n))))
        (writable dst >>= λ register. q >>= λ n. Ok (with_register t register (Num (movsx_result (sx_kind size) n))))
    put r q e same = (
      subst (λ (n : Marks). Alike (AreSimilarFrames bound.number n.registers)
          (writable dst >>= λ register. r
          >>= λ n. Ok (with_register s register (Num (movsx_result (sx_kind size) n))))
          (writable dst >>= λ register. q >>= λ n. Ok (with_register t register (Num (movsx_result (sx_kind size) n)))))
          same
          (then_written dst _ _ (AreSimilarFrames bound.number (with_mark m dst false).registers)
          (then_alike r q _ _ (AreSimilarFrames bound.number (with_mark m dst false).registers) e
          (λ n _. put_frames bound.number m.registers s t dst false _ _ refl frames))),
      ap (λ (n : Marks). n.bytes) same,
    )

    by_place : (r : Result (Region × ℕ) TrapKind)
        → at_place r (λ first. if_plain (touches_marked m.bytes first count) (with_mark m dst false))
        (Some (with_mark m dst false)) ≡ Some next
        → After (from r s mine) (from r t theirs)
    by_place (Ok (Mem, first)) h =
        let plain = plain_marks (touches_marked m.bytes first count) (with_mark m dst false) next h in
        put _ _ (bytes_loaded bound begun m.bytes mine theirs first count plain.0 memories) plain.1
    by_place (Ok (Stack, first)) h =
        put _ _ (stack_number s t mine theirs first count frames.stack frames.kept)
        (some_same (with_mark m dst false) next h)
    by_place (Err trap) h = absurd (no_marks next h)

    by_word : (r q : Result Word TrapKind) → r ≡ q
        → at_place (place_from env r off count)
        (λ first. if_plain (touches_marked m.bytes first count) (with_mark m dst false)) (Some (with_mark m dst false))
        ≡ Some next
        → After
        (r >>= λ x. writable dst >>= λ register. loaded env x off count mine s
        >>= λ n. Ok (with_register s register (Num (movsx_result (sx_kind size) n))))
        (q >>= λ x. writable dst >>= λ register. loaded (with_inbox env inbox) x off count theirs t
        >>= λ n. Ok (with_register t register (Num (movsx_result (sx_kind size) n))))
    by_word (Ok x) q e h =
        subst (λ (z : Result Word TrapKind). After (from (place env x off count) s mine)
        (z >>= λ y. writable dst >>= λ register. loaded (with_inbox env inbox) y off count theirs t
        >>= λ n. Ok (with_register t register (Num (movsx_result (sx_kind size) n))))) e
        (subst (λ (p : Result (Region × ℕ) TrapKind). After (from (place env x off count) s mine) (from p t theirs))
        (place_same env inbox x off count) (by_place (place env x off count) h))
    by_word (Err trap) q e h = absurd (no_marks next h)

-- ---- stores

pub record AreSimilarBytes (bound : Bound) (begun : List ℕ) (m : Marks) (b c : Bytes) : Type 0 where
  pub frame : AreSimilarFrames bound.number m.registers b.frame c.frame
  pub memory : AreSimilarMemories bound begun m.bytes b.memory c.memory

-- a number is stored in memory
memory_stored : (bound : Bound) (begun : List ℕ) (m : Marks) (b c : Bytes) (first count n : ℕ)
    → AreSimilarBytes bound begun m b c
    → AreSimilarBytes bound begun (after_store m first count) (stored b Mem first count n) (stored c Mem first count n)
memory_stored bound begun m b c first count n similar = record {
  frame = similar.frame;
  memory = stored_similar bound begun m.bytes b.memory c.memory first count n similar.memory;
}

-- on the stack
stack_stored : (bound : Bound) (begun : List ℕ) (m : Marks) (b c : Bytes) (first count n : ℕ)
    → AreSimilarBytes bound begun m b c
    → AreSimilarBytes bound begun m (stored b Stack first count n) (stored c Stack first count n)
stack_stored bound begun m b c first count n similar = record {
  frame = record {
    wide = similar.frame.wide;
    slot = similar.frame.slot;
    registers = similar.frame.registers;
    stack = rw similar.frame.stack refl;
    kept = rw similar.frame.kept refl;
  };
  memory = similar.memory;
}

number_stored : (bound : Bound) (begun : List ℕ) (m next : Marks) (b c : Bytes) (r : Result (Region × ℕ) TrapKind)
    (count n : ℕ) → at_place r (λ first. Some (after_store m first count)) (Some m) ≡ Some next
    → AreSimilarBytes bound begun m b c
    → Alike (AreSimilarBytes bound begun next) (r >>= λ at. Ok (stored b at.0 at.1 count n))
    (r >>= λ at. Ok (stored c at.0 at.1 count n))
number_stored bound begun m next b c (Ok (Mem, first)) count n h similar =
    subst (λ (x : Marks). AreSimilarBytes bound begun x (stored b Mem first count n) (stored c Mem first count n))
    (some_same (after_store m first count) next h) (memory_stored bound begun m b c first count n similar)
number_stored bound begun m next b c (Ok (Stack, first)) count n h similar =
    subst (λ (x : Marks). AreSimilarBytes bound begun x (stored b Stack first count n) (stored c Stack first count n))
    (some_same m next h) (stack_stored bound begun m b c first count n similar)
number_stored bound begun m next b c (Err trap) count n h similar = absurd (no_marks next h)

store_similar : (env : Setting) (inbox : FinMap nat_cmp ℕ) (bound : Bound) (begun : List ℕ) (m next : Marks)
    (size : Size) (base : Word) (off : ℤ) (n : ℕ) (b c : Bytes)
    → at_place (place env base off (access_bytes size)) (λ first. Some (after_store m first (access_bytes size)))
    (Some m) ≡ Some next
    → AreSimilarBytes bound begun m b c
    → Alike (AreSimilarBytes bound begun next) (store env size base off n b)
    (store (with_inbox env inbox) size base off n c)
store_similar env inbox bound begun m next size base off n b c h similar =
    subst (λ (r : Result (Region × ℕ) TrapKind). Alike (AreSimilarBytes bound begun next) (store env size base off n b)
    (r >>= λ at. Ok (stored c at.0 at.1 (access_bytes size) n)))
    (place_same env inbox base off (access_bytes size))
    (number_stored bound begun m next b c (place env base off (access_bytes size)) (access_bytes size) n h similar)

kept_similar : (bound : ℕ) (marks : List Bool) (first : ℕ) (pointer : Word) (s t : Frame)
    → AreSimilarFrames bound marks s t
    → AreSimilarFrames bound marks (kept_frame s first pointer) (kept_frame t first pointer)
kept_similar bound marks first pointer s t similar = record {
  wide = similar.wide;
  slot = similar.slot;
  registers = similar.registers;
  stack = rw similar.stack refl;
  kept = rw similar.kept refl;
}

tested_alike : {A : Type 0} (b : Bool) (r q : Result A TrapKind) (trap : TrapKind) (P : A → A → Type 0) → Alike P r q
    → Alike P (cond b r (Err trap)) (cond b q (Err trap))
tested_alike true r q trap P h = h
tested_alike false r q trap P h = refl

-- a pointer is kept on the stack alone
pointer_stored : (env : Setting) (bound : Bound) (begun : List ℕ) (m next : Marks) (base : Word) (off : ℤ) (count : ℕ)
    (pointer : Word) (b c : Bytes)
    → at_place (place env base off count) (λ first. Some (after_store m first count)) (Some m) ≡ Some next
    → AreSimilarBytes bound begun m b c
    → Alike (AreSimilarBytes bound begun next)
    (keep base off count pointer b.frame >>= λ frame. Ok (record b { frame = frame }))
    (keep base off count pointer c.frame >>= λ frame. Ok (record c { frame = frame }))
pointer_stored env bound begun m next (Num n) off count pointer b c h similar = refl
pointer_stored env bound begun m next (Ptr Mem offset) off count pointer b c h similar = refl
pointer_stored env bound begun m next (Ptr Stack offset) off count pointer b c h similar =
    subst (λ (x : Marks). Alike (AreSimilarBytes bound begun x)
    (keep (Ptr Stack offset) off count pointer b.frame >>= λ frame. Ok (record b { frame = frame }))
    (keep (Ptr Stack offset) off count pointer c.frame >>= λ frame. Ok (record c { frame = frame })))
    (unmoved (inside STACK_BYTES (pos offset +ℤ off) count) h)
    (after_alike (keep (Ptr Stack offset) off count pointer b.frame) (keep (Ptr Stack offset) off count pointer c.frame)
    _ _ (AreSimilarFrames bound.number m.registers) (AreSimilarBytes bound begun m)
    (tested_alike (count == 8 && is_aligned (pos offset +ℤ off)) (keep_inside (pos offset +ℤ off) count pointer b.frame)
    (keep_inside (pos offset +ℤ off) count pointer c.frame) NotNumber (AreSimilarFrames bound.number m.registers)
    (then_alike (inside STACK_BYTES (pos offset +ℤ off) count) (inside STACK_BYTES (pos offset +ℤ off) count)
    (λ first. Ok (kept_frame b.frame first pointer)) (λ first. Ok (kept_frame c.frame first pointer))
    (AreSimilarFrames bound.number m.registers) refl
    (λ first _. kept_similar bound.number m.registers first pointer b.frame c.frame similar.frame)))
    (λ s t frames. record { frame = frames; memory = similar.memory }))
  where
    unmoved : (r : Result ℕ TrapKind)
        → at_place (r >>= λ first. Ok (Stack, first)) (λ first. Some (after_store m first count)) (Some m)
        ≡ Some next → m ≡ next
    unmoved (Ok first) e = some_same m next e
    unmoved (Err trap) e = absurd (no_marks next e)

store_word_similar : (env : Setting) (inbox : FinMap nat_cmp ℕ) (bound : Bound) (begun : List ℕ) (m next : Marks)
    (size : Size) (base : Word) (off : ℤ) (value : Word) (b c : Bytes)
    → at_place (place env base off (access_bytes size)) (λ first. Some (after_store m first (access_bytes size)))
    (Some m) ≡ Some next
    → AreSimilarBytes bound begun m b c
    → Alike (AreSimilarBytes bound begun next) (store_word env size base off value b)
    (store_word (with_inbox env inbox) size base off value c)
store_word_similar env inbox bound begun m next size base off (Num n) b c h similar =
    store_similar env inbox bound begun m next size base off n b c h similar
store_word_similar env inbox bound begun m next size base off (Ptr region offset) b c h similar =
    pointer_stored env bound begun m next base off (access_bytes size) (Ptr region offset) b c h similar

-- stores by a base that isn't marked
by_base : (env : Setting) (bound : Bound) (begun : List ℕ) (m next : Marks) (base : Reg) (off : ℤ) (count : ℕ)
    (b c : Bytes) (f g : Word → Result Bytes TrapKind) → register_marked m base ≡ false
    → at_place (place_from env (word_of b.frame base) off count) (λ first. Some (after_store m first count))
    (Some m) ≡ Some next
    → AreSimilarBytes bound begun m b c
    → ((x : Word) → at_place (place env x off count) (λ first. Some (after_store m first count)) (Some m)
    ≡ Some next
    → Alike (AreSimilarBytes bound begun next) (f x) (g x))
    → Alike (AreSimilarBytes bound begun next) (word_of b.frame base >>= f) (word_of c.frame base >>= g)
by_base env bound begun m next base off count b c f g plain h similar each =
    then_alike (word_of b.frame base) (word_of c.frame base) f g (AreSimilarBytes bound begun next)
    (word_same bound.number m.registers b.frame c.frame base similar.frame plain)
    (λ x read. each x (subst (λ (r : Result Word TrapKind).
    at_place (place_from env r off count) (λ first. Some (after_store m first count)) (Some m) ≡ Some next) read h))

pub store_register_similar : (env : Setting) (inbox : FinMap nat_cmp ℕ) (bound : Bound) (begun : List ℕ)
    (m next : Marks) (size : Size) (base : Reg) (off : ℤ) (src : Reg) (b c : Bytes)
    → (if register_marked m base || register_marked m src then None
    else at_place (place_from env (word_of b.frame base) off (access_bytes size))
    (λ first. Some (after_store m first (access_bytes size))) (Some m)) ≡ Some next
    → AreSimilarBytes bound begun m b c
    → Alike (AreSimilarBytes bound begun next) (store_register env size base off src b)
    (store_register (with_inbox env inbox) size base off src c)
store_register_similar env inbox bound begun m next size base off src b c marks similar =
    let plain = unless_marked (register_marked m base || register_marked m src) _ next marks in
    let parts = or_parts (register_marked m base) (register_marked m src) plain.0 in
    by_base env bound begun m next base off (access_bytes size) b c _ _ parts.0 plain.1 similar (λ x h.
    then_alike (word_of b.frame src) (word_of c.frame src) _ _ (AreSimilarBytes bound begun next)
    (word_same bound.number m.registers b.frame c.frame src similar.frame parts.1)
    (λ value _. store_word_similar env inbox bound begun m next size x off value b c h similar))

pub store_immediate_similar : (env : Setting) (inbox : FinMap nat_cmp ℕ) (bound : Bound) (begun : List ℕ)
    (m next : Marks) (size : Size) (base : Reg) (off imm : ℤ) (b c : Bytes)
    → (if register_marked m base then None
    else at_place (place_from env (word_of b.frame base) off (access_bytes size))
    (λ first. Some (after_store m first (access_bytes size))) (Some m)) ≡ Some next
    → AreSimilarBytes bound begun m b c
    → Alike (AreSimilarBytes bound begun next) (store_immediate env size base off imm b)
    (store_immediate (with_inbox env inbox) size base off imm c)
store_immediate_similar env inbox bound begun m next size base off imm b c marks similar =
    let plain = unless_marked (register_marked m base) _ next marks in
    by_base env bound begun m next base off (access_bytes size) b c _ _ plain.0 plain.1 similar
    (λ x h. store_similar env inbox bound begun m next size x off (cast_unsigned w64 imm) b c h similar)
