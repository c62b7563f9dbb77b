-- What each part of a step does to two frames that differ in marked numbers alone.
use Rattle.std.proofs.Common.{◌≡◌, ℕ, ◌<◌, ◌≤◌, ◌%◌, ◌^◌, Bool, true, false, List, Option, Some, Result, Ok, Err, ◌||◌, if◌then◌else◌, not, ℤ, refl, sym, ◌∙◌, subst, ap, arith}
use Rattle.std.specs.Prelude.{slice_set}
use Rattle.std.specs.Ordering.{nat_cmp}
use Rattle.std.specs.FinMap.{FinMap}
use Rattle.std.proofs.lemmas.Bool.{ne_eqb, or_parts, lt-ltb, le-ltb, lt-leb, le-leb, leb-true, ltb-true, true≢false}
use Rattle.std.proofs.lemmas.List.{length-set}
use Rattle.std.proofs.Math.Nat.{mod-eq_of_lt}
use Rattle.node_env.specs.Env.{Setting}
use Rattle.bpf_insn.specs.declared.forms.Reg.{Reg}
use Rattle.bpf_insn.specs.declared.forms.Reg.TheVariants as reg
use Rattle.bpf_insn.specs.declared.forms.Width.{Width}
use Rattle.bpf_insn.specs.declared.forms.Width.TheVariants.{W32, W64}
use Rattle.bpf_insn.specs.declared.forms.Cond.{Cond}
use Rattle.bpf_insn.specs.declared.forms.Cond.TheVariants as conds
use Rattle.bpf_insn.specs.declared.forms.AluOp.{AluOp}
use Rattle.bpf_insn.specs.declared.forms.AluOp.TheVariants.{Add, Sub, Mul, Div, Sdiv, Or, And, Lsh, Rsh, Mod, Smod, Xor, Mov, Arsh}
use Rattle.bpf_insn.specs.declared.forms.Operand.{Operand}
use Rattle.bpf_insn.specs.declared.forms.Operand.TheVariants as operand
use Rattle.bpf_insn.specs.declared.forms.Insn.TheVariants as i
use Rattle.bpf_insn.specs.declared.edges.Way.{Way}
use Rattle.bpf_insn.specs.declared.edges.Way.TheVariants.{Onward, Jumping}
use Rattle.bpf_insn.specs.Arithmetic.{alu_result, bits_of, compares, holds}
use Rattle.bpf_insn.specs.Registers.{register_number}
use Rattle.bpf_machine.specs.declared.word.Word.{Word}
use Rattle.bpf_machine.specs.declared.word.Word.TheVariants.{Num, Ptr}
use Rattle.bpf_machine.specs.declared.word.TrapKind.{TrapKind}
use Rattle.bpf_machine.specs.declared.word.TrapKind.TheVariants.{NotNumber, Unset}
use Rattle.bpf_machine.specs.Machine.{Frame}
use Rattle.bpf_machine.specs.Step.{◌>>=◌, alu_word, change, difference_of, load_immediate, move, moved_word, needed, number_in, operand_of, operate, sum_of, way_of, with_register, word_of, writable}
use Rattle.bpf_run.proofs.Alike.{Alike, then_alike, then_written}
use Rattle.bounded_runs.specs.declared.marks.Marks.{Marks}
use Rattle.bounded_runs.specs.inner.Marks.{comparison_decided, decides_left, decides_right, is_decided, has_mark, operand_marked, register_marked}
use Rattle.bounded_runs.specs.inner.Similar.{AreSimilarFrames, HoldAlike, IsLarge}
use Rattle.bounded_runs.proofs.Similar.{put_similar, word_same}

-- a node that sees other messages
abbrev pub with_inbox : Setting → FinMap nat_cmp ℕ → Setting
with_inbox env inbox = record env { inbox = inbox }

-- ---- words

pub register_few : (r : Reg) → register_number r < 11
register_few reg.R0 = omega arith
register_few reg.R1 = omega arith
register_few reg.R2 = omega arith
register_few reg.R3 = omega arith
register_few reg.R4 = omega arith
register_few reg.R5 = omega arith
register_few reg.R6 = omega arith
register_few reg.R7 = omega arith
register_few reg.R8 = omega arith
register_few reg.R9 = omega arith
register_few reg.R10 = omega arith

-- both read one word; if it is marked, two large numbers
abbrev pub ReadAlike : ℕ → Bool → Result Word TrapKind → Result Word TrapKind → Type 0
ReadAlike bound false r q = r ≡ q
ReadAlike bound true r q = (a : ℕ) × (b : ℕ) × (r ≡ Ok (Num a)) × (q ≡ Ok (Num b)) × IsLarge bound a × IsLarge bound b

read_alike : (bound : ℕ) (b : Bool) (o p : Option Word) → HoldAlike bound b o p
    → ReadAlike bound b (needed Unset o) (needed Unset p)
read_alike bound false o p e = ap (needed Unset) e
read_alike bound true o p h = (h.0, h.1, ap (needed Unset) h.2, ap (needed Unset) h.3, h.4, h.5)

pub word_alike : (bound : ℕ) (marks : List Bool) (s t : Frame) (register : Reg) → AreSimilarFrames bound marks s t
    → ReadAlike bound (has_mark marks (register_number register)) (word_of s register) (word_of t register)
word_alike bound marks s t register similar =
    read_alike bound (has_mark marks (register_number register)) _ _ (similar.registers (register_number register))

pub operand_alike : (bound : ℕ) (m : Marks) (s t : Frame) (src : Operand) → AreSimilarFrames bound m.registers s t
    → ReadAlike bound (operand_marked m src) (operand_of s src) (operand_of t src)
operand_alike bound m s t (operand.Imm imm) similar = refl
operand_alike bound m s t (operand.Reg register) similar = word_alike bound m.registers s t register similar

pub operand_same : (bound : ℕ) (m : Marks) (s t : Frame) (src : Operand) → AreSimilarFrames bound m.registers s t
    → operand_marked m src ≡ false → operand_of s src ≡ operand_of t src
operand_same bound m s t src similar plain =
    subst (λ (b : Bool). ReadAlike bound b (operand_of s src) (operand_of t src)) plain
    (operand_alike bound m s t src similar)

-- a register is written in both
pub put_frames : (bound : ℕ) (marks : List Bool) (s t : Frame) (register : Reg) (b : Bool) (w v : Word)
    → HoldAlike bound b (Some w) (Some v) → AreSimilarFrames bound marks s t
    → AreSimilarFrames bound (slice_set marks (register_number register) b) (with_register s register w)
    (with_register t register v)
put_frames bound marks s t register b w v alike similar = record {
  wide = length-set marks (register_number register) b ∙ similar.wide;
  slot = similar.slot;
  registers = put_similar bound marks s.registers t.registers (register_number register) b w v
      (let few = register_few register in omega (arith, few, similar.wide)) alike similar.registers;
  stack = similar.stack;
  kept = similar.kept;
}

-- ---- moves

large_moved : (a : ℕ) → a < 2 ^ 32 → alu_result Mov W32 0 a ≡ a
large_moved a lt =
    ap (λ (n : ℕ). n % 2 ^ 32) (mod-eq_of_lt lt) ∙ mod-eq_of_lt lt

still_large : (bound a b : ℕ) → b ≡ a → IsLarge bound a → IsLarge bound b
still_large bound a b same large = subst (IsLarge bound) (sym same) large

moved_large : (bound : ℕ) (marks : List Bool) (width : Width) (s t : Frame) (register : Reg) (a b : ℕ)
    → IsLarge bound a → IsLarge bound b → AreSimilarFrames bound marks s t
    → Alike (AreSimilarFrames bound (slice_set marks (register_number register) true))
    (moved_word width (Num a) >>= λ word. Ok (with_register s register word))
    (moved_word width (Num b) >>= λ word. Ok (with_register t register word))
moved_large bound marks W64 s t register a b la lb similar =
    put_frames bound marks s t register true (Num a) (Num b) (a, b, refl, refl, la, lb) similar
moved_large bound marks W32 s t register a b la lb similar =
    let c = alu_result Mov W32 0 a in
    let d = alu_result Mov W32 0 b in
    put_frames bound marks s t register true (Num c) (Num d)
    (c, d, refl, refl, still_large bound a c (large_moved a la.1) la, still_large bound b d (large_moved b lb.1) lb)
    similar

pub move_similar : (bound : ℕ) (m : Marks) (width : Width) (dst : Reg) (src : Operand) (s t : Frame)
    → AreSimilarFrames bound m.registers s t
    → Alike (AreSimilarFrames bound (slice_set m.registers (register_number dst) (operand_marked m src)))
    (move width dst src s) (move width dst src t)
move_similar bound m width dst src s t similar =
    by (operand_marked m src) (operand_of s src) (operand_of t src) (operand_alike bound m s t src similar)
  where
    After : Bool → Frame → Frame → Type 0
    After b = AreSimilarFrames bound (slice_set m.registers (register_number dst) b)

    by : (b : Bool) (r q : Result Word TrapKind) → ReadAlike bound b r q
        → Alike (After b)
        (r >>= λ x. writable dst >>= λ register. moved_word width x >>= λ word. Ok (with_register s register word))
        (q >>= λ x. writable dst >>= λ register. moved_word width x >>= λ word. Ok (with_register t register word))
    by false r q e =
        then_alike r q _ _ (After false) e (λ x _.
        then_written dst _ _ (After false)
        (then_alike (moved_word width x) (moved_word width x) _ _ (After false) refl
        (λ word _. put_frames bound m.registers s t dst false word word refl similar)))
    by true r q h =
        rw (h.2, h.3)
        (then_written dst _ _ (After true)
        (moved_large bound m.registers width s t dst h.0 h.1 h.4 h.5 similar))

-- ---- arithmetic

sum_same : (env : Setting) (inbox : FinMap nat_cmp ℕ) (a b : Word)
    → sum_of env a b ≡ sum_of (with_inbox env inbox) a b
sum_same env inbox (Ptr region offset) (Num n) = refl
sum_same env inbox (Num n) (Ptr region offset) = refl
sum_same env inbox (Num m) (Num n) = refl
sum_same env inbox (Ptr region offset) (Ptr other place) = refl

difference_same : (env : Setting) (inbox : FinMap nat_cmp ℕ) (a b : Word)
    → difference_of env a b ≡ difference_of (with_inbox env inbox) a b
difference_same env inbox (Ptr region offset) (Num n) = refl
difference_same env inbox (Num m) (Num n) = refl
difference_same env inbox (Num n) (Ptr region offset) = refl
difference_same env inbox (Ptr region offset) (Ptr other place) = refl

alu_same : (env : Setting) (inbox : FinMap nat_cmp ℕ) (op : AluOp) (width : Width) (a b : Word)
    → alu_word env op width a b ≡ alu_word (with_inbox env inbox) op width a b
alu_same env inbox Add W32 a b = refl
alu_same env inbox Add W64 a b = sum_same env inbox a b
alu_same env inbox Sub W32 a b = refl
alu_same env inbox Sub W64 a b = difference_same env inbox a b
alu_same env inbox Mul width a b = refl
alu_same env inbox Div width a b = refl
alu_same env inbox Sdiv width a b = refl
alu_same env inbox Or width a b = refl
alu_same env inbox And width a b = refl
alu_same env inbox Lsh width a b = refl
alu_same env inbox Rsh width a b = refl
alu_same env inbox Mod width a b = refl
alu_same env inbox Smod width a b = refl
alu_same env inbox Xor width a b = refl
alu_same env inbox Mov width a b = refl
alu_same env inbox Arsh width a b = refl

pub operate_similar : (env : Setting) (inbox : FinMap nat_cmp ℕ) (bound : ℕ) (m : Marks) (op : AluOp) (width : Width)
    (dst : Reg) (src : Operand) (s t : Frame) → (register_marked m dst || operand_marked m src) ≡ false
    → AreSimilarFrames bound m.registers s t
    → Alike (AreSimilarFrames bound (slice_set m.registers (register_number dst) false))
    (operate env op width dst src s) (operate (with_inbox env inbox) op width dst src t)
operate_similar env inbox bound m op width dst src s t plain similar =
    let After = AreSimilarFrames bound (slice_set m.registers (register_number dst) false) in
    let parts = or_parts (register_marked m dst) (operand_marked m src) plain in
    then_alike (word_of s dst) (word_of t dst) _ _ After (word_same bound m.registers s t dst similar parts.0) (λ x _.
    then_alike (operand_of s src) (operand_of t src) _ _ After (operand_same bound m s t src similar parts.1) (λ y _.
    then_written dst _ _ After
    (then_alike (alu_word env op width x y) (alu_word (with_inbox env inbox) op width x y) _ _ After
    (alu_same env inbox op width x y)
    (λ word _. put_frames bound m.registers s t dst false word word refl similar))))

pub change_similar : (bound : ℕ) (m : Marks) (result : ℕ → ℕ) (dst src : Reg) (s t : Frame)
    → register_marked m src ≡ false → AreSimilarFrames bound m.registers s t
    → Alike (AreSimilarFrames bound (slice_set m.registers (register_number dst) false)) (change result dst src s)
    (change result dst src t)
change_similar bound m result dst src s t plain similar =
    let After = AreSimilarFrames bound (slice_set m.registers (register_number dst) false) in
    then_alike (word_of s src) (word_of t src) _ _ After (word_same bound m.registers s t src similar plain) (λ x _.
    then_written dst _ _ After
    (then_alike (number_in NotNumber x) (number_in NotNumber x) _ _ After refl
    (λ n _. put_frames bound m.registers s t dst false (Num (result n)) (Num (result n)) refl similar)))

pub immediate_similar : (bound : ℕ) (m : Marks) (dst : Reg) (value : ℕ) (s t : Frame)
    → AreSimilarFrames bound m.registers s t
    → Alike (AreSimilarFrames bound (slice_set m.registers (register_number dst) false)) (load_immediate dst value s)
    (load_immediate dst value t)
immediate_similar bound m dst value s t similar =
    then_written dst _ _ (AreSimilarFrames bound (slice_set m.registers (register_number dst) false))
    (put_frames bound m.registers s t dst false (Num value) (Num value) refl similar)

-- ---- comparisons

compares_left : (bound bits a b y : ℕ) (op : Cond) → IsLarge bound a → IsLarge bound b
    → decides_left bound op y ≡ true → compares op bits a y ≡ compares op bits b y
compares_left bound bits a b y conds.Eq la lb h =
    let lt : y < bound = ltb-true y bound h in
    ne_eqb a y (λ e. absurd (omega (arith, e, lt, la.0))) ∙ sym (ne_eqb b y (λ e. absurd (omega (arith, e, lt, lb.0))))
compares_left bound bits a b y conds.Ne la lb h =
    let lt : y < bound = ltb-true y bound h in
    ap not (ne_eqb a y (λ e. absurd (omega (arith, e, lt, la.0)))
    ∙ sym (ne_eqb b y (λ e. absurd (omega (arith, e, lt, lb.0)))))
compares_left bound bits a b y conds.Gt la lb h =
    let lt : y < bound = ltb-true y bound h in
    lt-ltb y a (omega (arith, lt, la.0)) ∙ sym (lt-ltb y b (omega (arith, lt, lb.0)))
compares_left bound bits a b y conds.Le la lb h =
    let lt : y < bound = ltb-true y bound h in
    lt-leb a y (omega (arith, lt, la.0)) ∙ sym (lt-leb b y (omega (arith, lt, lb.0)))
compares_left bound bits a b y conds.Ge la lb h =
    let le : y ≤ bound = leb-true y bound h in
    le-leb y a (omega (arith, le, la.0)) ∙ sym (le-leb y b (omega (arith, le, lb.0)))
compares_left bound bits a b y conds.Lt la lb h =
    let le : y ≤ bound = leb-true y bound h in
    le-ltb a y (omega (arith, le, la.0)) ∙ sym (le-ltb b y (omega (arith, le, lb.0)))
compares_left bound bits a b y conds.Set la lb h = absurd (true≢false (sym h))
compares_left bound bits a b y conds.Sgt la lb h = absurd (true≢false (sym h))
compares_left bound bits a b y conds.Sge la lb h = absurd (true≢false (sym h))
compares_left bound bits a b y conds.Slt la lb h = absurd (true≢false (sym h))
compares_left bound bits a b y conds.Sle la lb h = absurd (true≢false (sym h))

compares_right : (bound bits a b y : ℕ) (op : Cond) → IsLarge bound a → IsLarge bound b
    → decides_right bound op y ≡ true → compares op bits y a ≡ compares op bits y b
compares_right bound bits a b y conds.Eq la lb h =
    let lt : y < bound = ltb-true y bound h in
    ne_eqb y a (λ e. absurd (omega (arith, e, lt, la.0))) ∙ sym (ne_eqb y b (λ e. absurd (omega (arith, e, lt, lb.0))))
compares_right bound bits a b y conds.Ne la lb h =
    let lt : y < bound = ltb-true y bound h in
    ap not (ne_eqb y a (λ e. absurd (omega (arith, e, lt, la.0)))
    ∙ sym (ne_eqb y b (λ e. absurd (omega (arith, e, lt, lb.0)))))
compares_right bound bits a b y conds.Lt la lb h =
    let lt : y < bound = ltb-true y bound h in
    lt-ltb y a (omega (arith, lt, la.0)) ∙ sym (lt-ltb y b (omega (arith, lt, lb.0)))
compares_right bound bits a b y conds.Ge la lb h =
    let lt : y < bound = ltb-true y bound h in
    lt-leb a y (omega (arith, lt, la.0)) ∙ sym (lt-leb b y (omega (arith, lt, lb.0)))
compares_right bound bits a b y conds.Le la lb h =
    let le : y ≤ bound = leb-true y bound h in
    le-leb y a (omega (arith, le, la.0)) ∙ sym (le-leb y b (omega (arith, le, lb.0)))
compares_right bound bits a b y conds.Gt la lb h =
    let le : y ≤ bound = leb-true y bound h in
    le-ltb a y (omega (arith, le, la.0)) ∙ sym (le-ltb b y (omega (arith, le, lb.0)))
compares_right bound bits a b y conds.Set la lb h = absurd (true≢false (sym h))
compares_right bound bits a b y conds.Sgt la lb h = absurd (true≢false (sym h))
compares_right bound bits a b y conds.Sge la lb h = absurd (true≢false (sym h))
compares_right bound bits a b y conds.Slt la lb h = absurd (true≢false (sym h))
compares_right bound bits a b y conds.Sle la lb h = absurd (true≢false (sym h))

-- the low bits of a large number are all of it
low_large : (width : Width) (a : ℕ) → a < 2 ^ 32 → a % 2 ^ bits_of width ≡ a
low_large W32 a lt = mod-eq_of_lt lt
low_large W64 a lt = mod-eq_of_lt (omega (arith, lt))

holds_left : (bound a b y : ℕ) (op : Cond) (width : Width) → IsLarge bound a → IsLarge bound b
    → decides_left bound op (y % 2 ^ bits_of width) ≡ true → holds op width a y ≡ holds op width b y
holds_left bound a b y op width la lb h =
    rw (low_large width a la.1, low_large width b lb.1)
    (compares_left bound (bits_of width) a b (y % 2 ^ bits_of width) op la lb h)

holds_right : (bound a b y : ℕ) (op : Cond) (width : Width) → IsLarge bound a → IsLarge bound b
    → decides_right bound op (y % 2 ^ bits_of width) ≡ true → holds op width y a ≡ holds op width y b
holds_right bound a b y op width la lb h =
    rw (low_large width a la.1, low_large width b lb.1)
    (compares_right bound (bits_of width) a b (y % 2 ^ bits_of width) op la lb h)

-- the number that a comparison is decided by
decided_number : (decides : ℕ → Bool) (width : Width) (r : Result Word TrapKind) → is_decided decides width r ≡ true
    → (y : ℕ) × (r ≡ Ok (Num y)) × (decides (y % 2 ^ bits_of width) ≡ true)
decided_number decides width (Ok (Num y)) h = (y, refl, h)
decided_number decides width (Ok (Ptr region offset)) h = absurd (true≢false (sym h))
decided_number decides width (Err trap) h = absurd (true≢false (sym h))

-- the edge that a comparison of two words takes
abbrev edge_of : Cond → Width → Result Word TrapKind → Result Word TrapKind → Result Way TrapKind
edge_of op width r u = do
  a ← r
  b ← u
  x ← number_in NotNumber a
  y ← number_in NotNumber b
  Ok (if holds op width x y then Jumping else Onward)

abbrev edge_when : Bool → Result Way TrapKind
edge_when b = Ok (if b then Jumping else Onward)

edge_same : (b c : Bool) → b ≡ c → edge_when b ≡ edge_when c
edge_same b c same = ap edge_when same

-- both take one edge
pub edge_similar : (bound : ℕ) (m : Marks) (op : Cond) (width : Width) (dst : Reg) (src : Operand) (off : ℤ)
    (s t : Frame)
    → comparison_decided (register_marked m dst) (operand_marked m src) bound op width (word_of s dst)
    (operand_of s src) ≡ true
    → AreSimilarFrames bound m.registers s t
    → way_of s (i.Branch op width dst src off) ≡ way_of t (i.Branch op width dst src off)
edge_similar bound m op width dst src off s t decided similar =
    by (register_marked m dst) (operand_marked m src) (word_of s dst) (word_of t dst) (operand_of s src)
    (operand_of t src) (word_alike bound m.registers s t dst similar) (operand_alike bound m s t src similar) decided
  where
    by : (b c : Bool) (r q u v : Result Word TrapKind) → ReadAlike bound b r q → ReadAlike bound c u v
        → comparison_decided b c bound op width r u ≡ true → edge_of op width r u ≡ edge_of op width q v
    by false false r q u v first second h = rw (first, second) refl
    by true false r q u v first second h =
        let number = decided_number (decides_left bound op) width u h in
        rw (first.2, first.3, sym second, number.1)
        (edge_same (holds op width first.0 number.0) (holds op width first.1 number.0)
        (holds_left bound first.0 first.1 number.0 op width first.4 first.5 number.2))
    by false true r q u v first second h =
        let number = decided_number (decides_right bound op) width r h in
        rw (second.2, second.3, sym first, number.1)
        (edge_same (holds op width number.0 second.0) (holds op width number.0 second.1)
        (holds_right bound second.0 second.1 number.0 op width second.4 second.5 number.2))
    by true true r q u v first second h = absurd (true≢false (sym h))
