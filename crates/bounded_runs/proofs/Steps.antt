-- One step of two states that differ in marked numbers alone.
use Rattle.std.proofs.Common.{◌≡◌, ℕ, Bool, true, false, List, Option, Some, None, Result, Ok, not, ℤ, refl, sym, subst, ap}
use Rattle.std.specs.Ordering.{nat_cmp}
use Rattle.std.specs.FinMap.{FinMap}
use Rattle.std.proofs.lemmas.Bool.{true≢false}
use Rattle.node_env.specs.declared.helper.Helper.{Helper}
use Rattle.node_env.specs.declared.helper.Helper.TheVariants.{Id, Recv, Send, Coin}
use Rattle.node_env.specs.Env.{Setting}
use Rattle.node_env.specs.Helpers.{helper_of}
use Rattle.bpf_insn.specs.declared.forms.Reg.{Reg}
use Rattle.bpf_insn.specs.declared.forms.Width.{Width}
use Rattle.bpf_insn.specs.declared.forms.AluOp.{AluOp}
use Rattle.bpf_insn.specs.declared.forms.AluOp.TheVariants.{Add, Sub, Mul, Div, Sdiv, Or, And, Lsh, Rsh, Mod, Smod, Xor, Mov, Arsh}
use Rattle.bpf_insn.specs.declared.forms.Operand.{Operand}
use Rattle.bpf_insn.specs.declared.forms.Insn.{Insn}
use Rattle.bpf_insn.specs.declared.forms.Insn.TheVariants as i
use Rattle.bpf_insn.specs.Programs.{insn_at}
use Rattle.bpf_insn.specs.Arithmetic.{neg_result, movsx_result, swap_result}
use Rattle.bpf_insn.specs.Operands.{is_exit}
use Rattle.bpf_machine.specs.declared.word.TrapKind.{TrapKind}
use Rattle.bpf_machine.specs.Machine.{Frame, MachineState, Phase, Running, Ended}
use Rattle.bpf_machine.specs.Step.{◌>>=◌, Bytes, Calls, advance, alu, bytes_of, calls_of, effect, execute_at, load_immediate, next_slot, step, way_of}
use Rattle.bpf_run.proofs.Alike.{Alike, after_alike, then_alike, then_equal}
use Rattle.bounded_runs.specs.declared.marks.Marks.{Marks}
use Rattle.bounded_runs.specs.Bounded.{Bound}
use Rattle.bounded_runs.specs.inner.Marks.{after_helper, if_plain, marks_after, operand_marked, with_answer, with_mark}
use Rattle.bounded_runs.specs.inner.Similar.{AreSimilar, AreSimilarFrames}
use Rattle.bounded_runs.proofs.Parts.{change_similar, edge_similar, immediate_similar, move_similar, operate_similar, with_inbox}
use Rattle.bounded_runs.proofs.Calls.{AreHeard, AreSimilarCalls, call_similar, plain_marks}
use Rattle.bounded_runs.proofs.Accesses.{AreSimilarBytes, load_extended_similar, load_similar, no_marks, some_same, store_immediate_similar, store_register_similar}

-- ---- effects

-- of frames, where the bytes of memory keep their marks
abbrev FramesAfter : ℕ → Marks → Marks → Result Frame TrapKind → Result Frame TrapKind → Type 0
FramesAfter bound m next r q = Alike (AreSimilarFrames bound next.registers) r q × (m.bytes ≡ next.bytes)

on_frames : (bound : Bound) (begun : List ℕ) (m next : Marks) (s t : MachineState) (r q : Result Frame TrapKind)
    → AreSimilar bound begun m s t → FramesAfter bound.number m next r q
    → Alike (AreSimilar bound begun next) (r >>= λ frame. Ok (record s { frame = frame }))
    (q >>= λ frame. Ok (record t { frame = frame }))
on_frames bound begun m next s t r q similar h =
    after_alike r q _ _ (AreSimilarFrames bound.number next.registers) (AreSimilar bound begun next) h.0
    (λ x y frames. record { frame = frames; memory = rw (sym h.1) similar.memory; sent = similar.sent })

-- with the marks that an instruction leaves if nothing marked is read
if_plainly : (bound : ℕ) (m next : Marks) (b : Bool) (dst : Reg) (r q : Result Frame TrapKind)
    → if_plain b (with_mark m dst false) ≡ Some next
    → (b ≡ false → Alike (AreSimilarFrames bound (with_mark m dst false).registers) r q) → FramesAfter bound m next r q
if_plainly bound m next b dst r q marks h =
    let plain = plain_marks b (with_mark m dst false) next marks in (
      subst (λ (x : Marks). Alike (AreSimilarFrames bound x.registers) r q) plain.1 (h plain.0),
      ap (λ (x : Marks). x.bytes) plain.1,
    )

alu_similar : (env : Setting) (inbox : FinMap nat_cmp ℕ) (bound : Bound) (m next : Marks) (op : AluOp) (width : Width)
    (dst : Reg) (src : Operand) (s t : Frame) → marks_after bound env s (i.Alu op width dst src) m ≡ Some next
    → AreSimilarFrames bound.number m.registers s t
    → FramesAfter bound.number m next (alu env op width dst src s) (alu (with_inbox env inbox) op width dst src t)
alu_similar env inbox bound m next Mov width dst src s t marks frames =
    let same = some_same (with_mark m dst (operand_marked m src)) next marks in (
      subst (λ (x : Marks). Alike (AreSimilarFrames bound.number x.registers) (alu env Mov width dst src s)
          (alu (with_inbox env inbox) Mov width dst src t)) same (move_similar bound.number m width dst src s t frames),
      ap (λ (x : Marks). x.bytes) same,
    )
alu_similar env inbox bound m next Add width dst src s t marks frames =
    if_plainly bound.number m next _ dst _ _ marks
    (λ plain. operate_similar env inbox bound.number m Add width dst src s t plain frames)
alu_similar env inbox bound m next Sub width dst src s t marks frames =
    if_plainly bound.number m next _ dst _ _ marks
    (λ plain. operate_similar env inbox bound.number m Sub width dst src s t plain frames)
alu_similar env inbox bound m next Mul width dst src s t marks frames =
    if_plainly bound.number m next _ dst _ _ marks
    (λ plain. operate_similar env inbox bound.number m Mul width dst src s t plain frames)
alu_similar env inbox bound m next Div width dst src s t marks frames =
    if_plainly bound.number m next _ dst _ _ marks
    (λ plain. operate_similar env inbox bound.number m Div width dst src s t plain frames)
alu_similar env inbox bound m next Sdiv width dst src s t marks frames =
    if_plainly bound.number m next _ dst _ _ marks
    (λ plain. operate_similar env inbox bound.number m Sdiv width dst src s t plain frames)
alu_similar env inbox bound m next Or width dst src s t marks frames =
    if_plainly bound.number m next _ dst _ _ marks
    (λ plain. operate_similar env inbox bound.number m Or width dst src s t plain frames)
alu_similar env inbox bound m next And width dst src s t marks frames =
    if_plainly bound.number m next _ dst _ _ marks
    (λ plain. operate_similar env inbox bound.number m And width dst src s t plain frames)
alu_similar env inbox bound m next Lsh width dst src s t marks frames =
    if_plainly bound.number m next _ dst _ _ marks
    (λ plain. operate_similar env inbox bound.number m Lsh width dst src s t plain frames)
alu_similar env inbox bound m next Rsh width dst src s t marks frames =
    if_plainly bound.number m next _ dst _ _ marks
    (λ plain. operate_similar env inbox bound.number m Rsh width dst src s t plain frames)
alu_similar env inbox bound m next Mod width dst src s t marks frames =
    if_plainly bound.number m next _ dst _ _ marks
    (λ plain. operate_similar env inbox bound.number m Mod width dst src s t plain frames)
alu_similar env inbox bound m next Smod width dst src s t marks frames =
    if_plainly bound.number m next _ dst _ _ marks
    (λ plain. operate_similar env inbox bound.number m Smod width dst src s t plain frames)
alu_similar env inbox bound m next Xor width dst src s t marks frames =
    if_plainly bound.number m next _ dst _ _ marks
    (λ plain. operate_similar env inbox bound.number m Xor width dst src s t plain frames)
alu_similar env inbox bound m next Arsh width dst src s t marks frames =
    if_plainly bound.number m next _ dst _ _ marks
    (λ plain. operate_similar env inbox bound.number m Arsh width dst src s t plain frames)

-- nothing changes but the slot
stays : (bound : Bound) (begun : List ℕ) (m next : Marks) (s t : MachineState) → m ≡ next → AreSimilar bound begun m s t
    → AreSimilar bound begun next s t
stays bound begun m next s t same similar = subst (λ (x : Marks). AreSimilar bound begun x s t) same similar

bytes_after : (bound : Bound) (begun : List ℕ) (m next : Marks) (s t : MachineState) (r q : Result Bytes TrapKind)
    → AreSimilar bound begun m s t
    → Alike (AreSimilarBytes bound begun next) r q
    → Alike (AreSimilar bound begun next) (r >>= λ b. Ok (record s { frame = b.frame; memory = b.memory }))
    (q >>= λ b. Ok (record t { frame = b.frame; memory = b.memory }))
bytes_after bound begun m next s t r q similar h =
    after_alike r q _ _ (AreSimilarBytes bound begun next) (AreSimilar bound begun next) h
    (λ x y bytes. record { frame = bytes.frame; memory = bytes.memory; sent = similar.sent })

-- a call leaves the marks of memory as they are
call_words : (bound : ℕ) (env : Setting) (s : Frame) (id : ℤ) (m next : Marks)
    → after_helper bound env s (helper_of id) m ≡ Some next → m.bytes ≡ next.bytes
call_words bound env s id m next marks = by (helper_of id) marks
  where
    by : (helper : Option Helper) → after_helper bound env s helper m ≡ Some next → m.bytes ≡ next.bytes
    by None e = absurd (no_marks next e)
    by (Some Id) e = ap (λ (x : Marks). x.bytes) (some_same (with_answer m false) next e)
    by (Some Coin) e = ap (λ (x : Marks). x.bytes) (some_same (with_answer m false) next e)
    by (Some Recv) e = ap (λ (x : Marks). x.bytes) (plain_marks _ _ next e).1
    by (Some Send) e = ap (λ (x : Marks). x.bytes) (plain_marks _ _ next e).1

calls_after : (bound : Bound) (begun : List ℕ) (m next : Marks) (s t : MachineState) (r q : Result Calls TrapKind)
    → m.bytes ≡ next.bytes → AreSimilar bound begun m s t → Alike (AreSimilarCalls bound.number next) r q
    → Alike (AreSimilar bound begun next) (r >>= λ c. Ok (record s { frame = c.frame; sent = c.sent }))
    (q >>= λ c. Ok (record t { frame = c.frame; sent = c.sent }))
calls_after bound begun m next s t r q words similar h =
    after_alike r q _ _ (AreSimilarCalls bound.number next) (AreSimilar bound begun next) h
    (λ x y calls. record { frame = calls.frame; memory = rw (sym words) similar.memory; sent = calls.sent })

effect_similar : (env : Setting) (inbox : FinMap nat_cmp ℕ) (bound : Bound) (begun : List ℕ) (m next : Marks)
    (insn : Insn) (s t : MachineState) → AreHeard bound.number env (with_inbox env inbox)
    → marks_after bound env s.frame insn m ≡ Some next
    → AreSimilar bound begun m s t
    → Alike (AreSimilar bound begun next) (effect env insn s) (effect (with_inbox env inbox) insn t)
effect_similar env inbox bound begun m next (i.Alu op width dst src) s t heard marks similar =
    on_frames bound begun m next s t _ _ similar
    (alu_similar env inbox bound m next op width dst src s.frame t.frame marks similar.frame)
effect_similar env inbox bound begun m next (i.Neg width dst) s t heard marks similar =
    on_frames bound begun m next s t _ _ similar (if_plainly bound.number m next _ dst _ _ marks
    (λ plain. change_similar bound.number m (neg_result width) dst dst s.frame t.frame plain similar.frame))
effect_similar env inbox bound begun m next (i.Movsx kind dst src) s t heard marks similar =
    on_frames bound begun m next s t _ _ similar (if_plainly bound.number m next _ dst _ _ marks
    (λ plain. change_similar bound.number m (movsx_result kind) dst src s.frame t.frame plain similar.frame))
effect_similar env inbox bound begun m next (i.Swap order bits dst) s t heard marks similar =
    on_frames bound begun m next s t _ _ similar (if_plainly bound.number m next _ dst _ _ marks
    (λ plain. change_similar bound.number m (swap_result order bits) dst dst s.frame t.frame plain similar.frame))
effect_similar env inbox bound begun m next (i.Ja off) s t heard marks similar =
    stays bound begun m next s t (some_same m next marks) similar
effect_similar env inbox bound begun m next (i.JaLong off) s t heard marks similar =
    stays bound begun m next s t (some_same m next marks) similar
effect_similar env inbox bound begun m next (i.Branch op width dst src off) s t heard marks similar =
    stays bound begun m next s t (plain_marks _ m next marks).1 similar
effect_similar env inbox bound begun m next (i.Call id) s t heard marks similar =
    calls_after bound begun m next s t _ _ (call_words bound.number env s.frame id m next marks) similar
    (call_similar env inbox bound.number m next id (calls_of s.frame s.sent) (calls_of t.frame t.sent) heard marks
    (record { frame = similar.frame; sent = similar.sent }))
effect_similar env inbox bound begun m next i.Exit s t heard marks similar = absurd (no_marks next marks)
effect_similar env inbox bound begun m next (i.Load size dst base off) s t heard marks similar =
    on_frames bound begun m next s t _ _ similar
    (load_similar env inbox bound begun m next size dst base off s.frame t.frame s.memory t.memory marks similar.frame
    similar.memory)
effect_similar env inbox bound begun m next (i.LoadSx size dst base off) s t heard marks similar =
    on_frames bound begun m next s t _ _ similar
    (load_extended_similar env inbox bound begun m next size dst base off s.frame t.frame s.memory t.memory marks
    similar.frame similar.memory)
effect_similar env inbox bound begun m next (i.StoreReg size base off src) s t heard marks similar =
    bytes_after bound begun m next s t _ _ similar
    (store_register_similar env inbox bound begun m next size base off src (bytes_of s.frame s.memory)
    (bytes_of t.frame t.memory) marks (record { frame = similar.frame; memory = similar.memory }))
effect_similar env inbox bound begun m next (i.StoreImm size base off imm) s t heard marks similar =
    bytes_after bound begun m next s t _ _ similar
    (store_immediate_similar env inbox bound begun m next size base off imm (bytes_of s.frame s.memory)
    (bytes_of t.frame t.memory) marks (record { frame = similar.frame; memory = similar.memory }))
effect_similar env inbox bound begun m next (i.LoadImm64 dst value) s t heard marks similar =
    let same = some_same (with_mark m dst false) next marks in
    on_frames bound begun m next s t _ _ similar (
      subst (λ (x : Marks). Alike (AreSimilarFrames bound.number x.registers) (load_immediate dst value s.frame)
          (load_immediate dst value t.frame)) same
          (immediate_similar bound.number m dst value s.frame t.frame similar.frame),
      ap (λ (x : Marks). x.bytes) same,
    )

-- ---- the way on

not_false : (b : Bool) → not b ≡ false → b ≡ true
not_false true e = refl
not_false false e = absurd (true≢false e)

way_similar : (env : Setting) (bound : Bound) (m next : Marks) (insn : Insn) (s t : Frame)
    → marks_after bound env s insn m ≡ Some next → AreSimilarFrames bound.number m.registers s t
    → way_of s insn ≡ way_of t insn
way_similar env bound m next (i.Alu op width dst src) s t marks frames = refl
way_similar env bound m next (i.Neg width dst) s t marks frames = refl
way_similar env bound m next (i.Movsx kind dst src) s t marks frames = refl
way_similar env bound m next (i.Swap order bits dst) s t marks frames = refl
way_similar env bound m next (i.Ja off) s t marks frames = refl
way_similar env bound m next (i.JaLong off) s t marks frames = refl
way_similar env bound m next (i.Branch op width dst src off) s t marks frames =
    edge_similar bound.number m op width dst src off s t (not_false _ (plain_marks _ m next marks).0) frames
way_similar env bound m next (i.Call id) s t marks frames = refl
way_similar env bound m next i.Exit s t marks frames = refl
way_similar env bound m next (i.Load size dst base off) s t marks frames = refl
way_similar env bound m next (i.LoadSx size dst base off) s t marks frames = refl
way_similar env bound m next (i.StoreReg size base off src) s t marks frames = refl
way_similar env bound m next (i.StoreImm size base off imm) s t marks frames = refl
way_similar env bound m next (i.LoadImm64 dst value) s t marks frames = refl

next_same : (program : List Insn) (env : Setting) (bound : Bound) (m next : Marks) (insn : Insn) (s t : Frame)
    → marks_after bound env s insn m ≡ Some next → AreSimilarFrames bound.number m.registers s t
    → next_slot program insn s ≡ next_slot program insn t
next_same program env bound m next insn s t marks frames =
    then_equal (way_of s insn) (way_of t insn) _ _ (way_similar env bound m next insn s t marks frames)
    (λ way. rw frames.slot refl)

-- ---- the step

abbrev pub PhasesSimilar : Bound → List ℕ → Marks → Phase → Phase → Type 0
PhasesSimilar bound begun m (Running s) (Running t) = AreSimilar bound begun m s t
PhasesSimilar bound begun m (Running s) (Ended memory sent r0) = ⊥
PhasesSimilar bound begun m (Ended memory sent r0) q = ⊥

advance_similar : (program : List Insn) (env : Setting) (inbox : FinMap nat_cmp ℕ) (bound : Bound) (begun : List ℕ)
    (m next : Marks) (insn : Insn) (s t : MachineState) → AreHeard bound.number env (with_inbox env inbox)
    → marks_after bound env s.frame insn m ≡ Some next → AreSimilar bound begun m s t
    → Alike (AreSimilar bound begun next) (advance program env insn s) (advance program (with_inbox env inbox) insn t)
advance_similar program env inbox bound begun m next insn s t heard marks similar =
    then_alike (next_slot program insn s.frame) (next_slot program insn t.frame) _ _ (AreSimilar bound begun next)
    (next_same program env bound m next insn s.frame t.frame marks similar.frame) (λ slot _.
    after_alike (effect env insn s) (effect (with_inbox env inbox) insn t) _ _ (AreSimilar bound begun next)
    (AreSimilar bound begun next) (effect_similar env inbox bound begun m next insn s t heard marks similar)
    (λ u v agree. record {
      frame = record {
        wide = agree.frame.wide;
        slot = refl;
        registers = agree.frame.registers;
        stack = agree.frame.stack;
        kept = agree.frame.kept;
      };
      memory = agree.memory;
      sent = agree.sent;
    }))

-- an exit leaves no marks
goes_on : (bound : Bound) (env : Setting) (s : Frame) (insn : Insn) (m next : Marks)
    → marks_after bound env s insn m ≡ Some next → is_exit insn ≡ false
goes_on bound env s (i.Alu op width dst src) m next marks = refl
goes_on bound env s (i.Neg width dst) m next marks = refl
goes_on bound env s (i.Movsx kind dst src) m next marks = refl
goes_on bound env s (i.Swap order bits dst) m next marks = refl
goes_on bound env s (i.Ja off) m next marks = refl
goes_on bound env s (i.JaLong off) m next marks = refl
goes_on bound env s (i.Branch op width dst src off) m next marks = refl
goes_on bound env s (i.Call id) m next marks = refl
goes_on bound env s i.Exit m next marks = absurd (no_marks next marks)
goes_on bound env s (i.Load size dst base off) m next marks = refl
goes_on bound env s (i.LoadSx size dst base off) m next marks = refl
goes_on bound env s (i.StoreReg size base off src) m next marks = refl
goes_on bound env s (i.StoreImm size base off imm) m next marks = refl
goes_on bound env s (i.LoadImm64 dst value) m next marks = refl

pub step_similar : (program : List Insn) (env : Setting) (inbox : FinMap nat_cmp ℕ) (bound : Bound) (begun : List ℕ)
    (m next : Marks) (insn : Insn) (s t : MachineState) → AreHeard bound.number env (with_inbox env inbox)
    → insn_at program s.frame.slot ≡ Some insn → marks_after bound env s.frame insn m ≡ Some next
    → AreSimilar bound begun m s t
    → Alike (PhasesSimilar bound begun next) (step program env s) (step program (with_inbox env inbox) t)
step_similar program env inbox bound begun m next insn s t heard at marks similar =
    subst (λ (slot : ℕ). Alike (PhasesSimilar bound begun next) (step program env s)
    (execute_at program (with_inbox env inbox) (insn_at program slot) t)) similar.frame.slot
    (rw at (rw (goes_on bound env s.frame insn m next marks)
    (after_alike (advance program env insn s) (advance program (with_inbox env inbox) insn t) _ _
    (AreSimilar bound begun next) (PhasesSimilar bound begun next)
    (advance_similar program env inbox bound begun m next insn s t heard marks similar) (λ u v agree. agree))))
