-- What a call does to two states that differ in marked numbers alone.
use Rattle.std.proofs.Common.{◌≡◌, ℕ, ◌<◌, ◌≤◌, ◌^◌, Bool, true, false, cond, List, Option, Some, None, Ok, Err, length, ◌||◌, nat_lt, nat_le, ℤ, refl, ◌∙◌, subst, ap, arith, inl, inr}
use Rattle.std.specs.Prelude.{slice_set}
use Rattle.std.specs.Ordering.{nat_cmp}
use Rattle.std.specs.FinMap.{FinMap}
use Rattle.std.proofs.lemmas.Bool.{or_parts, leb-true, leb-false, ltb-true}
use Rattle.std.proofs.lemmas.List.{length-set}
use Rattle.node_env.specs.declared.helper.Helper.{Helper}
use Rattle.node_env.specs.declared.helper.Helper.TheVariants.{Id, Recv, Send, Coin}
use Rattle.node_env.specs.Env.{Setting, received}
use Rattle.node_env.specs.Helpers.{helper_of}
use Rattle.bpf_insn.specs.declared.forms.Reg.TheVariants.{R1, R2}
use Rattle.bpf_machine.specs.declared.word.Word.{Word}
use Rattle.bpf_machine.specs.declared.word.Word.TheVariants.{Num, Ptr}
use Rattle.bpf_machine.specs.declared.word.TrapKind.TheVariants.{BadArgument, BadHelper}
use Rattle.bpf_machine.specs.Machine.{Frame}
use Rattle.bpf_machine.specs.Step.{◌>>=◌, Calls, after_call, below, call, call_helper, needed, word_of}
use Rattle.bpf_run.proofs.Alike.{Alike, then_alike}
use Rattle.bounded_runs.specs.declared.marks.Marks.{Marks}
use Rattle.bounded_runs.specs.Bounded.{AlikeFrom}
use Rattle.bounded_runs.specs.inner.Marks.{after_helper, if_plain, is_large, register_marked, with_answer}
use Rattle.bounded_runs.specs.inner.Similar.{AreSimilarFrames, HoldAlike}
use Rattle.bounded_runs.proofs.Similar.{gone_similar, put_similar, word_same}
use Rattle.bounded_runs.proofs.Parts.{with_inbox}

-- the messages are alike, and have 32 bits
pub record AreHeard (bound : ℕ) (env other : Setting) : Type 0 where
  pub alike : (j : ℕ) → j < env.shape.nodes → AlikeFrom bound (received env j) (received other j)
  pub mine : (j : ℕ) → received env j < 2 ^ 32
  pub theirs : (j : ℕ) → received other j < 2 ^ 32

pub record AreSimilarCalls (bound : ℕ) (m : Marks) (b c : Calls) : Type 0 where
  pub frame : AreSimilarFrames bound m.registers b.frame c.frame
  pub sent : b.sent ≡ c.sent

-- ---- marks

-- where nothing marked is read
pub plain_marks : (b : Bool) (m next : Marks) → if_plain b m ≡ Some next → (b ≡ false) × (m ≡ next)
plain_marks true m next e = absurd (let no : None ≡ Some next = e in cc)
plain_marks false m next e = (refl, let same : Some m ≡ Some next = e in cc)

wide_after : (marks : List Bool) (k : ℕ) (b : Bool) → length marks ≡ 11 → length (slice_set marks k b) ≡ 11
wide_after marks k b wide = length-set marks k b ∙ wide

below_wide : (marks : List Bool) (k : ℕ) → k < 11 → length marks ≡ 11 → k < length marks
below_wide marks k lt wide = omega (arith, lt, wide)

-- r1 to r5 are unset, and the answers are alike
called_similar : (bound : ℕ) (m : Marks) (s t : Frame) (b : Bool) (a c : ℕ)
    → HoldAlike bound b (Some (Num a)) (Some (Num c)) → AreSimilarFrames bound m.registers s t
    → AreSimilarFrames bound (with_answer m b).registers (after_call s a) (after_call t c)
called_similar bound m s t b a c alike similar =
    let w1 = wide_after m.registers 1 false similar.wide in
    let w2 = wide_after (slice_set m.registers 1 false) 2 false w1 in
    let w3 = wide_after _ 3 false w2 in
    let w4 = wide_after _ 4 false w3 in
    let w5 = wide_after _ 5 false w4 in
    record {
      wide = wide_after _ 0 b w5;
      slot = similar.slot;
      registers = put_similar bound _ _ _ 0 b (Num a) (Num c) (below_wide _ 0 (omega arith) w5) alike
          (gone_similar bound _ _ _ 5 (below_wide _ 5 (omega arith) w4)
          (gone_similar bound _ _ _ 4 (below_wide _ 4 (omega arith) w3)
          (gone_similar bound _ _ _ 3 (below_wide _ 3 (omega arith) w2)
          (gone_similar bound _ _ _ 2 (below_wide _ 2 (omega arith) w1)
          (gone_similar bound m.registers s.registers t.registers 1 (below_wide _ 1 (omega arith) similar.wide)
          similar.registers)))));
      stack = similar.stack;
      kept = similar.kept;
    }

-- ---- messages

-- messages are equal, or the first is marked and both are large
answer_alike : (bound a c : ℕ) → AlikeFrom bound a c → a < 2 ^ 32 → c < 2 ^ 32
    → HoldAlike bound (nat_le bound a) (Some (Num a)) (Some (Num c))
answer_alike bound a c alike la lc = by (nat_le bound a) refl alike
  where
    by : (b : Bool) → nat_le bound a ≡ b → AlikeFrom bound a c → HoldAlike bound b (Some (Num a)) (Some (Num c))
    by true e (inl same) =
        let le : bound ≤ a = leb-true bound a e in
        (a, c, refl, refl, (le, la), (omega (arith, le, same), lc))
    by true e (inr both) = (a, c, refl, refl, (both.0, la), (both.1, lc))
    by false e (inl same) = ap (λ (n : ℕ). Some (Num n)) same
    by false e (inr both) =
        let lt : a < bound = leb-false bound a e in
        absurd (omega (arith, lt, both.0))

-- a sender is one of the nodes
sender_below : (limit : ℕ) (x : Word) (sender : ℕ) → below limit x ≡ Ok sender → (x ≡ Num sender) × (sender < limit)
sender_below limit (Num n) sender e = by (nat_lt n limit) refl e
  where
    by : (b : Bool) → nat_lt n limit ≡ b → cond b (Ok n) (Err BadArgument) ≡ Ok sender
        → (Num n ≡ Num sender) × (sender < limit)
    by true h e =
        let same : n ≡ sender = cc in
        let lt : n < limit = ltb-true n limit h in
        (ap Num same, omega (arith, lt, same))
    by false h e = absurd (let no : Err BadArgument ≡ Ok sender = e in cc)
sender_below limit (Ptr region offset) sender e = absurd (let no : Err BadArgument ≡ Ok sender = e in cc)

heard_similar : (env : Setting) (inbox : FinMap nat_cmp ℕ) (bound : ℕ) (m next : Marks) (b c : Calls)
    → AreHeard bound env (with_inbox env inbox)
    → if_plain (register_marked m R1) (with_answer m (is_large bound env (word_of b.frame R1))) ≡ Some next
    → AreSimilarCalls bound m b c
    → Alike (AreSimilarCalls bound next) (call_helper env Recv b) (call_helper (with_inbox env inbox) Recv c)
heard_similar env inbox bound m next b c heard marks similar =
    let plain = plain_marks (register_marked m R1) _ next marks in
    let words = word_same bound m.registers b.frame c.frame R1 similar.frame plain.0 in
    subst (λ (n : Marks). Alike (AreSimilarCalls bound n) (call_helper env Recv b)
    (call_helper (with_inbox env inbox) Recv c)) plain.1
    (then_alike (word_of b.frame R1) (word_of c.frame R1) _ _
    (AreSimilarCalls bound (with_answer m (is_large bound env (word_of b.frame R1)))) words (λ x read.
    then_alike (below env.shape.nodes x) (below env.shape.nodes x) _ _
    (AreSimilarCalls bound (with_answer m (is_large bound env (word_of b.frame R1)))) refl (λ sender ok.
    let is = sender_below env.shape.nodes x sender ok in
    let mark : is_large bound env (word_of b.frame R1) ≡ nat_le bound (received env sender) =
    ap (is_large bound env) (read ∙ ap Ok is.0) in
    record {
      frame = called_similar bound m b.frame c.frame (is_large bound env (word_of b.frame R1)) (received env sender)
          (received (with_inbox env inbox) sender)
          (rw mark (answer_alike bound (received env sender) (received (with_inbox env inbox) sender)
          (heard.alike sender is.1) (heard.mine sender) (heard.theirs sender))) similar.frame;
      sent = similar.sent;
    })))

-- ---- calls

plain_call : (bound : ℕ) (m next : Marks) (s t : Frame) (answer : ℕ) → with_answer m false ≡ next
    → AreSimilarFrames bound m.registers s t
    → AreSimilarFrames bound next.registers (after_call s answer) (after_call t answer)
plain_call bound m next s t answer same similar =
    subst (λ (n : Marks). AreSimilarFrames bound n.registers (after_call s answer) (after_call t answer)) same
    (called_similar bound m s t false answer answer refl similar)

helper_similar : (env : Setting) (inbox : FinMap nat_cmp ℕ) (bound : ℕ) (m next : Marks) (helper : Option Helper)
    (b c : Calls) → AreHeard bound env (with_inbox env inbox) → after_helper bound env b.frame helper m ≡ Some next
    → AreSimilarCalls bound m b c
    → Alike (AreSimilarCalls bound next) (needed BadHelper helper >>= λ found. call_helper env found b)
    (needed BadHelper helper >>= λ found. call_helper (with_inbox env inbox) found c)
helper_similar env inbox bound m next None b c heard marks similar = refl
helper_similar env inbox bound m next (Some Id) b c heard marks similar = record {
  frame = plain_call bound m next b.frame c.frame env.id (let e : Some (with_answer m false) ≡ Some next = marks in cc)
      similar.frame;
  sent = similar.sent;
}
helper_similar env inbox bound m next (Some Coin) b c heard marks similar = record {
  frame = plain_call bound m next b.frame c.frame env.coin
      (let e : Some (with_answer m false) ≡ Some next = marks in cc) similar.frame;
  sent = similar.sent;
}
helper_similar env inbox bound m next (Some Recv) b c heard marks similar =
    heard_similar env inbox bound m next b c heard marks similar
helper_similar env inbox bound m next (Some Send) b c heard marks similar =
    let plain = plain_marks (register_marked m R1 || register_marked m R2) _ next marks in
    let parts = or_parts (register_marked m R1) (register_marked m R2) plain.0 in
    then_alike (word_of b.frame R1) (word_of c.frame R1) _ _ (AreSimilarCalls bound next)
    (word_same bound m.registers b.frame c.frame R1 similar.frame parts.0) (λ x _.
    then_alike (word_of b.frame R2) (word_of c.frame R2) _ _ (AreSimilarCalls bound next)
    (word_same bound m.registers b.frame c.frame R2 similar.frame parts.1) (λ y _.
    then_alike (below env.shape.nodes x) (below env.shape.nodes x) _ _ (AreSimilarCalls bound next) refl (λ receiver _.
    then_alike (below (2 ^ 32) y) (below (2 ^ 32) y) _ _ (AreSimilarCalls bound next) refl (λ value _. record {
      frame = plain_call bound m next b.frame c.frame 0 plain.1 similar.frame;
      sent = rw similar.sent refl;
    }))))

pub call_similar : (env : Setting) (inbox : FinMap nat_cmp ℕ) (bound : ℕ) (m next : Marks) (id : ℤ) (b c : Calls)
    → AreHeard bound env (with_inbox env inbox) → after_helper bound env b.frame (helper_of id) m ≡ Some next
    → AreSimilarCalls bound m b c
    → Alike (AreSimilarCalls bound next) (call env id b) (call (with_inbox env inbox) id c)
call_similar env inbox bound m next id b c heard marks similar =
    helper_similar env inbox bound m next (helper_of id) b c heard marks similar
