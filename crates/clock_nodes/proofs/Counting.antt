-- The blocks of the clock program that count its support.
use Rattle.std.proofs.Common.{◌≡◌, ◌≢◌, ℕ, zero, suc, ◌+◌, ◌*◌, ◌^◌, ◌<◌, ◌≤◌, Bool, true, false, cond, not, List, ◌++◌, Option, Some, None, IsSome, Ok, slice_get, refl, sym, ap, ◌∙◌, arith, subst, inl, inr, pos}
use Rattle.std.specs.Prelude.{unwrap_or}
use Rattle.std.specs.Ordering.{nat_cmp}
use Rattle.std.specs.FinMap.{FinMap, get, insert}
use Rattle.std.proofs.lemmas.Bool.{cases_eq, eq-eqb, ne_eqb}
use Rattle.node_env.specs.declared.env.TheConstants.{NO_MAIL}
use Rattle.node_env.specs.declared.region.Region.TheVariants.{Mem}
use Rattle.node_env.specs.Env.{Setting, IsSetting, received}
use Rattle.bpf_insn.specs.declared.forms.Reg.TheVariants.{R0, R1, R7, R8}
use Rattle.bpf_insn.specs.declared.forms.Width.TheVariants.{W64}
use Rattle.bpf_insn.specs.declared.forms.Cond.TheVariants.{Ne}
use Rattle.bpf_insn.specs.declared.forms.Operand.TheVariants.{Imm, Reg}
use Rattle.bpf_insn.specs.declared.forms.Insn.{Insn}
use Rattle.bpf_insn.specs.Arithmetic.{holds}
use Rattle.bpf_machine.specs.declared.word.Word.{Word}
use Rattle.bpf_machine.specs.declared.word.Word.TheVariants.{Num, Ptr}
use Rattle.bpf_machine.specs.Machine.{Frame, MachineState, Running}
use Rattle.bpf_machine.specs.Step.{after_call, step}
use Rattle.bpf_machine.specs.Run.{Leads}
use Rattle.clock_nodes.specs.Rule.{is_mail, support}
use Rattle.clock_nodes.specs.Listings.{count_block, count_blocks}
use Rattle.clock_nodes.proofs.Places.{Stands, begins, first_begins}
use Rattle.clock_nodes.proofs.Forms.{put_same, put_other, call_keeps, differs, put, at, called, moves, adds, receives, passes, jumps}
use Rattle.clock_nodes.proofs.Runs.{Finishes, after}

-- what lives in registers between the blocks: the memory's place, the clock, the count
pub record Counting (v c : ℕ) (registers : FinMap nat_cmp Word) : Type 0 where
  pub r6 : get registers 6 ≡ Some (Ptr Mem 0)
  pub r7 : get registers 7 ≡ Some (Num v)
  pub r8 : get registers 8 ≡ Some (Num c)

-- ---- the count

received_same : (v : ℕ) (mail : Option ℕ) → v < NO_MAIL → unwrap_or mail NO_MAIL ≡ v → is_mail v mail ≡ true
received_same v None small e = absurd (omega (arith, small, e))
received_same v (Some m) small e = eq-eqb m v e

received_other : (v : ℕ) (mail : Option ℕ) → unwrap_or mail NO_MAIL ≢ v → is_mail v mail ≡ false
received_other v None ne = refl
received_other v (Some m) ne = ne_eqb m v ne

pub received_fits : (env : Setting) (j : ℕ) → IsSetting env → received env j < 2 ^ 32
received_fits env j is = by (get env.inbox j) (λ v e. (is.mail j v e).1)
  where
    by : (mail : Option ℕ) → ((v : ℕ) → mail ≡ Some v → v < 2 ^ 32) → unwrap_or mail NO_MAIL < 2 ^ 32
    by None h = omega arith
    by (Some v) h = h v refl

pub support_few : (inbox : FinMap nat_cmp ℕ) (v n : ℕ) → support inbox v n ≤ n
support_few inbox v zero = omega arith
support_few inbox v (suc n) = by (is_mail v (get inbox n)) (support_few inbox v n)
  where
    by : (b : Bool) → support inbox v n ≤ n → support inbox v n + cond b 1 0 ≤ suc n
    by true few = omega (arith, few)
    by false few = omega (arith, few)

support_next : (inbox : FinMap nat_cmp ℕ) (v j : ℕ) (b : Bool) → is_mail v (get inbox j) ≡ b
    → support inbox v j + cond b 1 0 ≡ support inbox v (suc j)
support_next inbox v j b e = ap (λ (x : Bool). support inbox v j + cond x 1 0) (sym e)

-- ---- registers

live_put : (m : FinMap nat_cmp Word) (v c k : ℕ) (w : Word) → k < 6 → Counting v c m → Counting v c (insert m k w)
live_put m v c k w low h = record {
  r6 = put_other m k w 6 (λ e. omega (arith, e, low)) ∙ h.r6;
  r7 = put_other m k w 7 (λ e. omega (arith, e, low)) ∙ h.r7;
  r8 = put_other m k w 8 (λ e. omega (arith, e, low)) ∙ h.r8;
}

live_call : (s : Frame) (v c answer : ℕ) → Counting v c s.registers → Counting v c (after_call s answer).registers
live_call s v c answer h = record {
  r6 = call_keeps s answer 6 (omega arith) ∙ h.r6;
  r7 = call_keeps s answer 7 (omega arith) ∙ h.r7;
  r8 = call_keeps s answer 8 (omega arith) ∙ h.r8;
}

live_count : (m : FinMap nat_cmp Word) (v c d : ℕ) → Counting v c m → Counting v d (insert m 8 (Num d))
live_count m v c d h = record {
  r6 = put_other m 8 (Num d) 6 (λ e. omega arith) ∙ h.r6;
  r7 = put_other m 8 (Num d) 7 (λ e. omega arith) ∙ h.r7;
  r8 = put_same m 8 (Num d);
}

-- ---- one block

-- the block leads behind it, with one more where node j sent the clock
record Counted (program : List Insn) (env : Setting) (s : MachineState) (v j : ℕ) : Type 0 where
  pub count : ℕ
  pub new : MachineState
  pub leads : Leads program env count (Running s) (Running new)
  pub few : count ≤ 4
  pub slot : new.frame.slot ≡ s.frame.slot + 1 + 1 + 1 + 1
  pub registers : Counting v (support env.inbox v (suc j)) new.frame.registers
  pub memory : new.memory ≡ s.memory
  pub sent : new.sent ≡ s.sent

one_block : (program rest : List Insn) (env : Setting) (s : MachineState) (v n j : ℕ) → IsSetting env → v < NO_MAIL
    → j < env.shape.nodes → IsSome (slice_get rest 0)
    → Stands program s.frame.slot (count_block j ++ (count_blocks n (suc j) ++ rest))
    → Counting v (support env.inbox v j) s.frame.registers → Counted program env s v j
one_block program rest env s v n j is small lt more stands live =
    let r = received env j in
    let c = support env.inbox v j in
    let mail = get env.inbox j in
    let r_fits : r < 2 ^ 64 = omega (arith, received_fits env j is) in
    let v_fits : v < 2 ^ 64 = omega (arith, small) in
    let s1 = put s (s.frame.slot + 1) R1 (Num j) in
    let s2 = called s1 (s.frame.slot + 1 + 1) r in
    let live1 : Counting v c s1.frame.registers = live_put s.frame.registers v c 1 (Num j) (omega arith) live in
    let live2 : Counting v c s2.frame.registers = live_call s1.frame v c r live1 in
    let e1 : step program env s ≡ Ok (Running s1) = moves program env s _ R1 (Imm (pos j)) (Num j) stands.0 refl
    (begins program _ _ stands.1.0) refl refl in
    let e2 : step program env s1 ≡ Ok (Running s2) = receives program env s1 _ j stands.1.0 refl
    (begins program _ _ stands.1.1.0) (put_same s.frame.registers 1 (Num j)) lt in
    let r0 : get s2.frame.registers 0 ≡ Some (Num r) = put_same _ 0 (Num r) in
    let next = first_begins program _ (count_blocks n (suc j)) rest more stands.1.1.1.1 in
    elim (cases_eq r v) [
      | inl e ↦
          let s3 = at s2 (s.frame.slot + 1 + 1 + 1) in
          let s4 = put s3 (s.frame.slot + 1 + 1 + 1 + 1) R8 (Num (c + 1)) in
          let test : holds Ne W64 r v ≡ false = differs r v r_fits v_fits ∙ ap not (eq-eqb r v e) in
          let e3 : step program env s2 ≡ Ok (Running s3) = passes program env s2 _ Ne R0 (Reg R7)
          (pos 1) r v stands.1.1.0 refl (begins program _ _ stands.1.1.1.0) r0 (rw live2.r7 refl) test in
          let e4 : step program env s3 ≡ Ok (Running s4) = adds program env s3 _ R8
          (Imm (pos 1)) c 1 stands.1.1.1.0 refl next live2.r8 refl refl
          (omega (arith, support_few env.inbox v j, lt, is.extent.few)) in
          let one : c + 1 ≡ support env.inbox v (suc j) = support_next env.inbox v j true
          (received_same v mail small e) in
          record {
            count = 4;
            new = s4;
            leads = (_, e1, (_, e2, (_, e3, (_, e4, refl))));
            few = omega arith;
            slot = refl;
            registers = subst (λ (d : ℕ). Counting v d s4.frame.registers) one
                (live_count s3.frame.registers v c (c + 1) live2);
            memory = refl;
            sent = refl;
          }
      | inr ne ↦
          let s3 = at s2 (s.frame.slot + 1 + 1 + 1 + 1) in
          let test : holds Ne W64 r v ≡ true = differs r v r_fits v_fits ∙ ap not (ne_eqb r v ne) in
          let e3 : step program env s2 ≡ Ok (Running s3) = jumps program env s2 _ Ne R0
          (Reg R7) 1 r v stands.1.1.0 refl next r0 (rw live2.r7 refl) test in
          let none : c ≡ support env.inbox v (suc j) = omega
          (arith, support_next env.inbox v j false (received_other v mail ne)) in
          record {
            count = 3;
            new = s3;
            leads = (_, e1, (_, e2, (_, e3, refl)));
            few = omega arith;
            slot = refl;
            registers = subst (λ (d : ℕ). Counting v d s3.frame.registers) none live2;
            memory = refl;
            sent = refl;
          }
    ]

-- ---- all blocks

-- a state that is led to from the blocks' end, once the support is counted, finishes
abbrev pub FinishesBehind : List Insn → List Insn → Setting → ℕ → List ℕ → FinMap nat_cmp ℕ → ℕ → List ℕ
    → (ℕ → Option ℕ) → Type 0
FinishesBehind program rest env v memory sent limit left value_for =
    (t : MachineState) → Stands program t.frame.slot rest
    → Counting v (support env.inbox v env.shape.nodes) t.frame.registers → t.memory ≡ memory → t.sent ≡ sent
    → Finishes program env t limit left value_for

-- the blocks of n nodes from j on
pub finish_blocks : (program rest : List Insn) (env : Setting) (s : MachineState) (v n j limit : ℕ) (left : List ℕ)
    (value_for : ℕ → Option ℕ) → IsSetting env → v < NO_MAIL → j + n ≡ env.shape.nodes → IsSome (slice_get rest 0)
    → Stands program s.frame.slot (count_blocks n j ++ rest) → Counting v (support env.inbox v j) s.frame.registers
    → FinishesBehind program rest env v s.memory s.sent limit left value_for
    → Finishes program env s (4 * n + limit) left value_for
finish_blocks program rest env s v zero j limit left value_for is small all more stands live behind =
    let whole : j ≡ env.shape.nodes = omega (arith, all) in
    let end = behind s stands (subst (λ (k : ℕ). Counting v (support env.inbox v k) s.frame.registers) whole
    live) refl refl in
    after program env 0 0 limit (4 * 0 + limit) s s left value_for refl (omega arith) (omega arith) end
finish_blocks program rest env s v (suc n) j limit left value_for is small all more stands live behind =
    let one = one_block program rest env s v n j is small (omega (arith, all)) more stands live in
    let there = subst (λ (k : ℕ). Stands program k (count_blocks n (suc j) ++ rest)) (sym one.slot) stands.1.1.1.1 in
    let end = finish_blocks program rest env one.new v n (suc j) limit left value_for is small
    (omega (arith, all)) more there one.registers
    (λ t at live memory sent. behind t at live (memory ∙ one.memory) (sent ∙ one.sent)) in
    after program env one.count 4 (4 * n + limit) (4 * suc n + limit) s one.new left value_for one.leads one.few
    (omega arith) end
