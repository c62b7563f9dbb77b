-- The runs of `say` and `echo`.
use Rattle.std.proofs.Common.{◌≡◌, ℕ, zero, suc, ◌+◌, ◌*◌, ◌^◌, ◌<◌, ◌==◌, false, List, [], ◌∷◌, ◌++◌, length, Option, Some, None, All, Ok, slice_index_or, pos, negsuc, ◌-◌, refl, sym, ap, ◌∙◌, arith, subst, inl, inr}
use Rattle.std.specs.Int.{w32, w64, cast_signed, cast_unsigned}
use Rattle.std.specs.FinMap.{get, insert}
use Rattle.std.proofs.lemmas.Bool.{cases_lt, le-ltb}
use Rattle.std.proofs.lemmas.Int.{to_z_pos}
use Rattle.std.proofs.lemmas.List.Elements.{All-head, All-tail}
use Rattle.node_env.specs.Env.{Extent, Setting, IsSetting, received}
use Rattle.node_env.specs.Slots.{IsSlot}
use Rattle.bpf_insn.specs.declared.forms.Reg.{Reg}
use Rattle.bpf_insn.specs.declared.forms.Reg.TheVariants.{R0, R1, R2}
use Rattle.bpf_insn.specs.declared.forms.Width.TheVariants.{W32}
use Rattle.bpf_insn.specs.declared.forms.AluOp.TheVariants.{Mov}
use Rattle.bpf_insn.specs.declared.forms.Operand.TheVariants as operand
use Rattle.bpf_insn.specs.declared.forms.Insn.{Insn}
use Rattle.bpf_insn.specs.declared.forms.Insn.TheVariants as i
use Rattle.bpf_insn.specs.Registers.{register_number}
use Rattle.bpf_insn.specs.Arithmetic.{alu_result}
use Rattle.bpf_insn.specs.Programs.{insn_at}
use Rattle.bpf_insn.specs.Edges.{BeginsAt}
use Rattle.bpf_machine.specs.declared.word.Word.TheVariants.{Num}
use Rattle.bpf_machine.specs.Machine.{MachineState, Running, entry}
use Rattle.bpf_machine.specs.Step.{step}
use Rattle.clock_nodes.specs.Listings.{tail, say_blocks, say_listing, echo_blocks, echo_listing}
use Rattle.clock_nodes.specs.Ends.{IsSentTo, IsNodeStart, HasRuns, EndsBy, IsSayEnd, IsEchoEnd}
use Rattle.clock_nodes.proofs.Places.{Stands, begins, first_begins, Ones, ones_append, stands_whole}
use Rattle.clock_nodes.proofs.Forms.{put_same, put_other, put, called, sending, moves, receives, sends}
use Rattle.clock_nodes.proofs.Runs.{Finishes, after, finish_tail, nothing_sent, sent_next, sent_none, HasEnd, one_end}
use Rattle.clock_nodes.proofs.Counting.{received_fits}

-- ---- say

-- 32 bits that are read as signed and extended are the number again
said : (value : ℕ) → value < 2 ^ 32 → alu_result Mov W32 0 (cast_unsigned w64 (cast_signed w32 value)) ≡ value
said value small =
    elim (cases_lt value (2 ^ 31)) [
      | inl less ↦ rw (to_z_pos w32 value less) (omega (arith, small))
      | inr above ↦
          let below : cast_signed w32 value ≡ negsuc (2 ^ 32 - suc value) = rw (le-ltb value (2 ^ 31) above) refl in
          rw below (omega (arith, small, above))
    ]

moves_low : (program : List Insn) (env : Setting) (s : MachineState) (to : ℕ) (dst : Reg) (value : ℕ)
    → insn_at program s.frame.slot ≡ Some (i.Alu Mov W32 dst (operand.Imm (cast_signed w32 value)))
    → s.frame.slot + 1 ≡ to → BeginsAt program to → value < 2 ^ 32 → (register_number dst == 10) ≡ false
    → step program env s ≡ Ok (Running (put s to dst (Num value)))
moves_low program env s to dst value here next there small free =
    let same = said value small in
    rw (here, next, there, free, same) refl

-- the values, which are for the nodes from j on, are sent
finish_says : (program : List Insn) (env : Setting) (s : MachineState) (values : List (Option ℕ)) (j : ℕ)
    (value_for : ℕ → Option ℕ) → Stands program s.frame.slot (say_blocks j values ++ tail)
    → j + length values ≡ env.shape.nodes → All IsSlot values
    → ((k : ℕ) → value_for (j + k) ≡ slice_index_or values k None) → IsSentTo j value_for s.sent
    → Finishes program env s (3 * length values + 2) s.memory value_for
finish_says program env s [] j value_for stands all fit is sent =
    let whole : j ≡ env.shape.nodes = omega (arith, all) in
    finish_tail program env s value_for stands (subst (λ (k : ℕ). IsSentTo k value_for s.sent) whole sent)
finish_says program env s (None ∷ values) j value_for stands all fit is sent =
    let here : j ≡ j + 0 = omega arith in
    let rest = finish_says program env s values (suc j) value_for stands (omega (arith, all))
    (All-tail IsSlot None values fit)
    (λ k. let there : suc j + k ≡ j + suc k = omega arith in ap value_for there ∙ is (suc k))
    (sent_none j value_for s.sent (ap value_for here ∙ is 0) sent) in
    after program env 0 0 (3 * length values + 2) (3 * suc (length values) + 2) s s s.memory value_for refl
    (omega arith) (omega arith) rest
finish_says program env s (Some value ∷ values) j value_for stands all fit is sent =
    let m = s.frame.registers in
    let m1 = insert m 1 (Num j) in
    let s1 = put s (s.frame.slot + 1) R1 (Num j) in
    let s2 = put s1 (s.frame.slot + 1 + 1) R2 (Num value) in
    let s3 = sending s2 (s.frame.slot + 1 + 1 + 1) j value in
    let here : j ≡ j + 0 = omega arith in
    let small : value < 2 ^ 32 = All-head IsSlot (Some value) values fit in
    let to1 : get (insert m1 2 (Num value)) 1 ≡ Some (Num j) = put_other m1 2 (Num value) 1 (λ e. omega arith)
    ∙ put_same m 1 (Num j) in
    let e1 : step program env s ≡ Ok (Running s1) = moves program env s _ R1 (operand.Imm (pos j))
    (Num j) stands.0 refl (begins program _ _ stands.1.0) refl refl in
    let e2 : step program env s1 ≡ Ok (Running s2) = moves_low program env s1 _ R2 value stands.1.0 refl
    (begins program _ _ stands.1.1.0) small refl in
    let e3 : step program env s2 ≡ Ok (Running s3) =
    sends program env s2 _ j value stands.1.1.0 refl
    (first_begins program _ (say_blocks (suc j) values) tail refl stands.1.1.1) to1 (put_same m1 2 (Num value))
    (omega (arith, all)) small in
    let rest = finish_says program env s3 values (suc j) value_for stands.1.1.1 (omega (arith, all))
    (All-tail IsSlot (Some value) values fit)
    (λ k. let there : suc j + k ≡ j + suc k = omega arith in ap value_for there ∙ is (suc k))
    (sent_next j value value_for s.sent (ap value_for here ∙ is 0) sent) in
    after program env 3 3 (3 * length values + 2) (3 * suc (length values) + 2) s s3 s.memory value_for
    (_, e1, (_, e2, (_, e3, refl))) (omega arith) (omega arith) rest

ones_says : (values : List (Option ℕ)) (j : ℕ) → Ones (say_blocks j values)
ones_says [] j = tt
ones_says (None ∷ values) j = ones_says values (suc j)
ones_says (Some value ∷ values) j = (refl, (refl, (refl, ones_says values (suc j))))

pub ones_say : (values : List (Option ℕ)) → Ones (say_listing values)
ones_say values = ones_append (say_blocks 0 values) tail (ones_says values 0) (refl, (refl, tt))

say_has_end : (values : List (Option ℕ)) (shape : Extent) (env : Setting) (memory : List ℕ)
    → length values ≡ shape.nodes → All IsSlot values → IsNodeStart shape env memory
    → HasEnd (say_listing values) env memory (IsSayEnd values env memory)
say_has_end values shape env memory whole fit start =
    let p = say_listing values in
    let value_for = λ (k : ℕ). slice_index_or values k None in
    let all : length values ≡ env.shape.nodes = whole ∙ sym (ap (λ (x : Extent). x.nodes) start.extent) in
    let run = finish_says p env (entry env memory) values 0 value_for (stands_whole p (ones_say values))
    (omega (arith, all)) fit
    (λ k. let e : 0 + k ≡ k = omega arith in ap value_for e) (nothing_sent value_for) in
    record {
      end = record { steps = run.count; memory = memory; sent = run.gone; r0 = 0 };
      run = run.leads;
      is = record { memory = refl; sent = run.sent; r0 = refl; steps = omega (arith, run.few, all) };
    }

pub say_has_runs : (values : List (Option ℕ)) (shape : Extent) → length values ≡ shape.nodes → All IsSlot values
    → HasRuns (say_listing values) shape
say_has_runs values shape whole fit env memory start = let has = say_has_end values shape env memory whole fit start in
    (has.end, has.run)

pub say_ends_so : (values : List (Option ℕ)) (shape : Extent) → length values ≡ shape.nodes → All IsSlot values
    → EndsBy (say_listing values) shape (IsSayEnd values)
say_ends_so values shape whole fit env memory end start run =
    one_end (say_listing values) env memory (IsSayEnd values env memory)
    (say_has_end values shape env memory whole fit start) end run

-- ---- echo

-- its mail to each of n nodes from j on
finish_echoes : (program : List Insn) (env : Setting) (s : MachineState) (n j : ℕ) → IsSetting env
    → Stands program s.frame.slot (echo_blocks n j ++ tail) → j + n ≡ env.shape.nodes
    → IsSentTo j (λ k. Some (received env k)) s.sent
    → Finishes program env s (5 * n + 2) s.memory (λ k. Some (received env k))
finish_echoes program env s zero j is stands all sent =
    let whole : j ≡ env.shape.nodes = omega (arith, all) in
    finish_tail program env s (λ k. Some (received env k)) stands
    (subst (λ (k : ℕ). IsSentTo k (λ l. Some (received env l)) s.sent) whole sent)
finish_echoes program env s (suc n) j is stands all sent =
    let r = received env j in
    let lt : j < env.shape.nodes = omega (arith, all) in
    let s1 = put s (s.frame.slot + 1) R1 (Num j) in
    let s2 = called s1 (s.frame.slot + 1 + 1) r in
    let s3 = put s2 (s.frame.slot + 1 + 1 + 1) R2 (Num r) in
    let s4 = put s3 (s.frame.slot + 1 + 1 + 1 + 1) R1 (Num j) in
    let s5 = sending s4 (s.frame.slot + 1 + 1 + 1 + 1 + 1) j r in
    let m3 = s3.frame.registers in
    let r0 : get s2.frame.registers 0 ≡ Some (Num r) = put_same _ 0 (Num r) in
    let what : get (insert m3 1 (Num j)) 2 ≡ Some (Num r) = put_other m3 1 (Num j) 2 (λ e. omega arith)
    ∙ put_same s2.frame.registers 2 (Num r) in
    let e1 : step program env s ≡ Ok (Running s1) = moves program env s _ R1 (operand.Imm (pos j))
    (Num j) stands.0 refl (begins program _ _ stands.1.0) refl refl in
    let e2 : step program env s1 ≡ Ok (Running s2) = receives program env s1 _ j stands.1.0 refl
    (begins program _ _ stands.1.1.0) (put_same s.frame.registers 1 (Num j)) lt in
    let e3 : step program env s2 ≡ Ok (Running s3) = moves program env s2 _ R2 (operand.Reg R0)
    (Num r) stands.1.1.0 refl (begins program _ _ stands.1.1.1.0) (rw r0 refl) refl in
    let e4 : step program env s3 ≡ Ok (Running s4) = moves program env s3 _ R1 (operand.Imm (pos j))
    (Num j) stands.1.1.1.0 refl (begins program _ _ stands.1.1.1.1.0) refl refl in
    let e5 : step program env s4 ≡ Ok (Running s5) =
    sends program env s4 _ j r stands.1.1.1.1.0 refl
    (first_begins program _ (echo_blocks n (suc j)) tail refl stands.1.1.1.1.1) (put_same m3 1 (Num j)) what lt
    (received_fits env j is) in
    let rest = finish_echoes program env s5 n (suc j) is stands.1.1.1.1.1 (omega (arith, all))
    (sent_next j r (λ k. Some (received env k)) s.sent refl sent) in
    after program env 5 5 (5 * n + 2) (5 * suc n + 2) s s5 s.memory (λ k. Some (received env k))
    (_, e1, (_, e2, (_, e3, (_, e4, (_, e5, refl))))) (omega arith) (omega arith) rest

ones_echoes : (n j : ℕ) → Ones (echo_blocks n j)
ones_echoes zero j = tt
ones_echoes (suc n) j = (refl, (refl, (refl, (refl, (refl, ones_echoes n (suc j))))))

pub ones_echo : (nodes : ℕ) → Ones (echo_listing nodes)
ones_echo nodes = ones_append (echo_blocks nodes 0) tail (ones_echoes nodes 0) (refl, (refl, tt))

echo_has_end : (shape : Extent) (env : Setting) (memory : List ℕ) → IsNodeStart shape env memory
    → HasEnd (echo_listing shape.nodes) env memory (IsEchoEnd env memory)
echo_has_end shape env memory start =
    let p = echo_listing shape.nodes in
    let all : shape.nodes ≡ env.shape.nodes = sym (ap (λ (x : Extent). x.nodes) start.extent) in
    let run = finish_echoes p env (entry env memory) shape.nodes 0 start.setting
    (stands_whole p (ones_echo shape.nodes)) (omega (arith, all)) (nothing_sent (λ k. Some (received env k))) in
    record {
      end = record { steps = run.count; memory = memory; sent = run.gone; r0 = 0 };
      run = run.leads;
      is = record { memory = refl; sent = run.sent; r0 = refl; steps = omega (arith, run.few, all) };
    }

pub echo_has_runs : (shape : Extent) → HasRuns (echo_listing shape.nodes) shape
echo_has_runs shape env memory start = let has = echo_has_end shape env memory start in (has.end, has.run)

pub echo_ends_so : (shape : Extent) → EndsBy (echo_listing shape.nodes) shape IsEchoEnd
echo_ends_so shape env memory end start run = one_end (echo_listing shape.nodes) env memory (IsEchoEnd env memory)
    (echo_has_end shape env memory start) end run
