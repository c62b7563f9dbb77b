-- The clock program from its stores on.
use Rattle.std.proofs.Common.{◌≡◌, ℕ, zero, suc, ◌+◌, ◌*◌, ◌^◌, ◌<◌, ◌≤◌, List, ◌++◌, Some, Ok, slice_set, pos, refl, ◌∙◌, arith, subst}
use Rattle.std.specs.FinMap.{get, insert}
use Rattle.std.proofs.lemmas.Bool.{le-leb}
use Rattle.node_env.specs.declared.region.Region.TheVariants.{Mem}
use Rattle.node_env.specs.Env.{Setting}
use Rattle.bpf_insn.specs.declared.forms.Reg.TheVariants.{R1, R2, R6, R7, R9}
use Rattle.bpf_insn.specs.declared.forms.Operand.TheVariants.{Imm, Reg}
use Rattle.bpf_insn.specs.declared.forms.Insn.{Insn}
use Rattle.bpf_machine.specs.declared.word.Word.TheVariants.{Num, Ptr}
use Rattle.bpf_machine.specs.Machine.{MachineState, Running}
use Rattle.bpf_machine.specs.Step.{with_number, step}
use Rattle.clock_nodes.specs.Listings.{store_listing, send_blocks, tail}
use Rattle.clock_nodes.specs.Ends.{IsSentTo}
use Rattle.clock_nodes.proofs.Places.{Stands, begins, first_begins}
use Rattle.clock_nodes.proofs.Forms.{put_same, put_other, call_keeps, put, sending, storing, moves, sends, stores}
use Rattle.clock_nodes.proofs.Runs.{Finishes, after, finish_tail, sent_next}

-- the clock, in r7, is sent to n nodes from j on
pub finish_sends : (program : List Insn) (env : Setting) (s : MachineState) (clock n j : ℕ)
    → Stands program s.frame.slot (send_blocks n j ++ tail) → j + n ≡ env.shape.nodes → clock < 2 ^ 32
    → get s.frame.registers 7 ≡ Some (Num clock) → IsSentTo j (λ k. Some clock) s.sent
    → Finishes program env s (3 * n + 2) s.memory (λ k. Some clock)
finish_sends program env s clock zero j stands all small r7 sent =
    let whole : j ≡ env.shape.nodes = omega (arith, all) in
    finish_tail program env s (λ k. Some clock) stands
    (subst (λ (k : ℕ). IsSentTo k (λ l. Some clock) s.sent) whole sent)
finish_sends program env s clock (suc n) j stands all small r7 sent =
    let m = s.frame.registers in
    let m1 = insert m 1 (Num j) in
    let s1 = put s (s.frame.slot + 1) R1 (Num j) in
    let s2 = put s1 (s.frame.slot + 1 + 1) R2 (Num clock) in
    let s3 = sending s2 (s.frame.slot + 1 + 1 + 1) j clock in
    let clock1 : get m1 7 ≡ Some (Num clock) = put_other m 1 (Num j) 7 (λ e. omega arith) ∙ r7 in
    let to1 : get (insert m1 2 (Num clock)) 1 ≡ Some (Num j) = put_other m1 2 (Num clock) 1 (λ e. omega arith)
    ∙ put_same m 1 (Num j) in
    let clock3 : get s3.frame.registers 7 ≡ Some (Num clock) = call_keeps s2.frame 0 7 (omega arith)
    ∙ put_other m1 2 (Num clock) 7 (λ e. omega arith) ∙ clock1 in
    let e1 : step program env s ≡ Ok (Running s1) = moves program env s _ R1 (Imm (pos j)) (Num j) stands.0 refl
    (begins program _ _ stands.1.0) refl refl in
    let e2 : step program env s1 ≡ Ok (Running s2) = moves program env s1 _ R2 (Reg R7) (Num clock) stands.1.0 refl
    (begins program _ _ stands.1.1.0) (rw clock1 refl) refl in
    let e3 : step program env s2 ≡ Ok (Running s3) =
    sends program env s2 _ j clock stands.1.1.0 refl
    (first_begins program _ (send_blocks n (suc j)) tail refl stands.1.1.1) to1 (put_same m1 2 (Num clock))
    (omega (arith, all)) small in
    let rest = finish_sends program env s3 clock n (suc j) stands.1.1.1 (omega (arith, all)) small clock3
    (sent_next j clock (λ k. Some clock) s.sent refl sent) in
    after program env 3 3 (3 * n + 2) (3 * suc n + 2) s s3 s.memory (λ k. Some clock) (_, e1, (_, e2, (_, e3, refl)))
    (omega arith) (omega arith) rest

-- from the stores of a pair that is in r7 and r9
pub finish_stores : (program : List Insn) (env : Setting) (s : MachineState) (pair : ℕ × ℕ)
    → Stands program s.frame.slot (store_listing ++ (send_blocks env.shape.nodes 0 ++ tail)) → 8 ≤ env.shape.memory
    → pair.0 < 2 ^ 32
    → get s.frame.registers 6 ≡ Some (Ptr Mem 0) → get s.frame.registers 7 ≡ Some (Num pair.0)
    → get s.frame.registers 9 ≡ Some (Num pair.1) → IsSentTo 0 (λ k. Some pair.0) s.sent
    → Finishes program env s (3 * env.shape.nodes + 4)
    (with_number slice_set (with_number slice_set s.memory 0 4 pair.0) 4 4 pair.1) (λ k. Some pair.0)
finish_stores program env s pair stands eight small r6 r7 r9 sent =
    let n = env.shape.nodes in
    let s1 = storing s (s.frame.slot + 1) 0 pair.0 in
    let s2 = storing s1 (s.frame.slot + 1 + 1) 4 pair.1 in
    let next = first_begins program _ (send_blocks n 0) tail refl stands.1.1 in
    let e1 : step program env s ≡ Ok (Running s1) = stores program env s _ R6 R7 (pos 0) 0 pair.0 stands.0 refl
    (begins program _ _ stands.1.0) r6 r7 refl (le-leb 4 env.shape.memory (omega (arith, eight))) in
    let e2 : step program env s1 ≡ Ok (Running s2) = stores program env s1 _ R6 R9
    (pos 4) 4 pair.1 stands.1.0 refl next r6 r9 refl (le-leb 8 env.shape.memory eight) in
    let rest = finish_sends program env s2 pair.0 n 0 stands.1.1 (omega arith) small r7 sent in
    after program env 2 2 (3 * n + 2) (3 * n + 4) s s2 _ _ (_, e1, (_, e2, refl)) (omega arith) (omega arith) rest
