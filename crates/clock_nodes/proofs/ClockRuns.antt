-- The whole run of the clock program, from its end to its beginning.
use Rattle.std.proofs.Common.{◌≡◌, ℕ, zero, suc, ◌+◌, ◌*◌, ◌-◌, ◌^◌, ◌<◌, ◌≤◌, true, false, List, ◌++◌, length, Some, Ok, nat_lt, slice_get, slice_set, pos, refl, sym, ap, ◌∙◌, arith, subst, inl, inr, All}
use Rattle.std.specs.FinMap.{empty, get, insert}
use Rattle.std.proofs.lemmas.Bool.{cases_lt, le-leb, lt-ltb, le-ltb}
use Rattle.node_env.specs.declared.region.Region.TheVariants.{Mem}
use Rattle.node_env.specs.Env.{Extent, Setting, IsSetting}
use Rattle.bpf_insn.specs.declared.forms.Reg.TheVariants.{R1, R6, R7, R8}
use Rattle.bpf_insn.specs.declared.forms.Width.TheVariants.{W64}
use Rattle.bpf_insn.specs.declared.forms.Cond.TheVariants.{Lt}
use Rattle.bpf_insn.specs.declared.forms.Operand.TheVariants.{Imm, Reg}
use Rattle.bpf_insn.specs.declared.forms.Insn.{Insn}
use Rattle.bpf_insn.specs.Arithmetic.{holds}
use Rattle.bpf_insn.specs.Edges.{BeginsAt}
use Rattle.bpf_machine.specs.declared.word.Word.TheVariants.{Num, Ptr}
use Rattle.bpf_machine.specs.Machine.{MachineState, Running, Ended, entry}
use Rattle.bpf_machine.specs.Step.{number_at, with_number, step}
use Rattle.bpf_machine.specs.Run.{Leads, End}
use Rattle.clock_nodes.specs.Rule.{Rule, IsRule, support, clock_below, clock_of, mark_of, pair_from, pair_after, with_pair}
use Rattle.clock_nodes.specs.Listings.{head, count_blocks, choice, store_listing, send_blocks, tail, listing, clock_listing}
use Rattle.clock_nodes.specs.Ends.{IsSentTo, IsNodeStart, IsClockEnd, HasRuns, EndsBy}
use Rattle.clock_nodes.proofs.Places.{Stands, begins, first_begins, stands_behind, Ones, ones_append, stands_whole}
use Rattle.clock_nodes.proofs.Forms.{put_same, put_other, is_less, put, at, moves, passes, jumps, loads}
use Rattle.clock_nodes.proofs.Runs.{Finishes, after, nothing_sent, HasEnd, one_end}
use Rattle.clock_nodes.proofs.Sending.{finish_stores}
use Rattle.clock_nodes.proofs.Counting.{Counting, finish_blocks, support_few}
use Rattle.clock_nodes.proofs.Choosing.{Decided, decided}
use Rattle.clock_nodes.proofs.Pairs.{clock_small, pair_small}
use Rattle.clock_nodes.proofs.Bytes.{HasPair, has_pair}

-- ---- from the choice on

finish_choice : (program : List Insn) (env : Setting) (s : MachineState) (quorum modulus v mark : ℕ) → IsSetting env
    → Stands program s.frame.slot (choice quorum modulus ++ (store_listing ++ (send_blocks env.shape.nodes 0 ++ tail)))
    → quorum < 2 ^ 32 → 2 ≤ modulus → modulus < 2 ^ 32 → v < modulus → mark < 2 ^ 32
    → Counting v (support env.inbox v env.shape.nodes) s.frame.registers → s.sent ≡ empty
    → number_at (slice_get s.memory) 4 4 ≡ Ok mark
    → (pair : ℕ × ℕ) → pair ≡ pair_from quorum modulus (support env.inbox v env.shape.nodes) v mark env.coin
    → Finishes program env s (3 * env.shape.nodes + 12)
    (with_number slice_set (with_number slice_set s.memory 0 4 pair.0) 4 4 pair.1) (λ k. Some pair.0)
finish_choice program env s quorum modulus v mark is stands q_small some few v_small mark_small live none read pair
    is_pair =
    let n = env.shape.nodes in
    let to = s.frame.slot + 18 in
    let sup = support env.inbox v n in
    let rest = store_listing ++ (send_blocks n 0 ++ tail) in
    let behind : Stands program to rest = stands_behind program s.frame.slot to
    (choice quorum modulus) rest refl stands in
    let small = pair_small quorum modulus sup v mark env.coin some is.coin in
    let d : Decided program env s s.frame.slot pair = subst (Decided program env s s.frame.slot) (sym is_pair)
    (decided program rest env s s.frame.slot quorum modulus sup v mark stands
    (begins program to _ behind.0) refl is.extent.least q_small
    (omega (arith, support_few env.inbox v n, is.extent.few)) few v_small mark_small live.r6 live.r7 live.r8 read) in
    let there = subst (λ (k : ℕ). Stands program k rest) (sym d.slot) behind in
    let fits : pair.0 < 2 ^ 32 = subst (λ (x : ℕ × ℕ). x.0 < 2 ^ 32) (sym is_pair) (omega (arith, small.0, few)) in
    let end = finish_stores program env d.new pair there is.extent.least fits d.r6 d.r7 d.r9
    (subst (IsSentTo 0 (λ k. Some pair.0)) (sym (d.sent ∙ none)) (nothing_sent (λ k. Some pair.0))) in
    after program env d.count 8 (3 * n + 4) (3 * n + 12) s d.new _ _ d.leads d.few (omega arith)
    (subst (λ (x : List ℕ). Finishes program env d.new (3 * n + 4)
    (with_number slice_set (with_number slice_set x 0 4 pair.0) 4 4 pair.1) (λ k. Some pair.0)) d.memory end)

-- ---- the head

-- the head leads behind it, with the clock in r7
record Begun (program : List Insn) (env : Setting) (memory : List ℕ) (v : ℕ) : Type 0 where
  pub count : ℕ
  pub new : MachineState
  pub leads : Leads program env count (Running (entry env memory)) (Running new)
  pub few : count ≤ 5
  pub slot : new.frame.slot ≡ 5
  pub registers : Counting v 0 new.frame.registers
  pub memory_kept : new.memory ≡ memory
  pub sent : new.sent ≡ empty

begun : (program rest : List Insn) (env : Setting) (memory : List ℕ) (modulus clock : ℕ)
    → Stands program 0 (head modulus ++ rest) → BeginsAt program 5 → 8 ≤ env.shape.memory
    → modulus < 2 ^ 32 → clock < 2 ^ 32 → number_at (slice_get memory) 0 4 ≡ Ok clock
    → Begun program env memory (clock_below modulus clock)
begun program rest env memory modulus clock stands behind eight few small read =
    let s = entry env memory in
    let m = s.frame.registers in
    let m1 = insert m 6 (Ptr Mem 0) in
    let m2 = insert m1 7 (Num clock) in
    let s1 = put s 1 R6 (Ptr Mem 0) in
    let s2 = put s1 2 R7 (Num clock) in
    let r1 : get m 1 ≡ Some (Ptr Mem 0) = put_same _ 1 (Ptr Mem 0) in
    let place : get m2 6 ≡ Some (Ptr Mem 0) = put_other m1 7 (Num clock) 6 (λ e. omega arith)
    ∙ put_same m 6 (Ptr Mem 0) in
    let test : holds Lt W64 clock modulus ≡ nat_lt clock modulus = is_less clock modulus (omega (arith, small))
    (omega (arith, few)) in
    let e1 : step program env s ≡ Ok (Running s1) = moves program env s 1 R6 (Reg R1) (Ptr Mem 0) stands.0 refl
    (begins program _ _ stands.1.0) (rw r1 refl) refl in
    let e2 : step program env s1 ≡ Ok (Running s2) = loads program env s1 2 R7 R6 (pos 0) 0 clock stands.1.0 refl
    (begins program _ _ stands.1.1.0) (put_same m 6 (Ptr Mem 0)) refl refl
    (le-leb 4 env.shape.memory (omega (arith, eight))) read in
    elim (cases_lt clock modulus) [
      | inl less ↦
          let s3 = at s2 4 in
          let s4 = put s3 5 R8 (Num 0) in
          let below : nat_lt clock modulus ≡ true = lt-ltb clock modulus less in
          let e3 : step program env s2 ≡ Ok (Running s3) = jumps program env s2 4 Lt R7
          (Imm (pos modulus)) 1 clock modulus stands.1.1.0 refl (begins program _ _ stands.1.1.1.1.0)
          (put_same m1 7 (Num clock)) refl (test ∙ below) in
          let e4 : step program env s3 ≡ Ok (Running s4) = moves program env s3 5 R8 (Imm (pos 0))
          (Num 0) stands.1.1.1.1.0 refl behind refl refl in
          let same : clock ≡ clock_below modulus clock = rw below refl in
          record {
            count = 4;
            new = s4;
            leads = (_, e1, (_, e2, (_, e3, (_, e4, refl))));
            few = omega arith;
            slot = refl;
            registers = record {
              r6 = put_other m2 8 (Num 0) 6 (λ e. omega arith) ∙ place;
              r7 = put_other m2 8 (Num 0) 7 (λ e. omega arith) ∙ put_same m1 7 (Num clock)
                  ∙ ap (λ (n : ℕ). Some (Num n)) same;
              r8 = put_same m2 8 (Num 0);
            };
            memory_kept = refl;
            sent = refl;
          }
      | inr over ↦
          let s3 = at s2 3 in
          let s4 = put s3 4 R7 (Num 0) in
          let s5 = put s4 5 R8 (Num 0) in
          let m4 = insert m2 7 (Num 0) in
          let above : nat_lt clock modulus ≡ false = le-ltb clock modulus over in
          let e3 : step program env s2 ≡ Ok (Running s3) = passes program env s2 3 Lt R7 (Imm (pos modulus))
          (pos 1) clock modulus stands.1.1.0 refl (begins program _ _ stands.1.1.1.0)
          (put_same m1 7 (Num clock)) refl (test ∙ above) in
          let e4 : step program env s3 ≡ Ok (Running s4) = moves program env s3 4 R7 (Imm (pos 0))
          (Num 0) stands.1.1.1.0 refl (begins program _ _ stands.1.1.1.1.0) refl refl in
          let e5 : step program env s4 ≡ Ok (Running s5) = moves program env s4 5 R8 (Imm (pos 0))
          (Num 0) stands.1.1.1.1.0 refl behind refl refl in
          let same : 0 ≡ clock_below modulus clock = rw above refl in
          record {
            count = 5;
            new = s5;
            leads = (_, e1, (_, e2, (_, e3, (_, e4, (_, e5, refl)))));
            few = omega arith;
            slot = refl;
            registers = record {
              r6 = put_other m4 8 (Num 0) 6 (λ e. omega arith) ∙ put_other m2 7 (Num 0) 6 (λ e. omega arith) ∙ place;
              r7 = put_other m4 8 (Num 0) 7 (λ e. omega arith) ∙ put_same m2 7 (Num 0)
                  ∙ ap (λ (n : ℕ). Some (Num n)) same;
              r8 = put_same m4 8 (Num 0);
            };
            memory_kept = refl;
            sent = refl;
          }
    ]

-- ---- the whole

finish_all : (program : List Insn) (env : Setting) (memory : List ℕ) (quorum modulus : ℕ) → IsSetting env
    → Stands program 0 (listing env.shape.nodes quorum modulus)
    → quorum < 2 ^ 32 → 2 ≤ modulus → modulus < 2 ^ 32 - 1 → clock_of memory < 2 ^ 32 → mark_of memory < 2 ^ 32
    → HasPair memory
    → (pair : ℕ × ℕ) → pair ≡ pair_from quorum modulus
    (support env.inbox (clock_below modulus (clock_of memory)) env.shape.nodes)
    (clock_below modulus (clock_of memory)) (mark_of memory) env.coin
    → Finishes program env (entry env memory) (17 + 7 * env.shape.nodes)
    (with_number slice_set (with_number slice_set memory 0 4 pair.0) 4 4 pair.1) (λ k. Some pair.0)
finish_all program env memory quorum modulus is stands q_small some few clock_fits mark_fits has pair is_pair =
    let n = env.shape.nodes in
    let v = clock_below modulus (clock_of memory) in
    let v_small : v < modulus = clock_small modulus (clock_of memory) (omega (arith, some)) in
    let rest = choice quorum modulus ++ (store_listing ++ (send_blocks n 0 ++ tail)) in
    let counting : Stands program 5 (count_blocks n 0 ++ rest) = stands.1.1.1.1.1 in
    let a = begun program (count_blocks n 0 ++ rest) env memory modulus (clock_of memory) stands
    (first_begins program 5 (count_blocks n 0) rest refl counting) is.extent.least
    (omega (arith, few)) clock_fits has.clock in
    let there = subst (λ (k : ℕ). Stands program k (count_blocks n 0 ++ rest)) (sym a.slot) counting in
    let left = with_number slice_set (with_number slice_set memory 0 4 pair.0) 4 4 pair.1 in
    let end = finish_blocks program rest env a.new v n 0 (3 * n + 12) left (λ k. Some pair.0) is
    (omega (arith, v_small, few)) (omega arith) refl there a.registers
    (λ t at live kept sent.
    let same : t.memory ≡ memory = kept ∙ a.memory_kept in
    let read : number_at (slice_get t.memory) 4 4 ≡ Ok (mark_of memory) = ap
    (λ (x : List ℕ). number_at (slice_get x) 4 4) same ∙ has.mark in
    subst (λ (x : List ℕ). Finishes program env t (3 * n + 12)
    (with_number slice_set (with_number slice_set x 0 4 pair.0) 4 4 pair.1) (λ k. Some pair.0)) same
    (finish_choice program env t quorum modulus v (mark_of memory) is at q_small some
    (omega (arith, few)) v_small mark_fits live (sent ∙ a.sent) read pair is_pair)) in
    after program env a.count 5 (4 * n + (3 * n + 12)) (17 + 7 * n) (entry env memory) a.new _ _ a.leads a.few
    (omega arith) end

ones_count : (n j : ℕ) → Ones (count_blocks n j)
ones_count zero j = tt
ones_count (suc n) j = (refl, (refl, (refl, (refl, ones_count n (suc j)))))

ones_send : (n j : ℕ) → Ones (send_blocks n j)
ones_send zero j = tt
ones_send (suc n) j = (refl, (refl, (refl, ones_send n (suc j))))

pub ones_clock : (nodes quorum modulus : ℕ) → Ones (listing nodes quorum modulus)
ones_clock nodes quorum modulus =
    let ones_rest : Ones (send_blocks nodes 0 ++ tail) = ones_append (send_blocks nodes 0) tail (ones_send nodes 0)
    (refl, (refl, tt)) in
    let ones_choice : Ones (choice quorum modulus ++ (store_listing ++ (send_blocks nodes 0 ++ tail))) = (
      refl,
      (
        refl,
        (
          refl,
          (
            refl,
            (
              refl,
              (
                refl,
                (
                  refl,
                  (
                    refl,
                    (
                      refl,
                      (
                        refl,
                        (
                          refl,
                          (
                            refl,
                            (
                              refl,
                              (refl, (refl, (refl, (refl, (refl, (refl, (refl, ones_rest))))))),
                            ),
                          ),
                        ),
                      ),
                    ),
                  ),
                ),
              ),
            ),
          ),
        ),
      ),
    ) in
    (refl, (refl, (refl, (refl, (refl, ones_append (count_blocks nodes 0) _ (ones_count nodes 0) ones_choice)))))

long_enough : (k n : ℕ) → k ≡ n → 8 ≤ n → 8 ≤ k
long_enough k n e h = omega arith

clock_ended : (rule : Rule) (env : Setting) (memory : List ℕ) → IsRule rule.nodes rule.faults rule.modulus
    → env.shape.nodes ≡ rule.nodes → IsSetting env → length memory ≡ env.shape.memory
    → All (λ byte. byte < 256) memory → HasEnd (listing env.shape.nodes (env.shape.nodes - rule.faults) rule.modulus)
    env memory (IsClockEnd rule.faults rule.modulus env memory)
clock_ended rule env memory ok nodes is whole bytes =
    let n = env.shape.nodes in
    let quorum = n - rule.faults in
    let p = listing n quorum rule.modulus in
    let pair = pair_after rule.faults rule.modulus env memory in
    let has = has_pair memory (long_enough (length memory) env.shape.memory whole is.extent.least) in
    let run = finish_all p env memory quorum rule.modulus is (stands_whole p (ones_clock n quorum rule.modulus))
    (omega (arith, is.extent.few)) ok.least (omega (arith, ok.most)) (has.clock_fits bytes)
    (has.mark_fits bytes) has pair refl in
    let end : End = record { steps = run.count; memory = with_pair pair memory; sent = run.gone; r0 = 0 } in
    record {
      end = end;
      run = subst (λ (x : List ℕ). Leads p env run.count (Running (entry env memory)) (Ended x run.gone 0))
          (has.stored pair) run.leads;
      is = record { memory = refl; sent = run.sent; r0 = refl; steps = run.few };
    }

clock_has_end : (rule : Rule) (shape : Extent) (env : Setting) (memory : List ℕ)
    → IsRule rule.nodes rule.faults rule.modulus → rule.nodes ≡ shape.nodes → IsNodeStart shape env memory
    → HasEnd (clock_listing rule) env memory (IsClockEnd rule.faults rule.modulus env memory)
clock_has_end rule shape env memory ok nodes start =
    let same : env.shape.nodes ≡ rule.nodes = ap (λ (x : Extent). x.nodes) start.extent ∙ sym nodes in
    subst (λ (n : ℕ). HasEnd (listing n (n - rule.faults) rule.modulus) env memory
    (IsClockEnd rule.faults rule.modulus env memory)) same
    (clock_ended rule env memory ok same start.setting start.length start.bytes)

pub clock_has_runs : (rule : Rule) (shape : Extent) → IsRule rule.nodes rule.faults rule.modulus
    → rule.nodes ≡ shape.nodes → HasRuns (clock_listing rule) shape
clock_has_runs rule shape ok nodes env memory start = let has = clock_has_end rule shape env memory ok nodes start in
    (has.end, has.run)

pub clock_ends_so : (rule : Rule) (shape : Extent) → IsRule rule.nodes rule.faults rule.modulus
    → rule.nodes ≡ shape.nodes → EndsBy (clock_listing rule) shape (IsClockEnd rule.faults rule.modulus)
clock_ends_so rule shape ok nodes env memory end start run =
    one_end (clock_listing rule) env memory (IsClockEnd rule.faults rule.modulus env memory)
    (clock_has_end rule shape env memory ok nodes start) end run
