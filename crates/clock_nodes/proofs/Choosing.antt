-- The part of the clock program that chooses the new pair.
use Rattle.std.proofs.Common.{◌≡◌, ◌≢◌, ℕ, ◌+◌, ◌%◌, ◌^◌, ◌<◌, ◌≤◌, Bool, true, false, cond, List, ◌++◌, Some, Ok, not, ◌==◌, nat_lt, slice_get, pos, refl, sym, ap, ◌∙◌, arith, inl, inr}
use Rattle.std.specs.FinMap.{get, insert}
use Rattle.std.proofs.Math.Nat.{mod-eq_of_lt, mod_self}
use Rattle.std.proofs.lemmas.Bool.{cases_eq, eq-eqb, ne_eqb, lt-ltb, le-ltb, le-leb, lt-leb, ltb-true, ltb-false, eqb-true, eqb-false}
use Rattle.node_env.specs.declared.region.Region.TheVariants.{Mem}
use Rattle.node_env.specs.Env.{Setting}
use Rattle.bpf_insn.specs.declared.forms.Reg.TheVariants.{R0, R6, R7, R8, R9}
use Rattle.bpf_insn.specs.declared.forms.Width.TheVariants.{W64}
use Rattle.bpf_insn.specs.declared.forms.Cond.TheVariants.{Ne, Ge, Lt}
use Rattle.bpf_insn.specs.declared.forms.Operand.TheVariants.{Imm, Reg}
use Rattle.bpf_insn.specs.declared.forms.Insn.{Insn}
use Rattle.bpf_insn.specs.Arithmetic.{holds}
use Rattle.bpf_insn.specs.Programs.{insn_at}
use Rattle.bpf_insn.specs.Edges.{BeginsAt}
use Rattle.bpf_machine.specs.declared.word.Word.TheVariants.{Num, Ptr}
use Rattle.bpf_machine.specs.Machine.{MachineState, Running}
use Rattle.bpf_machine.specs.Step.{byte_at, number_at, step}
use Rattle.bpf_machine.specs.Run.{Leads}
use Rattle.clock_nodes.specs.Rule.{pair_from}
use Rattle.clock_nodes.specs.Listings.{choice}
use Rattle.clock_nodes.proofs.Places.{Stands, begins, found_in}
use Rattle.clock_nodes.proofs.Forms.{put_same, put_other, call_keeps, reaches, differs, is_less, put, at, called, moves, adds, tosses, passes, jumps, goes, loads}

-- the choice leads behind its end, with the new pair in r7 and r9
pub record Decided (program : List Insn) (env : Setting) (s : MachineState) (base : ℕ) (pair : ℕ × ℕ) : Type 0 where
  pub count : ℕ
  pub new : MachineState
  pub leads : Leads program env count (Running s) (Running new)
  pub few : count ≤ 8
  pub slot : new.frame.slot ≡ base + 18
  pub r6 : get new.frame.registers 6 ≡ Some (Ptr Mem 0)
  pub r7 : get new.frame.registers 7 ≡ Some (Num pair.0)
  pub r9 : get new.frame.registers 9 ≡ Some (Num pair.1)
  pub memory : new.memory ≡ s.memory
  pub sent : new.sent ≡ s.sent

module _ (program rest : List Insn) (env : Setting) (s : MachineState) (base quorum modulus support v mark : ℕ)
    (stands : Stands program base (choice quorum modulus ++ rest)) (after : BeginsAt program (base + 18))
    (here : s.frame.slot ≡ base) (eight : 8 ≤ env.shape.memory)
    (q_small : quorum < 2 ^ 32) (s_small : support < 2 ^ 32) (few : modulus < 2 ^ 32) (v_small : v < modulus)
    (mark_small : mark < 2 ^ 32)
    (r6 : get s.frame.registers 6 ≡ Some (Ptr Mem 0)) (r7 : get s.frame.registers 7 ≡ Some (Num v))
    (r8 : get s.frame.registers 8 ≡ Some (Num support))
    (read : number_at (byte_at s.frame s.memory Mem) 4 4 ≡ Ok mark) where
  insn : (k : ℕ) (i : Insn) → slice_get (choice quorum modulus ++ rest) k ≡ Some i → insn_at program (base + k) ≡ Some i
  insn k i e = found_in program base (choice quorum modulus ++ rest) k i stands e

  first : insn_at program s.frame.slot ≡ insn_at program (base + 0)
  first = let e : s.frame.slot ≡ base + 0 = omega (arith, here) in ap (insn_at program) e

  -- the support is too small
  forgets : support < quorum → Decided program env s base (0, 0)
  forgets low =
      let m = s.frame.registers in
      let s1 = at s (base + 1) in
      let s2 = put s1 (base + 2) R7 (Num 0) in
      let s3 = put s2 (base + 3) R9 (Num 0) in
      let s4 = at s3 (base + 18) in
      let test : holds Ge W64 support quorum ≡ false = reaches support quorum (omega (arith, s_small))
      (omega (arith, q_small)) ∙ lt-leb quorum support low in
      let e1 : step program env s ≡ Ok (Running s1) = passes program env s (base + 1) Ge R8 (Imm (pos quorum))
      (pos 3) support quorum (first ∙ insn 0 _ refl) (omega (arith, here))
      (begins program _ _ (insn 1 _ refl)) r8 refl test in
      let e2 : step program env s1 ≡ Ok (Running s2) = moves program env s1 (base + 2) R7 (Imm (pos 0)) (Num 0)
      (insn 1 _ refl) (omega arith) (begins program _ _ (insn 2 _ refl)) refl refl in
      let e3 : step program env s2 ≡ Ok (Running s3) = moves program env s2 (base + 3) R9 (Imm (pos 0)) (Num 0)
      (insn 2 _ refl) (omega arith) (begins program _ _ (insn 3 _ refl)) refl refl in
      let e4 : step program env s3 ≡ Ok (Running s4) = goes program env s3 (base + 18) 14 (insn 3 _ refl)
      (omega arith) after in
      record {
        count = 4;
        new = s4;
        leads = (_, e1, (_, e2, (_, e3, (_, e4, refl))));
        few = omega arith;
        slot = refl;
        r6 = put_other _ 9 (Num 0) 6 (λ e. omega arith) ∙ put_other m 7 (Num 0) 6 (λ e. omega arith) ∙ r6;
        r7 = put_other _ 9 (Num 0) 7 (λ e. omega arith) ∙ put_same m 7 (Num 0);
        r9 = put_same _ 9 (Num 0);
        memory = refl;
        sent = refl;
      }

  -- the support is there
  ready : (k : ℕ) → k ≡ base + 4 → quorum ≤ support → step program env s ≡ Ok (Running (at s k))
  ready k e enough =
      let test : holds Ge W64 support quorum ≡ true = reaches support quorum (omega (arith, s_small))
      (omega (arith, q_small)) ∙ le-leb quorum support enough in
      let there : insn_at program k ≡ insn_at program (base + 4) = ap (insn_at program) e in
      jumps program env s k Ge R8 (Imm (pos quorum)) 3 support quorum (first ∙ insn 0 _ refl) (omega (arith, here, e))
      (begins program _ _ (there ∙ insn 4 _ refl)) r8 refl test

  -- the clock moves on
  moves_on : quorum ≤ support → v ≢ 0 → Decided program env s base ((v + 1) % modulus, 1)
  moves_on enough moving =
      let m = s.frame.registers in
      let s1 = at s (base + 4) in
      let s2 = at s1 (base + 14) in
      let s3 = put s2 (base + 15) R7 (Num (v + 1)) in
      let s4 = put s3 (base + 16) R9 (Num 1) in
      let m3 = insert m 7 (Num (v + 1)) in
      let m4 = insert m3 9 (Num 1) in
      let test : holds Ne W64 v 0 ≡ true = differs v 0 (omega (arith, v_small, few)) (omega arith)
      ∙ ap not (ne_eqb v 0 moving) in
      let clock : get m4 7 ≡ Some (Num (v + 1)) = put_other m3 9 (Num 1) 7 (λ e. omega arith)
      ∙ put_same m 7 (Num (v + 1)) in
      let place6 : get m4 6 ≡ Some (Ptr Mem 0) = put_other m3 9 (Num 1) 6 (λ e. omega arith)
      ∙ put_other m 7 (Num (v + 1)) 6 (λ e. omega arith) ∙ r6 in
      let less : holds Lt W64 (v + 1) modulus ≡ nat_lt (v + 1) modulus = is_less (v + 1) modulus
      (omega (arith, v_small, few)) (omega (arith, few)) in
      let e1 : step program env s ≡ Ok (Running s1) = ready (base + 4) refl enough in
      let e2 : step program env s1 ≡ Ok (Running s2) = jumps program env s1 (base + 14) Ne R7 (Imm (pos 0)) 9 v 0
      (insn 4 _ refl) (omega arith) (begins program _ _ (insn 14 _ refl)) r7 refl test in
      let e3 : step program env s2 ≡ Ok (Running s3) = adds program env s2 (base + 15) R7 (Imm (pos 1)) v 1
      (insn 14 _ refl) (omega arith) (begins program _ _ (insn 15 _ refl)) r7 refl refl
      (omega (arith, v_small, few)) in
      let e4 : step program env s3 ≡ Ok (Running s4) = moves program env s3 (base + 16) R9 (Imm (pos 1)) (Num 1)
      (insn 15 _ refl) (omega arith) (begins program _ _ (insn 16 _ refl)) refl refl in
      elim (cases_eq (v + 1) modulus) [
        | inl top ↦
            let s5 = at s4 (base + 17) in
            let s6 = put s5 (base + 18) R7 (Num 0) in
            let over : nat_lt (v + 1) modulus ≡ false = le-ltb (v + 1) modulus (omega (arith, top)) in
            let zero_again : 0 ≡ (v + 1) % modulus = sym (ap (λ (n : ℕ). n % modulus) top ∙ mod_self modulus) in
            let e5 : step program env s4 ≡ Ok (Running s5) = passes program env s4 (base + 17) Lt R7
            (Imm (pos modulus)) (pos 1) (v + 1) modulus (insn 16 _ refl) (omega arith)
            (begins program _ _ (insn 17 _ refl)) clock refl (less ∙ over) in
            let e6 : step program env s5 ≡ Ok (Running s6) = moves program env s5 (base + 18) R7 (Imm (pos 0)) (Num 0)
            (insn 17 _ refl) (omega arith) after refl refl in
            record {
              count = 6;
              new = s6;
              leads = (_, e1, (_, e2, (_, e3, (_, e4, (_, e5, (_, e6, refl))))));
              few = omega arith;
              slot = refl;
              r6 = put_other m4 7 (Num 0) 6 (λ e. omega arith) ∙ place6;
              r7 = put_same m4 7 (Num 0) ∙ ap (λ (n : ℕ). Some (Num n)) zero_again;
              r9 = put_other m4 7 (Num 0) 9 (λ e. omega arith) ∙ put_same m3 9 (Num 1);
              memory = refl;
              sent = refl;
            }
        | inr below ↦
            let s5 = at s4 (base + 18) in
            let small : v + 1 < modulus = omega (arith, v_small, below) in
            let e5 : step program env s4 ≡ Ok (Running s5) = jumps program env s4 (base + 18) Lt R7
            (Imm (pos modulus)) 1 (v + 1) modulus (insn 16 _ refl) (omega arith) after clock refl
            (less ∙ lt-ltb (v + 1) modulus small) in
            record {
              count = 5;
              new = s5;
              leads = (_, e1, (_, e2, (_, e3, (_, e4, (_, e5, refl)))));
              few = omega arith;
              slot = refl;
              r6 = place6;
              r7 = clock ∙ ap (λ (n : ℕ). Some (Num n)) (sym (mod-eq_of_lt small));
              r9 = put_same m3 9 (Num 1);
              memory = refl;
              sent = refl;
            }
      ]

  zero_test : v ≡ 0 → holds Ne W64 v 0 ≡ false
  zero_test e = differs v 0 (omega (arith, v_small, few)) (omega arith) ∙ ap not (eq-eqb v 0 e)

  -- the clock is 0, and was marked
  starts : quorum ≤ support → v ≡ 0 → mark ≢ 0 → Decided program env s base (1, 1)
  starts enough still marked =
      let m = s.frame.registers in
      let s1 = at s (base + 4) in
      let s2 = at s1 (base + 5) in
      let s3 = put s2 (base + 6) R9 (Num mark) in
      let s4 = at s3 (base + 11) in
      let s5 = put s4 (base + 12) R7 (Num 1) in
      let s6 = put s5 (base + 13) R9 (Num 1) in
      let s7 = at s6 (base + 18) in
      let m3 = insert m 9 (Num mark) in
      let m5 = insert m3 7 (Num 1) in
      let test : holds Ne W64 mark 0 ≡ true = differs mark 0 (omega (arith, mark_small)) (omega arith)
      ∙ ap not (ne_eqb mark 0 marked) in
      let e1 : step program env s ≡ Ok (Running s1) = ready (base + 4) refl enough in
      let e2 : step program env s1 ≡ Ok (Running s2) = passes program env s1 (base + 5) Ne R7 (Imm (pos 0)) (pos 9) v 0
      (insn 4 _ refl) (omega arith) (begins program _ _ (insn 5 _ refl)) r7 refl (zero_test still) in
      let e3 : step program env s2 ≡ Ok (Running s3) = loads program env s2 (base + 6) R9 R6 (pos 4) 4 mark
      (insn 5 _ refl) (omega arith) (begins program _ _ (insn 6 _ refl)) r6 refl refl
      (le-leb 8 env.shape.memory eight) read in
      let e4 : step program env s3 ≡ Ok (Running s4) = jumps program env s3 (base + 11) Ne R9 (Imm (pos 0)) 4 mark 0
      (insn 6 _ refl) (omega arith) (begins program _ _ (insn 11 _ refl)) (put_same m 9 (Num mark)) refl test in
      let e5 : step program env s4 ≡ Ok (Running s5) = moves program env s4 (base + 12) R7 (Imm (pos 1)) (Num 1)
      (insn 11 _ refl) (omega arith) (begins program _ _ (insn 12 _ refl)) refl refl in
      let e6 : step program env s5 ≡ Ok (Running s6) = moves program env s5 (base + 13) R9 (Imm (pos 1)) (Num 1)
      (insn 12 _ refl) (omega arith) (begins program _ _ (insn 13 _ refl)) refl refl in
      let e7 : step program env s6 ≡ Ok (Running s7) = goes program env s6 (base + 18) 4 (insn 13 _ refl)
      (omega arith) after in
      record {
        count = 7;
        new = s7;
        leads = (_, e1, (_, e2, (_, e3, (_, e4, (_, e5, (_, e6, (_, e7, refl)))))));
        few = omega arith;
        slot = refl;
        r6 = put_other m5 9 (Num 1) 6 (λ e. omega arith) ∙ put_other m3 7 (Num 1) 6 (λ e. omega arith)
            ∙ put_other m 9 (Num mark) 6 (λ e. omega arith) ∙ r6;
        r7 = put_other m5 9 (Num 1) 7 (λ e. omega arith) ∙ put_same m3 7 (Num 1);
        r9 = put_same m5 9 (Num 1);
        memory = refl;
        sent = refl;
      }

  -- the coin decides
  coin_decides : quorum ≤ support → v ≡ 0 → mark ≡ 0 → Decided program env s base (env.coin, env.coin)
  coin_decides enough still unmarked =
      let m = s.frame.registers in
      let c = env.coin in
      let s1 = at s (base + 4) in
      let s2 = at s1 (base + 5) in
      let s3 = put s2 (base + 6) R9 (Num mark) in
      let s4 = at s3 (base + 7) in
      let s5 = called s4 (base + 8) c in
      let s6 = put s5 (base + 9) R7 (Num c) in
      let s7 = put s6 (base + 10) R9 (Num c) in
      let s8 = at s7 (base + 18) in
      let m3 = insert m 9 (Num mark) in
      let m5 = s5.frame.registers in
      let m6 = insert m5 7 (Num c) in
      let r0 : get m5 0 ≡ Some (Num c) = put_same _ 0 (Num c) in
      let r0_still : get m6 0 ≡ Some (Num c) = put_other m5 7 (Num c) 0 (λ e. omega arith) ∙ r0 in
      let test : holds Ne W64 mark 0 ≡ false = differs mark 0 (omega (arith, mark_small)) (omega arith)
      ∙ ap not (eq-eqb mark 0 unmarked) in
      let e1 : step program env s ≡ Ok (Running s1) = ready (base + 4) refl enough in
      let e2 : step program env s1 ≡ Ok (Running s2) = passes program env s1 (base + 5) Ne R7 (Imm (pos 0)) (pos 9) v 0
      (insn 4 _ refl) (omega arith) (begins program _ _ (insn 5 _ refl)) r7 refl (zero_test still) in
      let e3 : step program env s2 ≡ Ok (Running s3) = loads program env s2 (base + 6) R9 R6 (pos 4) 4 mark
      (insn 5 _ refl) (omega arith) (begins program _ _ (insn 6 _ refl)) r6 refl refl
      (le-leb 8 env.shape.memory eight) read in
      let e4 : step program env s3 ≡ Ok (Running s4) = passes program env s3 (base + 7) Ne R9 (Imm (pos 0))
      (pos 4) mark 0 (insn 6 _ refl) (omega arith) (begins program _ _ (insn 7 _ refl))
      (put_same m 9 (Num mark)) refl test in
      let e5 : step program env s4 ≡ Ok (Running s5) = tosses program env s4 (base + 8) (insn 7 _ refl) (omega arith)
      (begins program _ _ (insn 8 _ refl)) in
      let e6 : step program env s5 ≡ Ok (Running s6) = moves program env s5 (base + 9) R7 (Reg R0) (Num c)
      (insn 8 _ refl) (omega arith) (begins program _ _ (insn 9 _ refl)) (rw r0 refl) refl in
      let e7 : step program env s6 ≡ Ok (Running s7) = moves program env s6 (base + 10) R9 (Reg R0) (Num c)
      (insn 9 _ refl) (omega arith) (begins program _ _ (insn 10 _ refl)) (rw r0_still refl) refl in
      let e8 : step program env s7 ≡ Ok (Running s8) = goes program env s7 (base + 18) 7 (insn 10 _ refl)
      (omega arith) after in
      record {
        count = 8;
        new = s8;
        leads = (_, e1, (_, e2, (_, e3, (_, e4, (_, e5, (_, e6, (_, e7, (_, e8, refl))))))));
        few = omega arith;
        slot = refl;
        r6 = put_other m6 9 (Num c) 6 (λ e. omega arith) ∙ put_other m5 7 (Num c) 6 (λ e. omega arith)
            ∙ call_keeps s4.frame c 6 (omega arith) ∙ put_other m 9 (Num mark) 6 (λ e. omega arith) ∙ r6;
        r7 = put_other m6 9 (Num c) 7 (λ e. omega arith) ∙ put_same m5 7 (Num c);
        r9 = put_same m6 9 (Num c);
        memory = refl;
        sent = refl;
      }

  -- the test of the mark mark, of the clock, of the support
  by_mark : quorum ≤ support → v ≡ 0 → (b : Bool) → (mark == 0) ≡ b
      → Decided program env s base (cond (not b) (1, 1) (env.coin, env.coin))
  by_mark enough still true e = coin_decides enough still (eqb-true mark 0 e)
  by_mark enough still false e = starts enough still (eqb-false mark 0 e)

  by_clock : quorum ≤ support → (b : Bool) → (v == 0) ≡ b
      → Decided program env s base (cond (not b) ((v + 1) % modulus, 1)
      (cond (not (mark == 0)) (1, 1) (env.coin, env.coin)))
  by_clock enough true e = by_mark enough (eqb-true v 0 e) (mark == 0) refl
  by_clock enough false e = moves_on enough (eqb-false v 0 e)

  by_support : (b : Bool) → nat_lt support quorum ≡ b
      → Decided program env s base (cond b (0, 0)
      (cond (not (v == 0)) ((v + 1) % modulus, 1) (cond (not (mark == 0)) (1, 1) (env.coin, env.coin))))
  by_support true e = forgets (ltb-true support quorum e)
  by_support false e = by_clock (ltb-false support quorum e) (v == 0) refl

pub decided : (program rest : List Insn) (env : Setting) (s : MachineState) (base quorum modulus support v mark : ℕ)
    → Stands program base (choice quorum modulus ++ rest) → BeginsAt program (base + 18) → s.frame.slot ≡ base
    → 8 ≤ env.shape.memory
    → quorum < 2 ^ 32 → support < 2 ^ 32 → modulus < 2 ^ 32 → v < modulus → mark < 2 ^ 32
    → get s.frame.registers 6 ≡ Some (Ptr Mem 0) → get s.frame.registers 7 ≡ Some (Num v)
    → get s.frame.registers 8 ≡ Some (Num support)
    → number_at (byte_at s.frame s.memory Mem) 4 4 ≡ Ok mark
    → Decided program env s base (pair_from quorum modulus support v mark env.coin)
decided program rest env s base quorum modulus support v mark stands after here eight q_small s_small few v_small
    mark_small r6 r7 r8 read =
    by_support program rest env s base quorum modulus support v mark stands after here eight q_small s_small few
    v_small mark_small r6 r7 r8 read (nat_lt support quorum) refl
