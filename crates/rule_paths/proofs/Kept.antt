-- What each pulse of a covered rule keeps: numbers of 32 bits, bytes, and the length of the memory.
use Rattle.std.proofs.Common.{◌≡◌, ℕ, ◌+◌, ◌*◌, ◌^◌, ◌<◌, ◌≤◌, ◌==◌, Bool, true, false, if◌then◌else◌, Option, Some, None, List, [], length, All, refl, sym, ap, ◌∙◌, arith, inl, inr, subst}
use Rattle.std.specs.FinMap.{get, get-empty}
use Rattle.std.specs.Ordering.{nat_cmp}
use Rattle.std.proofs.lemmas.Bool.{cases_eq, cases_lt, eq-eqb, ne_eqb}
use Rattle.node_env.specs.Env.{Setting}
use Rattle.rule_syntax.specs.declared.syntax.Sizes.{Sizes}
use Rattle.rule_syntax.specs.declared.syntax.Target.{Target}
use Rattle.rule_syntax.specs.declared.syntax.Target.TheVariants.{ToLocal, ToWord}
use Rattle.rule_syntax.specs.declared.syntax.Assignment.{Assignment}
use Rattle.rule_syntax.specs.declared.syntax.Assignment.TheVariants.{One, Also'}
use Rattle.rule_syntax.specs.declared.syntax.Term.{Term}
use Rattle.rule_syntax.specs.declared.syntax.Statement.{Statement}
use Rattle.rule_syntax.specs.declared.syntax.Statement.TheVariants.{Nothing, Then', Let', Assign, If', For', SendAll, SendTo}
use Rattle.rule_meaning.specs.Meaning.{NodeState, truth, word_at, value, with_local, assigned, all_assigned, sent_below, after, initial_state, pulse}
use Rattle.rule_nodes.proofs.Words.{word_length, word_bytes}
use Rattle.rule_paths.specs.Relations.{Constant, Numbers}
use Rattle.rule_paths.specs.Covered.{TermIsCovered, AssignmentIsCovered, RuleIsCovered, always_sends}
use Rattle.rule_paths.specs.Stores.{Store, CanSee, LeavesNode}
use Rattle.rule_paths.proofs.Terms.{term_found}
use Rattle.rule_paths.proofs.Blocks.{sending_keeps, sent_to_each, sent_to_no_other, sends_one}

-- a state whose numbers have 32 bits
pub record IsSound (W : ℕ) (u : NodeState) : Type 0 where
  pub small : (k : ℕ) → u.locals k < 2 ^ 32
  pub room : 4 * W ≤ length u.memory
  pub bytes : All (λ byte. byte < 256) u.memory
  pub sent : (j x : ℕ) → get u.sent j ≡ Some x → x < 2 ^ 32

pub record IsKept (W : ℕ) (u t : NodeState) : Type 0 where
  pub sound : IsSound W t
  pub length : length t.memory ≡ length u.memory

module _ (W : ℕ) (z : Sizes) (env : Setting) (sees : CanSee z env) where
  abbrev sizes : Numbers
  sizes = λ i. if i == 0 then z.nodes else (if i == 1 then z.faults else z.modulus)

  abbrev constants : NodeState → Store
  constants u = record {
    me = Constant env.id;
    coin = Constant env.coin;
    locals = λ k. Constant (u.locals k);
    words = λ k. Constant (word_at k u.memory);
  }

  value_small : (t : Term) (u : NodeState) → TermIsCovered W 0 t → IsSound W u → value t z env [] u < 2 ^ 32
  value_small t u covered h =
      (term_found W z env sees None [] t (constants u) u 3 sizes covered refl (record {
        sizes = record {
          nodes = λ w same. same 0 (omega arith);
          faults = λ w same. same 1 (omega arith);
          modulus = λ w same. same 2 (omega arith);
        };
        me = λ w same. refl;
        coin = λ w same. refl;
        locals = λ k w same. refl;
        words = λ k lt w same. refl;
        small = h.small;
        room = h.room;
        bytes = h.bytes;
      })).small

  local_kept : (u : NodeState) (i x : ℕ) → x < 2 ^ 32 → IsSound W u → IsKept W u (with_local i x u)
  local_kept u i x small h = record {
    sound = record {
      small = λ j. elim (cases_eq j i) [
        | inl same ↦ rw (eq-eqb j i same) small
        | inr other ↦ rw (ne_eqb j i other) (h.small j)
      ];
      room = h.room;
      bytes = h.bytes;
      sent = h.sent;
    };
    length = refl;
  }

  assigned_kept : (target : Target) (u : NodeState) (x : ℕ) → x < 2 ^ 32 → IsSound W u → IsKept W u (assigned target x u)
  assigned_kept (ToLocal i) u x small h = local_kept u i x small h
  assigned_kept (ToWord i) u x small h =
      let same = word_length i x u.memory in
      record {
        sound = record {
          small = h.small;
          room = omega (arith, same, h.room);
          bytes = word_bytes i x u.memory h.bytes;
          sent = h.sent;
        };
        length = same;
      }

  kept_then : (u t r : NodeState) → IsKept W u t → IsKept W t r → IsKept W u r
  kept_then u t r f g = record { sound = g.sound; length = g.length ∙ f.length }

  all_assigned_kept : (a : Assignment) (u : NodeState) → AssignmentIsCovered W a → IsSound W u
      → IsKept W u (all_assigned a z env [] u)
  all_assigned_kept (One target e) u covered h =
      assigned_kept target u (value e z env [] u) (value_small e u covered.1 h) h
  all_assigned_kept (Also' p front target e) u covered h =
      let f = all_assigned_kept front u covered.0 h in
      let t = all_assigned front z env [] u in
      kept_then u t (assigned target (value e z env [] u) t) f
      (assigned_kept target t (value e z env [] u) (value_small e u covered.2 h) f.sound)

  sending_kept : (u : NodeState) (x : ℕ) → x < 2 ^ 32 → IsSound W u → IsKept W u (sent_below z.nodes x u)
  sending_kept u x small h =
      let keeps = sending_keeps z.nodes x u in
      record {
        sound = record {
          small = λ k. subst (λ (l : ℕ → ℕ). l k < 2 ^ 32) (sym keeps.0) (h.small k);
          room = subst (λ (l : List ℕ). 4 * W ≤ length l) (sym keeps.1) h.room;
          bytes = subst (All (λ byte. byte < 256)) (sym keeps.1) h.bytes;
          sent = λ j y e. elim (cases_lt j z.nodes) [
            | inl less ↦ let same = one x y (get (sent_below z.nodes x u).sent j) (sent_to_each z.nodes x u j less) e in
                omega (arith, same, small)
            | inr more ↦ h.sent j y (sym (sent_to_no_other z.nodes x u j more) ∙ e)
          ];
        };
        length = ap length keeps.1;
      }
    where
      one : (a b : ℕ) (o : Option ℕ) → o ≡ Some a → o ≡ Some b → a ≡ b
      one a b o e f = cc

  pub block_kept : (p : Statement) (d : ℕ) (u : NodeState) → RuleIsCovered W p → IsSound W u → IsKept W u (after p z env d [] u)
  block_kept Nothing d u covered h = record { sound = h; length = refl }
  block_kept (Then' p a q b) d u covered h =
      let f = block_kept a d u covered.0 h in
      let t = after a z env d [] u in
      kept_then u t (after b z env d [] t) f (block_kept b d t covered.1 f.sound)
  block_kept (Let' e p rest) d u covered h =
      let t = with_local d (value e z env [] u) u in
      let f = local_kept u d (value e z env [] u) (value_small e u covered.0 h) h in
      kept_then u t (after rest z env (d + 1) [] t) f (block_kept rest (d + 1) t covered.1 f.sound)
  block_kept (Assign a) d u covered h = all_assigned_kept a u covered h
  block_kept (If' t p a q b) d u covered h =
      by (truth (value t z env [] u)) (block_kept a d u covered.1 h) (block_kept b d u covered.2 h)
    where
      by : (c : Bool) → IsKept W u (after a z env d [] u) → IsKept W u (after b z env d [] u)
          → IsKept W u (if c then after a z env d [] u else after b z env d [] u)
      by true f g = f
      by false f g = g
  block_kept (For' p body) d u covered h = absurd covered
  block_kept (SendAll e) d u covered h = sending_kept u (value e z env [] u) (value_small e u covered h) h
  block_kept (SendTo e to) d u covered h = absurd covered

-- ---- rules

pub left : (rule : Statement) (W : ℕ) (z : Sizes) (env : Setting) (memory : List ℕ) → CanSee z env → RuleIsCovered W rule
    → always_sends rule ≡ true → 4 * W ≤ length memory → All (λ byte. byte < 256) memory
    → LeavesNode z.nodes memory (pulse rule z env memory)
left rule W z env memory sees covered sends room bytes =
    let kept = block_kept W z env sees rule 0 (initial_state memory) covered (record {
      small = λ k. omega arith;
      room = room;
      bytes = bytes;
      sent = λ j x e. absurd (none x (get-empty nat_cmp j) e);
    }) in
    let one = sends_one rule W z env memory sees covered sends in
    record {
      number = one.0;
      small = kept.sound.sent 0 one.0 (one.1.each 0 (omega (arith, sees.id)));
      sent = one.1;
      length = kept.length;
      bytes = kept.sound.bytes;
    }
  where
    none : {o : Option ℕ} (x : ℕ) → o ≡ None → o ≡ Some x → ⊥
    none x e f = absurd (cc (e, f))
