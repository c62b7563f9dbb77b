-- The runs of statements.
use Rattle.std.proofs.Common.{◌≡◌, ◌≢◌, ℕ, zero, suc, ◌+◌, ◌*◌, ◌%◌, ◌^◌, ◌<◌, ◌≤◌, Bool, true, false, if◌then◌else◌, ◌&&◌, ◌||◌, nat_lt, nat_le, Option, None, List, [], ◌∷◌, ◌++◌, length, Some, Ok, All, pos, slice_set, refl, sym, ap, ◌∙◌, arith, subst, inl, inr, length-append}
use Rattle.std.specs.Int.{w32, w64, cast_signed, cast_unsigned}
use Rattle.std.specs.FinMap.{get, insert}
use Rattle.std.proofs.lemmas.Option.{none-some}
use Rattle.std.proofs.lemmas.Bool.{cases_Bool, cases_eq, eq-eqb, eqb-true, ne_eqb, and_parts, ltb-true, ltb-false, le-leb, lt-leb, cond-true, cond-false, or_cases}
use Rattle.std.proofs.lemmas.List.Elements.{All-push}
use Rattle.node_env.specs.Env.{Setting}
use Rattle.bpf_insn.specs.declared.forms.Reg.{Reg}
use Rattle.bpf_insn.specs.declared.forms.Reg.TheVariants.{R0, R1, R2, R6}
use Rattle.bpf_insn.specs.declared.forms.Width.TheVariants.{W32}
use Rattle.bpf_insn.specs.declared.forms.Operand.TheVariants as operand
use Rattle.bpf_insn.specs.declared.forms.Insn.{Insn}
use Rattle.bpf_insn.specs.declared.forms.Insn.TheVariants as i
use Rattle.bpf_insn.specs.Registers.{register_number}
use Rattle.bpf_insn.specs.Programs.{insn_at}
use Rattle.bpf_insn.specs.Edges.{BeginsAt}
use Rattle.bpf_machine.specs.declared.word.Word.TheVariants.{Num}
use Rattle.bpf_machine.specs.Machine.{MachineState, Running}
use Rattle.bpf_machine.specs.Step.{step, with_number, after_call}
use Rattle.clock_nodes.proofs.Places.{Stands}
use Rattle.clock_nodes.proofs.Forms.{put_same, put_other, call_keeps, put, at, sending, storing, moves, sends, stores}
use Rattle.rule_syntax.specs.declared.syntax.Sizes.{Sizes}
use Rattle.rule_syntax.specs.declared.syntax.Comparison.TheVariants.{AtLeast}
use Rattle.rule_nodes.specs.declared.numbers.TheConstants.{PLACES}
use Rattle.rule_nodes.specs.declared.numbers.Place.{Place}
use Rattle.rule_nodes.specs.declared.numbers.Place.TheVariants.{InRegister, OnStack}
use Rattle.rule_nodes.specs.declared.numbers.Purpose.TheVariants.{Value, Jump}
use Rattle.rule_syntax.specs.declared.syntax.Operation.{Operation}
use Rattle.rule_syntax.specs.declared.syntax.Target.{Target}
use Rattle.rule_syntax.specs.declared.syntax.Target.TheVariants.{ToLocal, ToWord}
use Rattle.rule_syntax.specs.declared.syntax.Assignment.{Assignment}
use Rattle.rule_syntax.specs.declared.syntax.Assignment.TheVariants.{One, Also'}
use Rattle.rule_nodes.specs.declared.numbers.Tally.{Tally}
use Rattle.rule_nodes.specs.declared.numbers.Tally.TheVariants.{HowMany, LeastMessage}
use Rattle.rule_nodes.specs.declared.numbers.Source.{Source}
use Rattle.rule_nodes.specs.declared.numbers.Source.TheVariants.{Constant, FromLocal, FromWord, Computed}
use Rattle.rule_syntax.specs.declared.syntax.Term.{Term}
use Rattle.rule_syntax.specs.declared.syntax.Term.TheVariants.{Number, Me, Coin, Local, Binary', Count', Least'}
use Rattle.rule_syntax.specs.declared.syntax.Statement.{Statement}
use Rattle.rule_syntax.specs.declared.syntax.Statement.TheVariants.{Nothing, Then', Let', Assign, If', For', SendAll, SendTo}
use Rattle.rule_syntax.specs.declared.syntax.Operator.TheVariants.{Compute}
use Rattle.rule_meaning.specs.Meaning.{NodeState, apply, value, word_at, message_from, truth, with_local, assigned, all_assigned, with_sent, sent_below, each_below, after}
use Rattle.rule_nodes.specs.Operands.{is_constant, constant_number, is_local, is_operand, is_asked, is_steady, depth_behind, term_source}
use Rattle.rule_nodes.specs.Fits.{HasPlace, Fits, TargetFits, AssignmentFits, BlockFits}
use Rattle.rule_nodes.specs.Code.{number_place, fetch_code, keep_code, copy, cond_of, tallied_code, term_code, over_code, stored_code, passed_code, idle_code, send_to_constant_code, assign_code, place_code, word_code, set_code, given_code, alu_op_of, change_place, changing_insn, one_code, also_code, assignment_code, get_code, send_code, send_codes, send_all_code, receiver_code, send_to_code, each_code, is_nothing, block_code}
use Rattle.rule_nodes.proofs.Small.{compared, imm_low, apply_small}
use Rattle.rule_nodes.proofs.Forms.{copies, operates_in, stores_number, stays, once, chain, further}
use Rattle.rule_nodes.proofs.Words.{word_small, word_stored, word_low, word_length, word_bytes}
use Rattle.rule_nodes.proofs.Places.{inside, IsInside, IsPlace, place_is, not_frame, IsIn, At, IsFramed, in_alike, framed_alike, Placed, fetches, keeps_at, put_at}
use Rattle.rule_nodes.proofs.States.{stands_front, stands_back, Same, same_self, same_then, same_put, same_placed, alike_same, Holds, still_holds, IsSized}
use Rattle.rule_nodes.proofs.Sources.{is_found}
use Rattle.rule_nodes.proofs.TallyLaws.{tally_below, tally_small}
use Rattle.rule_nodes.proofs.Shared.{count_fits, least_fits}
use Rattle.rule_nodes.proofs.TermRuns.{hop, behind_more, behind_few, IsAt, found_same, source_is, Fetched, get_steps, Has, Gets, gets, here_is, branch_leads, fetch_runs, keep_runs, if_runs, OverRuns, tallied_runs, over_runs, constant_is, constant_small, term_runs, nodes_few}

-- ---- what holds after a write

-- a number goes into place k, which is a local or the next one
pub holds_local : (env : Setting) (d e k v : ℕ) (u : NodeState) (s t : MachineState) → e ≤ PLACES
    → ((j : ℕ) → j < e → j ≢ k → j < d) → v < 2 ^ 32 → Placed k v s t → Holds env d u s
    → Holds env e (with_local k v u) t
holds_local env d e k v u s t few below fits p h =
    record {
      r6 = p.r6 ∙ h.r6;
      locals = λ j lt. elim (cases_eq j k) [
        | inl same ↦
            let is : v ≡ (with_local k v u).locals j = rw (eq-eqb j k same) refl in
            subst (λ (x : ℕ). At j t x) is (subst (λ (i : ℕ). At i t v) (sym same) p.there)
        | inr other ↦
            let is : u.locals j ≡ (with_local k v u).locals j = rw (ne_eqb j k other) refl in
            subst (λ (x : ℕ). At j t x) is
            (p.others j (u.locals j) other (omega (arith, lt, few)) (h.locals j (below j lt other)))
      ];
      framed = p.framed h.framed;
      small = λ j lt. elim (cases_eq j k) [
        | inl same ↦ rw (eq-eqb j k same) fits
        | inr other ↦ rw (ne_eqb j k other) (h.small j (below j lt other))
      ];
      memory = p.memory ∙ h.memory;
      sent = p.sent ∙ h.sent;
      room = h.room;
      bytes = h.bytes;
    }

pub holds_less : (env : Setting) (d : ℕ) (u : NodeState) (s : MachineState) → Holds env (d + 1) u s → Holds env d u s
holds_less env d u s h = record {
  r6 = h.r6;
  locals = λ k lt. h.locals k (omega arith);
  framed = h.framed;
  small = λ k lt. h.small k (omega arith);
  memory = h.memory;
  sent = h.sent;
  room = h.room;
  bytes = h.bytes;
}

holds_at : (env : Setting) (d : ℕ) (u : NodeState) (s : MachineState) (to : ℕ) → Holds env d u s
    → Holds env d u (at s to)
holds_at env d u s to h = record {
  r6 = h.r6;
  locals = h.locals;
  framed = h.framed;
  small = h.small;
  memory = h.memory;
  sent = h.sent;
  room = h.room;
  bytes = h.bytes;
}

holds_word : (env : Setting) (d k v : ℕ) (u : NodeState) (s : MachineState) (to : ℕ) → Holds env d u s
    → Holds env d (assigned (ToWord k) v u) (storing s to (4 * k) v)
holds_word env d k v u s to h = record {
  r6 = h.r6;
  locals = h.locals;
  framed = h.framed;
  small = h.small;
  memory = ap (λ m. with_number slice_set m (4 * k) 4 v) h.memory ∙ word_stored k v u.memory;
  sent = h.sent;
  room = word_length k v u.memory ∙ h.room;
  bytes = word_bytes k v u.memory h.bytes;
}

-- a number of which the low 32 bits are the word
holds_low : (env : Setting) (d k v raw : ℕ) (u : NodeState) (s : MachineState) (to : ℕ) → raw % 2 ^ 32 ≡ v
    → Holds env d u s → Holds env d (assigned (ToWord k) v u) (storing s to (4 * k) raw)
holds_low env d k v raw u s to low h = record {
  r6 = h.r6;
  locals = h.locals;
  framed = h.framed;
  small = h.small;
  memory = ap (λ m. with_number slice_set m (4 * k) 4 raw) h.memory ∙ word_stored k raw u.memory
      ∙ word_low k raw v u.memory low;
  sent = h.sent;
  room = word_length k v u.memory ∙ h.room;
  bytes = word_bytes k v u.memory h.bytes;
}

-- a number that is in its place already
holds_there : (env : Setting) (d v : ℕ) (u : NodeState) (t : MachineState) → v < 2 ^ 32 → At d t v
    → Holds env d u t → Holds env (d + 1) (with_local d v u) t
holds_there env d v u t fits there h = record {
  r6 = h.r6;
  locals = λ j lt. elim (cases_eq j d) [
    | inl same ↦
        let is : v ≡ (with_local d v u).locals j = rw (eq-eqb j d same) refl in
        subst (λ (x : ℕ). At j t x) is (subst (λ (i : ℕ). At i t v) (sym same) there)
    | inr other ↦
        let is : u.locals j ≡ (with_local d v u).locals j = rw (ne_eqb j d other) refl in
        subst (λ (x : ℕ). At j t x) is (h.locals j (omega (arith, lt, other)))
  ];
  framed = h.framed;
  small = λ j lt. elim (cases_eq j d) [
    | inl same ↦ rw (eq-eqb j d same) fits
    | inr other ↦ rw (ne_eqb j d other) (h.small j (omega (arith, lt, other)))
  ];
  memory = h.memory;
  sent = h.sent;
  room = h.room;
  bytes = h.bytes;
}

-- a register below r6 is free
holds_put : (env : Setting) (d : ℕ) (u : NodeState) (s : MachineState) (to v : ℕ) (dst : Reg) → register_number dst < 6
    → Holds env d u s → Holds env d u (put s to dst (Num v))
holds_put env d u s to v dst low h =
    still_holds env d d u s (put s to dst (Num v)) (omega arith) h (same_put d s s to dst (Num v) low (same_self d s))

holds_sent : (env : Setting) (d j v : ℕ) (u : NodeState) (s : MachineState) (to : ℕ) → Holds env d u s
    → Holds env d (with_sent j v u) (sending s to j v)
holds_sent env d j v u s to h =
    let m = s.frame.registers in
    let n = (after_call s.frame 0).registers in
    let same : (k : ℕ) → 5 < k → get n k ≡ get m k = λ k from. call_keeps s.frame 0 k from in
    record {
      r6 = same 6 (omega arith) ∙ h.r6;
      locals = λ k lt. in_alike (number_place k) m n s.frame.stack (u.locals k) (inside k) same (h.locals k lt);
      framed = framed_alike m n s.frame.kept same h.framed;
      small = h.small;
      memory = h.memory;
      sent = ap (λ m. insert m j v) h.sent;
      room = h.room;
      bytes = h.bytes;
    }

-- the registers from r6 on, the stack and the memory are alike
pub record Near (s t : MachineState) : Type 0 where
  pub r6 : get t.frame.registers 6 ≡ get s.frame.registers 6
  pub places : (k v : ℕ) → At k s v → At k t v
  pub framed : IsFramed s → IsFramed t
  pub memory : t.memory ≡ s.memory

near_self : (s : MachineState) → Near s s
near_self s = record { r6 = refl; places = λ k v x. x; framed = λ x. x; memory = refl }

near_put : (s t : MachineState) (to v : ℕ) (dst : Reg) → register_number dst < 6 → Near s t
    → Near s (put t to dst (Num v))
near_put s t to v dst low h =
    let m = t.frame.registers in
    let n = insert m (register_number dst) (Num v) in
    let same : (k : ℕ) → 5 < k → get n k ≡ get m k =
    λ k from. put_other m (register_number dst) (Num v) k (λ e. omega (arith, e, low, from)) in
    record {
      r6 = same 6 (omega arith) ∙ h.r6;
      places = λ k w x. in_alike (number_place k) m n t.frame.stack w (inside k) same (h.places k w x);
      framed = λ x. framed_alike m n t.frame.kept same (h.framed x);
      memory = h.memory;
    }

near_sent : (s t : MachineState) (to j v : ℕ) → Near s t → Near s (sending t to j v)
near_sent s t to j v h =
    let m = t.frame.registers in
    let n = (after_call t.frame 0).registers in
    let same : (k : ℕ) → 5 < k → get n k ≡ get m k = λ k from. call_keeps t.frame 0 k from in
    record {
      r6 = same 6 (omega arith) ∙ h.r6;
      places = λ k w x. in_alike (number_place k) m n t.frame.stack w (inside k) same (h.places k w x);
      framed = λ x. framed_alike m n t.frame.kept same (h.framed x);
      memory = h.memory;
    }

near_holds : (env : Setting) (lets : ℕ) (u : NodeState) (s t : MachineState) → Near s t → Holds env lets u s
    → Holds env lets (record { locals = u.locals; memory = u.memory; sent = t.sent }) t
near_holds env lets u s t near h = record {
  r6 = near.r6 ∙ h.r6;
  locals = λ k lt. near.places k (u.locals k) (h.locals k lt);
  framed = near.framed h.framed;
  small = h.small;
  memory = near.memory ∙ h.memory;
  sent = refl;
  room = h.room;
  bytes = h.bytes;
}

-- where a number is found depends on locals and memory alone
same_at_source : (x : Source) (z : Sizes) (lets v : ℕ) (u w : NodeState) → w.locals ≡ u.locals → w.memory ≡ u.memory
    → IsAt z lets u x v → IsAt z lets w x v
same_at_source (Constant c) z lets v u w e f is = is
same_at_source (FromLocal k) z lets v u w e f is = (is.0, ap (λ (g : ℕ → ℕ). g k) e ∙ is.1)
same_at_source (FromWord k) z lets v u w e f is = (is.0, ap (word_at k) f ∙ is.1)
same_at_source Computed z lets v u w e f is = tt

found_small : (env : Setting) (x : Source) (z : Sizes) (lets v : ℕ) (u : NodeState) (s : MachineState)
    → is_found x ≡ true → IsAt z lets u x v → z.memory ≡ env.shape.memory → Holds env lets u s → v < 2 ^ 32
found_small env (Constant c) z lets v u s found is memory h = subst (λ (n : ℕ). n < 2 ^ 32) is.0 is.1
found_small env (FromLocal k) z lets v u s found is memory h = subst (λ (n : ℕ). n < 2 ^ 32) is.1 (h.small k is.0)
found_small env (FromWord k) z lets v u s found is memory h = subst (λ (n : ℕ). n < 2 ^ 32) is.1
    (word_small k u.memory (omega (arith, is.0, memory, h.room)) h.bytes)
found_small env Computed z lets v u s found is memory h = absurd (let no : false ≡ true = found in cc)

pub computed_place : (found : Bool) (d : ℕ) → found ≡ false → HasPlace found d → d < PLACES
computed_place true d e free = absurd (let no : true ≡ false = e in cc)
computed_place false d e free = free

pub nothing_here : (b : Statement) (z : Sizes) (J : List ℕ) (d : ℕ) → is_nothing b ≡ true → block_code b z J d ≡ []
nothing_here Nothing z J d e = refl
nothing_here b z J d e = absurd (let no : false ≡ true = e in cc)

-- of a state, while a number is sent
pub record Sending (env : Setting) (lets : ℕ) (u : NodeState) (s t : MachineState) : Type 0 where
  pub holds : Holds env lets u t
  pub near : Near s t

-- a state with this number in place d besides
pub record Keeps (env : Setting) (d : ℕ) (u : NodeState) (v : ℕ) (t : MachineState) : Type 0 where
  pub holds : Holds env d u t
  pub there : At d t v

-- a state of this rule state, in which the places from lets up to d are as they were
pub record Assigned (env : Setting) (lets d : ℕ) (u : NodeState) (s t : MachineState) : Type 0 where
  pub holds : Holds env lets u t
  pub kept : (k v : ℕ) → lets ≤ k → k < d → At k s v → At k t v

-- a state with this number in place d, while the places below stay
record KeptNumber (d v : ℕ) (s t : MachineState) : Type 0 where
  same : Same d s t
  there : At d t v
  small : v < 2 ^ 32

-- a state after this number is put into place k
record PlaceGiven (env : Setting) (lets k v : ℕ) (u : NodeState) (s t : MachineState) : Type 0 where
  before : MachineState
  same : Same PLACES s before
  placed : Placed k v before t
  small : v < 2 ^ 32

module _ (program : List Insn) (env : Setting) (last : ℕ) (solid : (k : ℕ) → k ≤ last → BeginsAt program k) where
  abbrev Leads : MachineState → List Insn → (MachineState → Type 0) → Type 0
  Leads s code P = Gets program env last solid s (s.frame.slot + length code) (length code) P

  -- ---- a number into a place

  -- the value, and its copy into place d
  stored_runs : (e : Term) (z : Sizes) (J : List ℕ) (d : ℕ) (rest : List Insn) (u : NodeState) (s : MachineState)
      (P : MachineState → Type 0) → IsSized z env → All (λ j. j < z.nodes) J → d < PLACES → Fits e z (length J) d d
      → Holds env d u s → Stands program s.frame.slot (term_code e z J d Value ++ (keep_code (number_place d) ∷ rest))
      → s.frame.slot + length (term_code e z J d Value ++ (keep_code (number_place d) ∷ rest)) ≤ last
      → ((t w : MachineState) → Has d s (value e z env J u) t → Placed d (value e z env J u) t w
      → Stands program w.frame.slot rest → w.frame.slot + length rest ≤ last → Leads w rest P)
      → Leads s (term_code e z J d Value ++ (keep_code (number_place d) ∷ rest)) P
  stored_runs e z J d rest u s P sized nodes small fits h stands room next =
      let v = value e z env J u in
      let code = term_code e z J d Value in
      let back = keep_code (number_place d) ∷ rest in
      let len : length (code ++ back) ≡ length code + (1 + length rest) = omega (arith, length-append code back) in
      let c = term_runs program env last solid e z J d d Value u s sized nodes (omega (arith, small)) (omega arith) fits h
      (stands_front program s.frame.slot code back stands) (omega (arith, len, room)) in
      let t = c.new in
      let there = here_is program env last solid t _ back c.slot (stands_back program s.frame.slot code back stands) in
      let p = keeps_at program env d v t (t.frame.slot + 1) small there.0 refl
      (solid _ (omega (arith, len, room, c.slot))) c.fact.r0 (c.fact.same.framed h.framed) c.fact.small in
      let t1 = p.new in
      let g = next t t1 c.fact p.fact (here_is program env last solid t1 _ rest p.slot there.1)
      (omega (arith, len, room, c.slot, p.slot)) in
      record {
        new = g.new;
        run = chain program env s t1 g.new (length code + 1) (length rest) (length (code ++ back))
            (further program env s t t1 (length code) (length code + 1) c.run p.runs (omega arith)) g.run
            (omega (arith, len));
        slot = omega (arith, len, c.slot, p.slot, g.slot);
        fact = g.fact;
      }

  -- ---- sending

  -- to node m
  send_runs : (x : Source) (lets v m : ℕ) (u : NodeState) (s s0 : MachineState) → v < 2 ^ 32 → m < env.shape.nodes
      → Near s0 s → Holds env lets u s → Stands program s.frame.slot (send_code x m) → s.frame.slot + 3 ≤ last
      → ((t : MachineState) → Near s0 t → get t.frame.registers 0 ≡ get s.frame.registers 0
      → insn_at program t.frame.slot ≡ Some (get_code R2 x) → t.frame.slot + 1 ≤ last
      → Fetched program env last solid R2 t v)
      → Leads s (send_code x m) (Sending env lets (with_sent m v u) s0)
  send_runs x lets v m u s s0 fits lt near h stands room fetch =
      let t1 = put s (s.frame.slot + 1) R1 (Num m) in
      let t2 = put t1 (s.frame.slot + 1 + 1) R2 (Num v) in
      let t3 = sending t2 (s.frame.slot + 1 + 1 + 1) m v in
      let m0 = s.frame.registers in
      let m1 = t1.frame.registers in
      let near1 : Near s0 t1 = near_put s0 s (s.frame.slot + 1) m R1 (omega arith) near in
      let near2 : Near s0 t2 = near_put s0 t1 (s.frame.slot + 1 + 1) v R2 (omega arith) near1 in
      let to1 : get t2.frame.registers 1 ≡ Some (Num m) = put_other m1 2 (Num v) 1 (λ e. omega arith)
      ∙ put_same m0 1 (Num m) in
      let e1 : step program env s ≡ Ok (Running t1) = moves program env s (s.frame.slot + 1) R1
      (operand.Imm (pos m)) (Num m) stands.0 refl (solid _ (omega (arith, room))) refl refl in
      let g = fetch t1 near1 (put_other m0 1 (Num m) 0 (λ e. omega arith)) stands.1.0 (omega (arith, room)) in
      let e3 : step program env t2 ≡ Ok (Running t3) = sends program env t2 (s.frame.slot + 1 + 1 + 1) m v
      stands.1.1.0 refl (solid _ (omega (arith, room))) to1 (put_same m1 2 (Num v)) lt fits in
      let run2 = further program env s t1 t2 1 2 (once program env s t1 e1) g.fetched (omega arith) in
      record {
        new = t3;
        run = further program env s t2 t3 2 3 run2 e3 (omega arith);
        slot = omega arith;
        fact = record {
          holds = holds_sent env lets m v u t2 (s.frame.slot + 1 + 1 + 1)
              (holds_put env lets u t1 (s.frame.slot + 1 + 1) v R2 (omega arith)
              (holds_put env lets u s (s.frame.slot + 1) m R1 (omega arith) h));
          near = near_sent s0 t2 (s.frame.slot + 1 + 1 + 1) m v near2;
        };
      }

  sends_run : (x : Source) (lets v m : ℕ) (u : NodeState) (s s0 : MachineState) → v < 2 ^ 32 → m ≤ env.shape.nodes
      → Near s0 s → Holds env lets u s → Stands program s.frame.slot (send_codes x m)
      → s.frame.slot + length (send_codes x m) ≤ last
      → ((t : MachineState) → Near s0 t → insn_at program t.frame.slot ≡ Some (get_code R2 x) → t.frame.slot + 1 ≤ last
      → Fetched program env last solid R2 t v)
      → Leads s (send_codes x m) (Sending env lets (sent_below m v u) s0)
  sends_run x lets v zero u s s0 fits le near h stands room fetch = record {
    new = s;
    run = stays program env s;
    slot = omega arith;
    fact = record { holds = h; near = near };
  }
  sends_run x lets v (suc m) u s s0 fits le near h stands room fetch =
      let front = send_codes x m in
      let back = send_code x m in
      let len : length (front ++ back) ≡ length front + 3 = length-append front back in
      let c = sends_run x lets v m u s s0 fits (omega (arith, le)) near h
      (stands_front program s.frame.slot front back stands) (omega (arith, len, room)) fetch in
      let t = c.new in
      let there = here_is program env last solid t _ back c.slot (stands_back program s.frame.slot front back stands) in
      let g = send_runs x lets v m (sent_below m v u) t s0 fits (omega (arith, le)) c.fact.near c.fact.holds there
      (omega (arith, len, room, c.slot)) (λ w near0 r0 here l. fetch w near0 here l) in
      record {
        new = g.new;
        run = chain program env s t g.new (length front) 3 (length (front ++ back)) c.run g.run (omega (arith, len));
        slot = omega (arith, len, c.slot, g.slot);
        fact = g.fact;
      }

  -- a found number
  found_sends : (x : Source) (z : Sizes) (lets v : ℕ) (u : NodeState) (s : MachineState) → is_found x ≡ true
      → IsAt z lets u x v → IsSized z env → lets ≤ PLACES → Holds env lets u s
      → Stands program s.frame.slot (send_codes x z.nodes) → s.frame.slot + length (send_codes x z.nodes) ≤ last
      → Leads s (send_codes x z.nodes) (Holds env lets (sent_below z.nodes v u))
  found_sends x z lets v u s found is sized few h stands room =
      let small : v < 2 ^ 32 = found_small env x z lets v u s found is sized.memory h in
      let end = sent_below z.nodes v u in
      gets program env last solid s _ _ _ _ (Sending env lets end s) (Holds env lets end) refl (omega arith)
      (λ t k. k.holds)
      (sends_run x lets v z.nodes u s s small (omega (arith, sized.nodes)) (near_self s) h stands room
      (λ t near here l.
      let w : NodeState = record { locals = u.locals; memory = u.memory; sent = t.sent } in
      get_steps program env last solid R2 x z lets v w t refl found
      (same_at_source x z lets v u w refl refl is) sized few
      (near_holds env lets u s t near h) here l))

  -- a found number to a node
  found_sent : (x : Source) (z : Sizes) (lets v m : ℕ) (u : NodeState) (s : MachineState) → is_found x ≡ true
      → IsAt z lets u x v → IsSized z env → m < z.nodes → lets ≤ PLACES → Holds env lets u s
      → Stands program s.frame.slot (send_code x m) → s.frame.slot + 3 ≤ last
      → Leads s (send_code x m) (Holds env lets (with_sent m v u))
  found_sent x z lets v m u s found is sized lt few h stands room =
      let small : v < 2 ^ 32 = found_small env x z lets v u s found is sized.memory h in
      let end = with_sent m v u in
      gets program env last solid s _ _ _ _ (Sending env lets end s) (Holds env lets end) refl (omega arith)
      (λ t k. k.holds)
      (send_runs x lets v m u s s small (omega (arith, lt, sized.nodes)) (near_self s) h stands room
      (λ t near r0 here l.
      let w : NodeState = record { locals = u.locals; memory = u.memory; sent = t.sent } in
      get_steps program env last solid R2 x z lets v w t refl found
      (same_at_source x z lets v u w refl refl is) sized few
      (near_holds env lets u s t near h) here l))

  -- to the node of a constant
  passed_runs : (x : Source) (e : Term) (z : Sizes) (J : List ℕ) (d m : ℕ) (u : NodeState) (s : MachineState)
      → IsAt z d u x (value e z env J u) → IsSized z env → All (λ j. j < z.nodes) J → d ≤ PLACES → m < z.nodes
      → Fits e z (length J) d d → Holds env d u s
      → Stands program s.frame.slot (passed_code x m (term_code e z J d Value))
      → s.frame.slot + length (passed_code x m (term_code e z J d Value)) ≤ last
      → Leads s (passed_code x m (term_code e z J d Value)) (Holds env d (with_sent m (value e z env J u) u))
  passed_runs (Constant c) e z J d m u s is sized nodes few lt fits h stands room =
      found_sent (Constant c) z d (value e z env J u) m u s refl is sized lt few h stands room
  passed_runs (FromLocal k) e z J d m u s is sized nodes few lt fits h stands room =
      found_sent (FromLocal k) z d (value e z env J u) m u s refl is sized lt few h stands room
  passed_runs (FromWord k) e z J d m u s is sized nodes few lt fits h stands room =
      found_sent (FromWord k) z d (value e z env J u) m u s refl is sized lt few h stands room
  passed_runs Computed e z J d m u s is sized nodes few lt fits h stands room =
      let v = value e z env J u in
      let front = term_code e z J d Value in
      let back = send_code Computed m in
      let end = with_sent m v u in
      let len : length (front ++ back) ≡ length front + 3 = length-append front back in
      let c = term_runs program env last solid e z J d d Value u s sized nodes few (omega arith) fits h
      (stands_front program s.frame.slot front back stands) (omega (arith, len, room)) in
      let t = c.new in
      let there = here_is program env last solid t _ back c.slot (stands_back program s.frame.slot front back stands) in
      let h1 = still_holds env d d u s t (omega arith) h c.fact.same in
      let g = send_runs Computed d v m u t t c.fact.small (omega (arith, lt, sized.nodes)) (near_self t) h1 there
      (omega (arith, len, room, c.slot))
      (λ w near r0 here l. record {
        fetched = copies program env w (w.frame.slot + 1) R2 R0 v here refl (solid _ l) (r0 ∙ c.fact.r0) c.fact.small refl;
        small = c.fact.small;
      }) in
      record {
        new = g.new;
        run = chain program env s t g.new (length front) 3 (length (front ++ back)) c.run g.run (omega (arith, len));
        slot = omega (arith, len, c.slot, g.slot);
        fact = g.fact.holds;
      }

  idle_runs : (z : Sizes) (J : List ℕ) (d : ℕ) (u : NodeState) (s : MachineState) → IsSized z env
      → All (λ j. j < z.nodes) J → d ≤ PLACES → Holds env d u s → Stands program s.frame.slot idle_code
      → s.frame.slot + 1 ≤ last → Leads s idle_code (Holds env d u)
  idle_runs z J d u s sized nodes few h stands room =
      let c = term_runs program env last solid (Number 0) z J d d Value u s sized nodes few (omega arith) (omega arith) h
      stands (omega (arith, room)) in
      record {
        new = c.new;
        run = c.run;
        slot = c.slot;
        fact = still_holds env d d u s c.new (omega arith) h c.fact.same;
      }

  constant_runs : (e k : Term) (z : Sizes) (J : List ℕ) (d : ℕ) (u : NodeState) (s : MachineState)
      → is_constant k ≡ true → IsSized z env → All (λ j. j < z.nodes) J → d ≤ PLACES → Fits e z (length J) d d
      → Holds env d u s
      → Stands program s.frame.slot (send_to_constant_code (term_source e z J) (constant_number k z J) z.nodes
      (term_code e z J d Value))
      → s.frame.slot + length (send_to_constant_code (term_source e z J) (constant_number k z J) z.nodes
      (term_code e z J d Value)) ≤ last
      → Leads s (send_to_constant_code (term_source e z J) (constant_number k z J) z.nodes (term_code e z J d Value))
      (Holds env d (after (SendTo e k) z env d J u))
  constant_runs e k z J d u s constant sized nodes few fits h stands room =
      let x = value k z env J u in
      let m = constant_number k z J in
      let v = value e z env J u in
      let code = passed_code (term_source e z J) m (term_code e z J d Value) in
      let is : m ≡ x = constant_is program env last solid k z J u constant in
      let End : ℕ → NodeState = λ j. if nat_lt j z.nodes then with_sent j v u else u in
      let P : List Insn → Type 0 = λ c. Stands program s.frame.slot c → s.frame.slot + length c ≤ last
      → Leads s c (Holds env d (End m)) in
      let both : P (if nat_lt m z.nodes then code else idle_code) = elim (cases_Bool (nat_lt m z.nodes)) [
        | inl so ↦ subst P (sym (cond-true (nat_lt m z.nodes) code idle_code so)) (λ st l.
            subst (λ (w : NodeState). Leads s code (Holds env d w)) (sym (cond-true (nat_lt m z.nodes) (with_sent m v u) u so))
            (passed_runs (term_source e z J) e z J d m u s (source_is program env last solid e z J d d u sized nodes fits)
            sized nodes few (ltb-true m z.nodes so) fits h st l))
        | inr other ↦ subst P (sym (cond-false (nat_lt m z.nodes) code idle_code other)) (λ st l.
            subst (λ (w : NodeState). Leads s idle_code (Holds env d w))
            (sym (cond-false (nat_lt m z.nodes) (with_sent m v u) u other)) (idle_runs z J d u s sized nodes few h st l))
      ] in
      subst (λ (j : ℕ). Leads s (if nat_lt m z.nodes then code else idle_code) (Holds env d (End j))) is (both stands room)

  -- with the receiver m in r0, and a number that is found
  receiver_runs : (x : Source) (d v m : ℕ) (z : Sizes) (u : NodeState) (t : MachineState) → IsSized z env → v < 2 ^ 32
      → m < 2 ^ 32 → Holds env d u t → get t.frame.registers 0 ≡ Some (Num m)
      → Stands program t.frame.slot (receiver_code x z.nodes) → t.frame.slot + 4 ≤ last
      → ((w : MachineState) → Same (d + 1) t w → insn_at program w.frame.slot ≡ Some (get_code R2 x)
      → w.frame.slot + 1 ≤ last → Fetched program env last solid R2 w v)
      → Gets program env last solid t (t.frame.slot + 4) 4
      (Holds env d (if nat_lt m z.nodes then with_sent m v u else u))
  receiver_runs x d v m z u t sized fits m_fits h r0 stands room fetch =
      let n = z.nodes in
      let few : n < 2 ^ 32 = omega (arith, nodes_few program env last solid z sized) in
      let c = branch_leads program env last solid t t 0 3 (cond_of AtLeast) R0 (operand.Imm (pos n)) m n (nat_le n m)
      (stays program env t) stands.0 r0 refl (compared AtLeast m n m_fits few) (omega (arith, room)) in
      let w = c.new in
      let alike : Same (d + 1) t w = alike_same (d + 1) t w c.fact in
      let holds : Holds env d u w = still_holds env d (d + 1) u t w (omega arith) h alike in
      elim (cases_Bool (nat_lt m n)) [
        | inl so ↦
            let miss : hop (nat_le n m) 3 ≡ 0 = rw (lt-leb n m (ltb-true m n so)) refl in
            let slot : w.frame.slot ≡ t.frame.slot + 1 = omega (arith, c.slot, miss) in
            let there = here_is program env last solid w _ (copy R1 R0 ∷ get_code R2 x ∷ i.Call (pos 3) ∷ []) slot
            stands.1 in
            let m0 = w.frame.registers in
            let w1 = put w (w.frame.slot + 1) R1 (Num m) in
            let m1 = w1.frame.registers in
            let w2 = put w1 (w.frame.slot + 1 + 1) R2 (Num v) in
            let w3 = sending w2 (w.frame.slot + 1 + 1 + 1) m v in
            let from0 : get m0 0 ≡ Some (Num m) = ap (λ r. get r 0) c.fact.registers ∙ r0 in
            let same1 : Same (d + 1) w w1 = same_put (d + 1) w w (w.frame.slot + 1) R1 (Num m) (omega arith)
            (same_self (d + 1) w) in
            let to1 : get w2.frame.registers 1 ≡ Some (Num m) = put_other m1 2 (Num v) 1 (λ e. omega arith)
            ∙ put_same m0 1 (Num m) in
            let e1 : step program env w ≡ Ok (Running w1) = copies program env w (w.frame.slot + 1) R1 R0 m there.0 refl
            (solid _ (omega (arith, room, slot))) from0 m_fits refl in
            let g = fetch w1 (same_then (d + 1) t w w1 alike same1) there.1.0 (omega (arith, room, slot)) in
            let e3 : step program env w2 ≡ Ok (Running w3) = sends program env w2 (w.frame.slot + 1 + 1 + 1) m v
            there.1.1.0 refl (solid _ (omega (arith, room, slot))) to1 (put_same m1 2 (Num v))
            (omega (arith, ltb-true m n so, sized.nodes)) fits in
            record {
              new = w3;
              run = further program env t w2 w3 3 4
                  (further program env t w1 w2 2 3 (further program env t w w1 1 2 c.run e1 (omega arith)) g.fetched
                  (omega arith))
                  e3 (omega arith);
              slot = omega (arith, slot);
              fact = subst (λ (y : NodeState). Holds env d y w3) (sym (cond-true (nat_lt m n) (with_sent m v u) u so))
                  (holds_sent env d m v u w2 (w.frame.slot + 1 + 1 + 1)
                  (holds_put env d u w1 (w.frame.slot + 1 + 1) v R2 (omega arith)
                  (holds_put env d u w (w.frame.slot + 1) m R1 (omega arith) holds)));
            }
        | inr other ↦
            let hit : hop (nat_le n m) 3 ≡ 3 = rw (le-leb n m (ltb-false m n other)) refl in
            record {
              new = w;
              run = chain program env t w w 1 0 4 c.run (stays program env w) (omega arith);
              slot = omega (arith, c.slot, hit);
              fact = subst (λ (y : NodeState). Holds env d y w)
                  (sym (cond-false (nat_lt m n) (with_sent m v u) u other)) holds;
            }
      ]

  -- ---- loops

  each_runs : (d n m : ℕ) (body : ℕ → List Insn) (act : ℕ → NodeState → NodeState) (u : NodeState)
      (s : MachineState) → m ≤ n → Holds env d u s → Stands program s.frame.slot (each_code body m)
      → s.frame.slot + length (each_code body m) ≤ last
      → ((j : ℕ) (w : NodeState) (t : MachineState) → j < n → Holds env d w t → Stands program t.frame.slot (body j)
      → t.frame.slot + length (body j) ≤ last → Leads t (body j) (Holds env d (act j w)))
      → Leads s (each_code body m) (Holds env d (each_below m act u))
  each_runs d n zero body act u s le h stands room each = record {
    new = s;
    run = stays program env s;
    slot = omega arith;
    fact = h;
  }
  each_runs d n (suc m) body act u s le h stands room each =
      let front = each_code body m in
      let back = body m in
      let len : length (front ++ back) ≡ length front + length back = length-append front back in
      let c = each_runs d n m body act u s (omega (arith, le)) h (stands_front program s.frame.slot front back stands)
      (omega (arith, len, room)) each in
      let there = here_is program env last solid c.new _ back c.slot
      (stands_back program s.frame.slot front back stands) in
      let g = each m (each_below m act u) c.new (omega (arith, le)) c.fact there (omega (arith, len, room, c.slot)) in
      record {
        new = g.new;
        run = chain program env s c.new g.new (length front) (length back) (length (front ++ back)) c.run g.run
            (omega (arith, len));
        slot = omega (arith, len, c.slot, g.slot);
        fact = g.fact;
      }

  -- ---- statements

  assign_runs : (target : Target) (z : Sizes) (lets d v : ℕ) (u : NodeState) (t : MachineState) → IsSized z env
      → lets ≤ d → d ≤ PLACES → TargetFits target z.memory lets → get t.frame.registers 0 ≡ Some (Num v) → v < 2 ^ 32
      → Holds env lets u t → Stands program t.frame.slot (assign_code target ∷ []) → t.frame.slot + 1 ≤ last
      → Gets program env last solid t (t.frame.slot + 1) 1 (Assigned env lets d (assigned target v u) t)
  assign_runs (ToLocal k) z lets d v u t sized le few fits r0 small h stands room =
      let p = keeps_at program env k v t (t.frame.slot + 1) (omega (arith, fits, le, few)) stands.0 refl (solid _ room) r0
      h.framed small in
      record {
        new = p.new;
        run = once program env t p.new p.runs;
        slot = p.slot;
        fact = record {
          holds = holds_local env lets lets k v u t p.new (omega (arith, le, few)) (λ j lt other. lt) small p.fact h;
          kept = λ j w from below x. p.fact.others j w (λ e. omega (arith, e, from, fits)) (omega (arith, below, few)) x;
        };
      }
  assign_runs (ToWord k) z lets d v u t sized le few fits r0 small h stands room =
      let zero_off : 0 + 4 * k ≡ 4 * k = omega arith in
      let t1 = storing t (t.frame.slot + 1) (4 * k) v in
      let e1 : step program env t ≡ Ok (Running t1) = stores program env t (t.frame.slot + 1) R6 R0
      (pos (4 * k)) (4 * k) v stands.0 refl (solid _ room) h.r6 r0 (ap pos zero_off)
      (le-leb (4 * k + 4) env.shape.memory (omega (arith, fits, sized.memory))) in
      record {
        new = t1;
        run = once program env t t1 e1;
        slot = refl;
        fact = record {
          holds = holds_word env lets k v u t (t.frame.slot + 1) h;
          kept = λ j w from below x. x;
        };
      }

  asked_is : (t : Term) (z : Sizes) (J : List ℕ) (u w : NodeState) → is_asked t ≡ true
      → value t z env J u ≡ value t z env J w
  asked_is Me z J u w e = refl
  asked_is Coin z J u w e = refl
  asked_is t z J u w e = absurd (let no : false ≡ true = e in cc)

  steady_is : (t : Term) (z : Sizes) (J : List ℕ) (u w : NodeState) → is_steady t ≡ true
      → value t z env J u ≡ value t z env J w
  steady_is t z J u w e = elim (or_cases (is_constant t) (is_asked t) e) [
    | inl x ↦ sym (constant_is program env last solid t z J u x) ∙ constant_is program env last solid t z J w x
    | inr x ↦ asked_is t z J u w x
  ]

  -- ---- found numbers to their targets

  -- a found number goes into place k
  placed_in_runs : (p : Place) (x : Source) (z : Sizes) (lets k v : ℕ) (u : NodeState) (s : MachineState)
      → number_place k ≡ p → is_found x ≡ true → IsAt z lets u x v → IsSized z env → lets ≤ PLACES → k < PLACES
      → Holds env lets u s → Stands program s.frame.slot (place_code p x)
      → s.frame.slot + length (place_code p x) ≤ last
      → Leads s (place_code p x) (PlaceGiven env lets k v u s)
  placed_in_runs (InRegister register) x z lets k v u s same found is sized few small h stands room =
      let ours : IsPlace (InRegister register) k = subst (λ (p : Place). IsPlace p k) same (place_is k small) in
      let writable = not_frame register (omega (arith, ours.0, ours.1)) in
      let g = get_steps program env last solid register x z lets v u s writable found is sized few h stands.0 room in
      record {
        new = put s (s.frame.slot + 1) register (Num v);
        run = once program env s _ g.fetched;
        slot = refl;
        fact = record {
          before = s;
          same = same_self PLACES s;
          placed = put_at program env register k v s (s.frame.slot + 1) same ours.0 ours.1;
          small = g.small;
        };
      }
  placed_in_runs (OnStack off) x z lets k v u s same found is sized few small h stands room =
      let g = get_steps program env last solid R0 x z lets v u s refl found is sized few h stands.0
      (omega (arith, room)) in
      let t = put s (s.frame.slot + 1) R0 (Num v) in
      let kept : Same PLACES s t = same_put PLACES s s (s.frame.slot + 1) R0 (Num v) (omega arith)
      (same_self PLACES s) in
      let here : insn_at program t.frame.slot ≡ Some (keep_code (number_place k)) =
      subst (λ (p : Place). insn_at program t.frame.slot ≡ Some (keep_code p)) (sym same) stands.1.0 in
      let p = keeps_at program env k v t (t.frame.slot + 1) small here refl (solid _ (omega (arith, room)))
      (put_same s.frame.registers 0 (Num v)) (kept.framed h.framed) g.small in
      record {
        new = p.new;
        run = further program env s t p.new 1 2 (once program env s t g.fetched) p.runs (omega arith);
        slot = omega (arith, p.slot);
        fact = record { before = t; same = kept; placed = p.fact; small = g.small };
      }

  place_given : (x : Source) (z : Sizes) (lets k v : ℕ) (u : NodeState) (s : MachineState) → is_found x ≡ true
      → IsAt z lets u x v → IsSized z env → lets ≤ PLACES → k < PLACES → Holds env lets u s
      → Stands program s.frame.slot (place_code (number_place k) x)
      → s.frame.slot + length (place_code (number_place k) x) ≤ last
      → Leads s (place_code (number_place k) x) (PlaceGiven env lets k v u s)
  place_given x z lets k v u s found is sized few small h stands room =
      placed_in_runs (number_place k) x z lets k v u s refl found is sized few small h stands room

  -- a place into a word
  word_runs : (p : Place) (k : ℕ) (z : Sizes) (lets d v : ℕ) (u : NodeState) (s : MachineState) → IsInside p
      → IsIn p s.frame.registers s.frame.stack v → v < 2 ^ 32 → IsSized z env → lets ≤ d → d ≤ PLACES
      → 4 * k + 4 ≤ z.memory → Holds env lets u s → Stands program s.frame.slot (word_code k p)
      → s.frame.slot + length (word_code k p) ≤ last
      → Leads s (word_code k p) (Assigned env lets d (assigned (ToWord k) v u) s)
  word_runs (InRegister register) k z lets d v u s ok from small sized le few fits h stands room =
      let zero_off : 0 + 4 * k ≡ 4 * k = omega arith in
      let s1 = storing s (s.frame.slot + 1) (4 * k) v in
      let e1 : step program env s ≡ Ok (Running s1) = stores program env s (s.frame.slot + 1) R6 register (pos (4 * k))
      (4 * k) v stands.0 refl (solid _ room) h.r6 from (ap pos zero_off)
      (le-leb (4 * k + 4) env.shape.memory (omega (arith, fits, sized.memory))) in
      record {
        new = s1;
        run = once program env s s1 e1;
        slot = refl;
        fact = record { holds = holds_word env lets k v u s (s.frame.slot + 1) h; kept = λ i w from below x. x };
      }
  word_runs (OnStack off) k z lets d v u s ok from small sized le few fits h stands room =
      let s1 = put s (s.frame.slot + 1) R0 (Num v) in
      let e1 : step program env s ≡ Ok (Running s1) = fetches program env (OnStack off) s (s.frame.slot + 1) R0 v ok
      stands.0 refl (solid _ (omega (arith, room))) from h.framed small refl in
      let a = assign_runs (ToWord k) z lets d v u s1 sized le few fits (put_same s.frame.registers 0 (Num v)) small
      (holds_put env lets u s (s.frame.slot + 1) v R0 (omega arith) h) stands.1 (omega (arith, room)) in
      record {
        new = a.new;
        run = chain program env s s1 a.new 1 1 2 (once program env s s1 e1) a.run (omega arith);
        slot = omega (arith, a.slot);
        fact = record {
          holds = a.fact.holds;
          kept = λ i w from below x. a.fact.kept i w from below
              ((same_put d s s (s.frame.slot + 1) R0 (Num v) (omega arith) (same_self d s)).places i w below x);
        };
      }

  set_runs : (target : Target) (x : Source) (z : Sizes) (lets d v : ℕ) (u : NodeState) (s : MachineState)
      → is_found x ≡ true → IsAt z lets u x v → IsSized z env → lets ≤ d → d ≤ PLACES → TargetFits target z.memory lets
      → Holds env lets u s → Stands program s.frame.slot (set_code target x)
      → s.frame.slot + length (set_code target x) ≤ last
      → Leads s (set_code target x) (Assigned env lets d (assigned target v u) s)
  set_runs (ToLocal k) x z lets d v u s found is sized le few fits h stands room =
      gets program env last solid s _ _ _ _ (PlaceGiven env lets k v u s) (Assigned env lets d (with_local k v u) s)
      refl (omega arith)
      (λ t g. record {
        holds = holds_local env lets lets k v u g.before t (omega (arith, le, few)) (λ j lt other. lt) g.small g.placed
            (still_holds env lets PLACES u s g.before (omega (arith, le, few)) h g.same);
        kept = λ j w from below y. g.placed.others j w (λ e. omega (arith, e, from, fits)) (omega (arith, below, few))
            (g.same.places j w (omega (arith, below, few)) y);
      })
      (place_given x z lets k v u s found is sized (omega (arith, le, few)) (omega (arith, fits, le, few)) h stands room)
  set_runs (ToWord k) (Constant c) z lets d v u s found is sized le few fits h stands room =
      let zero_off : 0 + 4 * k ≡ 4 * k = omega arith in
      let raw = cast_unsigned w64 (cast_signed w32 c) in
      let s1 = storing s (s.frame.slot + 1) (4 * k) raw in
      let low : raw % 2 ^ 32 ≡ v = imm_low c is.1 ∙ is.0 in
      let e1 : step program env s ≡ Ok (Running s1) = stores_number program env s (s.frame.slot + 1) R6 (pos (4 * k))
      (cast_signed w32 c) (4 * k) stands.0 refl (solid _ room) h.r6 (ap pos zero_off)
      (le-leb (4 * k + 4) env.shape.memory (omega (arith, fits, sized.memory))) in
      record {
        new = s1;
        run = once program env s s1 e1;
        slot = refl;
        fact = record {
          holds = holds_low env lets k v raw u s (s.frame.slot + 1) low h;
          kept = λ j w from below x. x;
        };
      }
  set_runs (ToWord k) (FromLocal j) z lets d v u s found is sized le few fits h stands room =
      word_runs (number_place j) k z lets d v u s (inside j) (subst (λ (x : ℕ). At j s x) is.1 (h.locals j is.0))
      (subst (λ (x : ℕ). x < 2 ^ 32) is.1 (h.small j is.0)) sized le few fits h stands room
  set_runs (ToWord k) (FromWord j) z lets d v u s found is sized le few fits h stands room =
      let g = get_steps program env last solid R0 (FromWord j) z lets v u s refl found is sized
      (omega (arith, le, few)) h stands.0 (omega (arith, room)) in
      let s1 = put s (s.frame.slot + 1) R0 (Num v) in
      let a = assign_runs (ToWord k) z lets d v u s1 sized le few fits (put_same s.frame.registers 0 (Num v)) g.small
      (holds_put env lets u s (s.frame.slot + 1) v R0 (omega arith) h) stands.1 (omega (arith, room)) in
      record {
        new = a.new;
        run = chain program env s s1 a.new 1 1 2 (once program env s s1 g.fetched) a.run (omega arith);
        slot = omega (arith, a.slot);
        fact = record {
          holds = a.fact.holds;
          kept = λ i w from below x. a.fact.kept i w from below
              ((same_put d s s (s.frame.slot + 1) R0 (Num v) (omega arith) (same_self d s)).places i w below x);
        };
      }
  set_runs (ToWord k) Computed z lets d v u s found is sized le few fits h stands room =
      absurd (let no : false ≡ true = found in cc)

  given_runs : (x : Source) (target : Target) (e : Term) (z : Sizes) (J : List ℕ) (d lets : ℕ) (u : NodeState)
      (s : MachineState) → IsAt z lets u x (value e z env J u) → IsSized z env → All (λ j. j < z.nodes) J → lets ≤ d
      → d ≤ PLACES → TargetFits target z.memory lets → Fits e z (length J) lets d → Holds env lets u s
      → Stands program s.frame.slot (given_code x target (term_code e z J d Value))
      → s.frame.slot + length (given_code x target (term_code e z J d Value)) ≤ last
      → Leads s (given_code x target (term_code e z J d Value))
      (Assigned env lets d (assigned target (value e z env J u) u) s)
  given_runs (Constant c) target e z J d lets u s is sized nodes le few ours fits h stands room =
      set_runs target (Constant c) z lets d (value e z env J u) u s refl is sized le few ours h stands room
  given_runs (FromLocal k) target e z J d lets u s is sized nodes le few ours fits h stands room =
      set_runs target (FromLocal k) z lets d (value e z env J u) u s refl is sized le few ours h stands room
  given_runs (FromWord k) target e z J d lets u s is sized nodes le few ours fits h stands room =
      set_runs target (FromWord k) z lets d (value e z env J u) u s refl is sized le few ours h stands room
  given_runs Computed target e z J d lets u s is sized nodes le few ours fits h stands room =
      let v = value e z env J u in
      let code = term_code e z J d Value in
      let back = assign_code target ∷ [] in
      let len : length (code ++ back) ≡ length code + 1 = length-append code back in
      let c = term_runs program env last solid e z J d lets Value u s sized nodes (omega (arith, le, few)) le fits h
      (stands_front program s.frame.slot code back stands) (omega (arith, len, room)) in
      let t = c.new in
      let there = here_is program env last solid t _ back c.slot (stands_back program s.frame.slot code back stands) in
      let g = assign_runs target z lets d v u t sized le few ours c.fact.r0 c.fact.small
      (still_holds env lets d u s t le h c.fact.same) there (omega (arith, len, room, c.slot)) in
      record {
        new = g.new;
        run = chain program env s t g.new (length code) 1 (length (code ++ back)) c.run g.run (omega (arith, len));
        slot = omega (arith, len, c.slot, g.slot);
        fact = record {
          holds = g.fact.holds;
          kept = λ k w from below x. g.fact.kept k w from below (c.fact.same.places k w below x);
        };
      }

  -- a number is computed, and kept in place d
  value_kept : (e : Term) (z : Sizes) (J : List ℕ) (d lets : ℕ) (rest : List Insn) (u : NodeState) (s : MachineState)
      → IsSized z env → All (λ j. j < z.nodes) J → lets ≤ PLACES → lets ≤ d → d < PLACES → Fits e z (length J) lets d
      → Holds env lets u s → Stands program s.frame.slot (term_code e z J d Value ++ (keep_code (number_place d) ∷ rest))
      → s.frame.slot + length (term_code e z J d Value ++ (keep_code (number_place d) ∷ rest)) ≤ last
      → Gets program env last solid s (s.frame.slot + length (term_code e z J d Value) + 1)
      (length (term_code e z J d Value) + 1) (KeptNumber d (value e z env J u) s)
  value_kept e z J d lets rest u s sized nodes few le free fits h stands room =
      let v = value e z env J u in
      let code = term_code e z J d Value in
      let all = keep_code (number_place d) ∷ rest in
      let len : length (code ++ all) ≡ length code + (1 + length rest) = omega (arith, length-append code all) in
      let c = term_runs program env last solid e z J d lets Value u s sized nodes few le fits h
      (stands_front program s.frame.slot code all stands) (omega (arith, len, room)) in
      let there = here_is program env last solid c.new _ all c.slot (stands_back program s.frame.slot code all stands) in
      let p = keep_runs program env last solid d v s c.new (length code) free c.run c.fact h.framed there.0
      (omega (arith, len, room, c.slot)) in
      record {
        new = p.new;
        run = p.run;
        slot = omega (arith, p.slot, c.slot);
        fact = record { same = p.fact.same; there = p.fact.there; small = c.fact.small };
      }

  -- other targets are set, and then this one to the number in place d
  put_back : (target : Target) (first : List Insn) (z : Sizes) (d lets v : ℕ) (u w : NodeState) (t : MachineState)
      → IsSized z env → lets ≤ d → d ≤ PLACES → TargetFits target z.memory lets → d < PLACES → v < 2 ^ 32
      → Holds env lets u t → At d t v
      → Stands program t.frame.slot (first ++ (fetch_code R0 (number_place d) ∷ assign_code target ∷ []))
      → t.frame.slot + length (first ++ (fetch_code R0 (number_place d) ∷ assign_code target ∷ [])) ≤ last
      → ((x : MachineState) → Holds env lets u x → Stands program x.frame.slot first
      → x.frame.slot + length first ≤ last → Leads x first (Assigned env lets (d + 1) w x))
      → Leads t (first ++ (fetch_code R0 (number_place d) ∷ assign_code target ∷ []))
      (Assigned env lets d (assigned target v w) t)
  put_back target first z d lets v u w t sized le few ours free small h there stands room before =
      let back = fetch_code R0 (number_place d) ∷ assign_code target ∷ [] in
      let len : length (first ++ back) ≡ length first + 2 = length-append first back in
      let f = before t h (stands_front program t.frame.slot first back stands) (omega (arith, len, room)) in
      let x = f.new in
      let at_back = here_is program env last solid x _ back f.slot (stands_back program t.frame.slot first back stands) in
      let kept : At d x v = f.fact.kept d v le (omega arith) there in
      let c = fetch_runs program env last solid d d v x small kept f.fact.holds.framed (at_back.0, tt)
      (omega (arith, len, room, f.slot)) in
      let x1 = c.new in
      let set = here_is program env last solid x1 _ (assign_code target ∷ []) c.slot at_back.1 in
      let g = assign_runs target z lets d v w x1 sized le few ours c.fact.r0 small
      (still_holds env lets d w x x1 le f.fact.holds c.fact.same) set (omega (arith, len, room, f.slot, c.slot)) in
      let run = chain program env t x x1 (length first) 1 (length first + 1) f.run c.run (omega arith) in
      record {
        new = g.new;
        run = chain program env t x1 g.new (length first + 1) 1 (length (first ++ back)) run g.run (omega (arith, len));
        slot = omega (arith, len, f.slot, c.slot, g.slot);
        fact = record {
          holds = g.fact.holds;
          kept = λ k y from below q. g.fact.kept k y from below
              (c.fact.same.places k y below (f.fact.kept k y from (omega (arith, below)) q));
        };
      }

  -- the targets before lead to w
  also_runs : (steady : Bool) (x : Source) (e : Term) (target : Target) (first : List Insn) (z : Sizes) (J : List ℕ)
      (d lets : ℕ) (u w : NodeState) (s : MachineState) → is_steady e ≡ steady → IsAt z lets w x (value e z env J w)
      → IsSized z env → All (λ j. j < z.nodes) J → lets ≤ d
      → d ≤ PLACES → TargetFits target z.memory lets → Fits e z (length J) lets d → HasPlace steady d → Holds env lets u s
      → Stands program s.frame.slot (also_code steady d x target (term_code e z J d Value) first)
      → s.frame.slot + length (also_code steady d x target (term_code e z J d Value) first) ≤ last
      → ((t : MachineState) → Holds env lets u t → Stands program t.frame.slot first
      → t.frame.slot + length first ≤ last
      → Leads t first (Assigned env lets (depth_behind steady d) w t))
      → Leads s (also_code steady d x target (term_code e z J d Value) first)
      (Assigned env lets d (assigned target (value e z env J u) w) s)
  also_runs true x e target first z J d lets u w s steady at_w sized nodes le few ours fits free h stands room before =
      let rest = given_code x target (term_code e z J d Value) in
      let len : length (first ++ rest) ≡ length first + length rest = length-append first rest in
      let f = before s h (stands_front program s.frame.slot first rest stands) (omega (arith, len, room)) in
      let t = f.new in
      let at_rest = here_is program env last solid t _ rest f.slot
      (stands_back program s.frame.slot first rest stands) in
      let g = given_runs x target e z J d lets w t at_w sized nodes le few ours fits f.fact.holds at_rest
      (omega (arith, len, room, f.slot)) in
      let same : value e z env J w ≡ value e z env J u = steady_is e z J w u steady in
      record {
        new = g.new;
        run = chain program env s t g.new (length first) (length rest) (length (first ++ rest)) f.run g.run
            (omega (arith, len));
        slot = omega (arith, len, f.slot, g.slot);
        fact = record {
          holds = subst (λ (n : ℕ). Holds env lets (assigned target n w) g.new) same g.fact.holds;
          kept = λ k y from below x. g.fact.kept k y from below (f.fact.kept k y from below x);
        };
      }
  also_runs false y e target first z J d lets u w s steady at_w sized nodes le few ours fits free h stands room before =
      let v = value e z env J u in
      let code = term_code e z J d Value in
      let rest = first ++ (fetch_code R0 (number_place d) ∷ assign_code target ∷ []) in
      let all = keep_code (number_place d) ∷ rest in
      let len : length (code ++ all) ≡ length code + (1 + length rest) = omega (arith, length-append code all) in
      let c = value_kept e z J d lets rest u s sized nodes (omega (arith, le, few)) le free fits h stands room in
      let t = c.new in
      let h1 = still_holds env lets d u s t le h c.fact.same in
      let there = here_is program env last solid t _ rest c.slot
      (stands_back program s.frame.slot code all stands).1 in
      let g = put_back target first z d lets v u w t sized le few ours free c.fact.small h1 c.fact.there there
      (omega (arith, len, room, c.slot)) before in
      record {
        new = g.new;
        run = chain program env s t g.new (length code + 1) (length rest) (length (code ++ all)) c.run g.run
            (omega (arith, len));
        slot = omega (arith, len, c.slot, g.slot);
        fact = record {
          holds = g.fact.holds;
          kept = λ k y from below q. g.fact.kept k y from below (c.fact.same.places k y below q);
        };
      }

  local_is : (a : Term) (k : ℕ) (z : Sizes) (J : List ℕ) (u : NodeState) → is_local a k ≡ true
      → value a z env J u ≡ u.locals k
  local_is (Local j) k z J u e = ap u.locals (eqb-true j k e)
  local_is a k z J u e = absurd (let no : false ≡ true = e in cc)

  -- a place that is changed where it is
  changed_runs : (p : Place) (op : Operation) (k c : ℕ) (insn : Insn) (z : Sizes) (d lets : ℕ) (u : NodeState)
      (s : MachineState) → number_place k ≡ p → change_place p op c ≡ Some insn → c < 2 ^ 32 → lets ≤ d → d ≤ PLACES → k < lets
      → Holds env lets u s → Stands program s.frame.slot (insn ∷ []) → s.frame.slot + 1 ≤ last
      → Leads s (insn ∷ []) (Assigned env lets d (with_local k (apply op (u.locals k) c) u) s)
  changed_runs (InRegister register) op k c insn z d lets u s same is low_c le few ours h stands room =
      let act = i.Alu (alu_op_of op) W32 register (operand.Imm (cast_signed w32 c)) in
      let mine : IsPlace (InRegister register) k = subst (λ (p : Place). IsPlace p k) same
      (place_is k (omega (arith, ours, le, few))) in
      let writable = not_frame register (omega (arith, mine.0, mine.1)) in
      let x = u.locals k in
      let from : get s.frame.registers (register_number register) ≡ Some (Num x) =
      subst (λ (p : Place). IsIn p s.frame.registers s.frame.stack x) same (h.locals k ours) in
      let v = apply op x c in
      let raw = cast_unsigned w64 (cast_signed w32 c) in
      let s1 = put s (s.frame.slot + 1) register (Num v) in
      let here : insn_at program s.frame.slot ≡ Some act = stands.0 ∙ sym is in
      let e1 : step program env s ≡ Ok (Running s1) = operates_in program env op s (s.frame.slot + 1) x c raw
      register (operand.Imm (cast_signed w32 c)) here refl (solid _ room) from refl writable (imm_low c low_c)
      (h.small k ours) low_c in
      let p = put_at program env register k v s (s.frame.slot + 1) same mine.0 mine.1 in
      record {
        new = s1;
        run = once program env s s1 e1;
        slot = refl;
        fact = record {
          holds = holds_local env lets lets k v u s s1 (omega (arith, le, few)) (λ j lt other. lt)
              (apply_small op x c (h.small k ours) low_c) p h;
          kept = λ j w start below y. p.others j w (λ e. omega (arith, e, start, ours)) (omega (arith, below, few)) y;
        };
      }
  changed_runs (OnStack off) op k c insn z d lets u s same is low_c le few ours h stands room = absurd (none-some insn is)

  -- a local that is changed in its place
  change_runs : (target : Target) (e : Term) (insn : Insn) (z : Sizes) (J : List ℕ) (d lets : ℕ) (u : NodeState)
      (s : MachineState) → changing_insn target e z J ≡ Some insn → IsSized z env → All (λ j. j < z.nodes) J → lets ≤ d
      → d ≤ PLACES → TargetFits target z.memory lets → Fits e z (length J) lets d → Holds env lets u s
      → Stands program s.frame.slot (insn ∷ []) → s.frame.slot + 1 ≤ last
      → Leads s (insn ∷ []) (Assigned env lets d (assigned target (value e z env J u) u) s)
  change_runs (ToLocal k) (Binary' (Compute op) p a q b) insn z J d lets u s is sized nodes le few ours fits h stands
      room =
      let c = constant_number b z J in
      let act = change_place (number_place k) op c in
      let test = is_local a k && is_constant b in
      elim (cases_Bool test) [
        | inl so ↦
            let parts = and_parts (is_local a k) (is_constant b) so in
            let same : act ≡ Some insn = sym (cond-true test act None so) ∙ is in
            let low_c : c < 2 ^ 32 = constant_small program env last solid b z J lets
            (depth_behind (is_operand a || is_operand b) d) parts.1 sized nodes fits.2 in
            let x = u.locals k in
            let v = apply op x c in
            let means : v ≡ apply op (value a z env J u) (value b z env J u) =
            ap (λ (y : ℕ). apply op y c) (sym (local_is a k z J u parts.0))
            ∙ ap (λ (y : ℕ). apply op (value a z env J u) y) (constant_is program env last solid b z J u parts.1) in
            subst (λ (n : ℕ). Leads s (insn ∷ []) (Assigned env lets d (with_local k n u) s)) means
            (changed_runs (number_place k) op k c insn z d lets u s refl same low_c le few ours h stands room)
        | inr other ↦ absurd (none-some insn (sym (cond-false test act None other) ∙ is))
      ]
  change_runs (ToWord k) (Binary' o p a q b) insn z J d lets u s is sized nodes le few ours fits h stands room =
      absurd (none-some insn is)
  change_runs target e insn z J d lets u s is sized nodes le few ours fits h stands room = absurd (none-some insn is)

  one_runs : (found : Option Insn) (target : Target) (e : Term) (z : Sizes) (J : List ℕ) (d lets : ℕ) (u : NodeState)
      (s : MachineState) → changing_insn target e z J ≡ found → IsSized z env → All (λ j. j < z.nodes) J → lets ≤ d
      → d ≤ PLACES → TargetFits target z.memory lets → Fits e z (length J) lets d → Holds env lets u s
      → Stands program s.frame.slot (one_code found (given_code (term_source e z J) target (term_code e z J d Value)))
      → s.frame.slot + length (one_code found (given_code (term_source e z J) target (term_code e z J d Value))) ≤ last
      → Leads s (one_code found (given_code (term_source e z J) target (term_code e z J d Value)))
      (Assigned env lets d (assigned target (value e z env J u) u) s)
  one_runs None target e z J d lets u s is sized nodes le few ours fits h stands room =
      given_runs (term_source e z J) target e z J d lets u s (source_is program env last solid e z J lets d u
      sized nodes fits) sized nodes le few ours fits h stands room
  one_runs (Some insn) target e z J d lets u s is sized nodes le few ours fits h stands room =
      change_runs target e insn z J d lets u s is sized nodes le few ours fits h stands room

  assignment_runs : (a : Assignment) (z : Sizes) (J : List ℕ) (d lets : ℕ) (u : NodeState) (s : MachineState)
      → IsSized z env → All (λ j. j < z.nodes) J → lets ≤ d → d ≤ PLACES → AssignmentFits a z (length J) lets d
      → Holds env lets u s → Stands program s.frame.slot (assignment_code a z J d)
      → s.frame.slot + length (assignment_code a z J d) ≤ last
      → Leads s (assignment_code a z J d) (Assigned env lets d (all_assigned a z env J u) s)
  assignment_runs (One target e) z J d lets u s sized nodes le few fits h stands room =
      one_runs (changing_insn target e z J) target e z J d lets u s refl sized nodes le few fits.0 fits.1 h stands room
  assignment_runs (Also' p front target e) z J d lets u s sized nodes le few fits h stands room =
      let behind = depth_behind (is_steady e) d in
      let w = all_assigned front z env J u in
      let more : d ≤ behind = behind_more (is_steady e) d in
      let deep : behind ≤ PLACES = behind_few (is_steady e) d few fits.2 in
      also_runs (is_steady e) (term_source e z J) e target (assignment_code front z J behind) z J d lets u w s refl
      (source_is program env last solid e z J lets d w sized nodes fits.1) sized nodes le few fits.0 fits.1
      fits.2 h stands room
      (λ t k st l. assignment_runs front z J behind lets u t sized nodes (omega (arith, le, more)) deep fits.3 k st l)

  send_all_runs : (x : Source) (e : Term) (z : Sizes) (J : List ℕ) (d : ℕ) (u : NodeState) (s : MachineState)
      → IsAt z d u x (value e z env J u) → IsSized z env → All (λ j. j < z.nodes) J → d ≤ PLACES →
      (is_found x ≡ false → d < PLACES) → Fits e z (length J) d d → Holds env d u s
      → Stands program s.frame.slot (send_all_code x d z.nodes (term_code e z J d Value))
      → s.frame.slot + length (send_all_code x d z.nodes (term_code e z J d Value)) ≤ last
      → Leads s (send_all_code x d z.nodes (term_code e z J d Value))
      (Holds env d (sent_below z.nodes (value e z env J u) u))
  send_all_runs (Constant c) e z J d u s is sized nodes few free fits h stands room =
      found_sends (Constant c) z d (value e z env J u) u s refl is sized few h stands room
  send_all_runs (FromLocal k) e z J d u s is sized nodes few free fits h stands room =
      found_sends (FromLocal k) z d (value e z env J u) u s refl is sized few h stands room
  send_all_runs (FromWord k) e z J d u s is sized nodes few free fits h stands room =
      found_sends (FromWord k) z d (value e z env J u) u s refl is sized few h stands room
  send_all_runs Computed e z J d u s is sized nodes few free fits h stands room =
      let v = value e z env J u in
      let codes = send_codes (FromLocal d) z.nodes in
      let end = sent_below z.nodes v u in
      let deep : d < PLACES = free refl in
      stored_runs e z J d codes u s (Holds env d end) sized nodes deep fits h stands room
      (λ t t1 has p st l.
      let h1 = still_holds env d d u s t (omega arith) h has.same in
      let h2 : Holds env d u t1 = still_holds env d d u t t1 (omega arith) h1
      (same_placed d d v t t1 (omega arith) deep p) in
      gets program env last solid t1 _ _ _ _ (Sending env d end t1) (Holds env d end) refl (omega arith)
      (λ x k. k.holds)
      (sends_run (FromLocal d) d v z.nodes u t1 t1 has.small (omega (arith, sized.nodes)) (near_self t1) h2 st l
      (λ x near here l2. record {
        fetched = fetches program env (number_place d) x (x.frame.slot + 1) R2 v (inside d) here refl (solid _ l2)
            (near.places d v p.there) (near.framed h2.framed) has.small refl;
        small = has.small;
      })))

  -- ---- a new local

  -- a found number goes to place d
  found_placed : (x : Source) (z : Sizes) (d v : ℕ) (rest : List Insn) (u : NodeState) (s : MachineState)
      (P : MachineState → Type 0) → is_found x ≡ true → IsAt z d u x v → IsSized z env → d < PLACES → Holds env d u s
      → Stands program s.frame.slot (place_code (number_place d) x ++ rest)
      → s.frame.slot + length (place_code (number_place d) x ++ rest) ≤ last
      → ((t : MachineState) → Holds env (d + 1) (with_local d v u) t → Stands program t.frame.slot rest
      → t.frame.slot + length rest ≤ last → Leads t rest P)
      → Leads s (place_code (number_place d) x ++ rest) P
  found_placed x z d v rest u s P found is sized small h stands room next =
      let front = place_code (number_place d) x in
      let len : length (front ++ rest) ≡ length front + length rest = length-append front rest in
      let c = place_given x z d d v u s found is sized (omega (arith, small)) small h
      (stands_front program s.frame.slot front rest stands) (omega (arith, len, room)) in
      let t = c.new in
      let h0 = still_holds env d PLACES u s c.fact.before (omega (arith, small)) h c.fact.same in
      let h1 : Holds env (d + 1) (with_local d v u) t = holds_local env d (d + 1) d v u c.fact.before t
      (omega (arith, small)) (λ j lt other. omega (arith, lt, other)) c.fact.small c.fact.placed h0 in
      let g = next t h1 (here_is program env last solid t _ rest c.slot
      (stands_back program s.frame.slot front rest stands)) (omega (arith, len, room, c.slot)) in
      record {
        new = g.new;
        run = chain program env s t g.new (length front) (length rest) (length (front ++ rest)) c.run g.run
            (omega (arith, len));
        slot = omega (arith, len, c.slot, g.slot);
        fact = g.fact;
      }

  placed_runs : (x : Source) (e : Term) (z : Sizes) (J : List ℕ) (d : ℕ) (rest : List Insn) (u : NodeState)
      (s : MachineState) (P : MachineState → Type 0) → IsAt z d u x (value e z env J u) → IsSized z env
      → All (λ j. j < z.nodes) J → d ≤ PLACES → d < PLACES → Fits e z (length J) d d → Holds env d u s
      → Stands program s.frame.slot (stored_code x d (term_code e z J d Value) rest)
      → s.frame.slot + length (stored_code x d (term_code e z J d Value) rest) ≤ last
      → ((t : MachineState) → Holds env (d + 1) (with_local d (value e z env J u) u) t
      → Stands program t.frame.slot rest → t.frame.slot + length rest ≤ last → Leads t rest P)
      → Leads s (stored_code x d (term_code e z J d Value) rest) P
  placed_runs (Constant c) e z J d rest u s P is sized nodes few small fits h stands room next =
      found_placed (Constant c) z d (value e z env J u) rest u s P refl is sized small h stands room next
  placed_runs (FromLocal k) e z J d rest u s P is sized nodes few small fits h stands room next =
      found_placed (FromLocal k) z d (value e z env J u) rest u s P refl is sized small h stands room next
  placed_runs (FromWord k) e z J d rest u s P is sized nodes few small fits h stands room next =
      found_placed (FromWord k) z d (value e z env J u) rest u s P refl is sized small h stands room next
  placed_runs Computed e z J d rest u s P is sized nodes few small fits h stands room next =
      let v = value e z env J u in
      stored_runs e z J d rest u s P sized nodes small fits h stands room
      (λ t t1 has p st l.
      let h1 = still_holds env d d u s t (omega arith) h has.same in
      let h2 : Holds env (d + 1) (with_local d v u) t1 = holds_local env d (d + 1) d v u t t1 (omega (arith, small))
      (λ j lt other. omega (arith, lt, other)) has.small p h1 in
      next t1 h2 st l)

  -- ---- a number to a node

  -- a found one
  found_to_runs : (x : Source) (e k : Term) (z : Sizes) (J : List ℕ) (d : ℕ) (u : NodeState) (s : MachineState)
      → is_found x ≡ true → IsAt z d u x (value e z env J u) → IsSized z env → All (λ j. j < z.nodes) J → d ≤ PLACES
      → Fits k z (length J) d d → Holds env d u s
      → Stands program s.frame.slot (term_code k z J d Value ++ receiver_code x z.nodes)
      → s.frame.slot + length (term_code k z J d Value ++ receiver_code x z.nodes) ≤ last
      → Leads s (term_code k z J d Value ++ receiver_code x z.nodes) (Holds env d (after (SendTo e k) z env d J u))
  found_to_runs x e k z J d u s found is sized nodes few k_fits h stands room =
      let v = value e z env J u in
      let m = value k z env J u in
      let code = term_code k z J d Value in
      let back = receiver_code x z.nodes in
      let len : length (code ++ back) ≡ length code + 4 = length-append code back in
      let c = term_runs program env last solid k z J d d Value u s sized nodes few (omega arith) k_fits h
      (stands_front program s.frame.slot code back stands) (omega (arith, len, room)) in
      let w = c.new in
      let there = here_is program env last solid w _ back c.slot (stands_back program s.frame.slot code back stands) in
      let h1 = still_holds env d d u s w (omega arith) h c.fact.same in
      let g = receiver_runs x d v m z u w sized (found_small env x z d v u s found is sized.memory h) c.fact.small h1
      c.fact.r0 there (omega (arith, len, room, c.slot))
      (λ t same here l. get_steps program env last solid R2 x z d v u t refl found is sized few
      (still_holds env d (d + 1) u w t (omega arith) h1 same) here l) in
      record {
        new = g.new;
        run = chain program env s w g.new (length code) 4 (length (code ++ back)) c.run g.run (omega (arith, len));
        slot = omega (arith, len, c.slot, g.slot);
        fact = g.fact;
      }

  -- by where the number is found: a computed one goes to place d
  sent_to_runs : (x : Source) (e k : Term) (z : Sizes) (J : List ℕ) (d : ℕ) (u : NodeState) (s : MachineState)
      → IsAt z d u x (value e z env J u) → IsSized z env → All (λ j. j < z.nodes) J → d ≤ PLACES
      → (is_found x ≡ false → d < PLACES) → Fits e z (length J) d d → Fits k z (length J) d (depth_behind (is_found x) d)
      → Holds env d u s
      → Stands program s.frame.slot (send_to_code x d z.nodes (term_code e z J d Value)
      (term_code k z J (depth_behind (is_found x) d) Value))
      → s.frame.slot + length (send_to_code x d z.nodes (term_code e z J d Value)
      (term_code k z J (depth_behind (is_found x) d) Value)) ≤ last
      → Leads s (send_to_code x d z.nodes (term_code e z J d Value)
      (term_code k z J (depth_behind (is_found x) d) Value)) (Holds env d (after (SendTo e k) z env d J u))
  sent_to_runs (Constant c) e k z J d u s is sized nodes few free fits k_fits h stands room =
      found_to_runs (Constant c) e k z J d u s refl is sized nodes few k_fits h stands room
  sent_to_runs (FromLocal j) e k z J d u s is sized nodes few free fits k_fits h stands room =
      found_to_runs (FromLocal j) e k z J d u s refl is sized nodes few k_fits h stands room
  sent_to_runs (FromWord j) e k z J d u s is sized nodes few free fits k_fits h stands room =
      found_to_runs (FromWord j) e k z J d u s refl is sized nodes few k_fits h stands room
  sent_to_runs Computed e k z J d u s is sized nodes few free fits k_fits h stands room =
      let v = value e z env J u in
      let m = value k z env J u in
      let small = free refl in
      let code = term_code k z J (d + 1) Value in
      let back = receiver_code (FromLocal d) z.nodes in
      let end = if nat_lt m z.nodes then with_sent m v u else u in
      let len : length (code ++ back) ≡ length code + 4 = length-append code back in
      stored_runs e z J d (code ++ back) u s (Holds env d end) sized nodes small fits h stands room
      (λ t t1 has p st l.
      let h1 = still_holds env d d u s t (omega arith) h has.same in
      let h2 : Holds env d u t1 = still_holds env d d u t t1 (omega arith) h1
      (same_placed d d v t t1 (omega arith) small p) in
      let c = term_runs program env last solid k z J (d + 1) d Value u t1 sized nodes few (omega arith) k_fits h2
      (stands_front program t1.frame.slot code back st) (omega (arith, len, l)) in
      let w = c.new in
      let there = here_is program env last solid w _ back c.slot (stands_back program t1.frame.slot code back st) in
      let kept : At d w v = c.fact.same.places d v (omega arith) p.there in
      let h3 = still_holds env d (d + 1) u t1 w (omega arith) h2 c.fact.same in
      let g = receiver_runs (FromLocal d) d v m z u w sized has.small c.fact.small h3 c.fact.r0 there
      (omega (arith, len, l, c.slot))
      (λ y same here l2. record {
        fetched = fetches program env (number_place d) y (y.frame.slot + 1) R2 v (inside d) here refl (solid _ l2)
            (same.places d v (omega arith) kept) (same.framed h3.framed) has.small refl;
        small = has.small;
      }) in
      record {
        new = g.new;
        run = chain program env t1 w g.new (length code) 4 (length (code ++ back)) c.run g.run (omega (arith, len));
        slot = omega (arith, len, c.slot, g.slot);
        fact = g.fact;
      })

  to_runs : (constant : Bool) (e k : Term) (z : Sizes) (J : List ℕ) (d : ℕ) (u : NodeState) (s : MachineState)
      → is_constant k ≡ constant → IsSized z env → All (λ j. j < z.nodes) J → d ≤ PLACES
      → HasPlace (constant || is_operand e) d → Fits e z (length J) d d
      → Fits k z (length J) d (depth_behind (constant || is_operand e) d) → Holds env d u s
      → Stands program s.frame.slot (if constant then send_to_constant_code (term_source e z J) (constant_number k z J)
      z.nodes (term_code e z J d Value) else send_to_code (term_source e z J) d z.nodes (term_code e z J d Value)
      (term_code k z J (depth_behind (is_operand e) d) Value))
      → s.frame.slot + length (if constant then send_to_constant_code (term_source e z J) (constant_number k z J)
      z.nodes (term_code e z J d Value) else send_to_code (term_source e z J) d z.nodes (term_code e z J d Value)
      (term_code k z J (depth_behind (is_operand e) d) Value)) ≤ last
      → Leads s (if constant then send_to_constant_code (term_source e z J) (constant_number k z J)
      z.nodes (term_code e z J d Value) else send_to_code (term_source e z J) d z.nodes (term_code e z J d Value)
      (term_code k z J (depth_behind (is_operand e) d) Value)) (Holds env d (after (SendTo e k) z env d J u))
  to_runs true e k z J d u s is sized nodes few free fits k_fits h stands room =
      constant_runs e k z J d u s is sized nodes few fits h stands room
  to_runs false e k z J d u s is sized nodes few free fits k_fits h stands room =
      let x = term_source e z J in
      let code = λ (simple : Bool). send_to_code x d z.nodes (term_code e z J d Value)
      (term_code k z J (depth_behind simple d) Value) in
      let P : Bool → Type 0 = λ simple. Fits k z (length J) d (depth_behind simple d)
      → Stands program s.frame.slot (code simple) → s.frame.slot + length (code simple) ≤ last
      → Leads s (code simple) (Holds env d (after (SendTo e k) z env d J u)) in
      subst P (found_same e z J)
      (λ f st l. sent_to_runs x e k z J d u s (source_is program env last solid e z J d d u sized nodes fits) sized nodes
      few (λ q. computed_place (is_operand e) d (sym (found_same e z J) ∙ q) free) fits f h st l) k_fits stands room

  -- ---- a tally that stays in the next place, and what follows

  tally_let_runs : (tally : Tally) (z : Sizes) (d v : ℕ) (tests back : List Insn) (u end : NodeState) (s : MachineState)
      → IsSized z env → d < PLACES → v < 2 ^ 32 → Holds env d u s
      → Stands program s.frame.slot (tallied_code tally d tests ++ back)
      → s.frame.slot + length (tallied_code tally d tests ++ back) ≤ last
      → OverRuns program env last solid tally d tests v s
      → ((t : MachineState) → Holds env (d + 1) (with_local d v u) t
      → Stands program t.frame.slot back → t.frame.slot + length back ≤ last → Leads t back (Holds env (d + 1) end))
      → Leads s (tallied_code tally d tests ++ back) (Holds env d end)
  tally_let_runs tally z d v tests back u end s sized small bits h stands room each next =
      let front = tallied_code tally d tests in
      let len : length (front ++ back) ≡ length front + length back = length-append front back in
      let c = tallied_runs program env last solid tally d v tests s small h.framed
      (stands_front program s.frame.slot front back stands) (omega (arith, len, room)) each in
      let there = here_is program env last solid c.new _ back c.slot
      (stands_back program s.frame.slot front back stands) in
      let h1 = holds_there env d v u c.new bits c.fact.there
      (still_holds env d d u s c.new (omega arith) h c.fact.same) in
      let g = next c.new h1 there (omega (arith, len, room, c.slot)) in
      record {
        new = g.new;
        run = chain program env s c.new g.new (length front) (length back) (length (front ++ back)) c.run g.run
            (omega (arith, len));
        slot = omega (arith, len, c.slot, g.slot);
        fact = holds_less env d end g.new g.fact;
      }

  pub block_runs : (b : Statement) (z : Sizes) (J : List ℕ) (d : ℕ) (u : NodeState) (s : MachineState) → IsSized z env
      → All (λ j. j < z.nodes) J → d ≤ PLACES → BlockFits b z (length J) d → Holds env d u s
      → Stands program s.frame.slot (block_code b z J d) → s.frame.slot + length (block_code b z J d) ≤ last
      → Leads s (block_code b z J d) (Holds env d (after b z env d J u))
  block_runs Nothing z J d u s sized nodes few fits h stands room = record {
    new = s;
    run = stays program env s;
    slot = omega arith;
    fact = h;
  }
  block_runs (Then' p a q b) z J d u s sized nodes few fits h stands room =
      let front = block_code a z J d in
      let back = block_code b z J d in
      let len : length (front ++ back) ≡ length front + length back = length-append front back in
      let c = block_runs a z J d u s sized nodes few fits.0 h (stands_front program s.frame.slot front back stands)
      (omega (arith, len, room)) in
      let there = here_is program env last solid c.new _ back c.slot
      (stands_back program s.frame.slot front back stands) in
      let g = block_runs b z J d (after a z env d J u) c.new sized nodes few fits.1 c.fact there
      (omega (arith, len, room, c.slot)) in
      record {
        new = g.new;
        run = chain program env s c.new g.new (length front) (length back) (length (front ++ back)) c.run g.run
            (omega (arith, len));
        slot = omega (arith, len, c.slot, g.slot);
        fact = g.fact;
      }
  block_runs (Let' (Count' q t) p rest) z J d u s sized nodes few fits h stands room =
      let holds = λ (j : ℕ). value t z env (J ++ j ∷ []) u in
      let v = tally_below HowMany z.nodes holds (message_from z env) in
      let u1 = with_local d v u in
      tally_let_runs HowMany z d v (over_code HowMany t z J d) (block_code rest z J (d + 1)) u (after rest z env (d + 1) J u1) s
      sized fits.0
      (tally_small HowMany z.nodes holds (message_from z env) (omega (arith, nodes_few program env last solid z sized)))
      h stands room
      (over_runs program env last solid HowMany t z J d d u s sized nodes few (omega arith)
      (count_fits t q z (length J) d d fits.1) h)
      (λ t2 h2 st l. block_runs rest z J (d + 1) u1 t2 sized nodes (omega (arith, fits.0)) fits.2 h2 st l)
  block_runs (Let' (Least' q t) p rest) z J d u s sized nodes few fits h stands room =
      let holds = λ (j : ℕ). value t z env (J ++ j ∷ []) u in
      let v = tally_below LeastMessage z.nodes holds (message_from z env) in
      let u1 = with_local d v u in
      tally_let_runs LeastMessage z d v (over_code LeastMessage t z J d) (block_code rest z J (d + 1)) u (after rest z env (d + 1) J u1) s
      sized fits.0
      (tally_small LeastMessage z.nodes holds (message_from z env) (omega (arith, nodes_few program env last solid z sized)))
      h stands room
      (over_runs program env last solid LeastMessage t z J d d u s sized nodes few (omega arith)
      (least_fits t q z (length J) d d fits.1) h)
      (λ t2 h2 st l. block_runs rest z J (d + 1) u1 t2 sized nodes (omega (arith, fits.0)) fits.2 h2 st l)
  block_runs (Let' e p rest) z J d u s sized nodes few fits h stands room =
      let u1 = with_local d (value e z env J u) u in
      let end = after rest z env (d + 1) J u1 in
      placed_runs (term_source e z J) e z J d (block_code rest z J (d + 1)) u s (Holds env d end)
      (source_is program env last solid e z J d d u sized nodes fits.1) sized nodes few fits.0 fits.1 h stands room
      (λ t h2 st l.
      gets program env last solid t _ _ _ _ (Holds env (d + 1) end) (Holds env d end) refl (omega arith)
      (λ x k. holds_less env d end x k)
      (block_runs rest z J (d + 1) u1 t sized nodes (omega (arith, fits.0)) fits.2 h2 st l))
  block_runs (Assign a) z J d u s sized nodes few fits h stands room =
      let end = all_assigned a z env J u in
      gets program env last solid s _ _ _ _ (Assigned env d d end s) (Holds env d end) refl (omega arith)
      (λ x k. k.holds)
      (assignment_runs a z J d d u s sized nodes (omega arith) few fits h stands room)
  block_runs (If' t p a q b) z J d u s sized nodes few fits h stands room =
      let ca = block_code a z J d in
      let cb = block_code b z J d in
      let v = value t z env J u in
      let ua = after a z env d J u in
      let ub = after b z env d J u in
      let end = if truth v then ua else ub in
      if_runs program env last solid (is_nothing b) (λ far. term_code t z J d (Jump false far)) ca cb d v s
      (Holds env d end) (nothing_here b z J d) stands room
      (λ far st l. term_runs program env last solid t z J d d (Jump false far) u s sized nodes few
      (omega arith) fits.0 h st l)
      (λ w same e st l. gets program env last solid w _ _ _ _ (Holds env d ua) (Holds env d end) refl (omega arith)
      (λ x k. subst (λ (y : NodeState). Holds env d y x) (sym (cond-true (truth v) ua ub e)) k)
      (block_runs a z J d u w sized nodes few fits.1 (still_holds env d d u s w (omega arith) h same) st l))
      (λ w same e st l. gets program env last solid w _ _ _ _ (Holds env d ub) (Holds env d end) refl (omega arith)
      (λ x k. subst (λ (y : NodeState). Holds env d y x) (sym (cond-false (truth v) ua ub e)) k)
      (block_runs b z J d u w sized nodes few fits.2 (still_holds env d d u s w (omega arith) h same) st l))
      (λ x to k. holds_at env d end x to k)
  block_runs (For' p body) z J d u s sized nodes few fits h stands room =
      each_runs d z.nodes z.nodes (λ j. block_code body z (J ++ j ∷ []) d)
      (λ j w. after body z env d (J ++ j ∷ []) w) u s
      (omega arith) h stands room
      (λ j w t lt k st l.
      let more : length J + 1 ≡ length (J ++ j ∷ []) = omega (arith, length-append J (j ∷ [])) in
      block_runs body z (J ++ j ∷ []) d w t sized (All-push (λ i. i < z.nodes) J j nodes lt) few
      (subst (λ (n : ℕ). BlockFits body z n d) more fits) k st l)
  block_runs (SendAll e) z J d u s sized nodes few fits h stands room =
      let v = value e z env J u in
      send_all_runs (term_source e z J) e z J d u s (source_is program env last solid e z J d d u sized nodes fits.1)
      sized nodes few
      (λ q. computed_place (is_operand e) d (sym (found_same e z J) ∙ q) fits.0) fits.1 h stands room
  block_runs (SendTo e k) z J d u s sized nodes few fits h stands room =
      to_runs (is_constant k) e k z J d u s refl sized nodes few fits.0 fits.1 fits.2 h stands room
