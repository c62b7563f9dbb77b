-- The runs of terms.
use Rattle.std.proofs.Common.{◌≡◌, ◌≢◌, ℕ, zero, suc, ◌+◌, ◌-◌, ◌%◌, ◌*◌, ◌^◌, ◌<◌, ◌≤◌, ◌==◌, Bool, true, false, not, if◌then◌else◌, ◌&&◌, ◌||◌, ◌⊎◌, min, nat_lt, nat_le, List, [], ◌∷◌, ◌++◌, length, Some, Ok, All, pos, slice_index, slice_get, refl, sym, ap, ◌∙◌, arith, subst, inl, inr, length-append}
use Rattle.std.specs.Int.{w32, w64, cast_signed, cast_unsigned}
use Rattle.std.specs.FinMap.{get}
use Rattle.std.proofs.lemmas.Bool.{cases_Bool, cases_lt, lt-ltb, ltb-true, ltb-false, le-leb, lt-leb, cond-true, cond-false, and_parts}
use Rattle.std.proofs.lemmas.List.Elements.{All-get_or, All-push}
use Rattle.node_env.specs.Env.{Setting, received}
use Rattle.bpf_insn.specs.declared.forms.Reg.{Reg}
use Rattle.bpf_insn.specs.declared.forms.Reg.TheVariants.{R0, R1, R6}
use Rattle.bpf_insn.specs.declared.forms.Width.TheVariants.{W32}
use Rattle.bpf_insn.specs.declared.forms.Size.TheVariants as size
use Rattle.bpf_insn.specs.declared.forms.Cond.{Cond}
use Rattle.bpf_insn.specs.declared.forms.Operand.{Operand}
use Rattle.bpf_insn.specs.declared.forms.Operand.TheVariants as operand
use Rattle.bpf_insn.specs.declared.forms.Insn.{Insn}
use Rattle.bpf_insn.specs.declared.forms.Insn.TheVariants as i
use Rattle.bpf_insn.specs.Registers.{register_number}
use Rattle.bpf_insn.specs.Arithmetic.{holds}
use Rattle.bpf_insn.specs.Programs.{insn_at}
use Rattle.bpf_insn.specs.Edges.{BeginsAt}
use Rattle.bpf_machine.specs.declared.word.Word.TheVariants.{Num}
use Rattle.bpf_machine.specs.Machine.{MachineState, Running}
use Rattle.bpf_machine.specs.Step.{operand_of, number_at, step}
use Rattle.clock_nodes.proofs.Places.{Stands}
use Rattle.clock_nodes.proofs.Forms.{put_same, put_other, put, at, called, goes, tosses, receives, loads, moves}
use Rattle.clock_nodes.proofs.Counting.{received_fits}
use Rattle.rule_syntax.specs.declared.syntax.Sizes.{Sizes}
use Rattle.rule_syntax.specs.declared.syntax.Operation.{Operation}
use Rattle.rule_syntax.specs.declared.syntax.Comparison.{Comparison}
use Rattle.rule_syntax.specs.declared.syntax.Comparison.TheVariants.{NotEqual, Less, AtLeast}
use Rattle.rule_syntax.specs.declared.syntax.Operator.{Operator}
use Rattle.rule_syntax.specs.declared.syntax.Operator.TheVariants.{Compute, Compare}
use Rattle.rule_syntax.specs.declared.syntax.Connective.{Connective}
use Rattle.rule_syntax.specs.declared.syntax.Connective.TheVariants.{And, Or}
use Rattle.rule_nodes.specs.declared.numbers.TheConstants.{PLACES}
use Rattle.rule_nodes.specs.declared.numbers.Place.{Place}
use Rattle.rule_nodes.specs.declared.numbers.Place.TheVariants.{InRegister, OnStack}
use Rattle.rule_nodes.specs.declared.numbers.Purpose.{Purpose}
use Rattle.rule_nodes.specs.declared.numbers.Purpose.TheVariants.{Value, Jump}
use Rattle.rule_nodes.specs.declared.numbers.Tally.{Tally}
use Rattle.rule_nodes.specs.declared.numbers.Tally.TheVariants.{HowMany, LeastMessage}
use Rattle.rule_nodes.specs.declared.numbers.Source.{Source}
use Rattle.rule_nodes.specs.declared.numbers.Source.TheVariants.{Constant, FromLocal, FromWord, Computed}
use Rattle.rule_syntax.specs.declared.syntax.Term.{Term}
use Rattle.rule_syntax.specs.declared.syntax.Term.TheVariants.{Number, Nodes, Faults, Modulus, Me, Coin, LoopNode, Local, Word, Message', Binary', Logical', Not', Choice', Count', Least', Sorted'}
use Rattle.rule_meaning.specs.Meaning.{NodeState, value, word_at, apply, compare, bit_of, truth, apply_operator, combine, message_from, numbers_of_nodes, in_order, number_at_place}
use Rattle.rule_nodes.specs.Operands.{is_constant, is_fetched, is_operand, is_shared, constant_number, depth_behind, fetched_source, term_source}
use Rattle.rule_nodes.specs.Fits.{HasPlace, SidesFit, Fits, TallyFits}
use Rattle.rule_nodes.specs.Code.{number_place, fetch_code, keep_code, increment_code, place_operand, load_place, set_number, copy, alu_op_of, cond_of, jump_on, jump_by, jump_at, beyond_purpose, truth_code, by_value, by_test, get_code, operand_code, load_code, jump_register, by_operator, left_code, right_code, beside_code, binary_code, choice_code, if_code, decides, both_far, both_code, message_code, message_by, mirror, set_node, lower_code, tally_start, tally_step, tests_code, tallied_code, tally_code, tally_test, shared_code, sides_code, items_code, exchange_code, exchange_codes, pass_code, pass_codes, nearer_end, passes_before, sorted_code, term_code, over_code}
use Rattle.rule_nodes.proofs.Places.{inside, IsInside, IsPlace, place_is, not_frame, IsIn, At, IsFramed, Placed, fetches, keeps_at, starts_at, put_at}
use Rattle.rule_nodes.proofs.Sources.{is_found}
use Rattle.rule_nodes.proofs.TallyLaws.{steps_alike, tally_next, tally_below, tally_none, tally_more, tally_stays, tally_small, tally_start_small}
use Rattle.rule_nodes.proofs.SortLaws.{kept, left, kept_first, kept_second, left_second, left_first, kept_small, left_small, pass_keeps, pass_leaves, kept_of, left_of, left_after, left_long, sorted_found, sorted_none, numbers_long}
use Rattle.rule_nodes.proofs.Rows.{But, but_same, but_placed, but_then, same_but, AreAt, are_same, are_but, are_more}
use Rattle.rule_nodes.proofs.FitsLess.{fits_less}
use Rattle.rule_nodes.proofs.Shared.{shared_value}
use Rattle.rule_nodes.proofs.Small.{low, imm_low, mirrored, apply_small, operate_small, taken, compared_low, compared, truth_of, jump_compared, jump_by_zero, not_not}
use Rattle.rule_nodes.proofs.Words.{word_loaded, word_small}
use Rattle.rule_nodes.proofs.Forms.{sets_number, copies, operates, counts, passes, jumps, numbers, Reaches, stays, once, chain, further}
use Rattle.rule_nodes.proofs.States.{stands_front, stands_back, Same, same_self, same_then, same_below, same_less, same_at, same_put, same_call, same_placed, Alike, same_alike, Holds, still_holds, IsSized}

abbrev pub hop : Bool → ℕ → ℕ
hop hit far = if hit then far else 0

-- how far beyond its end a test leads
abbrev pub landing : Bool → ℕ → ℕ → ℕ
landing when v far = hop (taken when v) far

pub landing_small : (when : Bool) (v far : ℕ) → landing when v far ≤ far
landing_small when v far = elim (cases_Bool (taken when v)) [
  | inl e ↦ rw e (omega arith)
  | inr e ↦ rw e (omega arith)
]

-- a state with this number in r0
pub record Has (d : ℕ) (s : MachineState) (v : ℕ) (t : MachineState) : Type 0 where
  pub same : Same d s t
  pub r0 : get t.frame.registers 0 ≡ Some (Num v)
  pub small : v < 2 ^ 32

-- and this one in r1
pub record HasTwo (d : ℕ) (s : MachineState) (a b : ℕ) (t : MachineState) : Type 0 where
  pub same : Same d s t
  pub r0 : get t.frame.registers 0 ≡ Some (Num a)
  pub r1 : get t.frame.registers 1 ≡ Some (Num b)
  pub left : a < 2 ^ 32
  pub right : b < 2 ^ 32

-- and this one where an operand says
pub record HasPair (src : Operand) (d : ℕ) (s : MachineState) (a b : ℕ) (t : MachineState) : Type 0 where
  pub same : Same d s t
  pub r0 : get t.frame.registers 0 ≡ Some (Num a)
  pub raw : ℕ
  pub other : operand_of t.frame src ≡ Ok (Num raw)
  pub low_bits : raw % 2 ^ 32 ≡ b
  pub left : a < 2 ^ 32
  pub right : b < 2 ^ 32

has_pair : (d : ℕ) (s : MachineState) (a b : ℕ) (t : MachineState) → HasTwo d s a b t
    → HasPair (operand.Reg R1) d s a b t
has_pair d s a b t h = let e = h.r1 in record {
  same = h.same;
  r0 = h.r0;
  raw = b;
  other = rw e refl;
  low_bits = low b h.right;
  left = h.left;
  right = h.right;
}

-- a source has this number
abbrev pub IsAt : Sizes → ℕ → NodeState → Source → ℕ → Type 0
IsAt z lets u (Constant c) v = (c ≡ v) × (c < 2 ^ 32)
IsAt z lets u (FromLocal k) v = (k < lets) × (u.locals k ≡ v)
IsAt z lets u (FromWord k) v = (4 * k + 4 ≤ z.memory) × (word_at k u.memory ≡ v)
IsAt z lets u Computed v = Unit {0}

has_less : (d e v : ℕ) (s t : MachineState) → d ≤ e → Has e s v t → Has d s v t
has_less d e v s t le h = record {
  same = same_below d e s t le h.same;
  r0 = h.r0;
  small = h.small;
}

-- the number of an operand is found, and of any other term it is computed
fetched_same : (t : Term) → is_found (fetched_source t) ≡ is_fetched t
fetched_same (Local k) = refl
fetched_same (Word k) = refl
fetched_same t = refl

pub found_same : (t : Term) (z : Sizes) (J : List ℕ) → is_found (term_source t z J) ≡ is_operand t
found_same t z J =
    let c = Constant (constant_number t z J) in
    elim (cases_Bool (is_constant t)) [
      | inl so ↦
          let operand : is_operand t ≡ true = rw so refl in
          ap is_found (cond-true (is_constant t) c (fetched_source t) so) ∙ sym operand
      | inr other ↦
          let operand : is_operand t ≡ is_fetched t = rw other refl in
          ap is_found (cond-false (is_constant t) c (fetched_source t) other) ∙ fetched_same t ∙ sym operand
    ]

pub behind_more : (steady : Bool) (d : ℕ) → d ≤ depth_behind steady d
behind_more true d = omega arith
behind_more false d = omega arith

pub behind_few : (steady : Bool) (d : ℕ) → d ≤ PLACES → HasPlace steady d → depth_behind steady d ≤ PLACES
behind_few true d few free = few
behind_few false d few free = omega (arith, free)

pub free_beside : (a b : Bool) (d : ℕ) → a ≡ false → b ≡ false → HasPlace (a || b) d
    → (d < PLACES) × (depth_behind (a || b) d ≡ d + 1)
free_beside false false d e f free = (free, refl)
free_beside true b d e f free = absurd (let no : true ≡ false = e in cc)
free_beside false true d e f free = absurd (let no : true ≡ false = f in cc)

pub same_depth : (a b : Bool) (d : ℕ) → a ≡ true → depth_behind (a || b) d ≡ d
same_depth true b d e = refl
same_depth false b d e = absurd (let no : false ≡ true = e in cc)

module _ (program : List Insn) (env : Setting) (last : ℕ) (solid : (k : ℕ) → k ≤ last → BeginsAt program k) where
  -- the state leads, in at most `limit` steps, to a state at this slot with this property
  pub record Gets (s : MachineState) (to limit : ℕ) (P : MachineState → Type 0) : Type 0 where
    pub new : MachineState
    pub run : Reaches program env s new limit
    pub slot : new.frame.slot ≡ to
    pub fact : P new

  pub gets : (s : MachineState) (to to2 limit limit2 : ℕ) (P Q : MachineState → Type 0) → to ≡ to2 → limit ≤ limit2
      → ((t : MachineState) → P t → Q t) → Gets s to limit P → Gets s to2 limit2 Q
  gets s to to2 limit limit2 P Q e le f g = record {
    new = g.new;
    run = chain program env s g.new g.new limit 0 limit2 g.run (stays program env g.new) (omega arith);
    slot = g.slot ∙ e;
    fact = f g.new g.fact;
  }

  pub here_is : (t : MachineState) (to : ℕ) (code : List Insn) → t.frame.slot ≡ to → Stands program to code
      → Stands program t.frame.slot code
  here_is t to code e h = subst (λ (n : ℕ). Stands program n code) (sym e) h

  -- ---- one instruction

  pub number_runs : (d v : ℕ) (s : MachineState) → v < 2 ^ 32 → Stands program s.frame.slot (set_number R0 v ∷ [])
      → s.frame.slot + 1 ≤ last → Gets s (s.frame.slot + 1) 1 (Has d s v)
  number_runs d v s small stands le = record {
    new = put s (s.frame.slot + 1) R0 (Num v);
    run = once program env s _ (sets_number program env s (s.frame.slot + 1) R0 v stands.0 refl
        (solid _ le) small refl);
    slot = refl;
    fact = record {
      same = same_put d s s (s.frame.slot + 1) R0 (Num v) (omega arith) (same_self d s);
      r0 = put_same s.frame.registers 0 (Num v);
      small = small;
    };
  }

  -- a place into r0
  pub fetch_runs : (d k v : ℕ) (s : MachineState) → v < 2 ^ 32 → At k s v → IsFramed s
      → Stands program s.frame.slot (fetch_code R0 (number_place k) ∷ []) → s.frame.slot + 1 ≤ last
      → Gets s (s.frame.slot + 1) 1 (Has d s v)
  fetch_runs d k v s small e framed stands le = record {
    new = put s (s.frame.slot + 1) R0 (Num v);
    run = once program env s _ (fetches program env (number_place k) s (s.frame.slot + 1) R0 v (inside k) stands.0 refl
        (solid _ le) e framed small refl);
    slot = refl;
    fact = record {
      same = same_put d s s (s.frame.slot + 1) R0 (Num v) (omega arith) (same_self d s);
      r0 = put_same s.frame.registers 0 (Num v);
      small = small;
    };
  }

  -- a state with this number in place d
  pub record InPlace (d : ℕ) (s : MachineState) (v : ℕ) (t : MachineState) : Type 0 where
    pub same : Same d s t
    pub there : At d t v

  -- r0 into place d, after a run
  pub keep_runs : (d v : ℕ) (s t : MachineState) (k : ℕ) → d < PLACES → Reaches program env s t k → Has d s v t
      → IsFramed s → insn_at program t.frame.slot ≡ Some (keep_code (number_place d)) → t.frame.slot + 1 ≤ last
      → Gets s (t.frame.slot + 1) (k + 1) (InPlace d s v)
  keep_runs d v s t k few run has framed here le =
      let p = keeps_at program env d v t (t.frame.slot + 1) few here refl (solid _ le) has.r0
      (has.same.framed framed) has.small in
      record {
        new = p.new;
        run = further program env s t p.new k (k + 1) run p.runs (omega arith);
        slot = p.slot;
        fact = record {
          same = same_then d s t p.new has.same (same_placed d d v t p.new (omega arith) few p.fact);
          there = p.fact.there;
        };
      }

  -- what stays while place d changes, and the places below e
  pub record Around (d e : ℕ) (s t : MachineState) : Type 0 where
    pub r6 : get t.frame.registers 6 ≡ get s.frame.registers 6
    pub places : (k v : ℕ) → k ≢ d → k < e → At k s v → At k t v
    pub framed : IsFramed s → IsFramed t
    pub memory : t.memory ≡ s.memory
    pub sent : t.sent ≡ s.sent

  around_same : (d e : ℕ) (s t : MachineState) → Same e s t → Around d e s t
  around_same d e s t h = record {
    r6 = h.r6;
    places = λ k v other lt x. h.places k v lt x;
    framed = h.framed;
    memory = h.memory;
    sent = h.sent;
  }

  around_then : (d e : ℕ) (s t u : MachineState) → Around d e s t → Around d e t u → Around d e s u
  around_then d e s t u h g = record {
    r6 = g.r6 ∙ h.r6;
    places = λ k v other lt x. g.places k v other lt (h.places k v other lt x);
    framed = λ x. g.framed (h.framed x);
    memory = g.memory ∙ h.memory;
    sent = g.sent ∙ h.sent;
  }

  same_around : (d e : ℕ) (s t : MachineState) → d ≤ e → Around d e s t → Same d s t
  same_around d e s t le h = record {
    r6 = h.r6;
    places = λ k v lt x. h.places k v (λ q. omega (arith, q, lt)) (omega (arith, lt, le)) x;
    framed = h.framed;
    memory = h.memory;
    sent = h.sent;
  }

  around_placed : (d e v : ℕ) (s t : MachineState) → e ≤ PLACES → Placed d v s t → Around d e s t
  around_placed d e v s t few h = record {
    r6 = h.r6;
    places = λ k w other lt x. h.others k w other (omega (arith, lt, few)) x;
    framed = h.framed;
    memory = h.memory;
    sent = h.sent;
  }

  -- place d has changed to this number
  pub record Changed (d e : ℕ) (s : MachineState) (v : ℕ) (t : MachineState) : Type 0 where
    pub around : Around d e s t
    pub there : At d t v

  -- by r0, after a run
  change_runs : (d e v : ℕ) (s t : MachineState) (k : ℕ) → d < e → e ≤ PLACES → Reaches program env s t k → Has e s v t
      → IsFramed s → insn_at program t.frame.slot ≡ Some (keep_code (number_place d)) → t.frame.slot + 1 ≤ last
      → Gets s (t.frame.slot + 1) (k + 1) (Changed d e s v)
  change_runs d e v s t k lt few run has framed here le =
      let p = keeps_at program env d v t (t.frame.slot + 1) (omega (arith, lt, few)) here refl (solid _ le) has.r0
      (has.same.framed framed) has.small in
      record {
        new = p.new;
        run = further program env s t p.new k (k + 1) run p.runs (omega arith);
        slot = p.slot;
        fact = record {
          around = around_then d e s t p.new (around_same d e s t has.same) (around_placed d e v t p.new few p.fact);
          there = p.fact.there;
        };
      }

  -- a jump by a condition, after a run
  pub branch_leads : (s t : MachineState) (k far : ℕ) (test : Cond) (dst : Reg) (src : Operand) (a b : ℕ) (hit : Bool)
      → Reaches program env s t k → insn_at program t.frame.slot ≡ Some (i.Branch test W32 dst src (pos far))
      → get t.frame.registers (register_number dst) ≡ Some (Num a) → operand_of t.frame src ≡ Ok (Num b)
      → holds test W32 a b ≡ hit → t.frame.slot + 1 + far ≤ last
      → Gets s (t.frame.slot + 1 + hop hit far) (k + 1) (Alike t)
  branch_leads s t k far test dst src a b true run here e f h le =
      let to = t.frame.slot + 1 + far in
      let one : step program env t ≡ Ok (Running (at t to)) = jumps program env t to test dst src far a b here refl
      (solid to le) e f h in
      record {
        new = at t to;
        run = further program env s t (at t to) k (k + 1) run one (omega arith);
        slot = refl;
        fact = record { registers = refl; stack = refl; kept = refl; memory = refl; sent = refl };
      }
  branch_leads s t k far test dst src a b false run here e f h le =
      let to = t.frame.slot + 1 in
      let one : step program env t ≡ Ok (Running (at t to)) = passes program env t to test dst src far a b here refl
      (solid to (omega (arith, le))) e f h in
      record {
        new = at t to;
        run = further program env s t (at t to) k (k + 1) run one (omega arith);
        slot = omega arith;
        fact = record { registers = refl; stack = refl; kept = refl; memory = refl; sent = refl };
      }

  pub branch_runs : (d : ℕ) (s t : MachineState) (k far : ℕ) (test : Cond) (dst : Reg) (src : Operand) (a b : ℕ)
      (hit : Bool) → Reaches program env s t k → Same d s t
      → insn_at program t.frame.slot ≡ Some (i.Branch test W32 dst src (pos far))
      → get t.frame.registers (register_number dst) ≡ Some (Num a) → operand_of t.frame src ≡ Ok (Num b)
      → holds test W32 a b ≡ hit → t.frame.slot + 1 + far ≤ last
      → Gets s (t.frame.slot + 1 + hop hit far) (k + 1) (Same d s)
  branch_runs d s t k far test dst src a b hit run same here e f h le =
      gets s _ _ _ _ (Alike t) (Same d s) refl (omega arith) (λ u alike. same_alike d s t u same alike)
      (branch_leads s t k far test dst src a b hit run here e f h le)

  -- ---- what a term is computed for

  abbrev pub Reached : Purpose → ℕ → MachineState → ℕ → ℕ → ℕ → Type 0
  Reached Value d s behind limit v = Gets s behind limit (Has d s v)
  Reached (Jump when far) d s behind limit v = Gets s (behind + landing when v far) limit (Same d s)

  pub by_value_runs : (purpose : Purpose) (code : List Insn) (d v : ℕ) (s : MachineState)
      → Stands program s.frame.slot (by_value purpose code)
      → s.frame.slot + length (by_value purpose code) + beyond_purpose purpose ≤ last
      → (Stands program s.frame.slot code → s.frame.slot + length code ≤ last
      → Gets s (s.frame.slot + length code) (length code) (Has d s v))
      → Reached purpose d s (s.frame.slot + length (by_value purpose code)) (length (by_value purpose code)) v
  by_value_runs Value code d v s stands le run = run stands (omega (arith, le))
  by_value_runs (Jump when far) code d v s stands le run =
      let j = jump_at (jump_on when NotEqual) 0 far in
      let len : length (code ++ j ∷ []) ≡ length code + 1 = length-append code (j ∷ []) in
      let c = run (stands_front program s.frame.slot code (j ∷ []) stands) (omega (arith, len, le)) in
      let here : insn_at program c.new.frame.slot ≡ Some j = ap (insn_at program) c.slot
      ∙ (stands_back program s.frame.slot code (j ∷ []) stands).0 in
      let end = branch_runs d s c.new (length code) far (cond_of (jump_on when NotEqual)) R0 (operand.Imm (pos 0)) v 0
      (taken when v) c.run c.fact.same here c.fact.r0 refl (jump_by_zero when v c.fact.small)
      (omega (arith, len, le, c.slot)) in
      gets s _ _ _ _ (Same d s) (Same d s) (omega (arith, len, c.slot)) (omega (arith, len)) (λ t h. h) end

  -- the runs of a test, for each jump
  abbrev pub TestRuns : (Bool → ℕ → List Insn) → ℕ → ℕ → MachineState → Type 0
  TestRuns test d v s = (when : Bool) (far : ℕ) → Stands program s.frame.slot (test when far)
      → s.frame.slot + length (test when far) + far ≤ last
      → Gets s (s.frame.slot + length (test when far) + landing when v far) (length (test when far)) (Same d s)

  -- the number of a test, from its two ends
  truth_runs : (d : ℕ) (b : Bool) (s t : MachineState) (to limit : ℕ) → Reaches program env s t limit → Same d s t
      → t.frame.slot ≡ to + landing false (bit_of b) 2 → Stands program to truth_code → to + 3 ≤ last
      → Gets s (to + 3) (limit + 3) (Has d s (bit_of b))
  truth_runs d true s t to limit run same e stands le =
      let here : t.frame.slot ≡ to = omega (arith, e) in
      let t1 = put t (to + 1) R0 (Num 1) in
      let t2 = at t1 (to + 3) in
      let e1 : step program env t ≡ Ok (Running t1) = sets_number program env t (to + 1) R0 1
      (ap (insn_at program) here ∙ stands.0) (omega (arith, here)) (solid _ (omega (arith, le))) (omega arith) refl in
      let e2 : step program env t1 ≡ Ok (Running t2) = goes program env t1 (to + 3) 1 stands.1.0
      (omega arith) (solid _ le) in
      record {
        new = t2;
        run = further program env s t1 t2 (limit + 1) (limit + 3)
            (further program env s t t1 limit (limit + 1) run e1 (omega arith)) e2 (omega arith);
        slot = refl;
        fact = record {
          same = same_at d s t1 (to + 3) (same_put d s t (to + 1) R0 (Num 1) (omega arith) same);
          r0 = put_same t.frame.registers 0 (Num 1);
          small = omega arith;
        };
      }
  truth_runs d false s t to limit run same e stands le =
      let here : t.frame.slot ≡ to + 1 + 1 = omega (arith, e) in
      let t1 = put t (to + 3) R0 (Num 0) in
      let e1 : step program env t ≡ Ok (Running t1) = sets_number program env t (to + 3) R0 0
      (ap (insn_at program) here ∙ stands.1.1.0) (omega (arith, here)) (solid _ le) (omega arith) refl in
      record {
        new = t1;
        run = further program env s t t1 limit (limit + 3) run e1 (omega arith);
        slot = refl;
        fact = record {
          same = same_put d s t (to + 3) R0 (Num 0) (omega arith) same;
          r0 = put_same t.frame.registers 0 (Num 0);
          small = omega arith;
        };
      }

  pub by_test_runs : (purpose : Purpose) (test : Bool → ℕ → List Insn) (d : ℕ) (b : Bool) (s : MachineState)
      → Stands program s.frame.slot (by_test purpose test)
      → s.frame.slot + length (by_test purpose test) + beyond_purpose purpose ≤ last
      → TestRuns test d (bit_of b) s
      → Reached purpose d s (s.frame.slot + length (by_test purpose test)) (length (by_test purpose test)) (bit_of b)
  by_test_runs Value test d b s stands le run =
      let code = test false 2 in
      let len : length (code ++ truth_code) ≡ length code + 3 = length-append code truth_code in
      let c = run false 2 (stands_front program s.frame.slot code truth_code stands) (omega (arith, len, le)) in
      let end = truth_runs d b s c.new (s.frame.slot + length code) (length code) c.run c.fact c.slot
      (stands_back program s.frame.slot code truth_code stands) (omega (arith, len, le)) in
      gets s _ _ _ _ (Has d s (bit_of b)) (Has d s (bit_of b)) (omega (arith, len)) (omega (arith, len))
      (λ t h. h) end
  by_test_runs (Jump when far) test d b s stands le run = run when far stands le

  -- ---- a number in a place, and what follows

  pub kept_runs : (d a more : ℕ) (left back : List Insn) (s : MachineState) (P : MachineState → Type 0) → d < PLACES
      → IsFramed s → Stands program s.frame.slot (left ++ (keep_code (number_place d) ∷ back))
      → s.frame.slot + length (left ++ (keep_code (number_place d) ∷ back)) ≤ last
      → (Stands program s.frame.slot left → s.frame.slot + length left ≤ last
      → Gets s (s.frame.slot + length left) (length left) (Has d s a))
      → ((t : MachineState) → InPlace d s a t → a < 2 ^ 32 → Stands program t.frame.slot back
      → t.frame.slot + length back ≤ last → t.frame.slot ≡ s.frame.slot + length left + 1
      → Gets t (t.frame.slot + length back + more) (length back) P)
      → Gets s (s.frame.slot + length (left ++ (keep_code (number_place d) ∷ back)) + more)
      (length (left ++ (keep_code (number_place d) ∷ back))) P
  kept_runs d a more left back s P few framed stands le first second =
      let rest = keep_code (number_place d) ∷ back in
      let len : length (left ++ rest) ≡ length left + (1 + length back) = omega (arith, length-append left rest) in
      let c = first (stands_front program s.frame.slot left rest stands) (omega (arith, len, le)) in
      let at_rest = here_is c.new _ rest c.slot (stands_back program s.frame.slot left rest stands) in
      let p = keep_runs d a s c.new (length left) few c.run c.fact framed at_rest.0 (omega (arith, len, le, c.slot)) in
      let t = p.new in
      let g = second t p.fact c.fact.small (here_is t _ back p.slot at_rest.1) (omega (arith, len, le, c.slot, p.slot))
      (omega (arith, c.slot, p.slot)) in
      record {
        new = g.new;
        run = chain program env s t g.new (length left + 1) (length back) (length (left ++ rest)) p.run g.run
            (omega (arith, len));
        slot = omega (arith, len, c.slot, p.slot, g.slot);
        fact = g.fact;
      }

  -- for a purpose
  pub kept_reached : (purpose : Purpose) (d a v : ℕ) (left back : List Insn) (s : MachineState) → d < PLACES
      → IsFramed s → Stands program s.frame.slot (left ++ (keep_code (number_place d) ∷ back))
      → s.frame.slot + length (left ++ (keep_code (number_place d) ∷ back)) + beyond_purpose purpose ≤ last
      → (Stands program s.frame.slot left → s.frame.slot + length left ≤ last
      → Gets s (s.frame.slot + length left) (length left) (Has d s a))
      → ((t : MachineState) → InPlace d s a t → a < 2 ^ 32 → Stands program t.frame.slot back
      → t.frame.slot + length back + beyond_purpose purpose ≤ last
      → Reached purpose (d + 1) t (t.frame.slot + length back) (length back) v)
      → Reached purpose d s (s.frame.slot + length (left ++ (keep_code (number_place d) ∷ back)))
      (length (left ++ (keep_code (number_place d) ∷ back))) v
  kept_reached Value d a v left back s few framed stands le first second =
      gets s _ _ _ _ (Has d s v) (Has d s v) (omega arith) (omega arith) (λ t k. k)
      (kept_runs d a 0 left back s (Has d s v) few framed stands (omega (arith, le)) first
      (λ t is small st l at_t. gets t _ _ _ _ (Has (d + 1) t v) (Has d s v) (omega arith) (omega arith)
      (λ w k. record { same = same_then d s t w is.same (same_less d t w k.same); r0 = k.r0; small = k.small })
      (second t is small st (omega (arith, l)))))
  kept_reached (Jump when far) d a v left back s few framed stands le first second =
      let rest = keep_code (number_place d) ∷ back in
      let len : length (left ++ rest) ≡ length left + (1 + length back) = omega (arith, length-append left rest) in
      kept_runs d a (landing when v far) left back s (Same d s) few framed stands (omega (arith, le)) first
      (λ t is small st l at_t. gets t _ _ _ _ (Same (d + 1) t) (Same d s) refl (omega arith)
      (λ w k. same_then d s t w is.same (same_less d t w k)) (second t is small st (omega (arith, le, len, at_t))))

  -- ---- choices

  pub choice_runs : (test : ℕ → List Insn) (a b : List Insn) (d v : ℕ) (s : MachineState) (P : MachineState → Type 0)
      → Stands program s.frame.slot (choice_code test a b) → s.frame.slot + length (choice_code test a b) ≤ last
      → ((far : ℕ) → Stands program s.frame.slot (test far) → s.frame.slot + length (test far) + far ≤ last
      → Gets s (s.frame.slot + length (test far) + landing false v far) (length (test far)) (Same d s))
      → ((t : MachineState) → Same d s t → truth v ≡ true → Stands program t.frame.slot a
      → t.frame.slot + length a ≤ last → Gets t (t.frame.slot + length a) (length a) P)
      → ((t : MachineState) → Same d s t → truth v ≡ false → Stands program t.frame.slot b
      → t.frame.slot + length b ≤ last → Gets t (t.frame.slot + length b) (length b) P)
      → ((t : MachineState) (to : ℕ) → P t → P (at t to))
      → Gets s (s.frame.slot + length (choice_code test a b)) (length (choice_code test a b)) P
  choice_runs test a b d v s P stands le tests first second blind =
      let far = length a + 1 in
      let code = test far in
      let skip = i.Ja (pos (length b)) ∷ b in
      let rest = a ++ skip in
      let len : length (code ++ rest) ≡ length code + (length a + (1 + length b)) = omega
      (arith, length-append code rest, length-append a skip) in
      let c = tests far (stands_front program s.frame.slot code rest stands) (omega (arith, len, le)) in
      let after = stands_back program s.frame.slot code rest stands in
      elim (cases_Bool (truth v)) [
        | inl so ↦
            let none : landing false v far ≡ 0 = rw so refl in
            let slot : c.new.frame.slot ≡ s.frame.slot + length code = omega (arith, c.slot, none) in
            let there = here_is c.new _ rest slot after in
            let g = first c.new c.fact so (stands_front program c.new.frame.slot a skip there)
            (omega (arith, len, le, slot)) in
            let t = g.new in
            let end = t.frame.slot + 1 + length b in
            let jump = here_is t _ skip g.slot (stands_back program c.new.frame.slot a skip there) in
            let e : step program env t ≡ Ok (Running (at t end)) = goes program env t end (length b) jump.0 refl
            (solid _ (omega (arith, len, le, slot, g.slot))) in
            let run = chain program env s c.new t (length code) (length a) (length code + length a) c.run g.run
            (omega arith) in
            record {
              new = at t end;
              run = further program env s t (at t end) _ (length (code ++ rest)) run e (omega (arith, len));
              slot = omega (arith, len, slot, g.slot);
              fact = blind t end g.fact;
            }
        | inr other ↦
            let all : landing false v far ≡ far = rw other refl in
            let slot : c.new.frame.slot ≡ s.frame.slot + length code + length a + 1 = omega (arith, c.slot, all) in
            let there = here_is c.new _ b slot (stands_back program (s.frame.slot + length code) a skip after).1 in
            let g = second c.new c.fact other there (omega (arith, len, le, slot)) in
            record {
              new = g.new;
              run = chain program env s c.new g.new (length code) (length b) (length (code ++ rest)) c.run g.run
                  (omega (arith, len));
              slot = omega (arith, len, slot, g.slot);
              fact = g.fact;
            }
      ]

  -- with no code for the other case
  pub if_runs : (alone : Bool) (test : ℕ → List Insn) (a b : List Insn) (d v : ℕ) (s : MachineState)
      (P : MachineState → Type 0) → (alone ≡ true → b ≡ [])
      → Stands program s.frame.slot (if_code alone test a b) → s.frame.slot + length (if_code alone test a b) ≤ last
      → ((far : ℕ) → Stands program s.frame.slot (test far) → s.frame.slot + length (test far) + far ≤ last
      → Gets s (s.frame.slot + length (test far) + landing false v far) (length (test far)) (Same d s))
      → ((t : MachineState) → Same d s t → truth v ≡ true → Stands program t.frame.slot a
      → t.frame.slot + length a ≤ last → Gets t (t.frame.slot + length a) (length a) P)
      → ((t : MachineState) → Same d s t → truth v ≡ false → Stands program t.frame.slot b
      → t.frame.slot + length b ≤ last → Gets t (t.frame.slot + length b) (length b) P)
      → ((t : MachineState) (to : ℕ) → P t → P (at t to))
      → Gets s (s.frame.slot + length (if_code alone test a b)) (length (if_code alone test a b)) P
  if_runs false test a b d v s P none stands le tests first second blind =
      choice_runs test a b d v s P stands le tests first second blind
  if_runs true test a b d v s P none stands le tests first second blind =
      let far = length a in
      let code = test far in
      let len : length (code ++ a) ≡ length code + length a = length-append code a in
      let c = tests far (stands_front program s.frame.slot code a stands) (omega (arith, len, le)) in
      elim (cases_Bool (truth v)) [
        | inl so ↦
            let stay : landing false v far ≡ 0 = rw so refl in
            let slot : c.new.frame.slot ≡ s.frame.slot + length code = omega (arith, c.slot, stay) in
            let there = here_is c.new _ a slot (stands_back program s.frame.slot code a stands) in
            let g = first c.new c.fact so there (omega (arith, len, le, slot)) in
            record {
              new = g.new;
              run = chain program env s c.new g.new (length code) (length a) (length (code ++ a)) c.run g.run
                  (omega (arith, len));
              slot = omega (arith, len, slot, g.slot);
              fact = g.fact;
            }
        | inr other ↦
            let all : landing false v far ≡ far = rw other refl in
            let slot : c.new.frame.slot ≡ s.frame.slot + length code + length a = omega (arith, c.slot, all) in
            let empty = none refl in
            let short : length b ≡ 0 = ap length empty in
            let g = second c.new c.fact other (subst (λ (x : List Insn). Stands program c.new.frame.slot x)
            (sym empty) tt) (omega (arith, len, le, slot, short)) in
            record {
              new = g.new;
              run = chain program env s c.new g.new (length code) (length b) (length (code ++ a)) c.run g.run
                  (omega (arith, len, short));
              slot = omega (arith, len, slot, g.slot, short);
              fact = g.fact;
            }
      ]

  -- ---- conditions of two

  landing_hit : (alone : Bool) (v far : ℕ) → truth v ≡ alone → landing alone v far ≡ far
  landing_hit true v far e = rw e refl
  landing_hit false v far e = rw e refl

  landing_miss : (alone : Bool) (v far : ℕ) → truth v ≡ not alone → landing alone v far ≡ 0
  landing_miss true v far e = rw e refl
  landing_miss false v far e = rw e refl

  far_decided : (alone when : Bool) (n far v : ℕ) → truth v ≡ alone → both_far alone when n far ≡ n + landing when v far
  far_decided true true n far v e = rw e refl
  far_decided true false n far v e = rw e (omega arith)
  far_decided false true n far v e = rw e (omega arith)
  far_decided false false n far v e = rw e refl

  far_small : (alone when : Bool) (n far : ℕ) → both_far alone when n far ≤ n + far
  far_small true true n far = omega arith
  far_small true false n far = omega arith
  far_small false true n far = omega arith
  far_small false false n far = omega arith

  landing_same : (when : Bool) (v w far : ℕ) → truth v ≡ truth w → landing when v far ≡ landing when w far
  landing_same true v w far e = ap (λ (b : Bool). if b then far else 0) e
  landing_same false v w far e = ap (λ (b : Bool). if not b then far else 0) e

  from_not : (b : Bool) (alone : Bool) → (b ≡ alone) ⊎ (b ≡ not alone)
  from_not true true = inl refl
  from_not true false = inr refl
  from_not false true = inr refl
  from_not false false = inl refl

  decided : (c : Connective) (x y : Bool) → x ≡ decides c → combine c x y ≡ decides c
  decided And x y e = ap (λ (b : Bool). b && y) e
  decided Or x y e = ap (λ (b : Bool). b || y) e

  undecided : (c : Connective) (x y : Bool) → x ≡ not (decides c) → combine c x y ≡ y
  undecided And x y e = ap (λ (b : Bool). b && y) e
  undecided Or x y e = ap (λ (b : Bool). b || y) e

  pub both_runs : (alone when : Bool) (far : ℕ) (left : Bool → ℕ → List Insn) (right : List Insn) (d va vb v : ℕ)
      (s : MachineState) → Stands program s.frame.slot (both_code alone when far left right)
      → s.frame.slot + length (both_code alone when far left right) + far ≤ last
      → TestRuns left d va s
      → ((t : MachineState) → Same d s t → Stands program t.frame.slot right → t.frame.slot + length right + far ≤ last
      → Gets t (t.frame.slot + length right + landing when vb far) (length right) (Same d t))
      → (truth va ≡ alone → truth v ≡ alone) → (truth va ≡ not alone → truth v ≡ truth vb)
      → Gets s (s.frame.slot + length (both_code alone when far left right) + landing when v far)
      (length (both_code alone when far left right)) (Same d s)
  both_runs alone when far left right d va vb v s stands le first second single other =
      let w = both_far alone when (length right) far in
      let code = left alone w in
      let len : length (code ++ right) ≡ length code + length right = length-append code right in
      let w_few : w ≤ length right + far = far_small alone when (length right) far in
      let c = first alone w (stands_front program s.frame.slot code right stands) (omega (arith, len, le, w_few)) in
      elim (from_not (truth va) alone) [
        | inl e ↦
            let hit : landing alone va w ≡ w = landing_hit alone va w e in
            let end : w ≡ length right + landing when v far = far_decided alone when (length right) far v (single e) in
            gets s _ _ _ _ (Same d s) (Same d s) (omega (arith, len, hit, end)) (omega (arith, len)) (λ t h. h) c
        | inr e ↦
            let miss : landing alone va w ≡ 0 = landing_miss alone va w e in
            let slot : c.new.frame.slot ≡ s.frame.slot + length code = omega (arith, c.slot, miss) in
            let there = here_is c.new _ right slot (stands_back program s.frame.slot code right stands) in
            let g = second c.new c.fact there (omega (arith, len, le, slot)) in
            let same : landing when v far ≡ landing when vb far = landing_same when v vb far (other e) in
            record {
              new = g.new;
              run = chain program env s c.new g.new (length code) (length right) (length (code ++ right)) c.run g.run
                  (omega (arith, len));
              slot = omega (arith, len, slot, g.slot, same);
              fact = same_then d s c.new g.new c.fact g.fact;
            }
      ]

  -- ---- messages

  pub message_runs : (z : Sizes) (d x : ℕ) (s t : MachineState) (k : ℕ) → IsSized z env
      → Reaches program env s t k → Has d s x t → Stands program t.frame.slot (message_code z.nodes)
      → t.frame.slot + 5 ≤ last → Gets s (t.frame.slot + 5) (k + 5) (Has d s (message_from z env x))
  message_runs z d x s t k sized run has stands le =
      let n = z.nodes in
      let few : n < 2 ^ 32 = omega (arith, sized.nodes, sized.setting.extent.few) in
      let c = branch_leads s t k 2 (cond_of Less) R0 (operand.Imm (pos n)) x n (nat_lt x n) run stands.0 has.r0
      refl (compared Less x n has.small few) (omega (arith, le)) in
      let w = c.new in
      let same : Same d s w = same_alike d s t w has.same c.fact in
      let r0 : get w.frame.registers 0 ≡ Some (Num x) = ap (λ m. get m 0) c.fact.registers ∙ has.r0 in
      elim (cases_Bool (nat_lt x n)) [
        | inl so ↦
            let hit : hop (nat_lt x n) 2 ≡ 2 = rw so refl in
            let slot : w.frame.slot ≡ t.frame.slot + 1 + 1 + 1 = omega (arith, c.slot, hit) in
            let there = here_is w _ (copy R1 R0 ∷ i.Call (pos 2) ∷ []) slot stands.1.1.1 in
            let w1 = put w (w.frame.slot + 1) R1 (Num x) in
            let w2 = called w1 (w.frame.slot + 1 + 1) (received env x) in
            let e1 : step program env w ≡ Ok (Running w1) = copies program env w (w.frame.slot + 1) R1 R0 x there.0 refl
            (solid _ (omega (arith, le, slot))) r0 has.small refl in
            let e2 : step program env w1 ≡ Ok (Running w2) = receives program env w1 (w.frame.slot + 1 + 1) x there.1.0
            refl (solid _ (omega (arith, le, slot))) (put_same w.frame.registers 1 (Num x))
            (omega (arith, ltb-true x n so, sized.nodes)) in
            let is : received env x ≡ message_from z env x = rw so refl in
            record {
              new = w2;
              run = further program env s w1 w2 (k + 1 + 1) (k + 5)
                  (further program env s w w1 (k + 1) (k + 1 + 1) c.run e1 (omega arith)) e2 (omega arith);
              slot = omega (arith, slot);
              fact = record {
                same = same_call d s w1 (w.frame.slot + 1 + 1) (received env x)
                    (same_put d s w (w.frame.slot + 1) R1 (Num x) (omega arith) same);
                r0 = put_same _ 0 (Num (received env x)) ∙ ap (λ v. Some (Num v)) is;
                small = rw so (received_fits env x sized.setting);
              };
            }
        | inr other ↦
            let miss : hop (nat_lt x n) 2 ≡ 0 = rw other refl in
            let slot : w.frame.slot ≡ t.frame.slot + 1 = omega (arith, c.slot, miss) in
            let there = here_is w _ (set_number R0 4294967295 ∷ i.Ja (pos 2) ∷ []) slot
            (stands.1.0, (stands.1.1.0, tt)) in
            let w1 = put w (w.frame.slot + 1) R0 (Num 4294967295) in
            let w2 = at w1 (w.frame.slot + 1 + 1 + 2) in
            let e1 : step program env w ≡ Ok (Running w1) = sets_number program env w (w.frame.slot + 1) R0 4294967295
            there.0 refl (solid _ (omega (arith, le, slot))) (omega arith) refl in
            let e2 : step program env w1 ≡ Ok (Running w2) = goes program env w1 (w.frame.slot + 1 + 1 + 2) 2 there.1.0
            refl (solid _ (omega (arith, le, slot))) in
            let is : 4294967295 ≡ message_from z env x = rw other refl in
            record {
              new = w2;
              run = further program env s w1 w2 (k + 1 + 1) (k + 5)
                  (further program env s w w1 (k + 1) (k + 1 + 1) c.run e1 (omega arith)) e2 (omega arith);
              slot = omega (arith, slot);
              fact = record {
                same = same_at d s w1 (w.frame.slot + 1 + 1 + 2)
                    (same_put d s w (w.frame.slot + 1) R0 (Num 4294967295) (omega arith) same);
                r0 = put_same w.frame.registers 0 (Num 4294967295) ∙ ap (λ v. Some (Num v)) is;
                small = rw other (omega arith);
              };
            }
      ]

  -- ---- the forms of terms

  call_runs : (d answer : ℕ) (s : MachineState) → answer < 2 ^ 32
      → step program env s ≡ Ok (Running (called s (s.frame.slot + 1) answer)) → Gets s (s.frame.slot + 1) 1
      (Has d s answer)
  call_runs d answer s small e = record {
    new = called s (s.frame.slot + 1) answer;
    run = once program env s _ e;
    slot = refl;
    fact = record {
      same = same_call d s s (s.frame.slot + 1) answer (same_self d s);
      r0 = put_same _ 0 (Num answer);
      small = small;
    };
  }

  load_runs : (d lets k : ℕ) (u : NodeState) (s : MachineState) → 4 * k + 4 ≤ env.shape.memory → Holds env lets u s
      → Stands program s.frame.slot (i.Load size.W R0 R6 (pos (4 * k)) ∷ []) → s.frame.slot + 1 ≤ last
      → Gets s (s.frame.slot + 1) 1 (Has d s (word_at k u.memory))
  load_runs d lets k u s inside h stands le =
      let v = word_at k u.memory in
      let room : 4 * k + 4 ≤ length u.memory = omega (arith, inside, h.room) in
      let read : number_at (slice_get s.memory) (4 * k) 4 ≡ Ok v =
      ap (λ (m : List ℕ). number_at (slice_get m) (4 * k) 4) h.memory ∙ word_loaded k u.memory room in
      let zero_off : 0 + 4 * k ≡ 4 * k = omega arith in
      let e = loads program env s (s.frame.slot + 1) R0 R6 (pos (4 * k)) (4 * k) v stands.0 refl (solid _ le) h.r6 refl
      (ap pos zero_off) (le-leb (4 * k + 4) env.shape.memory inside) read in
      record {
        new = put s (s.frame.slot + 1) R0 (Num v);
        run = once program env s _ e;
        slot = refl;
        fact = record {
          same = same_put d s s (s.frame.slot + 1) R0 (Num v) (omega arith) (same_self d s);
          r0 = put_same s.frame.registers 0 (Num v);
          small = word_small k u.memory room h.bytes;
        };
      }

  operation_runs : (op : Operation) (src : Operand) (d a b : ℕ) (code : List Insn) (s : MachineState)
      → Stands program s.frame.slot (code ++ i.Alu (alu_op_of op) W32 R0 src ∷ [])
      → s.frame.slot + length (code ++ i.Alu (alu_op_of op) W32 R0 src ∷ []) ≤ last
      → (Stands program s.frame.slot code → s.frame.slot + length code ≤ last
      → Gets s (s.frame.slot + length code) (length code) (HasPair src d s a b))
      → Gets s (s.frame.slot + length (code ++ i.Alu (alu_op_of op) W32 R0 src ∷ []))
      (length (code ++ i.Alu (alu_op_of op) W32 R0 src ∷ [])) (Has d s (apply op a b))
  operation_runs op src d a b code s stands le two =
      let act = i.Alu (alu_op_of op) W32 R0 src ∷ [] in
      let len : length (code ++ act) ≡ length code + 1 = length-append code act in
      let c = two (stands_front program s.frame.slot code act stands) (omega (arith, len, le)) in
      let t = c.new in
      let there = here_is t _ act c.slot (stands_back program s.frame.slot code act stands) in
      let v = apply op a b in
      let t1 = put t (t.frame.slot + 1) R0 (Num v) in
      let e : step program env t ≡ Ok (Running t1) = operates program env op t (t.frame.slot + 1) a b
      c.fact.raw src there.0 refl (solid _ (omega (arith, len, le, c.slot))) c.fact.r0 c.fact.other c.fact.low_bits
      c.fact.left c.fact.right in
      record {
        new = t1;
        run = further program env s t t1 (length code) (length (code ++ act)) c.run e (omega (arith, len));
        slot = omega (arith, len, c.slot);
        fact = record {
          same = same_put d s t (t.frame.slot + 1) R0 (Num v) (omega arith) c.fact.same;
          r0 = put_same t.frame.registers 0 (Num v);
          small = apply_small op a b c.fact.left c.fact.right;
        };
      }

  compare_runs : (r : Comparison) (src : Operand) (d a b : ℕ) (code : List Insn) (s : MachineState)
      → (Stands program s.frame.slot code → s.frame.slot + length code ≤ last
      → Gets s (s.frame.slot + length code) (length code) (HasPair src d s a b))
      → TestRuns (λ when far. code ++ jump_by (jump_on when r) src far ∷ []) d (bit_of (compare r a b)) s
  compare_runs r src d a b code s two when far stands le =
      let jump = jump_by (jump_on when r) src far ∷ [] in
      let len : length (code ++ jump) ≡ length code + 1 = length-append code jump in
      let c = two (stands_front program s.frame.slot code jump stands) (omega (arith, len, le)) in
      let t = c.new in
      let there = here_is t _ jump c.slot (stands_back program s.frame.slot code jump stands) in
      let hit = taken when (bit_of (compare r a b)) in
      let end = branch_runs d s t (length code) far (cond_of (jump_on when r)) R0 src a c.fact.raw hit c.run c.fact.same
      there.0 c.fact.r0 c.fact.other (jump_compared when r a b c.fact.raw c.fact.left c.fact.low_bits)
      (omega (arith, len, le, c.slot)) in
      gets s _ _ _ _ (Same d s) (Same d s) (omega (arith, len, c.slot)) (omega (arith, len)) (λ t h. h) end

  operator_runs : (o : Operator) (src : Operand) (purpose : Purpose) (d a b : ℕ) (code : List Insn) (s : MachineState)
      → Stands program s.frame.slot (by_operator o src purpose code)
      → s.frame.slot + length (by_operator o src purpose code) + beyond_purpose purpose ≤ last
      → (Stands program s.frame.slot code → s.frame.slot + length code ≤ last
      → Gets s (s.frame.slot + length code) (length code) (HasPair src d s a b))
      → Reached purpose d s (s.frame.slot + length (by_operator o src purpose code))
      (length (by_operator o src purpose code)) (apply_operator o a b)
  operator_runs (Compute op) src purpose d a b code s stands le two =
      by_value_runs purpose (code ++ i.Alu (alu_op_of op) W32 R0 src ∷ []) d (apply op a b) s stands le
      (λ st l. operation_runs op src d a b code s st l two)
  operator_runs (Compare r) src purpose d a b code s stands le two =
      by_test_runs purpose (λ when far. code ++ jump_by (jump_on when r) src far ∷ []) d (compare r a b) s stands le
      (compare_runs r src d a b code s two)

  pub some_nodes : (z : Sizes) → IsSized z env → 1 ≤ z.nodes
  some_nodes z sized = omega (arith, sized.nodes, sized.setting.extent.some)

  pub nodes_few : (z : Sizes) → IsSized z env → z.nodes < 2 ^ 31
  nodes_few z sized = omega (arith, sized.nodes, sized.setting.extent.few)

  -- ---- operands

  pub constant_is : (t : Term) (z : Sizes) (J : List ℕ) (u : NodeState) → is_constant t ≡ true
      → constant_number t z J ≡ value t z env J u
  constant_is (Number v) z J u e = refl
  constant_is Nodes z J u e = refl
  constant_is Faults z J u e = refl
  constant_is Modulus z J u e = refl
  constant_is (LoopNode k) z J u e = refl
  constant_is (Binary' o p a q b) z J u e =
      let parts = and_parts (is_constant a) (is_constant b) e in
      rw (constant_is a z J u parts.0, constant_is b z J u parts.1) refl
  constant_is t z J u e = absurd (let no : false ≡ true = e in cc)

  pub constant_small : (t : Term) (z : Sizes) (J : List ℕ) (lets d : ℕ) → is_constant t ≡ true → IsSized z env
      → All (λ j. j < z.nodes) J → Fits t z (length J) lets d → constant_number t z J < 2 ^ 32
  constant_small (Number v) z J lets d e sized nodes fits = fits
  constant_small Nodes z J lets d e sized nodes fits = omega (arith, nodes_few z sized)
  constant_small Faults z J lets d e sized nodes fits = sized.faults
  constant_small Modulus z J lets d e sized nodes fits = sized.modulus
  constant_small (LoopNode k) z J lets d e sized nodes fits =
      let lt : slice_index J k < z.nodes = All-get_or (λ j. j < z.nodes) J k 0 fits nodes in
      omega (arith, lt, nodes_few z sized)
  constant_small (Binary' o p a q b) z J lets d e sized nodes fits =
      let parts = and_parts (is_constant a) (is_constant b) e in
      operate_small o (constant_number a z J) (constant_number b z J)
      (constant_small a z J lets d parts.0 sized nodes fits.1)
      (constant_small b z J lets (depth_behind (is_operand a || is_operand b) d) parts.1 sized nodes fits.2)
  constant_small t z J lets d e sized nodes fits = absurd (let no : false ≡ true = e in cc)

  -- ---- where numbers are found

  fetched_is : (t : Term) (z : Sizes) (J : List ℕ) (lets d : ℕ) (u : NodeState) → Fits t z (length J) lets d
      → IsAt z lets u (fetched_source t) (value t z env J u)
  fetched_is (Local k) z J lets d u fits = (fits, refl)
  fetched_is (Word k) z J lets d u fits = (fits, refl)
  fetched_is t z J lets d u fits = tt

  pub source_is : (t : Term) (z : Sizes) (J : List ℕ) (lets d : ℕ) (u : NodeState) → IsSized z env
      → All (λ j. j < z.nodes) J → Fits t z (length J) lets d → IsAt z lets u (term_source t z J) (value t z env J u)
  source_is t z J lets d u sized nodes fits =
      let c = Constant (constant_number t z J) in
      let P : Source → Type 0 = λ x. IsAt z lets u x (value t z env J u) in
      elim (cases_Bool (is_constant t)) [
        | inl so ↦ subst P (sym (cond-true (is_constant t) c (fetched_source t) so))
            (constant_is t z J u so, constant_small t z J lets d so sized nodes fits)
        | inr other ↦ subst P (sym (cond-false (is_constant t) c (fetched_source t) other))
            (fetched_is t z J lets d u fits)
      ]

  -- a found number goes into a register
  pub record Fetched (dst : Reg) (t : MachineState) (v : ℕ) : Type 0 where
    pub fetched : step program env t ≡ Ok (Running (put t (t.frame.slot + 1) dst (Num v)))
    pub small : v < 2 ^ 32

  pub get_steps : (dst : Reg) (x : Source) (z : Sizes) (lets v : ℕ) (u : NodeState) (t : MachineState)
      → (register_number dst == 10) ≡ false → is_found x ≡ true → IsAt z lets u x v → IsSized z env → lets ≤ PLACES
      → Holds env lets u t → insn_at program t.frame.slot ≡ Some (get_code dst x) → t.frame.slot + 1 ≤ last
      → Fetched dst t v
  get_steps dst (Constant c) z lets v u t free found is sized few h here le =
      subst (λ (x : ℕ). Fetched dst t x) is.0 (record {
        fetched = sets_number program env t (t.frame.slot + 1) dst c here refl (solid _ le) is.1 free;
        small = is.1;
      })
  get_steps dst (FromLocal k) z lets v u t free found is sized few h here le =
      subst (λ (x : ℕ). Fetched dst t x) is.1 (record {
        fetched = fetches program env (number_place k) t (t.frame.slot + 1) dst (u.locals k) (inside k) here refl (solid _ le)
            (h.locals k is.0) h.framed (h.small k is.0) free;
        small = h.small k is.0;
      })
  get_steps dst (FromWord k) z lets v u t free found is sized few h here le =
      let w = word_at k u.memory in
      let inside : 4 * k + 4 ≤ env.shape.memory = omega (arith, is.0, sized.memory) in
      let room : 4 * k + 4 ≤ length u.memory = omega (arith, inside, h.room) in
      let read : number_at (slice_get t.memory) (4 * k) 4 ≡ Ok w =
      ap (λ (m : List ℕ). number_at (slice_get m) (4 * k) 4) h.memory ∙ word_loaded k u.memory room in
      let zero_off : 0 + 4 * k ≡ 4 * k = omega arith in
      subst (λ (x : ℕ). Fetched dst t x) is.1 (record {
        fetched = loads program env t (t.frame.slot + 1) dst R6 (pos (4 * k)) (4 * k) w here refl (solid _ le) h.r6 free
            (ap pos zero_off) (le-leb (4 * k + 4) env.shape.memory inside) read;
        small = word_small k u.memory room h.bytes;
      })
  get_steps dst Computed z lets v u t free found is sized few h here le = absurd (let no : false ≡ true = found in cc)

  -- the left number in r0, and the operand in r1
  operand_runs : (d : ℕ) (left : List Insn) (insn : Insn) (s : MachineState) (a b : ℕ)
      → Stands program s.frame.slot (left ++ insn ∷ []) → s.frame.slot + length (left ++ insn ∷ []) ≤ last
      → (Stands program s.frame.slot left → s.frame.slot + length left ≤ last
      → Gets s (s.frame.slot + length left) (length left) (Has d s a))
      → ((t : MachineState) → Same d s t → insn_at program t.frame.slot ≡ Some insn → t.frame.slot + 1 ≤ last
      → Fetched R1 t b)
      → Gets s (s.frame.slot + length (left ++ insn ∷ [])) (length (left ++ insn ∷ [])) (HasTwo d s a b)
  operand_runs d left insn s a b stands le first second =
      let len : length (left ++ insn ∷ []) ≡ length left + 1 = length-append left (insn ∷ []) in
      let c = first (stands_front program s.frame.slot left (insn ∷ []) stands) (omega (arith, len, le)) in
      let t = c.new in
      let there = here_is t _ (insn ∷ []) c.slot (stands_back program s.frame.slot left (insn ∷ []) stands) in
      let f = second t c.fact.same there.0 (omega (arith, len, le, c.slot)) in
      let t1 = put t (t.frame.slot + 1) R1 (Num b) in
      record {
        new = t1;
        run = further program env s t t1 (length left) (length (left ++ insn ∷ [])) c.run f.fetched
            (omega (arith, len));
        slot = omega (arith, len, c.slot);
        fact = record {
          same = same_put d s t (t.frame.slot + 1) R1 (Num b) (omega arith) c.fact.same;
          r0 = put_other t.frame.registers 1 (Num b) 0 (λ e. omega arith) ∙ c.fact.r0;
          r1 = put_same t.frame.registers 1 (Num b);
          left = c.fact.small;
          right = f.small;
        };
      }

  -- the left number in r0, and the one of a place where its operand says
  place_loaded : (p : Place) (d a b : ℕ) (left : List Insn) (s : MachineState) → IsInside p
      → ((t : MachineState) → Same d s t → IsIn p t.frame.registers t.frame.stack b) → IsFramed s → b < 2 ^ 32
      → Stands program s.frame.slot (left ++ load_place p) → s.frame.slot + length (left ++ load_place p) ≤ last
      → (Stands program s.frame.slot left → s.frame.slot + length left ≤ last
      → Gets s (s.frame.slot + length left) (length left) (Has d s a))
      → Gets s (s.frame.slot + length (left ++ load_place p)) (length (left ++ load_place p))
      (HasPair (place_operand p) d s a b)
  place_loaded (InRegister register) d a b left s ok at framed small stands room first =
      let len : length (left ++ []) ≡ length left + 0 = length-append left [] in
      let P = HasPair (operand.Reg register) d s a b in
      gets s _ _ _ _ (Has d s a) P (omega (arith, len)) (omega (arith, len))
      (λ t k.
      let e : get t.frame.registers (register_number register) ≡ Some (Num b) = at t k.same in
      record {
        same = k.same;
        r0 = k.r0;
        raw = b;
        other = rw e refl;
        low_bits = low b small;
        left = k.small;
        right = small;
      }) (first (stands_front program s.frame.slot left [] stands) (omega (arith, len, room)))
  place_loaded (OnStack off) d a b left s ok at framed small stands room first =
      gets s _ _ _ _ (HasTwo d s a b) (HasPair (operand.Reg R1) d s a b) refl (omega arith)
      (λ t k. has_pair d s a b t k)
      (operand_runs d left (fetch_code R1 (OnStack off)) s a b stands room first
      (λ t same here l. record {
        fetched = fetches program env (OnStack off) t (t.frame.slot + 1) R1 b ok here refl (solid _ l) (at t same)
            (same.framed framed) small refl;
        small = small;
      }))

  -- the left number in r0, and the found one where its operand says
  loaded_runs : (y : Source) (z : Sizes) (d lets a b : ℕ) (u : NodeState) (left : List Insn) (s : MachineState)
      → is_found y ≡ true → IsAt z lets u y b → IsSized z env → lets ≤ PLACES → lets ≤ d → Holds env lets u s
      → Stands program s.frame.slot (left ++ load_code y) → s.frame.slot + length (left ++ load_code y) ≤ last
      → (Stands program s.frame.slot left → s.frame.slot + length left ≤ last
      → Gets s (s.frame.slot + length left) (length left) (Has d s a))
      → Gets s (s.frame.slot + length (left ++ load_code y)) (length (left ++ load_code y))
      (HasPair (operand_code y) d s a b)
  loaded_runs (Constant c) z d lets a b u left s found is sized few le h stands room first =
      let len : length (left ++ []) ≡ length left + 0 = length-append left [] in
      let P = HasPair (operand_code (Constant c)) d s a b in
      gets s _ _ _ _ (Has d s a) P (omega (arith, len)) (omega (arith, len))
      (λ t k. record {
        same = k.same;
        r0 = k.r0;
        raw = cast_unsigned w64 (cast_signed w32 c);
        other = refl;
        low_bits = imm_low c is.1 ∙ is.0;
        left = k.small;
        right = subst (λ (x : ℕ). x < 2 ^ 32) is.0 is.1;
      }) (first (stands_front program s.frame.slot left [] stands) (omega (arith, len, room)))
  loaded_runs (FromLocal j) z d lets a b u left s found is sized few le h stands room first =
      place_loaded (number_place j) d a b left s (inside j)
      (λ t same. subst (λ (x : ℕ). At j t x) is.1 ((still_holds env lets d u s t le h same).locals j is.0))
      h.framed (subst (λ (x : ℕ). x < 2 ^ 32) is.1 (h.small j is.0)) stands room first
  loaded_runs (FromWord j) z d lets a b u left s found is sized few le h stands room first =
      gets s _ _ _ _ (HasTwo d s a b) (HasPair (operand.Reg R1) d s a b) refl (omega arith)
      (λ t k. has_pair d s a b t k)
      (operand_runs d left (get_code R1 (FromWord j)) s a b stands room first
      (λ t same here l. get_steps R1 (FromWord j) z lets b u t refl refl is sized few
      (still_holds env lets d u s t le h same)
      here l))
  loaded_runs Computed z d lets a b u left s found is sized few le h stands room first =
      absurd (let no : false ≡ true = found in cc)

  -- the right number is computed into r0, and goes to r1; then an instruction puts the left one into r0
  turned_runs : (d a b : ℕ) (right : List Insn) (insn : Insn) (s : MachineState)
      → Stands program s.frame.slot (right ++ (copy R1 R0 ∷ insn ∷ []))
      → s.frame.slot + length (right ++ (copy R1 R0 ∷ insn ∷ [])) ≤ last
      → (Stands program s.frame.slot right → s.frame.slot + length right ≤ last
      → Gets s (s.frame.slot + length right) (length right) (Has d s b))
      → ((t : MachineState) → Same d s t → insn_at program t.frame.slot ≡ Some insn → t.frame.slot + 1 ≤ last
      → Fetched R0 t a)
      → Gets s (s.frame.slot + length (right ++ (copy R1 R0 ∷ insn ∷ [])))
      (length (right ++ (copy R1 R0 ∷ insn ∷ []))) (HasPair (operand.Reg R1) d s a b)
  turned_runs d a b right insn s stands room first second =
      let back = copy R1 R0 ∷ insn ∷ [] in
      let len : length (right ++ back) ≡ length right + 2 = length-append right back in
      let c = first (stands_front program s.frame.slot right back stands) (omega (arith, len, room)) in
      let t = c.new in
      let there = here_is t _ back c.slot (stands_back program s.frame.slot right back stands) in
      let t1 = put t (t.frame.slot + 1) R1 (Num b) in
      let e1 : step program env t ≡ Ok (Running t1) = copies program env t (t.frame.slot + 1) R1 R0 b there.0 refl
      (solid _ (omega (arith, len, room, c.slot))) c.fact.r0 c.fact.small refl in
      let same1 : Same d s t1 = same_put d s t (t.frame.slot + 1) R1 (Num b) (omega arith) c.fact.same in
      let g = second t1 same1 there.1.0 (omega (arith, len, room, c.slot)) in
      let t2 = put t1 (t.frame.slot + 1 + 1) R0 (Num a) in
      let run1 = further program env s t t1 (length right) (length right + 1) c.run e1 (omega arith) in
      let two : HasTwo d s a b t2 = record {
        same = same_put d s t1 (t.frame.slot + 1 + 1) R0 (Num a) (omega arith) same1;
        r0 = put_same t1.frame.registers 0 (Num a);
        r1 = put_other t1.frame.registers 0 (Num a) 1 (λ e. omega arith) ∙ put_same t.frame.registers 1 (Num b);
        left = g.small;
        right = c.fact.small;
      } in
      record {
        new = t2;
        run = further program env s t1 t2 (length right + 1) (length (right ++ back)) run1 g.fetched
            (omega (arith, len));
        slot = omega (arith, len, c.slot);
        fact = has_pair d s a b t2 two;
      }

  left_runs : (o : Operator) (x : Source) (purpose : Purpose) (z : Sizes) (d lets a b : ℕ) (u : NodeState)
      (right : List Insn) (s : MachineState) → is_found x ≡ true → IsAt z lets u x a → IsSized z env → lets ≤ PLACES
      → lets ≤ d → Holds env lets u s → Stands program s.frame.slot (left_code o x purpose right)
      → s.frame.slot + length (left_code o x purpose right) + beyond_purpose purpose ≤ last
      → (Stands program s.frame.slot right → s.frame.slot + length right ≤ last
      → Gets s (s.frame.slot + length right) (length right) (Has d s b))
      → Reached purpose d s (s.frame.slot + length (left_code o x purpose right)) (length (left_code o x purpose right))
      (apply_operator o a b)
  left_runs (Compute op) x purpose z d lets a b u right s found is sized few le h stands room first =
      operator_runs (Compute op) (operand.Reg R1) purpose d a b
      (right ++ (copy R1 R0 ∷ get_code R0 x ∷ [])) s stands room
      (λ st l. turned_runs d a b right (get_code R0 x) s st l first
      (λ t same here l2. get_steps R0 x z lets a u t refl found is sized few (still_holds env lets d u s t le h same) here
      l2))
  left_runs (Compare r) x purpose z d lets a b u right s found is sized few le h stands room first =
      let code = left_code (Compare r) x purpose right in
      let same : apply_operator (Compare (mirror r)) b a ≡ apply_operator (Compare r) a b = ap bit_of (mirrored r a b) in
      subst (λ (v : ℕ). Reached purpose d s (s.frame.slot + length code) (length code) v) same
      (operator_runs (Compare (mirror r)) (operand_code x) purpose d b a (right ++ load_code x) s stands room
      (λ st l. loaded_runs x z d lets b a u right s found is sized few le h st l first))

  -- the left number is in place k, and the right one is computed
  beside_place_runs : (o : Operator) (purpose : Purpose) (k d a b : ℕ) (right : List Insn) (s : MachineState) → k < d
      → At k s a → a < 2 ^ 32 → IsFramed s → Stands program s.frame.slot (left_code o (FromLocal k) purpose right)
      → s.frame.slot + length (left_code o (FromLocal k) purpose right) + beyond_purpose purpose ≤ last
      → (Stands program s.frame.slot right → s.frame.slot + length right ≤ last
      → Gets s (s.frame.slot + length right) (length right) (Has d s b))
      → Reached purpose d s (s.frame.slot + length (left_code o (FromLocal k) purpose right))
      (length (left_code o (FromLocal k) purpose right)) (apply_operator o a b)
  beside_place_runs (Compute op) purpose k d a b right s lt at_k small framed stands room first =
      let fetch = fetch_code R0 (number_place k) in
      operator_runs (Compute op) (operand.Reg R1) purpose d a b (right ++ (copy R1 R0 ∷ fetch ∷ [])) s stands room
      (λ st l. turned_runs d a b right fetch s st l first
      (λ t same here l2. record {
        fetched = fetches program env (number_place k) t (t.frame.slot + 1) R0 a (inside k) here refl (solid _ l2)
            (same.places k a lt at_k) (same.framed framed) small refl;
        small = small;
      }))
  beside_place_runs (Compare r) purpose k d a b right s lt at_k small framed stands room first =
      let code = left_code (Compare r) (FromLocal k) purpose right in
      let p = number_place k in
      let same : apply_operator (Compare (mirror r)) b a ≡ apply_operator (Compare r) a b = ap bit_of (mirrored r a b) in
      subst (λ (v : ℕ). Reached purpose d s (s.frame.slot + length code) (length code) v) same
      (operator_runs (Compare (mirror r)) (place_operand p) purpose d b a (right ++ load_place p) s stands room
      (λ st l. place_loaded p d b a right s (inside k) (λ t alike. alike.places k a lt at_k) framed small st l first))

  right_runs : (o : Operator) (y : Source) (purpose : Purpose) (z : Sizes) (d lets a b : ℕ) (u : NodeState)
      (left : List Insn) (s : MachineState) → is_found y ≡ true → IsAt z lets u y b → IsSized z env → lets ≤ PLACES
      → lets ≤ d → Holds env lets u s
      → Stands program s.frame.slot (right_code o y purpose left)
      → s.frame.slot + length (right_code o y purpose left) + beyond_purpose purpose ≤ last
      → (Stands program s.frame.slot left → s.frame.slot + length left ≤ last
      → Gets s (s.frame.slot + length left) (length left) (Has d s a))
      → Reached purpose d s (s.frame.slot + length (right_code o y purpose left))
      (length (right_code o y purpose left)) (apply_operator o a b)
  right_runs o y purpose z d lets a b u left s found is sized few le h stands room first =
      operator_runs o (operand_code y) purpose d a b (left ++ load_code y) s stands room
      (λ st l. loaded_runs y z d lets a b u left s found is sized few le h st l first)

  register_test_runs : (register : Reg) (r : Comparison) (c : ℕ) (z : Sizes) (d lets a b : ℕ) (u : NodeState)
      (s : MachineState) → IsAt z lets u (Constant c) b
      → get s.frame.registers (register_number register) ≡ Some (Num a) → a < 2 ^ 32
      → TestRuns (λ when far. jump_register register (jump_on when r) c far ∷ []) d (bit_of (compare r a b)) s
  register_test_runs register r c z d lets a b u s at_y from small when far stands room =
      let raw = cast_unsigned w64 (cast_signed w32 c) in
      let hit = taken when (bit_of (compare r a b)) in
      let end = branch_runs d s s 0 far (cond_of (jump_on when r)) register (operand.Imm (cast_signed w32 c)) a raw hit
      (stays program env s) (same_self d s) stands.0 from refl
      (jump_compared when r a b raw small (imm_low c at_y.1 ∙ at_y.0)) room in
      gets s _ _ _ _ (Same d s) (Same d s) refl (omega arith) (λ t h. h) end

  -- a place beside a constant
  beside_runs : (p : Place) (r : Comparison) (c : ℕ) (purpose : Purpose) (z : Sizes) (d lets a b : ℕ) (u : NodeState)
      (left : List Insn) (s : MachineState) → IsAt z lets u (Constant c) b
      → IsIn p s.frame.registers s.frame.stack a → a < 2 ^ 32 → IsSized z env → lets ≤ PLACES → lets ≤ d
      → Holds env lets u s → Stands program s.frame.slot (beside_code p r c purpose left)
      → s.frame.slot + length (beside_code p r c purpose left) + beyond_purpose purpose ≤ last
      → (Stands program s.frame.slot left → s.frame.slot + length left ≤ last
      → Gets s (s.frame.slot + length left) (length left) (Has d s a))
      → Reached purpose d s (s.frame.slot + length (beside_code p r c purpose left))
      (length (beside_code p r c purpose left)) (bit_of (compare r a b))
  beside_runs (InRegister register) r c purpose z d lets a b u left s at_y at_x small sized few le h stands room first =
      by_test_runs purpose (λ when far. jump_register register (jump_on when r) c far ∷ []) d (compare r a b) s stands room
      (register_test_runs register r c z d lets a b u s at_y at_x small)
  beside_runs (OnStack off) r c purpose z d lets a b u left s at_y at_x small sized few le h stands room first =
      right_runs (Compare r) (Constant c) purpose z d lets a b u left s refl at_y sized few le h stands room first

  -- the right number is computed at a depth of its own
  sides_run : (y x : Source) (o : Operator) (purpose : Purpose) (z : Sizes) (d deep lets a b : ℕ) (u : NodeState)
      (left right : List Insn) (s : MachineState) → IsAt z lets u y b → IsAt z lets u x a → IsSized z env → lets ≤ PLACES
      → lets ≤ d → d ≤ deep → (is_found x ≡ false → is_found y ≡ false → (d < PLACES) × (deep ≡ d + 1)) → Holds env lets u s
      → Stands program s.frame.slot (binary_code y x o d purpose left right)
      → s.frame.slot + length (binary_code y x o d purpose left right) + beyond_purpose purpose ≤ last
      → (Stands program s.frame.slot left → s.frame.slot + length left ≤ last
      → Gets s (s.frame.slot + length left) (length left) (Has d s a))
      → ((t : MachineState) → Same d s t → Stands program t.frame.slot right → t.frame.slot + length right ≤ last
      → Gets t (t.frame.slot + length right) (length right) (Has deep t b))
      → Reached purpose d s (s.frame.slot + length (binary_code y x o d purpose left right))
      (length (binary_code y x o d purpose left right)) (apply_operator o a b)
  sides_run (Constant c) (FromLocal k) (Compare r) purpose z d deep lets a b u left right s at_y at_x sized few
      le more free h stands room first second =
      beside_runs (number_place k) r c purpose z d lets a b u left s at_y
      (subst (λ (x : ℕ). At k s x) at_x.1 (h.locals k at_x.0))
      (subst (λ (x : ℕ). x < 2 ^ 32) at_x.1 (h.small k at_x.0)) sized few le h stands room first
  sides_run (Constant c) (FromLocal k) (Compute op) purpose z d deep lets a b u left right s at_y at_x sized few
      le more free h stands room first second =
      right_runs (Compute op) (Constant c) purpose z d lets a b u left s refl at_y sized few le h stands room first
  sides_run (Constant c) (Constant e) o purpose z d deep lets a b u left right s at_y at_x sized few le more
      free h stands room first second =
      let small : apply_operator o e c < 2 ^ 32 = operate_small o e c at_x.1 at_y.1 in
      let n = length (by_value purpose (set_number R0 (apply_operator o e c) ∷ [])) in
      let is : apply_operator o e c ≡ apply_operator o a b = rw (at_x.0, at_y.0) refl in
      subst (λ (v : ℕ). Reached purpose d s (s.frame.slot + n) n v) is
      (by_value_runs purpose (set_number R0 (apply_operator o e c) ∷ []) d (apply_operator o e c) s stands room
      (λ st l. number_runs d (apply_operator o e c) s small st l))
  sides_run (Constant c) (FromWord k) o purpose z d deep lets a b u left right s at_y at_x sized few le more
      free h stands room first second = right_runs o (Constant c) purpose z d lets a b u left s refl at_y sized few le h
      stands room first
  sides_run (Constant c) Computed o purpose z d deep lets a b u left right s at_y at_x sized few le more
      free h stands room first second = right_runs o (Constant c) purpose z d lets a b u left s refl at_y sized few le h
      stands room first
  sides_run (FromLocal k) x o purpose z d deep lets a b u left right s at_y at_x sized few le more free h
      stands room first
      second = right_runs o (FromLocal k) purpose z d lets a b u left s refl at_y sized few le h stands room first
  sides_run (FromWord k) x o purpose z d deep lets a b u left right s at_y at_x sized few le more free h
      stands room first
      second = right_runs o (FromWord k) purpose z d lets a b u left s refl at_y sized few le h stands room first
  sides_run Computed (Constant c) o purpose z d deep lets a b u left right s at_y at_x sized few le more
      free h stands room first second = left_runs o (Constant c) purpose z d lets a b u right s refl at_x sized few
      le h stands room
      (λ st l. gets s _ _ _ _ (Has deep s b) (Has d s b) refl (omega arith) (λ t k. has_less d deep b s t more k)
      (second s (same_self d s) st l))
  sides_run Computed (FromLocal k) o purpose z d deep lets a b u left right s at_y at_x sized few le more
      free h stands room first second = left_runs o (FromLocal k) purpose z d lets a b u right s refl at_x sized few
      le h stands room
      (λ st l. gets s _ _ _ _ (Has deep s b) (Has d s b) refl (omega arith) (λ t q. has_less d deep b s t more q)
      (second s (same_self d s) st l))
  sides_run Computed (FromWord k) o purpose z d deep lets a b u left right s at_y at_x sized few le more
      free h stands room first second = left_runs o (FromWord k) purpose z d lets a b u right s refl at_x sized few
      le h stands room
      (λ st l. gets s _ _ _ _ (Has deep s b) (Has d s b) refl (omega arith) (λ t q. has_less d deep b s t more q)
      (second s (same_self d s) st l))
  sides_run Computed Computed o purpose z d deep lets a b u left right s at_y at_x sized few le more free h stands room
      first second =
      let deeper = free refl refl in
      kept_reached purpose d a (apply_operator o a b) left (left_code o (FromLocal d) purpose right) s deeper.0 h.framed
      stands room first
      (λ t is small st l. beside_place_runs o purpose d (d + 1) a b right t (omega arith) is.there small
      (is.same.framed h.framed) st l
      (λ st2 l2. gets t _ _ _ _ (Has deep t b) (Has (d + 1) t b) refl (omega arith)
      (λ w k. has_less (d + 1) deep b t w (omega (arith, deeper.1)) k) (second t is.same st2 l2)))

  landing_not : (when : Bool) (v far : ℕ) → landing (not when) v far ≡ landing when (bit_of (not (truth v))) far
  landing_not true v far = ap (λ (b : Bool). hop b far) (sym (truth_of (not (truth v))))
  landing_not false v far = ap (λ (b : Bool). hop b far) (not_not (truth v) ∙ sym (ap not (truth_of (not (truth v)))))

  has_from : (d a v : ℕ) (s w t : MachineState) → Same d s w → a ≡ v → Has d w a t → Has d s v t
  has_from d a v s w t same e h = record {
    same = same_then d s w t same h.same;
    r0 = h.r0 ∙ ap (λ x. Some (Num x)) e;
    small = subst (λ (x : ℕ). x < 2 ^ 32) e h.small;
  }

  has_at : (d v : ℕ) (s t : MachineState) (to : ℕ) → Has d s v t → Has d s v (at t to)
  has_at d v s t to h = record { same = same_at d s t to h.same; r0 = h.r0; small = h.small }

  -- ---- messages, by where the node's number is found

  known_node_runs : (z : Sizes) (d j : ℕ) (s : MachineState) → IsSized z env → j < z.nodes
      → Stands program s.frame.slot (set_node R1 j ∷ i.Call (pos 2) ∷ []) → s.frame.slot + 2 ≤ last
      → Gets s (s.frame.slot + 2) 2 (Has d s (received env j))
  known_node_runs z d j s sized lt stands room =
      let s1 = put s (s.frame.slot + 1) R1 (Num j) in
      let s2 = called s1 (s.frame.slot + 1 + 1) (received env j) in
      let e1 : step program env s ≡ Ok (Running s1) = moves program env s (s.frame.slot + 1) R1
      (operand.Imm (pos j)) (Num j) stands.0 refl (solid _ (omega (arith, room))) refl refl in
      let e2 : step program env s1 ≡ Ok (Running s2) = receives program env s1 (s.frame.slot + 1 + 1) j stands.1.0 refl
      (solid _ (omega (arith, room))) (put_same s.frame.registers 1 (Num j)) (omega (arith, lt, sized.nodes)) in
      record {
        new = s2;
        run = further program env s s1 s2 1 2 (once program env s s1 e1) e2 (omega arith);
        slot = omega arith;
        fact = record {
          same = same_call d s s1 (s.frame.slot + 1 + 1) (received env j)
              (same_put d s s (s.frame.slot + 1) R1 (Num j) (omega arith) (same_self d s));
          r0 = put_same _ 0 (Num (received env j));
          small = received_fits env j sized.setting;
        };
      }

  -- as constants are compiled
  node_of_constant : (z : Sizes) (d j : ℕ) (code : List Insn) (s : MachineState) → IsSized z env
      → Stands program s.frame.slot (message_by (Constant j) z.nodes code)
      → s.frame.slot + length (message_by (Constant j) z.nodes code) ≤ last
      → Gets s (s.frame.slot + length (message_by (Constant j) z.nodes code))
      (length (message_by (Constant j) z.nodes code)) (Has d s (message_from z env j))
  node_of_constant z d j code s sized stands room =
      let known = set_node R1 j ∷ i.Call (pos 2) ∷ [] in
      let none = set_number R0 4294967295 ∷ [] in
      let P : List Insn → Type 0 = λ c. Stands program s.frame.slot c → s.frame.slot + length c ≤ last
      → Gets s (s.frame.slot + length c) (length c) (Has d s (message_from z env j)) in
      let whole : P (message_by (Constant j) z.nodes code) = elim (cases_Bool (nat_lt j z.nodes)) [
        | inl so ↦
            let is : received env j ≡ message_from z env j = rw so refl in
            subst P (sym (cond-true (nat_lt j z.nodes) known none so))
            (λ st l. subst (λ (v : ℕ). Gets s (s.frame.slot + 2) 2 (Has d s v)) is
            (known_node_runs z d j s sized (ltb-true j z.nodes so) st l))
        | inr other ↦
            let is : 4294967295 ≡ message_from z env j = rw other refl in
            subst P (sym (cond-false (nat_lt j z.nodes) known none other))
            (λ st l. subst (λ (v : ℕ). Gets s (s.frame.slot + 1) 1 (Has d s v)) is
            (number_runs d 4294967295 s (omega arith) st l))
      ] in
      whole stands room

  some_node_runs : (z : Sizes) (d x : ℕ) (code : List Insn) (s : MachineState) → IsSized z env
      → Stands program s.frame.slot (code ++ message_code z.nodes)
      → s.frame.slot + length (code ++ message_code z.nodes) ≤ last
      → (Stands program s.frame.slot code → s.frame.slot + length code ≤ last
      → Gets s (s.frame.slot + length code) (length code) (Has d s x))
      → Gets s (s.frame.slot + length (code ++ message_code z.nodes)) (length (code ++ message_code z.nodes))
      (Has d s (message_from z env x))
  some_node_runs z d x code s sized stands room first =
      let back = message_code z.nodes in
      let len : length (code ++ back) ≡ length code + 5 = length-append code back in
      let c = first (stands_front program s.frame.slot code back stands) (omega (arith, len, room)) in
      let there = here_is c.new _ back c.slot (stands_back program s.frame.slot code back stands) in
      let g = message_runs z d x s c.new (length code) sized c.run c.fact there (omega (arith, len, room, c.slot)) in
      gets s _ _ _ _ (Has d s (message_from z env x)) (Has d s (message_from z env x)) (omega (arith, len, c.slot))
      (omega (arith, len)) (λ t k. k) g

  message_by_runs : (y : Source) (z : Sizes) (d lets x : ℕ) (u : NodeState) (code : List Insn) (s : MachineState)
      → IsAt z lets u y x → IsSized z env → Stands program s.frame.slot (message_by y z.nodes code)
      → s.frame.slot + length (message_by y z.nodes code) ≤ last
      → (Stands program s.frame.slot code → s.frame.slot + length code ≤ last
      → Gets s (s.frame.slot + length code) (length code) (Has d s x))
      → Gets s (s.frame.slot + length (message_by y z.nodes code)) (length (message_by y z.nodes code))
      (Has d s (message_from z env x))
  message_by_runs (Constant j) z d lets x u code s is sized stands room first =
      let n = length (message_by (Constant j) z.nodes code) in
      subst (λ (v : ℕ). Gets s (s.frame.slot + n) n (Has d s (message_from z env v))) is.0
      (node_of_constant z d j code s sized stands room)
  message_by_runs (FromLocal k) z d lets x u code s is sized stands room first =
      some_node_runs z d x code s sized stands room first
  message_by_runs (FromWord k) z d lets x u code s is sized stands room first =
      some_node_runs z d x code s sized stands room first
  message_by_runs Computed z d lets x u code s is sized stands room first =
      some_node_runs z d x code s sized stands room first

  -- ---- tallies

  -- one more in place d
  increment_runs : (d e v : ℕ) (s : MachineState) → d < e → e ≤ PLACES → v + 1 < 2 ^ 32 → At d s v → IsFramed s
      → Stands program s.frame.slot (increment_code (number_place d))
      → s.frame.slot + length (increment_code (number_place d)) ≤ last
      → Gets s (s.frame.slot + length (increment_code (number_place d))) (length (increment_code (number_place d)))
      (Changed d e s (v + 1))
  increment_runs d e v s lt few small at framed stands le = by (number_place d) refl
    where
      by : (p : Place) → number_place d ≡ p → Gets s (s.frame.slot + length (increment_code (number_place d)))
          (length (increment_code (number_place d))) (Changed d e s (v + 1))
      by (InRegister register) is =
          let ours : IsPlace (InRegister register) d = subst (λ (p : Place). IsPlace p d) is (place_is d (omega (arith, lt, few))) in
          let st : Stands program s.frame.slot (increment_code (InRegister register)) =
          subst (λ (p : Place). Stands program s.frame.slot (increment_code p)) is stands in
          let l : s.frame.slot + 1 ≤ last =
          subst (λ (p : Place). s.frame.slot + length (increment_code p) ≤ last) is le in
          let from : get s.frame.registers (register_number register) ≡ Some (Num v) =
          subst (λ (p : Place). IsIn p s.frame.registers s.frame.stack v) is at in
          let t = put s (s.frame.slot + 1) register (Num (v + 1)) in
          let one : step program env s ≡ Ok (Running t) = counts program env s (s.frame.slot + 1) register v st.0 refl
          (solid _ l) from (not_frame register (omega (arith, ours.0, ours.1))) small in
          let f : Placed d (v + 1) s t = put_at program env register d (v + 1) s (s.frame.slot + 1) is ours.0 ours.1 in
          let long : 1 ≡ length (increment_code (number_place d)) = ap (λ (p : Place). length (increment_code p)) (sym is) in
          record {
            new = t;
            run = chain program env s t t 1 0 _ (once program env s t one) (stays program env t) (omega (arith, long));
            slot = omega (arith, long);
            fact = record { around = around_placed d e (v + 1) s t few f; there = f.there };
          }
      by (OnStack off) is =
          let st : Stands program s.frame.slot (increment_code (OnStack off)) =
          subst (λ (p : Place). Stands program s.frame.slot (increment_code p)) is stands in
          let l : s.frame.slot + 3 ≤ last =
          subst (λ (p : Place). s.frame.slot + length (increment_code p) ≤ last) is le in
          let here : insn_at program s.frame.slot ≡ Some (fetch_code R0 (number_place d)) =
          subst (λ (p : Place). insn_at program s.frame.slot ≡ Some (fetch_code R0 p)) (sym is) st.0 in
          let last_one : insn_at program (s.frame.slot + 1 + 1) ≡ Some (keep_code (number_place d)) =
          subst (λ (p : Place). insn_at program (s.frame.slot + 1 + 1) ≡ Some (keep_code p)) (sym is) st.1.1.0 in
          let c = fetch_runs e d v s (omega (arith, small)) at framed (here, tt) (omega (arith, l)) in
          let t = c.new in
          let t1 = put t (t.frame.slot + 1) R0 (Num (v + 1)) in
          let one : step program env t ≡ Ok (Running t1) = counts program env t (t.frame.slot + 1) R0 v
          (ap (insn_at program) c.slot ∙ st.1.0) refl (solid _ (omega (arith, l, c.slot))) c.fact.r0 refl small in
          let has : Has e s (v + 1) t1 = record {
            same = same_put e s t (t.frame.slot + 1) R0 (Num (v + 1)) (omega arith) c.fact.same;
            r0 = put_same t.frame.registers 0 (Num (v + 1));
            small = small;
          } in
          let there : insn_at program (t.frame.slot + 1) ≡ Some (keep_code (number_place d)) =
          ap (λ (n : ℕ). insn_at program (n + 1)) c.slot ∙ last_one in
          let k = change_runs d e (v + 1) s t1 2 lt few (further program env s t t1 1 2 c.run one (omega arith)) has framed there
          (omega (arith, l, c.slot)) in
          let long : 3 ≡ length (increment_code (number_place d)) = ap (λ (p : Place). length (increment_code p)) (sym is) in
          gets s _ _ _ _ (Changed d e s (v + 1)) (Changed d e s (v + 1)) (omega (arith, long, c.slot)) (omega (arith, long))
          (λ w h. h) k

  -- the message from node j into place d, if it is less than the number there
  lower_runs : (z : Sizes) (d e j v : ℕ) (s : MachineState) → IsSized z env → j < z.nodes → d < e → e ≤ PLACES → v < 2 ^ 32
      → At d s v → IsFramed s → Stands program s.frame.slot (lower_code (number_place d) j)
      → s.frame.slot + length (lower_code (number_place d) j) ≤ last
      → Gets s (s.frame.slot + length (lower_code (number_place d) j)) (length (lower_code (number_place d) j))
      (Changed d e s (min (message_from z env j) v))
  lower_runs z d e j v s sized lt below few small at framed stands le =
      let p = number_place d in
      let asked = set_node R1 j ∷ i.Call (pos 2) ∷ [] in
      let left = asked ++ load_place p in
      let back = jump_by AtLeast (place_operand p) 1 ∷ keep_code p ∷ [] in
      let len : length (left ++ back) ≡ length left + 2 = length-append left back in
      let a = received env j in
      let least = min (message_from z env j) v in
      let c = place_loaded p e a v asked s (inside d) (λ t same. same.places d v below at) framed small
      (stands_front program s.frame.slot left back stands) (omega (arith, len, le))
      (λ st l. known_node_runs z e j s sized lt st l) in
      let t = c.new in
      let there = here_is t _ back c.slot (stands_back program s.frame.slot left back stands) in
      let g = branch_leads s t (length left) 1 (cond_of AtLeast) R0 (place_operand p) a c.fact.raw (nat_le v a) c.run
      there.0 c.fact.r0 c.fact.other (compared_low AtLeast a v c.fact.raw c.fact.left c.fact.low_bits)
      (omega (arith, len, le, c.slot)) in
      let w = g.new in
      let same : Same e s w = same_alike e s t w c.fact.same g.fact in
      let is : a ≡ message_from z env j = sym (cond-true (nat_lt j z.nodes) a 4294967295 (lt-ltb j z.nodes lt)) in
      elim (cases_lt a v) [
        | inl less ↦
            let miss : hop (nat_le v a) 1 ≡ 0 = rw (lt-leb v a less) refl in
            let slot : w.frame.slot ≡ t.frame.slot + 1 = omega (arith, g.slot, miss) in
            let is_least : a ≡ least = omega (arith, is, less) in
            let has : Has e s a w = record {
              same = same;
              r0 = ap (λ m. get m 0) g.fact.registers ∙ c.fact.r0;
              small = c.fact.left;
            } in
            let k = change_runs d e a s w (length left + 1) below few g.run has framed (ap (insn_at program) slot ∙ there.1.0)
            (omega (arith, len, le, slot, c.slot)) in
            gets s _ _ _ _ (Changed d e s a) (Changed d e s least) (omega (arith, len, slot, c.slot)) (omega (arith, len))
            (λ x h. subst (λ (y : ℕ). Changed d e s y x) is_least h) k
        | inr above ↦
            let hit : hop (nat_le v a) 1 ≡ 1 = rw (le-leb v a above) refl in
            let is_least : v ≡ least = omega (arith, is, above) in
            record {
              new = w;
              run = chain program env s w w (length left + 1) 0 (length (left ++ back)) g.run (stays program env w)
                  (omega (arith, len));
              slot = omega (arith, len, g.slot, c.slot, hit);
              fact = record {
                around = around_same d e s w same;
                there = subst (λ (y : ℕ). At d w y) is_least (same.places d v below at);
              };
            }
      ]

  step_runs : (tally : Tally) (z : Sizes) (d e j v : ℕ) (s : MachineState) → IsSized z env → j < z.nodes → d < e
      → e ≤ PLACES → v < 2 ^ 32 → tally_next tally (message_from z env) j v < 2 ^ 32 → At d s v → IsFramed s
      → Stands program s.frame.slot (tally_step tally (number_place d) j)
      → s.frame.slot + length (tally_step tally (number_place d) j) ≤ last
      → Gets s (s.frame.slot + length (tally_step tally (number_place d) j)) (length (tally_step tally (number_place d) j))
      (Changed d e s (tally_next tally (message_from z env) j v))
  step_runs HowMany z d e j v s sized lt below few small next at framed stands le =
      increment_runs d e v s below few next at framed stands le
  step_runs LeastMessage z d e j v s sized lt below few small next at framed stands le =
      lower_runs z d e j v s sized lt below few small at framed stands le

  -- the runs of the tests of a tally in place d, at depth e
  abbrev pub TallyTests : Tally → ℕ → ℕ → ℕ → (ℕ → List Insn) → (ℕ → ℕ) → MachineState → Type 0
  TallyTests tally d e n test holds s = (j : ℕ) (t : MachineState) → j < n → Around d e s t
      → Stands program t.frame.slot (test j)
      → t.frame.slot + length (test j) + length (tally_step tally (number_place d) 0) ≤ last
      → Gets t (t.frame.slot + length (test j) + landing false (holds j) (length (tally_step tally (number_place d) 0)))
      (length (test j)) (Same e t)

  tests_run : (tally : Tally) (z : Sizes) (d e : ℕ) (test : ℕ → List Insn) (holds : ℕ → ℕ) (s : MachineState) (m : ℕ)
      → IsSized z env → d < e → e ≤ PLACES → m ≤ z.nodes → IsFramed s
      → Stands program s.frame.slot (tests_code tally d m test)
      → s.frame.slot + length (tests_code tally d m test) ≤ last
      → At d s (tally_start tally) → TallyTests tally d e z.nodes test holds s
      → Gets s (s.frame.slot + length (tests_code tally d m test)) (length (tests_code tally d m test))
      (Changed d e s (tally_below tally m holds (message_from z env)))
  tests_run tally z d e test holds s zero sized below few le framed stands fits start each = record {
    new = s;
    run = stays program env s;
    slot = omega arith;
    fact = record {
      around = around_same d e s s (same_self e s);
      there = subst (λ (y : ℕ). At d s y) (tally_none tally holds (message_from z env)) start;
    };
  }
  tests_run tally z d e test holds s (suc m) sized below few le framed stands fits start each =
      let steps = tally_step tally (number_place d) in
      let message = message_from z env in
      let front = tests_code tally d m test in
      let add = steps m in
      let back = test m ++ add in
      let len : length (front ++ back) ≡ length front + (length (test m) + length add) = omega
      (arith, length-append front back, length-append (test m) add) in
      let alike : length add ≡ length (steps 0) = steps_alike tally (number_place d) m in
      let c = tests_run tally z d e test holds s m sized below few (omega (arith, le)) framed
      (stands_front program s.frame.slot front back stands) (omega (arith, len, fits)) start each in
      let t = c.new in
      let at_back = here_is t _ back c.slot (stands_back program s.frame.slot front back stands) in
      let g = each m t (omega (arith, le)) c.fact.around (stands_front program t.frame.slot (test m) add at_back)
      (omega (arith, len, alike, fits, c.slot)) in
      let w = g.new in
      let v = tally_below tally m holds message in
      let total = tally_below tally (suc m) holds message in
      let kept : At d w v = g.fact.places d v below c.fact.there in
      let around : Around d e s w = around_then d e s t w c.fact.around (around_same d e t w g.fact) in
      let run = chain program env s t w (length front) (length (test m)) (length front + length (test m)) c.run g.run
      (omega arith) in
      let most : z.nodes < 2 ^ 31 = nodes_few z sized in
      elim (cases_Bool (truth (holds m))) [
        | inl so ↦
            let none : landing false (holds m) (length (steps 0)) ≡ 0 = rw so refl in
            let slot : w.frame.slot ≡ t.frame.slot + length (test m) = omega (arith, g.slot, none) in
            let there = here_is w _ add slot (stands_back program t.frame.slot (test m) add at_back) in
            let one : tally_next tally message m v ≡ total = tally_more tally m holds message so in
            let bits : tally_next tally message m v < 2 ^ 32 = subst (λ (y : ℕ). y < 2 ^ 32) (sym one)
            (tally_small tally (suc m) holds message (omega (arith, le, most))) in
            let x = step_runs tally z d e m v w sized (omega (arith, le)) below few
            (tally_small tally m holds message (omega (arith, le, most))) bits kept (around.framed framed) there
            (omega (arith, len, fits, slot, c.slot)) in
            record {
              new = x.new;
              run = chain program env s w x.new _ (length add) (length (front ++ back)) run x.run (omega (arith, len));
              slot = omega (arith, len, slot, c.slot, x.slot);
              fact = record {
                around = around_then d e s w x.new around x.fact.around;
                there = subst (λ (y : ℕ). At d x.new y) one x.fact.there;
              };
            }
        | inr other ↦
            let all : landing false (holds m) (length (steps 0)) ≡ length (steps 0) = rw other refl in
            let slot : w.frame.slot ≡ t.frame.slot + length (test m) + length add = omega (arith, g.slot, all, alike) in
            record {
              new = w;
              run = chain program env s w w _ 0 (length (front ++ back)) run (stays program env w) (omega (arith, len));
              slot = omega (arith, len, slot, c.slot);
              fact = record {
                around = around;
                there = subst (λ (y : ℕ). At d w y) (tally_stays tally m holds message other) kept;
              };
            }
      ]

  -- the runs of the tests of a tally that has begun in place d
  abbrev pub OverRuns : Tally → ℕ → List Insn → ℕ → MachineState → Type 0
  OverRuns tally d tests v s = (t : MachineState) → Same d s t → At d t (tally_start tally)
      → Stands program t.frame.slot tests → t.frame.slot + length tests ≤ last
      → Gets t (t.frame.slot + length tests) (length tests) (InPlace d t v)

  -- at a depth behind it
  plain_tests_run : (tally : Tally) (z : Sizes) (d : ℕ) (test : ℕ → List Insn) (holds : ℕ → ℕ) (s : MachineState)
      → IsSized z env → d < PLACES → IsFramed s
      → ((t : MachineState) → Same d s t → TallyTests tally d (d + 1) z.nodes test holds t)
      → OverRuns tally d (tests_code tally d z.nodes test) (tally_below tally z.nodes holds (message_from z env)) s
  plain_tests_run tally z d test holds s sized small framed each t same start stands le =
      let v = tally_below tally z.nodes holds (message_from z env) in
      gets t _ _ _ _ (Changed d (d + 1) t v) (InPlace d t v) refl (omega arith)
      (λ w c. record { same = same_around d (d + 1) t w (omega arith) c.around; there = c.there })
      (tests_run tally z d (d + 1) test holds t z.nodes sized (omega arith) (omega (arith, small)) (omega arith)
      (same.framed framed) stands le start (each t same))

  -- a place is the right side, and the left one is computed
  place_right_runs : (o : Operator) (purpose : Purpose) (k d a b : ℕ) (left : List Insn) (s : MachineState) → k < d
      → At k s b → b < 2 ^ 32 → IsFramed s → Stands program s.frame.slot (right_code o (FromLocal k) purpose left)
      → s.frame.slot + length (right_code o (FromLocal k) purpose left) + beyond_purpose purpose ≤ last
      → (Stands program s.frame.slot left → s.frame.slot + length left ≤ last
      → Gets s (s.frame.slot + length left) (length left) (Has d s a))
      → Reached purpose d s (s.frame.slot + length (right_code o (FromLocal k) purpose left))
      (length (right_code o (FromLocal k) purpose left)) (apply_operator o a b)
  place_right_runs o purpose k d a b left s lt at_k small framed stands room first =
      let p = number_place k in
      operator_runs o (place_operand p) purpose d a b (left ++ load_place p) s stands room
      (λ st l. place_loaded p d a b left s (inside k) (λ t same. same.places k b lt at_k) framed small st l first)

  -- the right number is kept in place d + 1
  shared_tests_run : (tally : Tally) (z : Sizes) (d b : ℕ) (o : Operator) (right : List Insn) (left : ℕ → List Insn)
      (a : ℕ → ℕ) (s : MachineState) → IsSized z env → d + 1 < PLACES → IsFramed s
      → ((t : MachineState) → Same d s t → Stands program t.frame.slot right → t.frame.slot + length right ≤ last
      → Gets t (t.frame.slot + length right) (length right) (Has (d + 1) t b))
      → ((j : ℕ) (t : MachineState) → j < z.nodes → Same d s t → Stands program t.frame.slot (left j)
      → t.frame.slot + length (left j) ≤ last
      → Gets t (t.frame.slot + length (left j)) (length (left j)) (Has (d + 2) t (a j)))
      → OverRuns tally d (shared_code tally d z.nodes o right left)
      (tally_below tally z.nodes (λ j. apply_operator o (a j) b) (message_from z env)) s
  shared_tests_run tally z d b o right left a s sized small framed first second t same start stands le =
      let holds = λ (j : ℕ). apply_operator o (a j) b in
      let v = tally_below tally z.nodes holds (message_from z env) in
      let test = λ (j : ℕ). right_code o (FromLocal (d + 1)) (tally_test tally d) (left j) in
      let tests = tests_code tally d z.nodes test in
      let whole = shared_code tally d z.nodes o right left in
      gets t _ _ _ _ (InPlace d t v) (InPlace d t v) (omega arith) (omega arith) (λ w h. h)
      (kept_runs (d + 1) b 0 right tests t (InPlace d t v) small (same.framed framed) stands le (first t same)
      (λ w is bits st l at_w.
      let began : At d w (tally_start tally) = is.same.places d (tally_start tally) (omega arith) start in
      let same_w : Same d t w = same_less d t w is.same in
      gets w _ _ _ _ (Changed d (d + 2) w v) (InPlace d t v) (omega arith) (omega arith)
      (λ x c. record {
        same = same_then d t w x same_w (same_around d (d + 2) w x (omega arith) c.around);
        there = c.there;
      })
      (tests_run tally z d (d + 2) test holds w z.nodes sized (omega arith) (omega (arith, small)) (omega arith)
      (is.same.framed (same.framed framed)) st l began
      (λ j x lt around st2 l2.
      let same_x : Same d s x = same_then d s t x same (same_then d t w x same_w
      (same_around d (d + 2) w x (omega arith) around)) in
      place_right_runs o (tally_test tally d) (d + 1) (d + 2) (a j) b (left j) x (omega arith)
      (around.places (d + 1) b (λ q. omega (arith, q)) (omega arith) is.there) bits
      (around.framed (is.same.framed (same.framed framed))) st2 l2 (second j x lt same_x)))))

  pub tallied_runs : (tally : Tally) (d v : ℕ) (tests : List Insn) (s : MachineState) → d < PLACES → IsFramed s
      → Stands program s.frame.slot (tallied_code tally d tests)
      → s.frame.slot + length (tallied_code tally d tests) ≤ last → OverRuns tally d tests v s
      → Gets s (s.frame.slot + length (tallied_code tally d tests)) (length (tallied_code tally d tests))
      (InPlace d s v)
  tallied_runs tally d v tests s small framed stands fits each =
      let first = tally_start tally in
      let bits : first < 2 ^ 32 = tally_start_small tally in
      let p = starts_at program env d first s (s.frame.slot + 1) small stands.0 refl (solid _ (omega (arith, fits)))
      framed bits in
      let s1 = p.new in
      let same1 : Same d s s1 = same_placed d d first s s1 (omega arith) small p.fact in
      let c = each s1 same1 p.fact.there (here_is s1 _ tests p.slot stands.1) (omega (arith, fits, p.slot)) in
      record {
        new = c.new;
        run = chain program env s s1 c.new 1 (length tests) (length (tallied_code tally d tests))
            (once program env s s1 p.runs) c.run (omega arith);
        slot = omega (arith, c.slot, p.slot);
        fact = record { same = same_then d s s1 c.new same1 c.fact.same; there = c.fact.there };
      }

  tally_runs : (tally : Tally) (d v : ℕ) (tests : List Insn) (s : MachineState) → d < PLACES → v < 2 ^ 32 → IsFramed s
      → Stands program s.frame.slot (tally_code tally d tests)
      → s.frame.slot + length (tally_code tally d tests) ≤ last → OverRuns tally d tests v s
      → Gets s (s.frame.slot + length (tally_code tally d tests)) (length (tally_code tally d tests)) (Has d s v)
  tally_runs tally d v tests s small bits framed stands fits each =
      let codes = tallied_code tally d tests in
      let last_one = fetch_code R0 (number_place d) ∷ [] in
      let len : length (codes ++ last_one) ≡ length codes + 1 = length-append codes last_one in
      let c = tallied_runs tally d v tests s small framed
      (stands_front program s.frame.slot codes last_one stands) (omega (arith, len, fits)) each in
      let w = c.new in
      let there = here_is w _ last_one c.slot (stands_back program s.frame.slot codes last_one stands) in
      let g = fetch_runs d d v w bits c.fact.there (c.fact.same.framed framed) there
      (omega (arith, len, fits, c.slot)) in
      record {
        new = g.new;
        run = chain program env s w g.new (length codes) 1 (length (codes ++ last_one)) c.run g.run (omega (arith, len));
        slot = omega (arith, len, c.slot, g.slot);
        fact = record {
          same = same_then d s w g.new c.fact.same g.fact.same;
          r0 = g.fact.r0;
          small = g.fact.small;
        };
      }

  -- the runs of a term for its number, in any loops and at any depth
  abbrev pub ValueRuns : Term → Sizes → ℕ → NodeState → Type 0
  ValueRuns t z lets u = (I : List ℕ) (e : ℕ) (w : MachineState) → All (λ j. j < z.nodes) I → lets ≤ e
      → Fits t z (length I) lets e → Holds env lets u w → Stands program w.frame.slot (term_code t z I e Value)
      → w.frame.slot + length (term_code t z I e Value) ≤ last
      → Gets w (w.frame.slot + length (term_code t z I e Value)) (length (term_code t z I e Value))
      (Has e w (value t z env I u))

  -- an operator between two terms
  binary_runs : (o : Operator) (a b : Term) (z : Sizes) (J : List ℕ) (d lets : ℕ) (purpose : Purpose) (u : NodeState)
      (s : MachineState) → IsSized z env → All (λ j. j < z.nodes) J → lets ≤ PLACES → lets ≤ d
      → HasPlace (is_operand a || is_operand b) d → Fits a z (length J) lets d
      → Fits b z (length J) lets (depth_behind (is_operand a || is_operand b) d) → Holds env lets u s
      → ValueRuns a z lets u → ValueRuns b z lets u
      → Stands program s.frame.slot (binary_code (term_source b z J) (term_source a z J) o d purpose
      (term_code a z J d Value) (term_code b z J (depth_behind (is_operand a || is_operand b) d) Value))
      → s.frame.slot + length (binary_code (term_source b z J) (term_source a z J) o d purpose
      (term_code a z J d Value) (term_code b z J (depth_behind (is_operand a || is_operand b) d) Value))
      + beyond_purpose purpose ≤ last
      → Reached purpose d s (s.frame.slot + length (binary_code (term_source b z J) (term_source a z J) o d purpose
      (term_code a z J d Value) (term_code b z J (depth_behind (is_operand a || is_operand b) d) Value)))
      (length (binary_code (term_source b z J) (term_source a z J) o d purpose
      (term_code a z J d Value) (term_code b z J (depth_behind (is_operand a || is_operand b) d) Value)))
      (apply_operator o (value a z env J u) (value b z env J u))
  binary_runs o a b z J d lets purpose u s sized nodes few le place fits_a fits_b h left right stands room =
      let deep = depth_behind (is_operand a || is_operand b) d in
      let ca = term_code a z J d Value in
      let cb = term_code b z J deep Value in
      let va = value a z env J u in
      let vb = value b z env J u in
      let more : d ≤ deep = behind_more (is_operand a || is_operand b) d in
      sides_run (term_source b z J) (term_source a z J) o purpose z d deep lets va vb u ca cb s
      (source_is b z J lets deep u sized nodes fits_b) (source_is a z J lets d u sized nodes fits_a) sized few le more
      (λ e f. free_beside (is_operand a) (is_operand b) d (sym (found_same a z J) ∙ e)
      (sym (found_same b z J) ∙ f) place) h stands room
      (λ st2 l2. left J d s nodes le fits_a h st2 l2)
      (λ t same st2 l2. right J deep t nodes (omega (arith, le, more)) fits_b
      (still_holds env lets d u s t le h same) st2 l2)

  -- the tests of an operator between two terms
  sides_tests_run : (tally : Tally) (o : Operator) (a b : Term) (z : Sizes) (J : List ℕ) (d lets : ℕ) (u : NodeState)
      (s : MachineState) → IsSized z env → All (λ j. j < z.nodes) J → 1 ≤ z.nodes → lets ≤ PLACES → lets ≤ d → d < PLACES
      → SidesFit (is_shared o a b (length J)) (is_operand a || is_operand b) d
      (λ e. Fits a z (length J + 1) lets e) (λ e. Fits b z (length J + 1) lets e) → Holds env lets u s
      → ValueRuns a z lets u → ValueRuns b z lets u
      → OverRuns tally d (sides_code tally o a b z J d (λ I e. term_code a z I e Value) (λ I e. term_code b z I e Value))
      (tally_below tally z.nodes
      (λ j. apply_operator o (value a z env (J ++ j ∷ []) u) (value b z env (J ++ j ∷ []) u)) (message_from z env)) s
  sides_tests_run tally o a b z J d lets u s sized nodes some few le small fits h left right =
      by (is_shared o a b (length J)) refl
    where
      A : ℕ → ℕ
      A j = value a z env (J ++ j ∷ []) u

      B : ℕ → ℕ
      B j = value b z env (J ++ j ∷ []) u

      more : (j : ℕ) → length J + 1 ≡ length (J ++ j ∷ [])
      more j = omega (arith, length-append J (j ∷ []))

      inner : (j : ℕ) → j < z.nodes → All (λ i. i < z.nodes) (J ++ j ∷ [])
      inner j lt = All-push (λ i. i < z.nodes) J j nodes lt

      left_fits : (j e : ℕ) → Fits a z (length J + 1) lets e → Fits a z (length (J ++ j ∷ [])) lets e
      left_fits j e f = subst (λ (n : ℕ). Fits a z n lets e) (more j) f

      right_fits : (j e : ℕ) → Fits b z (length J + 1) lets e → Fits b z (length (J ++ j ∷ [])) lets e
      right_fits j e f = subst (λ (n : ℕ). Fits b z n lets e) (more j) f

      code : Bool → List Insn
      code shared = if shared
          then shared_code tally d z.nodes o (term_code b z (J ++ 0 ∷ []) (d + 1) Value)
          (λ j. term_code a z (J ++ j ∷ []) (d + 2) Value)
          else tests_code tally d z.nodes (λ j. binary_code (term_source b z (J ++ j ∷ [])) (term_source a z (J ++ j ∷ []))
          o (d + 1) (tally_test tally d) (term_code a z (J ++ j ∷ []) (d + 1) Value)
          (term_code b z (J ++ j ∷ []) (depth_behind (is_operand a || is_operand b) (d + 1)) Value))

      Fit : Bool → Type 0
      Fit shared = SidesFit shared (is_operand a || is_operand b) d (λ e. Fits a z (length J + 1) lets e)
          (λ e. Fits b z (length J + 1) lets e)

      by : (shared : Bool) → is_shared o a b (length J) ≡ shared
          → OverRuns tally d (code (is_shared o a b (length J)))
          (tally_below tally z.nodes (λ j. apply_operator o (A j) (B j)) (message_from z env)) s
      by true is =
          let f : Fit true = subst Fit is fits in
          let once : OverRuns tally d (code true)
          (tally_below tally z.nodes (λ j. apply_operator o (A j) (B 0)) (message_from z env)) s =
          shared_tests_run tally z d (B 0) o (term_code b z (J ++ 0 ∷ []) (d + 1) Value)
          (λ j. term_code a z (J ++ j ∷ []) (d + 2) Value) A s sized f.0 h.framed
          (λ t same st l. right (J ++ 0 ∷ []) (d + 1) t (inner 0 (omega (arith, some))) (omega (arith, le))
          (right_fits 0 (d + 1) f.1) (still_holds env lets d u s t le h same) st l)
          (λ j t lt same st l. left (J ++ j ∷ []) (d + 2) t (inner j lt) (omega (arith, le))
          (left_fits j (d + 2) f.2) (still_holds env lets d u s t le h same) st l) in
          let each : (j : ℕ) → B 0 ≡ B j = λ j. shared_value o a b z env J j u is in
          let number : tally_below tally z.nodes (λ j. apply_operator o (A j) (B 0)) (message_from z env)
          ≡ tally_below tally z.nodes (λ j. apply_operator o (A j) (B j)) (message_from z env) =
          λ x. tally_below tally z.nodes (λ j. apply_operator o (A j) (each j x)) (message_from z env) in
          subst (λ (shared : Bool). OverRuns tally d (code shared)
          (tally_below tally z.nodes (λ j. apply_operator o (A j) (B j)) (message_from z env)) s) (sym is)
          (subst (λ (v : ℕ). OverRuns tally d (code true) v s) number once)
      by false is =
          let f : Fit false = subst Fit is fits in
          let found = is_operand a || is_operand b in
          let test = λ (j : ℕ). binary_code (term_source b z (J ++ j ∷ [])) (term_source a z (J ++ j ∷ [])) o (d + 1)
          (tally_test tally d) (term_code a z (J ++ j ∷ []) (d + 1) Value)
          (term_code b z (J ++ j ∷ []) (depth_behind found (d + 1)) Value) in
          let each : OverRuns tally d (code false)
          (tally_below tally z.nodes (λ j. apply_operator o (A j) (B j)) (message_from z env)) s =
          plain_tests_run tally z d test (λ j. apply_operator o (A j) (B j)) s sized small h.framed
          (λ t same j w lt around st l.
          binary_runs o a b z (J ++ j ∷ []) (d + 1) lets (tally_test tally d) u w sized (inner j lt) few (omega (arith, le))
          f.0 (left_fits j (d + 1) f.1) (right_fits j (depth_behind found (d + 1)) f.2)
          (still_holds env lets d u s w le h
          (same_then d s t w same (same_around d (d + 1) t w (omega arith) around))) left right st l) in
          subst (λ (shared : Bool). OverRuns tally d (code shared)
          (tally_below tally z.nodes (λ j. apply_operator o (A j) (B j)) (message_from z env)) s) (sym is) each

  -- ---- sorted numbers

  -- r0 and place b have these numbers
  record Exchanged (b least rest : ℕ) (s t : MachineState) : Type 0 where
    but : But b s t
    r0 : get t.frame.registers 0 ≡ Some (Num least)
    there : At b t rest

  exchange_runs : (r : Comparison) (b x y : ℕ) (s : MachineState) → b < PLACES → x < 2 ^ 32 → y < 2 ^ 32
      → get s.frame.registers 0 ≡ Some (Num x) → At b s y → IsFramed s
      → Stands program s.frame.slot (exchange_code r (number_place b)) → s.frame.slot + 4 ≤ last
      → Gets s (s.frame.slot + 4) 4 (Exchanged b (kept r x y) (left r x y) s)
  exchange_runs r b x y s few x_small y_small r0 there framed stands le =
      let s1 = put s (s.frame.slot + 1) R1 (Num y) in
      let same1 : Same PLACES s s1 = same_put PLACES s s (s.frame.slot + 1) R1 (Num y) (omega arith)
      (same_self PLACES s) in
      let e1 : step program env s ≡ Ok (Running s1) = fetches program env (number_place b) s (s.frame.slot + 1) R1 y
      (inside b) stands.0 refl (solid _ (omega (arith, le))) there framed y_small refl in
      let from0 : get s1.frame.registers 0 ≡ Some (Num x) = put_other s.frame.registers 1 (Num y) 0 (λ e. omega arith)
      ∙ r0 in
      let from1 : get s1.frame.registers 1 ≡ Some (Num y) = put_same s.frame.registers 1 (Num y) in
      let other : operand_of s1.frame (operand.Reg R1) ≡ Ok (Num y) = rw from1 refl in
      let c = branch_leads s s1 1 2 (cond_of r) R0 (operand.Reg R1) x y (compare r x y) (once program env s s1 e1)
      stands.1.0 from0 other (compared r x y x_small y_small) (omega (arith, le)) in
      let w = c.new in
      let same : Same PLACES s w = same_alike PLACES s s1 w same1 c.fact in
      let w0 : get w.frame.registers 0 ≡ Some (Num x) = ap (λ m. get m 0) c.fact.registers ∙ from0 in
      elim (cases_Bool (compare r x y)) [
        | inl so ↦
            let far : hop (compare r x y) 2 ≡ 2 = rw so refl in
            record {
              new = w;
              run = chain program env s w w 2 0 4 c.run (stays program env w) (omega arith);
              slot = omega (arith, c.slot, far);
              fact = record {
                but = but_same b s w same;
                r0 = subst (λ (n : ℕ). get w.frame.registers 0 ≡ Some (Num n)) (sym (kept_first r x y so)) w0;
                there = subst (λ (n : ℕ). At b w n) (sym (left_second r x y so)) (same.places b y few there);
              };
            }
        | inr not_so ↦
            let near : hop (compare r x y) 2 ≡ 0 = rw not_so refl in
            let slot : w.frame.slot ≡ s.frame.slot + 1 + 1 = omega (arith, c.slot, near) in
            let w1 : get w.frame.registers 1 ≡ Some (Num y) = ap (λ m. get m 1) c.fact.registers ∙ from1 in
            let p = keeps_at program env b x w (w.frame.slot + 1) few (ap (insn_at program) slot ∙ stands.1.1.0) refl
            (solid _ (omega (arith, le, slot))) w0 (same.framed framed) x_small in
            let q = p.new in
            let q1 : get q.frame.registers 1 ≡ Some (Num y) = p.fact.scratch 1 (omega arith) ∙ w1 in
            let slot2 : q.frame.slot ≡ s.frame.slot + 1 + 1 + 1 = omega (arith, p.slot, slot) in
            let end = put q (q.frame.slot + 1) R0 (Num y) in
            let e4 : step program env q ≡ Ok (Running end) = copies program env q (q.frame.slot + 1) R0 R1 y
            (ap (insn_at program) slot2 ∙ stands.1.1.1.0) refl (solid _ (omega (arith, le, slot2))) q1 y_small refl in
            let same2 : Same PLACES q end = same_put PLACES q q (q.frame.slot + 1) R0 (Num y) (omega arith)
            (same_self PLACES q) in
            record {
              new = end;
              run = further program env s q end 3 4 (further program env s w q 2 3 c.run p.runs (omega arith)) e4
                  (omega arith);
              slot = omega (arith, slot2);
              fact = record {
                but = but_then b s w end (but_same b s w same)
                    (but_then b w q end (but_placed b x w q p.fact) (but_same b q end same2));
                r0 = subst (λ (n : ℕ). get end.frame.registers 0 ≡ Some (Num n)) (sym (kept_second r x y not_so))
                    (put_same q.frame.registers 0 (Num y));
                there = subst (λ (n : ℕ). At b end n) (sym (left_first r x y not_so))
                    (same2.places b x few p.fact.there);
              };
            }
      ]

  -- r0 has a number, and the places from b on these
  record Passed (b v : ℕ) (vs : List ℕ) (s t : MachineState) : Type 0 where
    same : Same b s t
    r0 : get t.frame.registers 0 ≡ Some (Num v)
    small : v < 2 ^ 32
    there : AreAt b vs t

  exchanges_run : (r : Comparison) (b x : ℕ) (ys : List ℕ) (s : MachineState) → b + length ys ≤ PLACES → x < 2 ^ 32
      → get s.frame.registers 0 ≡ Some (Num x) → AreAt b ys s → IsFramed s
      → Stands program s.frame.slot (exchange_codes r b (length ys))
      → s.frame.slot + length (exchange_codes r b (length ys)) ≤ last
      → Gets s (s.frame.slot + length (exchange_codes r b (length ys))) (length (exchange_codes r b (length ys)))
      (Passed b (pass_keeps r x ys) (pass_leaves r x ys) s)
  exchanges_run r b x [] s few small r0 there framed stands le = record {
    new = s;
    run = stays program env s;
    slot = omega arith;
    fact = record { same = same_self b s; r0 = r0; small = small; there = tt };
  }
  exchanges_run r b x (y ∷ ys) s few small r0 there framed stands le =
      let front = exchange_code r (number_place b) in
      let back = exchange_codes r (b + 1) (length ys) in
      let len : length (front ++ back) ≡ 4 + length back = length-append front back in
      let c = exchange_runs r b x y s (omega (arith, few)) small there.1 r0 there.0 framed
      (stands_front program s.frame.slot front back stands) (omega (arith, len, le)) in
      let t = c.new in
      let slot : t.frame.slot ≡ s.frame.slot + length front = c.slot in
      let g = exchanges_run r (b + 1) (kept r x y) ys t (omega (arith, few)) (kept_small r x y small there.1) c.fact.r0
      (are_but (b + 1) b ys s t (omega arith) (omega (arith, few)) c.fact.but there.2) (c.fact.but.framed framed)
      (here_is t _ back slot (stands_back program s.frame.slot front back stands)) (omega (arith, len, le, c.slot)) in
      let u = g.new in
      record {
        new = u;
        run = chain program env s t u 4 (length back) (length (front ++ back)) c.run g.run (omega (arith, len));
        slot = omega (arith, len, c.slot, g.slot);
        fact = record {
          same = same_then b s t u (same_but b s t (omega (arith, few)) c.fact.but) (same_less b t u g.fact.same);
          r0 = g.fact.r0;
          small = g.fact.small;
          there = (
            g.fact.same.places b (left r x y) (omega arith) c.fact.there,
            left_small r x y small there.1,
            g.fact.there,
          );
        };
      }

  -- a pass over place a and the m places behind it
  pass_runs : (r : Comparison) (a m : ℕ) (vs : List ℕ) (s : MachineState) → length vs ≡ suc m → a + m < PLACES
      → AreAt a vs s → IsFramed s → Stands program s.frame.slot (pass_code r a m)
      → s.frame.slot + length (pass_code r a m) ≤ last
      → Gets s (s.frame.slot + length (pass_code r a m)) (length (pass_code r a m))
      (Passed (a + 1) (kept_of r vs) (left_of r vs) s)
  pass_runs r a m [] s long few there framed stands le = absurd (omega (arith, long))
  pass_runs r a m (v ∷ vs) s long few there framed stands le =
      let is : length vs ≡ m = omega (arith, long) in
      let c = fetch_runs PLACES a v s there.1 there.0 framed (stands.0, tt) (omega (arith, le)) in
      let t = c.new in
      let back = exchange_codes r (a + 1) (length vs) in
      let same_back : length back ≡ length (exchange_codes r (a + 1) m) =
      ap (λ (n : ℕ). length (exchange_codes r (a + 1) n)) is in
      let there_back : Stands program t.frame.slot back = here_is t _ back c.slot
      (subst (λ (n : ℕ). Stands program (s.frame.slot + 1) (exchange_codes r (a + 1) n)) (sym is) stands.1) in
      let g = exchanges_run r (a + 1) v vs t (omega (arith, few, is)) there.1 c.fact.r0
      (are_same (a + 1) PLACES vs s t (omega (arith, few, is)) c.fact.same there.2) (c.fact.same.framed framed) there_back
      (omega (arith, le, same_back, c.slot)) in
      let u = g.new in
      record {
        new = u;
        run = chain program env s t u 1 (length back) (length (pass_code r a m)) c.run g.run (omega (arith, same_back));
        slot = omega (arith, same_back, c.slot, g.slot);
        fact = record {
          same = same_then (a + 1) s t u (same_below (a + 1) PLACES s t (omega (arith, few)) c.fact.same) g.fact.same;
          r0 = g.fact.r0;
          small = g.fact.small;
          there = g.fact.there;
        };
      }

  -- the places from a on have these numbers, and those below d theirs
  record InRow (d a : ℕ) (vs : List ℕ) (s t : MachineState) : Type 0 where
    same : Same d s t
    there : AreAt a vs t

  passes_run : (r : Comparison) (d n : ℕ) (vs : List ℕ) (s : MachineState) (i : ℕ) → length vs ≡ n → i ≤ n
      → d + n ≤ PLACES → AreAt d vs s → IsFramed s → Stands program s.frame.slot (pass_codes r d n i)
      → s.frame.slot + length (pass_codes r d n i) ≤ last
      → Gets s (s.frame.slot + length (pass_codes r d n i)) (length (pass_codes r d n i))
      (InRow d (d + i) (left_after r i vs) s)
  passes_run r d n vs s zero long within few there framed stands le =
      let e : d ≡ d + 0 = omega arith in
      record {
        new = s;
        run = stays program env s;
        slot = omega arith;
        fact = record { same = same_self d s; there = subst (λ (a : ℕ). AreAt a vs s) e there };
      }
  passes_run r d n vs s (suc i) long within few there framed stands le =
      let front = pass_codes r d n i in
      let back = pass_code r (d + i) (n - 1 - i) in
      let len : length (front ++ back) ≡ length front + length back = length-append front back in
      let c = passes_run r d n vs s i long (omega (arith, within)) few there framed
      (stands_front program s.frame.slot front back stands) (omega (arith, len, le)) in
      let t = c.new in
      let g = pass_runs r (d + i) (n - 1 - i) (left_after r i vs) t (omega (arith, left_long r i vs, long, within))
      (omega (arith, within, few)) c.fact.there (c.fact.same.framed framed)
      (here_is t _ back c.slot (stands_back program s.frame.slot front back stands)) (omega (arith, len, le, c.slot)) in
      let u = g.new in
      let e : d + i + 1 ≡ d + suc i = omega arith in
      record {
        new = u;
        run = chain program env s t u (length front) (length back) (length (front ++ back)) c.run g.run
            (omega (arith, len));
        slot = omega (arith, len, c.slot, g.slot);
        fact = record {
          same = same_then d s t u c.fact.same (same_below d (d + i + 1) t u (omega arith) g.fact.same);
          there = subst (λ (a : ℕ). AreAt a (left_of r (left_after r i vs)) u) e g.fact.there;
        };
      }

  -- passes, and what the last one keeps
  selects_run : (r : Comparison) (d n : ℕ) (vs : List ℕ) (s : MachineState) (i : ℕ) → length vs ≡ n → i < n
      → d + n ≤ PLACES → AreAt d vs s → IsFramed s → Stands program s.frame.slot (pass_codes r d n (suc i))
      → s.frame.slot + length (pass_codes r d n (suc i)) ≤ last
      → Gets s (s.frame.slot + length (pass_codes r d n (suc i))) (length (pass_codes r d n (suc i)))
      (Has d s (kept_of r (left_after r i vs)))
  selects_run r d n vs s i long within few there framed stands le =
      let front = pass_codes r d n i in
      let back = pass_code r (d + i) (n - 1 - i) in
      let len : length (front ++ back) ≡ length front + length back = length-append front back in
      let c = passes_run r d n vs s i long (omega (arith, within)) few there framed
      (stands_front program s.frame.slot front back stands) (omega (arith, len, le)) in
      let t = c.new in
      let g = pass_runs r (d + i) (n - 1 - i) (left_after r i vs) t (omega (arith, left_long r i vs, long, within))
      (omega (arith, within, few)) c.fact.there (c.fact.same.framed framed)
      (here_is t _ back c.slot (stands_back program s.frame.slot front back stands)) (omega (arith, len, le, c.slot)) in
      let u = g.new in
      record {
        new = u;
        run = chain program env s t u (length front) (length back) (length (front ++ back)) c.run g.run
            (omega (arith, len));
        slot = omega (arith, len, c.slot, g.slot);
        fact = record {
          same = same_then d s t u c.fact.same (same_below d (d + i + 1) t u (omega arith) g.fact.same);
          r0 = g.fact.r0;
          small = g.fact.small;
        };
      }

  -- the runs of the numbers that are sorted
  abbrev pub ItemRuns : ℕ → ℕ → (ℕ → List Insn) → (ℕ → ℕ) → MachineState → Type 0
  ItemRuns d n item number s = (j : ℕ) (t : MachineState) → j < n → Same d s t → Stands program t.frame.slot (item j)
      → t.frame.slot + length (item j) ≤ last
      → Gets t (t.frame.slot + length (item j)) (length (item j)) (Has (d + j) t (number j))

  items_run : (d n : ℕ) (item : ℕ → List Insn) (number : ℕ → ℕ) (s : MachineState) (m : ℕ) → m ≤ n → d + n ≤ PLACES
      → IsFramed s → Stands program s.frame.slot (items_code d item m)
      → s.frame.slot + length (items_code d item m) ≤ last → ItemRuns d n item number s
      → Gets s (s.frame.slot + length (items_code d item m)) (length (items_code d item m))
      (InRow d d (numbers_of_nodes m number) s)
  items_run d n item number s zero within few framed stands le each = record {
    new = s;
    run = stays program env s;
    slot = omega arith;
    fact = record { same = same_self d s; there = tt };
  }
  items_run d n item number s (suc m) within few framed stands le each =
      let front = items_code d item m in
      let keep = keep_code (number_place (d + m)) ∷ [] in
      let back = item m ++ keep in
      let len : length (front ++ back) ≡ length front + (length (item m) + 1) = omega
      (arith, length-append front back, length-append (item m) keep) in
      let c = items_run d n item number s m (omega (arith, within)) few framed
      (stands_front program s.frame.slot front back stands) (omega (arith, len, le)) each in
      let t = c.new in
      let at_back = here_is t _ back c.slot (stands_back program s.frame.slot front back stands) in
      let g = each m t (omega (arith, within)) c.fact.same (stands_front program t.frame.slot (item m) keep at_back)
      (omega (arith, len, le, c.slot)) in
      let u = g.new in
      let at_keep = here_is u _ keep g.slot (stands_back program t.frame.slot (item m) keep at_back) in
      let p = keep_runs (d + m) (number m) t u (length (item m)) (omega (arith, within, few)) g.run g.fact
      (c.fact.same.framed framed) at_keep.0 (omega (arith, len, le, c.slot, g.slot)) in
      let w = p.new in
      let vs = numbers_of_nodes m number in
      let long : length vs ≡ m = numbers_long m number in
      let e : d + m ≡ d + length vs = omega (arith, long) in
      record {
        new = w;
        run = chain program env s t w (length front) (length (item m) + 1) (length (front ++ back)) c.run p.run
            (omega (arith, len));
        slot = omega (arith, len, c.slot, g.slot, p.slot);
        fact = record {
          same = same_then d s t w c.fact.same (same_below d (d + m) t w (omega arith) p.fact.same);
          there = are_more d (number m) vs w
              (are_same d (d + m) vs t w (omega (arith, long)) p.fact.same c.fact.there)
              (subst (λ (a : ℕ). At a w (number m)) e p.fact.there) g.fact.small;
        };
      }

  -- the numbers, and then the passes
  found_runs : (k d n : ℕ) (item : ℕ → List Insn) (number : ℕ → ℕ) (s : MachineState) → k < n → d + n ≤ PLACES
      → IsFramed s
      → Stands program s.frame.slot (items_code d item n ++ pass_codes (nearer_end k n) d n (suc (passes_before k n)))
      → s.frame.slot + length (items_code d item n ++ pass_codes (nearer_end k n) d n (suc (passes_before k n))) ≤ last
      → ItemRuns d n item number s
      → Gets s (s.frame.slot + length (items_code d item n ++ pass_codes (nearer_end k n) d n (suc (passes_before k n))))
      (length (items_code d item n ++ pass_codes (nearer_end k n) d n (suc (passes_before k n))))
      (Has d s (number_at_place k (in_order (numbers_of_nodes n number))))
  found_runs k d n item number s lt few framed stands le each =
      let vs = numbers_of_nodes n number in
      let i = passes_before k n in
      let r = nearer_end k n in
      let front = items_code d item n in
      let back = pass_codes r d n (suc i) in
      let len : length (front ++ back) ≡ length front + length back = length-append front back in
      let long : length vs ≡ n = numbers_long n number in
      let c = items_run d n item number s n (omega arith) few framed
      (stands_front program s.frame.slot front back stands) (omega (arith, len, le)) each in
      let t = c.new in
      let g = selects_run r d n vs t i long (omega (arith, lt)) few c.fact.there (c.fact.same.framed framed)
      (here_is t _ back c.slot (stands_back program s.frame.slot front back stands)) (omega (arith, len, le, c.slot)) in
      let u = g.new in
      let is : kept_of r (left_after r i vs) ≡ number_at_place k (in_order vs) = sym (sorted_found k n vs long lt) in
      record {
        new = u;
        run = chain program env s t u (length front) (length back) (length (front ++ back)) c.run g.run
            (omega (arith, len));
        slot = omega (arith, len, c.slot, g.slot);
        fact = record {
          same = same_then d s t u c.fact.same g.fact.same;
          r0 = subst (λ (v : ℕ). get u.frame.registers 0 ≡ Some (Num v)) is g.fact.r0;
          small = subst (λ (v : ℕ). v < 2 ^ 32) is g.fact.small;
        };
      }

  pub sorted_runs : (k d n : ℕ) (item : ℕ → List Insn) (number : ℕ → ℕ) (s : MachineState) → d + n ≤ PLACES
      → IsFramed s → Stands program s.frame.slot (sorted_code k d n item)
      → s.frame.slot + length (sorted_code k d n item) ≤ last → ItemRuns d n item number s
      → Gets s (s.frame.slot + length (sorted_code k d n item)) (length (sorted_code k d n item))
      (Has d s (number_at_place k (in_order (numbers_of_nodes n number))))
  sorted_runs k d n item number s few framed stands le each =
      let found = items_code d item n ++ pass_codes (nearer_end k n) d n (suc (passes_before k n)) in
      let none = set_number R0 4294967295 ∷ [] in
      let v = number_at_place k (in_order (numbers_of_nodes n number)) in
      let P : List Insn → Type 0 = λ c. Stands program s.frame.slot c → s.frame.slot + length c ≤ last
      → Gets s (s.frame.slot + length c) (length c) (Has d s v) in
      let whole : P (sorted_code k d n item) = elim (cases_Bool (nat_lt k n)) [
        | inl so ↦
            subst P (sym (cond-true (nat_lt k n) found none so))
            (λ st l. found_runs k d n item number s (ltb-true k n so) few framed st l each)
        | inr other ↦
            let past : n ≤ k = ltb-false k n other in
            let is : 4294967295 ≡ v = sym (sorted_none k (numbers_of_nodes n number)
            (omega (arith, past, numbers_long n number))) in
            subst P (sym (cond-false (nat_lt k n) found none other))
            (λ st l. subst (λ (x : ℕ). Gets s (s.frame.slot + 1) 1 (Has d s x)) is
            (number_runs d 4294967295 s (omega arith) st l))
      ] in
      whole stands le

  -- ---- terms

  pub term_runs : (t : Term) (z : Sizes) (J : List ℕ) (d lets : ℕ) (purpose : Purpose) (u : NodeState)
      (s : MachineState) → IsSized z env → All (λ j. j < z.nodes) J → lets ≤ PLACES → lets ≤ d → Fits t z (length J) lets d
      → Holds env lets u s
      → Stands program s.frame.slot (term_code t z J d purpose)
      → s.frame.slot + length (term_code t z J d purpose) + beyond_purpose purpose ≤ last
      → Reached purpose d s (s.frame.slot + length (term_code t z J d purpose)) (length (term_code t z J d purpose))
      (value t z env J u)
  term_runs (Number v) z J d lets purpose u s sized nodes few le fits h stands room =
      by_value_runs purpose (set_number R0 v ∷ []) d v s stands room (λ st l. number_runs d v s fits st l)
  term_runs Nodes z J d lets purpose u s sized nodes few le fits h stands room =
      by_value_runs purpose (set_number R0 z.nodes ∷ []) d z.nodes s stands room
      (λ st l. number_runs d z.nodes s (omega (arith, nodes_few z sized)) st l)
  term_runs Faults z J d lets purpose u s sized nodes few le fits h stands room =
      by_value_runs purpose (set_number R0 z.faults ∷ []) d z.faults s stands room
      (λ st l. number_runs d z.faults s sized.faults st l)
  term_runs Modulus z J d lets purpose u s sized nodes few le fits h stands room =
      by_value_runs purpose (set_number R0 z.modulus ∷ []) d z.modulus s stands room
      (λ st l. number_runs d z.modulus s sized.modulus st l)
  term_runs Me z J d lets purpose u s sized nodes few le fits h stands room =
      by_value_runs purpose (i.Call (pos 1) ∷ []) d env.id s stands room
      (λ st l. call_runs d env.id s (omega (arith, sized.setting.id, sized.setting.extent.few))
      (numbers program env s (s.frame.slot + 1) st.0 refl (solid _ l)))
  term_runs Coin z J d lets purpose u s sized nodes few le fits h stands room =
      by_value_runs purpose (i.Call (pos 4) ∷ []) d env.coin s stands room
      (λ st l. call_runs d env.coin s (omega (arith, sized.setting.coin))
      (tosses program env s (s.frame.slot + 1) st.0 refl (solid _ l)))
  term_runs (LoopNode k) z J d lets purpose u s sized nodes few le fits h stands room =
      let v = slice_index J k in
      let lt : v < z.nodes = All-get_or (λ j. j < z.nodes) J k 0 fits nodes in
      by_value_runs purpose (set_number R0 v ∷ []) d v s stands room
      (λ st l. number_runs d v s (omega (arith, lt, nodes_few z sized)) st l)
  term_runs (Local k) z J d lets purpose u s sized nodes few le fits h stands room =
      let v = u.locals k in
      by_value_runs purpose (fetch_code R0 (number_place k) ∷ []) d v s stands room
      (λ st l. fetch_runs d k v s (h.small k fits) (h.locals k fits) h.framed st l)
  term_runs (Word k) z J d lets purpose u s sized nodes few le fits h stands room =
      by_value_runs purpose (i.Load size.W R0 R6 (pos (4 * k)) ∷ []) d (word_at k u.memory) s stands room
      (λ st l. load_runs d lets k u s (omega (arith, fits, sized.memory)) h st l)
  term_runs (Message' p a) z J d lets purpose u s sized nodes few le fits h stands room =
      let code = term_code a z J d Value in
      let x = value a z env J u in
      by_value_runs purpose (message_by (term_source a z J) z.nodes code) d (message_from z env x) s stands room
      (λ st l. message_by_runs (term_source a z J) z d lets x u code s
      (source_is a z J lets d u sized nodes fits) sized st l
      (λ st2 l2. term_runs a z J d lets Value u s sized nodes few le fits h st2 (omega (arith, l2))))
  term_runs (Binary' o p a q b) z J d lets purpose u s sized nodes few le fits h stands room =
      binary_runs o a b z J d lets purpose u s sized nodes few le fits.0 fits.1 fits.2 h
      (λ I e w all more fit hold st l. term_runs a z I e lets Value u w sized all few more fit hold st (omega (arith, l)))
      (λ I e w all more fit hold st l. term_runs b z I e lets Value u w sized all few more fit hold st (omega (arith, l)))
      stands room
  term_runs (Logical' c p a q b) z J d lets purpose u s sized nodes few le fits h stands room =
      let va = value a z env J u in
      let vb = value b z env J u in
      let left = λ (w : Bool) (g : ℕ). term_code a z J d (Jump w g) in
      let v = combine c (truth va) (truth vb) in
      by_test_runs purpose (λ when far. both_code (decides c) when far left
      (term_code b z J d (Jump when far))) d v s stands
      room
      (λ when far st l. both_runs (decides c) when far left (term_code b z J d (Jump when far)) d va vb
      (bit_of v) s st l
      (λ w g st2 l2. term_runs a z J d lets (Jump w g) u s sized nodes few le fits.0 h st2 l2)
      (λ t same st2 l2. term_runs b z J d lets (Jump when far) u t sized nodes few le fits.1
      (still_holds env lets d u s t le h same) st2 l2)
      (λ e. truth_of v ∙ decided c (truth va) (truth vb) e) (λ e. truth_of v ∙ undecided c (truth va) (truth vb) e))
  term_runs (Not' p a) z J d lets purpose u s sized nodes few le fits h stands room =
      let va = value a z env J u in
      by_test_runs purpose (λ when far. term_code a z J d (Jump (not when) far)) d (not (truth va)) s stands room
      (λ when far st l. gets s _ _ _ _ (Same d s) (Same d s) (omega (arith, landing_not when va far)) (omega arith)
      (λ t k. k) (term_runs a z J d lets (Jump (not when) far) u s sized nodes few le fits h st l))
  term_runs (Choice' p t q a r b) z J d lets purpose u s sized nodes few le fits h stands room =
      let ca = term_code a z J d Value in
      let cb = term_code b z J d Value in
      let vt = value t z env J u in
      let va = value a z env J u in
      let vb = value b z env J u in
      let v = if truth vt then va else vb in
      by_value_runs purpose (choice_code (λ far. term_code t z J d (Jump false far)) ca cb) d v s stands room
      (λ st l. choice_runs (λ far. term_code t z J d (Jump false far)) ca cb d vt s (Has d s v) st l
      (λ far st2 l2. term_runs t z J d lets (Jump false far) u s sized nodes few le fits.0 h st2 l2)
      (λ w same e st2 l2. gets w _ _ _ _ (Has d w va) (Has d s v) refl (omega arith)
      (λ x k. has_from d va v s w x same (sym (cond-true (truth vt) va vb e)) k)
      (term_runs a z J d lets Value u w sized nodes few le fits.1 (still_holds env lets d u s w le h same) st2
      (omega (arith, l2))))
      (λ w same e st2 l2. gets w _ _ _ _ (Has d w vb) (Has d s v) refl (omega arith)
      (λ x k. has_from d vb v s w x same (sym (cond-false (truth vt) va vb e)) k)
      (term_runs b z J d lets Value u w sized nodes few le fits.2 (still_holds env lets d u s w le h same) st2
      (omega (arith, l2))))
      (λ x to k. has_at d v s x to k))
  term_runs (Count' p (Binary' o q a r b)) z J d lets purpose u s sized nodes few le fits h stands room =
      let tests = sides_code HowMany o a b z J d (λ I e. term_code a z I e Value) (λ I e. term_code b z I e Value) in
      let holds = λ (j : ℕ). apply_operator o (value a z env (J ++ j ∷ []) u) (value b z env (J ++ j ∷ []) u) in
      let v = tally_below HowMany z.nodes holds (message_from z env) in
      by_value_runs purpose (tally_code HowMany d tests) d v s stands room
      (λ st l. tally_runs HowMany d v tests s fits.0
      (tally_small HowMany z.nodes holds (message_from z env) (omega (arith, nodes_few z sized))) h.framed st l
      (sides_tests_run HowMany o a b z J d lets u s sized nodes (some_nodes z sized) few le fits.0 fits.1 h
      (λ I e w all more fit hold st2 l2. term_runs a z I e lets Value u w sized all few more fit hold st2
      (omega (arith, l2)))
      (λ I e w all more fit hold st2 l2. term_runs b z I e lets Value u w sized all few more fit hold st2
      (omega (arith, l2)))))
  term_runs (Count' p t) z J d lets purpose u s sized nodes few le fits h stands room =
      let test = λ (j : ℕ). term_code t z (J ++ j ∷ []) (d + 1) (tally_test HowMany d) in
      let tests = tests_code HowMany d z.nodes test in
      let holds = λ (j : ℕ). value t z env (J ++ j ∷ []) u in
      let v = tally_below HowMany z.nodes holds (message_from z env) in
      by_value_runs purpose (tally_code HowMany d tests) d v s stands room
      (λ st l. tally_runs HowMany d v tests s fits.0
      (tally_small HowMany z.nodes holds (message_from z env) (omega (arith, nodes_few z sized))) h.framed st l
      (plain_tests_run HowMany z d test holds s sized fits.0 h.framed
      (λ w same j x lt around st2 l2.
      let more : length J + 1 ≡ length (J ++ j ∷ []) = omega (arith, length-append J (j ∷ [])) in
      term_runs t z (J ++ j ∷ []) (d + 1) lets (tally_test HowMany d) u x sized
      (All-push (λ i. i < z.nodes) J j nodes lt) few (omega (arith, le))
      (subst (λ (n : ℕ). Fits t z n lets (d + 1)) more fits.1)
      (still_holds env lets d u s x le h
      (same_then d s w x same (same_around d (d + 1) w x (omega arith) around))) st2 l2)))
  term_runs (Least' p (Binary' o q a r b)) z J d lets purpose u s sized nodes few le fits h stands room =
      let tests = sides_code LeastMessage o a b z J d (λ I e. term_code a z I e Value) (λ I e. term_code b z I e Value) in
      let holds = λ (j : ℕ). apply_operator o (value a z env (J ++ j ∷ []) u) (value b z env (J ++ j ∷ []) u) in
      let v = tally_below LeastMessage z.nodes holds (message_from z env) in
      by_value_runs purpose (tally_code LeastMessage d tests) d v s stands room
      (λ st l. tally_runs LeastMessage d v tests s fits.0
      (tally_small LeastMessage z.nodes holds (message_from z env) (omega (arith, nodes_few z sized))) h.framed st l
      (sides_tests_run LeastMessage o a b z J d lets u s sized nodes (some_nodes z sized) few le fits.0 fits.1 h
      (λ I e w all more fit hold st2 l2. term_runs a z I e lets Value u w sized all few more fit hold st2
      (omega (arith, l2)))
      (λ I e w all more fit hold st2 l2. term_runs b z I e lets Value u w sized all few more fit hold st2
      (omega (arith, l2)))))
  term_runs (Least' p t) z J d lets purpose u s sized nodes few le fits h stands room =
      let test = λ (j : ℕ). term_code t z (J ++ j ∷ []) (d + 1) (tally_test LeastMessage d) in
      let tests = tests_code LeastMessage d z.nodes test in
      let holds = λ (j : ℕ). value t z env (J ++ j ∷ []) u in
      let v = tally_below LeastMessage z.nodes holds (message_from z env) in
      by_value_runs purpose (tally_code LeastMessage d tests) d v s stands room
      (λ st l. tally_runs LeastMessage d v tests s fits.0
      (tally_small LeastMessage z.nodes holds (message_from z env) (omega (arith, nodes_few z sized))) h.framed st l
      (plain_tests_run LeastMessage z d test holds s sized fits.0 h.framed
      (λ w same j x lt around st2 l2.
      let more : length J + 1 ≡ length (J ++ j ∷ []) = omega (arith, length-append J (j ∷ [])) in
      term_runs t z (J ++ j ∷ []) (d + 1) lets (tally_test LeastMessage d) u x sized
      (All-push (λ i. i < z.nodes) J j nodes lt) few (omega (arith, le))
      (subst (λ (n : ℕ). Fits t z n lets (d + 1)) more fits.1)
      (still_holds env lets d u s x le h
      (same_then d s w x same (same_around d (d + 1) w x (omega arith) around))) st2 l2)))
  term_runs (Sorted' p k q e) z J d lets purpose u s sized nodes few le fits h stands room =
      let place = constant_number k z J in
      let item = λ (j : ℕ). term_code e z (J ++ j ∷ []) (d + j) Value in
      let number = λ (j : ℕ). value e z env (J ++ j ∷ []) u in
      let numbers = in_order (numbers_of_nodes z.nodes number) in
      let is : number_at_place place numbers ≡ number_at_place (value k z env J u) numbers =
      ap (λ (x : ℕ). number_at_place x numbers) (constant_is k z J u fits.0) in
      by_value_runs purpose (sorted_code place d z.nodes item) d (number_at_place (value k z env J u) numbers) s stands room
      (λ st l. gets s _ _ _ _ (Has d s (number_at_place place numbers)) (Has d s (number_at_place (value k z env J u) numbers)) refl
      (omega arith) (λ w x. subst (λ (v : ℕ). Has d s v w) is x)
      (sorted_runs place d z.nodes item number s fits.2 h.framed st l
      (λ j w lt same st2 l2.
      let more : length J + 1 ≡ length (J ++ j ∷ []) = omega (arith, length-append J (j ∷ [])) in
      term_runs e z (J ++ j ∷ []) (d + j) lets Value u w sized
      (All-push (λ i. i < z.nodes) J j nodes lt) few (omega (arith, le))
      (subst (λ (n : ℕ). Fits e z n lets (d + j)) more
      (fits_less e z (length J + 1) lets (d + j) (d + z.nodes) (omega (arith, lt)) fits.3))
      (still_holds env lets d u s w le h same) st2 (omega (arith, l2)))))

  -- the tests of a tally over the nodes at which a term holds
  pub over_runs : (tally : Tally) (t : Term) (z : Sizes) (J : List ℕ) (d lets : ℕ) (u : NodeState) (s : MachineState)
      → IsSized z env → All (λ j. j < z.nodes) J → lets ≤ PLACES → lets ≤ d → TallyFits t z (length J) lets d
      → Holds env lets u s
      → OverRuns tally d (over_code tally t z J d)
      (tally_below tally z.nodes (λ j. value t z env (J ++ j ∷ []) u) (message_from z env)) s
  over_runs tally (Binary' o q a r b) z J d lets u s sized nodes few le fits h =
      sides_tests_run tally o a b z J d lets u s sized nodes (some_nodes z sized) few le fits.0 fits.1 h
      (λ I e w all more fit hold st l. term_runs a z I e lets Value u w sized all few more fit hold st (omega (arith, l)))
      (λ I e w all more fit hold st l. term_runs b z I e lets Value u w sized all few more fit hold st (omega (arith, l)))
  over_runs tally t z J d lets u s sized nodes few le fits h =
      let test = λ (j : ℕ). term_code t z (J ++ j ∷ []) (d + 1) (tally_test tally d) in
      plain_tests_run tally z d test (λ j. value t z env (J ++ j ∷ []) u) s sized fits.0 h.framed
      (λ w same j x lt around st2 l2.
      let more : length J + 1 ≡ length (J ++ j ∷ []) = omega (arith, length-append J (j ∷ [])) in
      term_runs t z (J ++ j ∷ []) (d + 1) lets (tally_test tally d) u x sized
      (All-push (λ i. i < z.nodes) J j nodes lt) few (omega (arith, le))
      (subst (λ (n : ℕ). Fits t z n lets (d + 1)) more fits.1)
      (still_holds env lets d u s x le h
      (same_then d s w x same (same_around d (d + 1) w x (omega arith) around))) st2 l2)
