-- The code of statements, and of whole rules, is typed.
use Rattle.std.proofs.Common.{◌≡◌, ℕ, zero, suc, ◌+◌, ◌-◌, ◌*◌, ◌^◌, ◌%◌, ◌<◌, ◌≤◌, nat_lt, Bool, true, false, if◌then◌else◌, ◌||◌, ◌&&◌, List, [], ◌∷◌, ◌++◌, length, Option, Some, None, pos, slice_get, refl, sym, ap, ◌∙◌, arith, subst, inl, inr, length-append}
use Rattle.std.specs.Int.{w32, w64, cast_signed, cast_unsigned}
use Rattle.std.proofs.lemmas.Bool.{cases_Bool, cond-true, cond-false, lt-ltb, le-ltb, ltb-true, and_parts}
use Rattle.std.proofs.Math.Nat.{mod-eq_of_lt}
use Rattle.std.proofs.lemmas.Option.{same_Some, none-some}
use Rattle.node_env.specs.Env.{Extent, IsExtent}
use Rattle.bpf_insn.specs.declared.forms.Reg.{Reg}
use Rattle.bpf_insn.specs.declared.forms.Reg.TheVariants.{R0, R1, R2, R6}
use Rattle.bpf_insn.specs.declared.forms.Width.TheVariants.{W32, W64}
use Rattle.bpf_insn.specs.declared.forms.Size.TheVariants as size
use Rattle.bpf_insn.specs.declared.forms.AluOp.TheVariants.{Mov}
use Rattle.bpf_insn.specs.declared.forms.Operand.TheVariants as operand
use Rattle.bpf_insn.specs.declared.forms.Insn.{Insn}
use Rattle.bpf_insn.specs.declared.forms.Insn.TheVariants as i
use Rattle.bpf_insn.specs.Edges.{BeginsAt, target}
use Rattle.value_range.specs.Results.{alu_of as range_of}
use Rattle.value_range.specs.Span.{just}
use Rattle.bpf_verify.specs.declared.abstract_value.AbstractValue.{AbstractValue}
use Rattle.bpf_verify.specs.declared.abstract_value.AbstractValue.TheVariants.{Unset, Number}
use Rattle.bpf_verify.specs.States.{AbstractState, stack_base, IsContainedIn, IsProper, entry_state, kind_of, is_unset_kind, is_pointer_kind}
use Rattle.bpf_verify.specs.Typable.{Table, IsCovered, Typable}
use Rattle.bpf_verify.proofs.StateLaws.{kind_in_itself, contained_in_itself, contained_further}
use Rattle.clock_nodes.proofs.Taken.{covered, KeepsOwn, keeps_own, sound_end, Sound, Sounds, marks_whole, typed}
use Rattle.rule_syntax.specs.declared.syntax.Sizes.{Sizes}
use Rattle.rule_syntax.specs.declared.syntax.Operation.{Operation}
use Rattle.rule_syntax.specs.declared.syntax.Operator.TheVariants.{Compute}
use Rattle.rule_syntax.specs.declared.syntax.Comparison.TheVariants.{AtLeast}
use Rattle.rule_nodes.specs.declared.numbers.TheConstants.{PLACES}
use Rattle.rule_nodes.specs.declared.numbers.Place.{Place}
use Rattle.rule_nodes.specs.declared.numbers.Place.TheVariants.{InRegister, OnStack}
use Rattle.rule_nodes.specs.declared.numbers.Purpose.TheVariants.{Value, Jump}
use Rattle.rule_syntax.specs.declared.syntax.Term.TheVariants.{Binary', Count', Least'}
use Rattle.rule_syntax.specs.declared.syntax.Target.{Target}
use Rattle.rule_syntax.specs.declared.syntax.Target.TheVariants.{ToLocal, ToWord}
use Rattle.rule_syntax.specs.declared.syntax.Assignment.{Assignment}
use Rattle.rule_syntax.specs.declared.syntax.Assignment.TheVariants.{One, Also'}
use Rattle.rule_nodes.specs.declared.numbers.Tally.{Tally}
use Rattle.rule_nodes.specs.declared.numbers.Tally.TheVariants.{HowMany, LeastMessage}
use Rattle.rule_nodes.specs.declared.numbers.Source.{Source}
use Rattle.rule_nodes.specs.declared.numbers.Source.TheVariants.{Constant, FromLocal, FromWord, Computed}
use Rattle.rule_syntax.specs.declared.syntax.Term.{Term}
use Rattle.rule_syntax.specs.declared.syntax.Statement.{Statement}
use Rattle.rule_syntax.specs.declared.syntax.Statement.TheVariants.{Nothing, Then', Let', Assign, If', For', SendAll, SendTo}
use Rattle.rule_nodes.specs.Operands.{is_constant, constant_number, is_local, is_operand, is_steady, depth_behind, term_source}
use Rattle.rule_nodes.specs.Fits.{HasPlace, Fits, TargetFits, AssignmentFits, BlockFits}
use Rattle.rule_nodes.specs.Code.{number_place, fetch_code, keep_code, copy, set_node, cond_of, jump_at, tallied_code, term_code, over_code, stored_code, passed_code, idle_code, send_to_constant_code, assign_code, place_code, word_code, set_code, given_code, alu_op_of, change_place, changing_insn, one_code, also_code, assignment_code, get_code, set_number, send_code, send_codes, send_all_code, receiver_code, send_to_code, each_code, is_nothing, block_code, tail_code, rule_code}
use Rattle.rule_nodes.proofs.Typing.{memory_place, word, written_at, state, known, plain, valued, proper, within, proper_known, some_word, into, Grows, grows_none, grows_one, placed_in, register_kind, short, Typing, typed_then, typed_as, typed_none, one_on, one_fork, number_typed, fetch_place, keep_place, fetch_typed, keep_typed, change_typed, AllSound, seen}
use Rattle.rule_nodes.proofs.Whole.{all_begin, rule_length, ones_rule}
use Rattle.rule_nodes.specs.Ends.{AreSizes}
use Rattle.rule_nodes.proofs.Places.{IsPlace, place_is, not_frame}
use Rattle.rule_nodes.proofs.Sources.{is_found}
use Rattle.rule_nodes.proofs.Shared.{count_fits, least_fits}
use Rattle.rule_nodes.proofs.TermRuns.{behind_more, behind_few, found_same}
use Rattle.rule_nodes.proofs.Blocks.{computed_place}
use Rattle.rule_nodes.proofs.TypedTerms.{known_less, covers_less, left_imm, typed_seq, typed_at, if_typed, some_node, proper_node, node_in_r0, not_above_node, name_typed, node_typed, load_typed, register_typed, alter_typed, IsThere, source_there, OverTyped, tallied_typed, over_typed, term_typed}

module _ (program : List Insn) (shape : Extent) (last : ℕ) (solid : (k : ℕ) → k ≤ last → BeginsAt program k) where
  abbrev T : ℕ → List Insn → (Table → Type 0) → (Table → Type 0) → Type 0
  T slot code O A = Typing program shape last solid slot code O A

  abbrev C : AbstractState → ℕ → Table → Type 0
  C A to table = IsCovered table A to

  -- ---- writes

  store_typed : (d k slot : ℕ) → 4 * k + 4 ≤ shape.memory → slot + 1 ≤ last
      → T slot (i.StoreReg size.W R6 (pos (4 * k)) R0 ∷ []) (C (valued d) slot) (C (plain d) (slot + 1))
  store_typed d k slot inside le =
      let room : nat_lt shape.memory (0 + 4 * k + 4) ≡ false = le-ltb shape.memory (0 + 4 * k + 4)
      (omega (arith, inside)) in
      one_on program shape last solid slot (i.StoreReg size.W R6 (pos (4 * k)) R0) (valued d) _ (plain d) refl refl refl
      (into _ d Unset Unset Unset tt tt tt refl)
      (proper_known d word Unset Unset some_word tt tt) (keeps_own _ _ _ (rw room refl)) le

  assign_typed : (target : Target) (lets d slot : ℕ) → lets ≤ d → d ≤ PLACES → TargetFits target shape.memory lets
      → slot + 1 ≤ last → T slot (assign_code target ∷ []) (C (valued d) slot) (C (plain d) (slot + 1))
  assign_typed (ToLocal k) lets d slot below few fits le =
      change_typed program shape last solid k d slot (omega (arith, fits, below)) few le
  assign_typed (ToWord k) lets d slot below few fits le = store_typed d k slot fits le

  -- ---- found numbers to their targets

  -- a found number into the register of place k, after which e places are in use
  register_reached : (x : Source) (register : Reg) (k d e lets slot : ℕ) → IsPlace (InRegister register) k → Grows k d e
      → is_found x ≡ true → IsThere x lets shape.memory → lets ≤ d → d ≤ PLACES → slot + 1 ≤ last
      → T slot (get_code register x ∷ []) (C (plain d) slot) (C (plain e) (slot + 1))
  register_reached (Constant c) register k d e lets slot is grows found there below few le =
      let x = cast_unsigned w64 (cast_signed w32 c) % 2 ^ 32 in
      register_typed program shape last solid register k d e slot (set_number register c)
      (Number (range_of Mov W32 (just x) (just x))) is grows refl refl refl (short x)
      (record {
        forward = refl;
        known = refl;
        set = refl;
        frame = not_frame register (omega (arith, is.0, is.1));
        pointer = refl;
        region = refl;
        stack = refl;
        argument = refl;
        exit = refl;
        base = refl;
      }) le
  register_reached (FromLocal j) register k d e lets slot is grows found there below few le =
      fetch_place program shape last solid (number_place j) j d register Unset Unset Unset (plain e) slot
      (place_is j (omega (arith, there, below, few))) (omega (arith, there, below)) tt tt tt
      (not_frame register (omega (arith, is.0, is.1)))
      (placed_in register k d e (plain d) word is grows refl (kind_in_itself word)) le
  register_reached (FromWord j) register k d e lets slot is grows found there below few le =
      let room : nat_lt shape.memory (0 + 4 * j + 4) ≡ false = le-ltb shape.memory (0 + 4 * j + 4)
      (omega (arith, there)) in
      register_typed program shape last solid register k d e slot (get_code register (FromWord j)) word is grows
      refl refl refl (kind_in_itself word)
      (record {
        forward = refl;
        known = refl;
        set = refl;
        frame = not_frame register (omega (arith, is.0, is.1));
        pointer = rw room refl;
        region = rw room refl;
        stack = refl;
        argument = refl;
        exit = refl;
        base = refl;
      }) le
  register_reached Computed register k d e lets slot is grows found there below few le =
      absurd (let no : false ≡ true = found in cc)

  -- a found number into r0
  found_typed : (x : Source) (d lets slot : ℕ) → is_found x ≡ true → IsThere x lets shape.memory → lets ≤ d → d ≤ PLACES
      → slot + 1 ≤ last
      → T slot (get_code R0 x ∷ []) (C (plain d) slot) (C (valued d) (slot + 1))
  found_typed (Constant c) d lets slot found there below few le = number_typed program shape last solid d c slot le
  found_typed (FromLocal k) d lets slot found there below few le =
      fetch_typed program shape last solid k d Unset slot (omega (arith, there, below)) few tt le
  found_typed (FromWord k) d lets slot found there below few le = load_typed program shape last solid d k slot there le
  found_typed Computed d lets slot found there below few le = absurd (let no : false ≡ true = found in cc)

  -- a found number into place k, after which e places are in use
  place_reached : (p : Place) (x : Source) (k d e lets slot : ℕ) → IsPlace p k → Grows k d e → is_found x ≡ true
      → IsThere x lets shape.memory → lets ≤ d → d ≤ PLACES → slot + length (place_code p x) ≤ last
      → T slot (place_code p x) (C (plain d) slot) (C (plain e) (slot + length (place_code p x)))
  place_reached (InRegister register) x k d e lets slot is grows found there below few le =
      register_reached x register k d e lets slot is grows found there below few le
  place_reached (OnStack off) x k d e lets slot is grows found there below few le =
      let p1 = slot + 1 in
      let eq : p1 + 1 ≡ slot + 2 = omega arith in
      let keep = keep_code (OnStack off) ∷ [] in
      let a = found_typed x d lets slot found there below few (omega (arith, le)) in
      let b = typed_at program shape last solid p1 (p1 + 1) (slot + 2) keep (C (valued d) p1) (plain e) eq
      (keep_place program shape last solid (OnStack off) k d e p1 is grows (omega (arith, le))) in
      typed_seq program shape last solid slot p1 (get_code R0 x ∷ []) keep (C (plain d) slot) (C (valued d) p1)
      (C (plain e) (slot + 2)) refl a b

  into_place : (x : Source) (k d lets slot : ℕ) → is_found x ≡ true → IsThere x lets shape.memory → lets ≤ d → d ≤ PLACES
      → k < d → slot + length (place_code (number_place k) x) ≤ last
      → T slot (place_code (number_place k) x) (C (plain d) slot) (C (plain d) (slot + length (place_code (number_place k) x)))
  into_place x k d lets slot found there below few lt le =
      place_reached (number_place k) x k d d lets slot (place_is k (omega (arith, lt, few))) (grows_none k d lt) found there below
      few le

  into_new : (x : Source) (d slot : ℕ) → is_found x ≡ true → IsThere x d shape.memory → d < PLACES
      → slot + length (place_code (number_place d) x) ≤ last
      → T slot (place_code (number_place d) x) (C (plain d) slot) (C (plain (d + 1)) (slot + length (place_code (number_place d) x)))
  into_new x d slot found there lt le =
      place_reached (number_place d) x d d (d + 1) d slot (place_is d lt) (grows_one d) found there (omega arith)
      (omega (arith, lt)) le

  number_stored : (d k v slot : ℕ) → 4 * k + 4 ≤ shape.memory → slot + 1 ≤ last
      → T slot (i.StoreImm size.W R6 (pos (4 * k)) (cast_signed w32 v) ∷ []) (C (plain d) slot) (C (plain d) (slot + 1))
  number_stored d k v slot inside le =
      let room : nat_lt shape.memory (0 + 4 * k + 4) ≡ false = le-ltb shape.memory (0 + 4 * k + 4)
      (omega (arith, inside)) in
      one_on program shape last solid slot (i.StoreImm size.W R6 (pos (4 * k)) (cast_signed w32 v))
      (plain d) _ (plain d)
      refl refl refl (into _ d Unset Unset Unset tt tt tt refl)
      (proper_known d Unset Unset Unset tt tt tt) (keeps_own _ _ _ (rw room refl)) le

  -- a place into a word
  place_stored : (p : Place) (j d k slot : ℕ) → number_place j ≡ p → j < d → d ≤ PLACES → 4 * k + 4 ≤ shape.memory
      → slot + length (word_code k p) ≤ last
      → T slot (word_code k p) (C (plain d) slot) (C (plain d) (slot + length (word_code k p)))
  place_stored (InRegister register) j d k slot same lt few inside le =
      let is : IsPlace (InRegister register) j = subst (λ (p : Place). IsPlace p j) same
      (place_is j (omega (arith, lt, few))) in
      let e : kind_of (plain d) register ≡ word = register_kind register j d Unset Unset Unset is lt in
      let room : nat_lt shape.memory (0 + 4 * k + 4) ≡ false = le-ltb shape.memory (0 + 4 * k + 4)
      (omega (arith, inside)) in
      let own : KeepsOwn shape (i.StoreReg size.W R6 (pos (4 * k)) register) (plain d) = record {
        forward = refl;
        known = refl;
        set = ap (λ (q : AbstractValue). is_unset_kind q || false) e;
        frame = refl;
        pointer = ap (λ (q : AbstractValue). is_pointer_kind q && true) e;
        region = rw room refl;
        stack = refl;
        argument = refl;
        exit = refl;
        base = refl;
      } in
      one_on program shape last solid slot (i.StoreReg size.W R6 (pos (4 * k)) register) (plain d) _ (plain d)
      refl refl refl (into _ d Unset Unset Unset tt tt tt refl)
      (proper_known d Unset Unset Unset tt tt tt) own le
  place_stored (OnStack off) j d k slot same lt few inside le =
      let p1 = slot + 1 in
      let set = assign_code (ToWord k) ∷ [] in
      let a = subst (λ (p : Place). T slot (fetch_code R0 p ∷ []) (C (plain d) slot) (C (valued d) p1)) same
      (fetch_typed program shape last solid j d Unset slot lt few tt (omega (arith, le))) in
      let e : p1 + 1 ≡ slot + 2 = omega arith in
      let b = typed_at program shape last solid p1 (p1 + 1) (slot + 2) set (C (valued d) p1) (plain d) e
      (store_typed d k p1 inside (omega (arith, le))) in
      typed_seq program shape last solid slot p1 (fetch_code R0 (OnStack off) ∷ []) set (C (plain d) slot)
      (C (valued d) p1) (C (plain d) (slot + 2)) refl a b

  set_typed : (target : Target) (x : Source) (d lets slot : ℕ) → is_found x ≡ true → IsThere x lets shape.memory
      → lets ≤ d → d ≤ PLACES → TargetFits target shape.memory lets → slot + length (set_code target x) ≤ last
      → T slot (set_code target x) (C (plain d) slot) (C (plain d) (slot + length (set_code target x)))
  set_typed (ToLocal k) x d lets slot found there below few fits le =
      into_place x k d lets slot found there below few (omega (arith, fits, below)) le
  set_typed (ToWord k) (Constant c) d lets slot found there below few fits le = number_stored d k c slot fits le
  set_typed (ToWord k) (FromLocal j) d lets slot found there below few fits le =
      place_stored (number_place j) j d k slot refl (omega (arith, there, below)) few fits le
  set_typed (ToWord k) (FromWord j) d lets slot found there below few fits le =
      let p1 = slot + 1 in
      let set = assign_code (ToWord k) ∷ [] in
      let a = load_typed program shape last solid d j slot there (omega (arith, le)) in
      let e : p1 + 1 ≡ slot + 2 = omega arith in
      let b = typed_at program shape last solid p1 (p1 + 1) (slot + 2) set (C (valued d) p1) (plain d) e
      (store_typed d k p1 fits (omega (arith, le))) in
      typed_seq program shape last solid slot p1 (get_code R0 (FromWord j) ∷ []) set (C (plain d) slot)
      (C (valued d) p1)
      (C (plain d) (slot + 2)) refl a b
  set_typed (ToWord k) Computed d lets slot found there below few fits le = absurd (let no : false ≡ true = found in cc)

  -- ---- sending

  -- a place into r2
  pass_typed : (k d slot : ℕ) → k < d → d ≤ PLACES → slot + 1 ≤ last
      → T slot (fetch_code R2 (number_place k) ∷ []) (C (known d Unset (some_node program shape last solid) Unset) slot)
      (C (known d Unset (some_node program shape last solid) word) (slot + 1))
  pass_typed k d slot lt few le =
      let N = some_node program shape last solid in
      fetch_place program shape last solid (number_place k) k d R2 Unset N Unset (known d Unset N word) slot
      (place_is k (omega (arith, lt, few))) lt tt (proper_node program shape last solid) tt refl
      (into _ d Unset N word tt (kind_in_itself N) (kind_in_itself word) refl) le

  -- a found number into r2
  get_typed : (x : Source) (d lets slot : ℕ) → is_found x ≡ true → IsThere x lets shape.memory → lets ≤ d → d ≤ PLACES
      → slot + 1 ≤ last
      → T slot (get_code R2 x ∷ []) (C (known d Unset (some_node program shape last solid) Unset) slot)
      (C (known d Unset (some_node program shape last solid) word) (slot + 1))
  get_typed (Constant c) d lets slot found there below few le =
      let N = some_node program shape last solid in
      one_on program shape last solid slot (set_number R2 c) (known d Unset N Unset) _ (known d Unset N word)
      refl refl refl
      (into _ d Unset N word tt (kind_in_itself N) (short (cast_unsigned w64 (cast_signed w32 c) % 2 ^ 32))
      refl) (proper_known d Unset N Unset tt (proper_node program shape last solid) tt)
      (keeps_own _ _ _ refl) le
  get_typed (FromLocal k) d lets slot found there below few le = pass_typed k d slot
      (omega (arith, there, below)) few le
  get_typed (FromWord k) d lets slot found there below few le =
      let N = some_node program shape last solid in
      let room : nat_lt shape.memory (0 + 4 * k + 4) ≡ false = le-ltb shape.memory (0 + 4 * k + 4)
      (omega (arith, there)) in
      one_on program shape last solid slot (get_code R2 (FromWord k)) (known d Unset N Unset) _ (known d Unset N word)
      refl refl refl (into _ d Unset N word tt (kind_in_itself N) (kind_in_itself word) refl)
      (proper_known d Unset N Unset tt (proper_node program shape last solid) tt) (keeps_own _ _ _ (rw room refl)) le
  get_typed Computed d lets slot found there below few le = absurd (let no : false ≡ true = found in cc)

  send_typed : (d slot : ℕ) → 1 ≤ shape.nodes → slot + 1 ≤ last
      → T slot (i.Call (pos 3) ∷ []) (C (known d Unset (some_node program shape last solid) word) slot)
      (C (plain d) (slot + 1))
  send_typed d slot some le =
      let N = some_node program shape last solid in
      let one_of : nat_lt (shape.nodes - 1) shape.nodes ≡ true = lt-ltb (shape.nodes - 1) shape.nodes
      (omega (arith, some)) in
      one_on program shape last solid slot (i.Call (pos 3)) (known d Unset N word) _ (plain d) refl refl refl
      (into _ d Unset Unset Unset tt tt tt refl)
      (proper_known d Unset N word tt (proper_node program shape last solid) some_word)
      (keeps_own _ _ _ (rw one_of refl)) le

  -- r1 has a node's number: a found number goes there
  hand_typed : (x : Source) (d lets slot : ℕ) → is_found x ≡ true → IsThere x lets shape.memory → lets ≤ d → d ≤ PLACES
      → 1 ≤ shape.nodes → slot + 2 ≤ last
      → T slot (get_code R2 x ∷ i.Call (pos 3) ∷ []) (C (known d Unset (some_node program shape last solid) Unset) slot)
      (C (plain d) (slot + 1 + 1))
  hand_typed x d lets slot found there below few some le = typed_seq program shape last solid slot (slot + 1)
      (get_code R2 x ∷ []) (i.Call (pos 3) ∷ []) _ _ _ refl (get_typed x d lets slot found there below few
      (omega (arith, le)))
      (send_typed d (slot + 1) some (omega (arith, le)))

  -- a found number to node j
  found_sent_typed : (x : Source) (d lets slot j : ℕ) → is_found x ≡ true → IsThere x lets shape.memory → lets ≤ d
      → d ≤ PLACES → j < shape.nodes → shape.nodes ≤ 64 → slot + 3 ≤ last
      → T slot (send_code x j) (C (plain d) slot) (C (plain d) (slot + 1 + 1 + 1))
  found_sent_typed x d lets slot j found there below few lt most le =
      let hand = get_code R2 x ∷ i.Call (pos 3) ∷ [] in
      let a = node_typed program shape last solid d j slot lt most (omega (arith, le)) in
      let b = hand_typed x d lets (slot + 1) found there below few (omega (arith, lt)) (omega (arith, le)) in
      typed_seq program shape last solid slot (slot + 1) (set_node R1 j ∷ []) hand (C (plain d) slot)
      (C (known d Unset (some_node program shape last solid) Unset) (slot + 1)) (C (plain d) (slot + 1 + 1 + 1)) refl a b

  -- the number in r0 to node j
  value_sent_typed : (d slot j : ℕ) → j < shape.nodes → shape.nodes ≤ 64 → slot + 3 ≤ last
      → T slot (send_code Computed j) (C (valued d) slot) (C (plain d) (slot + 1 + 1 + 1))
  value_sent_typed d slot j lt most le =
      let N = some_node program shape last solid in
      let p1 = slot + 1 in
      let p2 = p1 + 1 in
      let end = p2 + 1 in
      let imm : cast_unsigned w64 (pos j) % 2 ^ 64 ≡ j = mod-eq_of_lt (omega (arith, lt, most)) in
      let a = one_on program shape last solid slot (set_node R1 j) (valued d) _ (known d word N Unset) refl refl refl
      (into _ d word N Unset (kind_in_itself word)
      (just (cast_unsigned w64 (pos j) % 2 ^ 64), refl, record { low = omega arith; high = omega (arith, lt, imm) }) tt
      refl) (proper_known d word Unset Unset some_word tt tt) (keeps_own _ _ _ refl) (omega (arith, le)) in
      let b = one_on program shape last solid p1 (copy R2 R0) (known d word N Unset) _ (known d Unset N word)
      refl refl refl (into _ d Unset N word tt (kind_in_itself N) (kind_in_itself word) refl)
      (proper_known d word N Unset some_word (proper_node program shape last solid) tt) (keeps_own _ _ _ refl)
      (omega (arith, le)) in
      let c = send_typed d p2 (omega (arith, lt)) (omega (arith, le)) in
      let bc = typed_seq program shape last solid p1 p2 (copy R2 R0 ∷ []) (i.Call (pos 3) ∷ []) (C (known d word N Unset) p1)
      (C (known d Unset N word) p2) (C (plain d) end) refl b c in
      typed_seq program shape last solid slot p1 (set_node R1 j ∷ []) (copy R2 R0 ∷ i.Call (pos 3) ∷ []) (C (valued d) slot)
      (C (known d word N Unset) p1) (C (plain d) end) refl a bc

  sends_typed : (x : Source) (d lets slot n : ℕ) → is_found x ≡ true → IsThere x lets shape.memory → lets ≤ d → d ≤ PLACES
      → n ≤ shape.nodes → shape.nodes ≤ 64 → slot + length (send_codes x n) ≤ last
      → T slot (send_codes x n) (C (plain d) slot) (C (plain d) (slot + length (send_codes x n)))
  sends_typed x d lets slot zero found there below few le most room =
      let e : slot ≡ slot + 0 = omega arith in
      typed_at program shape last solid slot slot (slot + 0) [] (C (plain d) slot) (plain d) e
      (typed_none program shape last solid slot (C (plain d) slot))
  sends_typed x d lets slot (suc n) found there below few le most room =
      let front = send_codes x n in
      let back = send_code x n in
      let S = plain d in
      let len : length (front ++ back) ≡ length front + 3 = length-append front back in
      let p1 = slot + length front in
      let f = sends_typed x d lets slot n found there below few (omega (arith, le)) most (omega (arith, len, room)) in
      let ab = found_sent_typed x d lets p1 n found there below few (omega (arith, le)) most (omega (arith, len, room)) in
      let e : p1 + 1 + 1 + 1 ≡ slot + length (front ++ back) = omega (arith, len) in
      typed_at program shape last solid slot (p1 + 1 + 1 + 1) (slot + length (front ++ back)) (front ++ back)
      (C S slot) S e
      (typed_seq program shape last solid slot p1 front back (C S slot) (C S p1) (C S (p1 + 1 + 1 + 1)) refl f ab)

  -- a found number to the node in r0
  receiver_typed : (x : Source) (d lets n slot : ℕ) → is_found x ≡ true → IsThere x lets shape.memory → lets ≤ d
      → d ≤ PLACES → n ≡ shape.nodes → 1 ≤ n → n ≤ 64 → slot + 4 ≤ last
      → T slot (receiver_code x n) (C (valued d) slot) (C (plain d) (slot + 4))
  receiver_typed x d lets n slot found there below most same some few le =
      let p1 = slot + 1 in
      let p2 = p1 + 1 in
      let end = slot + 4 in
      let N = some_node program shape last solid in
      let A = known d N Unset Unset in
      let V = valued d in
      let S = plain d in
      let hand = get_code R2 x ∷ i.Call (pos 3) ∷ [] in
      let f = one_fork program shape last solid slot 3 (cond_of AtLeast) R0 (operand.Imm (pos n)) V A S
      (λ y e. node_in_r0 program shape last solid d (pos n) _ y
      (λ pair g. not_above_node program shape last solid n pair same few g) e)
      (λ y e. left_imm d (pos n) _ y e)
      (proper_known d word Unset Unset some_word tt tt) (keeps_own _ _ _ refl) (omega (arith, le)) in
      let a = name_typed program shape last solid d p1 (omega (arith, same, few)) (omega (arith, le)) in
      let e1 : p2 + 1 + 1 ≡ end = omega arith in
      let b = typed_at program shape last solid p2 (p2 + 1 + 1) end hand
      (C (known d Unset N Unset) p2) S e1 (hand_typed x d lets p2 found there below most (omega (arith, same, some))
      (omega (arith, le))) in
      let ab = typed_seq program shape last solid p1 p2 (copy R1 R0 ∷ []) hand (C A p1)
      (C (known d Unset N Unset) p2) (C S end) refl a b in
      let e2 : end ≡ slot + 1 + 3 = omega arith in
      let all = typed_then program shape last solid slot p1 (jump_at AtLeast n 3 ∷ []) (copy R1 R0 ∷ hand) (C V slot)
      (λ table. C A p1 table × C S (p1 + 3) table) (C A p1) (C S end) refl f ab
      (λ table o asks. (o, subst (λ (k : ℕ). C S k table) e2 asks)) in
      typed_as program shape last solid slot (receiver_code x n) (λ table. C V slot table × C A p1 table)
      (C S end) (C V slot)
      (C S end) (λ table h. h.0) (λ table h. h) all

  -- ---- statements

  each_typed : (d slot n : ℕ) (body : ℕ → List Insn) → slot + length (each_code body n) ≤ last
      → ((j to : ℕ) → to + length (body j) ≤ last → T to (body j) (C (plain d) to) (C (plain d) (to + length (body j))))
      → T slot (each_code body n) (C (plain d) slot) (C (plain d) (slot + length (each_code body n)))
  each_typed d slot zero body le each =
      let e : slot ≡ slot + 0 = omega arith in
      typed_at program shape last solid slot slot (slot + 0) [] (C (plain d) slot) (plain d) e
      (typed_none program shape last solid slot (C (plain d) slot))
  each_typed d slot (suc n) body le each =
      let front = each_code body n in
      let len : length (front ++ body n) ≡ length front + length (body n) = length-append front (body n) in
      let p1 = slot + length front in
      let e : p1 + length (body n) ≡ slot + length (front ++ body n) = omega (arith, len) in
      typed_at program shape last solid slot (p1 + length (body n)) (slot + length (front ++ body n)) (front ++ body n)
      (C (plain d) slot) (plain d) e
      (typed_seq program shape last solid slot p1 front (body n) (C (plain d) slot) (C (plain d) p1)
      (C (plain d) (p1 + length (body n))) refl (each_typed d slot n body (omega (arith, len, le)) each)
      (each n p1 (omega (arith, len, le))))

  abbrev BlockTyped : ℕ → ℕ → List Insn → Type 0
  BlockTyped d slot code = T slot code (C (plain d) slot) (C (plain d) (slot + length code))

  -- a value into place d, and what follows at depth d + 1
  stored_typed : (e : Term) (z : Sizes) (J : List ℕ) (d slot : ℕ) (rest : List Insn) → z.nodes ≡ shape.nodes
      → 1 ≤ z.nodes → z.nodes ≤ 64 → z.memory ≡ shape.memory → d < PLACES → Fits e z (length J) d d
      → slot + length (term_code e z J d Value ++ (keep_code (number_place d) ∷ rest)) ≤ last
      → ((to : ℕ) → to + length rest ≤ last → BlockTyped (d + 1) to rest)
      → BlockTyped d slot (term_code e z J d Value ++ (keep_code (number_place d) ∷ rest))
  stored_typed e z J d slot rest same some few room small fits le next =
      let code = term_code e z J d Value in
      let back = keep_code (number_place d) ∷ rest in
      let len : length (code ++ back) ≡ length code + (1 + length rest) = omega (arith, length-append code back) in
      let p1 = slot + length code in
      let p2 = p1 + 1 in
      let end = slot + length (code ++ back) in
      let a = term_typed program shape last solid e z J d d Value slot same some few room (omega arith)
      (omega (arith, small)) fits (omega (arith, len, le)) in
      let b = keep_typed program shape last solid d p1 small (omega (arith, len, le)) in
      let eq : p2 + length rest ≡ end = omega (arith, len) in
      let c = typed_at program shape last solid p2 (p2 + length rest) end rest (C (plain (d + 1)) p2) (plain (d + 1)) eq
      (next p2 (omega (arith, len, le))) in
      let c1 = typed_as program shape last solid p2 rest (C (plain (d + 1)) p2) (C (plain (d + 1)) end)
      (C (plain (d + 1)) p2) (C (plain d) end) (λ table h. h)
      (λ table h. covers_less table (plain (d + 1)) (plain d) end (known_less d Unset Unset Unset) h) c in
      let bc = typed_seq program shape last solid p1 p2 (keep_code (number_place d) ∷ []) rest (C (valued d) p1)
      (C (plain (d + 1)) p2) (C (plain d) end) refl b c1 in
      typed_seq program shape last solid slot p1 code back (C (plain d) slot) (C (valued d) p1)
      (C (plain d) end) refl a bc

  given_typed : (x : Source) (target : Target) (e : Term) (z : Sizes) (J : List ℕ) (d lets slot : ℕ)
      → IsThere x lets shape.memory → z.nodes ≡ shape.nodes → 1 ≤ z.nodes → z.nodes ≤ 64 → z.memory ≡ shape.memory
      → lets ≤ d → d ≤ PLACES → TargetFits target z.memory lets → Fits e z (length J) lets d
      → slot + length (given_code x target (term_code e z J d Value)) ≤ last
      → BlockTyped d slot (given_code x target (term_code e z J d Value))
  given_typed (Constant c) target e z J d lets slot there same some few room below small ours fits le =
      set_typed target (Constant c) d lets slot refl there below small
      (subst (λ (m : ℕ). TargetFits target m lets) room ours) le
  given_typed (FromLocal k) target e z J d lets slot there same some few room below small ours fits le =
      set_typed target (FromLocal k) d lets slot refl there below small
      (subst (λ (m : ℕ). TargetFits target m lets) room ours) le
  given_typed (FromWord k) target e z J d lets slot there same some few room below small ours fits le =
      set_typed target (FromWord k) d lets slot refl there below small
      (subst (λ (m : ℕ). TargetFits target m lets) room ours) le
  given_typed Computed target e z J d lets slot there same some few room below small ours fits le =
      let code = term_code e z J d Value in
      let set = assign_code target ∷ [] in
      let len : length (code ++ set) ≡ length code + 1 = length-append code set in
      let p1 = slot + length code in
      let eq : p1 + 1 ≡ slot + length (code ++ set) = omega (arith, len) in
      let target_fits = subst (λ (m : ℕ). TargetFits target m lets) room ours in
      typed_at program shape last solid slot (p1 + 1) (slot + length (code ++ set)) (code ++ set) (C (plain d) slot)
      (plain d) eq
      (typed_seq program shape last solid slot p1 code set (C (plain d) slot) (C (valued d) p1)
      (C (plain d) (p1 + 1)) refl
      (term_typed program shape last solid e z J d lets Value slot same some few room below small fits
      (omega (arith, len, le)))
      (assign_typed target lets d p1 below small target_fits (omega (arith, len, le))))

  also_typed : (steady : Bool) (x : Source) (e : Term) (target : Target) (first : List Insn) (z : Sizes) (J : List ℕ)
      (d lets slot : ℕ) → IsThere x lets shape.memory → z.nodes ≡ shape.nodes → 1 ≤ z.nodes → z.nodes ≤ 64
      → z.memory ≡ shape.memory → lets ≤ d → d ≤ PLACES → TargetFits target z.memory lets → Fits e z (length J) lets d
      → HasPlace steady d → slot + length (also_code steady d x target (term_code e z J d Value) first) ≤ last
      → ((to : ℕ) → to + length first ≤ last → BlockTyped (depth_behind steady d) to first)
      → BlockTyped d slot (also_code steady d x target (term_code e z J d Value) first)
  also_typed true x e target first z J d lets slot there same some few room below small ours fits free le before =
      let rest = given_code x target (term_code e z J d Value) in
      let len : length (first ++ rest) ≡ length first + length rest = length-append first rest in
      let p1 = slot + length first in
      let end = slot + length (first ++ rest) in
      let eq : p1 + length rest ≡ end = omega (arith, len) in
      let a = before slot (omega (arith, len, le)) in
      let b = typed_at program shape last solid p1 (p1 + length rest) end rest (C (plain d) p1) (plain d) eq
      (given_typed x target e z J d lets p1 there same some few room below small ours fits (omega (arith, len, le))) in
      typed_seq program shape last solid slot p1 first rest (C (plain d) slot) (C (plain d) p1)
      (C (plain d) end) refl a b
  also_typed false x e target first z J d lets slot there same some few room below small ours fits free le before =
      let code = term_code e z J d Value in
      let set = assign_code target ∷ [] in
      let back = fetch_code R0 (number_place d) ∷ set in
      let rest = keep_code (number_place d) ∷ (first ++ back) in
      let len : length (code ++ rest) ≡ length code + (1 + (length first + 2)) = omega
      (arith, length-append code rest, length-append first back) in
      let p1 = slot + length code in
      let p2 = p1 + 1 in
      let p3 = p2 + length first in
      let p4 = p3 + 1 in
      let end = slot + length (code ++ rest) in
      let S = plain (d + 1) in
      let V = valued (d + 1) in
      let target_fits = subst (λ (m : ℕ). TargetFits target m lets) room ours in
      let a = term_typed program shape last solid e z J d lets Value slot same some few room below small fits
      (omega (arith, len, le)) in
      let b = keep_typed program shape last solid d p1 free (omega (arith, len, le)) in
      let c = before p2 (omega (arith, len, le)) in
      let f = fetch_typed program shape last solid d (d + 1) Unset p3 (omega arith) (omega (arith, free)) tt
      (omega (arith, len, le)) in
      let eq : p4 + 1 ≡ end = omega (arith, len) in
      let g = typed_at program shape last solid p4 (p4 + 1) end set (C V p4) S eq
      (assign_typed target lets (d + 1) p4 (omega (arith, below)) (omega (arith, free)) target_fits
      (omega (arith, len, le))) in
      let g1 = typed_as program shape last solid p4 set (C V p4) (C S end) (C V p4) (C (plain d) end) (λ table h. h)
      (λ table h. covers_less table S (plain d) end (known_less d Unset Unset Unset) h) g in
      let fg = typed_seq program shape last solid p3 p4 (fetch_code R0 (number_place d) ∷ []) set (C S p3) (C V p4)
      (C (plain d) end) refl f g1 in
      let cfg = typed_seq program shape last solid p2 p3 first back (C S p2) (C S p3) (C (plain d) end) refl c fg in
      let bcfg = typed_seq program shape last solid p1 p2 (keep_code (number_place d) ∷ []) (first ++ back)
      (C (valued d) p1) (C S p2) (C (plain d) end) refl b cfg in
      typed_seq program shape last solid slot p1 code rest (C (plain d) slot) (C (valued d) p1)
      (C (plain d) end) refl a bcfg

  -- a place that is changed where it is
  changed_typed : (p : Place) (op : Operation) (k c d slot : ℕ) (insn : Insn) → number_place k ≡ p
      → change_place p op c ≡ Some insn → k < d → d ≤ PLACES → slot + 1 ≤ last
      → T slot (insn ∷ []) (C (plain d) slot) (C (plain d) (slot + 1))
  changed_typed (InRegister register) op k c d slot insn same is lt few room =
      let act = i.Alu (alu_op_of op) W32 register (operand.Imm (cast_signed w32 c)) in
      subst (λ (x : Insn). T slot (x ∷ []) (C (plain d) slot) (C (plain d) (slot + 1))) (same_Some act insn is)
      (alter_typed program shape last solid op register k c d slot
      (subst (λ (p : Place). IsPlace p k) same (place_is k (omega (arith, lt, few)))) lt room)
  changed_typed (OnStack off) op k c d slot insn same is lt few room = absurd (none-some insn is)

  change_typed_in : (target : Target) (e : Term) (insn : Insn) (z : Sizes) (J : List ℕ) (d lets slot : ℕ)
      → changing_insn target e z J ≡ Some insn → lets ≤ d → d ≤ PLACES → TargetFits target z.memory lets → slot + 1 ≤ last
      → T slot (insn ∷ []) (C (plain d) slot) (C (plain d) (slot + 1))
  change_typed_in (ToLocal k) (Binary' (Compute op) p a q b) insn z J d lets slot is le few ours room =
      let act = change_place (number_place k) op (constant_number b z J) in
      let test = is_local a k && is_constant b in
      elim (cases_Bool test) [
        | inl so ↦ changed_typed (number_place k) op k (constant_number b z J) d slot insn refl
            (sym (cond-true test act None so) ∙ is) (omega (arith, ours, le)) few room
        | inr other ↦ absurd (none-some insn (sym (cond-false test act None other) ∙ is))
      ]
  change_typed_in (ToWord k) (Binary' o p a q b) insn z J d lets slot is le few ours room = absurd (none-some insn is)
  change_typed_in target e insn z J d lets slot is le few ours room = absurd (none-some insn is)

  one_typed : (found : Option Insn) (target : Target) (e : Term) (z : Sizes) (J : List ℕ) (d lets slot : ℕ)
      → changing_insn target e z J ≡ found → z.nodes ≡ shape.nodes → 1 ≤ z.nodes → z.nodes ≤ 64 → z.memory ≡ shape.memory
      → lets ≤ d → d ≤ PLACES → TargetFits target z.memory lets → Fits e z (length J) lets d
      → slot + length (one_code found (given_code (term_source e z J) target (term_code e z J d Value))) ≤ last
      → BlockTyped d slot (one_code found (given_code (term_source e z J) target (term_code e z J d Value)))
  one_typed None target e z J d lets slot is same some few room below small ours fits le =
      let there = subst (λ (m : ℕ). IsThere (term_source e z J) lets m) room
      (source_there e z J (length J) lets d fits) in
      given_typed (term_source e z J) target e z J d lets slot there same some few room below small ours fits le
  one_typed (Some insn) target e z J d lets slot is same some few room below small ours fits le =
      change_typed_in target e insn z J d lets slot is below small ours le

  assignment_typed : (a : Assignment) (z : Sizes) (J : List ℕ) (d lets slot : ℕ) → z.nodes ≡ shape.nodes → 1 ≤ z.nodes
      → z.nodes ≤ 64 → z.memory ≡ shape.memory → lets ≤ d → d ≤ PLACES → AssignmentFits a z (length J) lets d
      → slot + length (assignment_code a z J d) ≤ last → BlockTyped d slot (assignment_code a z J d)
  assignment_typed (One target e) z J d lets slot same some few room below small fits le =
      one_typed (changing_insn target e z J) target e z J d lets slot refl same some few room below small fits.0 fits.1 le
  assignment_typed (Also' p front target e) z J d lets slot same some few room below small fits le =
      let behind = depth_behind (is_steady e) d in
      let more : d ≤ behind = behind_more (is_steady e) d in
      let there = subst (λ (m : ℕ). IsThere (term_source e z J) lets m) room
      (source_there e z J (length J) lets d fits.1) in
      also_typed (is_steady e) (term_source e z J) e target (assignment_code front z J behind) z J d lets slot
      there same some
      few room below small fits.0 fits.1 fits.2 le
      (λ to l. assignment_typed front z J behind lets to same some few room (omega (arith, below, more))
      (behind_few (is_steady e) d small fits.2) fits.3 l)

  send_all_typed : (x : Source) (e : Term) (z : Sizes) (J : List ℕ) (d slot : ℕ) → IsThere x d shape.memory
      → z.nodes ≡ shape.nodes → 1 ≤ z.nodes → z.nodes ≤ 64 → z.memory ≡ shape.memory → d ≤ PLACES
      → (is_found x ≡ false → d < PLACES) → Fits e z (length J) d d
      → slot + length (send_all_code x d z.nodes (term_code e z J d Value)) ≤ last
      → BlockTyped d slot (send_all_code x d z.nodes (term_code e z J d Value))
  send_all_typed (Constant c) e z J d slot there same some few room small free fits le =
      sends_typed (Constant c) d d slot z.nodes refl there (omega arith) small (omega (arith, same))
      (omega (arith, same, few)) le
  send_all_typed (FromLocal k) e z J d slot there same some few room small free fits le =
      sends_typed (FromLocal k) d d slot z.nodes refl there (omega arith) small (omega (arith, same))
      (omega (arith, same, few)) le
  send_all_typed (FromWord k) e z J d slot there same some few room small free fits le =
      sends_typed (FromWord k) d d slot z.nodes refl there (omega arith) small (omega (arith, same))
      (omega (arith, same, few)) le
  send_all_typed Computed e z J d slot there same some few room small free fits le =
      let deep : d < PLACES = free refl in
      stored_typed e z J d slot (send_codes (FromLocal d) z.nodes) same some few room deep fits le
      (λ to l. sends_typed (FromLocal d) (d + 1) (d + 1) to z.nodes refl (omega arith) (omega arith)
      (omega (arith, deep))
      (omega (arith, same)) (omega (arith, same, few)) l)

  -- ---- a new local

  -- a found number into place d, and what follows at depth d + 1
  found_placed_typed : (x : Source) (d slot : ℕ) (rest : List Insn) → is_found x ≡ true → IsThere x d shape.memory
      → d < PLACES → slot + length (place_code (number_place d) x ++ rest) ≤ last
      → ((to : ℕ) → to + length rest ≤ last → BlockTyped (d + 1) to rest)
      → BlockTyped d slot (place_code (number_place d) x ++ rest)
  found_placed_typed x d slot rest found there small le next =
      let front = place_code (number_place d) x in
      let len : length (front ++ rest) ≡ length front + length rest = length-append front rest in
      let p1 = slot + length front in
      let end = slot + length (front ++ rest) in
      let a = into_new x d slot found there small (omega (arith, len, le)) in
      let eq : p1 + length rest ≡ end = omega (arith, len) in
      let c = typed_at program shape last solid p1 (p1 + length rest) end rest (C (plain (d + 1)) p1) (plain (d + 1)) eq
      (next p1 (omega (arith, len, le))) in
      let c1 = typed_as program shape last solid p1 rest (C (plain (d + 1)) p1) (C (plain (d + 1)) end)
      (C (plain (d + 1)) p1) (C (plain d) end) (λ table h. h)
      (λ table h. covers_less table (plain (d + 1)) (plain d) end (known_less d Unset Unset Unset) h) c in
      typed_seq program shape last solid slot p1 front rest (C (plain d) slot)
      (C (plain (d + 1)) p1) (C (plain d) end) refl a c1

  placed_typed : (x : Source) (e : Term) (z : Sizes) (J : List ℕ) (d slot : ℕ) (rest : List Insn)
      → IsThere x d shape.memory → z.nodes ≡ shape.nodes → 1 ≤ z.nodes → z.nodes ≤ 64 → z.memory ≡ shape.memory
      → d < PLACES → Fits e z (length J) d d → slot + length (stored_code x d (term_code e z J d Value) rest) ≤ last
      → ((to : ℕ) → to + length rest ≤ last → BlockTyped (d + 1) to rest)
      → BlockTyped d slot (stored_code x d (term_code e z J d Value) rest)
  placed_typed (Constant c) e z J d slot rest there same some few room small fits le next =
      found_placed_typed (Constant c) d slot rest refl there small le next
  placed_typed (FromLocal k) e z J d slot rest there same some few room small fits le next =
      found_placed_typed (FromLocal k) d slot rest refl there small le next
  placed_typed (FromWord k) e z J d slot rest there same some few room small fits le next =
      found_placed_typed (FromWord k) d slot rest refl there small le next
  placed_typed Computed e z J d slot rest there same some few room small fits le next =
      stored_typed e z J d slot rest same some few room small fits le next

  -- ---- a number to a node

  passed_typed : (x : Source) (e : Term) (z : Sizes) (J : List ℕ) (d slot j : ℕ) → IsThere x d shape.memory
      → z.nodes ≡ shape.nodes → 1 ≤ z.nodes → z.nodes ≤ 64 → z.memory ≡ shape.memory → d ≤ PLACES → j < z.nodes
      → Fits e z (length J) d d → slot + length (passed_code x j (term_code e z J d Value)) ≤ last
      → BlockTyped d slot (passed_code x j (term_code e z J d Value))
  passed_typed (Constant c) e z J d slot j there same some few room small lt fits le =
      typed_at program shape last solid slot (slot + 1 + 1 + 1) (slot + 3) (send_code (Constant c) j) (C (plain d) slot)
      (plain d) (omega arith) (found_sent_typed (Constant c) d d slot j refl there (omega arith) small
      (omega (arith, lt, same)) (omega (arith, same, few)) le)
  passed_typed (FromLocal k) e z J d slot j there same some few room small lt fits le =
      typed_at program shape last solid slot (slot + 1 + 1 + 1) (slot + 3) (send_code (FromLocal k) j) (C (plain d) slot)
      (plain d) (omega arith) (found_sent_typed (FromLocal k) d d slot j refl there (omega arith) small
      (omega (arith, lt, same)) (omega (arith, same, few)) le)
  passed_typed (FromWord k) e z J d slot j there same some few room small lt fits le =
      typed_at program shape last solid slot (slot + 1 + 1 + 1) (slot + 3) (send_code (FromWord k) j) (C (plain d) slot)
      (plain d) (omega arith) (found_sent_typed (FromWord k) d d slot j refl there (omega arith) small
      (omega (arith, lt, same)) (omega (arith, same, few)) le)
  passed_typed Computed e z J d slot j there same some few room small lt fits le =
      let code = term_code e z J d Value in
      let back = send_code Computed j in
      let len : length (code ++ back) ≡ length code + 3 = length-append code back in
      let p1 = slot + length code in
      let eq : p1 + 1 + 1 + 1 ≡ slot + length (code ++ back) = omega (arith, len) in
      typed_at program shape last solid slot (p1 + 1 + 1 + 1) (slot + length (code ++ back)) (code ++ back)
      (C (plain d) slot) (plain d) eq
      (typed_seq program shape last solid slot p1 code back (C (plain d) slot) (C (valued d) p1)
      (C (plain d) (p1 + 1 + 1 + 1)) refl
      (term_typed program shape last solid e z J d d Value slot same some few room (omega arith) small fits
      (omega (arith, len, le)))
      (value_sent_typed d p1 j (omega (arith, lt, same)) (omega (arith, same, few)) (omega (arith, len, le))))

  constant_typed : (found : Bool) (e : Term) (z : Sizes) (J : List ℕ) (d slot j : ℕ) → nat_lt j z.nodes ≡ found
      → z.nodes ≡ shape.nodes → 1 ≤ z.nodes → z.nodes ≤ 64 → z.memory ≡ shape.memory → d ≤ PLACES
      → Fits e z (length J) d d
      → slot + length (if found then passed_code (term_source e z J) j (term_code e z J d Value) else idle_code) ≤ last
      → BlockTyped d slot (if found then passed_code (term_source e z J) j (term_code e z J d Value) else idle_code)
  constant_typed true e z J d slot j is same some few room small fits le =
      let memory = λ (x : Source) (there : IsThere x d z.memory). subst (λ (m : ℕ). IsThere x d m) room there in
      passed_typed (term_source e z J) e z J d slot j (memory (term_source e z J) (source_there e z J (length J) d d fits))
      same some few room small (ltb-true j z.nodes is) fits le
  constant_typed false e z J d slot j is same some few room small fits le =
      one_on program shape last solid slot (set_number R0 0) (plain d) _ (plain d) refl refl refl
      (into _ d Unset Unset Unset tt tt tt refl) (proper_known d Unset Unset Unset tt tt tt) (keeps_own _ _ _ refl) le

  found_to_typed : (x : Source) (k : Term) (z : Sizes) (J : List ℕ) (d slot : ℕ) → is_found x ≡ true
      → IsThere x d shape.memory → z.nodes ≡ shape.nodes → 1 ≤ z.nodes → z.nodes ≤ 64 → z.memory ≡ shape.memory
      → d ≤ PLACES → Fits k z (length J) d d
      → slot + length (term_code k z J d Value ++ receiver_code x z.nodes) ≤ last
      → BlockTyped d slot (term_code k z J d Value ++ receiver_code x z.nodes)
  found_to_typed x k z J d slot found there same some few room small k_fits le =
      let code = term_code k z J d Value in
      let back = receiver_code x z.nodes in
      let len : length (code ++ back) ≡ length code + 4 = length-append code back in
      let p1 = slot + length code in
      let eq : p1 + 4 ≡ slot + length (code ++ back) = omega (arith, len) in
      typed_at program shape last solid slot (p1 + 4) (slot + length (code ++ back)) (code ++ back) (C (plain d) slot)
      (plain d) eq
      (typed_seq program shape last solid slot p1 code back (C (plain d) slot) (C (valued d) p1) (C (plain d) (p1 + 4))
      refl
      (term_typed program shape last solid k z J d d Value slot same some few room (omega arith) small k_fits
      (omega (arith, len, le)))
      (receiver_typed x d d z.nodes p1 found there (omega arith) small same some few (omega (arith, len, le))))

  sent_to_typed : (x : Source) (e k : Term) (z : Sizes) (J : List ℕ) (d slot : ℕ) → IsThere x d shape.memory
      → z.nodes ≡ shape.nodes → 1 ≤ z.nodes → z.nodes ≤ 64 → z.memory ≡ shape.memory → d ≤ PLACES
      → (is_found x ≡ false → d < PLACES) → Fits e z (length J) d d → Fits k z (length J) d (depth_behind (is_found x) d)
      → slot + length (send_to_code x d z.nodes (term_code e z J d Value)
      (term_code k z J (depth_behind (is_found x) d) Value)) ≤ last
      → BlockTyped d slot (send_to_code x d z.nodes (term_code e z J d Value)
      (term_code k z J (depth_behind (is_found x) d) Value))
  sent_to_typed (Constant c) e k z J d slot there same some few room small free fits k_fits le =
      found_to_typed (Constant c) k z J d slot refl there same some few room small k_fits le
  sent_to_typed (FromLocal j) e k z J d slot there same some few room small free fits k_fits le =
      found_to_typed (FromLocal j) k z J d slot refl there same some few room small k_fits le
  sent_to_typed (FromWord j) e k z J d slot there same some few room small free fits k_fits le =
      found_to_typed (FromWord j) k z J d slot refl there same some few room small k_fits le
  sent_to_typed Computed e k z J d slot there same some few room small free fits k_fits le =
      let place = free refl in
      let code = term_code k z J (d + 1) Value in
      let back = receiver_code (FromLocal d) z.nodes in
      let len : length (code ++ back) ≡ length code + 4 = length-append code back in
      stored_typed e z J d slot (code ++ back) same some few room place fits le
      (λ to l.
      let p1 = to + length code in
      let eq : p1 + 4 ≡ to + length (code ++ back) = omega (arith, len) in
      typed_at program shape last solid to (p1 + 4) (to + length (code ++ back)) (code ++ back) (C (plain (d + 1)) to)
      (plain (d + 1)) eq
      (typed_seq program shape last solid to p1 code back (C (plain (d + 1)) to) (C (valued (d + 1)) p1)
      (C (plain (d + 1)) (p1 + 4)) refl
      (term_typed program shape last solid k z J (d + 1) d Value to same some few room (omega arith)
      (omega (arith, place))
      k_fits (omega (arith, len, l)))
      (receiver_typed (FromLocal d) (d + 1) (d + 1) z.nodes p1 refl (omega arith) (omega arith) (omega (arith, place))
      same some few (omega (arith, len, l)))))

  to_typed : (constant : Bool) (e k : Term) (z : Sizes) (J : List ℕ) (d slot : ℕ) → is_constant k ≡ constant
      → z.nodes ≡ shape.nodes → 1 ≤ z.nodes → z.nodes ≤ 64 → z.memory ≡ shape.memory → d ≤ PLACES
      → HasPlace (constant || is_operand e) d → Fits e z (length J) d d
      → Fits k z (length J) d (depth_behind (constant || is_operand e) d)
      → slot + length (if constant then send_to_constant_code (term_source e z J) (constant_number k z J)
      z.nodes (term_code e z J d Value) else send_to_code (term_source e z J) d z.nodes (term_code e z J d Value)
      (term_code k z J (depth_behind (is_operand e) d) Value)) ≤ last
      → BlockTyped d slot (if constant then send_to_constant_code (term_source e z J) (constant_number k z J)
      z.nodes (term_code e z J d Value) else send_to_code (term_source e z J) d z.nodes (term_code e z J d Value)
      (term_code k z J (depth_behind (is_operand e) d) Value))
  to_typed true e k z J d slot is same some few room small free fits k_fits le =
      let j = constant_number k z J in
      constant_typed (nat_lt j z.nodes) e z J d slot j refl same some few room small fits le
  to_typed false e k z J d slot is same some few room small free fits k_fits le =
      let x = term_source e z J in
      let there = subst (λ (m : ℕ). IsThere x d m) room (source_there e z J (length J) d d fits) in
      let code = λ (simple : Bool). send_to_code x d z.nodes (term_code e z J d Value)
      (term_code k z J (depth_behind simple d) Value) in
      let P : Bool → Type 0 = λ simple. Fits k z (length J) d (depth_behind simple d)
      → slot + length (code simple) ≤ last → BlockTyped d slot (code simple) in
      subst P (found_same e z J)
      (λ f l. sent_to_typed x e k z J d slot there same some few room small
      (λ q. computed_place (is_operand e) d (sym (found_same e z J) ∙ q) free) fits f l) k_fits le

  -- a tally that stays in the next place, and what follows
  tally_let_typed : (tally : Tally) (d slot : ℕ) (tests back : List Insn) → d < PLACES
      → slot + length (tallied_code tally d tests ++ back) ≤ last
      → ((to : ℕ) → OverTyped program shape last solid d to tests)
      → ((to : ℕ) → to + length back ≤ last → BlockTyped (d + 1) to back)
      → BlockTyped d slot (tallied_code tally d tests ++ back)
  tally_let_typed tally d slot tests back small le each next =
      let front = tallied_code tally d tests in
      let len : length (front ++ back) ≡ length front + length back = length-append front back in
      let p1 = slot + length front in
      let end = slot + length (front ++ back) in
      let e : p1 + length back ≡ end = omega (arith, len) in
      let c = tallied_typed program shape last solid tally d slot tests small (omega (arith, len, le)) each in
      let r = typed_at program shape last solid p1 (p1 + length back) end back (C (plain (d + 1)) p1)
      (plain (d + 1)) e (next p1 (omega (arith, len, le))) in
      let r1 = typed_as program shape last solid p1 back (C (plain (d + 1)) p1) (C (plain (d + 1)) end)
      (C (plain (d + 1)) p1) (C (plain d) end) (λ table h. h)
      (λ table h. covers_less table (plain (d + 1)) (plain d) end (known_less d Unset Unset Unset) h) r in
      typed_seq program shape last solid slot p1 front back (C (plain d) slot) (C (plain (d + 1)) p1) (C (plain d) end)
      refl c r1

  pub block_typed : (b : Statement) (z : Sizes) (J : List ℕ) (d slot : ℕ) → z.nodes ≡ shape.nodes → 1 ≤ z.nodes
      → z.nodes ≤ 64 → z.memory ≡ shape.memory → d ≤ PLACES → BlockFits b z (length J) d
      → slot + length (block_code b z J d) ≤ last → BlockTyped d slot (block_code b z J d)
  block_typed Nothing z J d slot same some few room small fits le =
      let e : slot ≡ slot + 0 = omega arith in
      typed_at program shape last solid slot slot (slot + 0) [] (C (plain d) slot) (plain d) e
      (typed_none program shape last solid slot (C (plain d) slot))
  block_typed (Then' p a q b) z J d slot same some few room small fits le =
      let front = block_code a z J d in
      let back = block_code b z J d in
      let len : length (front ++ back) ≡ length front + length back = length-append front back in
      let p1 = slot + length front in
      let e : p1 + length back ≡ slot + length (front ++ back) = omega (arith, len) in
      typed_at program shape last solid slot (p1 + length back) (slot + length (front ++ back)) (front ++ back)
      (C (plain d) slot) (plain d) e
      (typed_seq program shape last solid slot p1 front back (C (plain d) slot) (C (plain d) p1)
      (C (plain d) (p1 + length back)) refl
      (block_typed a z J d slot same some few room small fits.0 (omega (arith, len, le)))
      (block_typed b z J d p1 same some few room small fits.1 (omega (arith, len, le))))
  block_typed (Let' (Count' q t) p rest) z J d slot same some few room small fits le =
      tally_let_typed HowMany d slot (over_code HowMany t z J d) (block_code rest z J (d + 1)) fits.0 le
      (λ to. over_typed program shape last solid HowMany t z J d d to same some few room (omega arith)
      (count_fits t q z (length J) d d fits.1))
      (λ to l. block_typed rest z J (d + 1) to same some few room (omega (arith, fits.0)) fits.2 l)
  block_typed (Let' (Least' q t) p rest) z J d slot same some few room small fits le =
      tally_let_typed LeastMessage d slot (over_code LeastMessage t z J d) (block_code rest z J (d + 1)) fits.0 le
      (λ to. over_typed program shape last solid LeastMessage t z J d d to same some few room (omega arith)
      (least_fits t q z (length J) d d fits.1))
      (λ to l. block_typed rest z J (d + 1) to same some few room (omega (arith, fits.0)) fits.2 l)
  block_typed (Let' e p rest) z J d slot same some few room small fits le =
      let memory = λ (x : Source) (there : IsThere x d z.memory). subst (λ (m : ℕ). IsThere x d m) room there in
      placed_typed (term_source e z J) e z J d slot (block_code rest z J (d + 1))
      (memory (term_source e z J) (source_there e z J (length J) d d fits.1)) same some few room fits.0 fits.1 le
      (λ to l. block_typed rest z J (d + 1) to same some few room (omega (arith, fits.0)) fits.2 l)
  block_typed (Assign a) z J d slot same some few room small fits le =
      assignment_typed a z J d d slot same some few room (omega arith) small fits le
  block_typed (If' t p a q b) z J d slot same some few room small fits le =
      if_typed program shape last solid (is_nothing b) d slot (λ far. term_code t z J d (Jump false far))
      (block_code a z J d) (block_code b z J d) le
      (λ far l. term_typed program shape last solid t z J d d (Jump false far) slot same some few room
      (omega arith) small fits.0 l)
      (λ to l. block_typed a z J d to same some few room small fits.1 l)
      (λ to l. block_typed b z J d to same some few room small fits.2 l)
  block_typed (For' p body) z J d slot same some few room small fits le =
      each_typed d slot z.nodes (λ j. block_code body z (J ++ j ∷ []) d) le
      (λ j to l.
      let more : length J + 1 ≡ length (J ++ j ∷ []) = omega (arith, length-append J (j ∷ [])) in
      block_typed body z (J ++ j ∷ []) d to same some few room small
      (subst (λ (n : ℕ). BlockFits body z n d) more fits) l)
  block_typed (SendAll e) z J d slot same some few room small fits le =
      let memory = λ (x : Source) (there : IsThere x d z.memory). subst (λ (m : ℕ). IsThere x d m) room there in
      send_all_typed (term_source e z J) e z J d slot
      (memory (term_source e z J) (source_there e z J (length J) d d fits.1)) same some few room small
      (λ q. computed_place (is_operand e) d (sym (found_same e z J) ∙ q) fits.0) fits.1 le
  block_typed (SendTo e k) z J d slot same some few room small fits le =
      to_typed (is_constant k) e k z J d slot refl same some few room small fits.0 fits.1 fits.2 le

  -- ---- the whole

  abbrev pub at_entry : AbstractState
  at_entry = state Unset memory_place Unset Unset Unset Unset Unset stack_base (written_at 0)

  proper_entry : IsProper at_entry
  proper_entry = proper Unset memory_place Unset Unset Unset Unset Unset stack_base (written_at 0) tt
      (record { ordered = omega arith }) tt tt tt tt tt (record { ordered = omega arith })

  head_typed : (slot : ℕ) → slot + 1 ≤ last
      → T slot (i.Alu Mov W64 R6 (operand.Reg R1) ∷ []) (C at_entry slot) (C (plain 0) (slot + 1))
  head_typed slot le = one_on program shape last solid slot (i.Alu Mov W64 R6 (operand.Reg R1)) at_entry _ (plain 0)
      refl refl refl (into _ 0 Unset Unset Unset tt tt tt refl) proper_entry (keeps_own _ _ _ refl) le

  zero_typed : (slot : ℕ) → slot + 1 ≤ last
      → T slot (i.Alu Mov W64 R0 (operand.Imm (pos 0)) ∷ []) (C (plain 0) slot) (C (valued 0) (slot + 1))
  zero_typed slot le = one_on program shape last solid slot (i.Alu Mov W64 R0 (operand.Imm (pos 0)))
      (plain 0) _ (valued 0) refl refl refl
      (into _ 0 word Unset Unset (just 0, refl, record { low = omega arith; high = omega arith }) tt tt refl)
      (proper_known 0 Unset Unset Unset tt tt tt) (keeps_own _ _ _ refl) le

  exit_typed : (slot : ℕ) → T slot (i.Exit ∷ []) (C (valued 0) slot) (λ table. Unit {0})
  exit_typed slot = record {
    states = valued 0 ∷ [];
    long = refl;
    works = λ table marks asks.
        let sound = sound_end program shape table slot i.Exit (valued 0) refl refl
        (proper_known 0 word Unset Unset some_word tt tt) (keeps_own _ _ _ refl) in (
          covered table (valued 0) (valued 0) slot marks.0 (contained_in_itself (valued 0)),
          ((valued 0, marks.0, sound), tt),
        );
  }

  pub whole_typed : (rule : Statement) (z : Sizes) → z.nodes ≡ shape.nodes → 1 ≤ z.nodes → z.nodes ≤ 64
      → z.memory ≡ shape.memory → BlockFits rule z 0 0 → length (block_code rule z [] 0) + 2 ≤ last
      → T 0 (rule_code rule z) (C at_entry 0) (λ table. Unit {0})
  whole_typed rule z same some few room fits le =
      let code = block_code rule z [] 0 in
      let p2 = 1 + length code in
      let a = head_typed 0 (omega (arith, le)) in
      let b = block_typed rule z [] 0 1 same some few room (omega arith) fits (omega (arith, le)) in
      let c = zero_typed p2 (omega (arith, le)) in
      let ce = typed_seq program shape last solid p2 (p2 + 1)
      (i.Alu Mov W64 R0 (operand.Imm (pos 0)) ∷ []) (i.Exit ∷ []) (C (plain 0) p2) (C (valued 0) (p2 + 1))
      (λ table. Unit {0}) refl c (exit_typed (p2 + 1)) in
      let bce = typed_seq program shape last solid 1 p2 code tail_code (C (plain 0) 1) (C (plain 0) p2)
      (λ table. Unit {0}) refl b ce in
      typed_seq program shape last solid 0 1 (i.Alu Mov W64 R6 (operand.Reg R1) ∷ []) (code ++ tail_code) (C at_entry 0)
      (C (plain 0) 1) (λ table. Unit {0}) refl a bce

  pub sounds_of : (table : Table) (k : ℕ) (is : List Insn) → AllSound program shape last solid table k is
      → Sounds program shape table 0 k is
  sounds_of table k [] h = tt
  sounds_of table k (insn ∷ is) h =
      let e : k ≡ 0 + k = omega arith in
      let f : k + 1 ≡ suc k = omega arith in (
        subst (λ (s : ℕ). (A : AbstractState) × (table s ≡ Some A) × Sound program shape table s insn A) e h.0,
        sounds_of table (suc k) is (subst (λ (s : ℕ). AllSound program shape last solid table s is) f h.1),
      )

-- no byte of the stack
none_written : (byte : ℕ) → written_at 0 byte ≡ true → false ≡ true
none_written byte h =
    let parts = and_parts (nat_lt 523 (byte + 4 * 0)) (nat_lt byte 512) h in
    absurd (omega (arith, ltb-true 523 (byte + 4 * 0) parts.0, ltb-true byte 512 parts.1))

pub rule_typable : (rule : Statement) (z : Sizes) (shape : Extent) → AreSizes z shape
    → IsExtent shape.nodes shape.memory → BlockFits rule z 0 0 → Typable (rule_code rule z) shape
rule_typable rule z shape sizes extent fits =
    let p = rule_code rule z in
    let ones = ones_rule rule z in
    let long = rule_length rule z in
    let last = length (block_code rule z [] 0) + 2 in
    let solid : (k : ℕ) → k ≤ last → BeginsAt p k = λ k le. all_begin p ones k (omega (arith, long)) in
    let t = whole_typed p shape last solid rule z sizes.nodes (omega (arith, sizes.nodes, extent.some))
    (omega (arith, sizes.nodes, extent.few)) sizes.memory fits (omega arith) in
    let table : Table = λ at. slice_get t.states at in
    let w = t.works table (marks_whole t.states) tt in
    let first = seen table (at_entry p shape last solid) 0 w.0 in
    let start : IsContainedIn (entry_state shape) (at_entry p shape last solid) =
    within (entry_state shape) Unset memory_place Unset Unset Unset Unset Unset stack_base (written_at 0) tt
    (kind_in_itself memory_place) tt tt tt tt tt (kind_in_itself stack_base) none_written in
    typed p shape t.states first.there ones first.stands
    (contained_further (entry_state shape) (at_entry p shape last solid) first.there start first.inside)
    (sounds_of p shape last solid table 0 p w.1)
