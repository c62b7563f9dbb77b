-- What statements and rules make hold on a path.
use Rattle.std.proofs.Common.{◌≡◌, ◌≢◌, ℕ, zero, suc, ◌+◌, ◌*◌, ◌/◌, ◌%◌, ◌^◌, ◌<◌, ◌≤◌, ◌||◌, Bool, true, false, if◌then◌else◌, Option, Some, None, List, [], ◌∷◌, length, All, slice_set, slice_index, refl, sym, ap, ◌∙◌, arith, inl, inr, subst}
use Rattle.std.specs.Prelude.{◌⊎◌}
use Rattle.std.specs.FinMap.{get, get-empty}
use Rattle.std.specs.Ordering.{nat_cmp}
use Rattle.std.proofs.lemmas.Bool.{cases_eq, eq-eqb, ne_eqb, and_parts}
use Rattle.std.proofs.lemmas.List.{get_or-set_same, get_or-set_other, length-set}
use Rattle.node_env.specs.Env.{Setting}
use Rattle.clock_nodes.specs.Ends.{IsSentTo}
use Rattle.clock_nodes.proofs.Forms.{put_same, put_other}
use Rattle.rule_syntax.specs.declared.syntax.Sizes.{Sizes}
use Rattle.rule_syntax.specs.declared.syntax.Target.{Target}
use Rattle.rule_syntax.specs.declared.syntax.Target.TheVariants.{ToLocal, ToWord}
use Rattle.rule_syntax.specs.declared.syntax.Assignment.{Assignment}
use Rattle.rule_syntax.specs.declared.syntax.Assignment.TheVariants.{One, Also'}
use Rattle.rule_syntax.specs.declared.syntax.Term.{Term}
use Rattle.rule_syntax.specs.declared.syntax.Term.TheVariants.{Number, Nodes, Faults, Modulus, Me, Coin, LoopNode, Local, Word, Message', Binary', Logical', Not', Choice', Count', Least', Sorted'}
use Rattle.rule_syntax.specs.declared.syntax.Statement.{Statement}
use Rattle.rule_syntax.specs.declared.syntax.Statement.TheVariants.{Nothing, Then', Let', Assign, If', For', SendAll, SendTo}
use Rattle.rule_meaning.specs.Meaning.{NodeState, truth, word_at, message_from, with_memory_word, value, with_local, assigned, all_assigned, sent_below, after, initial_state, pulse}
use Rattle.rule_nodes.proofs.Words.{word_length, word_bytes}
use Rattle.rule_paths.specs.Relations.{Expression, Numbers, Relation, AllOf, AnyOf, AgreeBelow, IsSettled, Settles, CanHold}
use Rattle.rule_paths.specs.Covered.{TermIsCovered, TargetIsCovered, AssignmentIsCovered, RuleIsCovered, always_sends}
use Rattle.rule_paths.specs.Stores.{Store, Count, CanSee, IsNode, StoreSays, IsCounted, AllCounted, IsSent}
use Rattle.rule_paths.specs.Paths.{What, Around, answer_of, HasAnswer, numbered, holds_of, fails_of, found_term, Place, IsAtPlace, store_local, store_with, Assigned, all_stored, place_past, with_let_count, passed, rule_place}
use Rattle.rule_paths.proofs.Fresh.{agree_self, agree_then, settled_more, is_settled_more, state_more, counted_more, IsWhat}
use Rattle.rule_paths.proofs.Terms.{either_way, holds_if, fails_if, term_found, term_value}

-- ---- words

-- a byte in no place of the word
byte_other : (i x p : ℕ) (m : List ℕ) → p ≢ 4 * i → p ≢ 4 * i + 1 → p ≢ 4 * i + 2 → p ≢ 4 * i + 3
    → slice_index (with_memory_word i x m) p ≡ slice_index m p
byte_other i x p m n0 n1 n2 n3 =
    let m0 = slice_set m (4 * i) (x % 256) in
    let m1 = slice_set m0 (4 * i + 1) (x / 256 % 256) in
    let m2 = slice_set m1 (4 * i + 2) (x / 65536 % 256) in
    get_or-set_other m2 (4 * i + 3) p (x / 16777216 % 256) 0 n3 ∙ get_or-set_other m1 (4 * i + 2) p (x / 65536 % 256) 0 n2
    ∙ get_or-set_other m0 (4 * i + 1) p (x / 256 % 256) 0 n1 ∙ get_or-set_other m (4 * i) p (x % 256) 0 n0

word_other : (i x j : ℕ) (m : List ℕ) → j ≢ i → word_at j (with_memory_word i x m) ≡ word_at j m
word_other i x j m ne =
    let b0 = byte_other i x (4 * j) m (λ e. ne (omega (arith, e))) (λ e. omega (arith, e)) (λ e. omega (arith, e)) (λ e. omega (arith, e)) in
    let b1 = byte_other i x (4 * j + 1) m (λ e. omega (arith, e)) (λ e. ne (omega (arith, e))) (λ e. omega (arith, e)) (λ e. omega (arith, e)) in
    let b2 = byte_other i x (4 * j + 2) m (λ e. omega (arith, e)) (λ e. omega (arith, e)) (λ e. ne (omega (arith, e))) (λ e. omega (arith, e)) in
    let b3 = byte_other i x (4 * j + 3) m (λ e. omega (arith, e)) (λ e. omega (arith, e)) (λ e. omega (arith, e)) (λ e. ne (omega (arith, e))) in
    omega (arith, b0, b1, b2, b3)

word_same : (i x : ℕ) (m : List ℕ) → 4 * i + 4 ≤ length m → x < 2 ^ 32 → word_at i (with_memory_word i x m) ≡ x
word_same i x m le small =
    let m0 = slice_set m (4 * i) (x % 256) in
    let m1 = slice_set m0 (4 * i + 1) (x / 256 % 256) in
    let m2 = slice_set m1 (4 * i + 2) (x / 65536 % 256) in
    let m3 = slice_set m2 (4 * i + 3) (x / 16777216 % 256) in
    let l0 = length-set m (4 * i) (x % 256) in
    let l1 = length-set m0 (4 * i + 1) (x / 256 % 256) in
    let l2 = length-set m1 (4 * i + 2) (x / 65536 % 256) in
    let b0 : slice_index m3 (4 * i) ≡ x % 256 =
    get_or-set_other m2 (4 * i + 3) (4 * i) (x / 16777216 % 256) 0 (λ e. omega (arith, e))
    ∙ get_or-set_other m1 (4 * i + 2) (4 * i) (x / 65536 % 256) 0 (λ e. omega (arith, e))
    ∙ get_or-set_other m0 (4 * i + 1) (4 * i) (x / 256 % 256) 0 (λ e. omega (arith, e))
    ∙ get_or-set_same m (4 * i) (x % 256) 0 (omega (arith, le)) in
    let b1 : slice_index m3 (4 * i + 1) ≡ x / 256 % 256 =
    get_or-set_other m2 (4 * i + 3) (4 * i + 1) (x / 16777216 % 256) 0 (λ e. omega (arith, e))
    ∙ get_or-set_other m1 (4 * i + 2) (4 * i + 1) (x / 65536 % 256) 0 (λ e. omega (arith, e))
    ∙ get_or-set_same m0 (4 * i + 1) (x / 256 % 256) 0 (omega (arith, le, l0)) in
    let b2 : slice_index m3 (4 * i + 2) ≡ x / 65536 % 256 =
    get_or-set_other m2 (4 * i + 3) (4 * i + 2) (x / 16777216 % 256) 0 (λ e. omega (arith, e))
    ∙ get_or-set_same m1 (4 * i + 2) (x / 65536 % 256) 0 (omega (arith, le, l0, l1)) in
    let b3 : slice_index m3 (4 * i + 3) ≡ x / 16777216 % 256 =
    get_or-set_same m2 (4 * i + 3) (x / 16777216 % 256) 0 (omega (arith, le, l0, l1, l2)) in
    omega (arith, b0, b1, b2, b3, small)

-- ---- what is sent

-- one number was sent to all nodes, or none to any
pub record IsUniform (n : ℕ) (u : NodeState) : Type 0 where
  pub sent : Option ℕ
  pub each : (j : ℕ) → j < n → get u.sent j ≡ sent
  pub no_other : (j : ℕ) → n ≤ j → get u.sent j ≡ None

uniform_same : (n : ℕ) (u t : NodeState) → t.sent ≡ u.sent → IsUniform n u → IsUniform n t
uniform_same n u t e h = record {
  sent = h.sent;
  each = λ j lt. ap (λ m. get m j) e ∙ h.each j lt;
  no_other = λ j le. ap (λ m. get m j) e ∙ h.no_other j le;
}

pub sending_keeps : (n x : ℕ) (u : NodeState) → ((sent_below n x u).locals ≡ u.locals) × ((sent_below n x u).memory ≡ u.memory)
sending_keeps zero x u = (refl, refl)
sending_keeps (suc n) x u = sending_keeps n x u

pub sent_to_each : (n x : ℕ) (u : NodeState) (j : ℕ) → j < n → get (sent_below n x u).sent j ≡ Some x
sent_to_each zero x u j lt = absurd (omega (arith, lt))
sent_to_each (suc n) x u j lt = elim (cases_eq j n) [
  | inl same ↦ ap (get (sent_below (suc n) x u).sent) same ∙ put_same (sent_below n x u).sent n x
  | inr other ↦ put_other (sent_below n x u).sent n x j other ∙ sent_to_each n x u j (omega (arith, lt, other))
]

pub sent_to_no_other : (n x : ℕ) (u : NodeState) (j : ℕ) → n ≤ j → get (sent_below n x u).sent j ≡ get u.sent j
sent_to_no_other zero x u j le = refl
sent_to_no_other (suc n) x u j le =
    put_other (sent_below n x u).sent n x j (λ e. omega (arith, e, le)) ∙ sent_to_no_other n x u j (omega (arith, le))

assigned_sent : (target : Target) (x : ℕ) (u : NodeState) → (assigned target x u).sent ≡ u.sent
assigned_sent (ToLocal i) x u = refl
assigned_sent (ToWord i) x u = refl

all_assigned_sent : (a : Assignment) (z : Sizes) (env : Setting) (J : List ℕ) (u : NodeState)
    → (all_assigned a z env J u).sent ≡ u.sent
all_assigned_sent (One target e) z env J u = assigned_sent target (value e z env J u) u
all_assigned_sent (Also' p front target e) z env J u =
    assigned_sent target (value e z env J u) (all_assigned front z env J u) ∙ all_assigned_sent front z env J u

pub stays_uniform : (p : Statement) (W : ℕ) (z : Sizes) (env : Setting) (d : ℕ) (u : NodeState) → RuleIsCovered W p
    → IsUniform z.nodes u → IsUniform z.nodes (after p z env d [] u)
stays_uniform Nothing W z env d u covered h = h
stays_uniform (Then' p a q b) W z env d u covered h =
    stays_uniform b W z env d (after a z env d [] u) covered.1 (stays_uniform a W z env d u covered.0 h)
stays_uniform (Let' e p rest) W z env d u covered h =
    stays_uniform rest W z env (d + 1) (with_local d (value e z env [] u) u) covered.1
    (uniform_same z.nodes u (with_local d (value e z env [] u) u) refl h)
stays_uniform (Assign a) W z env d u covered h =
    uniform_same z.nodes u (all_assigned a z env [] u) (all_assigned_sent a z env [] u) h
stays_uniform (If' t p a q b) W z env d u covered h =
    by (truth (value t z env [] u)) (stays_uniform a W z env d u covered.1 h) (stays_uniform b W z env d u covered.2 h)
  where
    by : (c : Bool) → IsUniform z.nodes (after a z env d [] u) → IsUniform z.nodes (after b z env d [] u)
        → IsUniform z.nodes (if c then after a z env d [] u else after b z env d [] u)
    by true f g = f
    by false f g = g
stays_uniform (For' p body) W z env d u covered h = absurd covered
stays_uniform (SendAll e) W z env d u covered h = record {
  sent = Some (value e z env [] u);
  each = sent_to_each z.nodes (value e z env [] u) u;
  no_other = λ j le. sent_to_no_other z.nodes (value e z env [] u) u j le ∙ h.no_other j le;
}
stays_uniform (SendTo e to) W z env d u covered h = absurd covered

-- a number was sent to node 0
abbrev pub HasSent : NodeState → Type 0
HasSent u = (x : ℕ) × (get u.sent 0 ≡ Some x)

or_one : (x y : Bool) → (x || y) ≡ true → (x ≡ true) ⊎ (y ≡ true)
or_one true y e = inl refl
or_one false y e = inr e

sent_same : (u t : NodeState) → t.sent ≡ u.sent → HasSent u → HasSent t
sent_same u t e h = (h.0, ap (λ m. get m 0) e ∙ h.1)

stays_sent : (p : Statement) (W : ℕ) (z : Sizes) (env : Setting) (d : ℕ) (u : NodeState) → 0 < z.nodes → RuleIsCovered W p → HasSent u
    → HasSent (after p z env d [] u)
stays_sent Nothing W z env d u some covered h = h
stays_sent (Then' p a q b) W z env d u some covered h =
    stays_sent b W z env d (after a z env d [] u) some covered.1 (stays_sent a W z env d u some covered.0 h)
stays_sent (Let' e p rest) W z env d u some covered h =
    stays_sent rest W z env (d + 1) (with_local d (value e z env [] u) u) some covered.1
    (sent_same u (with_local d (value e z env [] u) u) refl h)
stays_sent (Assign a) W z env d u some covered h =
    sent_same u (all_assigned a z env [] u) (all_assigned_sent a z env [] u) h
stays_sent (If' t p a q b) W z env d u some covered h =
    by (truth (value t z env [] u)) (stays_sent a W z env d u some covered.1 h) (stays_sent b W z env d u some covered.2 h)
  where
    by : (c : Bool) → HasSent (after a z env d [] u) → HasSent (after b z env d [] u)
        → HasSent (if c then after a z env d [] u else after b z env d [] u)
    by true f g = f
    by false f g = g
stays_sent (For' p body) W z env d u some covered h = absurd covered
stays_sent (SendAll e) W z env d u some covered h =
    (value e z env [] u, sent_to_each z.nodes (value e z env [] u) u 0 some)
stays_sent (SendTo e to) W z env d u some covered h = absurd covered

pub has_sent : (p : Statement) (W : ℕ) (z : Sizes) (env : Setting) (d : ℕ) (u : NodeState) → 0 < z.nodes → RuleIsCovered W p
    → always_sends p ≡ true → HasSent (after p z env d [] u)
has_sent Nothing W z env d u some covered e = absurd (let never : false ≡ true = e in cc)
has_sent (Then' p a q b) W z env d u some covered e =
    elim (or_one (always_sends a) (always_sends b) e) [
      | inl f ↦ stays_sent b W z env d (after a z env d [] u) some covered.1 (has_sent a W z env d u some covered.0 f)
      | inr f ↦ has_sent b W z env d (after a z env d [] u) some covered.1 f
    ]
has_sent (Let' t p rest) W z env d u some covered e =
    has_sent rest W z env (d + 1) (with_local d (value t z env [] u) u) some covered.1 e
has_sent (Assign a) W z env d u some covered e = absurd (let never : false ≡ true = e in cc)
has_sent (If' t p a q b) W z env d u some covered e =
    let parts = and_parts (always_sends a) (always_sends b) e in
    by (truth (value t z env [] u)) (has_sent a W z env d u some covered.1 parts.0) (has_sent b W z env d u some covered.2 parts.1)
  where
    by : (c : Bool) → HasSent (after a z env d [] u) → HasSent (after b z env d [] u)
        → HasSent (if c then after a z env d [] u else after b z env d [] u)
    by true f g = f
    by false f g = g
has_sent (For' p body) W z env d u some covered e = absurd covered
has_sent (SendAll t) W z env d u some covered e =
    (value t z env [] u, sent_to_each z.nodes (value t z env [] u) u 0 some)
has_sent (SendTo t to) W z env d u some covered e = absurd covered

pub sent_more : (m n : ℕ) (v w : Numbers) (sent : Option Expression) (u : NodeState) → m ≤ n → AgreeBelow m w v
    → IsSent m v sent u → IsSent n w sent u
sent_more m n v w None u le same h = tt
sent_more m n v w (Some e) u le same h = (h.0, is_settled_more m n v w e h.0 le same h.1, h.2)

-- a state with the same numbers sent
is_sent_same : (n : ℕ) (v : Numbers) (sent : Option Expression) (u t : NodeState) → t.sent ≡ u.sent
    → IsSent n v sent u → IsSent n v sent t
is_sent_same n v None u t e h = tt
is_sent_same n v (Some x) u t e h = (h.0, h.1, ap (λ m. get m 0) e ∙ h.2)

-- ---- stores

module _ (W : ℕ) (z : Sizes) (env : Setting) where
  state_local : (k : ℕ) (v : Numbers) (s : Store) (u : NodeState) (i : ℕ) (e : Expression) (x : ℕ)
      → IsSettled k v e x → x < 2 ^ 32 → StoreSays W z env k v s u → StoreSays W z env k v (store_local i e s) (with_local i x u)
  state_local k v s u i e x is small h = record {
    sizes = h.sizes;
    me = h.me;
    coin = h.coin;
    locals = λ j. elim (cases_eq j i) [
      | inl same ↦ rw (eq-eqb j i same) is
      | inr other ↦ rw (ne_eqb j i other) (h.locals j)
    ];
    words = h.words;
    small = λ j. elim (cases_eq j i) [
      | inl same ↦ rw (eq-eqb j i same) small
      | inr other ↦ rw (ne_eqb j i other) (h.small j)
    ];
    room = h.room;
    bytes = h.bytes;
  }

  state_word : (k : ℕ) (v : Numbers) (s : Store) (u : NodeState) (i : ℕ) (e : Expression) (x : ℕ)
      → i < W → IsSettled k v e x → x < 2 ^ 32 → StoreSays W z env k v s u
      → StoreSays W z env k v (store_with (ToWord i) e s) (assigned (ToWord i) x u)
  state_word k v s u i e x fits is small h = record {
    sizes = h.sizes;
    me = h.me;
    coin = h.coin;
    locals = h.locals;
    words = λ j lt. elim (cases_eq j i) [
      | inl same ↦
          let there : word_at j (with_memory_word i x u.memory) ≡ x =
          ap (λ n. word_at n (with_memory_word i x u.memory)) same
          ∙ word_same i x u.memory (omega (arith, fits, h.room)) small in
          rw (eq-eqb j i same) (λ w agree. is w agree ∙ sym there)
      | inr other ↦ rw (ne_eqb j i other) (λ w agree. h.words j lt w agree ∙ sym (word_other i x j u.memory other))
    ];
    small = h.small;
    room = let same = word_length i x u.memory in omega (arith, same, h.room);
    bytes = word_bytes i x u.memory h.bytes;
  }

  state_stored : (k : ℕ) (v : Numbers) (s : Store) (u : NodeState) (target : Target) (e : Expression) (x : ℕ)
      → TargetIsCovered W target → IsSettled k v e x → x < 2 ^ 32 → StoreSays W z env k v s u
      → StoreSays W z env k v (store_with target e s) (assigned target x u)
  state_stored k v s u (ToLocal i) e x fits is small h = state_local k v s u i e x is small h
  state_stored k v s u (ToWord i) e x fits is small h = state_word k v s u i e x fits is small h

  -- a state with the same lets and memory
  state_same : (k : ℕ) (v : Numbers) (s : Store) (u t : NodeState) → t.locals ≡ u.locals
      → t.memory ≡ u.memory → StoreSays W z env k v s u → StoreSays W z env k v s t
  state_same k v s u t e f h = record {
    sizes = h.sizes;
    me = h.me;
    coin = h.coin;
    locals = λ i w agree. h.locals i w agree ∙ sym (ap (λ l. l i) e);
    words = λ i lt w agree. h.words i lt w agree ∙ sym (ap (word_at i) f);
    small = λ i. subst (λ (l : ℕ → ℕ). l i < 2 ^ 32) (sym e) (h.small i);
    room = subst (λ (l : List ℕ). 4 * W ≤ length l) (sym f) h.room;
    bytes = subst (All (λ byte. byte < 256)) (sym f) h.bytes;
  }

-- ---- places

record IsAssigned (W : ℕ) (z : Sizes) (env : Setting) (k : ℕ) (v : Numbers) (t : NodeState) (f : Assigned) : Type 0 where
  fresh : Numbers
  agree : AgreeBelow k fresh v
  grows : k ≤ f.next
  facts : Settles f.next fresh f.facts
  state : StoreSays W z env f.next fresh f.store t

and_then : (k n : ℕ) (v fresh : Numbers) (facts r : Relation) → k ≤ n → AgreeBelow k fresh v → Settles n fresh facts
    → CanHold n fresh r → CanHold k v (AllOf facts r)
and_then k n v fresh facts r le agree settled can =
    (can.0, agree_then k n can.0 fresh v le can.1 agree, (settled can.0 can.1, can.2))

module _ (W : ℕ) (z : Sizes) (env : Setting) (sees : CanSee z env) where
  assignment_is : (a : Assignment) (s : Store) (u : NodeState) (k : ℕ) (v : Numbers) → AssignmentIsCovered W a
      → StoreSays W z env k v s u → IsAssigned W z env k v (all_assigned a z env [] u) (all_stored a s k)
  assignment_is (One target e) s u k v fits st =
      let x = term_value W z env sees None [] e s u k v fits.1 refl st in
      let fe = numbered (found_term None e s k) in
      record {
        fresh = x.fresh;
        agree = x.agree;
        grows = x.grows;
        facts = x.facts;
        state = state_stored W z env fe.next x.fresh s u target fe.number (value e z env [] u) fits.0 x.number x.small
            (state_more W z env k fe.next v x.fresh s u x.grows x.agree st);
      }
  assignment_is (Also' p front target e) s u k v fits st =
      let ff = all_stored front s k in
      let f = assignment_is front s u k v fits.0 st in
      let fe = numbered (found_term None e s ff.next) in
      let t = all_assigned front z env [] u in
      let x = term_value W z env sees None [] e s u ff.next f.fresh fits.2 refl
      (state_more W z env k ff.next v f.fresh s u f.grows f.agree st) in
      record {
        fresh = x.fresh;
        agree = agree_then k ff.next x.fresh f.fresh v f.grows x.agree f.agree;
        grows = omega (arith, f.grows, x.grows);
        facts = λ w same. (settled_more ff.next fe.next f.fresh x.fresh ff.facts x.grows x.agree f.facts w same, x.facts w same);
        state = state_stored W z env fe.next x.fresh ff.store t target fe.number (value e z env [] u) fits.1 x.number x.small
            (state_more W z env ff.next fe.next f.fresh x.fresh ff.store t x.grows x.agree f.state);
      }

  -- the counts so far, and that of a let
  let_counted : (e : Term) (s : Store) (u : NodeState) (k n : ℕ) (w : Numbers) (cs : List Count) → TermIsCovered W 0 e
      → StoreSays W z env n w s u → IsSettled n w (numbered (found_term None e s k)).number (value e z env [] u)
      → AllCounted W z env n w cs → AllCounted W z env n w (with_let_count e s k cs)
  let_counted (Number c) s u k n w cs covered state number all = all
  let_counted Nodes s u k n w cs covered state number all = all
  let_counted Faults s u k n w cs covered state number all = all
  let_counted Modulus s u k n w cs covered state number all = all
  let_counted Me s u k n w cs covered state number all = all
  let_counted Coin s u k n w cs covered state number all = all
  let_counted (LoopNode i) s u k n w cs covered state number all = all
  let_counted (Local i) s u k n w cs covered state number all = all
  let_counted (Word i) s u k n w cs covered state number all = all
  let_counted (Message' p a) s u k n w cs covered state number all = all
  let_counted (Binary' o p a q b) s u k n w cs covered state number all = all
  let_counted (Logical' o p a q b) s u k n w cs covered state number all = all
  let_counted (Not' p a) s u k n w cs covered state number all = all
  let_counted (Choice' p t q a r b) s u k n w cs covered state number all = all
  let_counted (Least' p t) s u k n w cs covered state number all = all
  let_counted (Sorted' p i q t) s u k n w cs covered state number all = all
  let_counted (Count' p t) s u k n w cs covered state number all =
      (record { state = u; says = state; covered = covered; number = number }, all)

  -- Where a statement leads to a state, what comes behind it can hold there. Then all of it can hold.
  pub passes : (p : Statement) (d : ℕ) (at : Place) (u : NodeState) (v : Numbers) (behind : Place → Relation)
      → RuleIsCovered W p → IsAtPlace W z env v at u
      → ((to : Place) (w : Numbers) → at.next ≤ to.next → AgreeBelow at.next w v
      → IsAtPlace W z env w to (after p z env d [] u) → CanHold to.next w (behind to))
      → CanHold at.next v (passed p d at behind)
  passes Nothing d at u v behind fits is h = h at v (omega arith) (agree_self at.next v) is
  passes (Then' p a q b) d at u v behind fits is h =
      passes a d at u v (λ next. passed b d next behind) fits.0 is
      (λ to w le agree there. passes b d to (after a z env d [] u) w behind fits.1 there
      (λ to2 w2 le2 agree2 there2. h to2 w2 (omega (arith, le, le2))
      (agree_then at.next to.next w2 w v le agree2 agree) there2))
  passes (Let' e p rest) d at u v behind fits is h =
      let fe = numbered (found_term None e at.store at.next) in
      let X = value e z env [] u in
      let x = term_value W z env sees None [] e at.store u at.next v fits.0 refl is.state in
      let next = place_past (store_local d fe.number at.store) at.sent (with_let_count e at.store at.next at.counts) fe.next in
      and_then at.next fe.next v x.fresh fe.facts _ x.grows x.agree x.facts
      (passes rest (d + 1) next (with_local d X u) x.fresh behind fits.1 (record {
        state = state_local W z env fe.next x.fresh at.store u d fe.number X x.number x.small
            (state_more W z env at.next fe.next v x.fresh at.store u x.grows x.agree is.state);
        sent = is_sent_same fe.next x.fresh at.sent u (with_local d X u) refl
            (sent_more at.next fe.next v x.fresh at.sent u x.grows x.agree is.sent);
        counts = let_counted e at.store u at.next fe.next x.fresh at.counts fits.0
            (state_more W z env at.next fe.next v x.fresh at.store u x.grows x.agree is.state) x.number
            (counted_more W z env at.next fe.next v x.fresh at.counts x.grows x.agree is.counts);
      })
      (λ to w le agree there. h to w (omega (arith, x.grows, le))
      (agree_then at.next fe.next w x.fresh v x.grows agree x.agree) there))
  passes (Assign a) d at u v behind fits is h =
      let fa = all_stored a at.store at.next in
      let x = assignment_is a at.store u at.next v fits is.state in
      let t = all_assigned a z env [] u in
      and_then at.next fa.next v x.fresh fa.facts _ x.grows x.agree x.facts
      (h (place_past fa.store at.sent at.counts fa.next) x.fresh x.grows x.agree (record {
        state = x.state;
        sent = is_sent_same fa.next x.fresh at.sent u t (all_assigned_sent a z env [] u)
            (sent_more at.next fa.next v x.fresh at.sent u x.grows x.agree is.sent);
        counts = counted_more W z env at.next fa.next v x.fresh at.counts x.grows x.agree is.counts;
      }))
  passes (If' t p a q b) d at u v behind fits is h =
      let ft = found_term None t at.store at.next in
      let T = value t z env [] u in
      let x = term_found W z env sees None [] t at.store u at.next v fits.0 refl is.state in
      let next = place_past at.store at.sent at.counts ft.next in
      let here : IsAtPlace W z env x.fresh next u = record {
        state = state_more W z env at.next ft.next v x.fresh at.store u x.grows x.agree is.state;
        sent = sent_more at.next ft.next v x.fresh at.sent u x.grows x.agree is.sent;
        counts = counted_more W z env at.next ft.next v x.fresh at.counts x.grows x.agree is.counts;
      } in
      let ua = after a z env d [] u in
      let ub = after b z env d [] u in
      and_then at.next ft.next v x.fresh ft.facts
      (AnyOf (AllOf (holds_of ft.what) (passed a d next behind)) (AllOf (fails_of ft.what) (passed b d next behind)))
      x.grows x.agree x.facts
      (elim (either_way (truth T)) [
        | inl e ↦
            let same : (if truth T then ua else ub) ≡ ua = ap (λ (c : Bool). if c then ua else ub) e in
            let can = passes a d next u x.fresh behind fits.1 here
            (λ to w le agree there. h to w (omega (arith, x.grows, le))
            (agree_then at.next ft.next w x.fresh v x.grows agree x.agree)
            (subst (IsAtPlace W z env w to) (sym same) there)) in
            (can.0, can.1, inl (holds_if W z env ft.what ft.next x.fresh T x.what e can.0 can.1, can.2))
        | inr e ↦
            let same : (if truth T then ua else ub) ≡ ub = ap (λ (c : Bool). if c then ua else ub) e in
            let can = passes b d next u x.fresh behind fits.2 here
            (λ to w le agree there. h to w (omega (arith, x.grows, le))
            (agree_then at.next ft.next w x.fresh v x.grows agree x.agree)
            (subst (IsAtPlace W z env w to) (sym same) there)) in
            (can.0, can.1, inr (fails_if W z env ft.what ft.next x.fresh T x.what e can.0 can.1, can.2))
      ])
  passes (For' p body) d at u v behind fits is h = absurd fits
  passes (SendAll e) d at u v behind fits is h =
      let fe = numbered (found_term None e at.store at.next) in
      let X = value e z env [] u in
      let x = term_value W z env sees None [] e at.store u at.next v fits refl is.state in
      let t = sent_below z.nodes X u in
      let keeps = sending_keeps z.nodes X u in
      and_then at.next fe.next v x.fresh fe.facts _ x.grows x.agree x.facts
      (h (place_past at.store (Some fe.number) at.counts fe.next) x.fresh x.grows x.agree (record {
        state = state_same W z env fe.next x.fresh at.store u t keeps.0 keeps.1
            (state_more W z env at.next fe.next v x.fresh at.store u x.grows x.agree is.state);
        sent = (X, x.number, sent_to_each z.nodes X u 0 (omega (arith, sees.id)));
        counts = counted_more W z env at.next fe.next v x.fresh at.counts x.grows x.agree is.counts;
      }))
  passes (SendTo e to) d at u v behind fits is h = absurd fits

-- ---- rules

pub begins : (W : ℕ) (z : Sizes) (env : Setting) (start next : ℕ) (v : Numbers) (memory : List ℕ)
    → IsNode W z env next v start memory → IsAtPlace W z env v (rule_place start next) (initial_state memory)
begins W z env start next v memory h = record {
  state = record {
    sizes = h.sizes;
    me = h.me;
    coin = h.coin;
    locals = λ i w agree. refl;
    words = h.words;
    small = λ i. omega arith;
    room = h.room;
    bytes = h.bytes;
  };
  sent = tt;
  counts = tt;
}

pub pulse_passes : (rule : Statement) (W : ℕ) (z : Sizes) (env : Setting) (memory : List ℕ) (start next : ℕ) (v : Numbers)
    (behind : Place → Relation) → CanSee z env → RuleIsCovered W rule → IsNode W z env next v start memory
    → ((to : Place) (w : Numbers) → next ≤ to.next → AgreeBelow next w v → IsAtPlace W z env w to (pulse rule z env memory)
    → CanHold to.next w (behind to))
    → CanHold next v (passed rule 0 (rule_place start next) behind)
pulse_passes rule W z env memory start next v behind sees covered node h =
    passes W z env sees rule 0 (rule_place start next) (initial_state memory) v behind covered
    (begins W z env start next v memory node) h

pub sends_one : (rule : Statement) (W : ℕ) (z : Sizes) (env : Setting) (memory : List ℕ) → CanSee z env → RuleIsCovered W rule
    → always_sends rule ≡ true → (x : ℕ) × IsSentTo z.nodes (λ j. Some x) (pulse rule z env memory).sent
sends_one rule W z env memory sees covered sends =
    let some : 0 < z.nodes = omega (arith, sees.id) in
    let u = pulse rule z env memory in
    let one = stays_uniform rule W z env 0 (initial_state memory) covered (record {
      sent = None;
      each = λ j lt. get-empty nat_cmp j;
      no_other = λ j le. get-empty nat_cmp j;
    }) in
    let has = has_sent rule W z env 0 (initial_state memory) some covered sends in
    let same : one.sent ≡ Some has.0 = sym (one.each 0 some) ∙ has.1 in
    (has.0, record { each = λ j lt. one.each j lt ∙ same; no_other = one.no_other })

pub count_tested : (W : ℕ) (z : Sizes) (env : Setting) (n : ℕ) (v : Numbers) (count : Count) (around : Around) (j : ℕ)
    (answer : Bool) (is : IsCounted W z env n v count) → CanSee z env → j < z.nodes → IsSettled n v around.node j
    → IsSettled n v around.message (message_from z env j) → truth (value count.test z env (j ∷ []) is.state) ≡ answer
    → HasAnswer n v (found_term (Some around) count.test count.store n) answer
count_tested W z env n v count around j answer is sees lt node message e =
    let f = found_term (Some around) count.test count.store n in
    let X = value count.test z env (j ∷ []) is.state in
    let x = term_found W z env sees (Some around) (j ∷ []) count.test count.store is.state n v is.covered
    (j, refl, lt, node, message) is.says in
    record {
      fresh = x.fresh;
      agree = x.agree;
      grows = x.grows;
      facts = x.facts;
      answered = by answer x.fresh f.next f.what x.what e;
    }
  where
    by : (b : Bool) (w : Numbers) (k : ℕ) (what : What) → IsWhat z env k w (value count.test z env (j ∷ []) is.state) what
        → truth (value count.test z env (j ∷ []) is.state) ≡ b → Settles k w (answer_of what b)
    by true w k what said h = holds_if W z env what k w (value count.test z env (j ∷ []) is.state) said h
    by false w k what said h = fails_if W z env what k w (value count.test z env (j ∷ []) is.state) said h
