-- Variables whose numbers are found_choice one after another.
use Rattle.std.proofs.Common.{◌≡◌, ℕ, ◌+◌, ◌^◌, ◌<◌, ◌≤◌, ◌==◌, if◌then◌else◌, Bool, true, false, List, [], ◌∷◌, ◌++◌, refl, ◌∙◌, arith, inl, inr}
use Rattle.std.proofs.lemmas.Bool.{eq-eqb, ne_eqb}
use Rattle.node_env.specs.Env.{Setting}
use Rattle.rule_syntax.specs.declared.syntax.Sizes.{Sizes}
use Rattle.rule_meaning.specs.Meaning.{NodeState, bit_of, word_at, message_from}
use Rattle.rule_paths.specs.Relations.{Expression, Variable, Numbers, expression_number, Relation, AgreeBelow, IsSettled, Settles, RelationHolds}
use Rattle.rule_paths.specs.Stores.{Store, Count, AreSizeNumbers, StoreSays, AllCounted}
use Rattle.rule_paths.specs.Paths.{is_bit, What, Value, Truth, Sender, Found, Numbered, numbered_as, with_fresh}

pub agree_self : (n : ℕ) (v : Numbers) → AgreeBelow n v v
agree_self n v k lt = refl

pub agree_less : (m n : ℕ) (w v : Numbers) → m ≤ n → AgreeBelow n w v → AgreeBelow m w v
agree_less m n w v le h k lt = h k (omega arith)

pub agree_then : (m n : ℕ) (u w v : Numbers) → m ≤ n → AgreeBelow n u w → AgreeBelow m w v → AgreeBelow m u v
agree_then m n u w v le h g k lt = h k (omega arith) ∙ g k lt

pub settled_more : (m n : ℕ) (v w : Numbers) (r : Relation) → m ≤ n → AgreeBelow m w v → Settles m v r → Settles n w r
settled_more m n v w r le same h u agree = h u (agree_then m n u w v le agree same)

pub is_settled_more : (m n : ℕ) (v w : Numbers) (e : Expression) (x : ℕ) → m ≤ n → AgreeBelow m w v → IsSettled m v e x
    → IsSettled n w e x
is_settled_more m n v w e x le same h u agree = h u (agree_then m n u w v le agree same)

pub sizes_more : (z : Sizes) (m n : ℕ) (v w : Numbers) → m ≤ n → AgreeBelow m w v → AreSizeNumbers z m v → AreSizeNumbers z n w
sizes_more z m n v w le same h = record {
  nodes = λ u agree. h.nodes u (agree_then m n u w v le agree same);
  faults = λ u agree. h.faults u (agree_then m n u w v le agree same);
  modulus = λ u agree. h.modulus u (agree_then m n u w v le agree same);
}

pub state_more : (W : ℕ) (z : Sizes) (env : Setting) (m n : ℕ) (v w : Numbers) (s : Store) (u : NodeState) → m ≤ n
    → AgreeBelow m w v → StoreSays W z env m v s u → StoreSays W z env n w s u
state_more W z env m n v w s u le same h = record {
  sizes = sizes_more z m n v w le same h.sizes;
  me = is_settled_more m n v w s.me env.id le same h.me;
  coin = is_settled_more m n v w s.coin env.coin le same h.coin;
  locals = λ i. is_settled_more m n v w (s.locals i) (u.locals i) le same (h.locals i);
  words = λ i lt. is_settled_more m n v w (s.words i) (word_at i u.memory) le same (h.words i lt);
  small = h.small;
  room = h.room;
  bytes = h.bytes;
}

pub counted_more : (W : ℕ) (z : Sizes) (env : Setting) (m n : ℕ) (v w : Numbers) (cs : List Count) → m ≤ n
    → AgreeBelow m w v → AllCounted W z env m v cs → AllCounted W z env n w cs
counted_more W z env m n v w [] le same h = tt
counted_more W z env m n v w (c ∷ cs) le same h = (
  record {
    state = h.0.state;
    says = state_more W z env m n v w c.store h.0.state le same h.0.says;
    covered = h.0.covered;
    number = λ u agree. h.0.number u (agree_then m n u w v le agree same);
  },
  counted_more W z env m n v w cs le same h.1,
)

pub counted_both : (W : ℕ) (z : Sizes) (env : Setting) (n : ℕ) (v : Numbers) (xs ys : List Count) → AllCounted W z env n v xs
    → AllCounted W z env n v ys → AllCounted W z env n v (xs ++ ys)
counted_both W z env n v [] ys g h = h
counted_both W z env n v (x ∷ xs) ys g h = (g.0, counted_both W z env n v xs ys g.1 h)

-- the variable k is x
abbrev pub fresh_at : ℕ → ℕ → Numbers → Numbers
fresh_at k x v = λ j. if j == k then x else v j

pub fresh_same : (k x : ℕ) (v : Numbers) → fresh_at k x v k ≡ x
fresh_same k x v = rw (eq-eqb k k refl) refl

pub fresh_below : (k x : ℕ) (v : Numbers) → AgreeBelow k (fresh_at k x v) v
fresh_below k x v j lt = rw (ne_eqb j k (λ e. omega (arith, lt, e))) refl

-- ---- terms

-- the variables below n say that a term is x
abbrev pub IsWhat : Sizes → Setting → ℕ → Numbers → ℕ → What → Type 0
IsWhat z env n v x (Value e) = IsSettled n v e x
IsWhat z env n v x (Truth so not_so) =
    (b : Bool) × (x ≡ bit_of b) × (b ≡ true → Settles n v so) × (b ≡ false → Settles n v not_so)
IsWhat z env n v x (Sender e message) = IsSettled n v e x × IsSettled n v message (message_from z env x)

-- some numbers of the variables from k on say that a term is x
pub record IsFound (z : Sizes) (env : Setting) (k : ℕ) (v : Numbers) (x : ℕ) (f : Found) : Type 0 where
  pub fresh : Numbers
  pub agree : AgreeBelow k fresh v
  pub grows : k ≤ f.next
  pub facts : Settles f.next fresh f.facts
  pub what : IsWhat z env f.next fresh x f.what
  pub small : x < 2 ^ 32

pub record IsNumbered (k : ℕ) (v : Numbers) (x : ℕ) (f : Numbered) : Type 0 where
  pub fresh : Numbers
  pub agree : AgreeBelow k fresh v
  pub grows : k ≤ f.next
  pub facts : Settles f.next fresh f.facts
  pub number : IsSettled f.next fresh f.number x
  pub small : x < 2 ^ 32

pub bit_holds : (t : Bool) (w : Numbers) (so not_so : Relation) (r : Expression) → expression_number w r ≡ bit_of t
    → (t ≡ true → RelationHolds w so) → (t ≡ false → RelationHolds w not_so) → RelationHolds w (is_bit so not_so r)
bit_holds true w so not_so r e y n = inl (y refl, (omega (arith, e), omega (arith, e)))
bit_holds false w so not_so r e y n = inr (n refl, (omega (arith, e), omega (arith, e)))

pub numbered_is : (z : Sizes) (env : Setting) (what : What) (facts : Relation) (k n : ℕ)
    (v w : Numbers) (x : ℕ) → AgreeBelow k w v → k ≤ n → Settles n w facts → IsWhat z env n w x what
    → x < 2 ^ 32 → IsNumbered k v x (numbered_as what facts n)
numbered_is z env (Value e) facts k n v w x agree le settled is small = record {
  fresh = w;
  agree = agree;
  grows = le;
  facts = settled;
  number = is;
  small = small;
}
numbered_is z env (Sender e message) facts k n v w x agree le settled is small = record {
  fresh = w;
  agree = agree;
  grows = le;
  facts = settled;
  number = is.0;
  small = small;
}
numbered_is z env (Truth so not_so) facts k n v w x agree le settled is small =
    let new = fresh_at n x w in
    let same : AgreeBelow n new w = fresh_below n x w in
    record {
      fresh = new;
      agree = agree_then k n new w v le same agree;
      grows = omega (arith, le);
      facts = λ u below.
          let low : AgreeBelow n u w = agree_then n (n + 1) u new w (omega arith) below same in
          let here : u n ≡ x = below n (omega arith) ∙ fresh_same n x w in
          (settled u low, bit_holds is.0 u so not_so (Variable n) (here ∙ is.1) (λ e. is.2 e u low) (λ e. is.3 e u low));
      number = λ u below. below n (omega arith) ∙ fresh_same n x w;
      small = small;
    }

pub fresh_found : (z : Sizes) (env : Setting) (k n : ℕ) (v w : Numbers) (x : ℕ) (facts : Relation)
    (is : Expression → Relation) → AgreeBelow k w v → k ≤ n → x < 2 ^ 32 → Settles n w facts
    → ((u : Numbers) → AgreeBelow n u w → u n ≡ x → RelationHolds u (is (Variable n)))
    → IsFound z env k v x (with_fresh facts n is)
fresh_found z env k n v w x facts is agree le small settled says =
    let new = fresh_at n x w in
    record {
      fresh = new;
      agree = agree_then k n new w v le (fresh_below n x w) agree;
      grows = omega (arith, le);
      facts = λ u same.
          let below : AgreeBelow n u w = agree_then n (n + 1) u new w (omega arith) same (fresh_below n x w) in
          let here : u n ≡ x = same n (omega arith) ∙ fresh_same n x w in
          (settled u below, ((omega arith, omega (arith, here, small)), says u below here));
      what = λ u same. same n (omega arith) ∙ fresh_same n x w;
      small = small;
    }
