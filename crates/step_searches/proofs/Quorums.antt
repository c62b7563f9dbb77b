-- The laws of quorums make their relations hold.
use Rattle.std.proofs.Common.{◌≡◌, ℕ, zero, suc, ◌+◌, ◌*◌, ◌-◌, ◌^◌, ◌<◌, ◌≤◌, nat_lt, Bool, true, false, not, if◌then◌else◌, Option, Some, None, List, [], ◌∷◌, slice_get, refl, sym, ap, ◌∙◌, arith, inl, inr, subst}
use Rattle.std.specs.Prelude.{IsTrue}
use Rattle.std.proofs.lemmas.Bool.{cases_lt, lt-ltb, le-ltb, not-true}
use Rattle.rule_nodes.proofs.Small.{truth_of}
use Rattle.node_env.specs.Env.{Setting}
use Rattle.rule_syntax.specs.declared.syntax.Sizes.{Sizes}
use Rattle.rule_meaning.specs.Meaning.{bit_of, truth, count_below, word_at, message_from, value}
use Rattle.rule_nodes.proofs.Words.{word_small}
use Rattle.quorums.specs.Counts.{HasFewFaults}
use Rattle.rule_steps.specs.Steps.{Between, IsBetween, Sees, EachCorrect, EachTwo}
use Rattle.rule_steps.proofs.Counted.{heard, meaning_reaches, meaning_one, meaning_two}
use Rattle.rule_paths.specs.Relations.{Constant, Variable, Plus, Numbers, expression_number, Relation, Always, IsAtMost, AllOf, AnyOf, AgreeBelow, IsSettled, Settles}
use Rattle.rule_paths.specs.Stores.{NodeCount, FaultBound, Count, CanSee, AreSizeNumbers, IsCounted, AllCounted}
use Rattle.rule_paths.specs.Paths.{Around}
use Rattle.rule_paths.proofs.Fresh.{agree_self, agree_less, agree_then, settled_more, is_settled_more, sizes_more, state_more, counted_more}
use Rattle.rule_paths.proofs.Terms.{found_grows, message_small}
use Rattle.rule_paths.proofs.Blocks.{count_tested}
use Rattle.step_searches.specs.declared.claims.Condition.{Condition}
use Rattle.step_searches.specs.declared.uses.Use.{Use}
use Rattle.step_searches.specs.declared.uses.Use.TheVariants.{One, Two}
use Rattle.step_searches.specs.Claims.{meets, ConditionIsCovered}
use Rattle.step_searches.specs.Views.{start_view}
use Rattle.step_searches.specs.Laws.{Instance, nothing, words_are_numbers, is_node, Pair, is_correct, answered, more, less_number, one_count, two_counts, one_used, two_used, used, all_used}
use Rattle.step_searches.proofs.Views.{Shows, Names, shows_more, names_more, stated_is}

-- some numbers of the variables from k on make an instance hold
pub record IsMade (k : ℕ) (v : Numbers) (i : Instance) : Type 0 where
  pub fresh : Numbers
  pub agree : AgreeBelow k fresh v
  pub grows : k ≤ i.next
  pub facts : Settles i.next fresh i.facts

pub made_nothing : (k : ℕ) (v : Numbers) → IsMade k v (nothing k)
made_nothing k v = record { fresh = v; agree = agree_self k v; grows = omega arith; facts = λ w same. tt }

-- ---- a node's variables

abbrev pub node_number : ℕ → ℕ → ℕ → List ℕ → ℕ → ℕ
node_number me coin sent memory zero = me
node_number me coin sent memory (suc zero) = coin
node_number me coin sent memory (suc (suc zero)) = sent
node_number me coin sent memory (suc (suc (suc i))) = word_at i memory

-- the variables from k on are a node's
abbrev pub with_node : ℕ → ℕ → ℕ → ℕ → List ℕ → Numbers → Numbers
with_node k me coin sent memory v = λ i. if nat_lt i k then v i else node_number me coin sent memory (i - k)

pub node_below : (k me coin sent : ℕ) (memory : List ℕ) (v : Numbers) → AgreeBelow k (with_node k me coin sent memory v) v
node_below k me coin sent memory v i lt = rw (lt-ltb i k lt) refl

node_from : (k me coin sent i j : ℕ) (memory : List ℕ) (v : Numbers) → i ≡ k + j
    → with_node k me coin sent memory v i ≡ node_number me coin sent memory j
node_from k me coin sent i j memory v e =
    let low : nat_lt i k ≡ false = le-ltb i k (omega (arith, e)) in
    let place : i - k ≡ j = omega (arith, e) in
    ap (λ (b : Bool). if b then v i else node_number me coin sent memory (i - k)) low ∙ ap (node_number me coin sent memory) place

-- what the variables from k on say
pub record IsPlaced (W k n : ℕ) (v : Numbers) (id flip told : ℕ) (memory : List ℕ) : Type 0 where
  pub me : IsSettled n v (Variable k) id
  pub coin : IsSettled n v (Variable (k + 1)) flip
  pub sent : IsSettled n v (Variable (k + 2)) told
  pub words : (i : ℕ) → i < W → IsSettled n v (Variable (k + 3 + i)) (word_at i memory)

pub placed : (W k me coin sent : ℕ) (memory : List ℕ) (v : Numbers)
    → IsPlaced W k (k + 3 + W) (with_node k me coin sent memory v) me coin sent memory
placed W k me coin sent memory v = record {
  me = λ w same. same k (omega arith) ∙ node_from k me coin sent k 0 memory v (omega arith);
  coin = λ w same. same (k + 1) (omega arith) ∙ node_from k me coin sent (k + 1) 1 memory v (omega arith);
  sent = λ w same. same (k + 2) (omega arith) ∙ node_from k me coin sent (k + 2) 2 memory v (omega arith);
  words = λ i lt w same. same (k + 3 + i) (omega (arith, lt)) ∙ node_from k me coin sent (k + 3 + i) (suc (suc (suc i))) memory v (omega arith);
}

pub placed_more : (W k m n : ℕ) (v w : Numbers) (me coin sent : ℕ) (memory : List ℕ) → m ≤ n → AgreeBelow m w v
    → IsPlaced W k m v me coin sent memory → IsPlaced W k n w me coin sent memory
placed_more W k m n v w me coin sent memory le same h = record {
  me = is_settled_more m n v w (Variable k) me le same h.me;
  coin = is_settled_more m n v w (Variable (k + 1)) coin le same h.coin;
  sent = is_settled_more m n v w (Variable (k + 2)) sent le same h.sent;
  words = λ i lt. is_settled_more m n v w (Variable (k + 3 + i)) (word_at i memory) le same (h.words i lt);
}

words_numbers : (W k n : ℕ) (v : Numbers) (me coin sent : ℕ) (memory : List ℕ) (count : ℕ) → count ≤ W
    → ((i : ℕ) → i < W → word_at i memory < 2 ^ 32) → IsPlaced W k n v me coin sent memory
    → Settles n v (words_are_numbers count k)
words_numbers W k n v me coin sent memory zero le small h w same = tt
words_numbers W k n v me coin sent memory (suc i) le small h w same = (
  words_numbers W k n v me coin sent memory i (omega (arith, le)) small h w same,
  (omega arith, omega (arith, h.words i (omega (arith, le)) w same, small i (omega (arith, le)))),
)

pub node_is : (W k n : ℕ) (v : Numbers) (z : Sizes) (me coin sent : ℕ) (memory : List ℕ) → me < z.nodes → coin < 2
    → sent < 2 ^ 32 → ((i : ℕ) → i < W → word_at i memory < 2 ^ 32) → AreSizeNumbers z n v
    → IsPlaced W k n v me coin sent memory → Settles n v (is_node W k)
node_is W k n v z me coin sent memory lt flip few small sizes h w same = (
  words_numbers W k n v me coin sent memory W (omega arith) small h w same,
  (
    (omega arith, omega (arith, few, h.sent w same)),
    (
      (omega arith, omega (arith, lt, h.me w same, sizes.nodes w same)),
      (omega arith, omega (arith, flip, h.coin w same)),
    ),
  ),
)

pub shown : (W k n : ℕ) (v : Numbers) (me coin : ℕ) (node : Between) → IsPlaced W k n v me coin node.sent node.memory
    → Shows W n v (start_view k) node
shown W k n v me coin node h = record { sent = h.sent; words = h.words }

-- ---- answers

-- a test's number, if the answer is that it holds, and otherwise its negation's
abbrev pub with_answer : Bool → (ℕ → ℕ) → ℕ → ℕ
with_answer answer h j = if answer then h j else bit_of (not (truth (h j)))

answer_at : (answer : Bool) (x : ℕ) → truth (if answer then x else bit_of (not (truth x))) ≡ true → truth x ≡ answer
answer_at true x e = e
answer_at false x e = not-true (truth x) (sym (truth_of (not (truth x))) ∙ e)

both_counts : (n : ℕ) (h : ℕ → ℕ) → count_below n (λ j. bit_of (not (truth (h j)))) + count_below n h ≡ n
both_counts zero h = refl
both_counts (suc n) h =
    by (truth (h n)) (count_below n (λ j. bit_of (not (truth (h j))))) (count_below n h) (both_counts n h)
  where
    by : (b : Bool) (x y : ℕ) → x + y ≡ n → (x + bit_of (truth (bit_of (not b)))) + (y + bit_of b) ≡ suc n
    by true x y e = omega (arith, e)
    by false x y e = omega (arith, e)

-- how many messages have an answer
pub answers_counted : (n : ℕ) (v w : Numbers) (k : ℕ) (c : Count) (z : Sizes) (answer : Bool) (h : ℕ → ℕ)
    → expression_number w NodeCount ≡ z.nodes → w c.variable ≡ count_below z.nodes h
    → expression_number w (more c answer) ≡ count_below z.nodes (with_answer answer h) + expression_number w (less_number c answer)
answers_counted n v w k c z true h nodes is = omega (arith, is)
answers_counted n v w k c z false h nodes is = omega (arith, is, nodes, both_counts z.nodes h)

abbrev pub counted_at : (W : ℕ) (z : Sizes) (env : Setting) (m n : ℕ) (v w : Numbers) (c : Count) → m ≤ n → AgreeBelow m w v
    → IsCounted W z env m v c → IsCounted W z env n w c
counted_at W z env m n v w c le same h = record {
  state = h.state;
  says = state_more W z env m n v w c.store h.state le same h.says;
  covered = h.covered;
  number = λ u agree. h.number u (agree_then m n u w v le agree same);
}

zero_word : (i : ℕ) → word_at i [] < 2 ^ 32
zero_word i = omega arith

-- ---- the laws, where a node's test of the messages is h

abbrev pub tests : (W : ℕ) (z : Sizes) (env : Setting) (n : ℕ) (v : Numbers) (c : Count) → IsCounted W z env n v c → ℕ → ℕ
tests W z env n v c is j = value c.test z env (j ∷ []) is.state

module _ (W : ℕ) (z : Sizes) (k : ℕ) (v : Numbers) (sizes : AreSizeNumbers z k v) where
  -- a node at k whose message passes one test
  one_passes : (env : Setting) (c : Count) (answer : Bool) (j told : ℕ) (memory : List ℕ) (few extra : Relation)
      → CanSee z env → (is : IsCounted W z env k v c) → j < z.nodes → told < 2 ^ 32
      → ((i : ℕ) → i < W → word_at i memory < 2 ^ 32) → message_from z env j ≡ told
      → truth (tests W z env k v c is j) ≡ answer → Settles (k + 3 + W) (with_node k j 0 told memory v) extra
      → IsMade k v (record {
        facts = AnyOf few (AllOf (AllOf (is_node W k) extra) (answered c answer k (k + 3 + W)).facts);
        next = (answered c answer k (k + 3 + W)).next;
      })
  one_passes env c answer j told memory few extra sees is lt low small message e also =
      let n1 = k + 3 + W in
      let v1 = with_node k j 0 told memory v in
      let same1 : AgreeBelow k v1 v = node_below k j 0 told memory v in
      let at = placed W k j 0 told memory v in
      let le1 : k ≤ n1 = omega arith in
      let around : Around = record { node = Variable k; message = Variable (k + 2) } in
      let a = count_tested W z env n1 v1 c around j answer (counted_at W z env k n1 v v1 c le1 same1 is) sees lt at.me
      (λ w same. at.sent w same ∙ sym message) e in
      let next = (answered c answer k n1).next in
      let node = node_is W k n1 v1 z j 0 told memory lt (omega arith) low small (sizes_more z k n1 v v1 le1 same1 sizes) at in
      record {
        fresh = a.fresh;
        agree = agree_then k n1 a.fresh v1 v le1 a.agree same1;
        grows = omega (arith, a.grows);
        facts = λ w same. inr (
          (
            settled_more n1 next v1 a.fresh (is_node W k) a.grows a.agree node w same,
            settled_more n1 next v1 a.fresh extra a.grows a.agree also w same,
          ),
          (a.facts w same, a.answered w same),
        );
      }

  -- a node at k whose messages pass two tests
  two_pass : (env other_env : Setting) (c d : Count) (answer other : Bool) (j told : ℕ) (memory : List ℕ) (few extra : Relation)
      → CanSee z env → CanSee z other_env → (is : IsCounted W z env k v c) → (too : IsCounted W z other_env k v d) → j < z.nodes
      → told < 2 ^ 32 → ((i : ℕ) → i < W → word_at i memory < 2 ^ 32) → message_from z env j ≡ told
      → message_from z other_env j ≡ told → truth (tests W z env k v c is j) ≡ answer
      → truth (tests W z other_env k v d too j) ≡ other → Settles (k + 3 + W) (with_node k j 0 told memory v) extra
      → IsMade k v (record {
        facts = AnyOf few (AllOf (AllOf (is_node W k) extra) (AllOf (answered c answer k (k + 3 + W)).facts
            (answered d other k (answered c answer k (k + 3 + W)).next).facts));
        next = (answered d other k (answered c answer k (k + 3 + W)).next).next;
      })
  two_pass env other_env c d answer other j told memory few extra sees sees_too is too lt low small message message_too e g also =
      let n1 = k + 3 + W in
      let v1 = with_node k j 0 told memory v in
      let same1 : AgreeBelow k v1 v = node_below k j 0 told memory v in
      let at = placed W k j 0 told memory v in
      let le1 : k ≤ n1 = omega arith in
      let around : Around = record { node = Variable k; message = Variable (k + 2) } in
      let a = count_tested W z env n1 v1 c around j answer (counted_at W z env k n1 v v1 c le1 same1 is) sees lt at.me
      (λ w same. at.sent w same ∙ sym message) e in
      let n2 = (answered c answer k n1).next in
      let le2 : k ≤ n2 = omega (arith, a.grows) in
      let same2 : AgreeBelow k a.fresh v = agree_then k n1 a.fresh v1 v le1 a.agree same1 in
      let at2 = placed_more W k n1 n2 v1 a.fresh j 0 told memory a.grows a.agree at in
      let b = count_tested W z other_env n2 a.fresh d around j other (counted_at W z other_env k n2 v a.fresh d le2 same2 too) sees_too lt at2.me
      (λ w same. at2.sent w same ∙ sym message_too) g in
      let n3 = (answered d other k n2).next in
      let le3 : n1 ≤ n3 = omega (arith, a.grows, b.grows) in
      let same3 : AgreeBelow n1 b.fresh v1 = agree_then n1 n2 b.fresh a.fresh v1 a.grows b.agree a.agree in
      let node = node_is W k n1 v1 z j 0 told memory lt (omega arith) low small (sizes_more z k n1 v v1 le1 same1 sizes) at in
      let first = (answered c answer k n1).facts in
      record {
        fresh = b.fresh;
        agree = agree_then k n2 b.fresh a.fresh v le2 b.agree same2;
        grows = omega (arith, a.grows, b.grows);
        facts = λ w same. inr (
          (
            settled_more n1 n3 v1 b.fresh (is_node W k) le3 same3 node w same,
            settled_more n1 n3 v1 b.fresh extra le3 same3 also w same,
          ),
          (
            settled_more n2 n3 a.fresh b.fresh first b.grows b.agree (λ u below. (a.facts u below, a.answered u below)) w same,
            (b.facts w same, b.answered w same),
          ),
        );
      }

  -- too few messages, for one count and for two
  one_few : (env : Setting) (c : Count) (answer : Bool) (rest : Relation) (is : IsCounted W z env k v c)
      → count_below z.nodes (with_answer answer (tests W z env k v c is)) ≤ z.faults
      → IsMade k v (record {
        facts = AnyOf (IsAtMost (more c answer) (Plus FaultBound (less_number c answer))) rest;
        next = (answered c answer k (k + 3 + W)).next;
      })
  one_few env c answer rest is le =
      let grows : k + 3 + W ≤ (answered c answer k (k + 3 + W)).next =
      found_grows (Some (record { node = Variable k; message = Variable (k + 2) })) c.test c.store (k + 3 + W) in
      record {
        fresh = v;
        agree = agree_self k v;
        grows = omega (arith, grows);
        facts = λ w same.
            let below : AgreeBelow k w v = agree_less k (answered c answer k (k + 3 + W)).next w v (omega (arith, grows)) same in
            inl (omega (
              arith,
              le,
              sizes.faults w below,
              answers_counted k v w k c z answer (tests W z env k v c is) (sizes.nodes w below) (is.number w below),
            ));
      }

  two_few : (env other_env : Setting) (c d : Count) (answer other same : Bool) (rest : Relation) (is : IsCounted W z env k v c)
      (too : IsCounted W z other_env k v d)
      → count_below z.nodes (with_answer answer (tests W z env k v c is)) + count_below z.nodes (with_answer other (tests W z other_env k v d too))
      ≤ z.nodes + (if same then 0 else z.faults)
      → IsMade k v (record {
        facts = AnyOf (IsAtMost (Plus (more c answer) (more d other))
            (Plus (Plus NodeCount (if same then Constant 0 else FaultBound)) (Plus (less_number c answer) (less_number d other)))) rest;
        next = (answered d other k (answered c answer k (k + 3 + W)).next).next;
      })
  two_few env other_env c d answer other same rest is too le =
      let around : Option Around = Some (record { node = Variable k; message = Variable (k + 2) }) in
      let n2 = (answered c answer k (k + 3 + W)).next in
      let grows : k + 3 + W ≤ n2 = found_grows around c.test c.store (k + 3 + W) in
      let more_grows : n2 ≤ (answered d other k n2).next = found_grows around d.test d.store n2 in
      record {
        fresh = v;
        agree = agree_self k v;
        grows = omega (arith, grows, more_grows);
        facts = λ w agree.
            let below : AgreeBelow k w v = agree_less k (answered d other k n2).next w v (omega (arith, grows, more_grows)) agree in
            inl (omega (
              arith,
              le,
              limit same w below,
              answers_counted k v w k c z answer (tests W z env k v c is) (sizes.nodes w below) (is.number w below),
              answers_counted k v w k d z other (tests W z other_env k v d too) (sizes.nodes w below) (too.number w below),
            ));
      }
    where
      limit : (b : Bool) (w : Numbers) → AgreeBelow k w v
          → expression_number w (Plus NodeCount (if b then Constant 0 else FaultBound)) ≡ z.nodes + (if b then 0 else z.faults)
      limit true w below = omega (arith, sizes.nodes w below)
      limit false w below = omega (arith, sizes.nodes w below, sizes.faults w below)

-- ---- the laws, of two correct nodes p and q

counted_get : (W : ℕ) (z : Sizes) (env : Setting) (n : ℕ) (v : Numbers) (cs : List Count) (i : ℕ) (c : Count)
    → AllCounted W z env n v cs → slice_get cs i ≡ Some c → IsCounted W z env n v c
counted_get W z env n v [] i c all e = absurd (let never : None ≡ Some c = e in cc)
counted_get W z env n v (d ∷ cs) zero c all e =
    subst (IsCounted W z env n v) (let same : Some d ≡ Some c = e in cc) all.0
counted_get W z env n v (d ∷ cs) (suc i) c all e = counted_get W z env n v cs i c all.1 e

module _ (F W : ℕ) (condition : Condition) (P Q : ℕ) (z : Sizes) (free : ℕ → ℕ) (correct : ℕ → Bool) (env : ℕ → Setting)
    (old : ℕ → Between) (p q : ℕ) (covered : ConditionIsCovered F W condition) (room : 4 * W ≤ z.memory)
    (few : HasFewFaults z.nodes z.faults correct)
    (sees : EachCorrect z.nodes correct (λ i. Sees z correct old i (env i)))
    (can : EachCorrect z.nodes correct (λ i. CanSee z (env i)))
    (between : EachCorrect z.nodes correct (λ i. IsBetween z (old i)))
    (inside : EachTwo z.nodes correct (meets z free condition) old)
    (p_lt : p < z.nodes) (p_is : IsTrue (correct p)) (q_lt : q < z.nodes) (q_is : IsTrue (correct q)) where
  abbrev pub pair : Pair
  pair = record { words = W; condition = condition; first = P; second = Q }

  -- the variables below n say what p and q are before the pulse
  pub record Seen (n : ℕ) (v : Numbers) : Type 0 where
    pub names : Names F z free n v
    pub first : Shows W n v (start_view P) (old p)
    pub second : Shows W n v (start_view Q) (old q)

  pub seen_more : (m n : ℕ) (v w : Numbers) → m ≤ n → AgreeBelow m w v → Seen m v → Seen n w
  seen_more m n v w le same h = record {
    names = names_more F z free m n v w le same h.names;
    first = shows_more W m n v w (start_view P) (old p) le same h.first;
    second = shows_more W m n v w (start_view Q) (old q) le same h.second;
  }

  pub memory_small : (j : ℕ) → j < z.nodes → IsTrue (correct j) → (i : ℕ) → i < W → word_at i (old j).memory < 2 ^ 32
  memory_small j lt is i less =
      word_small i (old j).memory (omega (arith, room, less, (between j lt is).length)) (between j lt is).bytes

  pub correct_at : (k n : ℕ) (v : Numbers) (j : ℕ) → j < z.nodes → IsTrue (correct j) → Seen n v
      → Shows W n v (start_view k) (old j) → Settles n v (is_correct pair k)
  correct_at k n v j lt is seen at u same = (
    stated_is F W z free n v (start_view k) (start_view k) (old j) (old j) seen.names at at condition covered (inside j lt is j lt is) u same,
    (
      (
        stated_is F W z free n v (start_view k) (start_view P) (old j) (old p) seen.names at seen.first condition covered (inside j lt is p p_lt p_is) u same,
        stated_is F W z free n v (start_view P) (start_view k) (old p) (old j) seen.names seen.first at condition covered (inside p p_lt p_is j lt is) u same,
      ),
      (
        stated_is F W z free n v (start_view k) (start_view Q) (old j) (old q) seen.names at seen.second condition covered (inside j lt is q q_lt q_is) u same,
        stated_is F W z free n v (start_view Q) (start_view k) (old q) (old j) seen.names seen.second at condition covered (inside q q_lt q_is j lt is) u same,
      ),
    ),
  )

  placed_correct : (k : ℕ) (v : Numbers) (j : ℕ) → j < z.nodes → IsTrue (correct j) → Seen k v
      → Settles (k + 3 + W) (with_node k j 0 (old j).sent (old j).memory v) (is_correct pair k)
  placed_correct k v j lt is seen =
      let n1 = k + 3 + W in
      let v1 = with_node k j 0 (old j).sent (old j).memory v in
      correct_at k n1 v1 j lt is (seen_more k n1 v v1 (omega arith) (node_below k j 0 (old j).sent (old j).memory v) seen)
      (shown W k n1 v1 j 0 (old j) (placed W k j 0 (old j).sent (old j).memory v))

  one_is : (i : ℕ) → i < z.nodes → IsTrue (correct i) → (k : ℕ) (v : Numbers) → Seen k v → (c : Count) (answer : Bool)
      → IsCounted W z (env i) k v c → IsMade k v (one_count pair c answer k)
  one_is i lt is k v seen c answer counted =
      let h = tests W z (env i) k v c counted in
      let rest : Relation = AllOf (AllOf (is_node W k) (is_correct pair k)) (answered c answer k (k + 3 + W)).facts in
      elim (cases_lt z.faults (count_below z.nodes (with_answer answer h))) [
        | inl enough ↦
            let some = meaning_reaches z.nodes z.faults correct (with_answer answer h) few enough in
            let j = some.0 in
            one_passes W z k v seen.names.sizes (env i) c answer j (old j).sent (old j).memory
            (IsAtMost (more c answer) (Plus FaultBound (less_number c answer))) (is_correct pair k) (can i lt is) counted some.1
            (between j some.1 some.2.0).sent (memory_small j some.1 some.2.0)
            (heard z correct old i j (env i) (sees i lt is) some.1 some.2.0) (answer_at answer (h j) some.2.1)
            (placed_correct k v j some.1 some.2.0 seen)
        | inr le ↦ one_few W z k v seen.names.sizes (env i) c answer rest counted le
      ]

  two_same : (i : ℕ) → i < z.nodes → IsTrue (correct i) → (k : ℕ) (v : Numbers) → Seen k v → (c d : Count) (answer other : Bool)
      → IsCounted W z (env i) k v c → IsCounted W z (env i) k v d → IsMade k v (two_counts pair true c answer d other k)
  two_same i lt is k v seen c d answer other counted too =
      let g = tests W z (env i) k v c counted in
      let h = tests W z (env i) k v d too in
      let u = answered c answer k (k + 3 + W) in
      let few_of : Relation = IsAtMost (Plus (more c answer) (more d other))
      (Plus (Plus NodeCount (Constant 0)) (Plus (less_number c answer) (less_number d other))) in
      let rest : Relation = AllOf (AllOf (is_node W k) Always) (AllOf u.facts (answered d other k u.next).facts) in
      elim (cases_lt z.nodes (count_below z.nodes (with_answer answer g) + count_below z.nodes (with_answer other h))) [
        | inl enough ↦
            let some = meaning_one z.nodes (with_answer answer g) (with_answer other h) enough in
            let j = some.0 in
            let told = message_from z (env i) j in
            two_pass W z k v seen.names.sizes (env i) (env i) c d answer other j told [] few_of Always (can i lt is) (can i lt is)
            counted too some.1 (message_small z (env i) j (can i lt is).mail) (λ w lt_too. zero_word w) refl refl
            (answer_at answer (g j) some.2.0) (answer_at other (h j) some.2.1) (λ w same. tt)
        | inr le ↦ two_few W z k v seen.names.sizes (env i) (env i) c d answer other true rest counted too (omega (arith, le))
      ]

  two_other : (i j : ℕ) → i < z.nodes → IsTrue (correct i) → j < z.nodes → IsTrue (correct j) → (k : ℕ) (v : Numbers) → Seen k v
      → (c d : Count) (answer other : Bool) → IsCounted W z (env i) k v c → IsCounted W z (env j) k v d
      → IsMade k v (two_counts pair false c answer d other k)
  two_other i j lt is lt_too is_too k v seen c d answer other counted too =
      let g = tests W z (env i) k v c counted in
      let h = tests W z (env j) k v d too in
      let u = answered c answer k (k + 3 + W) in
      let few_of : Relation = IsAtMost (Plus (more c answer) (more d other))
      (Plus (Plus NodeCount FaultBound) (Plus (less_number c answer) (less_number d other))) in
      let rest : Relation = AllOf (AllOf (is_node W k) (is_correct pair k)) (AllOf u.facts (answered d other k u.next).facts) in
      elim (cases_lt (z.nodes + z.faults) (count_below z.nodes (with_answer answer g) + count_below z.nodes (with_answer other h))) [
        | inl enough ↦
            let some = meaning_two z.nodes z.faults correct (with_answer answer g) (with_answer other h) few enough in
            let w = some.0 in
            two_pass W z k v seen.names.sizes (env i) (env j) c d answer other w (old w).sent (old w).memory few_of (is_correct pair k)
            (can i lt is) (can j lt_too is_too) counted too some.1 (between w some.1 some.2.0).sent (memory_small w some.1 some.2.0)
            (heard z correct old i w (env i) (sees i lt is) some.1 some.2.0)
            (heard z correct old j w (env j) (sees j lt_too is_too) some.1 some.2.0)
            (answer_at answer (g w) some.2.1.0) (answer_at other (h w) some.2.1.1) (placed_correct k v w some.1 some.2.0 seen)
        | inr le ↦ two_few W z k v seen.names.sizes (env i) (env j) c d answer other false rest counted too le
      ]

  -- ---- uses

  one_picked : (i : ℕ) → i < z.nodes → IsTrue (correct i) → (k : ℕ) (v : Numbers) → Seen k v → (answer : Bool) (o : Option Count)
      → ((c : Count) → o ≡ Some c → IsCounted W z (env i) k v c) → IsMade k v (one_used pair o answer k)
  one_picked i lt is k v seen answer None get = made_nothing k v
  one_picked i lt is k v seen answer (Some c) get = one_is i lt is k v seen c answer (get c refl)

  same_picked : (i : ℕ) → i < z.nodes → IsTrue (correct i) → (k : ℕ) (v : Numbers) → Seen k v → (answer other : Bool)
      (o r : Option Count) → ((c : Count) → o ≡ Some c → IsCounted W z (env i) k v c)
      → ((c : Count) → r ≡ Some c → IsCounted W z (env i) k v c) → IsMade k v (two_used pair true o answer r other k)
  same_picked i lt is k v seen answer other None r get get_too = made_nothing k v
  same_picked i lt is k v seen answer other (Some c) None get get_too = made_nothing k v
  same_picked i lt is k v seen answer other (Some c) (Some d) get get_too =
      two_same i lt is k v seen c d answer other (get c refl) (get_too d refl)

  other_picked : (i j : ℕ) → i < z.nodes → IsTrue (correct i) → j < z.nodes → IsTrue (correct j) → (k : ℕ) (v : Numbers) → Seen k v
      → (answer other : Bool) (o r : Option Count) → ((c : Count) → o ≡ Some c → IsCounted W z (env i) k v c)
      → ((c : Count) → r ≡ Some c → IsCounted W z (env j) k v c) → IsMade k v (two_used pair false o answer r other k)
  other_picked i j lt is lt_too is_too k v seen answer other None r get get_too = made_nothing k v
  other_picked i j lt is lt_too is_too k v seen answer other (Some c) None get get_too = made_nothing k v
  other_picked i j lt is lt_too is_too k v seen answer other (Some c) (Some d) get get_too =
      two_other i j lt is lt_too is_too k v seen c d answer other (get c refl) (get_too d refl)

  used_is : (cs ds : List Count) (u : Use) (k : ℕ) (v : Numbers) → Seen k v → AllCounted W z (env p) k v cs
      → AllCounted W z (env q) k v ds → IsMade k v (used pair cs ds u k)
  used_is cs ds (One t) k v seen first second = by t.is_second
    where
      by : (b : Bool) → IsMade k v (one_used pair (slice_get (if b then ds else cs) t.count) t.answer k)
      by true = one_picked q q_lt q_is k v seen t.answer (slice_get ds t.count) (λ c. counted_get W z (env q) k v ds t.count c second)
      by false = one_picked p p_lt p_is k v seen t.answer (slice_get cs t.count) (λ c. counted_get W z (env p) k v cs t.count c first)
  used_is cs ds (Two t u) k v seen first second = by t.is_second u.is_second
    where
      at_p : (i : ℕ) (c : Count) → slice_get cs i ≡ Some c → IsCounted W z (env p) k v c
      at_p i c = counted_get W z (env p) k v cs i c first

      at_q : (i : ℕ) (c : Count) → slice_get ds i ≡ Some c → IsCounted W z (env q) k v c
      at_q i c = counted_get W z (env q) k v ds i c second

      by : (a b : Bool) → IsMade k v (two_used pair (if a then b else not b) (slice_get (if a then ds else cs) t.count) t.answer
          (slice_get (if b then ds else cs) u.count) u.answer k)
      by true true = same_picked q q_lt q_is k v seen t.answer u.answer (slice_get ds t.count) (slice_get ds u.count) (at_q t.count) (at_q u.count)
      by false false = same_picked p p_lt p_is k v seen t.answer u.answer (slice_get cs t.count) (slice_get cs u.count) (at_p t.count) (at_p u.count)
      by true false = other_picked q p q_lt q_is p_lt p_is k v seen t.answer u.answer (slice_get ds t.count) (slice_get cs u.count) (at_q t.count) (at_p u.count)
      by false true = other_picked p q p_lt p_is q_lt q_is k v seen t.answer u.answer (slice_get cs t.count) (slice_get ds u.count) (at_p t.count) (at_q u.count)

  pub all_used_is : (cs ds : List Count) (us : List Use) (k : ℕ) (v : Numbers) → Seen k v → AllCounted W z (env p) k v cs
      → AllCounted W z (env q) k v ds → IsMade k v (all_used pair cs ds us k)
  all_used_is cs ds [] k v seen first second = made_nothing k v
  all_used_is cs ds (u ∷ us) k v seen first second =
      let i = used pair cs ds u k in
      let x = used_is cs ds u k v seen first second in
      let y = all_used_is cs ds us i.next x.fresh (seen_more k i.next v x.fresh x.grows x.agree seen)
      (counted_more W z (env p) k i.next v x.fresh cs x.grows x.agree first)
      (counted_more W z (env q) k i.next v x.fresh ds x.grows x.agree second) in
      record {
        fresh = y.fresh;
        agree = agree_then k i.next y.fresh x.fresh v x.grows y.agree x.agree;
        grows = omega (arith, x.grows, y.grows);
        facts = λ w same. (
          settled_more i.next (all_used pair cs ds us i.next).next x.fresh y.fresh i.facts y.grows y.agree x.facts w same,
          y.facts w same,
        );
      }
