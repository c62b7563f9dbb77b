-- A transition of a bench of clocks is a pulse of their rule.
use Rattle.std.proofs.Common.{◌≡◌, ◌⊎◌, inl, inr, ℕ, zero, suc, ◌+◌, ◌-◌, ◌^◌, ◌<◌, ◌≤◌, ◌==◌, nat_lt, Bool, true, cond, if◌then◌else◌, List, [], length, slice_index, Option, Some, None, IfSome, All, refl, sym, ap, ap₂, ◌∙◌, subst, arith}
use Rattle.std.specs.Prelude.{unwrap_or}
use Rattle.std.specs.Ordering.{nat_cmp}
use Rattle.std.specs.FinMap.{FinMap, get, empty}
use Rattle.std.proofs.lemmas.Bool.{lt-ltb, ne_eqb}
use Rattle.node_env.specs.declared.env.TheConstants.{NO_MAIL}
use Rattle.node_env.specs.Env.{Setting, AreNumbers, received}
use Rattle.bpf_insn.specs.declared.forms.Insn.{Insn}
use Rattle.bpf_machine.specs.Run.{CompleteRun, End}
use Rattle.bpf_verify.specs.Accepted.{Accepted}
use Rattle.clock_nodes.specs.Rule.{IsRule, clock_of, mark_of, is_mail, support, clock_below, pair_from, pair_after}
use Rattle.clock_nodes.specs.Ends.{IsSentTo, IsNodeStart}
use Rattle.clock_nodes.proofs.ClockRuns.{clock_ends_so, clock_has_runs}
use Rattle.clock_nodes.proofs.Pairs.{clock_small}
use Rattle.rule_syntax.specs.declared.syntax.Sizes.{Sizes}
use Rattle.rule_syntax.specs.declared.syntax.Statement.{Statement}
use Rattle.rule_meaning.specs.Meaning.{bit_of, truth, count_below, word_at, with_memory_word, message_from}
use Rattle.rule_nodes.specs.Ends.{AreSizes}
use Rattle.rule_nodes.proofs.Whole.{rule_ends_so, rule_has_runs}
use Rattle.rule_nodes.proofs.Words.{word_bytes}
use Rattle.rule_text.specs.Forms.{statement_form}
use Rattle.clock_rule.specs.Clock.{clock_statement}
use Rattle.clock_rule.proofs.Choice.{truth_of}
use Rattle.rule_steps.specs.Steps.{IsBetween, Sees, NodeBecomes, EachCorrect}
use Rattle.clock_steps.proofs.Pulse.{first_let, second_let, pair_of, with_words, words_are, words_length, clock_is, mark_is, node_after, becomes, pair_fits}
use Rattle.clock_steps.proofs.Steps.{Bounds}
use Rattle.bench_core.specs.Setup.{rule_of}
use Rattle.bench_core.specs.State.{AreCoins}
use Rattle.bench_moves.specs.Bed.{Bed, IsLoaded, RunsRule}
use Rattle.bench_moves.specs.Space.{ComesBy, Config, IsConfigOf, IsInbox, Moves, memory_at, sent_at}
use Rattle.bench_moves.specs.Start.{IsEvery}
use Rattle.bench_moves.specs.Paths.{AreInboxes, FollowsOn}
use Rattle.bench_moves.specs.inner.Moves.{setting_of_node}
use Rattle.bench_moves.proofs.Heeding.{clock_start}
use Rattle.sized_benches.specs.Benches.{IsClockBench, IsClockCode, IsRuleStep, IsUniform, is_loaded, node_in, bed_sizes, MovesBy}
use Rattle.sized_benches.proofs.Built.{between_in, built, built_is, is_loaded_so, loaded_by, numbers_in}
use Rattle.sized_benches.proofs.Chosen.{chosen, no_setting}

-- ---- the pair of the program and that of the rule

mail_same : (v : ℕ) (mail : Option ℕ) → v < NO_MAIL → (unwrap_or mail NO_MAIL == v) ≡ is_mail v mail
mail_same v None small = ne_eqb NO_MAIL v (λ e. omega (arith, small, e))
mail_same v (Some m) small = refl

support_is : (z : Sizes) (env : Setting) (v n : ℕ) → n ≤ z.nodes → v < NO_MAIL
    → count_below n (λ j. bit_of (message_from z env j == v)) ≡ support env.inbox v n
support_is z env v zero few small = refl
support_is z env v (suc n) few small =
    let within : nat_lt n z.nodes ≡ true = lt-ltb n z.nodes (omega (arith, few)) in
    let heard : message_from z env n ≡ received env n = ap (λ (b : Bool). if b then received env n else NO_MAIL) within in
    let one : bit_of (truth (bit_of (message_from z env n == v))) ≡ cond (is_mail v (get env.inbox n)) 1 0 =
    ap bit_of (truth_of (message_from z env n == v) ∙ ap (λ (x : ℕ). x == v) heard
    ∙ mail_same v (get env.inbox n) small) in
    ap₂ ◌+◌ (support_is z env v n (omega (arith, few)) small) one

first_let_is : (modulus : ℕ) (m : List ℕ) → 8 ≤ length m → first_let modulus m ≡ clock_below modulus (clock_of m)
first_let_is modulus m l =
    ap (λ (b : Bool). if b then word_at 0 m else 0) (truth_of (nat_lt (word_at 0 m) modulus))
    ∙ ap (clock_below modulus) (clock_is m l)

pair_is : (bed : Bed) (env : Setting) (m : List ℕ) → env.shape ≡ bed.setup.shape → 0 < bed.setup.modulus
    → bed.setup.modulus < 2 ^ 32 → 8 ≤ length m
    → pair_of (bed_sizes bed) env m ≡ pair_after bed.setup.faults bed.setup.modulus env m
pair_is bed env m shape some most l =
    let modulus = bed.setup.modulus in
    let n = bed.setup.shape.nodes in
    let q = n - bed.setup.faults in
    let z = bed_sizes bed in
    let v = clock_below modulus (clock_of m) in
    let v_small : v < modulus = clock_small modulus (clock_of m) some in
    ap (λ (x : ℕ). pair_from q modulus (second_let z env x) x (word_at 1 m) env.coin) (first_let_is modulus m l)
    ∙ ap (λ (s : ℕ). pair_from q modulus s v (word_at 1 m) env.coin)
    (support_is z env v n (omega arith) (omega (arith, v_small, most)))
    ∙ ap (λ (k : ℕ). pair_from q modulus (support env.inbox v n) v k env.coin) (mark_is m l)
    ∙ ap (λ (k : ℕ). pair_from (k - bed.setup.faults) modulus (support env.inbox v k) v (mark_of m) env.coin)
    (ap (λ e. e.nodes) (sym shape))

-- ---- loaded nodes

some_same : (p q : Accepted) → Some p ≡ Some q → p ≡ q
some_same p q e = cc

-- ---- sizes

module _ (bed : Bed) (is : IsClockBench bed) where
  abbrev n : ℕ
  n = bed.setup.shape.nodes

  abbrev z : Sizes
  z = bed_sizes bed

  abbrev loaded : ℕ → Bool
  loaded = is_loaded bed

  rule_is : IsRule n bed.setup.faults bed.setup.modulus
  rule_is = record {
    some = is.setup.extent.some;
    few = is.setup.extent.few;
    allowed = is.setup.faults;
    least = is.setup.least;
    most = is.setup.most;
  }

  pub bounds : Bounds z
  bounds = record {
    third = is.third;
    serves = record {
      nodes = omega (arith, is.setup.extent.few);
      faults = omega (arith, is.setup.faults);
      least = omega (arith, is.setup.least);
      most = omega (arith, is.setup.most);
      memory = omega (arith, is.setup.extent.least);
    };
  }

  -- ---- one node

  are_sizes : AreSizes z bed.setup.shape
  are_sizes = record {
    nodes = refl;
    memory = refl;
    faults = omega (arith, is.setup.faults, is.setup.extent.few);
    modulus = omega (arith, is.setup.most);
  }

  -- a run ends with the pair of the rule
  record Ended (env : Setting) (m : List ℕ) (end : End) : Type 0 where
    memory : end.memory ≡ with_words (pair_of z env m) m
    sent : IsSentTo n (λ j. Some (pair_of z env m).0) end.sent

  ended : (x : Config) (i : ℕ) (p : Accepted) (inbox : FinMap nat_cmp ℕ) (coin : ℕ) (end : End) → IsEvery bed x
      → IsLoaded bed i p → IsNodeStart bed.setup.shape (setting_of_node bed i inbox coin) (memory_at x i)
      → CompleteRun p.program (setting_of_node bed i inbox coin) (memory_at x i) end
      → RunsRule bed p ⊎ IsClockCode bed p → Ended (setting_of_node bed i inbox coin) (memory_at x i) end
  ended x i p inbox coin end every ok start run (inl runs) =
      let m = memory_at x i in
      let env = setting_of_node bed i inbox coin in
      let long : 8 ≤ length m = omega (arith, every.sized i p ok, is.setup.extent.least) in
      let is_end = clock_ends_so (rule_of bed.setup) bed.setup.shape rule_is refl env m end start
      (subst (λ (l : List Insn). CompleteRun l env m end) runs run) in
      let pair = pair_is bed env m refl (omega (arith, is.setup.least)) (omega (arith, is.setup.most)) long in
      record {
        memory = is_end.memory ∙ sym (words_are (pair_after bed.setup.faults bed.setup.modulus env m) m long)
            ∙ ap (λ (c : ℕ × ℕ). with_words c m) (sym pair);
        sent = subst (λ (c : ℕ × ℕ). IsSentTo n (λ j. Some c.0) end.sent) (sym pair) is_end.sent;
      }
  ended x i p inbox coin end every ok start run (inr code) =
      let m = memory_at x i in
      let env = setting_of_node bed i inbox coin in
      let is_end = rule_ends_so code.rule z bed.setup.shape are_sizes code.fits env m end start
      (subst (λ (l : List Insn). CompleteRun l env m end) code.code run) in
      let becomes_so = becomes z env (node_in x i) bounds.serves (between_in bed bed.setup.faults bed.setup.modulus x i p every ok) start.setting.coin
      code.rule code.clock in
      record {
        memory = is_end.memory ∙ sym becomes_so.memory;
        sent = subst (IsSentTo n (λ j. Some (pair_of z env m).0)) (sym is_end.sent) becomes_so.sent;
      }

  has_end : (p : Accepted) (env : Setting) (m : List ℕ) → IsNodeStart bed.setup.shape env m
      → RunsRule bed p ⊎ IsClockCode bed p → (end : End) × CompleteRun p.program env m end
  has_end p env m start (inl runs) =
      let by = clock_has_runs (rule_of bed.setup) bed.setup.shape rule_is refl env m start in
      (by.0, subst (λ (l : List Insn). CompleteRun l env m by.0) (sym runs) by.1)
  has_end p env m start (inr code) =
      let by = rule_has_runs code.rule z bed.setup.shape are_sizes code.fits env m start in
      (by.0, subst (λ (l : List Insn). CompleteRun l env m by.0) (sym code.code) by.1)

  pub record Moved (x : Config) (i : ℕ) (left : List ℕ) (row : FinMap nat_cmp ℕ) (env : Setting) : Type 0 where
    pub shape : env.shape ≡ bed.setup.shape
    pub id : env.id ≡ i
    pub coin : env.coin < 2
    pub mail : IsInbox bed x i env.inbox
    pub numbers : AreNumbers n env.inbox
    pub memory : left ≡ with_words (pair_of z env (memory_at x i)) (memory_at x i)
    pub sent : IsSentTo n (λ j. Some (pair_of z env (memory_at x i)).0) row

  moved : (x : Config) (i : ℕ) (p : Accepted) (coin : ℕ) (left : List ℕ) (row : FinMap nat_cmp ℕ) → IsEvery bed x
      → IsLoaded bed i p → coin < 2 → (by : ComesBy bed x i p coin left row)
      → Moved x i left row (setting_of_node bed i by.inbox coin)
  moved x i p coin left row every ok small by =
      let m = memory_at x i in
      let env = setting_of_node bed i by.inbox coin in
      let numbers = numbers_in bed is.lies x i p by.inbox every ok by.mail in
      let start = clock_start bed i m by.inbox coin is.setup ok.0 (every.sized i p ok) (every.bytes i p ok) numbers small in
      let end = ended x i p by.inbox coin by.end every ok start by.run (is.clocks i p ok) in
      record {
        shape = refl;
        id = refl;
        coin = small;
        mail = by.mail;
        numbers = numbers;
        memory = by.memory ∙ end.memory;
        sent = subst (IsSentTo n (λ j. Some (pair_of z env m).0)) (sym by.sends) end.sent;
      }

  -- ---- all nodes

  -- a transition, in which the coin of each node is said something of
  pub record Pulsed (R : ℕ → ℕ → Type 0) (x y : Config) (env : ℕ → Setting) : Type 0 where
    pub coin : EachCorrect n loaded (λ i. R i (env i).coin)
    pub small : EachCorrect n loaded (λ i. (env i).coin < 2)
    pub before : EachCorrect n loaded (λ i. IsBetween z (node_in x i))
    pub sees : EachCorrect n loaded (λ i. Sees z loaded (node_in x) i (env i))
    pub after : EachCorrect n loaded (λ i. node_after z (env i) (node_in x i) ≡ node_in y i)

  module _ (R : ℕ → ℕ → Type 0) (x y : Config) (left : ℕ → List ℕ) (rows : ℕ → FinMap nat_cmp ℕ)
      (every : IsEvery bed x)
      (comes : (i : ℕ) (p : Accepted) → IsLoaded bed i p
      → (coin : ℕ) × (coin < 2) × R i coin × ComesBy bed x i p coin (left i) (rows i))
      (to : IsConfigOf bed left rows y) where
    pub settings : (env : ℕ → Setting)
        × EachCorrect n loaded (λ i. Moved x i (left i) (rows i) (env i) × R i (env i).coin)
    settings = chosen no_setting n loaded (λ i env. Moved x i (left i) (rows i) env × R i env.coin) (λ i lt so.
        let by = loaded_by bed i lt so in
        let one = comes i by.0 by.1 in (
          setting_of_node bed i one.3.inbox one.0,
          (moved x i by.0 one.0 (left i) (rows i) every by.1 one.1 one.3, one.2),
        ))

    abbrev pub env : ℕ → Setting
    env = settings.0

    at : EachCorrect n loaded (λ i. Moved x i (left i) (rows i) (env i))
    at i lt so = (settings.1 i lt so).0

    memory_is : (i : ℕ) (p : Accepted) → IsLoaded bed i p
        → memory_at y i ≡ with_words (pair_of z (env i) (memory_at x i)) (memory_at x i)
    memory_is i p ok = to.memories i p ok ∙ (at i ok.0 (is_loaded_so bed i p ok)).memory

    sent_is : (i j : ℕ) (p q : Accepted) → IsLoaded bed i p → IsLoaded bed j q
        → sent_at y j i ≡ Some (pair_of z (env j) (memory_at x j)).0
    sent_is i j p q ok other =
        to.sent i j p q ok other ∙ (at j other.0 (is_loaded_so bed j q other)).sent.each i ok.0

    number_is : (j : ℕ) (q : Accepted) → IsLoaded bed j q → (pair_of z (env j) (memory_at x j)).0 ≡ (node_in y j).sent
    number_is j q other = sym (ap (λ (o : Option ℕ). unwrap_or o 0) (sent_is j j q q other other))

    after : EachCorrect n loaded (λ i. node_after z (env i) (node_in x i) ≡ node_in y i)
    after i lt so =
        let by = loaded_by bed i lt so in
        ap₂ (λ (m : List ℕ) (s : ℕ). record { memory = m; sent = s }) (sym (memory_is i by.0 by.1)) (number_is i by.0 by.1)

    between : EachCorrect n loaded (λ i. IsBetween z (node_in x i))
    between i lt so = let by = loaded_by bed i lt so in
        between_in bed bed.setup.faults bed.setup.modulus x i by.0 every by.1

    fits : EachCorrect n loaded (λ i. (pair_of z (env i) (memory_at x i)).0 < 2 ^ 32)
    fits i lt so =
        let pair = pair_fits z (env i) (node_in x i) bounds.serves (between i lt so) (at i lt so).coin in
        omega (arith, pair.0, is.setup.most)

    pub uniform : IsUniform bed y
    uniform = record {
      every = record {
        sized = λ i p ok.
            ap (λ (m : List ℕ). length m) (memory_is i p ok)
            ∙ words_length (pair_of z (env i) (memory_at x i)) (memory_at x i) ∙ every.sized i p ok;
        bytes = λ i p ok.
            let pair = pair_of z (env i) (memory_at x i) in
            subst (λ (m : List ℕ). All (λ byte. byte < 256) m) (sym (memory_is i p ok))
            (word_bytes 1 pair.1 (with_memory_word 0 pair.0 (memory_at x i))
            (word_bytes 0 pair.0 (memory_at x i) (every.bytes i p ok)));
        sent = λ i j p q ok other.
            subst (λ (o : Option ℕ). IfSome o (λ m. m < 2 ^ 32)) (sym (sent_is i j p q ok other))
            (fits j other.0 (is_loaded_so bed j q other));
      };
      same = λ i j p q ok other. sent_is i j p q ok other ∙ ap (λ (v : ℕ). Some v) (number_is j q other);
    }

    pub pulsed : IsUniform bed x → Pulsed R x y env
    pulsed uniform_x = record {
      coin = λ i lt so. (settings.1 i lt so).1;
      small = λ i lt so. (at i lt so).coin;
      before = between;
      sees = λ i lt so.
          let m = at i lt so in
          let me = loaded_by bed i lt so in
          record {
            same_nodes = ap (λ e. e.nodes) m.shape;
            same_memory = ap (λ e. e.memory) m.shape;
            id = m.id;
            coin = m.coin;
            mail = m.numbers;
            sent = λ j l s.
                let by = loaded_by bed j l s in
                m.mail.correct j by.0 by.1 ∙ uniform_x.same i j me.0 by.0 me.1 by.1;
          };
      after = after;
    }

  -- ---- transitions

  abbrev pub Comes : (ℕ → ℕ → Type 0) → Config → (ℕ → List ℕ) → (ℕ → FinMap nat_cmp ℕ) → Type 0
  Comes R x left rows = (i : ℕ) (p : Accepted) → IsLoaded bed i p
      → (coin : ℕ) × (coin < 2) × R i coin × ComesBy bed x i p coin (left i) (rows i)

  abbrev pub any_coin : ℕ → ℕ → Type 0
  any_coin i c = Unit {0}

  abbrev pub coin_in : List ℕ → ℕ → ℕ → Type 0
  coin_in coins i c = c ≡ slice_index coins i

  pub move_uniform : (x y : Config) (left : ℕ → List ℕ) (rows : ℕ → FinMap nat_cmp ℕ) → IsEvery bed x
      → Moves bed x left rows → IsConfigOf bed left rows y → IsUniform bed y
  move_uniform x y left rows every moves to =
      uniform any_coin x y left rows every (λ i p ok. let by = moves i p ok in (by.toss, by.small, tt, by.comes)) to

  pub move_pulsed : (x y : Config) (left : ℕ → List ℕ) (rows : ℕ → FinMap nat_cmp ℕ) → IsUniform bed x
      → Moves bed x left rows → IsConfigOf bed left rows y → (env : ℕ → Setting) × Pulsed any_coin x y env
  move_pulsed x y left rows ok moves to =
      let comes : Comes any_coin x left rows =
      λ i p so. let by = moves i p so in (by.toss, by.small, tt, by.comes) in
      (env any_coin x y left rows ok.every comes to, pulsed any_coin x y left rows ok.every comes to ok)

  pub by_pulsed : (x y : Config) (coins : List ℕ) (left : ℕ → List ℕ) (rows : ℕ → FinMap nat_cmp ℕ) → IsUniform bed x
      → AreCoins bed.setup.shape coins → MovesBy bed x coins left rows → IsConfigOf bed left rows y
      → (env : ℕ → Setting) × Pulsed (coin_in coins) x y env
  by_pulsed x y coins left rows ok are moves to =
      let comes : Comes (coin_in coins) x left rows =
      λ i p so. (slice_index coins i, are.1 i 0 (omega (arith, so.0, are.0)), refl, moves i p so) in
      (env (coin_in coins) x y left rows ok.every comes to, pulsed (coin_in coins) x y left rows ok.every comes to ok)

  pub step_of : (R : ℕ → ℕ → Type 0) (rule : Statement) (x y : Config) (env : ℕ → Setting)
      → statement_form rule ≡ clock_statement → Pulsed R x y env → IsRuleStep rule bed x y env
  step_of R rule x y env e pulse = record {
    before = pulse.before;
    sees = pulse.sees;
    becomes = λ i lt so.
        subst (NodeBecomes rule z (env i) (node_in x i)) (pulse.after i lt so)
        (becomes z (env i) (node_in x i) bounds.serves (pulse.before i lt so) (pulse.small i lt so) rule e);
  }

  -- ---- there is a transition

  no_end : End
  no_end = record { steps = 0; memory = []; sent = empty; r0 = 0 }

  pub leads_on : (x : Config) (inboxes : ℕ → FinMap nat_cmp ℕ) (coins : List ℕ) → IsEvery bed x
      → AreInboxes bed x inboxes → AreCoins bed.setup.shape coins → (y : Config) × FollowsOn bed x inboxes coins y
  leads_on x inboxes coins every mail are =
      let Ends = λ (i : ℕ) (end : End). (p : Accepted) → IsLoaded bed i p
      → CompleteRun p.program (setting_of_node bed i (inboxes i) (slice_index coins i)) (memory_at x i) end in
      let all = chosen no_end n loaded Ends (λ i lt so. ends i lt so) in
      let left = λ (i : ℕ). (all.0 i).memory in
      let rows = λ (i : ℕ). (all.0 i).sent in (
        built bed left rows,
        (
          left,
          rows,
          λ i p ok. record {
            end = all.0 i;
            run = all.1 i ok.0 (is_loaded_so bed i p ok) p ok;
            memory = refl;
            sends = refl;
          },
          built_is bed left rows,
        ),
      )
    where
      same_program : (i : ℕ) (p q : Accepted) → IsLoaded bed i p → IsLoaded bed i q → p ≡ q
      same_program i p q a b = some_same p q (sym a.1 ∙ b.1)

      ends : EachCorrect n loaded (λ i. (end : End) × ((p : Accepted) → IsLoaded bed i p
          → CompleteRun p.program (setting_of_node bed i (inboxes i) (slice_index coins i)) (memory_at x i) end))
      ends i lt so =
          let by = loaded_by bed i lt so in
          let numbers = numbers_in bed is.lies x i by.0 (inboxes i) every by.1 (mail i by.0 by.1) in
          let m = memory_at x i in
          let env = setting_of_node bed i (inboxes i) (slice_index coins i) in
          let start = clock_start bed i m (inboxes i) (slice_index coins i) is.setup lt (every.sized i by.0 by.1)
          (every.bytes i by.0 by.1) numbers (are.1 i 0 (omega (arith, lt, are.0))) in
          let one = has_end by.0 env m start (is.clocks i by.0 by.1) in (
            one.0,
            λ p ok. subst (λ (q : Accepted). CompleteRun q.program env m one.0) (same_program i by.0 p by.1 ok) one.1,
          )
