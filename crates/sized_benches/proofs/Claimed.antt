-- A transition of a bench that runs a rule is a step of the rule.
use Rattle.std.proofs.Common.{◌≡◌, ℕ, ◌^◌, ◌<◌, Bool, List, length, slice_index, Option, Some, IfSome, All, refl, sym, ap, ap₂, ◌∙◌, subst, arith}
use Rattle.std.specs.Prelude.{IsTrue, unwrap_or}
use Rattle.std.specs.Ordering.{nat_cmp}
use Rattle.std.specs.FinMap.{FinMap, get}
use Rattle.node_env.specs.Env.{AreNumbers, Setting}
use Rattle.bpf_insn.specs.declared.forms.Insn.{Insn}
use Rattle.bpf_machine.specs.Run.{CompleteRun, End}
use Rattle.bpf_verify.specs.Accepted.{Accepted}
use Rattle.clock_nodes.specs.Ends.{IsNodeStart}
use Rattle.rule_syntax.specs.declared.syntax.Sizes.{Sizes}
use Rattle.rule_syntax.specs.declared.syntax.Statement.{Statement}
use Rattle.rule_nodes.specs.Ends.{AreSizes, IsRuleEnd, sizes_of}
use Rattle.rule_nodes.proofs.Whole.{rule_ends_so}
use Rattle.rule_steps.specs.Steps.{AreSmall, Claim, EachCorrect, EachTwo, Holds, Sees, Stepped}
use Rattle.bench_core.specs.State.{AreCoins}
use Rattle.bench_moves.specs.Bed.{Bed, IsLoaded}
use Rattle.bench_moves.specs.Space.{ComesBy, Config, IsConfigOf, IsInbox, memory_at, sent_at}
use Rattle.bench_moves.specs.Start.{IsEvery}
use Rattle.bench_moves.specs.inner.Moves.{setting_of_node}
use Rattle.sized_benches.specs.Benches.{IsUniform, is_loaded, node_in, MovesBy}
use Rattle.sized_benches.specs.Claimed.{AreFixed, ClaimsHold, IsRuleBench}
use Rattle.sized_benches.proofs.Built.{between_in, is_loaded_so, loaded_by, numbers_in}
use Rattle.sized_benches.proofs.Chosen.{chosen, no_setting}

module _ (rule : Statement) (f m : ℕ) (bed : Bed) (is : IsRuleBench rule f m bed) where
  abbrev n : ℕ
  n = bed.setup.shape.nodes

  abbrev z : Sizes
  z = sizes_of bed.setup.shape f m

  abbrev loaded : ℕ → Bool
  loaded = is_loaded bed

  record Ran (x : Config) (i tossed : ℕ) (left : List ℕ) (row : FinMap nat_cmp ℕ) (env : Setting) : Type 0 where
    shape : env.shape ≡ bed.setup.shape
    id : env.id ≡ i
    small : env.coin < 2
    coin : env.coin ≡ tossed
    mail : IsInbox bed x i env.inbox
    numbers : AreNumbers n env.inbox
    end : End
    is_end : IsRuleEnd z rule env (memory_at x i) end
    memory : left ≡ end.memory
    sends : row ≡ end.sent

  ran : (x : Config) (i : ℕ) (p : Accepted) (coin : ℕ) (left : List ℕ) (row : FinMap nat_cmp ℕ) → IsEvery bed x
      → IsLoaded bed i p → coin < 2 → (by : ComesBy bed x i p coin left row)
      → Ran x i coin left row (setting_of_node bed i by.inbox coin)
  ran x i p coin left row every ok small by =
      let env = setting_of_node bed i by.inbox coin in
      let numbers = numbers_in bed is.lies x i p by.inbox every ok by.mail in
      let start : IsNodeStart bed.setup.shape env (memory_at x i) = record {
        extent = refl;
        setting = record { extent = is.extent; id = ok.0; mail = numbers; coin = small };
        length = every.sized i p ok;
        bytes = every.bytes i p ok;
      } in
      let are : AreSizes z bed.setup.shape = record {
        nodes = refl;
        memory = refl;
        faults = is.faults;
        modulus = is.modulus;
      } in
      record {
        shape = refl;
        id = refl;
        small = small;
        coin = refl;
        mail = by.mail;
        numbers = numbers;
        end = by.end;
        is_end = rule_ends_so rule z bed.setup.shape are is.fits env (memory_at x i) by.end start
            (subst (λ (l : List Insn). CompleteRun l env (memory_at x i) by.end) (is.code i p ok) by.run);
        memory = by.memory;
        sends = by.sends;
      }

  module _ (claim : Claim) (holds : Holds rule claim) (covered : IsTrue (claim.covers z)) (x y : Config)
      (coins : List ℕ) (left : ℕ → List ℕ) (rows : ℕ → FinMap nat_cmp ℕ) (are : AreCoins bed.setup.shape coins)
      (fixed : AreFixed claim coins) (uniform : IsUniform bed x) (moves : MovesBy bed x coins left rows)
      (to : IsConfigOf bed left rows y)
      (inside : EachTwo n loaded (claim.before z loaded) (node_in x)) where
    settings : (env : ℕ → Setting)
        × EachCorrect n loaded (λ i. Ran x i (slice_index coins i) (left i) (rows i) (env i))
    settings = chosen no_setting n loaded (λ i env. Ran x i (slice_index coins i) (left i) (rows i) env) (λ i lt so.
        let by = loaded_by bed i lt so in
        let one = moves i by.0 by.1 in (
          setting_of_node bed i one.inbox (slice_index coins i),
          ran x i by.0 (slice_index coins i) (left i) (rows i) uniform.every by.1
              (are.1 i 0 (omega (arith, lt, are.0))) one,
        ))

    abbrev env : ℕ → Setting
    env = settings.0

    at : EachCorrect n loaded (λ i. Ran x i (slice_index coins i) (left i) (rows i) (env i))
    at = settings.1

    sees : EachCorrect n loaded (λ i. Sees z loaded (node_in x) i (env i))
    sees i lt so =
        let one = at i lt so in
        let me = loaded_by bed i lt so in
        record {
          same_nodes = ap (λ e. e.nodes) one.shape;
          same_memory = ap (λ e. e.memory) one.shape;
          id = one.id;
          coin = one.small;
          mail = one.numbers;
          sent = λ j l s.
              let by = loaded_by bed j l s in
              one.mail.correct j by.0 by.1 ∙ uniform.same i j me.0 by.0 me.1 by.1;
        }

    small : AreSmall z
    small = record { nodes = omega (arith, is.extent.few); faults = is.faults; modulus = is.modulus }

    step : Stepped rule z loaded (claim.after z loaded) env (node_in x)
    step = holds z loaded small covered is.few env (node_in x)
        (λ i lt so. let by = loaded_by bed i lt so in between_in bed f m x i by.0 uniform.every by.1) inside
        (λ i lt so. (sees i lt so, fixed (env i) i (at i lt so).coin))

    memory_is : (i : ℕ) (p : Accepted) → IsLoaded bed i p → memory_at y i ≡ (step.new i).memory
    memory_is i p ok =
        let so = is_loaded_so bed i p ok in
        let one = at i ok.0 so in
        to.memories i p ok ∙ one.memory ∙ one.is_end.memory ∙ sym (step.becomes i ok.0 so).memory

    sent_is : (i j : ℕ) (p q : Accepted) → IsLoaded bed i p → IsLoaded bed j q
        → sent_at y j i ≡ Some (step.new j).sent
    sent_is i j p q ok other =
        let so = is_loaded_so bed j q other in
        let one = at j other.0 so in
        to.sent i j p q ok other ∙ ap (λ (row : FinMap nat_cmp ℕ). get row i) (one.sends ∙ one.is_end.sent)
        ∙ (step.becomes j other.0 so).sent.each i ok.0

    number_is : (j : ℕ) (q : Accepted) → IsLoaded bed j q → (step.new j).sent ≡ (node_in y j).sent
    number_is j q other = sym (ap (λ (o : Option ℕ). unwrap_or o 0) (sent_is j j q q other other))

    same : EachCorrect n loaded (λ i. step.new i ≡ node_in y i)
    same i lt so =
        let by = loaded_by bed i lt so in
        ap₂ (λ (b : List ℕ) (s : ℕ). record { memory = b; sent = s }) (sym (memory_is i by.0 by.1)) (number_is i by.0 by.1)

    pub goes : IsUniform bed y × EachTwo n loaded (claim.after z loaded) (node_in y)
    goes = (
      record {
        every = record {
          sized = λ i p ok.
              ap (λ (b : List ℕ). length b) (memory_is i p ok)
              ∙ (step.becomes i ok.0 (is_loaded_so bed i p ok)).between.length;
          bytes = λ i p ok.
              subst (λ (b : List ℕ). All (λ byte. byte < 256) b) (sym (memory_is i p ok))
              (step.becomes i ok.0 (is_loaded_so bed i p ok)).between.bytes;
          sent = λ i j p q ok other.
              subst (λ (o : Option ℕ). IfSome o (λ v. v < 2 ^ 32)) (sym (sent_is i j p q ok other))
              (step.becomes j other.0 (is_loaded_so bed j q other)).between.sent;
        };
        same = λ i j p q ok other. sent_is i j p q ok other ∙ ap (λ (v : ℕ). Some v) (number_is j q other);
      },
      λ p lt so q lt_q so_q.
          sym (ap₂ (claim.after z loaded) (same p lt so) (same q lt_q so_q)) ∙ step.each p lt so q lt_q so_q,
    )

pub claims_hold : ClaimsHold
claims_hold rule claim f m bed x y coins holds is covered are fixed uniform follows inside =
    goes rule f m bed is claim holds covered x y coins follows.0 follows.1 are fixed uniform follows.2 follows.3 inside
