-- Nodes that are all in one state, and hear from each node the number that it sent, begin a step whose condition they
-- meet.
use Rattle.std.proofs.Common.{◌≡◌, ℕ, zero, suc, ◌+◌, ◌*◌, ◌^◌, ◌<◌, ◌≤◌, Bool, true, not, All, length, replicate, Option, Some, None, IsTrue, refl, ap, sym, ◌∙◌, subst, arith, inl, inr}
use Rattle.std.specs.Prelude.{nat_le, unwrap_or}
use Rattle.std.specs.Ordering.{nat_cmp}
use Rattle.std.specs.FinMap.{FinMap, get}
use Rattle.std.proofs.lemmas.Bool.{cases_lt}
use Rattle.std.proofs.lemmas.Bool.Decides.{nat_tests}
use Rattle.std.proofs.lemmas.List.{length-replicate, get_or-replicate}
use Rattle.node_env.specs.Env.{AreNumbers, Setting}
use Rattle.node_env.specs.Slots.{map_of}
use Rattle.node_env.proofs.Slots.{get-map_of, get-map_of_past}
use Rattle.quorums.specs.Counts.{HasFewFaults, count}
use Rattle.step_searches.specs.Claims.{claim_of, coins_meet, meets}
use Rattle.step_searches.specs.declared.claims.Step.{Step}
use Rattle.step_beginnings.specs.Beginnings.{IsBegunAt, NumbersFit, everyone, free_numbers, beginning_sizes, beginning_state}
use Rattle.step_beginnings.specs.declared.beginning.Beginning.{Beginning}

-- the messages of n nodes that each sent v
abbrev messages : ℕ → ℕ → FinMap nat_cmp ℕ
messages n v = map_of (replicate {A = Option ℕ} n (Some v))

heard : (n v j : ℕ) → j < n → get (messages n v) j ≡ Some v
heard n v j lt = get-map_of (replicate n (Some v)) j ∙ get_or-replicate n j (Some v) None lt

are_numbers : (n v : ℕ) → v < 2 ^ 32 → AreNumbers n (messages n v)
are_numbers n v small j w h =
    elim (cases_lt j n) [
      | inl lt ↦ (lt, subst (λ (x : ℕ). x < 2 ^ 32) (ap (λ (o : Option ℕ). unwrap_or o 0) (sym (heard n v j lt) ∙ h)) small)
      | inr past ↦
          let none : get (messages n v) j ≡ None = get-map_of_past (replicate n (Some v)) j
          (omega (arith, past, length-replicate n (Some v))) in
          let no : None ≡ Some w = sym none ∙ h in absurd cc
    ]

none_faulty : (n : ℕ) → count n (λ j. not (everyone j)) ≡ 0
none_faulty zero = refl
none_faulty (suc n) = omega (arith, none_faulty n)

few : (n f : ℕ) → HasFewFaults n f everyone
few n f = omega (arith, none_faulty n)

at_most : (a b : ℕ) → a ≤ b → IsTrue (nat_le a b)
at_most a b le = grind (arith, nat_tests)

abbrev setting_of : Beginning → ℕ → ℕ → Setting
setting_of b coin i = record {
  shape = record { nodes = b.nodes; memory = length b.memory.items };
  id = i;
  inbox = messages b.nodes b.sent;
  coin = coin;
}

pub begun : (step : Step) (b : Beginning) (coin : ℕ) → NumbersFit b → coin < 2 → 1 ≤ b.nodes
    → 4 * step.words ≤ length b.memory.items
    → IsTrue (meets (beginning_sizes b) (free_numbers b.free.items) step.before (beginning_state b) (beginning_state b))
    → ((env : Setting) → env.coin ≡ coin → IsTrue (coins_meet (free_numbers b.free.items) step.coins env))
    → IsBegunAt (claim_of step (free_numbers b.free.items)) (beginning_sizes b)
begun step b coin fits small some room met coins = record {
  small = record { nodes = fits.nodes; faults = fits.faults; modulus = fits.modulus };
  some = some;
  covers = at_most (4 * step.words) (length b.memory.items) room;
  few = few b.nodes b.faults;
  nodes = λ i. beginning_state b;
  between = λ i lt is. record { length = refl; bytes = fits.bytes; sent = fits.sent };
  before = λ p lt_p is_p q lt_q is_q. met;
  seen = setting_of b coin;
  sees = λ i lt is. (
    record {
      same_nodes = refl;
      same_memory = refl;
      id = refl;
      coin = small;
      mail = are_numbers b.nodes b.sent fits.sent;
      sent = λ j within is_correct. heard b.nodes b.sent j within;
    },
    coins (setting_of b coin i) refl,
  );
}
