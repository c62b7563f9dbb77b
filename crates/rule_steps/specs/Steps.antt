-- A step of a rule for all sizes: if each two correct nodes are in a set before a pulse, each two are in another set
-- after it, whatever the other nodes send.
use Rattle.std.specs.Prelude.{◌≡◌, ℕ, suc, ◌^◌, ◌<◌, Bool, List, length, All, Some, IsTrue}
use Rattle.std.specs.FinMap.{get}
use Rattle.node_env.specs.Env.{Setting, AreNumbers}
use Rattle.clock_nodes.specs.Ends.{IsSentTo}
use Rattle.rule_syntax.specs.declared.syntax.Sizes.{Sizes}
use Rattle.rule_syntax.specs.declared.syntax.Statement.{Statement}
use Rattle.rule_meaning.specs.Meaning.{pulse}
use Rattle.quorums.specs.Counts.{HasFewFaults}

-- a node between two pulses: its memory, and the number that it sent to all
pub record Between : Type 0 where
  pub memory : List ℕ
  pub sent : ℕ

pub record IsBetween (z : Sizes) (node : Between) : Type 0 where
  pub length : length node.memory ≡ z.memory
  pub bytes : All (λ byte. byte < 256) node.memory
  pub sent : node.sent < 2 ^ 32

-- what node i sees in a pulse: of each correct node the number that it sent, of each other node any number or nothing,
-- and any coin
pub record Sees (z : Sizes) (correct : ℕ → Bool) (nodes : ℕ → Between) (i : ℕ) (env : Setting) : Type 0 where
  pub same_nodes : env.shape.nodes ≡ z.nodes
  pub same_memory : env.shape.memory ≡ z.memory
  pub id : env.id ≡ i
  pub coin : env.coin < 2
  pub mail : AreNumbers z.nodes env.inbox
  pub sent : (j : ℕ) → j < z.nodes → IsTrue (correct j) → get env.inbox j ≡ Some (nodes j).sent

-- what the rule leaves of a node, which sends one number to all
pub record NodeBecomes (rule : Statement) (z : Sizes) (env : Setting) (old new : Between) : Type 0 where
  pub memory : new.memory ≡ (pulse rule z env old.memory).memory
  pub sent : IsSentTo z.nodes (λ j. Some new.sent) (pulse rule z env old.memory).sent
  pub between : IsBetween z new

abbrev pub EachCorrect : ℕ → (ℕ → Bool) → (ℕ → Type 0) → Type 0
EachCorrect n correct P = (i : ℕ) → i < n → IsTrue (correct i) → P i

-- each two correct nodes, which may be one, are in the set
abbrev pub EachTwo : ℕ → (ℕ → Bool) → (Between → Between → Bool) → (ℕ → Between) → Type 0
EachTwo n correct S nodes =
    EachCorrect n correct (λ p. EachCorrect n correct (λ q. IsTrue (S (nodes p) (nodes q))))

-- the nodes after a pulse, each two of them in the set
pub record Stepped (rule : Statement) (z : Sizes) (correct : ℕ → Bool) (S : Between → Between → Bool)
    (env : ℕ → Setting) (old : ℕ → Between) : Type 0 where
  pub new : ℕ → Between
  pub becomes : EachCorrect z.nodes correct (λ i. NodeBecomes rule z (env i) (old i) (new i))
  pub each : EachTwo z.nodes correct S new

-- one pulse leads from the set A to the set B, where a test holds of what each correct node sees
abbrev pub StepLeads : Statement → Sizes → (ℕ → Bool) → (Setting → Bool) → (Between → Between → Bool)
    → (Between → Between → Bool) → Type 0
StepLeads rule z correct fixed A B =
    (env : ℕ → Setting) (old : ℕ → Between) → EachCorrect z.nodes correct (λ i. IsBetween z (old i))
    → EachTwo z.nodes correct A old
    → EachCorrect z.nodes correct (λ i. Sees z correct old i (env i) × IsTrue (fixed (env i)))
    → Stepped rule z correct B env old

-- sizes that 32 bits hold
pub record AreSmall (z : Sizes) : Type 0 where
  pub nodes : z.nodes < 2 ^ 32
  pub faults : z.faults < 2 ^ 32
  pub modulus : z.modulus < 2 ^ 32

-- A step of a file of claims. `covers`: what is assumed of the sizes. `fixed`: what is said of coins. Of the sets
-- before and after, the first argument is the sizes and the second says which nodes are correct.
pub record Claim : Type 0 where
  pub covers : Sizes → Bool
  pub fixed : Setting → Bool
  pub before : Sizes → (ℕ → Bool) → Between → Between → Bool
  pub after : Sizes → (ℕ → Bool) → Between → Between → Bool

-- The step holds: at all sizes that are covered, with every set of correct nodes outside which there are at most f.
abbrev pub Holds : Statement → Claim → Type 0
Holds rule claim =
    (z : Sizes) (correct : ℕ → Bool) → AreSmall z → IsTrue (claim.covers z) → HasFewFaults z.nodes z.faults correct
    → StepLeads rule z correct claim.fixed (claim.before z correct) (claim.after z correct)

-- ---- runs

-- pulses of the rule, without end: nodes k are those before pulse k, and env k is what they see in it
pub record IsRuleRun (rule : Statement) (z : Sizes) (correct : ℕ → Bool) (env : ℕ → ℕ → Setting) (nodes : ℕ → ℕ → Between)
    : Type 0 where
  pub start : EachCorrect z.nodes correct (λ i. IsBetween z (nodes 0 i))
  pub sees : (k : ℕ) → EachCorrect z.nodes correct (λ i. Sees z correct (nodes k) i (env k i))
  pub becomes : (k : ℕ) → EachCorrect z.nodes correct (λ i. NodeBecomes rule z (env k i) (nodes k i) (nodes (suc k) i))
