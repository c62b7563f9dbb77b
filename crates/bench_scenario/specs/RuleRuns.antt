-- What rules do in a run (docs/RULES.md, "Meaning"): a closed pulse can be read by the rules alone.
use Rattle.std.specs.Prelude.{◌≡◌, ℕ, ◌<◌, Some, List, All}
use Rattle.bpf_verify.specs.Accepted.{Accepted}
use Rattle.rule_syntax.specs.declared.syntax.Sizes.{Sizes}
use Rattle.rule_syntax.specs.declared.syntax.Statement.{Statement}
use Rattle.rule_nodes.specs.Code.{rule_code}
use Rattle.rule_nodes.specs.Ends.{AreSizes}
use Rattle.rule_nodes.specs.Fits.{BlockFits}
use Rattle.rule_meaning.specs.Meaning.{NodeState, pulse}
use Rattle.bench_core.specs.Setup.{Setup, IsSetup}
use Rattle.bench_core.specs.State.{State, new_state, node_at, mail_from, setting_at, coins_of}
use Rattle.bench_core.specs.Pulse.{Pulse}
use Rattle.bench_core.specs.Replay.{StagesAccepted}
use Rattle.bench_core.specs.StepList.{Act, Performs, entries_of}

-- what a rule means for node i in the open pulse: of its memory, its inbox, its coin and its number
abbrev pub meant_at : Setup → State → ℕ → Statement → Sizes → NodeState
meant_at s b i rule z = pulse rule z (setting_at s b.mail (coins_of b) i) (node_at b.nodes i).memory

-- after the closed pulse node i has the memory, and has sent the messages, that the rule means
pub record DoesRule (s : Setup) (b b' : State) (i : ℕ) (rule : Statement) (z : Sizes) : Type 0 where
  pub memory : (node_at b'.nodes i).memory ≡ (meant_at s b i rule z).memory
  pub sends : mail_from b'.mail i ≡ (meant_at s b i rule z).sent

-- over every list of steps that stages accepted programs, in every closed pulse, each node whose program is the code of
-- a rule does what the rule means
abbrev pub RulesRun : Type 0
RulesRun = (s : Setup) (acts : List Act) (b b' : State) (i : ℕ) (p : Accepted) (rule : Statement) (z : Sizes)
    → IsSetup s → Performs s (new_state s) acts b → All StagesAccepted (entries_of acts) → Pulse s b b'
    → i < s.shape.nodes → (node_at b.nodes i).program ≡ Some p → AreSizes z s.shape → BlockFits rule z 0 0
    → p.program ≡ rule_code rule z → DoesRule s b b' i rule z
