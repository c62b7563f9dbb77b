-- An open pulse, as the code holds it.
use Rattle.std.specs.Prelude.{◌≡◌, ℕ, Bool, Option, Some, None, List, [], length, All}
use Rattle.bench_core.specs.declared.pulse.Changed.{Changed}
use Rattle.bench_core.specs.declared.pulse.OpenPulse.{OpenPulse}
use Rattle.bench_core.specs.Setup.{Setup}
use Rattle.bench_core.specs.State.{Node, State, AreCoins}
use Rattle.bench_core.specs.inner.Nodes.{FitsShape}
use Rattle.bench_core.specs.Tasks.{Task, tasks_from, IsHanded}
use Rattle.bench_core.specs.Views.{setup_with}

abbrev pub setup_in : OpenPulse → Setup
setup_in p = setup_with p.shape p.rule p.clock.now

-- the state of its bench, as far as runs depend on it
abbrev pub state_of_open : OpenPulse → State
state_of_open p = record {
  nodes = p.nodes.now;
  mail = p.mail.now;
  closed = 0;
  staged = [];
  coins = Some p.coins.now;
}

-- its parts fit its shape
pub record PartsFit (p : OpenPulse) : Type 0 where
  pub count : length p.nodes.now ≡ p.shape.nodes
  pub nodes : All (FitsShape p.shape) p.nodes.now
  pub mail : length p.mail.now ≡ p.shape.nodes
  pub coins : AreCoins p.shape p.coins.now

abbrev pub tasks_by : OpenPulse → List Task
tasks_by p = tasks_from (setup_in p) p.mail.now p.coins.now p.opening 0 p.nodes.now

-- what it handed out
abbrev pub HandedBy : OpenPulse → Task → Type 0
HandedBy p = IsHanded (setup_in p) p.nodes.now p.mail.now p.coins.now p.opening

-- the nodes that changes leave of these, and what is known of them
abbrev pub nodes_left : Option Changed → List Node → List Node
nodes_left None nodes = nodes
nodes_left (Some changed) nodes = changed.nodes.items

abbrev pub flags_left : Option Changed → List Bool → List Bool
flags_left None flags = flags
flags_left (Some changed) flags = changed.flags.items

abbrev pub firsts_left : Option Changed → List ℕ → List ℕ
firsts_left None firsts = firsts
firsts_left (Some changed) firsts = changed.firsts.items
