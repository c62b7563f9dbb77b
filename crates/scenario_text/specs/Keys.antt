-- How keys are spelled (docs/SCENARIOS.md, "Keys"). The lists of each table's keys are constants.
use Rattle.std.specs.Prelude.{ℕ, List, map, codes}
use Rattle.scenario_text.specs.declared.keys.Key.{Key}
use Rattle.scenario_text.specs.declared.keys.Key.TheVariants as keys

abbrev pub key_name : Key → List ℕ
key_name keys.Version = codes "version"
key_name keys.Nodes = codes "nodes"
key_name keys.Faults = codes "faults"
key_name keys.Modulus = codes "modulus"
key_name keys.Memory = codes "memory"
key_name keys.Pulses = codes "pulses"
key_name keys.Coins = codes "coins"
key_name keys.Key = codes "key"
key_name keys.Clock = codes "clock"
key_name keys.Rule = codes "rule"
key_name keys.ZeroAgrees = codes "zero_agrees"
key_name keys.Load = codes "load"
key_name keys.Unload = codes "unload"
key_name keys.Corrupt = codes "corrupt"
key_name keys.Coin = codes "coin"
key_name keys.Pulse = codes "pulse"
key_name keys.Program = codes "program"
key_name keys.Values = codes "values"
key_name keys.Text = codes "text"
key_name keys.Node = codes "node"
key_name keys.Image = codes "image"
key_name keys.Value = codes "value"

abbrev pub names_of : List Key → List (List ℕ)
names_of all = map key_name all
