use Rattle.toml.proofs.Views.{table_get}
use Rattle.scenario_notes.proofs.table.value_at.Goals as goal

-- What the map holds under the key is what its data holds there.
pub returns : goal.returns
returns c = table_get c.get.result c.args.key.now c.args.table.now.entries c.get.ensures.value
