-- The store of the assignments so far.
use Rattle.std.specs.Prelude.{List, [], ◌∷◌}
use Rattle.rule_paths.specs.Stores.{initial_store}
use Rattle.rule_paths.specs.Stores as paths
use Rattle.rule_paths.specs.Paths.{store_with}
use Rattle.rule_formulas.specs.declared.stores.Write.{Write}
use Rattle.rule_formulas.specs.declared.stores.Store.{Store}
use Rattle.rule_formulas.specs.declared.stores.Store.TheVariants.{Start, Written'}
use Rattle.rule_formulas.specs.Numbers.{expression}

abbrev pub store_from : List Write → paths.Store → paths.Store
store_from [] s = s
store_from (w ∷ ws) s = store_from ws (store_with w.target (expression w.number) s)

abbrev pub written_store : Store → paths.Store
written_store (Start k) = initial_store k
written_store (Written' writes p before) = store_from writes.now (written_store before)
