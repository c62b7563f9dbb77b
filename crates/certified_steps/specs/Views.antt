-- The numbers of a node, as conditions see them.
use Rattle.rule_formulas.specs.Numbers.{expression}
use Rattle.rule_formulas.specs.Stores.{written_store}
use Rattle.step_searches.specs.Views as views
use Rattle.step_searches.specs.Views.{end_view}
use Rattle.certified_steps.specs.declared.views.View.{View}

abbrev pub view : View → views.View
view node = end_view (written_store node.store.now) (expression node.sent)
