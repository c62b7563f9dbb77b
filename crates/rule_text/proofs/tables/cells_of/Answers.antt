use Rattle.std.proofs.Common.{ℕ, List, take, ap, ◌∙◌}
use Rattle.std.proofs.lemmas.List.{take_min}
use Rattle.rule_text.specs.declared.layout.TheConstants.{MAX_TABLE_CELLS}
use Rattle.rule_text.proofs.tables.cells_of.Goals as goal

pub returns-clause-cells : goal.returns-clause-cells
returns-clause-cells c =
    ap (λ (n : ℕ). take n c.deref-all.result.now) c.min.ensures
    ∙ take_min MAX_TABLE_CELLS c.deref-all.result.now
    ∙ ap (λ (l : List ℕ). take MAX_TABLE_CELLS l) c.deref-all.ensures.value
