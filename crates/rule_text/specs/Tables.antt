-- Tables: what a cell is, and the term that looks one up (docs/RULES.md, "Order and tables").
use Rattle.std.specs.Prelude.{ℕ, zero, suc, ◌+◌, ◌/◌, ◌==◌, if◌then◌else◌, List, [], ◌∷◌, ◌++◌, length, take, drop, get_or, map}
use Rattle.node_env.specs.declared.env.TheConstants.{NO_MAIL}
use Rattle.rule_syntax.specs.declared.syntax.Comparison.TheVariants.{Less}
use Rattle.rule_syntax.specs.declared.syntax.Operator.TheVariants.{Compare}
use Rattle.rule_text.specs.declared.layout.TheConstants.{MAX_TABLE_CELLS}
use Rattle.rule_text.specs.declared.tables.Table.{Table}
use Rattle.rule_text.specs.declared.tables.Source.{Source}
use Rattle.rule_text.specs.declared.tables.Header.{Header}
use Rattle.rule_text.specs.declared.lookups.Run.{Run}
use Rattle.rule_text.specs.declared.scope.Entry.{Entry}
use Rattle.rule_text.specs.Forms.{TermForm, number, binary, choice}

-- the cell at a place, from 0 on; no message past the end
abbrev pub cell_at : List ℕ → ℕ → ℕ
cell_at cells place = get_or cells place NO_MAIL

-- what is read, and the cells of its tables
pub record SourceForm : Type 0 where
  pub text : List ℕ
  pub tables : List (List ℕ)

-- no table that is read has more cells than these
abbrev pub cells_of : Table → List ℕ
cells_of table = take MAX_TABLE_CELLS table.cells.items

abbrev pub source_form : Source → SourceForm
source_form source = record { text = source.text.now; tables = map cells_of source.tables.now }

-- the names of words and tables that a rule begins with, and the cells of its tables
pub record HeaderForm : Type 0 where
  pub names : List Entry
  pub tables : List (List ℕ)

abbrev pub header_form : Header → HeaderForm
header_form header = record { names = header.names.items; tables = map cells_of header.tables.items }

abbrev pub no_header : HeaderForm
no_header = record { names = []; tables = [] }

abbrev pub source_with : List ℕ → HeaderForm → SourceForm
source_with text header = record { text = text; tables = header.tables }

-- the table with this number; one without cells if there is none
abbrev pub table_at : List (List ℕ) → ℕ → List ℕ
table_at tables k = get_or tables k []

-- ---- runs of equal cells

abbrev pub run : ℕ → ℕ → Run
run place cell = record { first = place; number = cell }

-- the run that begins at a place, after a cell of another number
abbrev pub run_at : ℕ → ℕ → ℕ → List Run
run_at place last cell = if cell == last then [] else run place cell ∷ []

-- the runs that begin in the cells from a place on
abbrev pub runs_from : ℕ → ℕ → List ℕ → List Run
runs_from place last [] = []
runs_from place last (c ∷ cs) = run_at place last c ++ runs_from (place + 1) c cs

-- the last run goes on past the end of the table
abbrev pub runs_of : List ℕ → List Run
runs_of cells = run 0 (cell_at cells 0) ∷ runs_from 0 (cell_at cells 0) (cells ++ NO_MAIL ∷ [])

-- ---- the search for the run of a place x, which halves the runs at each step

-- where the second half of the runs begins
abbrev pub middle : List Run → List Run
middle runs = drop (length runs / 2) runs

abbrev pub first_run : List Run → Run
first_run runs = get_or runs 0 (run 0 NO_MAIL)

-- with at most this many steps
abbrev pub looked_up : ℕ → List Run → TermForm → TermForm
looked_up zero runs x = number (first_run runs).number
looked_up (suc steps) runs x =
    if length runs / 2 == 0 then number (first_run runs).number else
    choice (binary (Compare Less) x (number (first_run (middle runs)).first))
    (looked_up steps (take (length runs / 2) runs) x) (looked_up steps (middle runs) x)

-- the term for the cell at a place
abbrev pub table_term : List ℕ → TermForm → TermForm
table_term cells x = let runs = runs_of cells in looked_up (length runs) runs x
