-- The cells of a sweep with properties (docs/PROPERTIES.md, "Sweeps").
use Rattle.std.specs.Prelude.{ℕ, ◌+◌, List, [], ◌∷◌, ◌++◌, codes, map}
use Rattle.std.specs.Fmt.{decimal}
use Rattle.properties.specs.declared.answers.Answer.{Answer}
use Rattle.properties.specs.declared.answers.Answer.TheVariants.{NothingJudged, Holds, HoldsFrom, Violated, ViolatedLast}
use Rattle.properties.specs.declared.property.Form.{Form}
use Rattle.properties.specs.declared.property.Form.TheVariants.{Always, EventuallyAlways, Within}
use Rattle.properties.specs.declared.property.Property.{Property}
use Rattle.properties.specs.Claims.{ClaimedPulse, answer_at}

-- ---- names

abbrev pub column_word : Form → List ℕ
column_word Always = codes "violated_"
column_word EventuallyAlways = codes "since_"
column_word (Within k) = codes "violated_"

-- the name of a property's column, with its line in the file
abbrev pub column_name : Property → List ℕ
column_name p = column_word p.form ++ decimal p.line

abbrev pub claim_names : List Property → List (List ℕ)
claim_names ps = codes "key" ∷ map column_name ps

-- ---- cells

-- In how many pulses a property is violated, or from which pulse on it holds. The cell is empty if no pulse was judged, and
-- if there is no such pulse.
abbrev pub answer_cell : Answer → List ℕ
answer_cell NothingJudged = []
answer_cell (Holds judged) = decimal 0
answer_cell (HoldsFrom pulse) = decimal pulse
answer_cell (Violated violated judged last) = decimal violated
answer_cell (ViolatedLast last) = []

-- those of the properties from a place on
abbrev pub cells_from : ℕ → List Property → List ClaimedPulse → List (List ℕ)
cells_from k [] cs = []
cells_from k (p ∷ ps) cs = answer_cell (answer_at p.form k cs) ∷ cells_from (k + 1) ps cs

-- the fields of the run with this key
abbrev pub claim_fields : ℕ → List Property → List ClaimedPulse → List (List ℕ)
claim_fields key ps cs = decimal key ∷ cells_from 0 ps cs
