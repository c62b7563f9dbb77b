-- Parts of a text, one after the other.
use Rattle.std.proofs.Common.{◌≡◌, ℕ, List, ◌++◌, ap, sym, ◌∙◌, append_assoc, Ok, Err}
use Rattle.std.specs.Prelude.{OnOk, Result}

-- the rest was added after a part, and both are the whole
pub then_rest : {A E : Type 0} (r : Result A E) (new mid old part rest whole : List ℕ) → mid ≡ old ++ part
    → whole ≡ part ++ rest → OnOk r (new ≡ mid ++ rest) → OnOk r (new ≡ old ++ whole)
then_rest (Ok x) new mid old part rest whole e f h =
    h ∙ (ap (λ (t : List ℕ). t ++ rest) e ∙ (append_assoc old part rest ∙ ap (λ (t : List ℕ). old ++ t) (sym f)))
then_rest (Err x) new mid old part rest whole e f h = tt
