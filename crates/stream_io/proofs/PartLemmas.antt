-- Texts that are written part by part.
use Rattle.std.proofs.Common.{◌≡◌, ℕ, ◌+◌, ◌<◌, List, [], ◌++◌, length, min, take, append-nil, length-append, arith, refl, sym, subst}
use Rattle.std.specs.Prelude.{Err, IsErrAnd, Ok, Option, Result}
use Rattle.std.specs.Io.KnownBytes.{Appends}
use Rattle.std.proofs.KnownBytes.{Appends-nil, Appends-trans}
use Rattle.std.proofs.Math.Seq.{take-append-add}
use Rattle.std.proofs.lemmas.List.{take-append-le}
use Rattle.stream_io.specs.Parts.{Adds, Breaks, MAX_TOLD, Wrote}

pub broken : (old new start : Option (List ℕ)) (before written taken : ℕ) (part text : List ℕ) → taken < length part
    → written ≡ min (before + taken) MAX_TOLD → Appends old new (take taken part) → Wrote start old text before
    → Breaks start new (text ++ part) written
broken old new start before written taken part text few number left wrote = record {
  taken = length text + taken;
  part = omega (arith, few, length-append text part);
  number = let count = wrote.number in omega (arith, count, number);
  left = subst (Appends start new) (sym (take-append-add text part taken))
      (Appends-trans start old new text (take taken part) wrote.left left);
}

pub wrote_nothing : (known : Option (List ℕ)) → Wrote known known [] 0
wrote_nothing known = record { left = Appends-nil known; number = refl }

pub adds_nothing : (known : Option (List ℕ)) (count : ℕ) → Adds known known count [] count
adds_nothing known count start text wrote =
    subst (λ (t : List ℕ). Wrote start known t count) (sym (append-nil text)) wrote

-- what is broken off of a text is broken off of a longer one
pub breaks_longer : (old new : Option (List ℕ)) (text more : List ℕ) (written : ℕ) → Breaks old new text written
    → Breaks old new (text ++ more) written
breaks_longer old new text more written breaks =
    let few = breaks.part in
    record {
      taken = breaks.taken;
      part = omega (arith, few, length-append text more);
      number = breaks.number;
      left = subst (Appends old new) (sym (take-append-le breaks.taken text more (omega (arith, few)))) breaks.left;
    }

-- an error that is handed on
pub handed_on : {A E : Type 0} (P : Result A E → Type 0) (error : E) (result : Result A E) → P (Err error)
    → IsErrAnd result (λ e. e ≡ error) → P result
handed_on P error (Ok a) holds is = absurd is
handed_on P error (Err e) holds is = subst (λ x. P (Err x)) (sym is) holds
