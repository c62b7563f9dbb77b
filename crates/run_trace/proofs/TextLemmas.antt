-- The lines of a trace, one after the other.
use Rattle.std.proofs.Common.{◌≡◌, ℕ, suc, ◌+◌, List, [], ◌∷◌, ◌++◌, codes, length, take, Result, Err, arith, ap, sym, subst, ◌∙◌}
use Rattle.std.specs.Prelude.{IsErrAnd, Option}
use Rattle.std.specs.Io.KnownBytes.{Appends}
use Rattle.std.proofs.KnownBytes.{Appends-kept}
use Rattle.std.proofs.Math.Seq.{take-append_seam}
use Rattle.std.proofs.lemmas.List.{append_assoc, append-nil, length-append}
use Rattle.bpf_insn.specs.declared.forms.Insn.{Insn}
use Rattle.stream_io.specs.declared.parts.PartFault.{PartFault}
use Rattle.stream_io.specs.declared.parts.PartFault.TheVariants as faults
use Rattle.stream_io.specs.Parts.{Adds, Breaks, IsPartFault, Wrote}
use Rattle.stream_io.proofs.PartLemmas.{breaks_longer, handed_on}
use Rattle.run_trace.specs.declared.tracing.Traced.{Traced}
use Rattle.run_trace.specs.Lines.{lines_from, trace_line, trace_text}
use Rattle.run_trace.specs.Steps.{TracedStep}
use Rattle.run_trace.specs.Traces.{LeavesTrace}

lines_append : (program : List Insn) (number : ℕ) (xs ys : List TracedStep)
    → lines_from program number (xs ++ ys) ≡ lines_from program number xs ++ lines_from program (number + length xs) ys
lines_append program number [] ys = ap (λ n. lines_from program n ys) (omega arith)
lines_append program number (x ∷ xs) ys =
    let line = trace_line program number x in
    let rest = lines_append program (suc number) xs ys in
    let place : suc number + length xs ≡ number + length (x ∷ xs) = omega arith in
    let back = lines_from program (number + length (x ∷ xs)) ys in
    ap (λ t. line ++ (codes "\n" ++ t))
    (rest ∙ ap (λ n. lines_from program (suc number) xs ++ lines_from program n ys) place)
    ∙ sym (append_assoc line (codes "\n" ++ lines_from program (suc number) xs) back)

one_more : (program : List Insn) (front : List TracedStep) (x : TracedStep) (taken : ℕ) → length front ≡ taken
    → trace_text program (front ++ (x ∷ []))
    ≡ trace_text program front ++ (trace_line program (taken + 1) x ++ codes "\n")
one_more program front x taken count =
    let place : 1 + length front ≡ taken + 1 = omega (arith, count) in
    lines_append program 1 front (x ∷ [])
    ∙ ap (λ n. trace_text program front ++ (trace_line program n x ++ codes "\n")) place

-- the steps that were taken, and the lines of them that were written
pub record Told (old now : Option (List ℕ)) (program : List Insn) (all rest : List TracedStep) (taken written : ℕ)
    : Type 0 where
  pub front : List TracedStep
  pub split : all ≡ front ++ rest
  pub count : length front ≡ taken
  pub wrote : Wrote old now (trace_text program front) written

-- a step is one of the front then
one_taken : (front rest all steps : List TracedStep) (x : TracedStep) → all ≡ front ++ steps → steps ≡ x ∷ rest
    → all ≡ (front ++ (x ∷ [])) ++ rest
one_taken front rest all steps x split first =
    split ∙ (ap (λ r. front ++ r) first ∙ sym (append_assoc front (x ∷ []) rest))

line_more : (program : List Insn) (front : List TracedStep) (x : TracedStep) (taken : ℕ) (line : List ℕ) → length front ≡ taken
    → line ≡ trace_line program (taken + 1) x
    → trace_text program (front ++ (x ∷ [])) ≡ trace_text program front ++ (line ++ codes "\n")
line_more program front x taken line count is =
    one_more program front x taken count ∙ ap (λ l. trace_text program front ++ (l ++ codes "\n")) (sym is)

pub told_more : (old now new : Option (List ℕ)) (program : List Insn) (all steps rest : List TracedStep) (x : TracedStep)
    (taken before after : ℕ) (line : List ℕ) → Told old now program all steps taken before → steps ≡ x ∷ rest
    → line ≡ trace_line program (taken + 1) x → Adds now new before (line ++ codes "\n") after
    → Told old new program all rest (taken + 1) after
told_more old now new program all steps rest x taken before after line told first is adds =
    let count = told.count in
    record {
      front = told.front ++ (x ∷ []);
      split = one_taken told.front rest all steps x told.split first;
      count = omega (arith, count, length-append told.front (x ∷ []));
      wrote = subst (λ (t : List ℕ). Wrote old new t after)
          (sym (line_more program told.front x taken line told.count is))
          (adds old (trace_text program told.front) told.wrote);
    }

pub all_told : (old now : Option (List ℕ)) (program : List Insn) (all rest : List TracedStep) (taken written : ℕ)
    → Told old now program all rest taken written → rest ≡ [] → Wrote old now (trace_text program all) written
all_told old now program all rest taken written told none =
    subst (λ steps. Wrote old now (trace_text program steps) written)
    (sym (told.split ∙ (ap (λ r. told.front ++ r) none ∙ append-nil told.front))) told.wrote

told_broken : (old now new : Option (List ℕ)) (program : List Insn) (all steps rest : List TracedStep) (x : TracedStep)
    (taken before : ℕ) (line : List ℕ) (fault : PartFault) → Told old now program all steps taken before
    → steps ≡ x ∷ rest → line ≡ trace_line program (taken + 1) x
    → IsPartFault now new before (line ++ codes "\n") fault → LeavesTrace old new program all (Err fault)
told_broken old now new program all steps rest x taken before line (faults.Write written) told first is broke =
    let front = told.front ++ (x ∷ []) in
    let back = lines_from program (1 + length front) rest in
    let whole : trace_text program all ≡ (trace_text program told.front ++ (line ++ codes "\n")) ++ back =
    ap (trace_text program) (one_taken told.front rest all steps x told.split first)
    ∙ (lines_append program 1 front rest
    ∙ ap (λ t. t ++ back) (line_more program told.front x taken line told.count is)) in
    subst (λ (t : List ℕ). Breaks old new t written) (sym whole)
    (breaks_longer old new _ back written (broke old (trace_text program told.front) told.wrote))
told_broken old now new program all steps rest x taken before line faults.Memory told first is kept =
    let whole : all ≡ told.front ++ (x ∷ rest) = told.split ∙ ap (λ r. told.front ++ r) first in
    let front : take (length told.front) all ≡ told.front =
    ap (take (length told.front)) whole ∙ take-append_seam told.front (x ∷ rest) in
    let size = ap length whole in
    record {
      count = length told.front;
      fewer = omega (arith, size, length-append told.front (x ∷ rest));
      left = subst (λ l. Appends old new (trace_text program l)) (sym front)
          (Appends-kept old now new (trace_text program told.front) told.wrote.left kept);
    }

pub line_broken : (old now new : Option (List ℕ)) (program : List Insn) (all steps rest : List TracedStep) (x : TracedStep)
    (taken before : ℕ) (line : List ℕ) (fault : PartFault) (result : Result Traced PartFault)
    → Told old now program all steps taken before → steps ≡ x ∷ rest → line ≡ trace_line program (taken + 1) x
    → IsPartFault now new before (line ++ codes "\n") fault → IsErrAnd result (λ e. e ≡ fault)
    → LeavesTrace old new program all result
line_broken old now new program all steps rest x taken before line fault result told first is broke given =
    handed_on (LeavesTrace old new program all) fault result
    (told_broken old now new program all steps rest x taken before line fault told first is broke) given
