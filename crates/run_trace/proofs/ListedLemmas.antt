-- The lines of a rule's program, one after the other.
use Rattle.std.proofs.Common.{◌≡◌, ℕ, suc, ◌+◌, List, [], ◌∷◌, ◌++◌, append-nil, append_assoc, arith, sym, ap, ◌∙◌}
use Rattle.std.specs.Prelude.{codes}
use Rattle.bpf_insn.specs.declared.forms.Insn.{Insn}
use Rattle.rule_listing.specs.Listing.{heading_by, line_at}
use Rattle.run_trace.specs.Lines.{listed_steps_from, trace_line}
use Rattle.run_trace.specs.Steps.{TracedStep}

-- the step of this number is told, and the others are left
pub listed_more : (text lines : List ℕ) (program : List Insn) (whole old mid new told : List ℕ)
    (before line number : ℕ) (x : TracedStep) (steps rest : List TracedStep)
    → whole ≡ old ++ listed_steps_from text lines program before number steps → steps ≡ x ∷ rest
    → line ≡ line_at lines x.state.frame.slot → mid ≡ old ++ heading_by text before line
    → told ≡ trace_line program number x → new ≡ mid ++ (told ++ codes "\n")
    → whole ≡ new ++ listed_steps_from text lines program line (number + 1) rest
listed_more text lines program whole old mid new told before line number x steps rest so_far first is headed tells ends =
    let next : suc number ≡ number + 1 = omega arith in
    let head : List ℕ = heading_by text before line in
    let later : List ℕ = listed_steps_from text lines program line (number + 1) rest in
    let row : List ℕ = told ++ codes "\n" in
    let P : ℕ → List ℕ → List ℕ = λ l t. heading_by text before l
    ++ (t ++ (codes "\n" ++ listed_steps_from text lines program l (suc number) rest)) in
    let split : P (line_at lines x.state.frame.slot) (trace_line program number x) ≡ head ++ (row ++ later) =
    ap (λ (l : ℕ). P l (trace_line program number x)) (sym is)
    ∙ (ap (λ (t : List ℕ). P line t) (sym tells)
    ∙ ap (λ (r : List ℕ). head ++ r) (ap (λ (n : ℕ). told ++ (codes "\n" ++ listed_steps_from text lines program line n rest)) next
    ∙ sym (append_assoc told (codes "\n") later))) in
    so_far ∙ (ap (λ (ss : List TracedStep). old ++ listed_steps_from text lines program before number ss) first
    ∙ (ap (λ (l : List ℕ). old ++ l) split
    ∙ (sym (append_assoc old head (row ++ later))
    ∙ (ap (λ (l : List ℕ). l ++ (row ++ later)) (sym headed)
    ∙ (sym (append_assoc mid row later) ∙ ap (λ (l : List ℕ). l ++ later) (sym ends))))))

-- no step is left
pub listed_all : (text lines : List ℕ) (program : List Insn) (whole listing : List ℕ) (before number : ℕ)
    (steps : List TracedStep) → whole ≡ listing ++ listed_steps_from text lines program before number steps → steps ≡ []
    → listing ≡ whole
listed_all text lines program whole listing before number steps so_far none =
    sym (so_far ∙ (ap (λ (ss : List TracedStep). listing ++ listed_steps_from text lines program before number ss) none
    ∙ append-nil listing))
