-- Which nodes' programs have the clock program's instructions.
use Rattle.std.proofs.Common.{◌≡◌, ℕ, Bool, List, length, replicate, None, Some, sym, ap, ◌∙◌, arith, inl, inr}
use Rattle.std.proofs.lemmas.Bool.{cases_lt}
use Rattle.std.proofs.lemmas.List.{length-replicate, get_or-replicate, get_or_past}
use Rattle.bpf_insn.specs.declared.forms.Insn.{Insn}
use Rattle.bpf_verify.specs.Accepted.{Accepted}
use Rattle.bench_core.specs.Setup.{Setup}
use Rattle.bench_core.specs.State.{Node, no_node, new_node, node_at}
use Rattle.bench_core.specs.inner.Nodes.{KnowsClock}

nothing_loaded : (s : Setup) (n i : ℕ) (p : Accepted) → (node_at (replicate n (new_node s)) i).program ≡ Some p → ⊥
nothing_loaded s n i p loaded =
    elim (cases_lt i n) [
      | inl lt ↦ let no : None ≡ Some p = sym (ap (λ (x : Node). x.program)
          (get_or-replicate n i (new_node s) no_node lt)) ∙ loaded in cc
      | inr past ↦ let no : None ≡ Some p = sym
          (ap (λ (x : Node). x.program) (get_or_past (replicate n (new_node s)) i no_node
          (omega (arith, past, length-replicate {A = Node} n (new_node s))))) ∙ loaded in cc
    ]

-- no new node has a program
pub knows_none : (s : Setup) (n : ℕ) (listing : List Insn) (flags : List Bool) → length flags ≡ n
    → KnowsClock listing (replicate n (new_node s)) flags
knows_none s n listing flags e = record {
  count = e ∙ sym (length-replicate n (new_node s));
  known = λ i p loaded. absurd (nothing_loaded s n i p loaded);
}
