use Rattle.std.proofs.Common.{rules, ◌≡◌, ℕ, List, ap, subst, sym}
use Rattle.std.specs.Prelude.{Some}
use Rattle.toml.specs.Data.{get_member, string}
use Rattle.toml.specs.View.{table_view}
use Rattle.bpf_insn.specs.declared.forms.Insn.{Insn}
use Rattle.node_env.specs.Env.{Extent}
use Rattle.rule_nodes.specs.Ends.{sizes_of}
use Rattle.rule_syntax.specs.declared.syntax.Sizes.{Sizes}
use Rattle.rule_programs.specs.Programs.{IsProgramOfText}
use Rattle.scenario_text.specs.Spelling.{sizes_in}
use Rattle.scenario_text.proofs.ClockLemmas.{rule_excluded}
use Rattle.scenario_text.proofs.programs.rule_in.Goals as goal

pub returns-in-Ok-Err-clause-refused : goal.returns-in-Ok-Err-clause-refused
returns-in-Ok-Err-clause-refused c insns =
    let f = c.args.frame in
    let text = c.in-Some-as_str.text.now in
    let bytes = c.as_bytes-text.result.now in
    let held : get_member c.args.key.now (table_view c.args.table.now) ≡ Some (string text) = search rules in
    let sizes : sizes_of c.args.shape f.faults f.modulus ≡ sizes_in f =
    ap (λ (x : Extent). sizes_of x f.faults f.modulus) c.requires in
    let spelled : bytes ≡ text = c.as_bytes-text.ensures.value in
    let made : (p : List Insn) → IsProgramOfText (sizes_of c.args.shape f.faults f.modulus) bytes p → ⊥ =
    rw c.in-Ok-Err.field-0-is at c.in-Ok-Err.ensures.none in
    let none : (p : List Insn) → IsProgramOfText (sizes_in f) text p → ⊥ = λ p is.
    made p (subst (λ (z : Sizes). IsProgramOfText z bytes p) (sym sizes)
    (subst (λ (t : List ℕ). IsProgramOfText (sizes_in f) t p) (sym spelled) is)) in
    rule_excluded f (get_member c.args.key.now (table_view c.args.table.now)) text insns held none
