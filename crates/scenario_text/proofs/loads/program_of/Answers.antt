use Rattle.std.proofs.Common.{List, subst, sym}
use Rattle.std.specs.Prelude.{IfErr}
use Rattle.bpf_insn.specs.declared.forms.Insn.{Insn}
use Rattle.toml.specs.View.{table_view}
use Rattle.scenario_text.specs.declared.scenario.Kind.{Kind}
use Rattle.scenario_text.specs.Faults.{Excludes}
use Rattle.scenario_text.specs.inner.Setups.{own_clock}
use Rattle.scenario_text.specs.Spelling.{IsProgramOf}
use Rattle.scenario_text.proofs.FrameLemmas.{excluded_refuses}
use Rattle.scenario_text.proofs.loads.program_of.Goals as goal

pub returns-in-Say-clause-refused : goal.returns-in-Say-clause-refused
returns-in-Say-clause-refused c =
    excluded_refuses c.said_program.result _ _
    (subst (λ (k : Kind). IfErr c.said_program.result (λ e. Excludes e ((insns : List Insn)
    → IsProgramOf c.args.setup.now.frame (own_clock c.args.setup.now) k (table_view c.args.table.now) insns → ⊥)))
    (sym c.in-Say.is) c.said_program.ensures.refused)
