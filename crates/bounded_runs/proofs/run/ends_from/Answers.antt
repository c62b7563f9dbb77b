use Rattle.std.proofs.Common.{List, subst}
use Rattle.bpf_insn.specs.declared.forms.Insn.{Insn}
use Rattle.bounded_runs.specs.Bounded.{EndsSo}
use Rattle.bounded_runs.specs.inner.Run.{bound_of_tries}
use Rattle.bounded_runs.proofs.run.ends_from.Goals as goal

pub returns-clause-ends : goal.returns-clause-ends
returns-clause-ends c = subst (λ (p : List Insn). EndsSo c.all_follow.result p
    (bound_of_tries c.args.tries) c.args.env.now c.args.memory.now) c.program.ensures.value
    c.all_follow.ensures.ends
