use Rattle.std.proofs.Common.{ap, sym, ◌∙◌}
use Rattle.std.specs.Prelude.{ℕ, nat_le}
use Rattle.bpf_verify.specs.Rules as rules
use Rattle.bpf_verify.proofs.RuleLaws.{onward_astray}
use Rattle.bpf_verify.proofs.rules.ends_program.Goals as goal

pub returns-in-Some : goal.returns-in-Some
returns-in-Some c =
    ap (λ (count : ℕ). nat_le count c.in-Some.next) (c.from.ensures ∙ c.slot_count.ensures.count)
    ∙ onward_astray c.args.program.now c.args.slot c.in-Some.next c.args.insn.now c.requires
    (sym c.target.ensures ∙ c.in-Some.is)
    ∙ ap (rules.is_astray c.args.program.now) (sym (sym c.target.ensures ∙ c.in-Some.is))
