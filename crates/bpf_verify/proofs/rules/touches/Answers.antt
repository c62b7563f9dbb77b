use Rattle.std.proofs.Common.{◌-◌, sym, ◌∙◌, ap}
use Rattle.node_env.specs.Dwords.{dword_of}
use Rattle.bpf_verify.specs.inner.Rows.{abstract_of}
use Rattle.bpf_verify.specs.Rules as rules
use Rattle.bpf_verify.proofs.RuleLaws.{touches_past}
use Rattle.bpf_verify.proofs.RulesGrow.{no_touch}
use Rattle.bpf_verify.proofs.rules.touches.Goals as goal

pub loop-byte-preserved : goal.loop-byte-preserved
loop-byte-preserved c =
    c.loop-byte.invariant ∙ touches_past (abstract_of c.args.known.now) c.loop-byte.byte c.args.end
    c.loop-byte-test.true
    (ap rules.is_pointer_kind (sym c.entry_of.ensures) ∙ sym c.is_pointer.ensures ∙ c.if-is_pointer.false)

pub returns-then-holds_none : goal.returns-then-holds_none
returns-then-holds_none c =
    sym (no_touch (abstract_of c.args.known.now) c.args.first (c.args.end - c.args.first) (λ byte p q.
    ap rules.is_pointer_kind (c.holds_none.ensures c.if-holds_none.true (dword_of byte))))
