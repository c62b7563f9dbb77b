use Rattle.std.proofs.Common.{◌≡◌, ◌/◌, ◌+◌, arith, ap, ◌∙◌}
use Rattle.std.specs.Prelude.{if◌then◌else◌}
use Rattle.bpf_verify.specs.declared.abstract_value.AbstractValue.TheVariants.{Unset}
use Rattle.bpf_verify.specs.Outcomes.{is_between}
use Rattle.bpf_verify.specs.inner.Rows.{kind_numbered}
use Rattle.bpf_verify.proofs.abstract_state.clear.Goals as goal

pub returns : goal.returns
returns c other =
    let ended : c.loop-dword.dword ≡ (c.args.end + 7) / 8 =
    omega (arith, c.loop-dword-test.false, c.loop-dword.invariant.near) in
    c.loop-dword.invariant.gone other
    ∙ ap (λ n. if is_between (c.args.first / 8) n other then Unset else kind_numbered c.args.kinds.now other) ended
