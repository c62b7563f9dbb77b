use Rattle.std.proofs.Common.{arith}
use Rattle.std.specs.Prelude.{string_bytes}
use Rattle.bpf_verify.specs.declared.abstract_state.TheConstants.{REGISTERS}
use Rattle.bpf_verify.specs.Findings.{abstract_of}
use Rattle.bpf_explain.specs.Known.{known_register}
use Rattle.bpf_explain.proofs.Listing.{told_none, told_more, told_all}
use Rattle.bpf_explain.proofs.facts.add_known_registers.Goals as goal

pub loop-number-init : goal.loop-number-init
loop-number-init c = told_none (λ number. known_register number ((abstract_of c.args.known.now).kinds number))
    (string_bytes c.args.told.now)

pub loop-number-preserved : goal.loop-number-preserved
loop-number-preserved c =
    told_more (λ number. known_register number ((abstract_of c.args.known.now).kinds number)) c.loop-number.number
    (string_bytes c.args.told.now)
    (string_bytes c.loop-number.told) (string_bytes c.add_known_register.new.told) c.loop-number.invariant
    c.in_ok-add_known_register.ensures

pub returns : goal.returns
returns c =
    told_all (λ number. known_register number ((abstract_of c.args.known.now).kinds number)) c.loop-number.number
    REGISTERS (string_bytes c.args.told.now)
    (string_bytes c.loop-number.told)
    (omega (arith, c.loop-number-test.false, c.loop-number.auto.number-end)) c.loop-number.invariant
