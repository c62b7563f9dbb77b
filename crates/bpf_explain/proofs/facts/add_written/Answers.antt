use Rattle.std.proofs.Common.{arith}
use Rattle.std.specs.Prelude.{string_bytes}
use Rattle.node_env.specs.declared.region.TheConstants.{STACK_BYTES}
use Rattle.bpf_verify.specs.Findings.{abstract_of}
use Rattle.bpf_explain.specs.Known.{written_from}
use Rattle.bpf_explain.proofs.Listing.{told_none, told_more, told_all}
use Rattle.bpf_explain.proofs.facts.add_written.Goals as goal

pub loop-byte-init : goal.loop-byte-init
loop-byte-init c = told_none (written_from (abstract_of c.args.known.now)) (string_bytes c.args.told.now)

pub loop-byte-preserved : goal.loop-byte-preserved
loop-byte-preserved c =
    told_more (written_from (abstract_of c.args.known.now)) c.loop-byte.byte (string_bytes c.args.told.now)
    (string_bytes c.loop-byte.told) (string_bytes c.add_written_from.new.told) c.loop-byte.invariant
    c.in_ok-add_written_from.ensures

pub returns : goal.returns
returns c =
    told_all (written_from (abstract_of c.args.known.now)) c.loop-byte.byte STACK_BYTES (string_bytes c.args.told.now)
    (string_bytes c.loop-byte.told)
    (omega (arith, c.loop-byte-test.false, c.loop-byte.auto.byte-end)) c.loop-byte.invariant
