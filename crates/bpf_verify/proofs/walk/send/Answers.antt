use Rattle.std.proofs.Common.{Some}
use Rattle.bpf_verify.specs.declared.rule.Rule.TheVariants.{OutOfRegion}
use Rattle.bpf_verify.specs.inner.Rows.{abstract_of}
use Rattle.bpf_verify.proofs.RuleLaws.{jump_within}
use Rattle.bpf_verify.proofs.Keeping.{known_kept}
use Rattle.bpf_verify.proofs.walk.send.Goals as goal

pub jump-requires-clause-inside : goal.jump-requires-clause-inside
jump-requires-clause-inside c =
    known_kept c.args.program.now c.args.shape c.args.slot c.args.insn.now c.args.front.now c.if-not-front.false
    c.requires.kept OutOfRegion

pub jump-requires-clause-target : goal.jump-requires-clause-target
jump-requires-clause-target c =
    jump_within c.args.program.now c.args.shape c.args.slot _ c.args.insn.now
    (Some (abstract_of c.args.front.now.known))
    (known_kept c.args.program.now c.args.shape c.args.slot c.args.insn.now c.args.front.now c.if-not-front.false
    c.requires.kept) c.requires.long

pub go_on-requires : goal.go_on-requires
go_on-requires c =
    known_kept c.args.program.now c.args.shape c.args.slot c.args.insn.now c.args.front.now c.if-not-front.false
    c.requires.kept OutOfRegion
