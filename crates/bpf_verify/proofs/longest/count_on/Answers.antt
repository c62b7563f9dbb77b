use Rattle.std.proofs.Common.{sym, ◌∙◌, arith}
use Rattle.bpf_insn.specs.Edges.{target}
use Rattle.bpf_verify.proofs.RuleLaws.{here_within}
use Rattle.bpf_verify.proofs.LengthLaws.{led, longest_on}
use Rattle.bpf_verify.proofs.longest.count_on.Goals as goal

pub offset_bounds-counts-to : goal.offset_bounds-counts-to
offset_bounds-counts-to c =
    let l = led c.args.program.now c.args.shape c.args.insn.now c.args.slot c.in-Some.to c.args.way c.args.counts.now
    c.requires.typable c.requires.here c.requires.known (sym c.target.ensures ∙ c.in-Some.is) in
    omega (arith, l.0, c.requires.small)

pub bounds-counts-to : goal.bounds-counts-to
bounds-counts-to c =
    let l = led c.args.program.now c.args.shape c.args.insn.now c.args.slot c.in-Some.to c.args.way c.args.counts.now
    c.requires.typable c.requires.here c.requires.known (sym c.target.ensures ∙ c.in-Some.is) in
    omega (arith, l.0, c.requires.long)

pub returns-in-Some-clause-value : goal.returns-in-Some-clause-value
returns-in-Some-clause-value c =
    let l = led c.args.program.now c.args.shape c.args.insn.now c.args.slot c.in-Some.to c.args.way c.args.counts.now
    c.requires.typable c.requires.here c.requires.known (sym c.target.ensures ∙ c.in-Some.is) in
    longest_on c.args.program.now (target c.args.insn.now c.args.slot c.args.way) c.in-Some.to _
    (sym c.target.ensures ∙ c.in-Some.is) l.3

pub returns-in-Some-clause-few : goal.returns-in-Some-clause-few
returns-in-Some-clause-few c =
    let l = led c.args.program.now c.args.shape c.args.insn.now c.args.slot c.in-Some.to c.args.way c.args.counts.now
    c.requires.typable c.requires.here c.requires.known (sym c.target.ensures ∙ c.in-Some.is) in
    omega (arith, l.1, l.2)

pub returns-in-None-clause-few : goal.returns-in-None-clause-few
returns-in-None-clause-few c = omega (arith, here_within c.args.program.now c.args.slot c.args.insn.now c.requires.here)
