use Rattle.std.proofs.Common.{◌∙◌, ap, subst}
use Rattle.bpf_insn.specs.Programs.{IsProgram, image_of}
use Rattle.bpf_insn.proofs.listing.Program.image.Goals as goal

pub returns-clause-image : goal.returns-clause-image
returns-clause-image c = c.deref.ensures.value ∙ (c.self.invariant.1 ∙ ap image_of c.self.view_is)

pub returns-clause-program : goal.returns-clause-program
returns-clause-program c = subst IsProgram c.self.view_is c.self.invariant.0.program
