use Rattle.std.proofs.lemmas.Slice.Eq.{slice_eq-Decides}
use Rattle.std.proofs.lemmas.Bool.Decides.{Decides-eqb}
use Rattle.bpf_insn.proofs.ImageLaws.{told_by_images}
use Rattle.bpf_insn.proofs.listing.Program.same.Goals as goal

pub returns : goal.returns
returns c =
    told_by_images c.eq-same.result c.image.result.now c.image-2.result.now c.args.self.now c.args.other.now
    (slice_eq-Decides Decides-eqb c.image.result.now c.image-2.result.now c.eq-same.result c.eq-same.ensures)
    c.image.ensures.image c.image-2.ensures.image c.image.ensures.program c.image-2.ensures.program
