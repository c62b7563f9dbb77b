use Rattle.std.proofs.Common.{ap}
use Rattle.std.proofs.lemmas.Slice.Eq.{slice_eq-Decides}
use Rattle.std.proofs.lemmas.Bool.Decides.{Decides-eqb}
use Rattle.node_env.specs.inner.Slots.{numbers_of}
use Rattle.node_env.proofs.Rows.{same_words}
use Rattle.node_env.proofs.env.are_alike.Goals as goal

pub returns : goal.returns
returns c =
    let decides = slice_eq-Decides Decides-eqb c.args.words.now c.args.others.now c.eq.result c.eq.ensures in (
      λ same. ap numbers_of (decides.0 same),
      λ alike. decides.1 (same_words c.args.words.now c.args.others.now c.requires.nodes c.requires.words
          c.requires.others alike),
    )
