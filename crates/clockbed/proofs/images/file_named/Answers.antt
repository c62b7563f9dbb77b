use Rattle.std.proofs.Math.Dec.{lit<}
use Rattle.std.proofs.lemmas.Str.Pattern.{strip_prefix_char}
use Rattle.clockbed.proofs.NameLemmas.{named_after}
use Rattle.clockbed.proofs.images.file_named.Goals as goal

pub returns-then-follows_option : goal.returns-then-follows_option
returns-then-follows_option c =
    named_after _ c.args.word.now c.strip_prefix.result (c.follows_option.ensures.0 c.if-follows_option.true)
    (strip_prefix_char 64 c.args.word.now c.strip_prefix.result c.strip_prefix.ensures.cases (lit< tt))
