use Rattle.std.proofs.Common.{List, None, ℕ, ◌++◌, drop, map}
use Rattle.std.specs.Prelude.{option_map, string_bytes}
use Rattle.clockbed.specs.Words.{AreWordsFor, NamesSome}
use Rattle.clockbed.proofs.images.with_lists.Given as goal

-- what is made of the other words goes behind what is made so far
abbrev pub invariant-loop-word : goal.invariant-loop-word
invariant-loop-word g l =
    record {
      made : (rest : List (List ℕ))
          → AreWordsFor (g.O.Opener.files l.opener) (option_map (λ word. word.now) l.before)
          (map g.S.AsStr.text (drop l.word-index l.words)) rest
          → AreWordsFor (g.O.Opener.files l.opener) None (map g.S.AsStr.text l.words)
          (map (λ word. string_bytes word) l.all.items ++ rest);
      named : NamesSome (option_map (λ word. word.now) l.before) (map g.S.AsStr.text (drop l.word-index l.words))
          → NamesSome None (map g.S.AsStr.text l.words);
    }
