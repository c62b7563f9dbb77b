use Rattle.std.proofs.Common.{◌≡◌, ◌++◌, drop, string_bytes}
use Rattle.rule_text.specs.Words.{front_word}
use Rattle.rule_text.proofs.words.front_word.Given as goal

abbrev pub invariant-loop-byte : goal.invariant-loop-byte
invariant-loop-byte l = front_word l.text ≡ string_bytes l.word ++ front_word (drop l.byte-index l.text)
