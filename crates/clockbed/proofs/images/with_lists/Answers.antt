use Rattle.std.proofs.Common.{IfErr, List, None, ℕ, [], ◌≡◌, ◌++◌, ◌∷◌, ◌∙◌, ap, map, rules, string_bytes, subst, sym}
use Rattle.std.proofs.lemmas.List.{map_push}
use Rattle.stream_io.proofs.PartLemmas.{handed_on}
use Rattle.clockbed.specs.Words.{AreWordsFor, IsFaultOfWords, NamesSome}
use Rattle.clockbed.proofs.WordLemmas.{fault_here, names_more, words_end, words_more}
use Rattle.clockbed.proofs.images.with_lists.Goals as goal

pub returns-in_err-made-clause-fault : goal.returns-in_err-made-clause-fault
returns-in_err-made-clause-fault g c =
    let names = NamesSome None (map g.S.AsStr.text c.args.words.now) in
    handed_on (λ r. IfErr r (λ failed. IsFaultOfWords names failed.fault))
    c.in_err-made.field-0.0 c.from_residual.result
    (fault_here g.S.AsStr.text _ c.args.words.now c.loop-word.word-index c.word-item.result c.as_str-text.result.now
    c.in_err-made.field-0.0.fault c.loop-word-test.true c.word-item.is c.as_str-text.ensures
    c.loop-word.invariant.named c.in_err-made.ensures.fault)
    c.from_residual.ensures.1

pub loop-word-preserved : goal.loop-word-preserved
loop-word-preserved g c =
    let made : c.push.new.self.items ≡ c.loop-word.all.items ++ c.in_ok-made.made ∷ [] = search rules in
    let texts : map (λ word. string_bytes word) c.push.new.self.items
    ≡ map (λ word. string_bytes word) c.loop-word.all.items ++ string_bytes c.in_ok-made.made ∷ [] =
    ap (map (λ word. string_bytes word)) made
    ∙ map_push (λ word. string_bytes word) c.loop-word.all.items c.in_ok-made.made in
    record {
      made = λ rest more.
          subst (λ (all : List (List ℕ)).
          AreWordsFor (g.O.Opener.files c.args.opener.now) None (map g.S.AsStr.text c.args.words.now) (all ++ rest))
          (sym texts)
          (words_more g.S.AsStr.text (g.O.Opener.files c.args.opener.now) _ c.args.words.now c.loop-word.word-index
          c.word-item.result c.as_str-text.result.now (string_bytes c.in_ok-made.made)
          (map (λ word. string_bytes word) c.loop-word.all.items) c.loop-word-test.true c.word-item.is
          c.as_str-text.ensures c.in_ok-made.ensures.word c.loop-word.invariant.made rest more);
      named = names_more g.S.AsStr.text _ c.args.words.now c.loop-word.word-index c.word-item.result
          c.as_str-text.result.now c.loop-word-test.true c.word-item.is c.as_str-text.ensures
          c.loop-word.invariant.named;
    }

pub returns-clause-words : goal.returns-clause-words
returns-clause-words g c =
    words_end g.S.AsStr.text (g.O.Opener.files c.args.opener.now) _ c.args.words.now c.loop-word.word-index
    (map (λ word. string_bytes word) c.loop-word.all.items) c.loop-word-test.false c.loop-word.invariant.made
