use Rattle.std.proofs.Common.{Global, List, None, String, map, string_bytes, subst, sym}
use Rattle.clockbed.specs.Command.{input_of, outside_of, output_of}
use Rattle.clockbed.specs.Words.{AreWordsFor}
use Rattle.clockbed.proofs.CommandLemmas.{does_on_file, does_on_input}
use Rattle.clockbed.proofs.answer.answer_words.Goals as goal

pub returns-in-Some : goal.returns-in-Some
returns-in-Some g c =
    let outside = outside_of (g.O.Opener.files c.args.program.now.opener)
    (g.O.Opener.may_fail c.args.program.now.opener) (g.C.WordsReader.asks c.args.program.now.reader) in
    let words = map g.S.AsStr.text c.args.words.now in
    does_on_file outside words (map (λ word. string_bytes word) c.as_slice.result.now) c.in-Ok-read_words.asked
    c.in-Some.path _ _ _ _ _ _ _
    (subst (λ (made : List (String Global)).
    AreWordsFor outside.files None words (map (λ word. string_bytes word) made))
    (sym c.as_slice.ensures.value) c.in-Ok.ensures.words)
    c.in-Ok-read_words.ensures c.in-Some.is c.answer_on_file.ensures

pub returns : goal.returns
returns g c =
    let outside = outside_of (g.O.Opener.files c.args.program.now.opener)
    (g.O.Opener.may_fail c.args.program.now.opener) (g.C.WordsReader.asks c.args.program.now.reader) in
    let words = map g.S.AsStr.text c.args.words.now in
    does_on_input outside words (map (λ word. string_bytes word) c.as_slice.result.now) c.in-Ok-read_words.asked
    (input_of (g.R.Source.remaining c.args.input.now) (g.R.Source.calls c.args.input.now)
    (g.R.Source.has_failed c.args.input.now))
    (input_of (g.R.Source.remaining c.performed.new.input) (g.R.Source.calls c.performed.new.input)
    (g.R.Source.has_failed c.performed.new.input))
    (output_of (g.W.Write.contents c.args.out.now) (g.W.Sink.has_failed c.args.out.now))
    (output_of (g.W.Write.contents c.performed.new.out) (g.W.Sink.has_failed c.performed.new.out)) _ _ _ _
    (subst (λ (made : List (String Global)).
    AreWordsFor outside.files None words (map (λ word. string_bytes word) made))
    (sym c.as_slice.ensures.value) c.in-Ok.ensures.words)
    c.in-Ok-read_words.ensures c.in-None.is c.performed.ensures.performed c.performed.ensures.taken
    c.performed.ensures.cost
