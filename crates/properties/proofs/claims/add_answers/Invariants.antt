use Rattle.std.proofs.Common.{◌≡◌, ◌++◌, drop}
use Rattle.std.specs.Prelude.{◌&&◌, string_bytes}
use Rattle.properties.specs.Claims.{claimed_in}
use Rattle.properties.specs.Texts.{answer_lines_from, none_violated_from}
use Rattle.properties.proofs.claims.add_answers.Given as goal

-- what is added and what is still to come are the whole
abbrev pub invariant-loop-place : goal.invariant-loop-place
invariant-loop-place l = record {
  text : string_bytes l.text ++ answer_lines_from l.place (drop l.place l.properties) (claimed_in l.pulses)
      ≡ string_bytes l.fn.text ++ answer_lines_from 0 l.properties (claimed_in l.pulses);
  holds : (l.holds && none_violated_from l.place (drop l.place l.properties) (claimed_in l.pulses))
      ≡ none_violated_from 0 l.properties (claimed_in l.pulses);
}
