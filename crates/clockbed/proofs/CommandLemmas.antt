-- A request on a file or on standard input, from what its parts do.
use Rattle.std.proofs.Common.{◌≡◌, Bool, Global, List, None, Option, Some, String, ap, inl, inr, refl, string_bytes, subst, sym, ℕ}
use Rattle.std.specs.Prelude.{option_map}
use Rattle.command_answers.specs.declared.fault.Fault.TheVariants.{Read}
use Rattle.command_line.specs.declared.request.Invocation.{Invocation}
use Rattle.commands.specs.Perform.{CallsFor, PerformsRequest, TakesFor}
use Rattle.clockbed.specs.Command.{AnswersWords, IsReadFrom, Outside, StandardInput, StandardOutput, streams_of}
use Rattle.clockbed.specs.Words.{AreWordsFor}
use Rattle.clockbed.specs.inner.OnFile.{AnswersOnFile}

path_of : (asked : Invocation) (path : String Global) → asked.file ≡ Some path
    → option_map string_bytes asked.file ≡ Some (string_bytes path)
path_of asked path is = ap (λ (file : Option (String Global)). option_map string_bytes file) is

pub does_on_file : (outside : Outside) (words expanded : List (List ℕ)) (asked : Invocation) (path : String Global)
    (input : StandardInput) (old new : StandardOutput) (unstarted : Bool) (said_old said_new : Option (List ℕ)) (status : ℕ)
    → AreWordsFor outside.files None words expanded → outside.asks expanded asked → asked.file ≡ Some path
    → AnswersOnFile (outside.files (string_bytes path)) (outside.may_fail (string_bytes path)) asked.request
    old new unstarted said_old said_new status
    → AnswersWords outside words (streams_of input old said_old) (streams_of input new said_new) unstarted status
does_on_file outside words expanded asked path input old new unstarted said_old said_new status made asks is (inl does) =
    inl record {
      asked = asked;
      words_ask = (expanded, made, asks);
      bytes = outside.files (string_bytes path);
      failed = does.failed;
      read = subst (λ (p : Option (List ℕ)).
          IsReadFrom outside asked.request p (outside.files (string_bytes path)) does.failed input input)
          (sym (path_of asked path is)) (refl, refl, does.taken);
      performed = does.performed;
    }
does_on_file outside words expanded asked path input old new unstarted said_old said_new status made asks is (inr shut) =
    inr record {
      fault = Read;
      cause = inr (asked, (expanded, made, asks), string_bytes path, path_of asked path is, shut.cause);
      answer = shut.answer;
      said = shut.said;
      unread = refl;
      unwritten = shut.unwritten;
    }

no_path : (asked : Invocation) → asked.file ≡ None → option_map string_bytes asked.file ≡ None
no_path asked is = ap (λ (file : Option (String Global)). option_map string_bytes file) is

pub does_on_input : (outside : Outside) (words expanded : List (List ℕ)) (asked : Invocation)
    (before after : StandardInput) (old new : StandardOutput) (unstarted : Bool) (said_old said_new : Option (List ℕ))
    (status : ℕ)
    → AreWordsFor outside.files None words expanded → outside.asks expanded asked → asked.file ≡ None
    → PerformsRequest asked.request before.bytes after.failed old.bytes new.bytes new.failed unstarted said_old said_new
    status
    → TakesFor asked.request before.bytes after.bytes → CallsFor asked.request before.calls after.calls
    → AnswersWords outside words (streams_of before old said_old) (streams_of after new said_new) unstarted status
does_on_input outside words expanded asked before after old new unstarted said_old said_new status made asks is performed
    taken cost =
    inl record {
      asked = asked;
      words_ask = (expanded, made, asks);
      bytes = before.bytes;
      failed = after.failed;
      read = subst (λ (p : Option (List ℕ)).
          IsReadFrom outside asked.request p before.bytes after.failed before after) (sym (no_path asked is))
          (refl, refl, taken, cost);
      performed = performed;
    }
