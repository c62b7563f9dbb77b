-- What the program does with its words, its files and its streams (docs/COMMANDS.md).
use Rattle.std.specs.Prelude.{◌≡◌, ◌⊎◌, ℕ, Bool, List, Option, Some, None, option_map, string_bytes}
use Rattle.command_answers.specs.declared.fault.Fault.{Fault}
use Rattle.command_answers.specs.declared.fault.Fault.TheVariants.{Read, Write, Memory, Thread, CommandLine}
use Rattle.command_answers.specs.Faults.{Says, fault_status, fault_text}
use Rattle.command_line.specs.Requests.{IsAskedWithFile}
use Rattle.command_line.specs.declared.request.Invocation.{Invocation}
use Rattle.commands.specs.Perform.{CallsFor, PerformsRequest, TakesFor}
use Rattle.requests.specs.declared.request.Request.{Request}
use Rattle.clockbed.specs.Reasons.{SaysReasonAt}
use Rattle.clockbed.specs.Words.{AreWordsFor, NamesSome}

-- ---- what is taken as given

-- what is known of the bytes of each file, which files may not open, and which request words ask for: that is the part
-- of `clap`
pub record Outside : Type 1 where
  pub files : List ℕ → Option (List ℕ)
  pub may_fail : List ℕ → Type 0
  pub asks : List (List ℕ) → Invocation → Type 0

abbrev pub outside_of : (List ℕ → Option (List ℕ)) → (List ℕ → Type 0) → (List (List ℕ) → Invocation → Type 0) → Outside
outside_of files may_fail asks = record { files = files; may_fail = may_fail; asks = asks }

-- no file opens, and words ask for help or for what some options of some command ask for
abbrev pub standard_input_alone : Outside
standard_input_alone = outside_of (λ path. None) (λ path. Unit {0}) (λ words asked. IsAskedWithFile asked)

-- what is known of the bytes that standard input has left, how many calls of `read` it had, and whether one failed
pub record StandardInput : Type 0 where
  pub bytes : Option (List ℕ)
  pub calls : ℕ
  pub failed : Bool

abbrev pub input_of : Option (List ℕ) → ℕ → Bool → StandardInput
input_of bytes calls failed = record { bytes = bytes; calls = calls; failed = failed }

-- what is known of the bytes that standard output took, and whether a call of `write` failed or took nothing
pub record StandardOutput : Type 0 where
  pub bytes : Option (List ℕ)
  pub failed : Bool

abbrev pub output_of : Option (List ℕ) → Bool → StandardOutput
output_of bytes failed = record { bytes = bytes; failed = failed }

-- standard input and standard output, and what is known of the bytes that standard error took
pub record Streams : Type 0 where
  pub input : StandardInput
  pub output : StandardOutput
  pub error : Option (List ℕ)

abbrev pub streams_of : StandardInput → StandardOutput → Option (List ℕ) → Streams
streams_of input output error = record { input = input; output = output; error = error }

-- ---- a request is performed

-- the words, with the lists of files in place of their names, ask for this
abbrev pub WordsAsk : Outside → List (List ℕ) → Invocation → Type 0
WordsAsk outside words asked =
    (expanded : List (List ℕ)) × AreWordsFor outside.files None words expanded × outside.asks expanded asked

-- a request reads the file at this path, or standard input if there is none: these are its bytes, and a call of `read`
-- failed or none did. Only what it reads is taken, by at most as many calls as it may make. Which calls of a file fail
-- isn't known
abbrev pub IsReadFrom : Outside → Request → Option (List ℕ) → Option (List ℕ) → (failed : Bool) → StandardInput
    → StandardInput → Type 0
IsReadFrom outside request None bytes failed input left = (bytes ≡ input.bytes) × (failed ≡ left.failed)
    × TakesFor request input.bytes left.bytes × CallsFor request input.calls left.calls
IsReadFrom outside request (Some path) bytes failed input left = (bytes ≡ outside.files path) × (left ≡ input)
    × ((rest : Option (List ℕ)) × TakesFor request bytes rest)

-- the file that is named is read
abbrev pub IsRead : Outside → Invocation → Option (List ℕ) → (failed : Bool) → StandardInput → StandardInput → Type 0
IsRead outside asked bytes failed input left =
    IsReadFrom outside asked.request (option_map string_bytes asked.file) bytes failed input left

-- a request is performed. `unstarted` says whether a start of a thread failed
pub record DoesRequest (outside : Outside) (words : List (List ℕ)) (before after : Streams) (unstarted : Bool)
    (status : ℕ) : Type 0 where
  pub asked : Invocation
  pub words_ask : WordsAsk outside words asked
  pub bytes : Option (List ℕ)
  pub failed : Bool
  pub read : IsRead outside asked bytes failed before.input after.input
  pub performed :
      PerformsRequest asked.request bytes failed before.output.bytes after.output.bytes after.output.failed
      unstarted before.error after.error status

-- ---- no request is performed

-- the file that the words ask for may not open
abbrev pub IsShut : Outside → List (List ℕ) → Type 0
IsShut outside words = (asked : Invocation) × WordsAsk outside words asked × (path : List ℕ)
    × (option_map string_bytes asked.file ≡ Some path) × outside.may_fail path

-- the words ask for nothing, memory ran out, or a file that they name couldn't be read
abbrev pub IsBeforeCommand : Outside → List (List ℕ) → Fault → Type 0
IsBeforeCommand outside words Read = NamesSome None words ⊎ IsShut outside words
IsBeforeCommand outside words (Write after) = ⊥
IsBeforeCommand outside words Memory = Unit {0}
IsBeforeCommand outside words Thread = ⊥
IsBeforeCommand outside words (CommandLine text) = Unit {0}

-- that is said, and standard input and standard output are as they were
pub record DoesNothing (outside : Outside) (words : List (List ℕ)) (before after : Streams) (status : ℕ)
    : Type 0 where
  pub fault : Fault
  pub cause : IsBeforeCommand outside words fault
  pub answer : status ≡ fault_status
  pub said : Says before.error after.error (fault_text fault)
  pub unread : after.input ≡ before.input
  pub unwritten : after.output ≡ before.output

-- ---- the program

-- one of the two
abbrev pub AnswersWords : Outside → List (List ℕ) → Streams → Streams → (unstarted : Bool) → ℕ → Type 0
AnswersWords outside words before after unstarted status =
    DoesRequest outside words before after unstarted status
    ⊎ DoesNothing outside words before after status

-- below a fault a line may follow that names a file or a stream, and says why it failed
pub record RunsOn (outside : Outside) (words : List (List ℕ)) (before after : Streams) (unstarted : Bool) (status : ℕ)
    : Type 0 where
  pub told : Option (List ℕ)
  pub answers : AnswersWords outside words before (record after { error = told }) unstarted status
  pub reason : SaysReasonAt status told after.error
