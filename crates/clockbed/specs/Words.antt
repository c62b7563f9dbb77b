-- `--images @FILE`: the words with what a file lists in place of its name (docs/EXPLORE_REFERENCE.md). `--rule FILE` and
-- `--claims FILE`: those with the file's text in place of its name (docs/ALL_SIZES.md). `--rule=FILE` and
-- `--claims=FILE` are these in one word.
use Rattle.std.specs.Prelude.{◌≡◌, ◌⊎◌, ◌≤◌, ◌==◌, ℕ, List, [], ◌∷◌, ◌++◌, codes, fold, length, if◌then◌else◌}
use Rattle.std.specs.Prelude.{IfSome, Option, Some, None}
use Rattle.std.specs.List.{before_first}
use Rattle.std.specs.Str.{trim}
use Rattle.std.specs.Str.Lines.{lines}
use Rattle.clockbed.specs.declared.images.TheConstants.{MAX_FILE_BYTES}
use Rattle.command_answers.specs.declared.fault.Fault.{Fault}
use Rattle.command_answers.specs.declared.fault.Fault.TheVariants.{Read, Write, Memory, Thread, CommandLine}

-- ---- what a file lists

-- the memory of a line: what stands before its first `#`, without the white space around it
abbrev pub line_image : List ℕ → List ℕ
line_image line = trim (before_first (λ b. b == 35) line)

-- a comma before each memory but the first
abbrev pub with_comma : List ℕ → List ℕ → List ℕ
with_comma list image = if length list == 0 then image else list ++ (codes "," ++ image)

-- an empty line lists nothing
abbrev pub with_image : List ℕ → List ℕ → List ℕ
with_image list image = if length image == 0 then list else with_comma list image

abbrev pub with_line : List ℕ → List ℕ → List ℕ
with_line list line = with_image list (line_image line)

-- the memories of the lines, with commas between
abbrev pub list_of_text : List ℕ → List ℕ
list_of_text text = fold with_line [] (lines text)

-- what a file lists whose bytes are known
abbrev pub IsListInFile : Option (List ℕ) → List ℕ → Type 0
IsListInFile known list = IfSome known (λ bytes. (length bytes ≤ MAX_FILE_BYTES) × (list ≡ list_of_text bytes))

-- ---- the words

-- the word before is the option
abbrev pub FollowsOption : Option (List ℕ) → Type 0
FollowsOption None = ⊥
FollowsOption (Some before) = before ≡ codes "--images"

-- a word names the file at this path: `@PATH` after the option, or `--images=@PATH`
abbrev pub NamesFile : Option (List ℕ) → List ℕ → List ℕ → Type 0
NamesFile before word path = (FollowsOption before × (word ≡ codes "@" ++ path))
    ⊎ ((FollowsOption before → ⊥) × (word ≡ codes "--images=@" ++ path))

-- the list stands where the name of the file stood
abbrev pub TakesPlace : Option (List ℕ) → List ℕ → List ℕ → Type 0
TakesPlace before list made = (FollowsOption before × (made ≡ list))
    ⊎ ((FollowsOption before → ⊥) × (made ≡ codes "--images=" ++ list))

-- the word before is one of these options
abbrev pub FollowsTextOption : Option (List ℕ) → Type 0
FollowsTextOption None = ⊥
FollowsTextOption (Some before) = (before ≡ codes "--rule") ⊎ (before ≡ codes "--claims")

-- the text of a file whose bytes are known
abbrev pub IsTextInFile : Option (List ℕ) → List ℕ → Type 0
IsTextInFile known text = IfSome known (λ bytes. (length bytes ≤ MAX_FILE_BYTES) × (text ≡ bytes))

-- the word that is made of one that names a file of a list: itself, if it names none
abbrev pub IsListWordFor : (List ℕ → Option (List ℕ)) → Option (List ℕ) → List ℕ → List ℕ → Type 0
IsListWordFor files before word made =
    ((path : List ℕ) × (list : List ℕ) × NamesFile before word path × IsListInFile (files path) list
    × TakesPlace before list made)
    ⊎ (((path : List ℕ) → NamesFile before word path → ⊥) × (made ≡ word))

-- a word joins one of these options and the path of a file
abbrev pub JoinsFile : List ℕ → List ℕ → List ℕ → Type 0
JoinsFile word option path =
    ((option ≡ codes "--rule=") ⊎ (option ≡ codes "--claims=")) × (word ≡ option ++ path)

-- the word that is made of one that joins an option and a path: the option and the file's text
abbrev pub IsTextWordFor : (List ℕ → Option (List ℕ)) → Option (List ℕ) → List ℕ → List ℕ → Type 0
IsTextWordFor files before word made =
    ((option : List ℕ) × (path : List ℕ) × (text : List ℕ) × JoinsFile word option path
    × IsTextInFile (files path) text × (made ≡ option ++ text))
    ⊎ (((option path : List ℕ) → JoinsFile word option path → ⊥) × IsListWordFor files before word made)

-- the word that is made of a word: the text of the file that it names after an option of a text
abbrev pub IsWordFor : (List ℕ → Option (List ℕ)) → Option (List ℕ) → List ℕ → List ℕ → Type 0
IsWordFor files before word made = (FollowsTextOption before × IsTextInFile (files word) made)
    ⊎ ((FollowsTextOption before → ⊥) × IsTextWordFor files before word made)

-- the words that are made of words, of which the first comes after this one
abbrev pub AreWordsFor : (List ℕ → Option (List ℕ)) → Option (List ℕ) → List (List ℕ) → List (List ℕ) → Type 0
AreWordsFor files before [] made = made ≡ []
AreWordsFor files before (word ∷ words) made = (first : List ℕ) × (rest : List (List ℕ)) × (made ≡ first ∷ rest)
    × IsWordFor files before word first × AreWordsFor files (Some word) words rest

-- ---- faults

-- a word names a file
abbrev pub NamesAny : Option (List ℕ) → List ℕ → Type 0
NamesAny before word = FollowsTextOption before
    ⊎ (((option : List ℕ) × (path : List ℕ) × JoinsFile word option path) ⊎ ((path : List ℕ) × NamesFile before word path))

-- some word names a file
abbrev pub NamesSome : Option (List ℕ) → List (List ℕ) → Type 0
NamesSome before [] = ⊥
NamesSome before (word ∷ words) = NamesAny before word ⊎ NamesSome (Some word) words

-- a file that a word names couldn't be read, or is no list, or memory ran out
abbrev pub IsFaultOfWords : Type 0 → Fault → Type 0
IsFaultOfWords Names Read = Names
IsFaultOfWords Names (Write after) = ⊥
IsFaultOfWords Names Memory = Unit {0}
IsFaultOfWords Names Thread = ⊥
IsFaultOfWords Names (CommandLine text) = Names
