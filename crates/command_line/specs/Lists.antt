-- Which numbers, bytes, places and messages the lists of options name (docs/EXPLORE.md, "Options"; docs/COMMANDS.md,
-- "The case").
use Rattle.std.specs.Prelude.{◌≡◌, ◌⊎◌, ◌↔◌, ◌+◌, ◌-◌, ◌<◌, ◌≤◌, ◌^◌, ◌==◌, ℕ, List, [], ◌∷◌, ◌++◌, map, length}
use Rattle.std.specs.Prelude.{All, Any, Option, Some, None, Ok, codes, sum_by}
use Rattle.std.specs.List.{AllZip, slice_split}
use Rattle.std.specs.Str.Parse.{IsNumeral, digits_value, without_leading_plus}
use Rattle.hex.specs.Hex.{decode_of}
use Rattle.node_env.specs.declared.shape.TheConstants.{MAX_MEMORY}
use Rattle.explored.specs.declared.options.ByteSpan.{ByteSpan}
use Rattle.explored.specs.declared.options.Cells.{Cells}
use Rattle.explored.specs.declared.options.MailSpan.{MailSpan}
use Rattle.command_line.specs.declared.exec_words.CaseFault.{CaseFault}
use Rattle.command_line.specs.declared.exec_words.CaseFault.TheVariants as cases
use Rattle.command_line.specs.declared.lists.MailFault.{MailFault}
use Rattle.command_line.specs.declared.lists.MailFault.TheVariants as faults
use Rattle.command_line.specs.declared.lists.TheConstants.{MAX_MAIL}

-- the parts of a text between commas
abbrev pub comma_parts : List ℕ → List (List ℕ)
comma_parts text = slice_split (λ b. b == 44) text

-- ---- numbers that parts name

-- digits alone are this number
abbrev pub IsDecimal : List ℕ → ℕ → Type 0
IsDecimal text n = IsNumeral 10 text × (digits_value 10 text ≡ n)

-- a number, or FIRST..LAST
abbrev pub IsRange : List ℕ → ℕ → ℕ → Type 0
IsRange part first last = (IsDecimal part first × IsDecimal part last)
    ⊎ ((left : List ℕ) × (right : List ℕ) × (part ≡ left ++ (codes ".." ++ right))
    × IsDecimal left first × IsDecimal right last)

-- a part is a range that doesn't fall, of numbers below the limit
pub record IsSpan (limit : ℕ) (part : List ℕ) (first last : ℕ) : Type 0 where
  pub range : IsRange part first last
  pub rises : first ≤ last
  pub below : last < limit

abbrev pub IsPart : ℕ → List ℕ → Type 0
IsPart limit part = (first : ℕ) × (last : ℕ) × IsSpan limit part first last

-- the number is in the range of a part
abbrev pub Names : List ℕ → ℕ → Type 0
Names part n = (first : ℕ) × (last : ℕ) × IsRange part first last × (first ≤ n) × (n ≤ last)

-- ---- spans: each a first and a last number

abbrev pub IsInSpan : ℕ → ℕ × ℕ → Type 0
IsInSpan n span = (span.0 ≤ n) × (n ≤ span.1)

-- each begins after the one before it, with some number between them that is in neither
abbrev pub AreLongest : List (ℕ × ℕ) → Type 0
AreLongest [] = Unit {0}
AreLongest (span ∷ []) = span.0 ≤ span.1
AreLongest (span ∷ next ∷ more) = (span.0 ≤ span.1) × (span.1 + 1 < next.0) × AreLongest (next ∷ more)

-- how many numbers are in them
abbrev pub span_length : List (ℕ × ℕ) → ℕ
span_length spans = sum_by (λ span. span.1 + 1 - span.0) spans

-- the parts are a list, and the spans are exactly the numbers that some part names
pub record IsNumberList (limit : ℕ) (parts : List (List ℕ)) (spans : List (ℕ × ℕ)) : Type 0 where
  pub written : All (IsPart limit) parts
  pub numbers : (n : ℕ) → Any (IsInSpan n) spans ↔ Any (λ part. Names part n) parts
  pub longest : AreLongest spans

-- ---- the lists of `explore`

abbrev pub mail_spans : List MailSpan → List (ℕ × ℕ)
mail_spans spans = map (λ span. (span.first, span.last)) spans

abbrev pub byte_spans : List ByteSpan → List (ℕ × ℕ)
byte_spans spans = map (λ span. (span.first, span.last)) spans

-- `--mail`, `--said`
abbrev pub IsMailList : List ℕ → List MailSpan → Type 0
IsMailList text mail = IsNumberList (2 ^ 32) (comma_parts text) (mail_spans mail)

-- `--bytes`: one entry, for the first eight bytes
abbrev pub IsBytes : List ℕ → List Cells → Type 0
IsBytes text [] = ⊥
IsBytes text (cells ∷ []) = (cells.first ≡ 0) × (cells.last ≡ 7)
    × IsNumberList 256 (comma_parts text) (byte_spans cells.values.items)
IsBytes text (cells ∷ other ∷ more) = ⊥

-- an entry: PLACES=VALUE in its first part, and more values in the others
pub record IsEntry (head : List ℕ) (more : List (List ℕ)) (cells : Cells) : Type 0 where
  pub places : List ℕ
  pub value : List ℕ
  pub cut : head ≡ places ++ (codes "=" ++ value)
  pub placed : IsSpan MAX_MEMORY places cells.first cells.last
  pub values : IsNumberList 256 (value ∷ more) (byte_spans cells.values.items)

-- the parts are those of the entries, one entry after another
abbrev pub AreEntries : List (List ℕ) → List Cells → Type 0
AreEntries parts [] = parts ≡ []
AreEntries parts (cells ∷ rest) = (head : List ℕ) × (more : List (List ℕ)) × (others : List (List ℕ))
    × (parts ≡ (head ∷ more) ++ others) × IsEntry head more cells × AreEntries others rest

-- `--cells`
abbrev pub AreCells : List ℕ → List Cells → Type 0
AreCells text all = AreEntries (comma_parts text) all

-- ---- texts that are no list

-- no list has this text; or each that has it has more numbers than a list may have
abbrev pub IsNoMailList : List ℕ → MailFault → Type 0
IsNoMailList text faults.NotNumbers = (mail : List MailSpan) → IsMailList text mail → ⊥
IsNoMailList text faults.Falls = (mail : List MailSpan) → IsMailList text mail → ⊥
IsNoMailList text faults.TooMany =
    (mail : List MailSpan) → IsMailList text mail → MAX_MAIL < span_length (mail_spans mail)
IsNoMailList text faults.Memory = Unit {0}

abbrev pub IsNoBytes : List ℕ → Type 0
IsNoBytes text = (all : List Cells) → IsBytes text all → ⊥

abbrev pub IsNoCells : List ℕ → Type 0
IsNoCells text = (all : List Cells) → AreCells text all → ⊥

-- ---- the lists of `exec`

-- a number, or a dash for none
abbrev pub IsMailSlot : List ℕ → Option ℕ → Type 0
IsMailSlot word None = word ≡ codes "-"
IsMailSlot word (Some n) = IsNumeral 10 (without_leading_plus word)
    × (digits_value 10 (without_leading_plus word) ≡ n) × (n < 2 ^ 32)

-- `--mail`: a slot for each part, and for each node
abbrev pub AreMailSlots : ℕ → List ℕ → List (Option ℕ) → Type 0
AreMailSlots nodes text mail = AllZip IsMailSlot (comma_parts text) mail × (length mail ≡ nodes)

-- `--contents`: pairs of hexadecimal digits, at most as many as there is room for
abbrev pub AreContents : ℕ → List ℕ → List ℕ → Type 0
AreContents room text contents = (decode_of text ≡ Ok contents) × (length contents ≤ room)

-- no mail of this many nodes has the text
abbrev pub IsNoMail : ℕ → List ℕ → CaseFault → Type 0
IsNoMail nodes text cases.Mail = (mail : List (Option ℕ)) → AreMailSlots nodes text mail → ⊥
IsNoMail nodes text cases.Memory = Unit {0}
IsNoMail nodes text cases.Id = ⊥
IsNoMail nodes text cases.Contents = ⊥

-- no contents for this room have the text
abbrev pub AreNoContents : ℕ → List ℕ → CaseFault → Type 0
AreNoContents room text cases.Contents = (contents : List ℕ) → AreContents room text contents → ⊥
AreNoContents room text cases.Memory = Unit {0}
AreNoContents room text cases.Id = ⊥
AreNoContents room text cases.Mail = ⊥
