-- What the options of `explore` ask for (docs/EXPLORE.md, "Options"), by what `clap` read of them.
use Rattle.std.specs.Prelude.{◌≡◌, ◌⊎◌, ◌≤◌, ◌++◌, ℕ, List, Option, Some, None, Ok, Vec, codes, map, true, false, unwrap_or}
use Rattle.std.specs.List.{AllZip}
use Rattle.hex.specs.Hex.{decode_of}
use Rattle.clap.specs.Matches.{first_value}
use Rattle.clap.specs.declared.parser.matches.Found.{Found}
use Rattle.command_line.specs.Lists.{AreCells, IsBytes, IsMailList, comma_parts}
use Rattle.command_line.specs.Numbers.{HasFlag, IsNumeralOf, IsNumberOf}
use Rattle.command_line.specs.declared.explore_words.OddsAsked.{OddsAsked}
use Rattle.command_words.specs.declared.options.TheConstants.{DEPTH, MEBIBYTES, ODDS, STATES}
use Rattle.explored.specs.declared.options.Cells.{Cells}
use Rattle.explored.specs.declared.options.ExploreOptions.{ExploreOptions}
use Rattle.explored.specs.declared.options.Form.{Form}
use Rattle.explored.specs.declared.options.Form.TheVariants as forms
use Rattle.explored.specs.declared.options.GraphFormat.{GraphFormat}
use Rattle.explored.specs.declared.options.GraphFormat.TheVariants as formats
use Rattle.explored.specs.declared.options.Mail.{Mail}
use Rattle.explored.specs.declared.options.Mail.TheVariants as mails
use Rattle.explored.specs.declared.options.MailSpan.{MailSpan}
use Rattle.explored.specs.declared.options.Memories.{Memories}
use Rattle.explored.specs.declared.options.Memories.TheVariants as memories
use Rattle.explored.specs.declared.question.Question.{Question}
use Rattle.explored.specs.declared.question.Question.TheVariants.{Agreement, Stabilisation, Both}
use Rattle.explored.specs.declared.options.Share.{Share}
use Rattle.explored.specs.declared.options.Starts.{Starts}
use Rattle.explored.specs.declared.options.Starts.TheVariants as starts

-- the option isn't there
abbrev pub HasNone : Found → List ℕ → Type 0
HasNone f name = first_value f name ≡ None

abbrev pub OptionHasText : Found → List ℕ → List ℕ → Type 0
OptionHasText f name text = first_value f name ≡ Some text

-- ---- messages

-- the list that the text of an option means, which is there exactly if the option is
abbrev pub HasMail : {Z : Type 0} → Found → List ℕ → Option (Vec MailSpan Z) → Type 0
HasMail f name None = HasNone f name
HasMail f name (Some mail) = (text : List ℕ) × OptionHasText f name text × IsMailList text mail.items

-- all, or a list
abbrev pub AsksMail : Found → Option Mail → Type 0
AsksMail f None = HasNone f (codes "mail")
AsksMail f (Some mails.All) = OptionHasText f (codes "mail") (codes "all")
AsksMail f (Some (mails.Listed mail)) =
    (text : List ℕ) × OptionHasText f (codes "mail") text × IsMailList text mail.items

-- ---- the start

-- the bytes of pairs of hexadecimal digits
abbrev pub IsMemoryImage : List ℕ → List ℕ → Type 0
IsMemoryImage part image = decode_of part ≡ Ok image

-- a memory for each part
abbrev pub AreImages : List ℕ → List (List ℕ) → Type 0
AreImages text images = AllZip IsMemoryImage (comma_parts text) images

-- the entries of the bytes at the start: those of one of the two options
abbrev pub HasCells : Found → List Cells → Type 0
HasCells f cells =
    ((text : List ℕ) × OptionHasText f (codes "bytes") text × HasNone f (codes "cells") × IsBytes text cells)
    ⊎ ((text : List ℕ) × HasNone f (codes "bytes") × OptionHasText f (codes "cells") text × AreCells text cells)

-- what memories may be, by one of three options
abbrev pub HasMemories : Found → Memories → Type 0
HasMemories f (memories.Cells cells) = HasCells f cells.items × HasNone f (codes "images")
HasMemories f (memories.Images images) = HasNone f (codes "bytes") × HasNone f (codes "cells")
    × ((text : List ℕ) × OptionHasText f (codes "images") text × AreImages text (map (λ v. v.items) images.items))

abbrev pub HasNoMemories : Found → Type 0
HasNoMemories f = HasNone f (codes "bytes") × HasNone f (codes "cells") × HasNone f (codes "images")

abbrev pub AsksMemories : Found → Option Memories → Type 0
AsksMemories f None = HasNoMemories f
AsksMemories f (Some named) = HasMemories f named

-- any start has memories of one of the options, and the list of what was sent if it is named; others have neither
abbrev pub AsksStart : Found → Starts → Type 0
AsksStart f starts.Zero = (HasNone f (codes "start") ⊎ OptionHasText f (codes "start") (codes "zero"))
    × HasNoMemories f × HasNone f (codes "said")
AsksStart f (starts.Any any) = OptionHasText f (codes "start") (codes "any") × HasMemories f any.memories
    × HasMail f (codes "said") any.said
AsksStart f starts.Every = OptionHasText f (codes "start") (codes "every") × HasNoMemories f × HasNone f (codes "said")

-- ---- odds

-- COUNT, or FIRST..LAST
abbrev pub IsOddsText : List ℕ → OddsAsked → Type 0
IsOddsText text odds = ((last : ℕ) × (odds.last ≡ Some last) × (odds.first ≡ None) × IsNumeralOf 32 text last)
    ⊎ ((first : ℕ) × (last : ℕ) × (left : List ℕ) × (right : List ℕ) × (odds.first ≡ Some first)
    × (odds.last ≡ Some last) × (text ≡ left ++ (codes ".." ++ right))
    × IsNumeralOf 32 left first × IsNumeralOf 32 right last)

-- numbers of pulses of the option's range, which rise; 1 is the first if none is named
pub record ArePulses (odds : OddsAsked) : Type 0 where
  pub least : ODDS.least ≤ unwrap_or odds.first 1
  pub rise : unwrap_or odds.first 1 ≤ unwrap_or odds.last 1
  pub most : unwrap_or odds.last 1 ≤ ODDS.most

abbrev pub AsksOdds : Found → OddsAsked → Type 0
AsksOdds f odds = (HasNone f (codes "odds") × (odds.first ≡ None) × (odds.last ≡ None))
    ⊎ ((text : List ℕ) × OptionHasText f (codes "odds") text × IsOddsText text odds × ArePulses odds)

-- PARTS/WHOLE
abbrev pub IsShareText : List ℕ → Share → Type 0
IsShareText text share = (parts : List ℕ) × (of : List ℕ) × (text ≡ parts ++ (codes "/" ++ of))
    × IsNumeralOf 32 parts share.parts × IsNumeralOf 32 of share.of

-- a share of a whole, at least one part of it
pub record NamesShare (f : Found) (share : Share) : Type 0 where
  pub text : List ℕ
  pub named : OptionHasText f (codes "reach") text
  pub written : IsShareText text share
  pub some : 1 ≤ share.parts
  pub within : share.parts ≤ share.of

abbrev pub AsksReach : Found → Option Share → Type 0
AsksReach f None = HasNone f (codes "reach")
AsksReach f (Some share) = NamesShare f share

-- ---- the answer

abbrev pub AsksGraph : List ℕ → GraphFormat → Type 0
AsksGraph name formats.Dot = name ≡ codes "dot"
AsksGraph name formats.Transitions = name ≡ codes "tra"
AsksGraph name formats.Labels = name ≡ codes "lab"

-- the form of the answer, by two options and the first number of pulses of a table of odds
abbrev pub AsksForm : Found → Option ℕ → Form → Type 0
AsksForm f first forms.Text = (first ≡ None) × HasFlag f (codes "json") false × HasNone f (codes "graph")
AsksForm f first forms.Json = (first ≡ None) × HasFlag f (codes "json") true × HasNone f (codes "graph")
AsksForm f first (forms.OddsTable begin) =
    (first ≡ Some begin) × HasFlag f (codes "json") false × HasNone f (codes "graph")
AsksForm f first (forms.Graph format) = (first ≡ None) × HasFlag f (codes "json") false
    × ((name : List ℕ) × OptionHasText f (codes "graph") name × AsksGraph name format)

-- ---- the request

abbrev pub AsksQuestion : Found → Question → Type 0
AsksQuestion f Agreement = OptionHasText f (codes "ask") (codes "agreement")
AsksQuestion f Stabilisation = OptionHasText f (codes "ask") (codes "stabilisation")
AsksQuestion f Both = HasNone f (codes "ask") ⊎ OptionHasText f (codes "ask") (codes "both")

-- the odds and the form of the answer
abbrev pub AsksAnswer : Found → Option ℕ → Form → Type 0
AsksAnswer f last form =
    (odds : OddsAsked) × AsksOdds f odds × (odds.last ≡ last) × AsksForm f odds.first form

pub record AsksExplore (f : Found) (asked : ExploreOptions) : Type 0 where
  pub question : AsksQuestion f asked.question
  pub mail : AsksMail f asked.mail
  pub start : AsksStart f asked.start
  pub states : IsNumberOf STATES f asked.states
  pub depth : IsNumberOf DEPTH f asked.depth
  pub memory : IsNumberOf MEBIBYTES f asked.memory
  pub answer : AsksAnswer f asked.odds asked.form
  pub reach : AsksReach f asked.reach
