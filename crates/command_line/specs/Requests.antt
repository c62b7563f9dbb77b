-- Which request the options of a command ask for (docs/COMMANDS.md), by what `clap` read of them: a text for each
-- option that is there. That the words give these texts is the part of `clap`. What the texts of lists name is in
-- Lists.
use Rattle.std.specs.Prelude.{◌≡◌, ◌≢◌, ◌⊎◌, ◌↔◌, ℕ, true, false, List, [], ◌++◌, Option, Some, None}
use Rattle.std.specs.Prelude.{IsTrue, MatchOption, codes, option_map, string_bytes}
use Rattle.clap.specs.Matches.{first_value}
use Rattle.clap.specs.declared.parser.matches.Found.{Found}
use Rattle.command_line.specs.Explore.{AsksAnswer, AsksExplore, AsksMail, AsksReach, AsksStart}
use Rattle.command_line.specs.Lists.{AreContents, AreMailSlots}
use Rattle.command_line.specs.Numbers.{HasFlag, OptionHasNumber, IsNumeralOf, IsNumberOf, IsNumberOr}
use Rattle.command_line.specs.declared.request.Invocation.{Invocation}
use Rattle.command_words.specs.declared.options.TheConstants.{COIN, DEPTH, FAULTS, FROM, FUEL, ID, LOADERS, LOADS, MEBIBYTES, MEMORY, MODULUS}
use Rattle.command_words.specs.declared.options.TheConstants.{NODES, PULSES, STATES, STRESS_WORKERS, SWEEPERS, UNTIL, WORKERS}
use Rattle.requests.specs.declared.case.Case.{Case}
use Rattle.explored.specs.declared.question.Question.TheVariants.{Stabilisation}
use Rattle.requests.specs.declared.request.ClaimedExploreOptions.{ClaimedExploreOptions}
use Rattle.requests.specs.declared.request.ClaimedRunOptions.{ClaimedRunOptions}
use Rattle.requests.specs.declared.request.ClaimedSweepOptions.{ClaimedSweepOptions}
use Rattle.requests.specs.declared.request.ClockOptions.{ClockOptions}
use Rattle.requests.specs.declared.request.CompileOptions.{CompileOptions}
use Rattle.requests.specs.declared.request.CompiledForm.{CompiledForm}
use Rattle.requests.specs.declared.request.CompiledForm.TheVariants.{Image, Listing, C}
use Rattle.parameters.specs.declared.detail.Detail.{Detail}
use Rattle.parameters.specs.declared.detail.Detail.TheVariants.{Read, All}
use Rattle.requests.specs.declared.request.ExecOptions.{ExecOptions}
use Rattle.requests.specs.declared.request.ExplainOptions.{ExplainOptions}
use Rattle.requests.specs.declared.request.LinesOptions.{LinesOptions}
use Rattle.requests.specs.declared.request.NodeInPulse.{NodeInPulse}
use Rattle.requests.specs.declared.request.ProveOptions.{ProveOptions}
use Rattle.requests.specs.declared.request.Request.{Request}
use Rattle.requests.specs.declared.request.Request.TheVariants as requests
use Rattle.requests.specs.declared.request.RunOptions.{RunOptions}
use Rattle.requests.specs.declared.request.ScenarioRequest.{ScenarioRequest}
use Rattle.requests.specs.declared.request.ScenarioRequest.TheVariants as scenarios
use Rattle.requests.specs.declared.request.ShapeOptions.{ShapeOptions}
use Rattle.parameters.specs.declared.stress.StressOptions.{StressOptions}
use Rattle.requests.specs.declared.request.SweepOptions.{SweepOptions}
use Rattle.parameters.specs.Keys.{KeyRange}
use Rattle.parameters.specs.Pulses.{PulseRange}
use Rattle.parameters.specs.declared.lines.LineFormat.{LineFormat}
use Rattle.parameters.specs.declared.lines.LineFormat.TheVariants.{Json}

-- ---- values of options

-- PULSE:NODE
abbrev pub IsPlace : List ℕ → NodeInPulse → Type 0
IsPlace text place = (pulse : List ℕ) × (node : List ℕ) × (text ≡ pulse ++ (codes ":" ++ node))
    × IsNumeralOf 32 pulse place.pulse × IsNumeralOf 32 node place.node

abbrev pub OptionHasPlace : Found → List ℕ → NodeInPulse → Type 0
OptionHasPlace f name place = (text : List ℕ) × (first_value f name ≡ Some text) × IsPlace text place

-- FIRST..LAST
abbrev pub IsKeys : List ℕ → KeyRange → Type 0
IsKeys text keys = (first : List ℕ) × (last : List ℕ) × (text ≡ first ++ (codes ".." ++ last))
    × IsNumeralOf 64 first keys.first × IsNumeralOf 64 last keys.last

-- ---- options of commands

abbrev pub AsksShape : Found → ShapeOptions → Type 0
AsksShape f shape = IsNumberOf NODES f shape.nodes × IsNumberOf MEMORY f shape.memory

-- a slot for each node, as its part of the text says; no slot if the option isn't there
abbrev pub HasSlots : Found → ℕ → List (Option ℕ) → Type 0
HasSlots f nodes mail = MatchOption (first_value f (codes "mail")) (mail ≡ []) (λ text. AreMailSlots nodes text mail)

-- the bytes of the pairs of digits, which the memory has room for; none if the option isn't there
abbrev pub HasContents : Found → ℕ → List ℕ → Type 0
HasContents f room contents = MatchOption (first_value f (codes "contents")) (contents ≡ [])
    (λ text. AreContents room text contents)

pub record AsksCase (f : Found) (shape : ShapeOptions) (case : Case) : Type 0 where
  pub id : IsNumberOf ID f case.id
  pub coin : IsTrue case.coin ↔ OptionHasNumber 32 f COIN.name.now (Some 1)
  pub mail : HasSlots f shape.nodes case.mail.items
  pub contents : HasContents f shape.memory case.contents.items

pub record AsksExec (f : Found) (asked : ExecOptions) : Type 0 where
  pub shape : AsksShape f asked.shape
  pub text : HasFlag f (codes "text") asked.text
  pub fuel : IsNumberOr 64 FUEL.default f FUEL.name.now asked.fuel
  pub case : AsksCase f asked.shape asked.case
  pub show : HasFlag f (codes "show") asked.show
  pub trace : HasFlag f (codes "trace") asked.trace

-- what is printed of a rule
abbrev pub AsksCompiledForm : Found → CompiledForm → Type 0
AsksCompiledForm f Image = HasFlag f (codes "list") false × HasFlag f (codes "c") false
AsksCompiledForm f Listing = HasFlag f (codes "list") true
AsksCompiledForm f C = HasFlag f (codes "list") false × HasFlag f (codes "c") true

pub record AsksCompile (f : Found) (asked : CompileOptions) : Type 0 where
  pub shape : AsksShape f asked.shape
  pub faults : IsNumberOf FAULTS f asked.faults
  pub modulus : IsNumberOf MODULUS f asked.modulus
  pub form : AsksCompiledForm f asked.form

pub record AsksRule (f : Found) (nodes faults modulus : ℕ) : Type 0 where
  pub node_count : IsNumberOf NODES f nodes
  pub fault_count : IsNumberOf FAULTS f faults
  pub clock_modulus : IsNumberOf MODULUS f modulus

pub record AsksClock (f : Found) (asked : ClockOptions) : Type 0 where
  pub rule : AsksRule f asked.rule.nodes asked.rule.faults asked.rule.modulus
  pub list : HasFlag f (codes "list") asked.list

-- what is told of each slot
abbrev pub AsksDetail : Found → Option Detail → Type 0
AsksDetail f None = HasFlag f (codes "explain") false
AsksDetail f (Some Read) = HasFlag f (codes "explain") true × HasFlag f (codes "all") false
AsksDetail f (Some All) = HasFlag f (codes "explain") true × HasFlag f (codes "all") true

-- a text is read, or more is told than the verdict
pub record AsksExplained (f : Found) (asked : ExplainOptions) : Type 0 where
  pub shape : AsksShape f asked.shape
  pub text : HasFlag f (codes "text") asked.text
  pub detail : AsksDetail f asked.detail
  pub more : asked.detail ≡ None → IsTrue asked.text

abbrev pub AsksRun : Found → RunOptions → Type 0
AsksRun f asked = IsNumberOf WORKERS f asked.workers
    × HasFlag f (codes "check") asked.check

pub record AsksSpan (f : Found) (span : PulseRange) : Type 0 where
  pub from : IsNumberOf FROM f span.first
  pub until : IsNumberOf UNTIL f span.last

-- a report is asked for, and no lines
abbrev pub AsksReport : Found → Type 0
AsksReport f = HasFlag f (codes "json") false

abbrev pub AsksFormat : Found → LineFormat → Type 0
AsksFormat f Json = HasFlag f (codes "json") true

pub record AsksLines (f : Found) (asked : LinesOptions) : Type 0 where
  pub run : AsksRun f asked.run
  pub format : AsksFormat f asked.form.format
  pub span : AsksSpan f asked.form.span

-- the text of the properties by which the run is judged, and whether lines of JSON are asked for
pub record AsksClaimedRun (f : Found) (asked : ClaimedRunOptions) : Type 0 where
  pub run : AsksRun f asked.run
  pub json : HasFlag f (codes "json") asked.json
  pub claims : first_value f (codes "claims") ≡ Some (string_bytes asked.claims)

abbrev pub AsksSweep : Found → SweepOptions → Type 0
AsksSweep f asked = ((text : List ℕ) × (first_value f (codes "keys") ≡ Some text) × IsKeys text asked.keys)
    × OptionHasNumber 32 f SWEEPERS.name.now asked.workers

-- the text of the properties whose violations are counted
pub record AsksClaimedSweep (f : Found) (asked : ClaimedSweepOptions) : Type 0 where
  pub sweep : AsksSweep f asked.sweep
  pub claims : first_value f (codes "claims") ≡ Some (string_bytes asked.claims)

-- the text of the properties that are explored: the question is how each stabilises
pub record AsksClaimedExplore (f : Found) (asked : ClaimedExploreOptions) : Type 0 where
  pub question : asked.explore.question ≡ Stabilisation
  pub mail : AsksMail f asked.explore.mail
  pub start : AsksStart f asked.explore.start
  pub states : IsNumberOf STATES f asked.explore.states
  pub depth : IsNumberOf DEPTH f asked.explore.depth
  pub memory : IsNumberOf MEBIBYTES f asked.explore.memory
  pub answer : AsksAnswer f asked.explore.odds asked.explore.form
  pub reach : AsksReach f asked.explore.reach
  pub claims : first_value f (codes "claims") ≡ Some (string_bytes asked.claims)

pub record AsksStress (f : Found) (asked : StressOptions) : Type 0 where
  pub loaders : IsNumberOf LOADERS f asked.loaders
  pub loads : IsNumberOf LOADS f asked.loads
  pub pulses : IsNumberOf PULSES f asked.pulses
  pub workers : IsNumberOf STRESS_WORKERS f asked.workers

-- the texts of a rule and of claims about it
pub record AsksProve (f : Found) (asked : ProveOptions) : Type 0 where
  pub rule : first_value f (codes "rule") ≡ Some (string_bytes asked.rule)
  pub claims : first_value f (codes "claims") ≡ Some (string_bytes asked.claims)

-- ---- requests

abbrev pub IsUntraced : Found → Type 0
IsUntraced f = first_value f (codes "trace") ≡ None

-- no file of properties is given
abbrev pub IsUnclaimed : Found → Type 0
IsUnclaimed f = first_value f (codes "claims") ≡ None

-- what a command that reads a scenario is asked for
abbrev pub AsksOfScenario : List ℕ → Found → ScenarioRequest → Type 0
AsksOfScenario name f (scenarios.Run asked) =
    (name ≡ codes "run") × IsUntraced f × IsUnclaimed f × AsksReport f × AsksRun f asked
AsksOfScenario name f (scenarios.Lines asked) =
    (name ≡ codes "run") × IsUntraced f × IsUnclaimed f × AsksLines f asked
AsksOfScenario name f (scenarios.ClaimedRun asked) =
    (name ≡ codes "run") × IsUntraced f × AsksClaimedRun f asked
AsksOfScenario name f (scenarios.TracedRun place) = (name ≡ codes "run") × OptionHasPlace f (codes "trace") place
AsksOfScenario name f (scenarios.NodeProgram asked) =
    (name ≡ codes "dis") × OptionHasPlace f (codes "node") asked.place × HasFlag f (codes "list") asked.list
AsksOfScenario name f (scenarios.Sweep asked) = (name ≡ codes "sweep") × IsUnclaimed f × AsksSweep f asked
AsksOfScenario name f (scenarios.ClaimedSweep asked) = (name ≡ codes "sweep") × AsksClaimedSweep f asked
AsksOfScenario name f (scenarios.Explore asked) = (name ≡ codes "explore") × IsUnclaimed f × AsksExplore f asked
AsksOfScenario name f (scenarios.ClaimedExplore asked) = (name ≡ codes "explore") × AsksClaimedExplore f asked

-- what the command of this name is asked for by its options; help isn't asked for in this way
abbrev pub Asks : List ℕ → Found → Request → Type 0
Asks name f (requests.Exec asked) = (name ≡ codes "exec") × AsksExec f asked
Asks name f (requests.Asm list) = (name ≡ codes "asm") × HasFlag f (codes "list") list
Asks name f (requests.Compile asked) = (name ≡ codes "compile") × AsksCompile f asked
Asks name f (requests.Dis list) = (name ≡ codes "dis") × (first_value f (codes "node") ≡ None)
    × HasFlag f (codes "clock") false × HasFlag f (codes "list") list
Asks name f (requests.Clock asked) = (name ≡ codes "dis") × (first_value f (codes "node") ≡ None)
    × HasFlag f (codes "clock") true × AsksClock f asked
Asks name f (requests.Verify shape) = (name ≡ codes "verify") × AsksShape f shape × HasFlag f (codes "text") false
    × HasFlag f (codes "explain") false
Asks name f (requests.Explain asked) = (name ≡ codes "verify") × AsksExplained f asked
Asks name f (requests.Scenario asked) = AsksOfScenario name f asked
Asks name f (requests.Prove asked) = (name ≡ codes "prove") × AsksProve f asked
Asks name f (requests.Stress asked) = (name ≡ codes "stress") × AsksStress f asked
Asks name f (requests.Help text) = ⊥

-- the file that is read: `stress` and `dis --clock` read none, and a dash is none
abbrev pub AsksFile : List ℕ → Found → Option (List ℕ) → Type 0
AsksFile name f (Some path) = (first_value f (codes "file") ≡ Some path) × (path ≢ codes "-")
    × (name ≢ codes "stress") × (name ≡ codes "dis" → HasFlag f (codes "clock") false)
AsksFile name f None = (name ≡ codes "stress") ⊎ (((name ≡ codes "dis") × HasFlag f (codes "clock") true)
    ⊎ ((first_value f (codes "file") ≡ None) ⊎ (first_value f (codes "file") ≡ Some (codes "-"))))

-- a request for help
abbrev pub IsHelp : Request → Type 0
IsHelp (requests.Exec asked) = ⊥
IsHelp (requests.Asm list) = ⊥
IsHelp (requests.Compile asked) = ⊥
IsHelp (requests.Dis list) = ⊥
IsHelp (requests.Clock asked) = ⊥
IsHelp (requests.Verify shape) = ⊥
IsHelp (requests.Explain asked) = ⊥
IsHelp (requests.Scenario asked) = ⊥
IsHelp (requests.Prove asked) = ⊥
IsHelp (requests.Stress asked) = ⊥
IsHelp (requests.Help text) = Unit {0}

-- what the words ask for: help, or what a command with some options asks for
abbrev pub IsAsked : Request → Type 0
IsAsked request = IsHelp request ⊎ ((name : List ℕ) × (f : Found) × Asks name f request)

-- what the command of this name is asked for by its options, with the file that it reads
abbrev pub AsksWithFile : List ℕ → Found → Invocation → Type 0
AsksWithFile name f asked = Asks name f asked.request × AsksFile name f (option_map string_bytes asked.file)

-- what the words ask for, with the file that is read: for help none
abbrev pub IsAskedWithFile : Invocation → Type 0
IsAskedWithFile asked = (IsHelp asked.request × (asked.file ≡ None))
    ⊎ ((name : List ℕ) × (f : Found) × AsksWithFile name f asked)
