-- What a scenario is as plain data, and when a table reads as it.
use Rattle.std.specs.Prelude.{◌≡◌, ℕ, Bool, not, ◌&&◌, nat_le, map, All, IfSome, option_map, string_bytes}
use Rattle.toml.specs.Data.{Members}
use Rattle.node_env.specs.Env.{Extent}
use Rattle.bpf_verify.specs.Accepted.{Accepted}
use Rattle.bpf_verify.specs.Paths.{IsLongestPath}
use Rattle.bpf_verify.specs.Typable.{Typable}
use Rattle.scenario_text.specs.declared.limits.TheConstants.{CLOCK_VERSION}
use Rattle.scenario_text.specs.declared.scenario.Scenario.{Scenario}
use Rattle.scenario_text.specs.declared.scenario.ProgramText.{ProgramText}
use Rattle.scenario_text.specs.declared.scenario.ProgramText.TheVariants as texts
use Rattle.scenario_text.specs.declared.scenario.Load.{Load}
use Rattle.scenario_text.specs.declared.scenario.Corrupt.{Corrupt}
use Rattle.scenario_text.specs.declared.scenario.Frame.{Frame}
use Rattle.scenario_text.specs.Drafts.{LoadDraft, CorruptDraft, Draft, TextDraft, assembler_text, rule_text}
use Rattle.scenario_text.specs.Spelling.{Spelled}

abbrev pub text_draft : ProgramText → TextDraft
text_draft (texts.Assembler text) = assembler_text (string_bytes text)
text_draft (texts.Rule text) = rule_text (string_bytes text)

abbrev pub load_draft : Load → LoadDraft
load_draft l = record {
  pulse = l.pulse;
  nodes = l.nodes.items;
  kind = l.kind;
  text = option_map (λ t. string_bytes t) l.text;
  program = l.program.program;
}

abbrev pub corrupt_of : Corrupt → CorruptDraft
corrupt_of c = record { pulse = c.pulse; node = c.node; image = c.image.items }

abbrev pub frame_of : Scenario → Frame
frame_of s = record {
  version = s.version;
  nodes = s.nodes;
  faults = s.faults;
  modulus = s.modulus;
  memory = s.memory;
  pulses = s.pulses;
  zero_agrees = s.zero_agrees;
}

abbrev pub draft_of : Scenario → Draft
draft_of s = record {
  frame = frame_of s;
  coins = s.coins;
  key = s.key;
  clock_text = option_map text_draft s.clock_text;
  clock = option_map (λ v. v.program) s.clock;
  loads = map load_draft s.loads.items;
  unloads = s.unloads.items;
  corruptions = map corrupt_of s.corruptions.items;
  entries = s.entries.items;
}

-- the report judges whether clocks count, and says whose clock it is
abbrev pub is_judged : ℕ → Bool
is_judged version = nat_le CLOCK_VERSION version

-- clocks agree only if they are one number below the modulus: for a clock of one's own, unless 0 agrees with every clock
abbrev pub is_strict : Frame → Bool → Bool
is_strict f own = own && not f.zero_agrees

abbrev pub extent_of : Frame → Extent
extent_of f = record { nodes = f.nodes; memory = f.memory }

-- the program is accepted for this shape, and its announced count is its longest path
abbrev pub IsAcceptedFor : Extent → Accepted → Type 0
IsAcceptedFor shape p = (p.shape ≡ shape) × Typable p.program shape × IsLongestPath p.program p.budget

-- for the scenario's shape
abbrev pub FitsFrame : Frame → Accepted → Type 0
FitsFrame f p = IsAcceptedFor (extent_of f) p

-- a load's program is
abbrev pub FitsLoad : Frame → Load → Type 0
FitsLoad f l = FitsFrame f l.program

-- the table reads as this scenario
pub record ReadsAs (members : Members) (s : Scenario) : Type 0 where
  pub spelled : Spelled members (draft_of s)
  pub clock : IfSome s.clock (FitsFrame (frame_of s))
  pub typable : All (FitsLoad (frame_of s)) s.loads.items
