-- A scenario as plain data: a load's program is its instructions, a text is its bytes.
use Rattle.std.specs.Prelude.{ℕ, List, Option}
use Rattle.bpf_insn.specs.declared.forms.Insn.{Insn}
use Rattle.scenario_text.specs.declared.scenario.Coins.{Coins}
use Rattle.scenario_text.specs.declared.scenario.Frame.{Frame}
use Rattle.scenario_text.specs.declared.scenario.Kind.{Kind}
use Rattle.scenario_text.specs.declared.scenario.Unload.{Unload}
use Rattle.scenario_text.specs.declared.scenario.CoinEntry.{CoinEntry}

-- the text of a program: of the assembler, or of a rule
pub data TextDraft : Type 0 where
  assembler_text : (text : List ℕ) → TextDraft
  rule_text : (text : List ℕ) → TextDraft

pub record LoadDraft : Type 0 where
  pub pulse : ℕ
  pub nodes : List ℕ
  pub kind : Kind
  pub text : Option (List ℕ)
  pub program : List Insn

pub record CorruptDraft : Type 0 where
  pub pulse : ℕ
  pub node : ℕ
  pub image : List ℕ

pub record Draft : Type 0 where
  pub frame : Frame
  pub coins : Coins
  pub key : Option ℕ
  pub clock_text : Option TextDraft
  pub clock : Option (List Insn)
  pub loads : List LoadDraft
  pub unloads : List Unload
  pub corruptions : List CorruptDraft
  pub entries : List CoinEntry
