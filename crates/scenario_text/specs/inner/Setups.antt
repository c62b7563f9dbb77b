-- The frame of a scenario, with what is made of its numbers, and its programs.
use Rattle.std.specs.Prelude.{◌≡◌, ◌≤◌, List, Option, option_map}
use Rattle.bpf_insn.specs.declared.forms.Insn.{Insn}
use Rattle.node_env.specs.Env.{IsExtent}
use Rattle.clock_nodes.specs.Listings.{echo_listing}
use Rattle.scenario_text.specs.declared.setup.Setup.{Setup}
use Rattle.scenario_text.specs.Spelling.{clock_insns}
use Rattle.scenario_text.specs.Views.{FitsFrame, extent_of}

-- the instructions of the clock, if it isn't that of the rule
abbrev pub own_clock : Setup → Option (List Insn)
own_clock setup = option_map (λ v. v.program) setup.own

pub record IsReadingSetup (setup : Setup) : Type 0 where
  pub some : 1 ≤ setup.frame.nodes
  pub extent : IsExtent setup.frame.nodes setup.frame.memory
  pub shape : setup.shape ≡ extent_of setup.frame
  pub clock : setup.clock.program ≡ clock_insns setup.frame (own_clock setup)
  pub clock_fits : FitsFrame setup.frame setup.clock
  pub echo : setup.echo.program ≡ echo_listing setup.frame.nodes
  pub echo_fits : FitsFrame setup.frame setup.echo
