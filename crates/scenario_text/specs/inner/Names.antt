-- What a name represents, as the code finds it.
use Rattle.std.specs.Prelude.{ℕ, if◌then◌else◌, List, codes, Option, Some, None}
use Rattle.std.specs.Str.{bytes_eq}
use Rattle.scenario_text.specs.declared.scenario.Coins.{Coins}
use Rattle.scenario_text.specs.declared.scenario.Coins.TheVariants.{Zeros, Ones, Chacha}
use Rattle.scenario_text.specs.declared.scenario.Kind.{Kind}
use Rattle.scenario_text.specs.declared.scenario.Kind.TheVariants.{Clock, Say, Echo, Asm, Rule, Noise}

abbrev pub coins_named : List ℕ → Option Coins
coins_named name =
    if bytes_eq name (codes "zeros") then Some Zeros
    else if bytes_eq name (codes "ones") then Some Ones
    else if bytes_eq name (codes "chacha") then Some Chacha
    else None

abbrev pub kind_named : List ℕ → Option Kind
kind_named name =
    if bytes_eq name (codes "clock") then Some Clock
    else if bytes_eq name (codes "say") then Some Say
    else if bytes_eq name (codes "echo") then Some Echo
    else if bytes_eq name (codes "asm") then Some Asm
    else if bytes_eq name (codes "rule") then Some Rule
    else if bytes_eq name (codes "noise") then Some Noise
    else None
