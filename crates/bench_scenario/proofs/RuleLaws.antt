-- The runs of rules' programs.
use Rattle.std.proofs.Common.{◌≡◌, ℕ, List, [], Option, refl, ap, sym, subst, ◌∙◌}
use Rattle.std.specs.Prelude.{unwrap_or}
use Rattle.bpf_insn.specs.declared.forms.Insn.{Insn}
use Rattle.bpf_machine.specs.Run.{CompleteRun}
use Rattle.node_env.specs.Env.{IsSetting}
use Rattle.clock_nodes.specs.Ends.{IsNodeStart}
use Rattle.rule_nodes.proofs.Whole.{rule_ends_so}
use Rattle.bench_core.specs.State.{new_state, node_at, setting_at, coins_of}
use Rattle.bench_core.specs.StepList.{entries_of}
use Rattle.bench_core.proofs.Replays.{steps_are_entries}
use Rattle.bench_core.proofs.Sound.{is_setting, sound_replay}
use Rattle.bench_core.proofs.WholeRuns.{every_run}
use Rattle.bench_scenario.specs.RuleRuns.{RulesRun}

pub rules_run : RulesRun
rules_run s acts b b' i p rule z ok h are pulse lt loaded sizes fits code =
    let replay = steps_are_entries s (new_state s) acts b h in
    let sound = sound_replay s (entries_of acts) b ok replay in
    let coins : coins_of b ≡ pulse.coins = ap (λ (o : Option (List ℕ)). unwrap_or o []) pulse.is_open in
    let env = setting_at s b.mail (coins_of b) i in
    let memory = (node_at b.nodes i).memory in
    let setting : IsSetting env = subst (λ (cs : List ℕ). IsSetting (setting_at s b.mail cs i)) (sym coins)
    (is_setting s b pulse.coins i ok sound pulse.is_open lt) in
    let held = sound.memories i lt in
    let start : IsNodeStart s.shape env memory = record {
      extent = refl;
      setting = setting;
      length = held.length;
      bytes = held.bytes;
    } in
    let whole = every_run s acts b b' i p ok h are pulse lt loaded in
    let run = subst (λ (c : List Insn). CompleteRun c env memory whole.0) code whole.1.run in
    let ends = rule_ends_so rule z s.shape sizes fits env memory whole.0 start run in
    record { memory = whole.1.memory ∙ ends.memory; sends = whole.1.sends ∙ ends.sent }
