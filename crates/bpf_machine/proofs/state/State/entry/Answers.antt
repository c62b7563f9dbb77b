use Rattle.std.proofs.Common.{refl, ◌∙◌, ◌≡◌}
use Rattle.node_env.specs.Slots.{map_of}
use Rattle.bpf_machine.proofs.StackCells.{none_written}
use Rattle.bpf_machine.proofs.state.State.entry.Goals as goal

pub returns : goal.returns
unfolding map_of
returns c =
    let number : c.from.result ≡ c.args.env.now.id = c.from.ensures ∙ c.id.ensures.value in
    rw (none_written, number) refl
