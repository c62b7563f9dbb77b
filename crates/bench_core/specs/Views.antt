-- What contracts see of the code's types, and what the fields of a bench keep.
use Rattle.std.specs.Prelude.{◌-◌, List}
use Rattle.node_env.specs.Env.{Extent}
use Rattle.bpf_insn.specs.declared.forms.Insn.{Insn}
use Rattle.clock_nodes.specs.Listings.{listing}
use Rattle.clock_nodes.specs.Rule.{Rule}
use Rattle.bench_core.specs.declared.change.Change.{Change}
use Rattle.bench_core.specs.declared.change.Change.TheVariants.{Load, Unload, Corrupt}
use Rattle.bench_core.specs.declared.entry.Entry.{Entry}
use Rattle.bench_core.specs.declared.entry.Entry.TheVariants.{Staged, Opened, Closed, Abandoned}
use Rattle.bench_core.specs.State.{Change as ChangeValue, Load as LoadValue, Unload as UnloadValue, Corrupt as CorruptValue}
use Rattle.bench_core.specs.Replay.{Entry as EntryValue, Staged as StagedValue, Opened as OpenedValue, Closed as ClosedValue, Abandoned as AbandonedValue}
use Rattle.bench_core.specs.Setup.{Setup}

-- of a shape, a rule and a clock
abbrev pub setup_with : Extent → Rule → List Insn → Setup
setup_with shape rule clock = record { shape = shape; faults = rule.faults; modulus = rule.modulus; clock = clock }

-- the clock is the rule's
abbrev pub setup_of : Extent → Rule → Setup
setup_of shape rule = setup_with shape rule (listing shape.nodes (shape.nodes - rule.faults) rule.modulus)

-- changes and entries as the pulse machine's: by all parts, an image and coins by their numbers
abbrev pub change_of : Change → ChangeValue
change_of (Load node program) = LoadValue node program
change_of (Unload node) = UnloadValue node
change_of (Corrupt node image) = CorruptValue node image.items

abbrev pub entry_of : Entry → EntryValue
entry_of (Staged actor change) = StagedValue actor (change_of change)
entry_of (Opened coins) = OpenedValue coins.items
entry_of (Closed row) = ClosedValue row
entry_of Abandoned = AbandonedValue
