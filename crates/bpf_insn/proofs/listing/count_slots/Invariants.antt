use Rattle.std.proofs.Common.{◌≡◌, ◌≤◌, take}
use Rattle.std.specs.List.{All}
use Rattle.bpf_insn.specs.declared.listing.TheConstants.{MAX_SLOTS}
use Rattle.bpf_insn.specs.Encoding.{InRange}
use Rattle.bpf_insn.specs.Programs.{slots_of}
use Rattle.bpf_insn.proofs.listing.count_slots.Given as goal

abbrev pub invariant-loop-insn : goal.invariant-loop-insn
invariant-loop-insn l =
    record {
      count : l.count ≡ slots_of (take l.insn-index l.insns);
      few : l.count ≤ MAX_SLOTS;
      in_range : All InRange (take l.insn-index l.insns);
    }
