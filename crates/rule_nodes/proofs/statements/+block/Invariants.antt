use Rattle.std.proofs.Common.{◌≡◌, ◌≤◌, ◌++◌, [], ◌∷◌, length}
use Rattle.bpf_insn.specs.declared.listing.TheConstants.{MAX_SLOTS}
use Rattle.rule_nodes.specs.Code.{each_code, block_code}
use Rattle.rule_nodes.proofs.statements.+block.Given as goal

abbrev pub invariant-loop-node : goal.invariant-loop-node
invariant-loop-node l = record {
  code : l.all.items ≡ each_code (λ j. block_code l.body.value l.sizes (l.loops ++ j ∷ []) l.depth) l.node;
  short : length l.all.items ≤ MAX_SLOTS;
}
