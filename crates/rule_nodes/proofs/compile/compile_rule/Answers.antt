use Rattle.std.proofs.Common.{◌≡◌, ◌∙◌, ◌<◌, length, List, sym, ap, subst, refl, arith}
use Rattle.bpf_insn.specs.declared.forms.Insn.{Insn}
use Rattle.bpf_insn.specs.declared.listing.TheConstants.{MAX_SLOTS}
use Rattle.bpf_insn.specs.declared.listing.ProgramError.{ProgramError}
use Rattle.bpf_insn.specs.Programs.{slots_of, RefusesInsns}
use Rattle.clock_nodes.specs.Ends.{HasRuns, EndsBy}
use Rattle.rule_syntax.specs.declared.syntax.Sizes.{Sizes}
use Rattle.rule_nodes.specs.Fits.{BlockFits}
use Rattle.rule_nodes.specs.Code.{rule_code}
use Rattle.rule_nodes.specs.Ends.{AreSizes, sizes_of, IsRuleEnd}
use Rattle.bpf_verify.specs.Typable.{Typable}
use Rattle.rule_nodes.proofs.TypedBlocks.{rule_typable}
use Rattle.rule_nodes.proofs.Whole.{rule_has_runs, rule_ends_so}
use Rattle.rule_nodes.proofs.Slots.{rule_slots}
use Rattle.rule_nodes.proofs.compile.compile_rule.Goals as goal

pub returns-in-Ok-clause-runs : goal.returns-in-Ok-clause-runs
returns-in-Ok-clause-runs c =
    let z = sizes_of c.args.shape c.args.faults c.args.modulus in
    let z1 : Sizes = record {
      nodes = c.nodes.result;
      faults = c.args.faults;
      modulus = c.args.modulus;
      memory = c.memory.result;
    } in
    let same : z1 ≡ z = rw (c.nodes.ensures.value, c.memory.ensures.value) refl in
    let fits : BlockFits c.args.rule.now z 0 0 = subst (λ (x : Sizes). BlockFits c.args.rule.now x 0 0) same
    c.in_ok-block_fits.ensures.fits in
    let is : c.in-Ok.program ≡ rule_code c.args.rule.now z = c.in-Ok.ensures.program.0 ∙ c.in_ok-insns.ensures.code
    ∙ ap (rule_code c.args.rule.now) same in
    let sizes : AreSizes z c.args.shape = record {
      nodes = refl;
      memory = refl;
      faults = omega (arith, c.ranges.faults.fits);
      modulus = omega (arith, c.ranges.modulus.fits);
    } in
    subst (λ (p : List Insn). HasRuns p c.args.shape) (sym is) (rule_has_runs c.args.rule.now z c.args.shape sizes fits)

pub returns-in-Ok-clause-ends : goal.returns-in-Ok-clause-ends
returns-in-Ok-clause-ends c =
    let z = sizes_of c.args.shape c.args.faults c.args.modulus in
    let z1 : Sizes = record {
      nodes = c.nodes.result;
      faults = c.args.faults;
      modulus = c.args.modulus;
      memory = c.memory.result;
    } in
    let same : z1 ≡ z = rw (c.nodes.ensures.value, c.memory.ensures.value) refl in
    let fits : BlockFits c.args.rule.now z 0 0 = subst (λ (x : Sizes). BlockFits c.args.rule.now x 0 0) same
    c.in_ok-block_fits.ensures.fits in
    let is : c.in-Ok.program ≡ rule_code c.args.rule.now z = c.in-Ok.ensures.program.0 ∙ c.in_ok-insns.ensures.code
    ∙ ap (rule_code c.args.rule.now) same in
    let sizes : AreSizes z c.args.shape = record {
      nodes = refl;
      memory = refl;
      faults = omega (arith, c.ranges.faults.fits);
      modulus = omega (arith, c.ranges.modulus.fits);
    } in
    subst (λ (p : List Insn). EndsBy p c.args.shape (IsRuleEnd z c.args.rule.now)) (sym is)
    (rule_ends_so c.args.rule.now z c.args.shape sizes fits)

pub returns-in-Ok-clause-typable : goal.returns-in-Ok-clause-typable
returns-in-Ok-clause-typable c =
    let z = sizes_of c.args.shape c.args.faults c.args.modulus in
    let z1 : Sizes = record {
      nodes = c.nodes.result;
      faults = c.args.faults;
      modulus = c.args.modulus;
      memory = c.memory.result;
    } in
    let same : z1 ≡ z = rw (c.nodes.ensures.value, c.memory.ensures.value) refl in
    let fits : BlockFits c.args.rule.now z 0 0 = subst (λ (x : Sizes). BlockFits c.args.rule.now x 0 0) same
    c.in_ok-block_fits.ensures.fits in
    let is : c.in-Ok.program ≡ rule_code c.args.rule.now z = c.in-Ok.ensures.program.0 ∙ c.in_ok-insns.ensures.code
    ∙ ap (rule_code c.args.rule.now) same in
    let sizes : AreSizes z c.args.shape = record {
      nodes = refl;
      memory = refl;
      faults = omega (arith, c.ranges.faults.fits);
      modulus = omega (arith, c.ranges.modulus.fits);
    } in
    subst (λ (p : List Insn). Typable p c.args.shape) (sym is)
    (rule_typable c.args.rule.now z c.args.shape sizes c.nodes.ensures.extent fits)

pub unreachable-requires-in-Err-default-TooLong : goal.unreachable-requires-in-Err-default-TooLong
unreachable-requires-in-Err-default-TooLong c =
    let insns = c.in_ok-insns.insns.items in
    let z1 : Sizes = record {
      nodes = c.nodes.result;
      faults = c.args.faults;
      modulus = c.args.modulus;
      memory = c.memory.result;
    } in
    let over : MAX_SLOTS < slots_of insns = subst (λ (e : ProgramError). RefusesInsns insns e)
    c.in-Err-default-TooLong.field-0-1-is c.in-Err-default-TooLong.ensures.refusal in
    let slots : slots_of insns ≡ length insns = ap slots_of c.in_ok-insns.ensures.code
    ∙ rule_slots c.args.rule.now z1 ∙ sym (ap length c.in_ok-insns.ensures.code) in
    omega (arith, over, slots, c.in_ok-insns.ensures.short)
