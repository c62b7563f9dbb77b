use Rattle.std.proofs.Common.{◌≡◌, ◌+◌, ◌-◌, ◌*◌}
use Rattle.rule_text.specs.declared.layout.TheConstants.{MAX_LINE_TOKENS}
use Rattle.rule_text.specs.Forms.{term_form}
use Rattle.rule_text.specs.Tables.{source_form}
use Rattle.rule_text.specs.Terms.{chain_rest, operand_read, chain_read, part}
use Rattle.rule_text.proofs.Ranks.{rank}
use Rattle.rule_text.proofs.terms.+terms.Given as goal

abbrev pub decreases-part : goal.decreases-part
decreases-part l = 20 * l.room

abbrev pub decreases-bracketed : goal.decreases-bracketed
decreases-bracketed l = 20 * l.room + 1

abbrev pub decreases-message : goal.decreases-message
decreases-message l = 20 * l.room + 1

abbrev pub decreases-atom : goal.decreases-atom
decreases-atom l = 20 * l.room + 2

abbrev pub decreases-operand : goal.decreases-operand
decreases-operand l = 20 * l.room + rank l.chain_kind - 1

abbrev pub decreases-chain : goal.decreases-chain
decreases-chain l = 20 * l.room + rank l.kind

abbrev pub decreases-compare : goal.decreases-compare
decreases-compare l = 20 * l.room + 7

abbrev pub decreases-inverse : goal.decreases-inverse
decreases-inverse l = 20 * l.room + 8

abbrev pub decreases-choice : goal.decreases-choice
decreases-choice l = 20 * l.room + 13

abbrev pub decreases-item : goal.decreases-item
decreases-item l = 20 * l.room + 1

abbrev pub decreases-aggregate : goal.decreases-aggregate
decreases-aggregate l = 20 * l.room + 13

abbrev pub decreases-place : goal.decreases-place
decreases-place l = 20 * l.room + 1

abbrev pub decreases-sorted : goal.decreases-sorted
decreases-sorted l = 20 * l.room + 13

abbrev pub decreases-sorted_or_plain : goal.decreases-sorted_or_plain
decreases-sorted_or_plain l = 20 * l.room + 14

abbrev pub decreases-whole : goal.decreases-whole
decreases-whole l = 20 * l.room + 15

-- the operands so far, and what is left to read
abbrev pub invariant-chain-loop-step : goal.invariant-chain-loop-step
invariant-chain-loop-step l =
    chain_read (part l.room (source_form l.source)) (source_form l.source) l.names l.kind l.fn.tokens
    ≡ chain_rest (MAX_LINE_TOKENS - l._step) l.kind
    (operand_read (part l.room (source_form l.source)) (source_form l.source) l.names l.kind)
    (term_form l.left) l.rest
