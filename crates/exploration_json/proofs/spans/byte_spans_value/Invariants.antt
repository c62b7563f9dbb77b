use Rattle.std.proofs.Common.{◌≡◌, ◌++◌, drop, map}
use Rattle.serde_json.specs.View.{view}
use Rattle.exploration_json.specs.Data.{byte_span_data}
use Rattle.exploration_json.proofs.spans.byte_spans_value.Given as goal

-- what is told and what is still to come are the whole
abbrev pub invariant-loop-span : goal.invariant-loop-span
invariant-loop-span l = map view l.values.items ++ map byte_span_data (drop l.span-index l.spans) ≡ map byte_span_data l.spans
