use Rattle.std.proofs.Common.{◌↔◌, ◌<◌, ℕ, Any, Contains, take}
use Rattle.command_line.specs.Lists.{IsInSpan, byte_spans}
use Rattle.command_line.proofs.lists.bytes_of.Given as goal

abbrev pub invariant-loop-span : goal.invariant-loop-span
invariant-loop-span l = record {
  numbers : (n : ℕ) → Contains l.bytes.keys n ↔ Any (IsInSpan n) (byte_spans (take l.span-index l.values));
  below : (n : ℕ) → Contains l.bytes.keys n → n < 256;
}
