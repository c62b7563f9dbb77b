use Rattle.std.proofs.Common.{◌≤◌, ◌^◌, map}
use Rattle.std.specs.BTreeSet.{btree_set_len}
use Rattle.command_line.specs.declared.lists.TheConstants.{MAX_MAIL}
use Rattle.command_line.specs.inner.Spans.{AreNumbersOf}
use Rattle.command_line.proofs.lists.mail_in.Given as goal

abbrev pub invariant-loop-part : goal.invariant-loop-part
invariant-loop-part l = record {
  numbers : AreNumbersOf (2 ^ 32) (map (λ part. part.now) l.yielded) l.numbers.keys;
  few : btree_set_len l.numbers ≤ MAX_MAIL;
}
