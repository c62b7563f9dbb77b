-- What finite maps of numbers sent say: none, one more, and those of a row of words.
use Rattle.std.specs.Prelude.{◌≡◌, ℕ, ◌<◌, ◌≤◌, ◌^◌, Bool, true, false, cond, List, length, Some, None, is_some, ◌==◌}
use Rattle.std.specs.Ordering.{nat_cmp, eq_by_cmp}
use Rattle.std.specs.Cmp.{nat_cmp_total, unsigned_tied}
use Rattle.std.specs.FinMap.{FinMap, empty, get, insert, get-empty, get-insert}
use Rattle.std.proofs.Common.{sym, ◌∙◌, subst, arith, T}
use Rattle.std.proofs.lemmas.Bool.Decides.{nat_tests}
use Rattle.node_env.specs.Env.{AreNumbers, IsSendings}
use Rattle.node_env.specs.Slots.{IsSlot}
use Rattle.node_env.specs.inner.Slots.{numbers_of}
use Rattle.node_env.specs.declared.shape.TheConstants.{MAX_NODES}
use Rattle.node_env.proofs.Rows.{numbers-words}

none_or_some : {A B : Type 0} {x : A} → None ≡ Some x → B
none_or_some e = absurd (subst (λ o. T (is_some o)) (sym e) tt)

pub numbers-empty : (nodes : ℕ) → AreNumbers nodes empty
numbers-empty nodes j v e = none_or_some (sym (get-empty nat_cmp j) ∙ e)

after_insert : (nodes : ℕ) (m : FinMap nat_cmp ℕ) (i x j v : ℕ) (b : Bool) → (j == i) ≡ b → i < nodes → x < 2 ^ 32
    → AreNumbers nodes m → cond b (Some x) (get m j) ≡ Some v → (j < nodes) × (v < 2 ^ 32)
after_insert nodes m i x j v true t low small old e = (grind (arith, nat_tests), subst IsSlot e small)
after_insert nodes m i x j v false t low small old e = old j v e

pub numbers-insert : (nodes : ℕ) (m : FinMap nat_cmp ℕ) (i x : ℕ) → i < nodes → x < 2 ^ 32 → AreNumbers nodes m
    → AreNumbers nodes (insert m i x)
numbers-insert nodes m i x low small old j v e =
    after_insert nodes m i x j v (eq_by_cmp nat_cmp j i) (sym (unsigned_tied j i)) low small old
    (sym (get-insert nat_cmp_total m i x j) ∙ e)

pub are_sendings : (words : List ℕ) → 1 ≤ length words → length words ≤ MAX_NODES
    → IsSendings (record { nodes = length words; sent = numbers_of words })
are_sendings words some few = record {
  some = some;
  few = few;
  sent = numbers-words (length words) words (omega arith);
}
