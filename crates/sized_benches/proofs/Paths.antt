-- What all paths of a bench of clocks do.
use Rattle.std.proofs.Common.{◌≡◌, false, ℕ, zero, suc, ◌+◌, ◌≤◌, sym, subst, arith}
use Rattle.bench_moves.specs.Bed.{Bed, KeepsStep}
use Rattle.bench_moves.specs.Space.{Config, memory_at}
use Rattle.bench_moves.specs.Start.{IsEvery}
use Rattle.bench_moves.specs.Paths.{Follows, HasPath, PathCoinsLead, PathsAgreeFrom, PathsInStepFrom, PathsLuckFrom}
use Rattle.sized_benches.specs.Benches.{IsClockBench, IsCommonAt, IsUniform}
use Rattle.sized_benches.proofs.Coins.{moves_by_on}
use Rattle.sized_benches.proofs.Moved.{move_uniform}
use Rattle.sized_benches.proofs.Leading.{InCommon, Left, any_coins, common_keeps, falls, goes_agree, goes_common, goes_in_common, goes_left, left_none}

module _ (bed : Bed) (is : IsClockBench bed) where
  follows_uniform : (x y : Config) → IsEvery bed x → Follows bed x y → IsUniform bed y
  follows_uniform x y every f = move_uniform bed is x y f.0 f.1 every f.2 f.3

  path_every : (k : ℕ) (x y : Config) → IsEvery bed x → HasPath bed k x y → IsEvery bed y
  path_every zero x y every path = subst (IsEvery bed) (sym path) every
  path_every (suc k) x y every path =
      (follows_uniform path.0 y (path_every k x path.0 every path.1) path.2).every

  path_uniform : (k : ℕ) (x y : Config) → IsEvery bed x → 1 ≤ k → HasPath bed k x y → IsUniform bed y
  path_uniform zero x y every some path = absurd (omega (arith, some))
  path_uniform (suc k) x y every some path = follows_uniform path.0 y (path_every k x path.0 every path.1) path.2

  pub agree_after : bed.own ≡ false → PathsAgreeFrom bed (IsEvery bed)
  agree_after judged x y z k every some path f =
      goes_agree bed is judged y z f.0 f.1 (path_uniform k x y every some path) f.2 f.3

  path_common : (k : ℕ) (x y : Config) → InCommon bed is x → HasPath bed k x y → InCommon bed is y
  path_common zero x y all path = subst (InCommon bed is) (sym path) all
  path_common (suc k) x y all path =
      let f = path.2 in
      goes_in_common bed is path.0 y f.0 f.1 (path_common k x path.0 all path.1) f.2 f.3

  common_path : (k : ℕ) (x y w : Config) → InCommon bed is x → HasPath bed k x y → Follows bed y w
      → KeepsStep bed (memory_at y) (memory_at w)
  common_path k x y w all path f =
      let at = path_common k x y all path in
      common_keeps bed is at.0 y w at.1 (goes_common bed is at.0 y w f.0 f.1 at.1 f.2 f.3)

  pub common_lasts : (c : ℕ) → PathsInStepFrom 0 bed (IsCommonAt bed c)
  common_lasts c x y w k all later path f = common_path k x y w (c, all) path f

  -- with the right coins, while fewer and fewer are left
  coins_lead : (k : ℕ) (x : Config) → Left bed is k x → PathCoinsLead k bed x
  coins_lead zero x here =
      λ a y w k same later path f.
      common_path k a y w (subst (InCommon bed is) (sym same) (left_none bed is x here)) path f
  coins_lead (suc k) x here = λ inboxes are.
      let by = falls bed is k x here in (
        by.0,
        by.1,
        λ y f. coins_lead k y (by.2 y f.0 f.1 (moves_by_on bed x inboxes by.0 f.0 f.1 are f.2) f.3),
      )

  from_uniform : (x : Config) → IsUniform bed x → PathCoinsLead (suc bed.setup.modulus) bed x
  from_uniform x uniform = λ inboxes are.
      let by = any_coins bed is (Left bed is bed.setup.modulus) x
      (λ y left rows moves to. goes_left bed is x y left rows uniform moves to) in (
        by.0,
        by.1,
        λ y f. coins_lead bed.setup.modulus y
            (by.2 y f.0 f.1 (moves_by_on bed x inboxes by.0 f.0 f.1 are f.2) f.3),
      )

  from_every : (x : Config) → IsEvery bed x → PathCoinsLead (suc (suc bed.setup.modulus)) bed x
  from_every x every = λ inboxes are.
      let by = any_coins bed is (IsUniform bed) x
      (λ y left rows moves to. move_uniform bed is x y left rows every moves to) in (
        by.0,
        by.1,
        λ y f. from_uniform y (by.2 y f.0 f.1 (moves_by_on bed x inboxes by.0 f.0 f.1 are f.2) f.3),
      )

  pub may_stabilise : PathsLuckFrom (bed.setup.modulus + 2) bed (IsEvery bed)
  may_stabilise x y k every path =
      let e : suc (suc bed.setup.modulus) ≡ bed.setup.modulus + 2 = omega arith in
      subst (λ (m : ℕ). PathCoinsLead m bed y) e (from_every y (path_every k x y every path))
