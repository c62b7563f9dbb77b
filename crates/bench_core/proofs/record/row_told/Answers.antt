use Rattle.std.proofs.Common.{◌≡◌, ◌<◌, ◌+◌, ◌∷◌, ◌==◌, ℕ, Bool, true, false, cond, List, length, drop, get_or, count_by, sym, ap, ◌∙◌, subst, arith}
use Rattle.std.proofs.lemmas.Bool.{eq-eqb, ne_eqb}
use Rattle.std.proofs.lemmas.List.Elements.{All-head}
use Rattle.std.proofs.lemmas.List.{drop_more, drop_all}
use Rattle.clock_nodes.specs.declared.rule.TheConstants.{MAX_MODULUS}
use Rattle.bench_core.specs.State.{Node}
use Rattle.bench_core.specs.Settled.{clocks_where, value_of}
use Rattle.bench_core.specs.Told.{Row, common_of}
use Rattle.bench_core.specs.inner.Told.{joined_of, joined_all}
use Rattle.bench_core.proofs.Tallies.{Tally, moving, tally_no, tally_zero, tally_other, joined_range, joined_common, moving_small}
use Rattle.bench_core.proofs.record.row_told.Goals as goal
use Rattle.bench_core.proofs.record.row_told.Goals.{then-settled-i+then-clock-eq0, then-settled-i+else-clock-eq0, else-settled-i}

pub loop-i-preserved : goal.loop-i-preserved
loop-i-preserved c =
    let i = c.loop-i.i in
    let settled = c.args.settled.now in
    let nodes = c.args.nodes.now in
    let inv = c.loop-i.invariant in
    let flags = drop (i + 1) settled in
    let rest = drop (i + 1) nodes in
    let cl = clocks_where c.args.modulus flags rest in
    let all = clocks_where c.args.modulus settled nodes in
    let C = joined_all 0 (moving all) in
    let Z = count_by (λ (x : ℕ). x == 0) all in
    let S = count_by (λ (x : Bool). x) settled in
    let m = c.loop-i.common in
    let z = c.loop-i.zeros in
    let s = c.loop-i.count in
    let Y = c.index-nodes-i.result in
    let lt : i < length settled = omega (arith, c.loop-i-test.true, c.requires.count) in
    let f = get_or settled i false in
    let front : drop i settled ≡ f ∷ flags = drop_more settled i false lt in
    let front' : drop i nodes ≡ Y ∷ rest = drop_more nodes i Y c.loop-i-test.true
    ∙ ap (λ (n : Node). n ∷ rest) (sym c.index-nodes-i.is) in
    let t1 = subst (λ (xs : List Bool). Tally xs (clocks_where c.args.modulus xs (drop i nodes)) m z s C Z S) front
    inv.tally in
    let t2 : Tally (f ∷ flags) (cond f (value_of c.args.modulus Y.memory ∷ cl) cl) m z s C Z S = subst
    (λ (ys : List Node). Tally (f ∷ flags) (clocks_where c.args.modulus (f ∷ flags) ys) m z s C Z S) front' t1 in
    let at = λ (b : Bool) (e : f ≡ b). subst (λ (b : Bool). Tally (b ∷ flags)
    (cond b (value_of c.args.modulus Y.memory ∷ cl) cl) m z s C Z S) e t2 in
    elim c.if-settled-i.branch [
      | then-settled-i+then-clock-eq0 w ↦
          let clk : w.value-clock.result ≡ value_of c.args.modulus Y.memory = w.value-clock.ensures in
          let t = tally_zero (value_of c.args.modulus Y.memory) flags cl m z s C Z S
          (eq-eqb (value_of c.args.modulus Y.memory) 0 (sym clk ∙ w.if-clock-eq0.true)) (at true w.if-settled-i.true) in
          record {
            tally = rw (w.common-is, w.zeros-is, w.count-is) t;
            few = omega (arith, w.count-is, inv.few);
            few_zeros = omega (arith, w.zeros-is, inv.few_zeros);
            range = rw w.common-is inv.range;
          }
      | then-settled-i+else-clock-eq0 w ↦
          let clk : w.value-clock.result ≡ value_of c.args.modulus Y.memory = w.value-clock.ensures in
          let here = at true w.if-settled-i.true in
          let t = tally_other (value_of c.args.modulus Y.memory) flags cl m z s C Z S
          (ne_eqb (value_of c.args.modulus Y.memory) 0 (λ e. w.if-clock-eq0.false (clk ∙ e))) here in
          let is : c.if-settled-i.common ≡ joined_of m (value_of c.args.modulus Y.memory) = w.common-is
          ∙ (w.joined-common.ensures ∙ ap (joined_of m) clk) in
          record {
            tally = rw (is, w.zeros-is, w.count-is) t;
            few = omega (arith, w.count-is, inv.few);
            few_zeros = omega (arith, w.zeros-is, inv.few_zeros);
            range = rw is (joined_range m (value_of c.args.modulus Y.memory)
                (All-head (λ (x : ℕ). x < MAX_MODULUS) (value_of c.args.modulus Y.memory) cl here.small));
          }
      | else-settled-i w ↦
          let t = tally_no flags cl m z s C Z S (at false w.if-settled-i.false) in
          record {
            tally = rw (w.common-is, w.zeros-is, w.count-is) t;
            few = omega (arith, w.count-is, inv.few);
            few_zeros = omega (arith, w.zeros-is, inv.few_zeros);
            range = rw w.common-is inv.range;
          }
    ]

pub returns : goal.returns
returns c =
    let settled = c.args.settled.now in
    let nodes = c.args.nodes.now in
    let i = c.loop-i.i in
    let inv = c.loop-i.invariant in
    let all = clocks_where c.args.modulus settled nodes in
    let C = joined_all 0 (moving all) in
    let Z = count_by (λ (x : ℕ). x == 0) all in
    let S = count_by (λ (x : Bool). x) settled in
    let m = c.loop-i.common in
    let z = c.loop-i.zeros in
    let s = c.loop-i.count in
    let t = subst (λ (xs : List Bool). Tally xs (clocks_where c.args.modulus xs (drop i nodes)) m z s C Z S)
    (drop_all i settled (omega (arith, c.requires.count))) inv.tally in
    let common : m ≡ common_of (moving all) = t.of_common
    ∙ joined_common (moving all) (moving_small all c.requires.small) in
    let zeros : z ≡ Z = let e = t.of_zeros in omega (arith, e) in
    let count : s ≡ S = let e = t.of_settled in omega (arith, e) in
    let row = λ (a b d : ℕ). let r : Row = record { pulse = c.args.pulse; common = a; zeros = b; settled = d } in r in
    ap (λ (n : ℕ). row n z s) common ∙ (ap (λ (n : ℕ). row (common_of (moving all)) n s) zeros
    ∙ ap (λ (n : ℕ). row (common_of (moving all)) Z n) count)
