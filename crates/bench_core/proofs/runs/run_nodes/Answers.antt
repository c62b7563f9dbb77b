use Rattle.std.proofs.Common.{◌≡◌, ◌∙◌, ◌<◌, ℕ, List, length, slice_set, sym, ap, subst, arith, inl, inr, get_or-set_same, get_or-set_other}
use Rattle.std.proofs.lemmas.Bool.{cases_eq}
use Rattle.bench_core.specs.Tasks.{Done}
use Rattle.bench_core.specs.declared.found.Found.{Found}
use Rattle.bench_core.specs.declared.found.Found.TheVariants.{Missing}
use Rattle.bench_core.specs.inner.Found.{found_at}
use Rattle.bench_core.specs.inner.OpenPulse.{setup_in, state_of_open}
use Rattle.bench_core.specs.inner.Served.{IsServed}
use Rattle.bench_core.proofs.Served.{handed_ran, served_more}
use Rattle.bench_core.proofs.runs.run_nodes.Goals as goal

pub loop-node-preserved : goal.loop-node-preserved
loop-node-preserved c =
    let p = c.args.pulse.now in
    let n = c.loop-node.node in
    let found = c.loop-node.found in
    let f = c.in_ok-found.field-0 in
    let inv = c.loop-node.invariant in
    let before = c.loop-node.runs.dones.items in
    let after = c.serve.new.self.dones.items in
    let more = c.in_ok-found.ensures.more in
    let lt : n < length found = omega (arith, c.loop-node-test.true, c.nodes-count.ensures.value, c.requires.room, c.loop-node.auto.found) in
    let Serves = λ (ds : List Done) (i : ℕ) (g : Found). IsServed (setup_in p) (state_of_open p) p.coins.now ds i g in
    record {
      each = λ i within.
          elim (cases_eq i n) [
            | inl e ↦
                let set : found_at (slice_set found n f) i ≡ f = ap (found_at (slice_set found n f)) e
                ∙ get_or-set_same found n f Missing lt in
                subst (Serves after i) (sym set)
                (subst (λ (k : ℕ). Serves after k f) (sym e) c.in_ok-found.ensures.served)
            | inr ne ↦
                let other : found_at (slice_set found n f) i ≡ found_at found i =
                get_or-set_other found n i f Missing ne in
                subst (Serves after i) (sym other)
                (subst (λ (ds : List Done). Serves ds i (found_at found i)) (sym more.1)
                (served_more (setup_in p) (state_of_open p) p.coins.now before more.0 i (found_at found i)
                (inv.each i (omega arith))))
          ];
      runs = c.in_ok-found.ensures.runs;
    }

pub returns : goal.returns
returns c =
    let p = c.args.pulse.now in
    let inv = c.loop-node.invariant in
    let dones = c.loop-node.runs.dones.items in
    let ran = handed_ran (setup_in p) (state_of_open p) p.coins.now p.opening dones (λ k d lt. (inv.runs k d lt).0)
    (λ k d lt. (inv.runs k d lt).1) in
    record {
      each = λ i lt. inv.each i (omega (arith, lt, c.loop-node-test.false, c.nodes-count.ensures.value));
      ran = ran.0;
      fit = ran.1;
    }
