use Rattle.std.proofs.Common.{arith, List, [], ◌∷◌, ◌++◌, length, map, length-append, subst, sym}
use Rattle.bench_core.specs.Tasks.{Task}
use Rattle.bench_workers.specs.inner.Batches.{AreDealt}
use Rattle.bench_workers.proofs.Dealt.{next_turn, none_dealt, one_dealt}
use Rattle.std.specs.List.{flat_map}
use Rattle.std.proofs.lemmas.List.{length-map}
use Rattle.std.proofs.lemmas.List.Sorted.{IsPermutation-trans, IsPermutation-append_left, IsPermutation-refl}
use Rattle.std.specs.List.Sorted.{IsPermutation}
use Rattle.bench_workers.proofs.deal.deal.Goals as goal

pub loop-task-preserved : goal.loop-task-preserved
loop-task-preserved c =
    let i = c.loop-task.invariant in
    let last = c.in-Some.task ∷ [] in
    let before = flat_map (λ b. b.items) c.loop-task.batches.items in
    record {
      count = omega (arith, i.count, c.in_ok-give.ensures.count);
      next = omega arith;
      turns = next_turn c.loop-task.worker c.args.workers (length c.loop-task.yielded)
          (length (c.loop-task.yielded ++ last)) i.turns i.next (omega (arith, length-append c.loop-task.yielded last));
      each = subst (λ (bs : List (List Task)). AreDealt c.args.workers (c.loop-task.yielded ++ last) bs)
          (sym c.in_ok-give.ensures.batch)
          (one_dealt c.args.workers c.loop-task.worker i.turns.0 c.loop-task.yielded
          (map (λ b. b.items) c.loop-task.batches.items) c.in-Some.task i.next
          (omega (arith, i.count, length-map c.loop-task.batches.items (λ b. b.items), c.loop-task.batches.ok.0))
          i.turns.1 i.each);
      dealt = IsPermutation-trans (c.loop-task.yielded ++ last) (before ++ last)
          (flat_map (λ b. b.items) c.give.new.batches.items)
          (IsPermutation-append_left last c.loop-task.yielded before i.dealt) c.in_ok-give.ensures.given;
    }

pub loop-task-init : goal.loop-task-init
loop-task-init c =
    record {
      count = c.in_ok-batches.ensures.count;
      next = omega (arith, c.requires.some);
      turns = (0, omega arith);
      each = none_dealt (λ b. b.items) c.args.workers c.in_ok-batches.batches.items c.in_ok-batches.ensures.none;
      dealt = subst (IsPermutation []) (sym c.in_ok-batches.ensures.none) (IsPermutation-refl []);
    }
