-- From the results that were found for nodes to the closed pulse.
use Rattle.std.proofs.Common.{◌≡◌, ℕ, zero, suc, ◌<◌, ◌≤◌, Bool, false, IsTrue, ◌↔◌, List, [], ◌∷◌, ◌++◌, length, get_or, All, Option, Some, None, is_some, MatchOption, refl, sym, ap, ◌∙◌, subst, arith, inl, inr}
use Rattle.std.specs.Prelude.{IsNone, IsSome, option_map, slice_get, unwrap_or}
use Rattle.std.specs.Vec.{with_items}
use Rattle.std.specs.Ordering.{nat_cmp}
use Rattle.std.specs.FinMap.{FinMap}
use Rattle.std.proofs.lemmas.List.{with_items_is}
use Rattle.std.proofs.lemmas.List.Elements.{All-contains}
use Rattle.std.proofs.lemmas.Option.{same_Some, none-some, slice_get_within, get_or_from_slice_get}
use Rattle.node_env.specs.Env.{Setting}
use Rattle.bpf_machine.specs.Run.{CompleteRun, End}
use Rattle.bpf_verify.specs.Accepted.{Accepted}
use Rattle.bench_core.specs.declared.bench.Bench.TheInside.{Inside}
use Rattle.bench_core.specs.Setup.{Setup}
use Rattle.bench_core.specs.State.{State, Node, coins_of, node_at, mail_from, setting_at}
use Rattle.bench_core.specs.Replay.{BenchValue}
use Rattle.bench_core.specs.inner.Kept.{view_of, IsKept}
use Rattle.bench_core.specs.Pulse.{RunsClock, Runs, Rests, NodePulse, Pulse}
use Rattle.bench_core.specs.Told.{AreSteps, IsSteps, RanTo}
use Rattle.bench_core.specs.Tasks.{Task, Done, IsAlike, IsEnd, IsHanded}
use Rattle.bench_core.specs.declared.found.Found.{Found}
use Rattle.bench_core.specs.declared.found.Found.TheVariants.{Missing, At, Twice}
use Rattle.bench_core.specs.inner.Found.{found_at, FitsNode, IsFound, IsLeftByPulse, AreLeft}
use Rattle.bench_core.specs.inner.Nodes.{KnowsClock, KnowsFirsts}
use Rattle.bench_core.specs.inner.Served.{AreServed, IsServed, SeesAlike, steps_at}
use Rattle.bench_core.specs.inner.Told.{IsMostSteps}
use Rattle.bench_core.proofs.Alike.{same_end}
use Rattle.bench_core.proofs.AnyRuns.{any_run_leaves}
use Rattle.bench_core.proofs.Sound.{Sound}
use Rattle.bench_core.proofs.Closing.{closed_state, AreSorted, handed_task, task_for, same_done}
use Rattle.bench_core.proofs.Closed.{left_at, no_task, one_end, ran_of}
use Rattle.bench_core.proofs.Opening.{sound_of}

-- no program, and one
pub not_both : (o : Option Accepted) (p : Accepted) → o ≡ Some p → IsNone o → ⊥
not_both None p has none = none-some p has
not_both (Some q) p has none = absurd cc

-- ---- the same of lists that are equal

pub ran_in : (s : Setup) (b c : State) (coins : List ℕ) (i : ℕ) (end : End) → b.nodes ≡ c.nodes → b.mail ≡ c.mail
    → RanTo s b coins i end → RanTo s c coins i end
ran_in s b c coins i end nodes mail h = record {
  program = h.program;
  node = h.node;
  loaded = subst (λ (xs : List Node). (node_at xs i).program ≡ Some h.program) nodes h.loaded;
  run = subst (λ (m : List (FinMap nat_cmp ℕ)). CompleteRun h.program.program (setting_at s m coins i)
      (node_at c.nodes i).memory end) mail
      (subst (λ (xs : List Node). CompleteRun h.program.program (setting_at s b.mail coins i)
      (node_at xs i).memory end) nodes h.run);
}

served_in : (s : Setup) (b c : State) (coins : List ℕ) (dones : List Done) (i : ℕ) (f : Found) → b.nodes ≡ c.nodes
    → b.mail ≡ c.mail → IsServed s b coins dones i f → IsServed s c coins dones i f
served_in s b c coins dones i Missing nodes mail none =
    subst (λ (xs : List Node). IsNone (node_at xs i).program) nodes none
served_in s b c coins dones i (At place) nodes mail h =
    (h.0, h.1, ran_in s b c coins i h.0.end nodes mail h.2)
served_in s b c coins dones i Twice nodes mail h = absurd h

pub served_at : (s : Setup) (b c : State) (cs coins : List ℕ) (ds dones : List Done) (found : List Found)
    → b.nodes ≡ c.nodes → b.mail ≡ c.mail → cs ≡ coins → ds ≡ dones → AreServed s b cs ds found
    → AreServed s c coins dones found
served_at s b c cs coins ds dones found nodes mail same given h =
    subst (λ (ns : List ℕ). AreServed s c ns dones found) same
    (subst (λ (xs : List Done). AreServed s c cs xs found) given (record {
      each = λ i lt. served_in s b c cs ds i (found_at found i) nodes mail (h.each i lt);
      ran = λ k d lt. let r = h.ran k d lt in (r.0, ran_in s b c cs r.0 (get_or ds k d).end nodes mail r.1);
      fit = h.fit;
    }))

-- ---- the closed pulse

-- one node's part
node_served : (s : Setup) (b : State) (coins : List ℕ) (i : ℕ) (dones : List Done) (flags : List Bool) (y : Node)
    (row : FinMap nat_cmp ℕ) (o : Option Accepted) (f : Found) → (node_at b.nodes i).program ≡ o
    → KnowsClock s.clock b.nodes flags → IsServed s b coins dones i f
    → IsLeftByPulse dones (get_or flags i false) (node_at b.nodes i) y row f
    → NodePulse s (setting_at s b.mail coins i) (node_at b.nodes i) y row
node_served s b coins i dones flags y row None Missing has knows served left = (
  ap (λ (z : Node). z.program) left.0,
  subst (λ (o : Option Accepted). MatchOption o (Rests (node_at b.nodes i) y row)
      (λ p. Runs s p (setting_at s b.mail coins i) (node_at b.nodes i) y row)) (sym has) (record {
        memory = ap (λ (z : Node). z.memory) left.0;
        sends = left.1;
        mark = ap (λ (z : Node). z.mark) left.0;
      }),
)
node_served s b coins i dones flags y row (Some p) Missing has knows served left =
    absurd (not_both (node_at b.nodes i).program p has served)
node_served s b coins i dones flags y row None (At place) has knows served left =
    absurd (none-some served.2.program (sym has ∙ served.2.loaded))
node_served s b coins i dones flags y row (Some p) (At place) has knows served left =
    let x = node_at b.nodes i in
    let env = setting_at s b.mail coins i in
    let one = left.0 in
    let ran = served.2 in
    let same : served.0 ≡ one = same_done dones place served.0 one served.1 left.1 in
    let program : ran.program ≡ p = same_Some ran.program p (sym ran.loaded ∙ has) in
    let mine : CompleteRun p.program env x.memory served.0.end = subst
    (λ (q : Accepted). CompleteRun q.program env x.memory served.0.end) program ran.run in
    let run : CompleteRun p.program env x.memory one.end = subst
    (λ (d : Done). CompleteRun p.program env x.memory d.end) same mine in
    let mark : y.mark ≡ get_or flags i false = ap (λ (z : Node). z.mark) left.2 in (
      ap (λ (z : Node). z.program) left.2,
      subst (λ (o : Option Accepted). MatchOption o (Rests x y row) (λ p. Runs s p env x y row)) (sym has) (record {
        end = one.end;
        run = run;
        memory = ap (λ (z : Node). z.memory) left.2;
        sends = left.3;
        mark = subst (λ (b : Bool). IsTrue b ↔ RunsClock s p) (sym mark) (knows.known i p has);
      }),
    )
node_served s b coins i dones flags y row o Twice has knows served left = absurd served

pub pulse_served : (s : Setup) (b : State) (coins : List ℕ) (dones : List Done) (flags : List Bool)
    (found : List Found) (nodes : List Node) (mail : List (FinMap nat_cmp ℕ))
    → b.coins ≡ Some coins → length b.nodes ≡ s.shape.nodes → AreServed s b coins dones found
    → KnowsClock s.clock b.nodes flags
    → length nodes ≡ length b.nodes → length mail ≡ length b.nodes
    → AreLeft dones flags b.nodes found nodes mail (length b.nodes)
    → Pulse s b (closed_state b nodes mail)
pulse_served s b coins dones flags found nodes mail is_open whole served knows count rows left =
    record {
      coins = coins;
      is_open = is_open;
      nodes = count;
      mail = rows;
      each = λ i lt. node_served s b coins i dones flags (node_at nodes i) (mail_from mail i)
          (node_at b.nodes i).program (found_at found i) refl knows (served.each i (omega (arith, lt, whole)))
          (left i lt);
      closed = refl;
      staged = refl;
      over = refl;
    }

-- ---- a bench whose nodes are closed

some_of : (o : Option (List ℕ)) → IsSome o → o ≡ Some (unwrap_or o [])
some_of None h = absurd cc
some_of (Some v) h = refl

-- the results serve its nodes, there are as many nodes as before, and they are those of a closed pulse
pub record ClosesServed (b : Inside) (dones : List Done) (found : List Found) (nodes : List Node)
    (mail : List (FinMap nat_cmp ℕ)) : Type 0 where
  pub served : AreServed (view_of b).setup (view_of b).state (coins_of (view_of b).state) dones found
  pub count : length nodes ≡ b.shape.nodes
  pub items : (with_items b.nodes nodes).items ≡ nodes
  pub pulse : Pulse (view_of b).setup (view_of b).state (closed_state (view_of b).state nodes mail)

pub served_seen : (b : Inside) (v : BenchValue) (dones : List Done) (found : List Found) → view_of b ≡ v
    → AreServed v.setup v.state (coins_of v.state) dones found
    → AreServed (view_of b).setup (view_of b).state (coins_of (view_of b).state) dones found
served_seen b v dones found view h =
    subst (λ (w : BenchValue). AreServed w.setup w.state (coins_of w.state) dones found) (sym view) h

-- from what closing the nodes said, of lists that are the bench's own
pub closes_served : (b : Inside) (v : BenchValue) (old : List Node) (flags : List Bool) (dones : List Done)
    (found : List Found) (nodes : List Node) (mail : List (FinMap nat_cmp ℕ)) (count : ℕ) → IsKept b → view_of b ≡ v
    → IsSome v.state.coins × AreServed v.setup v.state (coins_of v.state) dones found
    → (old ≡ b.nodes.items) × (flags ≡ b.flags.items) × (count ≡ b.shape.nodes)
    → (length nodes ≡ length old) × (length mail ≡ count) × AreLeft dones flags old found nodes mail count
    → ClosesServed b dones found nodes mail
closes_served b v old flags dones found nodes mail count kept view given own left =
    let whole = (sound_of b kept).nodes in
    let served = served_seen b v dones found view given.1 in
    let is_open = subst (λ (w : BenchValue). IsSome w.state.coins) (sym view) given.0 in
    let same : length nodes ≡ length b.nodes.items = left.0 ∙ ap length own.0 in
    let each = left_at dones dones flags b.flags.items old b.nodes.items found nodes mail count b.shape.nodes refl
    own.1 own.0 own.2 left.2 in
    record {
      served = served;
      count = same ∙ whole;
      items = with_items_is b.nodes nodes (same ∙ sym b.nodes.ok.0);
      pulse = pulse_served (view_of b).setup (view_of b).state (coins_of (view_of b).state) dones b.flags.items found
          nodes mail (some_of (view_of b).state.coins is_open) whole served kept.flags same
          (left.1 ∙ (own.2 ∙ sym whole)) (λ i lt. each i (omega (arith, lt, whole)));
    }

-- equal programs stay at a close
pub firsts_after : (s : Setup) (b b' : State) (firsts : List ℕ) → Pulse s b b' → KnowsFirsts b.nodes firsts
    → KnowsFirsts b'.nodes firsts
firsts_after s b b' firsts p h = record {
  count = h.count ∙ sym p.nodes;
  within = λ i lt. let low = h.within i (omega (arith, lt, p.nodes)) in omega (arith, low, p.nodes);
  same = λ i lt. let here : i < length b.nodes = omega (arith, lt, p.nodes) in
      (p.each (get_or firsts i 0) (h.within i here)).0 ∙ (h.same i here ∙ sym (p.each i here).0);
}

-- ---- what closing the nodes asks

pub fits_served : (s : Setup) (b : State) (coins : List ℕ) (dones : List Done) (i : ℕ) → Sound s b
    → All (λ d. d.task.setting.shape.nodes ≡ s.shape.nodes) dones → i < s.shape.nodes → (f : Found)
    → IsServed s b coins dones i f → FitsNode s.shape.nodes dones (node_at b.nodes i) f
fits_served s b coins dones i sound fit lt Missing served = tt
fits_served s b coins dones i sound fit lt (At place) served =
    let one = served.0 in
    let ran = served.2 in
    let is = get_or_from_slice_get dones place one one served.1 in
    let nodes : one.task.setting.shape.nodes ≡ s.shape.nodes = subst
    (λ (d : Done). d.task.setting.shape.nodes ≡ s.shape.nodes) is
    (fit place one (slice_get_within dones place one served.1)) in
    let whole = sound.memories i lt in
    let left = any_run_leaves ran.program.program (setting_at s b.mail coins i)
    (node_at b.nodes i).memory one.end whole.length whole.bytes ran.run in
    (one, served.1, left.memory ∙ sym whole.length, nodes)
fits_served s b coins dones i sound fit lt Twice served = absurd served

-- ---- the greatest number of steps

few_served : (s : Setup) (b : State) (coins : List ℕ) (i : ℕ) (dones : List Done) (k : ℕ) (end : End)
    → All (λ d. d.end.steps ≤ k) dones → RanTo s b coins i end → (f : Found) → IsServed s b coins dones i f
    → end.steps ≤ k
few_served s b coins i dones k end most ran Missing none =
    absurd (not_both (node_at b.nodes i).program ran.program ran.loaded none)
few_served s b coins i dones k end most ran (At place) served =
    let one = served.0 in
    let is = get_or_from_slice_get dones place one one served.1 in
    let few : one.end.steps ≤ k = subst (λ (d : Done). d.end.steps ≤ k) is
    (most place one (slice_get_within dones place one served.1)) in
    let same = one_end s b coins i end one.end ran served.2 in
    subst (λ (x : End). x.steps ≤ k) (sym same) few
few_served s b coins i dones k end most ran Twice served = absurd served

-- of no result no node is served
none_served : (s : Setup) (b : State) (coins : List ℕ) (i : ℕ) (f : Found) → IsServed s b coins [] i f
    → IsNone (node_at b.nodes i).program
none_served s b coins i Missing none = none
none_served s b coins i (At place) served = absurd (none-some served.0 served.1)
none_served s b coins i Twice served = absurd served

pub steps_served : (s : Setup) (b : State) (coins : List ℕ) (dones : List Done) (found : List Found) (k : ℕ)
    → AreServed s b coins dones found → IsMostSteps dones k → IsSteps s b coins k
steps_served s b coins dones found k served steps =
    record {
      most = λ i end ran. few_served s b coins i dones k end steps.most ran (found_at found i)
          (served.each i ran.node);
      reached = elim steps.reached [
        | inl at ↦
            let one = at.0 in
            let ran = All-contains (λ d. (i : ℕ) × RanTo s b coins i d.end) dones one served.ran at.1 in
            inl (ran.0, one.end, ran.1, at.2)
        | inr none ↦
            inr (
              λ i lt. none_served s b coins i (found_at found i)
                  (subst (λ (ds : List Done). IsServed s b coins ds i (found_at found i)) none.0 (served.each i lt)),
              none.1,
            )
      ];
    }

-- ---- the steps of each node

node_steps : (s : Setup) (b : State) (coins : List ℕ) (i : ℕ) (dones : List Done) (end : End) → RanTo s b coins i end
    → (f : Found) → IsServed s b coins dones i f → steps_at dones f ≡ end.steps
node_steps s b coins i dones end ran Missing none =
    absurd (not_both (node_at b.nodes i).program ran.program ran.loaded none)
node_steps s b coins i dones end ran (At place) served =
    ap (λ (o : Option Done). unwrap_or (option_map (λ d. d.end.steps) o) 0) served.1
    ∙ ap (λ (e : End). e.steps) (sym (one_end s b coins i end served.0.end ran served.2))
node_steps s b coins i dones end ran Twice served = absurd served

rest_steps : (s : Setup) (b : State) (coins : List ℕ) (i : ℕ) (dones : List Done) → IsNone (node_at b.nodes i).program
    → (f : Found) → IsServed s b coins dones i f → steps_at dones f ≡ 0
rest_steps s b coins i dones rests Missing none = refl
rest_steps s b coins i dones rests (At place) served =
    absurd (not_both (node_at b.nodes i).program served.2.program served.2.loaded rests)
rest_steps s b coins i dones rests Twice served = absurd served

pub are_steps : (s : Setup) (b : State) (coins : List ℕ) (dones : List Done) (found : List Found) (steps : List ℕ)
    → AreServed s b coins dones found → length steps ≡ s.shape.nodes
    → ((i : ℕ) → i < s.shape.nodes → get_or steps i 0 ≡ steps_at dones (found_at found i))
    → AreSteps s b coins steps
are_steps s b coins dones found steps served count each = record {
  nodes = count;
  ran = λ i end ran. each i ran.node
      ∙ node_steps s b coins i dones end ran (found_at found i) (served.each i ran.node);
  rested = λ i lt rests. each i lt ∙ rest_steps s b coins i dones rests (found_at found i) (served.each i lt);
}

-- ---- results of what was handed out serve their nodes

sorted_serves : (s : Setup) (b : State) (coins : List ℕ) (opening i : ℕ) (dones : List Done) (found : List Found)
    → length b.nodes ≡ s.shape.nodes → AreSorted s b.nodes b.mail coins opening dones found → i < s.shape.nodes
    → (o : Option Accepted) → (node_at b.nodes i).program ≡ o
    → (f : Found) → found_at found i ≡ f → IsServed s b coins dones i f
sorted_serves s b coins opening i dones found whole sorted lt None has Missing e =
    subst IsNone (sym has) refl
sorted_serves s b coins opening i dones found whole sorted lt (Some p) has Missing e =
    let none = subst (IsFound (IsHanded s b.nodes b.mail coins opening) dones i) e (sorted.each i) in
    absurd (sorted.exact.none_missing i (record {
      within = omega (arith, lt, whole);
      loaded = ap is_some has;
      none = none;
    }))
sorted_serves s b coins opening i dones found whole sorted lt o has (At place) e =
    let at = (subst (IsFound (IsHanded s b.nodes b.mail coins opening) dones i) e (sorted.each i)).0 in
    let is = get_or_from_slice_get dones place at.one at.one at.at in
    let ends : IsEnd at.one = subst IsEnd is
    (sorted.ends place at.one (slice_get_within dones place at.one at.at)) in
    (at.one, at.at, ran_of s b coins opening i at.one at.result.0 at.result.1 ends)
sorted_serves s b coins opening i dones found whole sorted lt o has Twice e =
    sorted.exact.none_twice i (subst (IsFound (IsHanded s b.nodes b.mail coins opening) dones i) e (sorted.each i))

-- a result of what was handed out has the shape of the bench
handed_fits : (s : Setup) (b : State) (coins : List ℕ) (opening : ℕ) (t : Task)
    → IsHanded s b.nodes b.mail coins opening t → t.setting.shape.nodes ≡ s.shape.nodes
handed_fits s b coins opening t handed =
    let loaded = no_task s b.nodes b.mail coins opening t.node t (node_at b.nodes t.node).program refl handed refl in
    ap (λ (u : Task). u.setting.shape.nodes)
    (handed_task s b.nodes b.mail coins opening t.node loaded.0 t loaded.1 handed refl)

-- results of what was handed out are runs of nodes
pub handed_ran : (s : Setup) (b : State) (coins : List ℕ) (opening : ℕ) (dones : List Done)
    → All (λ d. IsHanded s b.nodes b.mail coins opening d.task) dones → All IsEnd dones
    → All (λ d. (i : ℕ) × RanTo s b coins i d.end) dones × All (λ d. d.task.setting.shape.nodes ≡ s.shape.nodes) dones
handed_ran s b coins opening dones handed ends = (
  λ k d lt. let one = get_or dones k d in
      (one.task.node, ran_of s b coins opening one.task.node one (handed k d lt) refl (ends k d lt)),
  λ k d lt. handed_fits s b coins opening (get_or dones k d).task (handed k d lt),
)

pub sorted_served : (s : Setup) (b : State) (coins : List ℕ) (opening : ℕ) (dones : List Done) (found : List Found)
    → length b.nodes ≡ s.shape.nodes → AreSorted s b.nodes b.mail coins opening dones found
    → AreServed s b coins dones found
sorted_served s b coins opening dones found whole sorted =
    let each = handed_ran s b coins opening dones sorted.exact.no_stranger sorted.ends in
    record {
      each = λ i lt. sorted_serves s b coins opening i dones found whole sorted lt (node_at b.nodes i).program refl
          (found_at found i) refl;
      ran = each.0;
      fit = each.1;
    }

-- ---- the results of a pulse that is run in the bench

-- the task of a node, made of its parts, is handed out
pub handed_made : (s : Setup) (xs : List Node) (mail : List (FinMap nat_cmp ℕ)) (coins : List ℕ) (opening i : ℕ)
    (p : Accepted) (t : Task) → i < s.shape.nodes → (node_at xs i).program ≡ Some p
    → t ≡ task_for s mail coins opening i (node_at xs i).memory p → IsHanded s xs mail coins opening t
handed_made s xs mail coins opening i p t lt has is =
    subst (IsHanded s xs mail coins opening) (sym is)
    (lt, ap (option_map (task_for s mail coins opening i (node_at xs i).memory)) has)

-- the result of an input that looks alike serves the node, too
pub alike_serves : (s : Setup) (b : State) (coins : List ℕ) (opening i : ℕ) (firsts : List ℕ) (p : Accepted)
    (env : Setting) (one : Done) → length b.nodes ≡ s.shape.nodes → KnowsFirsts b.nodes firsts → i < s.shape.nodes
    → (node_at b.nodes i).program ≡ Some p → env ≡ setting_at s b.mail coins i
    → IsHanded s b.nodes b.mail coins opening one.task → IsEnd one
    → SeesAlike firsts p (node_at b.nodes i).memory env one → RanTo s b coins i one.end
alike_serves s b coins opening i firsts p env one whole knows lt has sees handed ends alike =
    let j = one.task.node in
    let loaded = no_task s b.nodes b.mail coins opening j one.task (node_at b.nodes j).program refl handed refl in
    let theirs : one.task.program ≡ loaded.0 = ap (λ (t : Task). t.program)
    (handed_task s b.nodes b.mail coins opening j loaded.0 one.task loaded.1 handed refl) in
    let first : get_or firsts j 0 ≡ get_or firsts i 0 = alike.first
    ∙ ap (λ (e : Setting). get_or firsts e.id 0) sees in
    let program : (node_at b.nodes j).program ≡ (node_at b.nodes i).program =
    sym (knows.same j (omega (arith, handed.0, whole)))
    ∙ (ap (λ (k : ℕ). (node_at b.nodes k).program) first ∙ knows.same i (omega (arith, lt, whole))) in
    let same : loaded.0 ≡ p = same_Some loaded.0 p (sym loaded.1 ∙ (program ∙ has)) in
    let mine = task_for s b.mail coins opening i (node_at b.nodes i).memory p in
    let setting : setting_at s b.mail coins i ≡ record one.task.setting { id = i } = subst
    (λ (e : Setting). e ≡ record one.task.setting { id = e.id }) sees alike.sees in
    let is : IsAlike mine one = record {
      blind = alike.blind;
      program = theirs ∙ same;
      setting = setting;
      memory = alike.before;
    } in
    record { program = p; node = lt; loaded = has; run = same_end mine one is ends }

-- an earlier result stays at its place
pub slice_more : (xs ys : List Done) (k : ℕ) (x : Done) → slice_get xs k ≡ Some x → slice_get (xs ++ ys) k ≡ Some x
slice_more [] ys k x h = absurd (none-some x h)
slice_more (y ∷ xs) ys zero x h = h
slice_more (y ∷ xs) ys (suc k) x h = slice_more xs ys k x h

-- and the last is behind them
pub slice_last : (xs : List Done) (x : Done) → slice_get (xs ++ x ∷ []) (length xs) ≡ Some x
slice_last [] x = refl
slice_last (y ∷ xs) x = slice_last xs x

pub served_more : (s : Setup) (b : State) (coins : List ℕ) (dones more : List Done) (i : ℕ) (f : Found)
    → IsServed s b coins dones i f → IsServed s b coins (dones ++ more) i f
served_more s b coins dones more i Missing none = none
served_more s b coins dones more i (At place) served =
    (served.0, slice_more dones more place served.0 served.1, served.2)
served_more s b coins dones more i Twice served = absurd served
