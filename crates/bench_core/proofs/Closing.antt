-- What a closed pulse leaves, one node after the other, and what it does to a bench's fields.
use Rattle.std.proofs.Common.{◌≡◌, ◌⊎◌, ℕ, ◌+◌, ◌<◌, Bool, false, List, length, slice_set, slice_get, get_or, All, IsTrue, ◌↔◌, Option, Some, None, is_some, MatchOption, refl, sym, ap, ◌∙◌, subst, arith, inl, inr, get_or-set_same, get_or-set_other}
use Rattle.std.specs.Ordering.{nat_cmp}
use Rattle.std.specs.FinMap.{FinMap, empty}
use Rattle.std.specs.Prelude.{option_map}
use Rattle.std.proofs.lemmas.Bool.{cases_eq}
use Rattle.std.proofs.lemmas.Option.{same_Some, none-some, slice_get_within, get_or_from_slice_get}
use Rattle.bench_core.specs.declared.found.Found.{Found}
use Rattle.bench_core.specs.declared.found.Found.TheVariants.{Missing, At, Twice}
use Rattle.bpf_machine.specs.Run.{CompleteRun}
use Rattle.bpf_verify.specs.Accepted.{Accepted}
use Rattle.bench_core.specs.Setup.{Setup}
use Rattle.bench_core.specs.State.{State, Node, no_node, node_at, mail_from, setting_at}
use Rattle.bench_core.specs.Pulse.{RunsClock, Runs, Rests, NodePulse, Pulse}
use Rattle.bench_core.specs.Tasks.{Task, Done, task_at, IsEnd, IsHanded, IsResultOf, IsExact}
use Rattle.bench_core.specs.inner.Nodes.{KnowsClock}
use Rattle.bench_core.specs.inner.Found.{found_at, IsFound, IsLeftByPulse, AreLeft}

pub left_more : (dones : List Done) (flags : List Bool) (old : List Node) (found : List Found) (nodes : List Node)
    (mail : List (FinMap nat_cmp ℕ)) (n : ℕ) (y : Node) (row : FinMap nat_cmp ℕ)
    → n < length nodes → n < length mail → AreLeft dones flags old found nodes mail n
    → IsLeftByPulse dones (get_or flags n false) (node_at old n) y row (found_at found n)
    → AreLeft dones flags old found (slice_set nodes n y) (slice_set mail n row) (n + 1)
left_more dones flags old found nodes mail n y row lt lt' before here i within =
    let P = λ (k : ℕ) (z : Node) (r : FinMap nat_cmp ℕ). IsLeftByPulse dones (get_or flags k false) (node_at old k) z r
    (found_at found k) in
    elim (cases_eq i n) [
      | inl e ↦
          let node : node_at (slice_set nodes n y) i ≡ y = ap (node_at (slice_set nodes n y)) e
          ∙ get_or-set_same nodes n y no_node lt in
          let sent : mail_from (slice_set mail n row) i ≡ row = ap (mail_from (slice_set mail n row)) e
          ∙ get_or-set_same mail n row empty lt' in
          subst (λ (z : Node). P i z (mail_from (slice_set mail n row) i)) (sym node)
          (subst (P i y) (sym sent) (subst (λ (k : ℕ). P k y row) (sym e) here))
      | inr ne ↦
          subst (λ (z : Node). P i z (mail_from (slice_set mail n row) i))
          (sym (get_or-set_other nodes n i y no_node ne))
          (subst (P i (node_at nodes i)) (sym (get_or-set_other mail n i row empty ne)) (before i (omega arith)))
    ]

pub once_left : (dones : List Done) (flag : Bool) (x y : Node) (row : FinMap nat_cmp ℕ) (f : Found) (place : ℕ)
    (done : Done) → f ≡ At place → slice_get dones place ≡ Some done
    → y ≡ record { program = x.program; memory = done.end.memory; mark = flag } → row ≡ done.end.sent
    → IsLeftByPulse dones flag x y row f
once_left dones flag x y row f place done e at node sent = subst (IsLeftByPulse dones flag x y row) (sym e)
    (done, at, node, sent)

pub rest_left : (dones : List Done) (flag : Bool) (x y : Node) (row : FinMap nat_cmp ℕ) (f : Found) → (f ≡ Missing)
    ⊎ (f ≡ Twice)
    → y ≡ record { program = x.program; memory = x.memory; mark = false } → row ≡ empty → IsLeftByPulse dones flag x y row f
rest_left dones flag x y row f either node sent =
    elim either [
      | inl e ↦ subst (IsLeftByPulse dones flag x y row) (sym e) (node, sent)
      | inr e ↦ subst (IsLeftByPulse dones flag x y row) (sym e) (node, sent)
    ]

-- ---- one node's part of a closed pulse

abbrev pub task_for : Setup → List (FinMap nat_cmp ℕ) → List ℕ → ℕ → ℕ → List ℕ → Accepted → Task
task_for s mail coins opening i memory p = record {
  opening = opening;
  node = i;
  program = p;
  setting = setting_at s mail coins i;
  memory = memory;
}

-- a handed out task of a node with program p is that node's
pub handed_task : (s : Setup) (xs : List Node) (mail : List (FinMap nat_cmp ℕ)) (coins : List ℕ) (opening i : ℕ)
    (p : Accepted) (t : Task)
    → (node_at xs i).program ≡ Some p → IsHanded s xs mail coins opening t → t.node ≡ i
    → t ≡ task_for s mail coins opening i (node_at xs i).memory p
handed_task s xs mail coins opening i p t has handed at_i =
    let at : task_at s mail coins opening i (node_at xs i) ≡ Some t = subst
    (λ (j : ℕ). task_at s mail coins opening j (node_at xs j) ≡ Some t) at_i handed.1 in
    let made = subst (λ (o : Option Accepted). option_map
    (task_for s mail coins opening i (node_at xs i).memory) o ≡ Some t) has at in
    sym (same_Some (task_for s mail coins opening i (node_at xs i).memory p) t made)

-- no task is handed out for a node without a program
pub none_handed : (s : Setup) (xs : List Node) (mail : List (FinMap nat_cmp ℕ)) (coins : List ℕ) (opening i : ℕ)
    (t : Task)
    → (node_at xs i).program ≡ None → IsHanded s xs mail coins opening t → t.node ≡ i → ⊥
none_handed s xs mail coins opening i t has handed at_i =
    let at : task_at s mail coins opening i (node_at xs i) ≡ Some t = subst
    (λ (j : ℕ). task_at s mail coins opening j (node_at xs j) ≡ Some t) at_i handed.1 in
    let made = subst (λ (o : Option Accepted). option_map
    (task_for s mail coins opening i (node_at xs i).memory) o ≡ Some t) has at in
    none-some t made

-- the results of an open pulse: each node has its own, and nothing else is there
pub record AreSorted (s : Setup) (xs : List Node) (mail : List (FinMap nat_cmp ℕ)) (coins : List ℕ) (opening : ℕ)
    (dones : List Done) (found : List Found) : Type 0 where
  pub each : (i : ℕ) → IsFound (IsHanded s xs mail coins opening) dones i (found_at found i)
  pub ends : All IsEnd dones
  pub exact : IsExact (IsHanded s xs mail coins opening) xs dones

pub same_done : (dones : List Done) (k : ℕ) (one other : Done) → slice_get dones k ≡ Some one
    → slice_get dones k ≡ Some other → one ≡ other
same_done dones k one other e f = same_Some one other (sym e ∙ f)

-- a node that ran
node_ran : (s : Setup) (xs : List Node) (mail : List (FinMap nat_cmp ℕ)) (coins : List ℕ) (opening i : ℕ)
    (dones : List Done) (found : List Found) (p : Accepted) (flag : Bool) (y : Node) (row : FinMap nat_cmp ℕ)
    → (f : Found) → found_at found i ≡ f → AreSorted s xs mail coins opening dones found → i < length xs
    → (node_at xs i).program ≡ Some p
    → (IsTrue flag ↔ RunsClock s p) → IsLeftByPulse dones flag (node_at xs i) y row f
    → (y.program ≡ (node_at xs i).program) × Runs s p (setting_at s mail coins i) (node_at xs i) y row
node_ran s xs mail coins opening i dones found p flag y row Missing e sorted lt has knows left =
    let none = subst (IsFound (IsHanded s xs mail coins opening) dones i) e (sorted.each i) in
    absurd (sorted.exact.none_missing i (record { within = lt; loaded = ap is_some has; none = none }))
node_ran s xs mail coins opening i dones found p flag y row (At k) e sorted lt has knows left =
    let x = node_at xs i in
    let env = setting_at s mail coins i in
    let at = (subst (IsFound (IsHanded s xs mail coins opening) dones i) e (sorted.each i)).0 in
    let one = left.0 in
    let same : at.one ≡ one = same_done dones k at.one one at.at left.1 in
    let result : IsResultOf (IsHanded s xs mail coins opening) i one = subst
    (IsResultOf (IsHanded s xs mail coins opening) i) same at.result in
    let is = handed_task s xs mail coins opening i p one.task has result.0 result.1 in
    let ends : IsEnd one = subst IsEnd (get_or_from_slice_get dones k one one left.1)
    (sorted.ends k one (slice_get_within dones k one left.1)) in
    let run : CompleteRun p.program env x.memory one.end = subst
    (λ (t : Task). CompleteRun t.program.program t.setting t.memory one.end) is ends in
    let mark : y.mark ≡ flag = ap (λ (z : Node). z.mark) left.2 in (
      ap (λ (z : Node). z.program) left.2,
      record {
        end = one.end;
        run = run;
        memory = ap (λ (z : Node). z.memory) left.2;
        sends = left.3;
        mark = subst (λ (b : Bool). IsTrue b ↔ RunsClock s p) (sym mark) knows;
      },
    )
node_ran s xs mail coins opening i dones found p flag y row Twice e sorted lt has knows left =
    absurd (sorted.exact.none_twice i (subst (IsFound (IsHanded s xs mail coins opening) dones i) e (sorted.each i)))

-- a node that rested
node_rested : (s : Setup) (xs : List Node) (mail : List (FinMap nat_cmp ℕ)) (coins : List ℕ) (opening i : ℕ)
    (dones : List Done) (found : List Found) (flag : Bool) (y : Node) (row : FinMap nat_cmp ℕ)
    → (f : Found) → found_at found i ≡ f → AreSorted s xs mail coins opening dones found → (node_at xs i).program ≡ None
    → IsLeftByPulse dones flag (node_at xs i) y row f → (y.program ≡ (node_at xs i).program) × Rests (node_at xs i) y row
node_rested s xs mail coins opening i dones found flag y row Missing e sorted has left = (
  ap (λ (z : Node). z.program) left.0,
  record {
    memory = ap (λ (z : Node). z.memory) left.0;
    sends = left.1;
    mark = ap (λ (z : Node). z.mark) left.0;
  },
)
node_rested s xs mail coins opening i dones found flag y row (At k) e sorted has left =
    let at = (subst (IsFound (IsHanded s xs mail coins opening) dones i) e (sorted.each i)).0 in
    absurd (none_handed s xs mail coins opening i at.one.task has at.result.0 at.result.1)
node_rested s xs mail coins opening i dones found flag y row Twice e sorted has left =
    absurd (sorted.exact.none_twice i (subst (IsFound (IsHanded s xs mail coins opening) dones i) e (sorted.each i)))

pub node_closed : (s : Setup) (xs : List Node) (mail : List (FinMap nat_cmp ℕ)) (coins : List ℕ) (opening i : ℕ)
    (dones : List Done) (flags : List Bool) (found : List Found) (y : Node) (row : FinMap nat_cmp ℕ)
    → (o : Option Accepted) → (node_at xs i).program ≡ o → AreSorted s xs mail coins opening dones found
    → KnowsClock s.clock xs flags → i < length xs
    → IsLeftByPulse dones (get_or flags i false) (node_at xs i) y row (found_at found i)
    → NodePulse s (setting_at s mail coins i) (node_at xs i) y row
node_closed s xs mail coins opening i dones flags found y row None has sorted knows lt left =
    let rested = node_rested s xs mail coins opening i dones found (get_or flags i false) y row
    (found_at found i) refl sorted has left in
    let env = setting_at s mail coins i in (
      rested.0,
      subst (λ (o : Option Accepted). MatchOption o (Rests (node_at xs i) y row)
          (λ p. Runs s p env (node_at xs i) y row)) (sym has) rested.1,
    )
node_closed s xs mail coins opening i dones flags found y row (Some p) has sorted knows lt left =
    let ran = node_ran s xs mail coins opening i dones found p (get_or flags i false) y row
    (found_at found i) refl sorted lt has (knows.known i p has) left in
    let env = setting_at s mail coins i in (
      ran.0,
      subst (λ (o : Option Accepted). MatchOption o (Rests (node_at xs i) y row)
          (λ p. Runs s p env (node_at xs i) y row)) (sym has) ran.1,
    )

-- ---- the whole pulse

-- the state that a close leaves
abbrev pub closed_state : State → List Node → List (FinMap nat_cmp ℕ) → State
closed_state b nodes mail = record {
  nodes = nodes;
  mail = mail;
  closed = b.closed + 1;
  staged = b.staged;
  coins = None;
}

pub pulse_closed : (s : Setup) (b : State) (coins : List ℕ) (opening : ℕ) (dones : List Done) (flags : List Bool)
    (found : List Found) (nodes : List Node) (mail : List (FinMap nat_cmp ℕ))
    → b.coins ≡ Some coins → AreSorted s b.nodes b.mail coins opening dones found
    → KnowsClock s.clock b.nodes flags
    → length nodes ≡ length b.nodes → length mail ≡ length b.nodes
    → AreLeft dones flags b.nodes found nodes mail (length b.nodes)
    → Pulse s b (closed_state b nodes mail)
pulse_closed s b coins opening dones flags found nodes mail is_open sorted knows count rows left =
    record {
      coins = coins;
      is_open = is_open;
      nodes = count;
      mail = rows;
      each = λ i lt. node_closed s b.nodes b.mail coins opening i dones flags found (node_at nodes i) (mail_from mail i)
          (node_at b.nodes i).program refl sorted knows lt (left i lt);
      closed = refl;
      staged = refl;
      over = refl;
    }
