-- What a close does to a bench's fields, and what is told of it.
use Rattle.std.proofs.Common.{◌≡◌, ◌≢◌, ◌↔◌, ℕ, ◌+◌, ◌<◌, ◌≤◌, Bool, false, IsTrue, IsSome, List, [], ◌∷◌, ◌++◌, length, map, drop, get_or, All, Option, Some, None, is_some, IfSome, ◌-◌, cond, Vec, refl, sym, ap, ◌∙◌, subst, arith, inl, inr}
use Rattle.std.specs.Prelude.{option_map, unwrap_or, IsNone}
use Rattle.std.specs.Vec.{with_items}
use Rattle.std.specs.declared.alloc.Global.{Global}
use Rattle.std.specs.Ordering.{nat_cmp}
use Rattle.std.specs.FinMap.{FinMap}
use Rattle.std.proofs.lemmas.List.{append-nil, get_or_past, with_items_is}
use Rattle.std.proofs.lemmas.List.Elements.{All-nil, All-from_get_or, All-contains}
use Rattle.std.proofs.lemmas.Bool.{cases_lt}
use Rattle.std.proofs.lemmas.Option.{same_Some, none-some, slice_get_within, get_or_from_slice_get}
use Rattle.bpf_insn.specs.declared.forms.Insn.{Insn}
use Rattle.bpf_machine.specs.Run.{CompleteRun, End}
use Rattle.bpf_machine.proofs.OneRun.{one_complete_run}
use Rattle.bpf_verify.specs.Accepted.{Accepted}
use Rattle.clock_nodes.specs.declared.rule.TheConstants.{MAX_MODULUS}
use Rattle.bench_core.specs.declared.limits.TheConstants.{MAX_ENTRIES, MAX_BENCH_PULSES, CLOCKS_DIFFER}
use Rattle.bench_core.specs.declared.bench.Bench.TheInside.{Inside}
use Rattle.bench_core.specs.declared.entry.Entry.TheVariants.{Closed}
use Rattle.bench_core.specs.Setup.{Setup, IsSetup}
use Rattle.bench_core.specs.declared.refusal.CloseError.{CloseError}
use Rattle.bench_core.specs.declared.refusal.CloseError.TheVariants as closing
use Rattle.bench_core.specs.Refusals.{IsCloseRefusal}
use Rattle.bench_core.specs.State.{State, Node, no_node, node_at, setting_at, AreCoins, coins_of}
use Rattle.bench_core.specs.Pulse.{Pulse}
use Rattle.bench_core.specs.Settled.{settled_flags, clocks_where}
use Rattle.bench_core.specs.Told.{Row, PulseTold, IsRecord, IsSteps, RanTo, row_of, row_from, told_clock}
use Rattle.bench_core.specs.Replay.{Entry as EntryValue, Closed as ClosedValue, Replays, BenchValue, Advances, places_of}
use Rattle.bench_core.specs.inner.Replay.{staged_of}
use Rattle.bench_core.specs.Tasks.{Task, Done, IsEnd, IsHanded, IsResultOf, IsExact, HandedOut}
use Rattle.bench_core.specs.inner.Nodes.{KnowsClock}
use Rattle.bench_core.specs.declared.found.Found.{Found}
use Rattle.bench_core.specs.declared.found.Found.TheVariants.{Missing, At, Twice}
use Rattle.bench_core.specs.inner.Found.{found_at, IsFound, FitsNode, RefusesResults, AreLeft}
use Rattle.bench_core.specs.inner.Told.{both_marked, IsMostSteps}
use Rattle.bench_core.specs.Views.{entry_of}
use Rattle.bench_core.specs.inner.Kept.{view_of, IsKept}
use Rattle.bench_core.proofs.AnyRuns.{any_run_leaves}
use Rattle.bench_core.proofs.Sound.{Sound}
use Rattle.bench_core.proofs.Rows.{rows_fit, rows_tell, clocks_small}
use Rattle.bench_core.proofs.Kept.{entries_push, staged_after}
use Rattle.bench_core.proofs.Opening.{sound_of}
use Rattle.bench_core.proofs.Telling.{both_settled}
use Rattle.bench_core.proofs.Closing.{closed_state, AreSorted, none_handed, handed_task, pulse_closed}

-- programs stay at a close
pub knows_after : (s : Setup) (b b' : State) (listing : List Insn) (flags : List Bool) → Pulse s b b'
    → KnowsClock listing b.nodes flags → KnowsClock listing b'.nodes flags
knows_after s b b' listing flags p h = record { count = h.count ∙ sym p.nodes; known = by }
  where
    by : (i : ℕ) (q : Accepted) → (node_at b'.nodes i).program ≡ Some q → IsTrue (get_or flags i false)
        ↔ (q.program ≡ listing)
    by i q loaded =
        elim (cases_lt i (length b.nodes)) [
          | inl lt ↦ h.known i q (sym (p.each i lt).0 ∙ loaded)
          | inr past ↦ absurd (none-some q (sym
              (ap (λ (x : Node). x.program) (get_or_past b'.nodes i no_node (omega (arith, past, p.nodes)))) ∙ loaded))
        ]

-- ---- the greatest number of steps

pub no_task : (s : Setup) (xs : List Node) (mail : List (FinMap nat_cmp ℕ)) (coins : List ℕ) (opening i : ℕ) (t : Task)
    (o : Option Accepted) → (node_at xs i).program ≡ o
    → IsHanded s xs mail coins opening t → t.node ≡ i → (p : Accepted) × ((node_at xs i).program ≡ Some p)
no_task s xs mail coins opening i t None has handed at_i = absurd
    (none_handed s xs mail coins opening i t has handed at_i)
no_task s xs mail coins opening i t (Some p) has handed at_i = (p, has)

-- a result of what was handed out is its node's run
pub ran_of : (s : Setup) (b : State) (coins : List ℕ) (opening i : ℕ) (one : Done)
    → IsHanded s b.nodes b.mail coins opening one.task → one.task.node ≡ i → IsEnd one → RanTo s b coins i one.end
ran_of s b coins opening i one handed at_i ends =
    let loaded = no_task s b.nodes b.mail coins opening i one.task (node_at b.nodes i).program refl handed at_i in
    let is = handed_task s b.nodes b.mail coins opening i loaded.0 one.task loaded.1 handed at_i in
    record {
      program = loaded.0;
      node = subst (λ (n : ℕ). n < s.shape.nodes) at_i handed.0;
      loaded = loaded.1;
      run = subst (λ (t : Task). CompleteRun t.program.program t.setting t.memory one.end) is ends;
    }

pub one_end : (s : Setup) (b : State) (coins : List ℕ) (i : ℕ) (end other : End) → RanTo s b coins i end
    → RanTo s b coins i other → end ≡ other
one_end s b coins i end other h g =
    let same : g.program ≡ h.program = same_Some g.program h.program (sym g.loaded ∙ h.loaded) in
    one_complete_run h.program.program (setting_at s b.mail coins i) (node_at b.nodes i).memory end other h.run
    (subst (λ (p : Accepted). CompleteRun p.program (setting_at s b.mail coins i) (node_at b.nodes i).memory other)
    same g.run)

few_steps : (s : Setup) (b : State) (coins : List ℕ) (opening i : ℕ) (dones : List Done) (found : List Found) (k : ℕ)
    (end : End) → length b.nodes ≡ s.shape.nodes
    → AreSorted s b.nodes b.mail coins opening dones found → All (λ d. d.end.steps ≤ k) dones → RanTo s b coins i end
    → (f : Found) → found_at found i ≡ f → end.steps ≤ k
few_steps s b coins opening i dones found k end whole sorted most ran Missing e =
    let none = subst (IsFound (IsHanded s b.nodes b.mail coins opening) dones i) e (sorted.each i) in
    absurd (sorted.exact.none_missing i (record {
      within = omega (arith, ran.node, whole);
      loaded = ap is_some ran.loaded;
      none = none;
    }))
few_steps s b coins opening i dones found k end whole sorted most ran (At place) e =
    let at = (subst (IsFound (IsHanded s b.nodes b.mail coins opening) dones i) e (sorted.each i)).0 in
    let within = slice_get_within dones place at.one at.at in
    let is = get_or_from_slice_get dones place at.one at.one at.at in
    let ends : IsEnd at.one = subst IsEnd is (sorted.ends place at.one within) in
    let few : at.one.end.steps ≤ k = subst (λ (d : Done). d.end.steps ≤ k) is (most place at.one within) in
    let same = one_end s b coins i end at.one.end ran
    (ran_of s b coins opening i at.one at.result.0 at.result.1 ends) in
    subst (λ (x : End). x.steps ≤ k) (sym same) few
few_steps s b coins opening i dones found k end whole sorted most ran Twice e =
    absurd (sorted.exact.none_twice i (subst (IsFound (IsHanded s b.nodes b.mail coins opening) dones i) e
    (sorted.each i)))

none_loaded : (s : Setup) (b : State) (coins : List ℕ) (opening i : ℕ) → i < length b.nodes
    → IsExact (IsHanded s b.nodes b.mail coins opening) b.nodes []
    → (o : Option Accepted) → (node_at b.nodes i).program ≡ o → IsNone o
none_loaded s b coins opening i lt exact None has = refl
none_loaded s b coins opening i lt exact (Some p) has =
    absurd (exact.none_missing i (record {
      within = lt;
      loaded = ap is_some has;
      none = All-nil (λ d. IsResultOf (IsHanded s b.nodes b.mail coins opening) i d → ⊥);
    }))

pub steps_told : (s : Setup) (b : State) (coins : List ℕ) (opening : ℕ) (dones : List Done) (found : List Found)
    (k : ℕ) → length b.nodes ≡ s.shape.nodes
    → AreSorted s b.nodes b.mail coins opening dones found → IsMostSteps dones k → IsSteps s b coins k
steps_told s b coins opening dones found k whole sorted steps =
    record {
      most = λ i end ran. few_steps s b coins opening i dones found k end whole sorted steps.most ran
          (found_at found i) refl;
      reached = elim steps.reached [
        | inl at ↦
            let one = at.0 in
            let handed = All-contains (λ d. IsHanded s b.nodes b.mail coins opening d.task) dones one
            sorted.exact.no_stranger at.1 in
            inl (
              one.task.node,
              one.end,
              ran_of s b coins opening one.task.node one handed refl
                  (All-contains IsEnd dones one sorted.ends at.1),
              at.2,
            )
        | inr none ↦
            let exact = subst (IsExact (IsHanded s b.nodes b.mail coins opening) b.nodes) none.0 sorted.exact in
            inr (
              λ i lt. none_loaded s b coins opening i (omega (arith, lt, whole)) exact
                  (node_at b.nodes i).program refl,
              none.1,
            )
      ];
    }

-- ---- what the code is asked for before it tells

pub enough_memory : (s : Setup) (b : State) → IsSetup s → Sound s b → All (λ x. 4 ≤ length x.memory) b.nodes
enough_memory s b ok sound =
    All-from_get_or (λ x. 4 ≤ length x.memory) b.nodes no_node
    (λ i lt. let m = (sound.memories i (omega (arith, lt, sound.nodes))).length in
    omega (arith, m, ok.extent.least))

pub small_clocks : (s : Setup) (b b' : State) (marks : List Bool) → IsSetup s → Sound s b → Pulse s b b'
    → marks ≡ map (λ x. x.mark) b.nodes
    → All (λ c. c < MAX_MODULUS) (clocks_where s.modulus (both_marked marks b'.nodes) b'.nodes)
small_clocks s b b' marks ok sound p e =
    let same : both_marked marks b'.nodes ≡ settled_flags b.nodes b'.nodes = ap (λ ms. both_marked ms b'.nodes) e
    ∙ both_settled b.nodes b'.nodes in
    subst (λ flags. All (λ c. c < MAX_MODULUS) (clocks_where s.modulus flags b'.nodes)) (sym same)
    (clocks_small s b b' ok sound p)

-- the history keeps a place for the end of an open pulse
pub place_left : (b : BenchValue) → IsSome b.state.coins → places_of b ≤ MAX_ENTRIES → length b.history < MAX_ENTRIES
place_left b is_open h =
    let one : ◌≡◌ {A = ℕ} (cond (is_some b.state.coins) 1 0) 1 = ap (λ (o : Bool). cond o 1 0) is_open in
    omega (arith, h, one)

pub few_pulses : (b : BenchValue) (b' : State) → IsSetup b.setup → Replays b.setup b.history b.state
    → places_of b ≤ MAX_ENTRIES → Pulse b.setup b.state b' → b.state.closed + 1 ≤ MAX_BENCH_PULSES
few_pulses b b' ok replays limit p =
    let row = rows_fit b.setup b.history b.state b' ok replays p (place_left b (ap is_some p.is_open) limit) in
    omega (arith, row.last, p.closed)

-- ---- what is told

pub record Tells (s : Setup) (b b' : State) (r : PulseTold) : Type 0 where
  pub row : r.row ≡ row_from s.modulus b'.closed (settled_flags b.nodes b'.nodes) b'.nodes
  pub clocks : r.clocks ≡ map told_clock b'.nodes
  pub settled : r.settled ≡ settled_flags b.nodes b'.nodes
  pub steps : IsSteps s b (coins_of b) r.steps
  pub agree : IsTrue r.agree ↔ (r.row.common ≢ CLOCKS_DIFFER)

pub is_record : (s : Setup) (history : List EntryValue) (b b' : State) (r : PulseTold) → IsSetup s
    → Replays s history b → Pulse s b b' → Tells s b b' r → IsRecord s b b' r
is_record s history b b' r ok replays p h =
    let tell = rows_tell s history b b' ok replays p in
    let common : r.row.common ≡ (row_of s b b').common = ap (λ (x : Row). x.common) h.row in
    record {
      row = h.row;
      clocks = h.clocks;
      settled = h.settled;
      steps = h.steps;
      agree = (λ t. tell.1 (λ e. h.agree.0 t (common ∙ e)), λ a. h.agree.1 (λ e. tell.0 a (sym common ∙ e)));
    }

-- ---- the bench's fields

pub closed_advances : (b b' : Inside) (row : Row) → IsKept b
    → Pulse (view_of b).setup (view_of b).state (closed_state (view_of b).state b'.nodes.items b'.mail)
    → row ≡ row_from b.rule.modulus (b.closed + 1) (settled_flags b.nodes.items b'.nodes.items) b'.nodes.items
    → b'.history.items ≡ b.history.items ++ Closed row ∷ []
    → b'.shape ≡ b.shape → b'.rule ≡ b.rule → b'.clock ≡ b.clock → b'.closed ≡ b.closed + 1
    → b'.staged_from ≡ b.staged_from
    → b'.coins ≡ None
    → Advances (view_of b) (ClosedValue row) (view_of b')
closed_advances b b' row kept pulse tells is shape rule clock closed from over =
    let stays : staged_of (drop b'.staged_from (map entry_of b'.history.items)) ≡ (view_of b).state.staged =
    ap (λ n. staged_of (drop n (map entry_of b'.history.items))) from
    ∙ (staged_after b b'.history (Closed row) kept.staged is ∙ append-nil _) in
    let shut : option_map (λ v. v.items) b'.coins ≡ None = ap
    (λ (o : Option (Vec ℕ Global)). option_map (λ v. v.items) o) over in
    record {
      setup = rw (shape, rule, clock) refl;
      history = entries_push b.history.items b'.history.items (Closed row) is;
      step = (
        record {
          coins = pulse.coins;
          is_open = pulse.is_open;
          nodes = pulse.nodes;
          mail = pulse.mail;
          each = pulse.each;
          closed = closed;
          staged = stays;
          over = shut;
        },
        tells ∙ ap (λ (n : ℕ). row_from b.rule.modulus n (settled_flags b.nodes.items b'.nodes.items)
            b'.nodes.items) (sym closed),
      );
    }

-- what sorting the results said, of the bench's own lists
pub sorted_at : (s : Setup) (xs ys : List Node) (mail : List (FinMap nat_cmp ℕ)) (cs coins : List ℕ) (opening : ℕ)
    (ds dones : List Done) (found : List Found) → xs ≡ ys → cs ≡ coins → ds ≡ dones
    → ((i : ℕ) → IsFound (IsHanded s xs mail cs opening) ds i (found_at found i)) → All IsEnd ds
    → IsExact (IsHanded s xs mail cs opening) xs ds → AreSorted s ys mail coins opening dones found
sorted_at s xs ys mail cs coins opening ds dones found e f g each ends exact =
    subst (λ (ns : List Node). AreSorted s ns mail coins opening dones found) e
    (subst (λ (ns : List ℕ). AreSorted s xs mail ns opening dones found) f
    (subst (λ (ns : List Done). AreSorted s xs mail cs opening ns found) g
    (record { each = each; ends = ends; exact = exact })))

pub coins_fit : (s : Setup) (o : Option (Vec ℕ Global)) (coins : Vec ℕ Global) → o ≡ Some coins
    → IfSome (option_map (λ v. v.items) o) (AreCoins s.shape) → AreCoins s.shape coins.items
coins_fit s o coins is h =
    subst (λ (o : Option (Vec ℕ Global)). IfSome (option_map (λ v. v.items) o) (AreCoins s.shape)) is h

-- each result that was found has the size of its node
fits_node : (s : Setup) (b : State) (coins : List ℕ) (opening i : ℕ) (dones : List Done) (found : List Found)
    → Sound s b
    → AreSorted s b.nodes b.mail coins opening dones found → i < s.shape.nodes → (f : Found) → found_at found i ≡ f
    → FitsNode s.shape.nodes dones (node_at b.nodes i) f
fits_node s b coins opening i dones found sound sorted lt Missing e = tt
fits_node s b coins opening i dones found sound sorted lt (At place) e =
    let at = (subst (IsFound (IsHanded s b.nodes b.mail coins opening) dones i) e (sorted.each i)).0 in
    let is = get_or_from_slice_get dones place at.one at.one at.at in
    let ends : IsEnd at.one = subst IsEnd is (sorted.ends place at.one (slice_get_within dones place at.one at.at)) in
    let loaded = no_task s b.nodes b.mail coins opening i at.one.task
    (node_at b.nodes i).program refl at.result.0 at.result.1 in
    let task = handed_task s b.nodes b.mail coins opening i loaded.0 at.one.task loaded.1 at.result.0 at.result.1 in
    let ran = ran_of s b coins opening i at.one at.result.0 at.result.1 ends in
    let whole = sound.memories i lt in
    let left = any_run_leaves ran.program.program (setting_at s b.mail coins i)
    (node_at b.nodes i).memory at.one.end whole.length whole.bytes ran.run in
    (at.one, at.at, left.memory ∙ sym whole.length, ap (λ (t : Task). t.setting.shape.nodes) task)
fits_node s b coins opening i dones found sound sorted lt Twice e = tt

pub all_fit_nodes : (b : Inside) (coins : Vec ℕ Global) (dones : List Done) (found : List Found) → IsKept b
    → AreSorted (view_of b).setup b.nodes.items b.mail coins.items (b.opened - 1) dones found
    → (i : ℕ) → i < b.shape.nodes → FitsNode b.shape.nodes dones (node_at b.nodes.items i) (found_at found i)
all_fit_nodes b coins dones found kept sorted i lt =
    fits_node (view_of b).setup (view_of b).state coins.items (b.opened - 1) i dones found (sound_of b kept) sorted lt
    (found_at found i) refl

-- what closing the nodes said, of the bench's own lists
pub left_at : (ds dones : List Done) (fs flags : List Bool) (xs old : List Node) (found : List Found)
    (nodes : List Node) (mail : List (FinMap nat_cmp ℕ)) (m n : ℕ) → ds ≡ dones → fs ≡ flags → xs ≡ old → m ≡ n
    → AreLeft ds fs xs found nodes mail m → AreLeft dones flags old found nodes mail n
left_at ds dones fs flags xs old found nodes mail m n e f g h left =
    subst (λ (k : ℕ). AreLeft dones flags old found nodes mail k) h
    (subst (λ (ns : List Node). AreLeft dones flags ns found nodes mail m) g
    (subst (λ (ns : List Bool). AreLeft dones ns xs found nodes mail m) f
    (subst (λ (ns : List Done). AreLeft ns fs xs found nodes mail m) e left)))

-- the results are sorted, there are as many nodes as before, and they are those of a closed pulse
pub record ClosesNodes (b : Inside) (coins : Vec ℕ Global) (dones : List Done) (found : List Found) (nodes : List Node)
    (mail : List (FinMap nat_cmp ℕ)) : Type 0 where
  pub sorted : AreSorted (view_of b).setup b.nodes.items b.mail coins.items (b.opened - 1) dones found
  pub count : length nodes ≡ b.shape.nodes
  pub items : (with_items b.nodes nodes).items ≡ nodes
  pub pulse : Pulse (view_of b).setup (view_of b).state (closed_state (view_of b).state nodes mail)

-- from what sorting the results and closing the nodes said, of lists that are the bench's own
pub closes_nodes : (b : Inside) (coins : Vec ℕ Global) (xs : List Node) (cs : List ℕ) (ds : List Done) (old : List Node)
    (flags : List Bool) (ran dones : List Done) (found : List Found) (nodes : List Node)
    (mail : List (FinMap nat_cmp ℕ)) (count : ℕ) → IsKept b → b.coins ≡ Some coins
    → (xs ≡ b.nodes.items) × (cs ≡ coins.items) × (ds ≡ dones)
    → ((i : ℕ) → IsFound (IsHanded (view_of b).setup xs b.mail cs (b.opened - 1)) ds i (found_at found i))
    × All IsEnd ds × IsExact (IsHanded (view_of b).setup xs b.mail cs (b.opened - 1)) xs ds
    → (old ≡ b.nodes.items) × (flags ≡ b.flags.items) × (ran ≡ dones) × (count ≡ b.shape.nodes)
    → (length nodes ≡ length old) × (length mail ≡ count) × AreLeft ran flags old found nodes mail count
    → ClosesNodes b coins dones found nodes mail
closes_nodes b coins xs cs ds old flags ran dones found nodes mail count kept is own results own' left =
    let whole = (sound_of b kept).nodes in
    let sorted = sorted_at (view_of b).setup xs b.nodes.items b.mail cs coins.items (b.opened - 1) ds dones found own.0
    own.1 own.2 results.0 results.1 results.2 in
    let same : length nodes ≡ length b.nodes.items = left.0 ∙ ap length own'.0 in
    let each = left_at ran dones flags b.flags.items old b.nodes.items found nodes mail count b.shape.nodes own'.2
    own'.1 own'.0 own'.3 left.2 in
    record {
      sorted = sorted;
      count = same ∙ whole;
      items = with_items_is b.nodes nodes (same ∙ sym b.nodes.ok.0);
      pulse = pulse_closed (view_of b).setup (view_of b).state coins.items (b.opened - 1) dones b.flags.items found
          nodes mail (ap (λ (o : Option (Vec ℕ Global)). option_map (λ v. v.items) o) is) sorted kept.flags same
          (left.1 ∙ (own'.3 ∙ sym whole)) (λ i lt. each i (omega (arith, lt, whole)));
    }

pub refuses : (b : BenchValue) (dones : List Done) (e : CloseError) → IsSome b.state.coins
    → RefusesResults (HandedOut b) b.state.nodes dones e → IsCloseRefusal b dones e
refuses b dones closing.NotOpen is_open h = absurd h
refuses b dones (closing.Missing i) is_open h = (is_open, h)
refuses b dones (closing.Twice i) is_open h = (is_open, h.0, h.1)
refuses b dones (closing.Stranger i) is_open h = (is_open, h.0, h.1, h.2)
refuses b dones closing.Memory is_open h = absurd h

pub refuses_at : (b : Inside) (v : BenchValue) (coins : Vec ℕ Global) (xs : List Node) (cs : List ℕ)
    (ds dones : List Done) (e : CloseError) → IsKept b → view_of b ≡ v → b.coins ≡ Some coins
    → xs ≡ b.nodes.items → cs ≡ coins.items → ds ≡ dones
    → RefusesResults (IsHanded (view_of b).setup xs b.mail cs (b.opened - 1)) xs ds e → IsCloseRefusal v dones e
refuses_at b v coins xs cs ds dones e kept view is nodes same given h =
    let open_coins : (view_of b).state.coins ≡ Some coins.items = ap
    (λ (o : Option (Vec ℕ Global)). option_map (λ v. v.items) o) is in
    let mine : unwrap_or (view_of b).state.coins [] ≡ coins.items = ap
    (λ (o : Option (List ℕ)). unwrap_or o []) open_coins in
    let at = subst (λ (ns : List Node). RefusesResults
    (IsHanded (view_of b).setup ns b.mail cs (b.opened - 1)) ns ds e) nodes h in
    let at' = subst (λ (ns : List ℕ). RefusesResults
    (IsHanded (view_of b).setup b.nodes.items b.mail ns (b.opened - 1)) b.nodes.items ds e) (same ∙ sym mine) at in
    let at'' = subst (λ (ns : List Done). RefusesResults
    (IsHanded (view_of b).setup b.nodes.items b.mail (unwrap_or (view_of b).state.coins []) (b.opened - 1))
    b.nodes.items ns e) given at' in
    let last = subst (λ (n : ℕ). RefusesResults
    (IsHanded (view_of b).setup b.nodes.items b.mail (unwrap_or (view_of b).state.coins []) (n - 1)) b.nodes.items
    dones e) kept.opened at'' in
    subst (λ (w : BenchValue). IsCloseRefusal w dones e) view (refuses (view_of b) dones e (ap is_some open_coins) last)

-- results that close the bench's pulse, of lists that are its own
pub exact_at : (b : Inside) (v : BenchValue) (coins : Vec ℕ Global) (xs : List Node) (cs : List ℕ)
    (ds dones : List Done) → IsKept b → view_of b ≡ v → b.coins ≡ Some coins
    → xs ≡ b.nodes.items → cs ≡ coins.items → ds ≡ dones
    → IsExact (HandedOut v) v.state.nodes dones
    → IsExact (IsHanded (view_of b).setup xs b.mail cs (b.opened - 1)) xs ds
exact_at b v coins xs cs ds dones kept view is nodes same given h =
    let open_coins : (view_of b).state.coins ≡ Some coins.items = ap
    (λ (o : Option (Vec ℕ Global)). option_map (λ v. v.items) o) is in
    let mine : unwrap_or (view_of b).state.coins [] ≡ coins.items = ap
    (λ (o : Option (List ℕ)). unwrap_or o []) open_coins in
    let at = subst (λ (w : BenchValue). IsExact (HandedOut w) w.state.nodes dones) (sym view) h in
    let at' = subst (λ (n : ℕ). IsExact
    (IsHanded (view_of b).setup b.nodes.items b.mail (unwrap_or (view_of b).state.coins []) (n - 1)) b.nodes.items
    dones) (sym kept.opened) at in
    let at'' = subst (λ (ns : List ℕ). IsExact
    (IsHanded (view_of b).setup b.nodes.items b.mail ns (b.opened - 1)) b.nodes.items dones) (mine ∙ sym same) at' in
    let last = subst (λ (ns : List Node). IsExact
    (IsHanded (view_of b).setup ns b.mail cs (b.opened - 1)) ns dones) (sym nodes) at'' in
    subst (λ (ns : List Done). IsExact (IsHanded (view_of b).setup xs b.mail cs (b.opened - 1)) xs ns) (sym given) last
