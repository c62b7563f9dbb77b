-- A closed pulse reads of a node its own alone; and a shared pair moves on for any number of pulses.
use Rattle.std.proofs.Common.{◌≡◌, ℕ, zero, suc, ◌+◌, ◌%◌, ◌<◌, ◌≤◌, true, false, Bool, IsTrue, List, [], ◌∷◌, ◌++◌, length, slice_index, count_by, Option, Some, None, MatchOption, refl, sym, ap, ◌∙◌, subst, arith}
use Rattle.std.specs.Prelude.{unwrap_or}
use Rattle.std.specs.Ordering.{nat_cmp}
use Rattle.std.specs.FinMap.{FinMap}
use Rattle.std.proofs.lemmas.Bool.{eq-eqb}
use Rattle.std.proofs.Math.Nat.{mod-add-mod, mod-eq_of_lt}
use Rattle.node_env.specs.Env.{Setting, inbox_of}
use Rattle.bpf_machine.specs.Run.{CompleteRun}
use Rattle.bpf_verify.specs.Accepted.{Accepted}
use Rattle.clock_nodes.specs.Rule.{clock_of, mark_of, quorum_of}
use Rattle.bench_core.specs.Setup.{Setup, rule_of}
use Rattle.bench_core.specs.State.{Node, State, new_state, node_at, mail_from, setting_at}
use Rattle.bench_core.specs.Pulse.{RunsClock, Runs, Rests, NodePulse, Pulse}
use Rattle.bench_core.specs.Told.{row_of}
use Rattle.bench_core.specs.Replay.{Entry, Closed, LeadsByEntries, Replays}
use Rattle.bench_core.specs.Laws.{OnlyItsOwn, OnlyItsOwnFor, SameNode, PairMovesOnFor, SharePair, IsIn, ran_to_pair, node_coin}
use Rattle.bench_core.proofs.Replays.{one_node, run_push}
use Rattle.bench_core.proofs.Counting.{unit_of, count_cons}
use Rattle.bench_core.proofs.Sound.{Sound, sound_replay, sound_pulse, ran_pulse}
use Rattle.bench_core.proofs.Agreement.{pair_moves}

-- ---- a node's own

-- a node's part reads of it the program and the memory alone
part_of : (s : Setup) (env : Setting) (x z y : Node) (r : FinMap nat_cmp ℕ) (o : Option Accepted) → z.memory ≡ x.memory
    → MatchOption o (Rests x y r) (λ p. Runs s p env x y r) → MatchOption o (Rests z y r) (λ p. Runs s p env z y r)
part_of s env x z y r None e h = record { memory = h.memory ∙ sym e; sends = h.sends; mark = h.mark }
part_of s env x z y r (Some p) e h = record {
  end = h.end;
  run = subst (λ (m : List ℕ). CompleteRun p.program env m h.end) (sym e) h.run;
  memory = h.memory;
  sends = h.sends;
  mark = h.mark;
}

pub only_its_own : OnlyItsOwn
only_its_own s b b' c c' i h g inbox coin lt below program memory =
    let x = node_at b.nodes i in
    let z = node_at c.nodes i in
    let env = setting_at s b.mail h.coins i in
    let mine = h.each i lt in
    let other = g.each i below in
    let hcoin : node_coin b i ≡ slice_index h.coins i = ap
    (λ (o : Option (List ℕ)). slice_index (unwrap_or o []) i) h.is_open in
    let gcoin : node_coin c i ≡ slice_index g.coins i = ap
    (λ (o : Option (List ℕ)). slice_index (unwrap_or o []) i) g.is_open in
    let same_coin : slice_index g.coins i ≡ slice_index h.coins i = sym gcoin ∙ (coin ∙ hcoin) in
    let same_env : setting_at s c.mail g.coins i ≡ env = ap
    (λ (m : FinMap nat_cmp ℕ). let e : Setting =
    record { shape = s.shape; id = i; inbox = m; coin = slice_index g.coins i } in e) inbox
    ∙ ap (λ (k : ℕ). let e : Setting = record { shape = s.shape; id = i; inbox = inbox_of i b.mail; coin = k } in e)
    same_coin in
    let at_env = subst (λ (e : Setting). NodePulse s e z (node_at c'.nodes i) (mail_from c'.mail i)) same_env other in
    let at_program = subst (λ (o : Option Accepted). MatchOption o (Rests z (node_at c'.nodes i) (mail_from c'.mail i))
    (λ p. Runs s p env z (node_at c'.nodes i) (mail_from c'.mail i))) program at_env.1 in
    let at_memory = part_of s env z x (node_at c'.nodes i) (mail_from c'.mail i) x.program (sym memory) at_program in
    one_node s env x (node_at c'.nodes i) (node_at b'.nodes i) (mail_from c'.mail i) (mail_from b'.mail i) x.program
    (other.0 ∙ (program ∙ sym mine.0)) at_memory mine.1

pub only_its_own_for : OnlyItsOwnFor
only_its_own_for s i zero b b' c c' same h =
    subst (λ (y : State). SameNode i y c') (sym h.0) (subst (λ (z : State). SameNode i b z) (sym h.1) same)
only_its_own_for s i (suc k) b b' c c' same h =
    let x = h.0 in
    let y = h.1 in
    let z = h.2 in
    let w = h.3 in
    let keep_x = h.4 in
    let keep_z = h.5 in
    let both = h.6 in
    let program : (node_at z.nodes i).program ≡ (node_at x.nodes i).program = keep_z.0 ∙ (same.0 ∙ sym keep_x.0) in
    let memory : (node_at z.nodes i).memory ≡ (node_at x.nodes i).memory = keep_z.1 ∙ (same.1 ∙ sym keep_x.1) in
    let next = only_its_own s x y z w i both.left both.right both.mail both.coin both.within both.below program
    memory in
    only_its_own_for s i k y b' w c'
    (ap (λ (n : Node). n.program) next.0, ap (λ (n : Node). n.memory) next.0) h.7

-- ---- a shared pair for any number of pulses

run_append : (s : Setup) (b : State) (es fs : List Entry) (mid b' : State) → LeadsByEntries s b es mid → LeadsByEntries s mid fs b'
    → LeadsByEntries s b (es ++ fs) b'
run_append s b [] fs mid b' h g = subst (λ (x : State). LeadsByEntries s x fs b') h g
run_append s b (e ∷ es) fs mid b' h g = (h.0, h.1, run_append s h.0 es fs mid b' h.2 g)

-- each of the group passes
group_passes : (P : Node → Bool) (group : List Bool) (xs : List Node) → length group ≡ length xs
    → ((i : ℕ) → i < length xs → IsIn group i → P (node_at xs i) ≡ true)
    → count_by (λ x. x) group ≤ count_by P xs
group_passes P [] [] e h = omega arith
group_passes P [] (x ∷ xs) e h = absurd (omega arith)
group_passes P (f ∷ group) [] e h = absurd (omega arith)
group_passes P (f ∷ group) (x ∷ xs) e h =
    let rest = group_passes P group xs (omega arith) (λ i lt in_group. h (suc i) (omega (arith, lt)) in_group) in
    let here = first f (λ t. h 0 (omega arith) t) in
    omega (arith, rest, here, count_cons (λ (y : Bool). y) f group, count_cons P x xs)
  where
    first : (f : Bool) → (IsTrue f → P x ≡ true) → unit_of f ≤ unit_of (P x)
    first true h = let e : unit_of (P x) ≡ 1 = ap unit_of (h refl) in omega (arith, e)
    first false h = omega arith

pair_passes : (clock : ℕ) (x : Node) → IsTrue x.mark → clock_of x.memory ≡ clock → mark_of x.memory ≡ 1
    → ran_to_pair clock 1 x ≡ true
pair_passes clock x marked c m = rw (marked, eq-eqb (clock_of x.memory) clock c, eq-eqb (mark_of x.memory) 1 m) refl

-- whose program is the clock's, and who ran: its mark is set
mark_of_run : (s : Setup) (env : Setting) (x y : Node) (r : FinMap nat_cmp ℕ) (o : Option Accepted) (p : Accepted)
    → o ≡ Some p → RunsClock s p → MatchOption o (Rests x y r) (λ p. Runs s p env x y r) → IsTrue y.mark
mark_of_run s env x y r None p e clock h = absurd cc
mark_of_run s env x y r (Some q) p e clock h =
    let same : q ≡ p = cc in
    h.mark.1 (ap (λ (a : Accepted). a.program) same ∙ clock)

-- whose mark a run set: its program is the clock's
record RanClockProgram (s : Setup) (x : Node) : Type 0 where
  program : Accepted
  loaded : x.program ≡ Some program
  clock : RunsClock s program

program_of_mark : (s : Setup) (env : Setting) (x y : Node) (r : FinMap nat_cmp ℕ) (o : Option Accepted)
    → x.program ≡ o → MatchOption o (Rests x y r) (λ p. Runs s p env x y r) → IsTrue y.mark → RanClockProgram s x
program_of_mark s env x y r None e h marked = absurd (cc (h.mark, marked))
program_of_mark s env x y r (Some p) e h marked = record { program = p; loaded = e; clock = h.mark.0 marked }

-- a node that ran the clock program, and still has it, runs it in the next closed pulse
runs_on : (s : Setup) (b0 b c c' : State) (i : ℕ) → Sound s b0 → Sound s c → Pulse s b0 b → Pulse s c c'
    → i < s.shape.nodes → IsTrue (node_at b.nodes i).mark
    → (node_at c.nodes i).program ≡ (node_at b.nodes i).program → IsTrue (node_at c'.nodes i).mark
runs_on s b0 b c c' i sound0 sound p q lt marked same =
    let within : i < length b0.nodes = rw sound0.nodes lt in
    let within' : i < length c.nodes = rw sound.nodes lt in
    let first = p.each i within in
    let ran = program_of_mark s (setting_at s b0.mail p.coins i) (node_at b0.nodes i) (node_at b.nodes i)
    (mail_from b.mail i) (node_at b0.nodes i).program refl first.1 marked in
    mark_of_run s (setting_at s c.mail q.coins i) (node_at c.nodes i) (node_at c'.nodes i) (mail_from c'.mail i)
    (node_at c.nodes i).program ran.program (same ∙ (first.0 ∙ ran.loaded)) ran.clock (q.each i within').1

pub pair_moves_for : PairMovesOnFor
pair_moves_for s history b0 b b' group clock zero ok own replay p count many share rounds = λ i lt in_group.
    let sound = sound_replay s history b0 ok replay in
    let has = share i lt in_group in
    let ran = ran_pulse s b0 b i ok own sound p lt has.0 in
    let small : clock < s.modulus = subst (λ (n : ℕ). n < s.modulus) (sym ran.clock ∙ has.1) ran.moved.clock in
    let same : (clock + 0) % s.modulus ≡ clock = mod-eq_of_lt (omega (arith, small)) ∙ omega arith in
    subst (λ (x : State). IsTrue (node_at x.nodes i).mark
    × (clock_of (node_at x.nodes i).memory ≡ (clock + 0) % s.modulus)
    × (mark_of (node_at x.nodes i).memory ≡ 1)) (sym rounds) (has.0, has.1 ∙ sym same, has.2)
pair_moves_for s history b0 b b' group clock (suc k) ok own replay p count many share rounds =
    let es = rounds.0 in
    let c = rounds.1 in
    let mid = rounds.2 in
    let alone = rounds.3 in
    let q = rounds.4 in
    let sound0 = sound_replay s history b0 ok replay in
    let sound_b = sound_pulse s b0 b ok sound0 p in
    let closed : Replays s (history ++ Closed (row_of s b0 b) ∷ []) b = run_push s (new_state s) history
    (Closed (row_of s b0 b)) b0 b replay (p, refl) in
    let replay_c : Replays s ((history ++ Closed (row_of s b0 b) ∷ []) ++ es) c = run_append s (new_state s)
    (history ++ Closed (row_of s b0 b) ∷ []) es b c closed alone.run in
    let sound_c = sound_replay s ((history ++ Closed (row_of s b0 b) ∷ []) ++ es) c ok replay_c in
    let came : quorum_of (rule_of s) ≤ count_by (ran_to_pair clock 1) b.nodes =
    let passes = group_passes (ran_to_pair clock 1) group b.nodes (count ∙ sym sound_b.nodes)
    (λ i l in_group. let has = share i (omega (arith, l, sound_b.nodes)) in_group in
    pair_passes clock (node_at b.nodes i) has.0 has.1 has.2) in omega (arith, passes, many) in
    let next : SharePair s group ((clock + 1) % s.modulus) mid = λ i lt in_group.
    let has = share i lt in_group in
    let marked = runs_on s b0 b c mid i sound0 sound_c p q lt has.0 (alone.program i lt in_group) in
    let moved = pair_moves s history es b0 b c mid clock i ok own replay p came alone.run alone.quiet q lt marked
    (ap clock_of (alone.memory i lt in_group) ∙ has.1) (ap mark_of (alone.memory i lt in_group) ∙ has.2) in
    (marked, moved.0, moved.1) in
    let rest = pair_moves_for s ((history ++ Closed (row_of s b0 b) ∷ []) ++ es) c mid b' group
    ((clock + 1) % s.modulus) k ok own replay_c q count many next rounds.5 in
    let number : ((clock + 1) % s.modulus + k) % s.modulus ≡ (clock + suc k) % s.modulus = mod-add-mod
    (clock + 1) s.modulus k ∙ ap (λ (n : ℕ). n % s.modulus) (let e : clock + 1 + k ≡ clock + suc k =
    omega arith in e) in
    subst (λ (n : ℕ). SharePair s group n b') number rest
