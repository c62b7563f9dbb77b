-- Settled clocks that are not zero are equal, and a pair moves on.
use Rattle.std.proofs.Common.{◌≡◌, ◌≢◌, ℕ, zero, suc, ◌+◌, ◌-◌, ◌%◌, ◌<◌, ◌≤◌, ◌==◌, true, false, not, ◌&&◌, IsTrue, List, [], ◌∷◌, length, filter, get_or, slice_index, Contains, Some, All, refl, sym, ap, ◌∙◌, arith, subst, inl, inr}
use Rattle.std.specs.FinMap.{get}
use Rattle.std.proofs.lemmas.Bool.{cases_eq, and_parts, cond_both, eqb-true, eq-eqb}
use Rattle.std.proofs.lemmas.Bool.Decides.{nat_tests}
use Rattle.std.proofs.lemmas.List.{get_or_default}
use Rattle.std.proofs.lemmas.List.Elements.{All-head, All-tail, All-nil, All-cons, All-weaker, All-filter, All-contains, filter_passes}
use Rattle.clock_nodes.specs.Rule.{is_mail, support, quorum_of}
use Rattle.clock_nodes.specs.Rule.{pair_from}
use Rattle.clock_nodes.specs.Rule.{clock_of, mark_of, clock_below, pair_after}
use Rattle.bench_core.specs.Setup.{Setup, IsSetup, HasRuleClock, rule_of}
use Rattle.bench_core.specs.State.{Node, State, new_state, no_node, node_at, mail_from, setting_at}
use Rattle.node_env.specs.Env.{inbox_of}
use Rattle.bench_core.specs.Pulse.{Pulse}
use Rattle.bench_core.specs.Settled.{settled_flags, settled_clocks, clocks_where, moving_clocks, value_of}
use Rattle.bench_core.specs.Replay.{Entry, Staged, Opened, Closed, Abandoned, LeadsByEntries}
use Rattle.bench_core.specs.StepList.{entries_of}
use Rattle.bench_core.specs.Laws.{ClocksAgree, StepsAgree, PairMovesOn, RuleClockBelow, ran_to_pair, IsQuiet}
use Rattle.bench_core.proofs.Counting.{came, support_came, two_values, enough_came, some_passes}
use Rattle.bench_core.proofs.Rules.{next_pair}
use Rattle.bench_core.proofs.Sound.{Sound, sound_run, sound_pulse, sound_replay, ran_pulse}
use Rattle.bench_core.proofs.Replays.{steps_are_entries}

-- where a clock of settled nodes stands
pub record At (m : ℕ) (xs ys : List Node) (c : ℕ) : Type 0 where
  pub node : ℕ
  pub within : node < length xs
  pub before : IsTrue (node_at xs node).mark
  pub after : IsTrue (node_at ys node).mark
  pub clock : value_of m (node_at ys node).memory ≡ c

at_later : (m : ℕ) (x y : Node) (xs ys : List Node) (c : ℕ) → At m xs ys c → At m (x ∷ xs) (y ∷ ys) c
at_later m x y xs ys c h = record {
  node = suc h.node;
  within = omega (arith, h.within);
  before = h.before;
  after = h.after;
  clock = h.clock;
}

pub all_at : (m : ℕ) (xs ys : List Node) → All (At m xs ys) (clocks_where m (settled_flags xs ys) ys)
all_at m [] ys = All-nil (At m [] ys)
all_at m (x ∷ xs) [] = All-nil (At m (x ∷ xs) [])
all_at m (x ∷ xs) (y ∷ ys) =
    let rest = All-weaker (At m xs ys) (At m (x ∷ xs) (y ∷ ys)) (at_later m x y xs ys)
    (clocks_where m (settled_flags xs ys) ys) (all_at m xs ys) in
    cond_both (x.mark && y.mark) (value_of m y.memory ∷ clocks_where m (settled_flags xs ys) ys)
    (clocks_where m (settled_flags xs ys) ys) (All (At m (x ∷ xs) (y ∷ ys)))
    (λ e. All-cons (At m (x ∷ xs) (y ∷ ys)) (value_of m y.memory) (clocks_where m (settled_flags xs ys) ys)
    (first e) rest)
    (λ e. rest)
  where
    first : (x.mark && y.mark) ≡ true → At m (x ∷ xs) (y ∷ ys) (value_of m y.memory)
    first e = record {
      node = 0;
      within = omega arith;
      before = (and_parts x.mark y.mark e).0;
      after = (and_parts x.mark y.mark e).1;
      clock = refl;
    }

-- a clock that settled nodes have and that is not 0
found_at : (s : Setup) (b b' : State) (c : ℕ) → Contains (moving_clocks s b b') c
    → At s.modulus b.nodes b'.nodes c × (c ≢ 0)
found_at s b b' c h =
    let clocks = settled_clocks s b b' in
    let test = λ (n : ℕ). not (n == 0) in
    let passes : not (c == 0) ≡ true = All-contains (λ n. test n ≡ true) (filter test clocks) c
    (filter_passes test clocks) h in (
      All-contains (At s.modulus b.nodes b'.nodes) (filter test clocks) c
          (All-filter test (At s.modulus b.nodes b'.nodes) clocks (all_at s.modulus b.nodes b'.nodes)) h,
      (λ e. grind (arith, nat_tests)),
    )

pub length_flags : (xs ys : List Node) → length ys ≡ length xs → length (settled_flags xs ys) ≡ length xs
length_flags [] ys e = refl
length_flags (x ∷ xs) [] e = absurd (omega arith)
length_flags (x ∷ xs) (y ∷ ys) e = omega (arith, length_flags xs ys (omega arith))

-- a node that is settled had its mark before
flag_before : (xs ys : List Node) (k : ℕ) → get_or (settled_flags xs ys) k false ≡ true → IsTrue (node_at xs k).mark
flag_before [] ys k h = absurd cc
flag_before (x ∷ xs) [] k h = absurd cc
flag_before (x ∷ xs) (y ∷ ys) zero h = (and_parts x.mark y.mark h).0
flag_before (x ∷ xs) (y ∷ ys) (suc k) h = flag_before xs ys k h

-- a node that moved to a clock that is not 0 had enough mails of the clock before it
supported : (s : Setup) (b b' : State) (c : ℕ) → IsSetup s → HasRuleClock s → Sound s b → (p : Pulse s b b')
    → (h : At s.modulus b.nodes b'.nodes c) → c ≢ 0
    → quorum_of (rule_of s) ≤ came (c - 1) h.node b.mail
supported s b b' c ok own sound p h ne =
    let lt : h.node < s.shape.nodes = omega (arith, h.within, sound.nodes) in
    let ran = ran_pulse s b b' h.node ok own sound p lt h.after in
    let same : (pair_after s.faults s.modulus (setting_at s b.mail p.coins h.node) (node_at b.nodes h.node).memory).0
    ≡ c = sym ran.clock ∙ (sym ran.told ∙ h.clock) in
    let many = ran.moved.enough (λ z. ne (sym same ∙ z)) in
    let many_c : quorum_of (rule_of s) ≤ support (inbox_of h.node b.mail) (c - 1) s.shape.nodes = subst
    (λ (n : ℕ). quorum_of (rule_of s) ≤ support (inbox_of h.node b.mail) (n - 1) s.shape.nodes) same many in
    subst (λ (n : ℕ). quorum_of (rule_of s) ≤ n) (support_came (c - 1) h.node s.shape.nodes b.mail sound.mail) many_c

pub agreement : ClocksAgree
agreement s history b b' ok own replay p few c d inc ind =
    let sound = sound_replay s history b ok replay in
    let at_c = found_at s b b' c inc in
    let at_d = found_at s b b' d ind in
    let many_c = supported s b b' c ok own sound p at_c.0 at_c.1 in
    let many_d = supported s b b' d ok own sound p at_d.0 at_d.1 in
    let flags = settled_flags b.nodes b'.nodes in
    elim (cases_eq c d) [
      | inl e ↦ e
      | inr ne ↦
          let lengths : length flags ≡ length b.mail = length_flags b.nodes b'.nodes p.nodes
          ∙ (sound.nodes ∙ sym sound.mail) in
          let lt : at_c.0.node < s.shape.nodes = omega (arith, at_c.0.within, sound.nodes) in
          let lt' : at_d.0.node < s.shape.nodes = omega (arith, at_d.0.within, sound.nodes) in
          let apart : (c - 1) ≢ (d - 1) = λ e. ne (same_from_pred c d at_c.1 at_d.1 e) in
          let together = two_values s.shape.nodes at_c.0.node at_d.0.node (c - 1)
          (d - 1) b.mail flags lengths lt lt' apart
          (λ k l h. sound.sent own k (omega (arith, l, sound.mail)) (flag_before b.nodes b'.nodes k h)) in
          absurd (omega (arith, together, many_c, many_d, few, sound.mail, ok.faults))
    ]
  where
    same_from_pred : (m n : ℕ) → m ≢ 0 → n ≢ 0 → m - 1 ≡ n - 1 → m ≡ n
    same_from_pred m n a b e = omega arith

pub steps_agree : StepsAgree
steps_agree s acts b b' ok own h p few = agreement s (entries_of acts) b b' ok own
    (steps_are_entries s (new_state s) acts b h) p few

-- what a run of the built-in clock leaves is told as it is
pub rule_clock_below : RuleClockBelow
rule_clock_below s history b b' i ok own replay p lt marked =
    (ran_pulse s b b' i ok own (sound_replay s history b ok replay) p lt marked).told

-- ---- the pair moves on

-- entries that close no pulse keep the mail
quiet_mail : (s : Setup) (b : State) (es : List Entry) (c : State) → LeadsByEntries s b es c → All IsQuiet es → c.mail ≡ b.mail
quiet_mail s b [] c h quiet = ap (λ (x : State). x.mail) h
quiet_mail s b (Staged actor change ∷ es) c h quiet = quiet_mail s h.0 es c h.2 (All-tail IsQuiet _ es quiet)
    ∙ ap (λ (x : State). x.mail) h.1.1
quiet_mail s b (Opened coins ∷ es) c h quiet = quiet_mail s h.0 es c h.2 (All-tail IsQuiet _ es quiet)
    ∙ ap (λ (x : State). x.mail) h.1.2
quiet_mail s b (Closed row ∷ es) c h quiet = absurd (All-head IsQuiet (Closed row) es quiet)
quiet_mail s b (Abandoned ∷ es) c h quiet = quiet_mail s h.0 es c h.2 (All-tail IsQuiet _ es quiet)
    ∙ ap (λ (x : State). x.mail) h.1.1

-- a node that passes ran to the pair
ran_parts : (clock last : ℕ) (x : Node) → ran_to_pair clock last x ≡ true → IsTrue x.mark × (clock_of x.memory ≡ clock)
ran_parts clock last x h =
    let both = and_parts (x.mark && (clock_of x.memory == clock)) (mark_of x.memory == last) h in
    let first = and_parts x.mark (clock_of x.memory == clock) both.0 in
    (first.0, eqb-true (clock_of x.memory) clock first.1)

pub pair_moves : PairMovesOn
pair_moves s history between b b' c c' clock i ok own replay p many run quiet q lt marked clock_is mark_is =
    let sound = sound_replay s history b ok replay in
    let sound' = sound_pulse s b b' ok sound p in
    let sound_c = sound_run s b' between c ok sound' run in
    let same_mail = quiet_mail s b' between c run quiet in
    let came_i = enough_came (ran_to_pair clock 1) i clock b'.nodes b'.mail (sound'.mail ∙ sym sound'.nodes)
    (λ k d l h. sent_clock sound sound' k d l h) in
    let came_c : quorum_of (rule_of s) ≤ came clock i b'.mail = omega (arith, came_i, many) in
    let came_same : quorum_of (rule_of s) ≤ came clock i c.mail = subst
    (λ m. quorum_of (rule_of s) ≤ came clock i m) (sym same_mail) came_c in
    let support_c : quorum_of (rule_of s) ≤ support (inbox_of i c.mail) clock s.shape.nodes = subst
    (λ (n : ℕ). quorum_of (rule_of s) ≤ n)
    (sym (support_came clock i s.shape.nodes c.mail sound_c.mail)) came_same in
    let small = clock_small sound sound' (omega (arith, many, ok.faults)) in
    let ran_c = ran_pulse s c c' i ok own sound_c q lt marked in
    let next = next_pair (quorum_of (rule_of s)) s.modulus clock (slice_index q.coins i)
    (λ v. support (inbox_of i c.mail) v s.shape.nodes) ok.least small support_c in
    let from = λ (a l : ℕ). pair_from (quorum_of (rule_of s)) s.modulus
    (support (inbox_of i c.mail) (clock_below s.modulus a) s.shape.nodes) (clock_below s.modulus a) l
    (slice_index q.coins i) in
    let memory = (node_at c.nodes i).memory in
    let pair : pair_after s.faults s.modulus (setting_at s c.mail q.coins i) memory ≡ ((clock + 1) % s.modulus, 1) =
    ap (λ (a : ℕ). from a (mark_of memory)) clock_is ∙ (ap (λ (l : ℕ). from clock l) mark_is ∙ next) in
    (ran_c.clock ∙ ap (λ (n : ℕ × ℕ). n.0) pair, ran_c.last ∙ ap (λ (n : ℕ × ℕ). n.1) pair)
  where
    sent_clock : Sound s b → Sound s b' → (k : ℕ) (d : Node) → k < length b'.nodes
        → ran_to_pair clock 1 (get_or b'.nodes k d) ≡ true → is_mail clock (get (mail_from b'.mail k) i) ≡ true
    sent_clock sound sound' k d l h =
        let within : k < s.shape.nodes = omega (arith, l, sound'.nodes) in
        let same_node : get_or b'.nodes k d ≡ node_at b'.nodes k = get_or_default b'.nodes k d no_node l in
        let parts = ran_parts clock 1 (node_at b'.nodes k) (ap (ran_to_pair clock 1) (sym same_node) ∙ h) in
        let ran = ran_pulse s b b' k ok own sound p within parts.0 in
        ap (is_mail clock) (ran.sent i lt ∙ ap (λ (n : ℕ). Some n) parts.1) ∙ eq-eqb clock clock refl

    clock_small : Sound s b → Sound s b' → 0 < quorum_of (rule_of s) → clock < s.modulus
    clock_small sound sound' pos =
        let found = some_passes (ran_to_pair clock 1) b'.nodes (omega (arith, many, pos)) in
        let k = found.1.0 in
        let within : k < s.shape.nodes = omega (arith, found.1.1, sound'.nodes) in
        let same_node : found.0 ≡ node_at b'.nodes k = sym found.1.2
        ∙ get_or_default b'.nodes k found.0 no_node found.1.1 in
        let parts = ran_parts clock 1 (node_at b'.nodes k) (ap (ran_to_pair clock 1) (sym same_node) ∙ found.2) in
        let ran = ran_pulse s b b' k ok own sound p within parts.0 in
        subst (λ (n : ℕ). n < s.modulus) (sym ran.clock ∙ parts.1) ran.moved.clock
