-- What holds of each state that a history leads to.
use Rattle.std.proofs.Common.{◌≡◌, ℕ, ◌<◌, ◌≤◌, ◌^◌, IsTrue, List, [], ◌∷◌, length, slice_set, slice_index, replicate, Option, None, Some, MatchOption, IfSome, All, refl, sym, ap, ◌∙◌, subst, arith, inl, inr, get_or-set_same, get_or-set_other}
use Rattle.std.specs.Ordering.{nat_cmp}
use Rattle.std.specs.FinMap.{FinMap, empty, get, get-empty}
use Rattle.std.proofs.lemmas.Bool.{cases_eq}
use Rattle.std.proofs.lemmas.List.{get_or-replicate, length-replicate, length-set}
use Rattle.std.proofs.lemmas.List.Elements.{All-nil, All-push, All-head, All-tail}
use Rattle.node_env.specs.Env.{Extent, Setting, IsSetting, AreNumbers}
use Rattle.bpf_insn.specs.declared.forms.Insn.{Insn}
use Rattle.bpf_machine.specs.Run.{CompleteRun}
use Rattle.bpf_verify.specs.Accepted.{Accepted}
use Rattle.clock_nodes.specs.Rule.{support, quorum_of}
use Rattle.clock_nodes.specs.Rule.{clock_of, mark_of, pair_after, with_pair}
use Rattle.clock_nodes.proofs.Bytes.{clock_written, mark_written}
use Rattle.clock_nodes.proofs.ClockRuns.{clock_ends_so}
use Rattle.bench_core.specs.Setup.{Setup, IsSetup, HasRuleClock, rule_of}
use Rattle.clock_nodes.specs.Listings.{clock_listing}
use Rattle.bench_core.specs.State.{Node, Change, Load, Unload, Corrupt, State, no_node, node_at, mail_from, setting_at, new_node, new_state, IsMemory, IsChange, AreCoins, applied, all_applied, opened_state, staged_state, abandoned_state}
use Rattle.bench_core.specs.Pulse.{Runs, Rests, Pulse}
use Rattle.bench_core.specs.Settled.{value_of}
use Rattle.bench_core.specs.Replay.{Entry, Staged, Opened, Closed, Abandoned, Step, LeadsByEntries}
use Rattle.bench_core.proofs.AnyRuns.{any_run_leaves}
use Rattle.bench_core.proofs.Counting.{SentOne, inbox_numbers}
use Rattle.bench_core.proofs.Rules.{IsMoved, moved_after, clock_below_same}

-- a program of this shape
abbrev pub IsShaped : Extent → Accepted → Type 0
IsShaped shape p = p.shape ≡ shape

pub record Sound (s : Setup) (b : State) : Type 0 where
  pub nodes : length b.nodes ≡ s.shape.nodes
  pub mail : length b.mail ≡ s.shape.nodes
  pub rows : (i : ℕ) → i < s.shape.nodes → AreNumbers s.shape.nodes (mail_from b.mail i)
  pub memories : (i : ℕ) → i < s.shape.nodes → IsMemory s.shape (node_at b.nodes i).memory
  pub programs : (i : ℕ) → i < s.shape.nodes → IfSome (node_at b.nodes i).program (IsShaped s.shape)
  pub sent : HasRuleClock s → (i : ℕ) → i < s.shape.nodes → IsTrue (node_at b.nodes i).mark
      → SentOne s.shape.nodes (mail_from b.mail i)
  pub staged : All (IsChange s.shape) b.staged
  pub coins : IfSome b.coins (AreCoins s.shape)

no_numbers : (n : ℕ) → AreNumbers n empty
no_numbers n j v e = let no : None ≡ Some v = sym (get-empty nat_cmp j) ∙ e in absurd cc

pub sound_new : (s : Setup) → Sound s (new_state s)
sound_new s =
    let one = λ (i : ℕ) (lt : i < s.shape.nodes). get_or-replicate s.shape.nodes i (new_node s) no_node lt in
    let zeros : IsMemory s.shape (replicate s.shape.memory 0) =
    record {
      length = length-replicate s.shape.memory 0;
      bytes = λ k d lt. let e = get_or-replicate s.shape.memory k 0 d
          (omega (arith, lt, length-replicate {A = ℕ} s.shape.memory 0)) in
          subst (λ (n : ℕ). n < 256) (sym e) (omega arith);
    } in
    record {
      nodes = length-replicate s.shape.nodes _;
      mail = length-replicate s.shape.nodes _;
      rows = λ i lt. subst (AreNumbers s.shape.nodes) (sym (get_or-replicate s.shape.nodes i empty empty lt))
          (no_numbers s.shape.nodes);
      memories = λ i lt. subst (λ (x : Node). IsMemory s.shape x.memory) (sym (one i lt)) zeros;
      programs = λ i lt. subst (λ (x : Node). IfSome x.program (IsShaped s.shape)) (sym (one i lt)) tt;
      sent = λ own i lt marked. absurd (cc (ap (λ (x : Node). x.mark) (one i lt), marked));
      staged = All-nil (IsChange s.shape);
      coins = tt;
    }

-- what a change leaves of a node: its mark, that its memory is one of this setup, and that its program has its shape
pub record Keeps (s : Setup) (x y : Node) : Type 0 where
  pub mark : y.mark ≡ x.mark
  pub memory : IsMemory s.shape x.memory → IsMemory s.shape y.memory
  pub program : IfSome x.program (IsShaped s.shape) → IfSome y.program (IsShaped s.shape)

keeps_self : (s : Setup) (x : Node) → Keeps s x x
keeps_self s x = record { mark = refl; memory = λ h. h; program = λ h. h }

-- a write at one place keeps the other nodes, and what it writes is to keep that one
keeps_set : (s : Setup) (nodes : List Node) (k i : ℕ) (y : Node) → i < length nodes → Keeps s (node_at nodes k) y
    → Keeps s (node_at nodes i) (node_at (slice_set nodes k y) i)
keeps_set s nodes k i y lt kept =
    elim (cases_eq i k) [
      | inl e ↦
          let at_k : node_at (slice_set nodes k y) i ≡ y = ap (node_at (slice_set nodes k y)) e
          ∙ get_or-set_same nodes k y no_node (subst (λ (n : ℕ). n < length nodes) e lt) in
          subst (λ (z : Node). Keeps s z (node_at (slice_set nodes k y) i)) (ap (node_at nodes) (sym e))
          (subst (λ (z : Node). Keeps s (node_at nodes k) z) (sym at_k) kept)
      | inr ne ↦ subst (λ (z : Node). Keeps s (node_at nodes i) z) (sym (get_or-set_other nodes k i y no_node ne))
          (keeps_self s (node_at nodes i))
    ]

keeps_applied : (s : Setup) (c : Change) (nodes : List Node) (i : ℕ) → IsChange s.shape c → i < length nodes
    → Keeps s (node_at nodes i) (node_at (applied nodes c) i)
keeps_applied s (Load k p) nodes i fit lt = keeps_set s nodes k i _ lt
    (record { mark = refl; memory = λ h. h; program = λ h. fit.1 })
keeps_applied s (Unload k) nodes i fit lt = keeps_set s nodes k i _ lt
    (record { mark = refl; memory = λ h. h; program = λ h. tt })
keeps_applied s (Corrupt k image) nodes i fit lt = keeps_set s nodes k i _ lt
    (record { mark = refl; memory = λ h. fit.1; program = λ h. h })

pub length-applied : (c : Change) (nodes : List Node) → length (applied nodes c) ≡ length nodes
length-applied (Load k p) nodes = length-set nodes k _
length-applied (Unload k) nodes = length-set nodes k _
length-applied (Corrupt k image) nodes = length-set nodes k _

pub length-all_applied : (cs : List Change) (nodes : List Node) → length (all_applied nodes cs) ≡ length nodes
length-all_applied [] nodes = refl
length-all_applied (c ∷ cs) nodes = length-all_applied cs (applied nodes c) ∙ length-applied c nodes

pub keeps_all : (s : Setup) (cs : List Change) (nodes : List Node) (i : ℕ) → All (IsChange s.shape) cs
    → i < length nodes
    → Keeps s (node_at nodes i) (node_at (all_applied nodes cs) i)
keeps_all s [] nodes i fit lt = keeps_self s (node_at nodes i)
keeps_all s (c ∷ cs) nodes i fit lt =
    let first = keeps_applied s c nodes i (All-head (IsChange s.shape) c cs fit) lt in
    let rest = keeps_all s cs (applied nodes c) i (All-tail (IsChange s.shape) c cs fit)
    (rw (length-applied c nodes) lt) in
    record {
      mark = rest.mark ∙ first.mark;
      memory = λ h. rest.memory (first.memory h);
      program = λ h. rest.program (first.program h);
    }

pub sound_opened : (s : Setup) (b : State) (coins : List ℕ) → AreCoins s.shape coins → Sound s b
    → Sound s (opened_state b coins)
sound_opened s b coins fit h =
    let within = λ (i : ℕ) (lt : i < s.shape.nodes). let w : i < length b.nodes = rw h.nodes lt in w in
    record {
      nodes = length-all_applied b.staged b.nodes ∙ h.nodes;
      mail = h.mail;
      rows = h.rows;
      memories = λ i lt. (keeps_all s b.staged b.nodes i h.staged (within i lt)).memory (h.memories i lt);
      programs = λ i lt. (keeps_all s b.staged b.nodes i h.staged (within i lt)).program (h.programs i lt);
      sent = λ own i lt marked. h.sent own i lt (subst IsTrue
          (keeps_all s b.staged b.nodes i h.staged (within i lt)).mark marked);
      staged = All-nil (IsChange s.shape);
      coins = fit;
    }

sound_staged : (s : Setup) (b : State) (c : Change) → IsChange s.shape c → Sound s b → Sound s (staged_state b c)
sound_staged s b c fit h = record {
  nodes = h.nodes;
  mail = h.mail;
  rows = h.rows;
  memories = h.memories;
  programs = h.programs;
  sent = h.sent;
  staged = All-push (IsChange s.shape) b.staged c h.staged fit;
  coins = h.coins;
}

sound_abandoned : (s : Setup) (b : State) → Sound s b → Sound s (abandoned_state b)
sound_abandoned s b h = record {
  nodes = h.nodes;
  mail = h.mail;
  rows = h.rows;
  memories = h.memories;
  programs = h.programs;
  sent = h.sent;
  staged = h.staged;
  coins = tt;
}

-- ---- a closed pulse

pub coin_small : (s : Setup) (b : State) (coins : List ℕ) (i : ℕ) → Sound s b → b.coins ≡ Some coins
    → i < s.shape.nodes → slice_index coins i < 2
coin_small s b coins i sound is lt =
    let fit : AreCoins s.shape coins = subst (λ (o : Option (List ℕ)). IfSome o (AreCoins s.shape)) is sound.coins in
    fit.1 i 0 (rw fit.0 lt)

pub is_setting : (s : Setup) (b : State) (coins : List ℕ) (i : ℕ) → IsSetup s → Sound s b → b.coins ≡ Some coins
    → i < s.shape.nodes → IsSetting (setting_at s b.mail coins i)
is_setting s b coins i ok sound is lt =
    record {
      extent = ok.extent;
      id = lt;
      mail = inbox_numbers s.shape.nodes i b.mail sound.mail sound.rows;
      coin = coin_small s b coins i sound is lt;
    }

-- what a node that ran the clock program in a closed pulse has and sent
pub record RanClock (s : Setup) (env : Setting) (before after : Node) (row : FinMap nat_cmp ℕ) : Type 0 where
  pub clock : clock_of after.memory ≡ (pair_after s.faults s.modulus env before.memory).0
  pub told : value_of s.modulus after.memory ≡ clock_of after.memory
  pub last : mark_of after.memory ≡ (pair_after s.faults s.modulus env before.memory).1
  pub moved : IsMoved (quorum_of (rule_of s)) s.modulus (λ v. support env.inbox v s.shape.nodes)
      (pair_after s.faults s.modulus env before.memory)
  pub sent : (j : ℕ) → j < s.shape.nodes → get row j ≡ Some (clock_of after.memory)

node_ran : (s : Setup) (mail : List (FinMap nat_cmp ℕ)) (coins : List ℕ) (i : ℕ) (x y : Node) (row : FinMap nat_cmp ℕ)
    → IsSetup s → HasRuleClock s → IsSetting (setting_at s mail coins i) → IsMemory s.shape x.memory
    → (o : Option Accepted) → MatchOption o (Rests x y row) (λ p. Runs s p (setting_at s mail coins i) x y row)
    → IsTrue y.mark → RanClock s (setting_at s mail coins i) x y row
node_ran s mail coins i x y row ok own is whole None h marked = absurd (cc (h.mark, marked))
node_ran s mail coins i x y row ok own is whole (Some p) h marked =
    let env = setting_at s mail coins i in
    let pair = pair_after s.faults s.modulus env x.memory in
    let run : CompleteRun (clock_listing (rule_of s)) env x.memory h.end = subst
    (λ (l : List Insn). CompleteRun l env x.memory h.end) (h.mark.0 marked ∙ own) h.run in
    let ends = clock_ends_so (record { nodes = s.shape.nodes; faults = s.faults; modulus = s.modulus }) s.shape
    (record { some = ok.extent.some; few = ok.extent.few; allowed = ok.faults; least = ok.least; most = ok.most }) refl
    env x.memory h.end (record { extent = refl; setting = is; length = whole.length; bytes = whole.bytes }) run in
    let moved = moved_after (quorum_of (rule_of s)) s.modulus (clock_of x.memory) (mark_of x.memory)
    (slice_index coins i)
    (λ v. support env.inbox v s.shape.nodes) ok.least is.coin in
    let left : y.memory ≡ with_pair pair x.memory = h.memory ∙ ends.memory in
    let clock : clock_of y.memory ≡ pair.0 = ap clock_of left
    ∙ clock_written pair x.memory (small_clock pair.0 s.modulus moved.clock ok.most) in
    record {
      clock = clock;
      told = clock_below_same s.modulus (clock_of y.memory) (subst (λ (n : ℕ). n < s.modulus) (sym clock) moved.clock);
      last = ap mark_of left ∙ mark_written pair x.memory (small_mark pair.1 moved.last);
      moved = moved;
      sent = λ j lt. ap (λ (m : FinMap nat_cmp ℕ). get m j) h.sends
          ∙ (ends.sent.each j lt ∙ ap (λ (n : ℕ). Some n) (sym clock));
    }
  where
    small_clock : (c m : ℕ) → c < m → m ≤ 65536 → c < 2 ^ 32
    small_clock c m h g = omega arith

    small_mark : (c : ℕ) → c < 2 → c < 2 ^ 32
    small_mark c h = omega arith

pub ran_pulse : (s : Setup) (b b' : State) (i : ℕ) → IsSetup s → HasRuleClock s → Sound s b → (p : Pulse s b b')
    → i < s.shape.nodes
    → IsTrue (node_at b'.nodes i).mark
    → RanClock s (setting_at s b.mail p.coins i) (node_at b.nodes i) (node_at b'.nodes i) (mail_from b'.mail i)
ran_pulse s b b' i ok own sound p lt marked =
    let within : i < length b.nodes = rw sound.nodes lt in
    node_ran s b.mail p.coins i (node_at b.nodes i) (node_at b'.nodes i) (mail_from b'.mail i) ok own
    (is_setting s b p.coins i ok sound p.is_open lt) (sound.memories i lt) (node_at b.nodes i).program
    (p.each i within).1 marked

-- what a node has and sent
node_left : (s : Setup) (mail : List (FinMap nat_cmp ℕ)) (coins : List ℕ) (i : ℕ) (x y : Node) (row : FinMap nat_cmp ℕ)
    → IsMemory s.shape x.memory
    → (o : Option Accepted) → MatchOption o (Rests x y row) (λ p. Runs s p (setting_at s mail coins i) x y row)
    → IsMemory s.shape y.memory × AreNumbers s.shape.nodes row
node_left s mail coins i x y row whole None h = (
  subst (IsMemory s.shape) (sym h.memory) whole,
  subst (AreNumbers s.shape.nodes) (sym h.sends) (no_numbers s.shape.nodes),
)
node_left s mail coins i x y row whole (Some p) h =
    let left = any_run_leaves p.program (setting_at s mail coins i) x.memory h.end whole.length whole.bytes h.run in
    let memory : IsMemory s.shape h.end.memory = record { length = left.memory; bytes = left.memory_bytes } in
    (subst (IsMemory s.shape) (sym h.memory) memory, subst (AreNumbers s.shape.nodes) (sym h.sends) left.sent)

pub sound_pulse : (s : Setup) (b b' : State) → IsSetup s → Sound s b → Pulse s b b' → Sound s b'
sound_pulse s b b' ok sound p =
    let within = λ (i : ℕ) (lt : i < s.shape.nodes). let w : i < length b.nodes = rw sound.nodes lt in w in
    let left = λ (i : ℕ) (lt : i < s.shape.nodes).
    node_left s b.mail p.coins i (node_at b.nodes i) (node_at b'.nodes i) (mail_from b'.mail i)
    (sound.memories i lt) (node_at b.nodes i).program (p.each i (within i lt)).1 in
    record {
      nodes = p.nodes ∙ sound.nodes;
      mail = p.mail ∙ sound.nodes;
      rows = λ i lt. (left i lt).1;
      memories = λ i lt. (left i lt).0;
      programs = λ i lt. subst (λ (o : Option Accepted). IfSome o (IsShaped s.shape)) (sym (p.each i (within i lt)).0)
          (sound.programs i lt);
      sent = λ own i lt marked. (
        clock_of (node_at b'.nodes i).memory,
        (ran_pulse s b b' i ok own sound p lt marked).sent,
      );
      staged = subst (λ cs. All (IsChange s.shape) cs) (sym p.staged) sound.staged;
      coins = subst (λ (o : Option (List ℕ)). IfSome o (AreCoins s.shape)) (sym p.over) tt;
    }

sound_step : (s : Setup) (b : State) (e : Entry) (b' : State) → IsSetup s → Sound s b → Step s b e b' → Sound s b'
sound_step s b (Staged actor change) b' ok sound h = subst (Sound s) (sym h.1) (sound_staged s b change h.0 sound)
sound_step s b (Opened coins) b' ok sound h = subst (Sound s) (sym h.2) (sound_opened s b coins h.0 sound)
sound_step s b (Closed row) b' ok sound h = sound_pulse s b b' ok sound h.0
sound_step s b Abandoned b' ok sound h = subst (Sound s) (sym h.1) (sound_abandoned s b sound)

pub sound_run : (s : Setup) (b : State) (es : List Entry) (b' : State) → IsSetup s → Sound s b → LeadsByEntries s b es b'
    → Sound s b'
sound_run s b [] b' ok sound h = subst (Sound s) (sym h) sound
sound_run s b (e ∷ es) b' ok sound h = sound_run s h.0 es b' ok (sound_step s b e h.0 ok sound h.1) h.2

pub sound_replay : (s : Setup) (history : List Entry) (b : State) → IsSetup s → LeadsByEntries s (new_state s) history b
    → Sound s b
sound_replay s history b ok h = sound_run s (new_state s) history b ok (sound_new s) h
