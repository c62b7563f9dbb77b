-- Where each program that a history loads is accepted, so is each that a node has.
use Rattle.std.proofs.Common.{◌≡◌, ℕ, ◌<◌, List, [], ◌∷◌, length, Option, Some, IfSome, All, sym, subst, arith, inl, inr}
use Rattle.std.proofs.lemmas.Bool.{cases_lt}
use Rattle.std.proofs.lemmas.List.{get_or_past}
use Rattle.std.proofs.lemmas.List.Elements.{All-nil, All-head, All-tail, All-push, All-set, All-replicate, All-get_or, All-from_get_or}
use Rattle.bpf_verify.specs.Accepted.{Accepted, IsVerified}
use Rattle.bench_core.specs.Setup.{Setup}
use Rattle.bench_core.specs.State.{Node, Change, Load, Unload, Corrupt, State, no_node, node_at, new_node, new_state, applied, all_applied}
use Rattle.bench_core.specs.Pulse.{Pulse}
use Rattle.bench_core.specs.Replay.{Entry, Staged, Opened, Closed, Abandoned, LoadsAccepted, StagesAccepted, Step, LeadsByEntries, Replays}

abbrev RunsAccepted : Node → Type 0
RunsAccepted x = IfSome x.program IsVerified

pub record HasAccepted (b : State) : Type 0 where
  pub nodes : All RunsAccepted b.nodes
  pub staged : All LoadsAccepted b.staged

accepted_new : (s : Setup) → HasAccepted (new_state s)
accepted_new s = record {
  nodes = All-replicate RunsAccepted s.shape.nodes (new_node s) tt;
  staged = All-nil LoadsAccepted;
}

-- also past the last node
accepted_at : (nodes : List Node) (i : ℕ) → All RunsAccepted nodes → RunsAccepted (node_at nodes i)
accepted_at nodes i all =
    elim (cases_lt i (length nodes)) [
      | inl lt ↦ All-get_or RunsAccepted nodes i no_node lt all
      | inr past ↦ subst RunsAccepted (sym (get_or_past nodes i no_node past)) tt
    ]

accepted_applied : (c : Change) (nodes : List Node) → LoadsAccepted c → All RunsAccepted nodes
    → All RunsAccepted (applied nodes c)
accepted_applied (Load i p) nodes is all = All-set RunsAccepted nodes i _ is all
accepted_applied (Unload i) nodes is all = All-set RunsAccepted nodes i _ tt all
accepted_applied (Corrupt i image) nodes is all = All-set RunsAccepted nodes i _ (accepted_at nodes i all) all

accepted_all : (cs : List Change) (nodes : List Node) → All LoadsAccepted cs → All RunsAccepted nodes
    → All RunsAccepted (all_applied nodes cs)
accepted_all [] nodes are all = all
accepted_all (c ∷ cs) nodes are all =
    accepted_all cs (applied nodes c) (All-tail LoadsAccepted c cs are)
    (accepted_applied c nodes (All-head LoadsAccepted c cs are) all)

-- programs stay at a close
accepted_pulse : (s : Setup) (b b' : State) → Pulse s b b' → HasAccepted b → HasAccepted b'
accepted_pulse s b b' p has = record {
  nodes = All-from_get_or RunsAccepted b'.nodes no_node
      (λ i lt. let within : i < length b.nodes = omega (arith, lt, p.nodes) in
      subst (λ (o : Option Accepted). IfSome o IsVerified) (sym (p.each i within).0) (accepted_at b.nodes i has.nodes));
  staged = subst (λ (cs : List Change). All LoadsAccepted cs) (sym p.staged) has.staged;
}

accepted_step : (s : Setup) (b : State) (e : Entry) (b' : State) → StagesAccepted e → HasAccepted b → Step s b e b'
    → HasAccepted b'
accepted_step s b (Staged actor change) b' is has h =
    subst HasAccepted (sym h.1)
    (record { nodes = has.nodes; staged = All-push LoadsAccepted b.staged change has.staged is })
accepted_step s b (Opened coins) b' is has h =
    subst HasAccepted (sym h.2)
    (record { nodes = accepted_all b.staged b.nodes has.staged has.nodes; staged = All-nil LoadsAccepted })
accepted_step s b (Closed row) b' is has h = accepted_pulse s b b' h.0 has
accepted_step s b Abandoned b' is has h =
    subst HasAccepted (sym h.1) (record { nodes = has.nodes; staged = has.staged })

accepted_run : (s : Setup) (b : State) (es : List Entry) (b' : State) → All StagesAccepted es → HasAccepted b
    → LeadsByEntries s b es b' → HasAccepted b'
accepted_run s b [] b' are has h = subst HasAccepted (sym h) has
accepted_run s b (e ∷ es) b' are has h =
    accepted_run s h.0 es b' (All-tail StagesAccepted e es are)
    (accepted_step s b e h.0 (All-head StagesAccepted e es are) has h.1) h.2

pub accepted_replay : (s : Setup) (history : List Entry) (b : State) → All StagesAccepted history
    → Replays s history b → HasAccepted b
accepted_replay s history b are h = accepted_run s (new_state s) history b are (accepted_new s) h

pub program_is : (b : State) (i : ℕ) (p : Accepted) → HasAccepted b → (node_at b.nodes i).program ≡ Some p
    → IsVerified p
program_is b i p has loaded =
    subst (λ (o : Option Accepted). IfSome o IsVerified) loaded (accepted_at b.nodes i has.nodes)
