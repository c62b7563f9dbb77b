-- What is so of the runs from each input that is tried is so of all.
use Rattle.std.proofs.Common.{◌≡◌, ℕ, ◌^◌, ◌<◌, List, [], length, get_or, All, Contains, Option, unwrap_or, refl, sym, ap, ◌∙◌, subst}
use Rattle.std.specs.Ordering.{nat_cmp}
use Rattle.std.specs.FinMap.{FinMap, get}
use Rattle.node_env.specs.declared.env.TheConstants.{NO_MAIL}
use Rattle.node_env.specs.Env.{Extent, Setting, received}
use Rattle.node_env.specs.Slots.{map_of}
use Rattle.node_env.proofs.Slots.{get-map_of}
use Rattle.bpf_insn.specs.declared.forms.Insn.{Insn}
use Rattle.bounded_runs.specs.declared.ends.Ends.{Ends}
use Rattle.bounded_runs.specs.Bounded.{AllEndSo, AlikeFrom, AreAlikeMemories, Bound, EndsSo}
use Rattle.bounded_runs.specs.inner.Inputs.{env_with, rows_of}
use Rattle.bounded_runs.proofs.AlikeInputs.{ends_alike}
use Rattle.bounded_runs.proofs.AllRows.{at_row_for, row_for, row_listed, slot_alike, slot_at_plain}

-- of messages none is kept
abbrev pub bound_of_messages : Bound → Bound
bound_of_messages bound = record { number = bound.number; kept = [] }

-- the messages that represent those of a node are received alike
row_alike : (bound : Bound) (env : Setting) (nodes : ℕ) → bound.number < 2 ^ 32 → (j : ℕ) → j < nodes
    → AlikeFrom bound.number
    (unwrap_or (get (map_of (row_for (bound_of_messages bound) (received env) 0 nodes)) j) NO_MAIL) (received env j)
row_alike bound env nodes small j lt =
    let messages = bound_of_messages bound in
    let is = get-map_of (row_for messages (received env) 0 nodes) j
    ∙ (at_row_for messages (received env) nodes j lt ∙ slot_at_plain messages j (received env j) refl) in
    subst (λ (slot : Option ℕ). AlikeFrom bound.number (unwrap_or slot NO_MAIL) (received env j)) (sym is)
    (slot_alike bound.number (received env j) small)

-- each memory is alike one of these
abbrev pub AreAll : Bound → ℕ → List (List ℕ) → Type 0
AreAll bound memory memories = (m : List ℕ) → length m ≡ memory → All (λ byte. byte < 256) m
    → (n : ℕ) × (n < length memories) × AreAlikeMemories bound (get_or memories n []) m

pub bounded_by : (ends : Ends) (program : List Insn) (shape : Extent) (id : ℕ) (bound : Bound)
    (memories : List (List ℕ)) → bound.number < 2 ^ 32
    → AreAll bound shape.memory memories
    → ((row : List (Option ℕ)) (coin : ℕ) → Contains (rows_of (bound_of_messages bound) 0 shape.nodes) row → coin < 2
    → All (EndsSo ends program bound (env_with shape id row coin)) memories)
    → AllEndSo ends program shape id bound
bounded_by ends program shape id bound memories small all each env before ok shape_is id_is size bytes =
    let near = all before size bytes in
    let messages = bound_of_messages bound in
    let row = row_for messages (received env) 0 shape.nodes in
    let memory = get_or memories near.0 [] in
    let one : EndsSo ends program bound (env_with shape id row env.coin) memory =
    each row env.coin (row_listed messages (received env) 0 shape.nodes) ok.coin near.0 [] near.1 in
    ends_alike ends program bound (env_with shape id row env.coin) env memory before (record {
      shape = shape_is;
      id = id_is;
      coin = refl;
      messages = row_alike bound env shape.nodes small;
      memories = near.2;
    }) one

-- what `Env::new` makes
pub env_is : (env : Setting) (shape : Extent) (id : ℕ) (row : List (Option ℕ)) (coin : ℕ) → env.shape ≡ shape
    → env.id ≡ id → env.inbox ≡ map_of row → env.coin ≡ coin → env ≡ env_with shape id row coin
env_is env shape id row coin a b c d =
    ap (λ (x : Extent). record env { shape = x }) a
    ∙ (ap (λ (x : ℕ). record env { shape = shape; id = x }) b
    ∙ (ap (λ (x : FinMap nat_cmp ℕ). record env { shape = shape; id = id; inbox = x }) c
    ∙ ap (λ (x : ℕ). env_with shape id row x) d))
