use Rattle.std.proofs.Common.{◌≡◌, ◌∙◌, ◌<◌, ◌++◌, ◌∷◌, [], ℕ, List, Some, get_or, length, sym, ap, subst, arith}
use Rattle.std.specs.Prelude.{slice_get}
use Rattle.std.proofs.lemmas.List.{get_or_default}
use Rattle.std.proofs.lemmas.List.Elements.{All-push}
use Rattle.std.proofs.lemmas.Option.{slice_get_within, get_or_from_slice_get}
use Rattle.node_env.specs.Env.{Setting}
use Rattle.bpf_verify.specs.Accepted.{Accepted}
use Rattle.bench_core.specs.State.{Node, no_node, node_at, setting_at}
use Rattle.bench_core.specs.Tasks.{Task, Done, IsEnd}
use Rattle.bench_core.specs.declared.pulse.OpenPulse.{OpenPulse}
use Rattle.bench_core.specs.inner.OpenPulse.{HandedBy, setup_in, state_of_open}
use Rattle.bench_core.specs.inner.Served.{AreRuns, IsRunOf, SeesAlike}
use Rattle.bench_core.proofs.Closed.{ran_of}
use Rattle.bench_core.proofs.Closing.{task_for}
use Rattle.bench_core.proofs.Served.{alike_serves, handed_made, slice_last}
use Rattle.bench_core.proofs.runs.Runs.serve.Goals as goal

-- a slot's parts are those of its node
slot_of : (nodes : List Node) (i : ℕ) (x y : Node) → i < length nodes → y ≡ get_or nodes i x → y ≡ node_at nodes i
slot_of nodes i x y lt is = is ∙ get_or_default nodes i x no_node lt

-- a run of the node's input is a result of its task
task_of : (p : OpenPulse) (i : ℕ) (a : Accepted) (memory : List ℕ) (env : Setting) (d : Done)
    → memory ≡ (node_at p.nodes.now i).memory → env ≡ setting_at (setup_in p) p.mail.now p.coins.now i
    → IsRunOf p.opening a memory env d
    → d.task ≡ task_for (setup_in p) p.mail.now p.coins.now p.opening i (node_at p.nodes.now i).memory a
task_of p i a memory env d same sees ran =
    ran.task
    ∙ (ap (λ (e : Setting). record {
      opening = p.opening;
      node = e.id;
      program = a;
      setting = e;
      memory = memory;
    }) sees
    ∙ ap (λ (m : List ℕ). task_for (setup_in p) p.mail.now p.coins.now p.opening i m a) same)

pub returns-in-Some-place_alike-clause-served : goal.returns-in-Some-place_alike-clause-served
returns-in-Some-place_alike-clause-served c =
    let p = c.args.pulse.now in
    let dones = c.args.self.now.dones.items in
    let lt : c.args.node < length p.nodes.now = omega (arith, c.requires.node, c.requires.parts.count) in
    let slot = slot_of p.nodes.now c.args.node c.index-pulse-node.result (record {
      program = c.slot.inside.program;
      memory = c.slot.inside.memory.items;
      mark = c.slot.inside.mark;
    }) lt c.slot.view_is in
    let has : (node_at p.nodes.now c.args.node).program ≡ Some c.in-Some.program =
    sym (ap (λ (x : Node). x.program) slot) ∙ c.in-Some.is in
    let memory : c.as_slice-memory.result.now ≡ (node_at p.nodes.now c.args.node).memory =
    c.as_slice-memory.ensures.value ∙ ap (λ (x : Node). x.memory) slot in
    let place = c.in-Some-place_alike.place in
    let alike = c.in-Some-place_alike.ensures in
    let one = alike.0 in
    let at : slice_get dones place ≡ Some one = ap (λ (ds : List Done). slice_get ds place)
    (sym c.deref.ensures.value) ∙ alike.1 in
    let sees = subst (λ (m : List ℕ). SeesAlike c.args.firsts.now c.in-Some.program m c.in_ok-env.env one)
    memory alike.2 in
    let ran = subst (λ (d : Done). HandedBy p d.task × IsEnd d) (get_or_from_slice_get dones place one one at)
    (c.requires.runs place one (slice_get_within dones place one at)) in (
      one,
      at,
      alike_serves (setup_in p) (state_of_open p) p.coins.now p.opening c.args.node c.args.firsts.now
          c.in-Some.program c.in_ok-env.env one c.requires.parts.count c.requires.firsts c.requires.node has
          c.in_ok-env.ensures ran.0 ran.1 sees,
    )

pub returns-clause-runs : goal.returns-clause-runs
returns-clause-runs c =
    let p = c.args.pulse.now in
    let lt : c.args.node < length p.nodes.now = omega (arith, c.requires.node, c.requires.parts.count) in
    let slot = slot_of p.nodes.now c.args.node c.index-pulse-node.result (record {
      program = c.slot.inside.program;
      memory = c.slot.inside.memory.items;
      mark = c.slot.inside.mark;
    }) lt c.slot.view_is in
    let has : (node_at p.nodes.now c.args.node).program ≡ Some c.in-Some.program =
    sym (ap (λ (x : Node). x.program) slot) ∙ c.in-Some.is in
    let memory : c.as_slice-memory.result.now ≡ (node_at p.nodes.now c.args.node).memory =
    c.as_slice-memory.ensures.value ∙ ap (λ (x : Node). x.memory) slot in
    let made = c.in_ok-run.ensures in
    let d = made.0 in
    let task = task_of p c.args.node c.in-Some.program c.as_slice-memory.result.now c.in_ok-env.env d memory
    c.in_ok-env.ensures made.2 in
    let handed = handed_made (setup_in p) p.nodes.now p.mail.now p.coins.now p.opening c.args.node
    c.in-Some.program d.task c.requires.node has task in
    subst (AreRuns p) (sym made.1) (All-push (λ (d : Done). HandedBy p d.task × IsEnd d) c.args.self.now.dones.items
    d c.requires.runs (handed, made.2.ends))

pub returns-clause-served : goal.returns-clause-served
returns-clause-served c =
    let p = c.args.pulse.now in
    let dones = c.args.self.now.dones.items in
    let lt : c.args.node < length p.nodes.now = omega (arith, c.requires.node, c.requires.parts.count) in
    let slot = slot_of p.nodes.now c.args.node c.index-pulse-node.result (record {
      program = c.slot.inside.program;
      memory = c.slot.inside.memory.items;
      mark = c.slot.inside.mark;
    }) lt c.slot.view_is in
    let has : (node_at p.nodes.now c.args.node).program ≡ Some c.in-Some.program =
    sym (ap (λ (x : Node). x.program) slot) ∙ c.in-Some.is in
    let memory : c.as_slice-memory.result.now ≡ (node_at p.nodes.now c.args.node).memory =
    c.as_slice-memory.ensures.value ∙ ap (λ (x : Node). x.memory) slot in
    let made = c.in_ok-run.ensures in
    let d = made.0 in
    let task = task_of p c.args.node c.in-Some.program c.as_slice-memory.result.now c.in_ok-env.env d memory
    c.in_ok-env.ensures made.2 in
    let handed = handed_made (setup_in p) p.nodes.now p.mail.now p.coins.now p.opening c.args.node
    c.in-Some.program d.task c.requires.node has task in
    let at : slice_get c.run.new.self.dones.items c.len-place.result ≡ Some d =
    ap (λ (ds : List Done). slice_get ds c.len-place.result) made.1
    ∙ (ap (slice_get (dones ++ d ∷ [])) (c.len-place.ensures ∙ c.args.self.now.dones.ok.0) ∙ slice_last dones d) in (
      d,
      at,
      ran_of (setup_in p) (state_of_open p) p.coins.now p.opening c.args.node d handed
          (ap (λ (t : Task). t.node) task) made.2.ends,
    )
