use Rattle.std.proofs.Common.{◌≡◌, ◌≤◌, ℕ, List, sym, ap, subst, ◌∙◌, length}
use Rattle.node_env.specs.Env.{Setting, Sendings}
use Rattle.bpf_machine.specs.Run.{CompleteRun}
use Rattle.bpf_verify.specs.Accepted.{Accepted}
use Rattle.bench_core.specs.Tasks.{Task, Done, IsAlike}
use Rattle.bench_core.proofs.Alike.{same_end}
use Rattle.bench_core.proofs.task.NodeTask.done_as.Goals as goal

pub invariant_of-result : goal.invariant_of-result
invariant_of-result c =
    let t : Task = record {
      opening = c.self.inside.opening;
      node = c.self.inside.node;
      program = c.self.inside.program;
      setting = c.self.inside.env;
      memory = c.self.inside.before.items;
    } in
    let d : Done = record {
      task = record {
        opening = c.done.inside.opening;
        node = c.done.inside.node;
        program = c.done.inside.program;
        setting = c.done.inside.env;
        memory = c.done.inside.before.items;
      };
      end = record {
        steps = c.done.inside.steps;
        memory = c.done.inside.after.items;
        sent = c.done.inside.outbox.sent;
        r0 = c.done.inside.r0;
      };
    } in
    let mine : t ≡ c.args.self = c.self.view_is in
    let theirs : d ≡ c.args.done.now = c.done.view_is in
    let alike : IsAlike t d = subst (λ (x : Done). IsAlike t x) (sym theirs)
    (subst (λ (x : Task). IsAlike x c.args.done.now) (sym mine) c.requires) in
    let was = c.done.invariant in
    let run : CompleteRun t.program.program t.setting t.memory d.end = same_end t d alike was.2 in
    let after : c.copy_from_slice.new.self.items ≡ c.done.inside.after.items =
    c.copy_from_slice.ensures.items ∙ c.deref.ensures.value in
    let outbox : c.copy_from.new.self ≡ c.done.inside.outbox = c.copy_from.ensures in
    let before : c.done.inside.before.items ≡ c.self.inside.before.items = alike.memory in
    let setting : c.self.inside.env ≡ record c.done.inside.env { id = c.self.inside.env.id } = alike.setting in
    let program : c.done.inside.program ≡ c.self.inside.program = alike.program in (
      ap length after ∙ was.0 ∙ ap length before,
      ap (λ (o : Sendings). o.nodes) outbox ∙ was.1 ∙ ap (λ (s : Setting). s.shape.nodes) (sym setting),
      subst (λ (m : List ℕ). CompleteRun t.program.program t.setting t.memory (record {
        steps = c.done.inside.steps;
        memory = m;
        sent = c.copy_from.new.self.sent;
        r0 = c.done.inside.r0;
      })) (sym after)
          (subst (λ (o : Sendings). CompleteRun t.program.program t.setting t.memory (record {
            steps = c.done.inside.steps;
            memory = c.done.inside.after.items;
            sent = o.sent;
            r0 = c.done.inside.r0;
          })) (sym outbox) run),
      subst (λ (p : Accepted). c.done.inside.steps ≤ p.budget) program was.3,
    )

pub returns-clause-end : goal.returns-clause-end
returns-clause-end c = (invariant_of-result c).2
