use Rattle.std.proofs.Common.{rules, ◌≡◌, ℕ, List, refl, subst, sym}
use Rattle.std.specs.Prelude.{codes}
use Rattle.bpf_insn.specs.declared.forms.Insn.{Insn}
use Rattle.toml.specs.View.{table_view}
use Rattle.scenario_text.specs.declared.refusal.Place.{Place}
use Rattle.scenario_text.specs.declared.refusal.Place.TheVariants as places
use Rattle.scenario_text.specs.declared.scenario.Kind.{Kind}
use Rattle.scenario_text.specs.declared.scenario.Kind.TheVariants.{Asm}
use Rattle.scenario_text.specs.Drafts.{LoadDraft}
use Rattle.scenario_text.specs.Broken.{BrokenLoad, BrokenText}
use Rattle.scenario_text.specs.inner.Setups.{own_clock}
use Rattle.scenario_text.specs.Spelling.{OffersKind, IsProgramOf, SpelledLoad, kind_name, load_text}
use Rattle.scenario_text.specs.Tables.{HasText}
use Rattle.scenario_text.specs.Views.{extent_of}
use Rattle.scenario_text.proofs.FrameLemmas.{refuses_more}
use Rattle.scenario_text.proofs.NameLemmas.{one_kind}
use Rattle.scenario_text.proofs.loads.LoadEntry.read.Goals as goal

-- all of the load was read, but its program
pub returns-in_err-program-clause-refused : goal.returns-in_err-program-clause-refused
returns-in_err-program-clause-refused c =
    let f = c.args.setup.now.frame in
    let clock = own_clock c.args.setup.now in
    let ms = table_view c.args.table.now in
    let kind = c.in_ok-kind.kind in
    let named : HasText ms (codes "program") (kind_name kind) = search rules in
    let has : OffersKind f.version kind = search rules in
    let draft : List Insn → LoadDraft = λ program. record {
      pulse = c.in_ok-pulse.pulse;
      nodes = c.in_ok-nodes.nodes.items;
      kind = kind;
      text = load_text kind ms;
      program = program;
    } in
    let spelled : (program : List Insn) → IsProgramOf f clock kind ms program → SpelledLoad f clock ms (draft program) =
    λ program is. record {
      pulse = search rules;
      nodes = search rules;
      named = named;
      kind = has;
      known = search rules;
      text = refl;
      program = is;
    } in
    let none : Type 0 = (program : List Insn) → IsProgramOf f clock kind ms program → ⊥ in
    let no_load : Type 0 = (load : LoadDraft) → SpelledLoad f clock ms load → ⊥ in
    let here : Place → ℕ → Type 0 = λ p slot. (p ≡ places.Load c.args.index) × (kind ≡ Asm)
    × BrokenText ms (codes "text") (extent_of f) slot in
    let there : Place → ℕ → Type 0 = λ p slot. (p ≡ places.Load c.args.index) × BrokenLoad f clock ms slot in
    let leads : none → no_load = λ silent load is. silent load.program
    (subst (λ (k : Kind). IsProgramOf f clock k ms load.program)
    (one_kind ms load.kind kind is.named named) is.program) in
    let all = refuses_more c.in_err-program.field-0.0 none no_load here there leads
    (λ p slot is. (
      is.0,
      record {
        load = draft is.2.program;
        spelled = spelled is.2.program
            (subst (λ (k : Kind). IsProgramOf f clock k ms is.2.program) (sym is.1) is.2.means);
        named = subst (λ (k : Kind). HasText ms (codes "program") (kind_name k)) is.1 named;
        broken = is.2.broken;
      },
    )) c.in_err-program.ensures.refused in
    search (rules, all)
