use Rattle.std.proofs.Common.{◌≡◌, MatchOption, subst, sym, ◌∙◌, true≢false}
use Rattle.std.specs.Prelude.{Option}
use Rattle.toml.specs.View.{table_view}
use Rattle.bpf_verify.specs.Accepted.{Accepted}
use Rattle.clock_nodes.specs.Listings.{clock_listing}
use Rattle.clock_nodes.specs.Rule.{Rule}
use Rattle.scenario_text.specs.Spelling.{HasNoText, MeansClock, clock_rule_of}
use Rattle.scenario_text.proofs.ClockLemmas.{clock_is_own, clock_is_rules}
use Rattle.scenario_text.proofs.setup.clock_at.Goals as goal

pub returns-then-same-clause-clock : goal.returns-then-same-clause-clock
returns-then-same-clause-clock c =
    let f = c.args.frame in
    let ms = table_view c.args.table.now in
    let own = c.in-Some.own.program in
    let means : MeansClock f c.args.key ms own = subst (λ (o : Option Accepted). MatchOption o
    (HasNoText c.args.key ms) (λ v. MeansClock f c.args.key ms v.program)) c.in-Some.is c.in_ok-own.ensures.clock in
    let same : own ≡ clock_listing (clock_rule_of f) = subst (λ (r : Rule). own ≡ clock_listing r) c.requires.rule_is
    (c.in-Ok.ensures.0 c.if-same.true) in
    clock_is_rules f ms c.args.key own c.requires.key means same

pub returns-else-same-clause-clock : goal.returns-else-same-clause-clock
returns-else-same-clause-clock c =
    let f = c.args.frame in
    let ms = table_view c.args.table.now in
    let own = c.in-Some.own.program in
    let means : MeansClock f c.args.key ms own = subst (λ (o : Option Accepted). MatchOption o
    (HasNoText c.args.key ms) (λ v. MeansClock f c.args.key ms v.program)) c.in-Some.is c.in_ok-own.ensures.clock in
    let other : own ≡ clock_listing (clock_rule_of f) → ⊥ = λ same. true≢false (sym (c.in-Ok.ensures.1
    (subst (λ (r : Rule). own ≡ clock_listing r) (sym c.requires.rule_is) same)) ∙ c.if-same.false) in
    clock_is_own f ms c.args.key own c.requires.key means other
