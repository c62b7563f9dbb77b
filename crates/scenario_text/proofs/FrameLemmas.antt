-- A key holds one number at most.
use Rattle.std.proofs.Common.{◌≡◌, ◌≤◌, ℕ, arith, ◌-◌, ◌%◌, List, ap, sym, subst, ◌∙◌, inl, inr, Global}
use Rattle.std.specs.Prelude.{true, false, Bool, ◌==◌, if◌then◌else◌, pos, Option, Some, None, codes, MatchOption, IfErr, Result, Ok, Err}
use Rattle.toml.specs.Data.{Data, boolean, integer, Members}
use Rattle.bpf_insn.specs.declared.forms.Insn.{Insn}
use Rattle.scenario_text.specs.declared.scenario.Frame.{Frame}
use Rattle.scenario_text.specs.declared.refusal.ScenarioError.{ScenarioError}
use Rattle.scenario_text.specs.declared.refusal.ScenarioError.TheVariants as errors
use Rattle.scenario_text.specs.declared.refusal.Place.{Place}
use Rattle.scenario_text.specs.Faults.{Excludes, Refuses}
use Rattle.scenario_text.specs.inner.Faults.{IsOfSpelling}
use Rattle.scenario_text.specs.Drafts.{Draft}
use Rattle.scenario_text.specs.Tables.{HasNumber, MayBeArray, IsTable}
use Rattle.scenario_text.proofs.ClockLemmas.{one_clock}
use Rattle.scenario_text.specs.Spelling.{MayHaveFlag, HasVersion, HasFrame, SpellsClock, most_nodes, Spelled, SpellsNothing}
use Rattle.scenario_text.specs.declared.limits.TheConstants.{FIRST_VERSION, FIRST_MAX_NODES}
use Rattle.clock_nodes.specs.Rule.{IsRule}
use Rattle.node_env.specs.Env.{IsExtent}
use Rattle.node_env.specs.declared.shape.TheConstants.{MAX_NODES, MAX_MEMORY, MEMORY_UNIT}

abbrev number_held : Option Data → ℕ
number_held (Some (integer (pos n))) = n
number_held _ = 0

pub one_number : (ms : Members) (key : List ℕ) (low high low' high' a b : ℕ) → HasNumber ms key low high a
    → HasNumber ms key low' high' b → a ≡ b
one_number ms key low high low' high' a b first second = ap number_held (sym first.0 ∙ second.0)

nothing : {A : Type 0} {a : A} → None ≡ Some a → ⊥
nothing same = subst (λ o. MatchOption o (Unit {0}) (λ _. ⊥)) same tt

pub one_version : (ms : Members) (v w : ℕ) → HasVersion ms v → HasVersion ms w → v ≡ w
one_version ms v w (inl first) (inl second) = first.1 ∙ sym second.1
one_version ms v w (inl first) (inr second) = absurd (nothing (sym first.0 ∙ second.0))
one_version ms v w (inr first) (inl second) = absurd (nothing (sym second.0 ∙ first.0))
one_version ms v w (inr first) (inr second) = one_number ms (codes "version") _ _ _ _ v w first second

pub no_version : (ms : Members) → ((v : ℕ) → HasVersion ms v → ⊥) → (f : Frame) → HasFrame ms f → ⊥
no_version ms none f has = none f.version has.version

pub no_nodes : (ms : Members) (v : ℕ) → HasVersion ms v
    → ((n : ℕ) → HasNumber ms (codes "nodes") 1 (most_nodes v) n → ⊥)
    → (f : Frame) → HasFrame ms f → ⊥
no_nodes ms v version none f has =
    none f.nodes (subst (λ w. HasNumber ms (codes "nodes") 1 (most_nodes w) f.nodes)
    (one_version ms f.version v has.version version) has.nodes)

pub no_faults : (ms : Members) (n high : ℕ) → HasNumber ms (codes "nodes") 1 high n
    → ((x : ℕ) → HasNumber ms (codes "faults") 0 (n - 1) x → ⊥) → (f : Frame) → HasFrame ms f → ⊥
no_faults ms n high nodes none f has =
    none f.faults (subst (λ k. HasNumber ms (codes "faults") 0 (k - 1) f.faults)
    (one_number ms (codes "nodes") _ _ _ _ f.nodes n has.nodes nodes) has.faults)

pub no_units : (ms : Members) (memory : ℕ) → HasNumber ms (codes "memory") MEMORY_UNIT MAX_MEMORY memory
    → (memory % MEMORY_UNIT ≡ 0 → ⊥)
    → (f : Frame) → HasFrame ms f → ⊥
no_units ms memory held odd f has = odd (ap (λ m. m % MEMORY_UNIT)
    (one_number ms (codes "memory") _ _ _ _ memory f.memory held has.memory) ∙ has.units)

-- a key holds one flag at most
abbrev flag_held : Option Data → Bool
flag_held (Some (boolean flag)) = flag
flag_held _ = false

pub one_flag : (ms : Members) (key : List ℕ) (a b : Bool) → MayHaveFlag ms key a → MayHaveFlag ms key b → a ≡ b
one_flag ms key a b (inl first) (inl second) = first.1 ∙ sym second.1
one_flag ms key a b (inl first) (inr second) = absurd (nothing (sym first.0 ∙ second))
one_flag ms key a b (inr first) (inl second) = absurd (nothing (sym second.0 ∙ first))
one_flag ms key a b (inr first) (inr second) = ap flag_held (sym first ∙ second)

pub no_flag : (ms : Members) → ((flag : Bool) → MayHaveFlag ms (codes "zero_agrees") flag → ⊥) → (f : Frame)
    → HasFrame ms f → ⊥
no_flag ms none f has = none f.zero_agrees has.zero_agrees

-- a refusal for the spelling excludes what has no spelling
pub excludes : (e : ScenarioError) (none : Type 0) → IsOfSpelling e → none → Excludes e none
excludes errors.TooLong none is silent = is
excludes errors.NotToml none is silent = is
excludes (errors.UnknownKey place) none is silent = silent
excludes (errors.MissingKey place key) none is silent = silent
excludes (errors.WrongKind place key) none is silent = silent
excludes (errors.OutOfRange place key) none is silent = silent
excludes (errors.UnknownProgram load) none is silent = silent
excludes (errors.BadText place key error) none is silent = silent
excludes (errors.BadRule place key error) none is silent = silent
excludes (errors.NotAccepted place key slot rule) none is silent = is
excludes (errors.Memory _) none is silent = tt

-- what excludes less excludes more
pub excludes_more : (e : ScenarioError) (less more : Type 0) → (less → more) → Excludes e less → Excludes e more
excludes_more errors.TooLong less more leads excluded = excluded
excludes_more errors.NotToml less more leads excluded = excluded
excludes_more (errors.UnknownKey place) less more leads excluded = leads excluded
excludes_more (errors.MissingKey place key) less more leads excluded = leads excluded
excludes_more (errors.WrongKind place key) less more leads excluded = leads excluded
excludes_more (errors.OutOfRange place key) less more leads excluded = leads excluded
excludes_more (errors.UnknownProgram load) less more leads excluded = leads excluded
excludes_more (errors.BadText place key error) less more leads excluded = leads excluded
excludes_more (errors.BadRule place key error) less more leads excluded = leads excluded
excludes_more (errors.NotAccepted place key slot rule) less more leads excluded = excluded
excludes_more (errors.Memory _) less more leads excluded = tt

-- who accepts no program refuses for the spelling alone
pub refuses : (e : ScenarioError) (none : Type 0) (broken : Place → ℕ → Type 0) → Excludes e none
    → Refuses e none broken
refuses errors.TooLong none broken excluded = excluded
refuses errors.NotToml none broken excluded = excluded
refuses (errors.UnknownKey place) none broken excluded = excluded
refuses (errors.MissingKey place key) none broken excluded = excluded
refuses (errors.WrongKind place key) none broken excluded = excluded
refuses (errors.OutOfRange place key) none broken excluded = excluded
refuses (errors.UnknownProgram load) none broken excluded = excluded
refuses (errors.BadText place key error) none broken excluded = excluded
refuses (errors.BadRule place key error) none broken excluded = excluded
refuses (errors.NotAccepted place key slot rule) none broken excluded = absurd excluded
refuses (errors.Memory _) none broken excluded = tt

pub excluded_refuses : {A : Type 0} (r : Result A ScenarioError) (none : Type 0) (broken : Place → ℕ → Type 0)
    → IfErr r (λ e. Excludes e none) → IfErr r (λ e. Refuses e none broken)
excluded_refuses (Ok x) none broken excluded = tt
excluded_refuses (Err e) none broken excluded = refuses e none broken excluded

-- what refuses less refuses more
pub refuses_more : (e : ScenarioError) (less more : Type 0) (here there : Place → ℕ → Type 0) → (less → more)
    → ((p : Place) (slot : ℕ) → here p slot → there p slot) → Refuses e less here → Refuses e more there
refuses_more errors.TooLong less more here there leads moves refused = refused
refuses_more errors.NotToml less more here there leads moves refused = refused
refuses_more (errors.UnknownKey place) less more here there leads moves refused = leads refused
refuses_more (errors.MissingKey place key) less more here there leads moves refused = leads refused
refuses_more (errors.WrongKind place key) less more here there leads moves refused = leads refused
refuses_more (errors.OutOfRange place key) less more here there leads moves refused = leads refused
refuses_more (errors.UnknownProgram load) less more here there leads moves refused = leads refused
refuses_more (errors.BadText place key error) less more here there leads moves refused = leads refused
refuses_more (errors.BadRule place key error) less more here there leads moves refused = leads refused
refuses_more (errors.NotAccepted place key slot rule) less more here there leads moves refused =
    moves place slot refused
refuses_more (errors.Memory _) less more here there leads moves refused = tt

-- a table has one frame at most
pub one_frame : (ms : Members) (f g : Frame) → HasFrame ms f → HasFrame ms g → f ≡ g
one_frame ms f g a b = λ k. record {
  version = one_version ms f.version g.version a.version b.version k;
  nodes = one_number ms (codes "nodes") _ _ _ _ f.nodes g.nodes a.nodes b.nodes k;
  faults = one_number ms (codes "faults") _ _ _ _ f.faults g.faults a.faults b.faults k;
  modulus = one_number ms (codes "modulus") _ _ _ _ f.modulus g.modulus a.modulus b.modulus k;
  memory = one_number ms (codes "memory") _ _ _ _ f.memory g.memory a.memory b.memory k;
  pulses = one_number ms (codes "pulses") _ _ _ _ f.pulses g.pulses a.pulses b.pulses k;
  zero_agrees = one_flag ms (codes "zero_agrees") f.zero_agrees g.zero_agrees a.zero_agrees b.zero_agrees k;
}

-- what the frame and the clock that were read have no entries for has no spelling
pub no_entries : {A : Type 0} (g : Global) (reads : Frame → Option (List Insn) → Members → A → Type 0) (o : Option Data)
    (of : Draft → List A) (ms : Members) (f : Frame) (c : Option (List Insn)) → HasFrame ms f
    → SpellsClock f ms c
    → ((d : Draft) → Spelled ms d → MayBeArray (IsTable (reads d.frame d.clock)) o (of d))
    → ((xs : List A) → MayBeArray (IsTable (reads f c)) o xs → ⊥) → SpellsNothing ms
no_entries g reads o of ms f c has clock there none d spelled =
    let same = one_frame ms d.frame f spelled.frame has in
    let framed = subst (λ h. MayBeArray (IsTable (reads h d.clock)) o (of d)) same (there d spelled) in
    let mine = subst (λ h. SpellsClock h ms d.clock) same spelled.clock in
    none (of d) (subst (λ k. MayBeArray (IsTable (reads f k)) o (of d))
    (one_clock g f ms d.clock c mine clock) framed)

pub refused_more : {A : Type 0} (r : Result A ScenarioError) (less more : Type 0) → (less → more)
    → IfErr r (λ e. Excludes e less) → IfErr r (λ e. Excludes e more)
refused_more (Ok x) less more leads excluded = tt
refused_more (Err e) less more leads excluded = excludes_more e less more leads excluded

few_nodes : (version nodes : ℕ) → nodes ≤ most_nodes version → nodes ≤ MAX_NODES
few_nodes version nodes =
    elim (version == FIRST_VERSION) as (λ first. nodes ≤ (if first then FIRST_MAX_NODES else MAX_NODES)
    → nodes ≤ MAX_NODES) [ true ↦ λ few. omega arith | false ↦ λ few. few ]

-- the numbers of a frame make a shape, and a rule
pub frame_extent : (ms : Members) (f : Frame) → HasFrame ms f → IsExtent f.nodes f.memory
frame_extent ms f has = record {
  some = has.nodes.1;
  few = few_nodes f.version f.nodes has.nodes.2;
  least = has.memory.1;
  most = has.memory.2;
  units = has.units;
}

pub frame_rule : (ms : Members) (f : Frame) → HasFrame ms f → IsRule f.nodes f.faults f.modulus
frame_rule ms f has =
    let some = has.nodes.1 in
    let below = has.faults.2 in
    record {
      some = some;
      few = few_nodes f.version f.nodes has.nodes.2;
      allowed = omega arith;
      least = has.modulus.1;
      most = has.modulus.2;
    }
