-- The walk that keeps what is known at each slot.
use Rattle.std.proofs.Common.{◌≡◌, ◌≢◌, ℕ, ◌+◌, ◌≤◌, ◌<◌, List, true, Option, Some, None, refl, sym, ap, subst, ◌∙◌, inl, inr, arith}
use Rattle.std.specs.Prelude.{IsSome, IsSomeAnd, if◌then◌else◌}
use Rattle.std.proofs.lemmas.Bool.{cases_lt, cases_eq}
use borrow.Author.Tests.{ne_eqb, eq-eqb}
use Rattle.node_env.specs.Env.{Extent}
use Rattle.bpf_insn.specs.declared.forms.Insn.{Insn}
use Rattle.bpf_insn.specs.declared.edges.Way.TheVariants.{Jumping}
use Rattle.bpf_insn.specs.Encoding.{slots_taken}
use Rattle.bpf_insn.specs.Programs.{insn_at, slots_of}
use Rattle.bpf_insn.specs.Edges.{target}
use Rattle.bpf_verify.specs.States.{AbstractState, IsContainedIn, entry_state}
use Rattle.bpf_verify.specs.Rules.{KeepsRules, lowest_broken}
use Rattle.bpf_verify.specs.Outcomes.{outcome}
use Rattle.bpf_verify.specs.Typable.{Table, Types}
use Rattle.bpf_verify.specs.declared.rule.Rule.{Rule}
use Rattle.bpf_verify.specs.declared.rule.Rule.TheVariants.{NotForward}
use Rattle.bpf_verify.specs.Refusals.{IsRefusedAt}
use Rattle.bpf_verify.specs.inner.Walk.{come_of, WalkIsBefore, WalkIsAt, IsLeast, IsStop, met_state, with_row, with_met, sent_on, rows_after, front_after, Keeps, IsStep}
use Rattle.bpf_verify.specs.inner.Rows.{abstract_of}
use Rattle.bpf_verify.specs.declared.walk.Front.{Front}
use Rattle.bpf_verify.proofs.RuleLaws.{begins_within, jumps_forward}
use Rattle.bpf_verify.proofs.Walking.{next_table, table_before, table_later, table_next, goes_beyond, stands_on, least_on, entry_table, begins_stand, begins_least, types_passed, refused_here}

met_here : (rows : Table) (slot : ℕ) (come : Option AbstractState) (to : ℕ) → to ≡ slot
    → with_met rows slot come to ≡ met_state (rows slot) come
met_here rows slot come to e = rw (eq-eqb to slot e) refl

met_elsewhere : (rows : Table) (slot : ℕ) (come : Option AbstractState) (to : ℕ) → to ≢ slot
    → with_met rows slot come to ≡ rows to
met_elsewhere rows slot come to n = rw (ne_eqb to slot n) refl

-- ---- the first step

begun : (shape : Extent) (come : Option AbstractState) (rows : Table) → come ≡ Some (entry_state shape)
    → ((slot : ℕ) → rows slot ≡ None) → (slot : ℕ) → entry_table shape slot ≡ with_met rows 0 come slot
unfolding entry_table
begun shape come rows comes empty slot =
    elim (cases_eq slot 0) [
      | inl e ↦ rw (eq-eqb slot 0 e, empty 0) (sym comes)
      | inr n ↦ rw (ne_eqb slot 0 n) (sym (empty slot))
    ]

pub keeps_first : (program : List Insn) (shape : Extent) (come : Option AbstractState) (rows : Table)
    → come ≡ Some (entry_state shape) → ((slot : ℕ) → rows slot ≡ None) → Keeps program shape 0 come rows
keeps_first program shape come rows comes empty =
    let same : entry_table shape ≡ with_met rows 0 come = λ i. λ slot. begun shape come rows comes empty slot i in
    subst (λ table. WalkIsBefore program shape 0 come rows table × IsLeast program shape table) same
    (begins_stand program shape come rows comes empty, begins_least program shape)

-- ---- what is known at a slot is left there

pub settled : (program : List Insn) (shape : Extent) (slot : ℕ) (come state : Option AbstractState)
    (rows rows' : Table)
    → Keeps program shape slot come rows → state ≡ met_state (rows slot) come
    → ((other : ℕ) → rows' other ≡ with_row rows slot state other) → WalkIsAt program shape slot state rows'
settled program shape slot come state rows rows' keeps met left =
    let same : with_met rows slot come ≡ rows' =
    λ i. λ other. (sym (left other ∙ ap (λ row. with_row rows slot row other) met)) i in
    subst (WalkIsAt program shape slot state) same (record {
      passed = keeps.0.passed;
      here = keeps.0.here ∙ sym met;
      proper = keeps.0.proper;
      least = keeps.1;
    })

-- ---- the next slot

sent_below : (rows : Table) (slot to : ℕ) (goal : Option ℕ) (after : Option AbstractState) → to ≤ slot
    → ((at : ℕ) → goal ≡ Some at → slot < at) → sent_on rows goal after to ≡ rows to
sent_below rows slot to None after low ahead = refl
sent_below rows slot to (Some at) None low ahead = refl
sent_below rows slot to (Some at) (Some D) low ahead =
    let far = ahead at refl in
    rw (ne_eqb to at (λ e. absurd (omega (arith, e, low, far)))) refl

rows_below : (program : List Insn) (shape : Extent) (slot to : ℕ) (insn : Insn) (state : Option AbstractState)
    (rows : Table)
    → KeepsRules program shape slot insn state → to ≤ slot → rows_after shape insn slot state rows to ≡ rows to
rows_below program shape slot to insn None rows kept low = refl
rows_below program shape slot to insn (Some A) rows kept low =
    sent_below rows slot to (target insn slot Jumping) (outcome shape insn A Jumping) low
    (λ at. jumps_forward insn slot at (kept NotForward))

module _ (program : List Insn) (shape : Extent) (slot : ℕ) (insn : Insn) (state come : Option AbstractState)
    (rows rows' : Table)
    (here : insn_at program slot ≡ Some insn) (kept : KeepsRules program shape slot insn state)
    (stands : WalkIsAt program shape slot state rows)
    (sent : (to : ℕ) → rows' to ≡ rows_after shape insn slot state rows to)
    (goes : come ≡ front_after shape insn slot state) where
  abbrev next : ℕ
  next = slot + slots_taken insn

  beyond : slot < next
  beyond = goes_beyond program shape slot insn state rows rows rows' come here kept stands.passed stands.here
      (λ to later. refl) sent goes

  same : (to : ℕ) → next_table rows slot next come rows' to ≡ with_met rows' next come to
  same to =
      elim (cases_lt slot to) [
        | inr before ↦ table_before rows slot next come rows' to before
            ∙ sym (sent to ∙ rows_below program shape slot to insn state rows kept before)
            ∙ sym (met_elsewhere rows' next come to (λ e. absurd (omega (arith, e, before, beyond))))
        | inl later ↦ elim (cases_eq to next) [
          | inl e ↦ ap (next_table rows slot next come rows') e ∙ table_next rows slot next come rows' beyond
              ∙ sym (met_here rows' next come to e)
          | inr n ↦ table_later rows slot next come rows' to later n ∙ sym (met_elsewhere rows' next come to n)
        ]
      ]

  pub keeps_next : Keeps program shape (slot + slots_taken insn) come rows'
  keeps_next =
      let tables : next_table rows slot next come rows' ≡ with_met rows' next come = λ i. λ to. same to i in
      subst (λ table. WalkIsBefore program shape next come rows' table × IsLeast program shape table) tables (
        stands_on program shape slot insn state rows rows rows' come here kept stands.passed stands.here
            (λ to later. refl) sent goes stands.proper,
        least_on program shape slot insn state rows rows rows' come here kept stands.passed stands.here
            (λ to later. refl) sent goes stands.proper stands.least,
      )

pub keeps_step : (program : List Insn) (shape : Extent) (slot count : ℕ) (insn : Insn) (come : Option AbstractState)
    (rows : Table) (rule : Option Rule)
    → rule ≡ None → count ≡ slots_taken insn → IsStep program shape slot insn come rows rule
    → Keeps program shape (slot + count) come rows
keeps_step program shape slot count insn come rows None e taken step = rw taken step
keeps_step program shape slot count insn come rows (Some rule) e taken step = absurd cc

-- ---- a refusal

pub refused_at : (program : List Insn) (shape : Extent) (slot : ℕ) (insn : Insn) (state : Option AbstractState)
    (rows : Table) (rule : Rule)
    → insn_at program slot ≡ Some insn → WalkIsAt program shape slot state rows
    → lowest_broken program shape slot insn state ≡ Some rule
    → Types program shape slot rows × IsRefusedAt program shape rows slot rule
refused_at program shape slot insn state rows rule here stands broken = (
  types_passed program shape slot rows stands.passed stands.proper,
  record {
    first = refused_here program shape slot insn state rows rule here stands.passed stands.least stands.here
        stands.proper broken;
    covered = λ from i way A C before. stands.passed.edges from slot i way A C before;
    broken = (insn, here, ap (lowest_broken program shape slot insn) stands.here ∙ broken);
  },
)

-- ---- the end

-- a row that has a state in which this one is contained
abbrev Covered : AbstractState → Option AbstractState → Type 0
Covered A row = IsSomeAnd row (λ C. IsContainedIn A C)

-- what types the slots below the end does so by what it has there
types_alike : (program : List Insn) (shape : Extent) (end : ℕ) (table other : Table) → 0 < end
    → ((slot : ℕ) → slot < end → table slot ≡ other slot) → Types program shape end table
    → Types program shape end other
types_alike program shape end table other some same types =
    record {
      entry = subst (Covered (entry_state shape)) (same 0 some) types.entry;
      proper = λ slot insn A before found row. types.proper slot insn A before found (same slot before ∙ row);
      rules = λ slot insn before found. subst (KeepsRules program shape slot insn) (same slot before)
          (types.rules slot insn before found);
      edges = λ slot to insn way A C before within found row leads becomes. subst (Covered C) (same to within)
          (types.edges slot to insn way A C before within found (same slot before ∙ row) leads becomes);
    }

-- the walk is at the end where no instruction begins, and the rows type the program
pub keeps_done : (program : List Insn) (shape : Extent) (slot : ℕ) (come : Option AbstractState) (rows : Table)
    → IsSome (insn_at program 0) → Keeps program shape slot come rows → IsStop program slot
    → insn_at program slot ≡ None → Types program shape (slots_of program) rows
keeps_done program shape slot come rows first keeps (inl begins) none =
    absurd (apart (insn_at program slot) none begins)
  where
    apart : (o : Option Insn) → o ≡ None → IsSome o → ⊥
    apart None e some = absurd cc
    apart (Some i) e some = absurd cc
keeps_done program shape slot come rows first keeps (inr end) none =
    types_alike program shape (slots_of program) (with_met rows slot come) rows (begins_within program 0 first)
    (λ to within. met_elsewhere rows slot come to (λ e. absurd (omega (arith, e, end, within))))
    (subst (λ n. Types program shape n (with_met rows slot come)) end
    (types_passed program shape slot (with_met rows slot come) keeps.0.passed keeps.0.proper))

-- what keeps the rules by what comes does so by what is known
pub known_kept : (program : List Insn) (shape : Extent) (slot : ℕ) (insn : Insn) (front : Front)
    → front.reached ≡ true → KeepsRules program shape slot insn (come_of front)
    → KeepsRules program shape slot insn (Some (abstract_of front.known))
known_kept program shape slot insn front reached kept =
    subst (λ b. KeepsRules program shape slot insn (if b then Some (abstract_of front.known) else None)) reached kept
