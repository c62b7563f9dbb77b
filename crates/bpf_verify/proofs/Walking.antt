-- One step of the walk over the slots.
use Rattle.std.proofs.Common.{◌≡◌, ◌≢◌, ℕ, suc, ◌+◌, ◌≤◌, ◌<◌, Bool, true, false, ◌==◌, List, Option, Some, None, refl, sym, ap, subst, ◌∙◌, inl, inr, ◌⊎◌, arith}
use Rattle.std.specs.Prelude.{IsSome, IsSomeAnd, nat_le, if◌then◌else◌, Result, Ok, Err, OnOk, IfErr}
use Rattle.std.proofs.lemmas.Bool.{cases_lt, cases_eq, le-leb, lt-leb}
use Rattle.std.proofs.lemmas.Option.{same_Some}
use borrow.Author.Tests.{ne_eqb, eq-eqb}
use Rattle.node_env.specs.Env.{Extent}
use Rattle.bpf_insn.specs.declared.forms.Insn.{Insn}
use Rattle.bpf_insn.specs.declared.edges.Way.{Way}
use Rattle.bpf_insn.specs.declared.edges.Way.TheVariants.{Onward, Jumping}
use Rattle.bpf_insn.specs.Encoding.{slots_taken}
use Rattle.bpf_insn.specs.Programs.{insn_at, slots_of}
use Rattle.bpf_insn.specs.Edges.{target}
use Rattle.bpf_insn.proofs.LayoutLaws.{one_or_two, none_inside, next_stop}
use Rattle.bpf_verify.specs.States.{AbstractState, IsContainedIn, IsProper, joined_state, entry_state}
use Rattle.bpf_verify.specs.Rules.{KeepsRules, lowest_broken}
use Rattle.bpf_verify.specs.Outcomes.{outcome}
use Rattle.bpf_verify.specs.Typable.{Table, IsCovered, Types, Typable}
use Rattle.bpf_verify.specs.inner.Walk.{Passed, IsProperRow, WalkIsBefore, come_of, RefusesInsn, met_state, with_come, sent_on, come_after, rows_after, front_after, IsLeast, IsStop, Walks}
use Rattle.bpf_verify.specs.declared.rule.Rule.{Rule}
use Rattle.bpf_verify.specs.declared.rule.Rule.TheVariants.{NotForward}
use Rattle.bpf_verify.specs.Accepted.{IsFirstBroken, IsRefusal}
use Rattle.bpf_verify.specs.declared.refusal.VerifyError.{VerifyError}
use Rattle.bpf_verify.specs.declared.refusal.VerifyError.TheVariants as error
use Rattle.bpf_verify.specs.declared.walk.Front.{Front}
use Rattle.bpf_verify.proofs.RuleLaws.{jumps_forward, onward_next, none_broken, here_within}
use Rattle.bpf_verify.proofs.RulesGrow.{rules_grow, rules_unreached}
use Rattle.bpf_verify.proofs.OutcomesGrow.{outcome_grows}
use Rattle.bpf_verify.proofs.ProperLaws.{joined_proper, outcome_proper, entry_proper}
use Rattle.bpf_verify.proofs.StateLaws.{contained_in_itself, contained_further, joined_first, joined_second, joined_within}

-- ---- what covers a state

abbrev Covers : Option AbstractState → AbstractState → Type 0
Covers row A = IsSomeAnd row (λ C. IsContainedIn A C)

covers_first : (row come : Option AbstractState) (A : AbstractState) → Covers row A → Covers (met_state row come) A
covers_first None come A h = absurd h
covers_first (Some B) None A h = h
covers_first (Some B) (Some C) A h = contained_further A B (joined_state B C) h (joined_first B C)

covers_second : (row come : Option AbstractState) (A : AbstractState) → Covers come A → Covers (met_state row come) A
covers_second None come A h = h
covers_second (Some B) None A h = absurd h
covers_second (Some B) (Some C) A h = contained_further A C (joined_state B C) h (joined_second B C)

come_grows : (rows : Table) (at to : ℕ) (D A : AbstractState) → Covers (rows to) A → Covers (with_come rows at D to) A
come_grows rows at to D A h =
    elim (cases_eq to at) [
      | inl e ↦ rw (eq-eqb to at e) (covers_first (rows at) (Some D) A (subst (λ k. Covers (rows k) A) e h))
      | inr n ↦ rw (ne_eqb to at n) h
    ]

come_covers : (rows : Table) (to : ℕ) (D : AbstractState) → Covers (with_come rows to D to) D
come_covers rows to D = rw (eq-eqb to to refl) (covers_second (rows to) (Some D) D (contained_in_itself D))

sent_grows : (rows : Table) (goal : Option ℕ) (after : Option AbstractState) (to : ℕ) (A : AbstractState)
    → Covers (rows to) A → Covers (sent_on rows goal after to) A
sent_grows rows None after to A h = h
sent_grows rows (Some at) None to A h = h
sent_grows rows (Some at) (Some D) to A h = come_grows rows at to D A h

rows_grow : (shape : Extent) (insn : Insn) (slot : ℕ) (state : Option AbstractState) (rows : Table) (to : ℕ)
    (A : AbstractState)
    → Covers (rows to) A → Covers (rows_after shape insn slot state rows to) A
rows_grow shape insn slot None rows to A h = h
rows_grow shape insn slot (Some B) rows to A h = sent_grows rows (target insn slot Jumping)
    (outcome shape insn B Jumping) to A h

-- ---- ranges with members

met_proper : (row come : Option AbstractState) → IsProperRow row → IsProperRow come → IsProperRow (met_state row come)
met_proper None come p q = q
met_proper (Some A) None p q = p
met_proper (Some A) (Some C) p q = joined_proper A C p q

come_proper : (rows : Table) (at to : ℕ) (D : AbstractState) → IsProperRow (rows to) → IsProper D
    → IsProperRow (with_come rows at D to)
come_proper rows at to D p q =
    elim (cases_eq to at) [
      | inl e ↦ rw (eq-eqb to at e) (met_proper (rows at) (Some D) (subst (λ k. IsProperRow (rows k)) e p) q)
      | inr n ↦ rw (ne_eqb to at n) p
    ]

sent_proper : (rows : Table) (goal : Option ℕ) (after : Option AbstractState) (to : ℕ) → IsProperRow (rows to)
    → IsProperRow after → IsProperRow (sent_on rows goal after to)
sent_proper rows None after to p q = p
sent_proper rows (Some at) None to p q = p
sent_proper rows (Some at) (Some D) to p q = come_proper rows at to D p q

rows_proper : (shape : Extent) (insn : Insn) (slot : ℕ) (state : Option AbstractState) (rows : Table) (to : ℕ)
    → IsProperRow (rows to) → IsProperRow state → IsProperRow (rows_after shape insn slot state rows to)
rows_proper shape insn slot None rows to p q = p
rows_proper shape insn slot (Some A) rows to p q =
    sent_proper rows (target insn slot Jumping) (outcome shape insn A Jumping) to p
    (outcome_proper shape Jumping A q insn)

front_proper : (shape : Extent) (insn : Insn) (slot : ℕ) (state : Option AbstractState) → IsProperRow state
    → IsProperRow (front_after shape insn slot state)
front_proper shape insn slot None p = tt
front_proper shape insn slot (Some A) p = by (target insn slot Onward) (outcome shape insn A Onward)
    (outcome_proper shape Onward A p insn)
  where
    by : (goal : Option ℕ) (after : Option AbstractState) → IsProperRow after → IsProperRow (come_after goal after)
    by None after q = tt
    by (Some to) after q = q

-- ---- what is within what another table says

covers_joined : (row : Option AbstractState) (B C : AbstractState) → Covers row B → Covers row C
    → Covers row (joined_state B C)
covers_joined None B C p q = absurd p
covers_joined (Some E) B C p q = joined_within B C E p q

covers_further : (row : Option AbstractState) (B C : AbstractState) → IsContainedIn B C → Covers row C → Covers row B
covers_further None B C p q = absurd q
covers_further (Some E) B C p q = contained_further B C E p q

-- each state of a row is covered
abbrev IsWithin : Option AbstractState → Option AbstractState → Type 0
IsWithin row bound = (A : AbstractState) → row ≡ Some A → Covers bound A

within_met : (row come bound : Option AbstractState) → IsWithin row bound → IsWithin come bound
    → IsWithin (met_state row come) bound
within_met None come bound p q A e = q A e
within_met (Some B) None bound p q A e = p A e
within_met (Some B) (Some C) bound p q A e =
    subst (Covers bound) (same_Some (joined_state B C) A e) (covers_joined bound B C (p B refl) (q C refl))

-- ---- the table after an instruction

-- what it was up to the slot, and after it what comes by jumps and, at the next instruction, from this one
abbrev pub next_table : Table → ℕ → ℕ → Option AbstractState → Table → Table
next_table table slot next come rows to = if nat_le to slot then table to else
    (if to == next then met_state (rows to) come else rows to)

pub table_before : (table : Table) (slot next : ℕ) (come : Option AbstractState) (rows : Table) (to : ℕ) → to ≤ slot
    → next_table table slot next come rows to ≡ table to
table_before table slot next come rows to h = rw (le-leb to slot h) refl

pub table_later : (table : Table) (slot next : ℕ) (come : Option AbstractState) (rows : Table) (to : ℕ) → slot < to
    → to ≢ next → next_table table slot next come rows to ≡ rows to
table_later table slot next come rows to h n = rw (lt-leb to slot h, ne_eqb to next n) refl

pub table_next : (table : Table) (slot next : ℕ) (come : Option AbstractState) (rows : Table) → slot < next
    → next_table table slot next come rows next ≡ met_state (rows next) come
table_next table slot next come rows h = rw (lt-leb next slot h, eq-eqb next next refl) refl

-- what a later row covers, the table covers
later_covers : (table : Table) (slot next : ℕ) (come : Option AbstractState) (rows : Table) (to : ℕ)
    (A : AbstractState) → slot < to → Covers (rows to) A → Covers (next_table table slot next come rows to) A
later_covers table slot next come rows to A h covers =
    elim (cases_eq to next) [
      | inl e ↦ rw (lt-leb to slot h, eq-eqb to next e) (covers_first (rows to) come A covers)
      | inr n ↦ rw (lt-leb to slot h, ne_eqb to next n) covers
    ]

-- ---- one step of the walk

module _ (program : List Insn) (shape : Extent) (slot : ℕ) (insn : Insn) (state : Option AbstractState)
    (table rows rows' : Table) (come' : Option AbstractState)
    (here : insn_at program slot ≡ Some insn) (kept : KeepsRules program shape slot insn state)
    (passed : Passed program shape slot table)
    (is : table slot ≡ state) (ahead : (to : ℕ) → slot < to → table to ≡ rows to)
    (sent : (to : ℕ) → rows' to ≡ rows_after shape insn slot state rows to)
    (goes : come' ≡ front_after shape insn slot state) where
  abbrev next : ℕ
  next = slot + slots_taken insn

  abbrev after : Table
  after = next_table table slot next come' rows'

  beyond : slot < next
  beyond = elim (one_or_two insn) [ inl one ↦ omega (arith, one) | inr two ↦ omega (arith, two) ]

  -- nothing that was covered is lost
  still : (to : ℕ) (A : AbstractState) → IsCovered table A to → IsCovered after A to
  still to A covered =
      elim (cases_lt slot to) [
        | inl later ↦
            later_covers table slot next come' rows' to A later
            (subst (λ row. Covers row A) (sym (sent to))
            (rows_grow shape insn slot state rows to A (subst (λ row. Covers row A) (ahead to later) covered)))
        | inr before ↦ subst (λ row. Covers row A) (sym (table_before table slot next come' rows' to before)) covered
      ]

  rules : (at : ℕ) (i : Insn) → at < next → insn_at program at ≡ Some i → KeepsRules program shape at i (after at)
  rules at i within e =
      elim (cases_lt at slot) [
        | inl before ↦ subst (KeepsRules program shape at i)
            (sym (table_before table slot next come' rows' at (omega arith))) (passed.rules at i before e)
        | inr from ↦
            elim (cases_eq at slot) [
              | inl same ↦ same_slot same
              | inr other ↦ absurd (none (sym (none_inside program slot at insn here (omega arith) within) ∙ e))
            ]
      ]
    where
      none : ◌≡◌ {A = Option Insn} None (Some i) → ⊥
      none f = absurd cc

      same_slot : at ≡ slot → KeepsRules program shape at i (after at)
      same_slot same =
          let found : insn ≡ i = same_Some insn i (sym here ∙ ap (insn_at program) (sym same) ∙ e) in
          let row : after at ≡ state = table_before table slot next come' rows' at (omega arith) ∙ ap table same ∙ is in
          rw (row, same, sym found) kept

  edges : (at to : ℕ) (i : Insn) (way : Way) (A C : AbstractState) → at < next → insn_at program at ≡ Some i
      → after at ≡ Some A → target i at way ≡ Some to → outcome shape i A way ≡ Some C → IsCovered after C to
  edges at to i way A C within e row leads becomes =
      elim (cases_lt at slot) [
        | inl before ↦
            still to C (passed.edges at to i way A C before e
            (sym (table_before table slot next come' rows' at (omega arith)) ∙ row) leads becomes)
        | inr from ↦
            elim (cases_eq at slot) [
              | inl same ↦
                  let found : i ≡ insn = same_Some i insn (sym e ∙ ap (insn_at program) same ∙ here) in
                  let known : state ≡ Some A = sym is ∙ ap table (sym same)
                  ∙ sym (table_before table slot next come' rows' at (omega arith)) ∙ row in
                  this way (ap (λ n. target insn n way) (sym same) ∙ ap (λ n. target n at way) (sym found) ∙ leads)
                  (ap (λ n. outcome shape n A way) (sym found) ∙ becomes) known
              | inr other ↦ absurd (none (sym (none_inside program slot at insn here (omega arith) within) ∙ e))
            ]
      ]
    where
      none : ◌≡◌ {A = Option Insn} None (Some i) → ⊥
      none f = absurd cc

      this : (w : Way) → target insn slot w ≡ Some to → outcome shape insn A w ≡ Some C → state ≡ Some A
          → IsCovered after C to
      this Jumping t o k =
          later_covers table slot next come' rows' to C (jumps_forward insn slot to (kept NotForward) t)
          (subst (λ row. Covers row C) (sym (sent to ∙ ap (λ s. rows_after shape insn slot s rows to) k
          ∙ ap (λ g. sent_on rows g (outcome shape insn A Jumping) to) t
          ∙ ap (λ a. sent_on rows (Some to) a to) o)) (come_covers rows to C))
      this Onward t o k =
          let to_next : to ≡ next = onward_next insn slot to t in
          let comes : come' ≡ Some C = goes ∙ ap (front_after shape insn slot) k
          ∙ ap (λ g. come_after g (outcome shape insn A Onward)) t ∙ o in
          rw (to_next, table_next table slot next come' rows' beyond, comes)
          (covers_second (rows' next) (Some C) C (contained_in_itself C))

  -- what goes a way is within what any table says that types the slot and where the way leads
  way_within : (end : ℕ) (other : Table) → Types program shape end other → slot < end → (B D : AbstractState)
      → state ≡ Some B → IsProper B → IsLeast program shape table
      → (way : Way) (to : ℕ) → to < end → target insn slot way ≡ Some to → outcome shape insn B way ≡ Some D
      → IsCovered other D to
  way_within end other types low B D known proper least way to within t o = by (other slot) refl
      (least end other types slot B low (is ∙ known))
    where
      by : (row : Option AbstractState) → other slot ≡ row → Covers row B → IsCovered other D to
      by None e covered = absurd covered
      by (Some C) e covered =
          let kept_there : KeepsRules program shape slot insn (Some C) = subst (KeepsRules program shape slot insn) e
          (types.rules slot insn low here) in
          on (outcome shape insn C way) refl (outcome_grows program shape slot way B C D proper covered insn kept_there
          o)
        where
          on : (result : Option AbstractState) → outcome shape insn C way ≡ result → Covers result D
              → IsCovered other D to
          on None f c = absurd c
          on (Some E) f c = covers_further (other to) D E c (types.edges slot to insn way C E low within here e t f)

  still_least : IsProperRow state → IsLeast program shape table → IsLeast program shape after
  still_least proper least end other types to A within e =
      elim (cases_lt slot to) [
        | inr before ↦ least end other types to A within (sym (table_before table slot next come' rows' to before) ∙ e)
        | inl later ↦ after_row (cases_eq to next) later
      ]
    where
      waiting : slot < to → IsWithin (rows to) (other to)
      waiting later B f = least end other types to B within (ahead to later ∙ f)

      jumped : (known : Option AbstractState) → state ≡ known → IsProperRow known → slot < to
          → IsWithin (rows_after shape insn slot known rows to) (other to)
      jumped None k p later = waiting later
      jumped (Some B) k p later = sent_there (target insn slot Jumping) (outcome shape insn B Jumping) refl refl
        where
          sent_there : (goal : Option ℕ) (result : Option AbstractState) → target insn slot Jumping ≡ goal
              → outcome shape insn B Jumping ≡ result → IsWithin (sent_on rows goal result to) (other to)
          sent_there None result t o = waiting later
          sent_there (Some at) None t o = waiting later
          sent_there (Some at) (Some D) t o = come_there (cases_eq to at)
            where
              come_there : (to ≡ at) ⊎ (to ≢ at) → IsWithin (with_come rows at D to) (other to)
              come_there (inr n) = rw (ne_eqb to at n) (waiting later)
              come_there (inl f) =
                  rw (eq-eqb to at f) (within_met (rows at) (Some D) (other to)
                  (subst (λ n. IsWithin (rows n) (other to)) f (waiting later))
                  (λ E g. subst (Covers (other to)) (same_Some D E g)
                  (way_within end other types (omega arith) B D k p least Jumping to within
                  (t ∙ ap (λ n. Some n) (sym f)) o)))

      come : (known : Option AbstractState) → state ≡ known → IsProperRow known → slot < to → to ≡ next
          → IsWithin come' (other to)
      come None k p later ends D g = absurd (none (sym (goes ∙ ap (front_after shape insn slot) k) ∙ g))
        where
          none : ◌≡◌ {A = Option AbstractState} None (Some D) → ⊥
          none f = absurd cc
      come (Some B) k p later ends D g = gone (target insn slot Onward) refl
          (sym (goes ∙ ap (front_after shape insn slot) k) ∙ g)
        where
          gone : (goal : Option ℕ) → target insn slot Onward ≡ goal
              → come_after goal (outcome shape insn B Onward) ≡ Some D → IsCovered other D to
          gone None t f = absurd cc
          gone (Some at) t f =
              way_within end other types (omega arith) B D k p least Onward to within
              (t ∙ ap (λ n. Some n) (onward_next insn slot at t ∙ sym ends)) f

      after_row : (to ≡ next) ⊎ (to ≢ next) → slot < to → IsCovered other A to
      after_row (inr n) later = subst (λ row. IsWithin row (other to)) (sym (sent to))
          (jumped state refl proper later) A (sym (table_later table slot next come' rows' to later n) ∙ e)
      after_row (inl f) later =
          within_met (rows' to) come' (other to)
          (subst (λ row. IsWithin row (other to)) (sym (sent to)) (jumped state refl proper later))
          (come state refl proper later f) A
          (sym (ap after f ∙ table_next table slot next come' rows' beyond
          ∙ ap (λ n. met_state (rows' n) come') (sym f)) ∙ e)

  proper_after : ((at : ℕ) → IsProperRow (table at)) → (to : ℕ) → IsProperRow (after to)
  proper_after proper to =
      elim (cases_lt slot to) [
        | inr before ↦ subst IsProperRow (sym (table_before table slot next come' rows' to before)) (proper to)
        | inl later ↦
            elim (cases_eq to next) [
              | inl e ↦ rw (lt-leb to slot later, eq-eqb to next e)
                  (met_proper (rows' to) come' (ahead_proper later) comes_proper)
              | inr n ↦ rw (lt-leb to slot later, ne_eqb to next n) (ahead_proper later)
            ]
      ]
    where
      here_proper : IsProperRow state
      here_proper = subst IsProperRow (is) (proper slot)

      comes_proper : IsProperRow come'
      comes_proper = subst IsProperRow (sym goes) (front_proper shape insn slot state here_proper)

      ahead_proper : slot < to → IsProperRow (rows' to)
      ahead_proper later = subst IsProperRow (sym (sent to))
          (rows_proper shape insn slot state rows to (subst IsProperRow (ahead to later) (proper to)) here_proper)

  pub goes_beyond : slot < slot + slots_taken insn
  goes_beyond = beyond

  pub stands_on : ((at : ℕ) → IsProperRow (table at))
      → WalkIsBefore program shape (slot + slots_taken insn) come' rows'
      (next_table table slot (slot + slots_taken insn) come' rows')
  stands_on proper = record {
    passed = record {
      entry = still 0 (entry_state shape) passed.entry;
      rules = rules;
      edges = edges;
    };
    here = table_next table slot next come' rows' beyond;
    ahead = λ to h. table_later table slot next come' rows' to (omega (arith, beyond))
        (λ e. absurd (omega (arith, e)));
    proper = proper_after proper;
  }

  pub least_on : ((at : ℕ) → IsProperRow (table at)) → IsLeast program shape table
      → IsLeast program shape (next_table table slot (slot + slots_taken insn) come' rows')
  least_on proper least = still_least (subst IsProperRow (is) (proper slot)) least

  pub walk_on : ((at : ℕ) → IsProperRow (table at)) → IsLeast program shape table
      → Walks program shape (slot + slots_taken insn) come' rows'
  walk_on proper least = (after, stands_on proper, least_on proper least)

-- ---- the first step, the last, and a refusal

unfoldable pub entry_table : Extent → Table
entry_table shape slot = if slot == 0 then Some (entry_state shape) else None

pub begins_stand : (program : List Insn) (shape : Extent) (come : Option AbstractState) (rows : Table)
    → come ≡ Some (entry_state shape)
    → ((slot : ℕ) → rows slot ≡ None) → WalkIsBefore program shape 0 come rows (entry_table shape)
unfolding entry_table
begins_stand program shape come rows comes empty = record {
  passed = record {
    entry = contained_in_itself (entry_state shape);
    rules = λ slot insn before e. absurd (omega (arith, before));
    edges = λ slot to insn way A C before e f g h. absurd (omega (arith, before));
  };
  here = sym (ap (λ row. met_state row come) (empty 0) ∙ comes);
  ahead = λ to later. rw (ne_eqb to 0 (λ e. absurd (omega (arith, e)))) (sym (empty to));
  proper = λ at. begun (at == 0);
}
  where
    begun : (b : Bool) → IsProperRow (if b then Some (entry_state shape) else None)
    begun true = entry_proper shape
    begun false = tt

pub begins_least : (program : List Insn) (shape : Extent) → IsLeast program shape (entry_table shape)
unfolding entry_table
begins_least program shape end other types slot A before e = first end other types slot A e (cases_eq slot 0)
  where
    first : (end : ℕ) (other : Table) → Types program shape end other → (slot : ℕ) (A : AbstractState)
        → entry_table shape slot ≡ Some A
        → (slot ≡ 0) ⊎ (slot ≢ 0) → IsCovered other A slot
    first end other types slot A e (inl z) =
        let same : entry_state shape ≡ A = same_Some (entry_state shape) A (sym (rw (eq-eqb slot 0 z) refl) ∙ e) in
        rw (z, sym same) types.entry
    first end other types slot A e (inr n) = absurd (none (sym (rw (ne_eqb slot 0 n) refl) ∙ e))
      where
        none : ◌≡◌ {A = Option AbstractState} None (Some A) → ⊥
        none f = absurd cc

pub walk_begins : (program : List Insn) (shape : Extent) (come : Option AbstractState) (rows : Table)
    → come ≡ Some (entry_state shape)
    → ((slot : ℕ) → rows slot ≡ None) → Walks program shape 0 come rows
walk_begins program shape come rows comes empty = (
  entry_table shape,
  begins_stand program shape come rows comes empty,
  begins_least program shape,
)

pub types_passed : (program : List Insn) (shape : Extent) (end : ℕ) (table : Table) → Passed program shape end table
    → ((at : ℕ) → IsProperRow (table at))
    → Types program shape end table
types_passed program shape end table passed proper =
    record {
      entry = passed.entry;
      proper = λ slot insn A before e row. subst IsProperRow row (proper slot);
      rules = passed.rules;
      edges = λ slot to insn way A C before within. passed.edges slot to insn way A C before;
    }

pub walk_ends : (program : List Insn) (shape : Extent) (slot : ℕ) (come : Option AbstractState) (rows : Table)
    → Walks program shape slot come rows → slot ≡ slots_of program
    → Typable program shape
walk_ends program shape slot come rows (table, stands, least) e = (
  table,
  subst (λ end. Types program shape end table) e
      (types_passed program shape slot table stands.passed stands.proper),
)

-- the walk is at the end where no instruction begins
pub walk_done : (program : List Insn) (shape : Extent) (slot : ℕ) (come : Option AbstractState) (rows : Table)
    → Walks program shape slot come rows → IsStop program slot
    → insn_at program slot ≡ None → Typable program shape
walk_done program shape slot come rows walks (inl begins) none = absurd (apart (insn_at program slot) none begins)
  where
    apart : (o : Option Insn) → o ≡ None → IsSome o → ⊥
    apart None e some = absurd cc
    apart (Some i) e some = absurd cc
walk_done program shape slot come rows walks (inr end) none = walk_ends program shape slot come rows walks end

-- a rule that is broken of what is known is broken of what any table says that types the slots before
pub refused_here : (program : List Insn) (shape : Extent) (slot : ℕ) (insn : Insn) (state : Option AbstractState)
    (table : Table) (rule : Rule)
    → insn_at program slot ≡ Some insn → Passed program shape slot table → IsLeast program shape table
    → table slot ≡ state → ((at : ℕ) → IsProperRow (table at))
    → lowest_broken program shape slot insn state ≡ Some rule → IsFirstBroken program shape slot
refused_here program shape slot insn state table rule here passed least is proper broken =
    record {
      within = here_within program slot insn here;
      before = (table, types_passed program shape slot table passed proper);
      here = λ typed. kept_not state (is) (subst IsProperRow (is) (proper slot)) broken typed.0 typed.1;
    }
  where
    some_none : (o : Option Rule) → o ≡ None → o ≡ Some rule → ⊥
    some_none None e f = absurd cc
    some_none (Some r) e f = absurd cc

    kept_not : (known : Option AbstractState) → table slot ≡ known → IsProperRow known
        → lowest_broken program shape slot insn known ≡ Some rule
        → (other : Table) → Types program shape (suc slot) other → ⊥
    kept_not None e p told other types =
        some_none (lowest_broken program shape slot insn None)
        (none_broken program shape slot insn None
        (rules_unreached program shape slot insn (other slot) (types.rules slot insn (omega arith) here))) told
    kept_not (Some A) e p told other types = by (other slot) refl (least (suc slot) other types slot A (omega arith) e)
      where
        by : (row : Option AbstractState) → other slot ≡ row → Covers row A → ⊥
        by None f covered = covered
        by (Some C) f covered =
            some_none (lowest_broken program shape slot insn (Some A))
            (none_broken program shape slot insn (Some A)
            (rules_grow program shape slot insn A C p covered
            (subst (KeepsRules program shape slot insn) f (types.rules slot insn (omega arith) here)))) told

-- ---- the same of the front and the rows as they are kept

module _ (program : List Insn) (shape : Extent) (slot : ℕ) (insn : Insn) (front : Front) (come : Option AbstractState)
    (rows rows' : Table)
    (here : insn_at program slot ≡ Some insn) (walks : Walks program shape slot come rows)
    (met : come_of front ≡ met_state (rows slot) come) (ahead : (to : ℕ) → slot < to → rows' to ≡ rows to) where
  pub walk_past : KeepsRules program shape slot insn (come_of front) → (sent : Table) (come' : Option AbstractState)
      → ((to : ℕ) → sent to ≡ rows_after shape insn slot (come_of front) rows' to)
      → come' ≡ front_after shape insn slot (come_of front)
      → Walks program shape (slot + slots_taken insn) come' sent
  walk_past kept sent come' goes on =
      walk_on program shape slot insn (come_of front) walks.0 rows' sent come' here kept walks.1.passed
      (walks.1.here ∙ sym met)
      (λ to later. walks.1.ahead to later ∙ sym (ahead to later)) goes on walks.1.proper walks.2

  pub walk_refused : (error : VerifyError) → RefusesInsn program shape slot insn (come_of front) error
      → IsRefusal program shape error
  walk_refused error.Memory told = tt
  walk_refused (error.Refused at rule) (same, broken) =
      subst (IsFirstBroken program shape) (sym same)
      (refused_here program shape slot insn (come_of front) walks.0 rule here walks.1.passed walks.2
      (walks.1.here ∙ sym met) walks.1.proper broken)

-- ---- answers

pub when_ok : {P Q R S : Type 0} (r : Result (Unit {0}) VerifyError) → (P → Q → R → S) → OnOk r P → OnOk r Q → OnOk r R
    → OnOk r S
when_ok (Ok done) f p q r = f p q r
when_ok (Err error) f p q r = tt

pub when_err : {P Q : VerifyError → Type 0} (r : Result (Unit {0}) VerifyError)
    → ((error : VerifyError) → P error → Q error) → IfErr r P → IfErr r Q
when_err (Ok done) f p = tt
when_err (Err error) f p = f error p

-- the walk goes on to where the next instruction begins, or to the end
pub stop_next : (program : List Insn) (slot count : ℕ) (insn : Insn) → insn_at program slot ≡ Some insn
    → count ≡ slots_taken insn → IsStop program (slot + count)
stop_next program slot count insn here e = rw e (next_stop program slot insn here)

pub walks_next : (program : List Insn) (shape : Extent) (slot taken count : ℕ) (come : Option AbstractState)
    (rows : Table) → count ≡ taken
    → Walks program shape (slot + taken) come rows → Walks program shape (slot + count) come rows
walks_next program shape slot taken count come rows e walks = rw e walks
