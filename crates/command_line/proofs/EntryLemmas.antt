-- The entries of `--cells`, one part after another.
use Rattle.std.proofs.Common.{◌≡◌, ◌↔◌, ◌+◌, ◌<◌, ℕ, List, [], ◌∷◌, ◌++◌, Any, Contains, length, take, get_or}
use Rattle.std.proofs.Common.{append_assoc, append-nil, arith, inl, inr, ⊎_elim, refl, sym, ap, subst, ◌∙◌}
use Rattle.std.proofs.lemmas.List.{take_more}
use Rattle.std.proofs.lemmas.List.Elements.{All-push, All-nil}
use Rattle.command_line.proofs.Among.{any-among, among-any, among-push, push-among}
use Rattle.command_line.proofs.NumberLemmas.{map_push}
use Rattle.command_line.proofs.RangeLemmas.{names_within}
use Rattle.command_line.specs.Lists.{AreEntries, IsEntry, IsNumberList, IsPart, IsSpan, IsInSpan, Names, byte_spans}
use Rattle.command_line.specs.inner.Spans.{AddsSpan, JoinsSpan}
use Rattle.command_line.specs.inner.Entries.{AddsCells, JoinsPart}
use Rattle.explored.specs.declared.options.ByteSpan.{ByteSpan}
use Rattle.explored.specs.declared.options.Cells.{Cells}
use Rattle.node_env.specs.declared.shape.TheConstants.{MAX_MEMORY}

joined_list : (parts : List (List ℕ)) (part : List ℕ) (old new : List (ℕ × ℕ))
    → IsNumberList 256 parts old → JoinsPart old new part → IsNumberList 256 (parts ++ part ∷ []) new
joined_list parts part old new before joins = record {
  written = All-push (IsPart 256) parts part before.written (joins.first, joins.last, joins.span);
  numbers = λ n.
      let names = λ (p : List ℕ). Names p n in
      let same = names_within part joins.first joins.last joins.span.range n in (
        (λ h. any-among names (parts ++ part ∷ []) (push-among names parts part (⊎_elim
            (λ o. inl (among-any names parts ((before.numbers n).0 o))) (λ w. inr (same.1 w)) ((joins.joined n).0 h)))),
        (λ h. (joins.joined n).1 (⊎_elim
            (λ o. inl ((before.numbers n).1 (any-among names parts o))) (λ w. inr (same.0 w))
            (among-push names parts part (among-any names (parts ++ part ∷ []) h)))),
      );
  longest = joins.longest;
}

no_list : IsNumberList 256 [] []
no_list = record {
  written = All-nil (IsPart 256);
  numbers = λ n. ((λ h. absurd (omega arith)), (λ h. absurd (omega arith)));
  longest = tt;
}

more_of_last : (front : List Cells) (parts : List (List ℕ)) (part : List ℕ) (before after : Cells)
    → after.first ≡ before.first → after.last ≡ before.last
    → JoinsPart (byte_spans before.values.items) (byte_spans after.values.items) part
    → AreEntries parts (front ++ before ∷ []) → AreEntries (parts ++ part ∷ []) (front ++ after ∷ [])
more_of_last [] parts part before after first last joins (head, more, others, cut, entry, none) = (
  head,
  more ++ part ∷ [],
  [],
  ap (λ ps. ps ++ part ∷ []) (cut ∙ ap (λ os. (head ∷ more) ++ os) none)
      ∙ ap (λ ps. head ∷ ps) (ap (λ ps. ps ++ part ∷ []) (append-nil more) ∙ sym (append-nil (more ++ part ∷ []))),
  record {
    places = entry.places;
    value = entry.value;
    cut = entry.cut;
    placed = subst (λ f. IsSpan MAX_MEMORY entry.places f after.last) (sym first)
        (subst (λ l. IsSpan MAX_MEMORY entry.places before.first l) (sym last) entry.placed);
    values = joined_list (entry.value ∷ more) part (byte_spans before.values.items)
        (byte_spans after.values.items) entry.values joins;
  },
  refl,
)
more_of_last (cells ∷ front) parts part before after first last joins (head, more, others, cut, entry, rest) = (
  head,
  more,
  others ++ part ∷ [],
  ap (λ ps. ps ++ part ∷ []) cut ∙ append_assoc (head ∷ more) others (part ∷ []),
  entry,
  more_of_last front others part before after first last joins rest,
)

one_more_entry : (old : List Cells) (parts : List (List ℕ)) (part : List ℕ) (entry : Cells)
    → IsEntry part [] entry → AreEntries parts old → AreEntries (parts ++ part ∷ []) (old ++ entry ∷ [])
one_more_entry [] parts part entry is none = (part, [], [], ap (λ ps. ps ++ part ∷ []) none, is, refl)
one_more_entry (cells ∷ old) parts part entry is (head, more, others, cut, first, rest) = (
  head,
  more,
  others ++ part ∷ [],
  ap (λ ps. ps ++ part ∷ []) cut ∙ append_assoc (head ∷ more) others (part ∷ []),
  first,
  one_more_entry old others part entry is rest,
)

pub more_cells : (old new : List Cells) (parts : List (List ℕ)) (part : List ℕ) → AddsCells old new part
    → AreEntries parts old → AreEntries (parts ++ part ∷ []) new
more_cells old new parts part (inl adds) before = subst (AreEntries (parts ++ part ∷ [])) (sym adds.is)
    (more_of_last adds.front parts part adds.before adds.after adds.same_first adds.same_last adds.values
    (subst (AreEntries parts) adds.was before))
more_cells old new parts part (inr (places, value, cut, begins)) before =
    subst (AreEntries (parts ++ part ∷ [])) (sym begins.is) (one_more_entry old parts part begins.entry (record {
      places = places;
      value = value;
      cut = cut;
      placed = begins.placed;
      values = joined_list [] value [] (byte_spans begins.entry.values.items) no_list begins.values;
    }) before)

-- ---- a set of the bytes of spans

pub one_more_span : (values : List ByteSpan) (i : ℕ) (d : ByteSpan) (old new : List ℕ) (span : ℕ × ℕ)
    → i < length values
    → span.0 ≡ (get_or values i d).first → span.1 ≡ (get_or values i d).last
    → AddsSpan old new span → (n : ℕ) → (Contains old n ↔ Any (IsInSpan n) (byte_spans (take i values)))
    → Contains new n ↔ Any (IsInSpan n) (byte_spans (take (i + 1) values))
one_more_span values i d old new span inside first last adds n before =
    let last_span = get_or values i d in
    let spans = byte_spans (take i values) in
    let pair : ℕ × ℕ = (last_span.first, last_span.last) in
    let pushed : byte_spans (take (i + 1) values) ≡ spans ++ pair ∷ [] =
    ap byte_spans (take_more values i d inside)
    ∙ map_push (λ s. (s.first, s.last)) (take i values) last_span in
    let both : Contains new n ↔ Any (IsInSpan n) (spans ++ pair ∷ []) = (
      (λ h. any-among (IsInSpan n) (spans ++ pair ∷ []) (push-among (IsInSpan n) spans pair (⊎_elim
          (λ o. inl (among-any (IsInSpan n) spans (before.0 o)))
          (λ w. let low = w.0 in let high = w.1 in inr (omega arith, omega arith)) ((adds n).0 h)))),
      (λ h. (adds n).1 (⊎_elim
          (λ o. inl (before.1 (any-among (IsInSpan n) spans o)))
          (λ w. let low = w.0 in let high = w.1 in inr (omega arith, omega arith))
          (among-push (IsInSpan n) spans pair (among-any (IsInSpan n) (spans ++ pair ∷ []) h)))),
    ) in
    subst (λ xs. Contains new n ↔ Any (IsInSpan n) xs) (sym pushed) both

pub join_span : (old new : List (ℕ × ℕ)) (before after : List ℕ) (span : ℕ × ℕ)
    → ((n : ℕ) → Contains before n ↔ Any (IsInSpan n) old) → AddsSpan before after span
    → ((n : ℕ) → Any (IsInSpan n) new ↔ Contains after n) → JoinsSpan old new span
join_span old new before after span was adds is = λ n. (
  (λ h. ⊎_elim (λ o. inl ((was n).0 o)) (λ w. inr w) ((adds n).0 ((is n).0 h))),
  (λ h. (is n).1 ((adds n).1 (⊎_elim (λ o. inl ((was n).1 o)) (λ w. inr w) h))),
)
