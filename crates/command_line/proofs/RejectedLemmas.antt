-- Parts and texts that are none.
use Rattle.std.proofs.Common.{◌≡◌, ◌≢◌, ◌⊎◌, ◌↔◌, ◌<◌, ◌≤◌, ◌^◌, ◌+◌, ℕ, zero, suc, List, [], ◌∷◌, ◌++◌, All, Any, Contains, codes, get_or, length, map, take, Bool, true, false, Some, None, Bor}
use Rattle.std.proofs.Common.{arith, ap, inl, inr, refl, subst, sym, ⊎_elim, ◌∙◌}
use Rattle.std.specs.List.{AllByRecursion}
use Rattle.std.proofs.lemmas.List.Elements.{All-from_recursion, All-get_or, recursion_from_All}
use Rattle.std.specs.Char.{digit_value}
use Rattle.std.specs.Str.Parse.{AllDigits, IsNumeral, ParsesUnsigned, digits_value, without_leading_plus}
use Rattle.std.proofs.lemmas.Str.Parse.{without_leading_plus_none}
use Rattle.explored.specs.declared.options.Cells.{Cells}
use Rattle.explored.specs.declared.options.MailSpan.{MailSpan}
use Rattle.node_env.specs.declared.shape.TheConstants.{MAX_MEMORY}
use Rattle.command_line.specs.declared.lists.MailFault.{MailFault}
use Rattle.command_line.specs.declared.lists.MailFault.TheVariants as faults
use Rattle.command_line.specs.Lists.{AreEntries, AreLongest, IsBytes, IsDecimal, IsEntry, IsInSpan, IsMailList, IsNoMailList, IsNumberList, IsPart, IsRange, Names, byte_spans, comma_parts, mail_spans, span_length}
use Rattle.command_line.specs.inner.Spans.{AreNumbersOf, EndsList}
use Rattle.command_line.specs.inner.Entries.{EndsCells}
use Rattle.command_line.proofs.Among.{Among, among-any, any-among}
use Rattle.std.specs.Bool.{MatchBool, OnFalse}
use Rattle.std.specs.Option.{IfNone, IfSome}
use Rattle.std.specs.Result.{result_ok}
use Rattle.std.specs.Prelude.{Result, Ok, Err}
use Rattle.std.specs.Str.{IsCharBoundary}
use Rattle.std.specs.Str.Pattern.{FindsCharPrefix}
use Rattle.std.proofs.Math.Dec.{lit<}
use Rattle.std.proofs.lemmas.Str.Pattern.{IsSplitOnceResult, split_after, split_parts, starts_char}
use Rattle.command_line.proofs.RangeLemmas.{Unequal, dot_is_no_digit, no_dot, part_is, unequal_at, unequal_cut, unequal_range}

-- ---- numbers

plus_is_no_digit : (x : ℕ) → digit_value x < 10 → x ≢ 43
plus_is_no_digit x h e =
    let plus : digit_value 43 < 10 = subst (λ y. digit_value y < 10) e h in absurd (omega (arith, plus))

pub first_is_digit : (text : List ℕ) → IsNumeral 10 text → get_or text 0 0 ≢ 43
first_is_digit [] h = absurd (let some = h.0 in omega arith)
first_is_digit (x ∷ text) h = plus_is_no_digit x h.1.0

-- what isn't a numeral of 32 bits with or without a plus is no decimal number of 32 bits
pub no_decimal : (text : List ℕ)
    → (IsNumeral 10 (without_leading_plus text) × (digits_value 10 (without_leading_plus text) < 2 ^ 32) → ⊥)
    → (n : ℕ) → IsDecimal text n → n < 2 ^ 32 → ⊥
no_decimal text none n is small =
    let same : without_leading_plus text ≡ text = without_leading_plus_none text (first_is_digit text is.0) in
    none (
      subst (IsNumeral 10) (sym same) is.0,
      subst (λ t. digits_value 10 t < 2 ^ 32) (sym same) (subst (λ v. v < 2 ^ 32) (sym is.1) small),
    )

-- what begins with a plus is none
pub begins_with_plus : (text : List ℕ) (r : Bool)
    → MatchBool r ((k : ℕ) × FindsCharPrefix 43 text (Some k) × IsCharBoundary text k) (FindsCharPrefix 43 text None)
    → r ≡ true → (n : ℕ) → IsDecimal text n → n < 2 ^ 32 → ⊥
begins_with_plus text r starts holds n is small =
    let at : get_or text 0 0 ≡ 43 = grind (arith, starts_char 43 text r starts (lit< tt) (lit< tt)) in
    first_is_digit text is.0 at

pub none_if : {E : Type 0} (text : List ℕ) (r : Result ℕ E) → ParsesUnsigned 32 10 text r
    → IfNone (result_ok r) ((n : ℕ) → IsDecimal text n → n < 2 ^ 32 → ⊥)
none_if text (Ok x) parses = tt
none_if text (Err e) parses = no_decimal text parses

pub decimal_if : {E : Type 0} (text : List ℕ) (b : Bool)
    → MatchBool b ((k : ℕ) × FindsCharPrefix 43 text (Some k) × IsCharBoundary text k) (FindsCharPrefix 43 text None)
    → b ≡ false → (r : Result ℕ E) → ParsesUnsigned 32 10 text r → IfSome (result_ok r) (IsDecimal text)
decimal_if text b starts fails (Ok x) parses =
    let other : get_or text 0 0 ≢ 43 = grind (arith, starts_char 43 text b starts (lit< tt) (lit< tt)) in
    let same : without_leading_plus text ≡ text = without_leading_plus_none text other in
    (subst (IsNumeral 10) same parses.0.0, ap (digits_value 10) (sym same) ∙ sym parses.1)
decimal_if text b starts fails (Err e) parses = tt

-- ---- ranges

undotted : (xs : List ℕ) → AllDigits 10 xs → (i : ℕ) → i < length xs → get_or xs i 0 ≢ 46
undotted [] h i l = absurd (omega arith)
undotted (x ∷ xs) h zero l = dot_is_no_digit x h.0
undotted (x ∷ xs) h (suc i) l = undotted xs h.1 i (omega arith)

-- a range with a point is cut at its first one
cut_range : (part : List ℕ) (left rest : Bor (List ℕ)) → IsSplitOnceResult 46 part (Some (left, rest))
    → (first last : ℕ) → IsRange part first last
    → (right : List ℕ) × (rest.now ≡ 46 ∷ right) × IsDecimal left.now first × IsDecimal right last
cut_range part left rest cut first last (inl p) =
    let parts = split_parts 46 part (Some (left, rest)) cut (lit< tt) in
    absurd (no_dot left.now rest.now (subst (AllDigits 10) parts.0 p.0.0.1))
cut_range part left rest cut first last (inr (l, r, e, p, q)) =
    let same = split_after 46 part l (46 ∷ r) (Some (left, rest)) cut (lit< tt) e (undotted l p.0.1) in
    (r, same.1, subst (λ t. IsDecimal t first) (sym same.0) p, q)

-- a part without a point that is no decimal number is none
pub no_number : (part : List ℕ) → IsSplitOnceResult 46 part None → ((n : ℕ) → IsDecimal part n → n < 2 ^ 32 → ⊥)
    → IsPart (2 ^ 32) part → ⊥
no_number part whole none (first, last, is) = elim is.range [
  | inl p ↦ let rises = is.rises in let below = is.below in none first p.0 (omega arith)
  | inr cut ↦ split_after 46 part cut.0 (46 ∷ cut.1) None whole (lit< tt) cut.2 (undotted cut.0 cut.3.0.1)
]

pub no_second_point : (part : List ℕ) (left rest : Bor (List ℕ)) → IsSplitOnceResult 46 part (Some (left, rest))
    → ((right : List ℕ) → rest.now ≢ 46 ∷ right) → IsPart (2 ^ 32) part → ⊥
no_second_point part left rest cut none (first, last, is) =
    let range = cut_range part left rest cut first last is.range in none range.0 range.1

pub no_first : (part : List ℕ) (left rest : Bor (List ℕ)) → IsSplitOnceResult 46 part (Some (left, rest))
    → ((n : ℕ) → IsDecimal left.now n → n < 2 ^ 32 → ⊥) → IsPart (2 ^ 32) part → ⊥
no_first part left rest cut none (first, last, is) =
    let range = cut_range part left rest cut first last is.range in
    let rises = is.rises in let below = is.below in none first range.2 (omega arith)

pub no_last : (part : List ℕ) (left rest : Bor (List ℕ)) (right : List ℕ)
    → IsSplitOnceResult 46 part (Some (left, rest)) → rest.now ≡ 46 ∷ right
    → ((n : ℕ) → IsDecimal right n → n < 2 ^ 32 → ⊥) → IsPart (2 ^ 32) part → ⊥
no_last part left rest right cut strip none (first, last, is) =
    let range = cut_range part left rest cut first last is.range in
    let same : range.0 ≡ right = let there = range.1 in cc in
    none last (subst (λ t. IsDecimal t last) same range.3) is.below

pub range_of : (part : List ℕ) (left rest : Bor (List ℕ)) (right : List ℕ) (first last : ℕ)
    → IsSplitOnceResult 46 part (Some (left, rest)) → rest.now ≡ 46 ∷ right → IsDecimal left.now first
    → IsDecimal right last → IsRange part first last
range_of part left rest right first last cut strip low high =
    let parts = split_parts 46 part (Some (left, rest)) cut (lit< tt) in
    inr (left.now, right, parts.0 ∙ ap (λ xs. left.now ++ (46 ∷ xs)) strip, low, high)

-- ---- lists of numbers

part_at : (limit : ℕ) (parts : List (List ℕ)) (spans : List (ℕ × ℕ)) (i : ℕ) (part : List ℕ) → i < length parts
    → part ≡ get_or parts i part → IsNumberList limit parts spans → IsPart limit part
part_at limit parts spans i part inside is list =
    subst (IsPart limit) (sym is) (All-get_or (IsPart limit) parts i part inside list.written)

-- a part that is none makes the text none
pub no_list : (limit : ℕ) (parts : List (List ℕ)) (i : ℕ) (part : List ℕ) → i < length parts
    → part ≡ get_or parts i part → (IsPart limit part → ⊥) → (spans : List (ℕ × ℕ)) → IsNumberList limit parts spans → ⊥
no_list limit parts i part inside is other spans list = other (part_at limit parts spans i part inside is list)

named_at : (parts : List (List ℕ)) (i : ℕ) (part : List ℕ) (n : ℕ) → i < length parts → part ≡ get_or parts i part
    → Names part n → Any (λ p. Names p n) parts
named_at parts i part n inside is names = (i, part, inside, sym is, names)

among_taken : {X : Type 0} (P : X → Type 0) (i : ℕ) (xs : List X) → Among P (take i xs) → Among P xs
among_taken P zero xs h = elim h [ ]
among_taken P (suc i) [] h = elim h [ ]
among_taken P (suc i) (x ∷ xs) (inl p) = inl p
among_taken P (suc i) (x ∷ xs) (inr later) = inr (among_taken P i xs later)

taken_in : (parts : List (List ℕ)) (i n : ℕ) → Any (λ p. Names p n) (take i parts) → Any (λ p. Names p n) parts
taken_in parts i n named =
    let names = λ (p : List ℕ). Names p n in
    any-among names parts (among_taken names i parts (among-any names (take i parts) named))

-- why reading ended at a part is why the text is no list
pub ended_list : (text : List ℕ) (numbers : List ℕ) (i : ℕ) (part : List ℕ) (fault : MailFault)
    → i < length (comma_parts text) → part ≡ get_or (comma_parts text) i part
    → AreNumbersOf (2 ^ 32) (take i (comma_parts text)) numbers → EndsList numbers part fault → IsNoMailList text fault
ended_list text numbers i part faults.NotNumbers inside is named ends = λ mail list.
    no_list (2 ^ 32) (comma_parts text) i part inside is ends (mail_spans mail) list
ended_list text numbers i part faults.Falls inside is named ends = λ mail list.
    no_list (2 ^ 32) (comma_parts text) i part inside is ends (mail_spans mail) list
ended_list text numbers i part faults.TooMany inside is named ends = λ mail list.
    ends (mail_spans mail) (λ n has. (list.numbers n).1 (⊎_elim
    (λ old. taken_in (comma_parts text) i n ((named.named n).0 old))
    (λ names. named_at (comma_parts text) i part n inside is names) has))
ended_list text numbers i part faults.Memory inside is named ends = tt

-- ---- spans of bytes

pub bytes_below : (parts : List (List ℕ)) (numbers : List ℕ) → AreNumbersOf 256 parts numbers → (n : ℕ)
    → Contains numbers n → n < 256
bytes_below parts numbers named n has =
    let found = (named.named n).0 has in
    let part = found.1 in
    let names = found.4 in
    let fits = part_is 256 part names.0 names.1 names.2
    (subst (IsPart 256) found.3 (All-get_or (IsPart 256) parts found.0 part found.2 named.written)) in
    let high = names.4 in
    let below = fits.1 in omega arith

below_spans : (spans : List MailSpan) (limit : ℕ) → AreLongest (mail_spans spans)
    → ((n : ℕ) → Among (IsInSpan n) (mail_spans spans) → n < limit)
    → AllByRecursion (λ span. (span.first < limit) × (span.last < limit)) spans
below_spans [] limit longest below = tt
below_spans (span ∷ []) limit longest below =
    let rises = longest in
    ((below span.first (inl (omega arith, omega arith)), below span.last (inl (omega arith, omega arith))), tt)
below_spans (span ∷ next ∷ more) limit longest below =
    let rises = longest.0 in (
      (below span.first (inl (omega arith, omega arith)), below span.last (inl (omega arith, omega arith))),
      below_spans (next ∷ more) limit longest.2 (λ n later. below n (inr later)),
    )

-- the spans of numbers below a limit are below it
pub spans_below : (spans : List MailSpan) (limit : ℕ) → AreLongest (mail_spans spans)
    → ((n : ℕ) → Any (IsInSpan n) (mail_spans spans) → n < limit)
    → All (λ span. (span.first < limit) × (span.last < limit)) spans
spans_below spans limit longest below = All-from_recursion (λ span. (span.first < limit) × (span.last < limit)) spans
    (below_spans spans limit longest (λ n among. below n (any-among (IsInSpan n) (mail_spans spans) among)))

-- ---- entries

abbrev BeginsOne : List ℕ → Type 0
BeginsOne part = (places : List ℕ) × (value : List ℕ) × (part ≡ places ++ (codes "=" ++ value))
    × IsPart MAX_MEMORY places × IsPart 256 value

-- a part begins an entry, or it has values for one
abbrev IsCellsPart : List ℕ → Type 0
IsCellsPart part = IsPart 256 part ⊎ BeginsOne part

values_each : (more : List (List ℕ)) → AllByRecursion (IsPart 256) more → AllByRecursion IsCellsPart more
values_each [] h = tt
values_each (part ∷ more) h = (inl h.0, values_each more h.1)

each_append : (xs ys : List (List ℕ)) → AllByRecursion IsCellsPart xs → AllByRecursion IsCellsPart ys
    → AllByRecursion IsCellsPart (xs ++ ys)
each_append [] ys left right = right
each_append (x ∷ xs) ys left right = (left.0, each_append xs ys left.1 right)

begins_entry : (head : List ℕ) (more : List (List ℕ)) (cells : Cells) → IsEntry head more cells → BeginsOne head
begins_entry head more cells entry = (
  entry.places,
  entry.value,
  entry.cut,
  (cells.first, cells.last, entry.placed),
  All-get_or (IsPart 256) (entry.value ∷ more) 0 [] (omega arith) entry.values.written,
)

-- of entries each part is one of the two, and the first begins one
entries_first : (part : List ℕ) (rest : List (List ℕ)) (all : List Cells) → AreEntries (part ∷ rest) all → BeginsOne part
entries_first part rest [] none = absurd (cc)
entries_first part rest (cells ∷ all) (head, more, others, cut, entry, later) =
    let same : head ≡ part = cc in subst BeginsOne same (begins_entry head more cells entry)

entries_each : (parts : List (List ℕ)) (all : List Cells) → AreEntries parts all → AllByRecursion IsCellsPart parts
entries_each parts [] none = subst (AllByRecursion IsCellsPart) (sym none) tt
entries_each parts (cells ∷ all) (head, more, others, cut, entry, later) =
    subst (AllByRecursion IsCellsPart) (sym cut) (
      inr (begins_entry head more cells entry),
      each_append more others (values_each more (recursion_from_All (IsPart 256) (entry.value ∷ more) entry.values.written).1)
          (entries_each others all later),
    )

taken_none : (i : ℕ) (parts : List (List ℕ)) → i < length parts → take i parts ≡ [] → i ≡ 0
taken_none zero parts inside none = refl
taken_none (suc i) [] inside none = absurd (omega arith)
taken_none (suc i) (x ∷ parts) inside none = absurd (cc)

begins_first : (parts : List (List ℕ)) (part : List ℕ) (all : List Cells) → 0 < length parts
    → part ≡ get_or parts 0 part → AreEntries parts all → BeginsOne part
begins_first [] part all inside is entries = absurd (omega arith)
begins_first (x ∷ rest) part all inside is entries = subst BeginsOne (sym is) (entries_first x rest all entries)

-- why reading ended at a part is why the parts are no entries
pub ended_cells : (parts : List (List ℕ)) (i : ℕ) (part : List ℕ) (old : List Cells) → i < length parts
    → part ≡ get_or parts i part → AreEntries (take i parts) old → EndsCells old part
    → (all : List Cells) → AreEntries parts all → ⊥
ended_cells parts i part old inside is before ends all entries =
    let begun : BeginsOne part → ⊥ = λ b. ends.begins b.0 b.1 b.2 b.3 b.4 in
    let each = All-get_or IsCellsPart parts i part inside
    (All-from_recursion IsCellsPart parts (entries_each parts all entries)) in
    elim (subst IsCellsPart (sym is) each) [
      | inr one ↦ begun one
      | inl values ↦
          let none : take i parts ≡ [] = subst (AreEntries (take i parts)) (ends.adds values) before in
          let first = taken_none i parts inside none in
          begun (begins_first parts part all (omega arith) (subst (λ k. part ≡ get_or parts k part) first is) entries)
    ]

pub false_more : (b : Bool) (P Q : Type 0) → (P → Q) → OnFalse b P → OnFalse b Q
false_more true P Q leads h = tt
false_more false P Q leads h = leads h

-- a part with a sign of equality is cut there
pub cut_ends : (part : List ℕ) (places value : Bor (List ℕ)) → IsSplitOnceResult 61 part (Some (places, value))
    → (old : List Cells) → (IsPart MAX_MEMORY places.now → IsPart 256 value.now → ⊥) → EndsCells old part
cut_ends part places value cut old other = record {
  begins = λ p v e first second.
      let range = first.2 in
      let same = split_after 61 part p v (Some (places, value)) cut (lit< tt) e
      (unequal_at p (unequal_range p first.0 first.1 range.range)) in
      other (subst (IsPart MAX_MEMORY) (sym same.0) first) (subst (IsPart 256) (sym same.1) second);
  adds = λ values.
      let range = values.2 in
      let parts = split_parts 61 part (Some (places, value)) cut (lit< tt) in
      absurd (unequal_cut places.now value.now
      (subst Unequal parts.0 (unequal_range part values.0 values.1 range.range)));
}

-- one without begins no entry
pub whole_ends : (part : List ℕ) → IsSplitOnceResult 61 part None → (old : List Cells)
    → (IsPart 256 part → old ≡ []) → EndsCells old part
whole_ends part whole old other = record {
  begins = λ p v e first second.
      let range = first.2 in
      split_after 61 part p v None whole (lit< tt) e (unequal_at p (unequal_range p first.0 first.1 range.range));
  adds = other;
}

-- a part that is none makes the text no list of bytes
pub no_bytes : (text : List ℕ) (i : ℕ) (part : List ℕ) → i < length (comma_parts text)
    → part ≡ get_or (comma_parts text) i part → (IsPart 256 part → ⊥) → (all : List Cells) → IsBytes text all → ⊥
no_bytes text i part inside is other [] none = none
no_bytes text i part inside is other (cells ∷ []) bytes =
    no_list 256 (comma_parts text) i part inside is other (byte_spans cells.values.items) bytes.2
no_bytes text i part inside is other (cells ∷ next ∷ more) none = none
