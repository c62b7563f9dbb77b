-- Rows one after the other.
use Rattle.std.proofs.Common.{◌≡◌, ℕ, zero, suc, ◌+◌, ◌≤◌, ◌⊎◌, inl, inr, List, [], ◌∷◌, ◌++◌, length, Ok, Err, arith, refl, ap, sym, subst, ◌∙◌}
use Rattle.std.specs.Prelude.{IsErrAnd, Option, Result, Some, slice_get}
use Rattle.std.proofs.KnownBytes.{Appends-kept}
use Rattle.std.proofs.lemmas.List.{append_assoc, append-nil, length-append}
use Rattle.parameters.specs.Keys.{KeyRange, count_of}
use Rattle.key_sweep.specs.KeyRows.{AreKeyRows, KeyRows, LeavesRows, joined_rows}
use Rattle.key_sweep.specs.inner.Blocks.{IsBlock}
use Rattle.stream_io.specs.declared.parts.PartFault.{PartFault}
use Rattle.stream_io.specs.declared.parts.PartFault.TheVariants as parts
use Rattle.stream_io.specs.Parts.{Adds, IsPartFault, Wrote}
use Rattle.stream_io.proofs.PartLemmas.{handed_on, wrote_nothing}

-- ---- rows

joined_rows_append : (xs ys : List (List ℕ)) → joined_rows (xs ++ ys) ≡ joined_rows xs ++ joined_rows ys
joined_rows_append [] ys = refl
joined_rows_append (x ∷ xs) ys = ap (λ t. x ++ t) (joined_rows_append xs ys) ∙ sym (append_assoc x (joined_rows xs) (joined_rows ys))

get_append : {A : Type 0} (xs ys : List A) (i : ℕ) (x : A) → slice_get (xs ++ ys) i ≡ Some x
    → (slice_get xs i ≡ Some x) ⊎ ((j : ℕ) × (i ≡ length xs + j) × (slice_get ys j ≡ Some x))
get_append [] ys i x at = inr (i, omega arith, at)
get_append (y ∷ xs) ys zero x at = inl at
get_append (y ∷ xs) ys (suc i) x at =
    elim (get_append xs ys i x at) [
      | inl here ↦ inl here
      | inr there ↦ let place = there.1 in inr (there.0, omega (arith, place), there.2)
    ]

rows_append : (is_row : ℕ → List ℕ → Type 0) (first next : ℕ) (xs ys : List (List ℕ)) → next ≡ first + length xs
    → AreKeyRows is_row first xs → AreKeyRows is_row next ys → AreKeyRows is_row first (xs ++ ys)
rows_append is_row first next xs ys e front back = λ i row at.
    elim (get_append xs ys i row at) [
      | inl there ↦ front i row there
      | inr there ↦
          let place = there.1 in
          let same : next + there.0 ≡ first + i = omega (arith, e, place) in
          subst (λ k. is_row k row) same (back there.0 row there.2)
    ]

-- ---- what is written so far

-- the rows of the keys before the next one
pub record Swept (is_row : ℕ → List ℕ → Type 0) (names : List ℕ) (old now : Option (List ℕ)) (first next told : ℕ)
    : Type 0 where
  pub text : List ℕ
  pub count : ℕ
  pub place : next ≡ first + count
  pub lines : KeyRows is_row names first count text
  pub wrote : Wrote old now text told

module _ (is_row : ℕ → List ℕ → Type 0) (names : List ℕ) where
  more_rows : (first next count number most : ℕ) (text more : List ℕ) → next ≡ first + count
      → KeyRows is_row names first count text → IsBlock is_row next most more number
      → KeyRows is_row names first (count + number) (text ++ more)
  more_rows first next count number most text more e lines block =
      let all = lines.all in
      let place : next ≡ first + length lines.rows = omega (arith, e, all) in
      record {
        rows = lines.rows ++ block.rows;
        each = rows_append is_row first next lines.rows block.rows place lines.each block.each;
        all = (let number = block.all in
            let both = length-append lines.rows block.rows in omega (arith, both, number, all));
        whole = ap (λ t. t ++ more) lines.whole ∙ (ap (λ t. (names ++ joined_rows lines.rows) ++ t) block.whole
            ∙ (append_assoc names (joined_rows lines.rows) (joined_rows block.rows)
            ∙ ap (λ t. names ++ t) (sym (joined_rows_append lines.rows block.rows))));
      }

  no_rows : (first : ℕ) (top : List ℕ) → top ≡ names → KeyRows is_row names first 0 top
  no_rows first top same = record {
    rows = [];
    each = λ i row at. absurd cc;
    all = refl;
    whole = same ∙ sym (append-nil names);
  }

  pub swept_names : (old new : Option (List ℕ)) (first next told : ℕ) (top : List ℕ) → top ≡ names → next ≡ first
      → Adds old new 0 top told → Swept is_row names old new first next told
  swept_names old new first next told top same at adds = record {
    text = top;
    count = 0;
    place = omega (arith, at);
    lines = no_rows first top same;
    wrote = adds old [] (wrote_nothing old);
  }

  -- the names aren't written
  names_broken : (old new : Option (List ℕ)) (keys : KeyRange) (top : List ℕ) (fault : PartFault) → top ≡ names
      → IsPartFault old new 0 top fault → LeavesRows is_row names old new keys (Err fault)
  names_broken old new keys top (parts.Write written) same broke =
      (top, 0, omega arith, no_rows keys.first top same, broke old [] (wrote_nothing old))
  names_broken old new keys top parts.Memory same kept = inl kept

  pub front_of_names : (old new : Option (List ℕ)) (keys : KeyRange) (top : List ℕ) (fault : PartFault)
      (result : Result (Unit {0}) PartFault) → top ≡ names → IsPartFault old new 0 top fault
      → IsErrAnd result (λ e. e ≡ fault) → LeavesRows is_row names old new keys result
  front_of_names old new keys top fault result same broke given =
      handed_on (LeavesRows is_row names old new keys) fault result (names_broken old new keys top fault same broke)
      given

  pub swept_more : (old now new : Option (List ℕ)) (first next past told after number most : ℕ) (more : List ℕ)
      → past ≡ next + number → Swept is_row names old now first next told → IsBlock is_row next most more number
      → Adds now new told more after → Swept is_row names old new first past after
  swept_more old now new first next past told after number most more at swept block adds =
      let place = swept.place in
      record {
        text = swept.text ++ more;
        count = swept.count + number;
        place = omega (arith, place, at);
        lines = more_rows first next swept.count number most swept.text more swept.place swept.lines block;
        wrote = adds old swept.text swept.wrote;
      }

  pub all_swept : (old now : Option (List ℕ)) (keys : KeyRange) (next told : ℕ)
      → Swept is_row names old now keys.first next told → keys.first ≤ keys.last → next ≡ keys.last + 1
      → LeavesRows is_row names old now keys (Ok tt)
  all_swept old now keys next told swept order at = (
    swept.text,
    (let place = swept.place in
        subst (λ n. KeyRows is_row names keys.first n swept.text) (let e : swept.count ≡ count_of keys =
        omega (arith, place, order, at) in e)
        swept.lines),
    swept.wrote.left,
  )

  pub some_swept : (old now : Option (List ℕ)) (keys : KeyRange) (next told : ℕ)
      → Swept is_row names old now keys.first next told → next ≤ keys.last
      → LeavesRows is_row names old now keys (Err parts.Memory)
  some_swept old now keys next told swept before = inr (record {
    told = swept.text;
    count = swept.count;
    fewer = (let place = swept.place in omega (arith, place, before));
    lines = swept.lines;
    left = swept.wrote.left;
  })

  -- more rows aren't written
  rows_broken : (old now new : Option (List ℕ)) (keys : KeyRange) (next told number most : ℕ) (more : List ℕ)
      (fault : PartFault) → Swept is_row names old now keys.first next told → IsBlock is_row next most more number
      → next ≤ keys.last → next + most ≤ keys.last + 1 → IsPartFault now new told more fault
      → LeavesRows is_row names old new keys (Err fault)
  rows_broken old now new keys next told number most more (parts.Write written) swept block before few broke =
      let place = swept.place in
      let most = block.few in (
        swept.text ++ more,
        swept.count + number,
        omega (arith, place, few, most),
        more_rows keys.first next swept.count number _ swept.text more swept.place swept.lines block,
        broke old swept.text swept.wrote,
      )
  rows_broken old now new keys next told number most more parts.Memory swept block before few kept = inr (record {
    told = swept.text;
    count = swept.count;
    fewer = (let place = swept.place in omega (arith, place, before));
    lines = swept.lines;
    left = Appends-kept old now new swept.text swept.wrote.left kept;
  })

  pub front_of_rows : (old now new : Option (List ℕ)) (keys : KeyRange) (next told number most : ℕ) (more : List ℕ)
      (fault : PartFault) (result : Result (Unit {0}) PartFault) → Swept is_row names old now keys.first next told
      → IsBlock is_row next most more number → next ≤ keys.last → next + most ≤ keys.last + 1
      → IsPartFault now new told more fault → IsErrAnd result (λ e. e ≡ fault)
      → LeavesRows is_row names old new keys result
  front_of_rows old now new keys next told number most more fault result swept block before few broke given =
      handed_on (LeavesRows is_row names old new keys) fault result
      (rows_broken old now new keys next told number most more fault swept block before few broke) given
