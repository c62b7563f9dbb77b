-- The labels that are read, line by line.
use Rattle.std.proofs.Common.{◌≡◌, ℕ, ◌+◌, ◌<◌, ◌≤◌, Bool, true, false, cond, List, [], ◌∷◌, ◌++◌, length, refl, sym, ap, ◌∙◌, arith, suc, append_assoc}
use Rattle.std.specs.Prelude.{Option, Some, None, IfSome, ◌&&◌, ◌||◌, not, is_none, is_some}
use Rattle.std.specs.Borrow.{Bor}
use Rattle.std.specs.List.{list_any}
use Rattle.std.specs.Map.{update}
use Rattle.std.specs.Str.{bytes_eq}
use Rattle.std.proofs.lemmas.Bool.{false≢true}
use Rattle.std.proofs.lemmas.List.Folds.{list_any-append}
use Rattle.std.proofs.lemmas.Bool.Decides.{nat_tests}
use Rattle.std.proofs.lemmas.Slice.Eq.{bytes_eq-Decides}
use Rattle.bpf_insn.specs.declared.listing.TheConstants.{MAX_SLOTS}
use Rattle.bpf_asm.specs.declared.labels.Labels.{Labels}
use Rattle.bpf_asm.specs.Statements.{Line}
use Rattle.bpf_asm.specs.Meaning.{Places, place_at, label_slot, is_map, source_slots, places_from, lines_in}
use Rattle.bpf_asm.specs.inner.Meaning.{Near, known, HasPlaces, near, near_places, slots_of_lines, lines_left}

same_bytes : (a b : List ℕ) → bytes_eq a b ≡ true → a ≡ b
same_bytes a b same = grind (arith, bytes_eq-Decides a b)

-- ---- one more place

abbrev first_some : Option ℕ → Option ℕ → Option ℕ
first_some (Some slot) other = Some slot
first_some None other = other

slot_of-snoc : (places : Places) (name : List ℕ) (slot : ℕ) (q : List ℕ)
    → label_slot (places ++ ((name, slot) ∷ [])) q ≡ first_some (label_slot places q)
    (cond (bytes_eq name q) (Some slot) None)
slot_of-snoc [] name slot q = refl
slot_of-snoc (p ∷ ps) name slot q = by_test (slot_of-snoc ps name slot q) (bytes_eq p.0 q)
  where
    by_test : label_slot (ps ++ ((name, slot) ∷ [])) q ≡ first_some (label_slot ps q)
        (cond (bytes_eq name q) (Some slot) None)
        → (t : Bool) → cond t (Some p.1) (label_slot (ps ++ ((name, slot) ∷ [])) q)
        ≡ first_some (cond t (Some p.1) (label_slot ps q)) (cond (bytes_eq name q) (Some slot) None)
    by_test earlier true = refl
    by_test earlier false = earlier

map_table : (among here rest : Bool) (found : Option ℕ) (slot : ℕ)
    → not (among || (here || false)) && (rest && is_none found) ≡ (not among && rest)
    && is_none (cond here (Some slot) found)
map_table true here true found slot = refl
map_table true here false found slot = refl
map_table false true true found slot = refl
map_table false true false found slot = refl
map_table false false true found slot = refl
map_table false false false found slot = refl

is_map-snoc : (places : Places) (name : List ℕ) (slot : ℕ)
    → is_map (places ++ ((name, slot) ∷ [])) ≡ is_map places && is_none (label_slot places name)
is_map-snoc [] name slot = refl
is_map-snoc (p ∷ ps) name slot =
    ap (λ b. not b && is_map (ps ++ ((name, slot) ∷ [])))
    (list_any-append (λ q. bytes_eq p.0 q.0) ps ((name, slot) ∷ []))
    ∙ ap (λ b. not (list_any (λ q. bytes_eq p.0 q.0) ps || (bytes_eq p.0 name || false)) && b)
    (is_map-snoc ps name slot)
    ∙ map_table (list_any (λ q. bytes_eq p.0 q.0) ps) (bytes_eq p.0 name) (is_map ps) (label_slot ps name) p.1

-- a label that is there already
pub label_again : (labels new : Labels) (places : Places) (name : List ℕ) (slot : ℕ) → new.slots ≡ labels.slots
    → is_none new.twice ≡ false
    → is_some (known labels name) ≡ true → HasPlaces labels places → HasPlaces new (places ++ ((name, slot) ∷ []))
label_again labels new places name slot same twice there has = record {
  slots = λ q. ap (λ s. known (record { slots = s; twice = new.twice }) q) same ∙ has.slots q ∙ stays q
      ∙ sym (slot_of-snoc places name slot q);
  once = twice ∙ sym (is_map-snoc places name slot ∙ no_map (is_map places) (label_slot places name) there_too);
}
  where
    there_too : is_some (label_slot places name) ≡ true
    there_too = ap is_some (sym (has.slots name)) ∙ there

    no_map : (b : Bool) (found : Option ℕ) → is_some found ≡ true → b && is_none found ≡ false
    no_map true (Some s) some = refl
    no_map false (Some s) some = refl
    no_map b None some = absurd (false≢true some)

    by_found : (q : List ℕ) (t : Bool) (found : Option ℕ) → (t ≡ true → is_some found ≡ true)
        → found ≡ first_some found (cond t (Some slot) None)
    by_found q t (Some s) some = refl
    by_found q false None some = refl
    by_found q true None some = absurd (false≢true (some refl))

    stays : (q : List ℕ) → label_slot places q ≡ first_some (label_slot places q) (cond (bytes_eq name q) (Some slot) None)
    stays q = by_found q (bytes_eq name q) (label_slot places q)
        (λ same. ap (λ n. is_some (label_slot places n)) (sym (same_bytes name q same)) ∙ there_too)

-- a label that is new
pub label_new : (labels new : Labels) (places : Places) (name : List ℕ) (slot : ℕ)
    → ((q : List ℕ) → known new q ≡ update bytes_eq (known labels) name (Some slot) q) → new.twice ≡ labels.twice
    → is_some (known labels name) ≡ false → HasPlaces labels places → HasPlaces new (places ++ ((name, slot) ∷ []))
label_new labels new places name slot updated same absent has = record {
  slots = λ q. updated q ∙ ap (cond (bytes_eq name q) (Some slot)) (has.slots q) ∙ joins q
      ∙ sym (slot_of-snoc places name slot q);
  once = ap is_none same ∙ has.once ∙ sym (is_map-snoc places name slot
      ∙ still_map (is_map places) (label_slot places name) absent_too);
}
  where
    absent_too : is_some (label_slot places name) ≡ false
    absent_too = ap is_some (sym (has.slots name)) ∙ absent

    still_map : (b : Bool) (found : Option ℕ) → is_some found ≡ false → b && is_none found ≡ b
    still_map true None none = refl
    still_map false None none = refl
    still_map b (Some s) none = absurd (false≢true (sym none))

    by_found : (t : Bool) (found : Option ℕ) → (t ≡ true → is_some found ≡ false)
        → cond t (Some slot) found ≡ first_some found (cond t (Some slot) None)
    by_found true None none = refl
    by_found false None none = refl
    by_found false (Some s) none = refl
    by_found true (Some s) none = absurd (false≢true (sym (none refl)))

    joins : (q : List ℕ) → cond (bytes_eq name q) (Some slot) (label_slot places q) ≡ first_some (label_slot places q)
        (cond (bytes_eq name q) (Some slot) None)
    joins q = by_found (bytes_eq name q) (label_slot places q)
        (λ same. ap (λ n. is_some (label_slot places n)) (sym (same_bytes name q same)) ∙ absent_too)

-- ---- the loop

-- the bytes left, and one more for the line that they are
abbrev pub bytes_left : Option (Bor (List ℕ)) → ℕ
bytes_left None = 0
bytes_left (Some text) = suc (length text.now)

-- the places so far, with those of the lines that are left, are all
abbrev pub PlacesSoFar : Labels → List ℕ → ℕ → Option (Bor (List ℕ)) → Type 0
PlacesSoFar labels text slot rest = (places : Places)
    × (near_places 0 (lines_in text) ≡ places ++ near_places slot (lines_left rest)) × HasPlaces labels places

pub next_places : (all places : Places) (slot : ℕ) (front : List ℕ) (line : Line) (lines : List Line)
    → all ≡ places ++ near_places slot (lines_in front) → lines_in front ≡ line ∷ lines
    → all ≡ (places ++ place_at line.name slot) ++ near_places (near (slot + source_slots line.source)) lines
next_places all places slot front line lines before first =
    before ∙ ap (λ ls. places ++ near_places slot ls) first
    ∙ sym (append_assoc places (place_at line.name slot) (near_places (near (slot + source_slots line.source)) lines))

pub shorter_left : (front : List ℕ) (behind : Option (Bor (List ℕ)))
    → IfSome behind (λ rest. length rest.now < length front) → bytes_left behind < suc (length front)
shorter_left front None shorter = omega arith
shorter_left front (Some rest) shorter = omega arith

-- ---- places that are near

pub slot_within : (labels : Labels) (name : List ℕ) (found : Option ℕ) → Near (known labels)
    → found ≡ known labels name → IfSome found (λ slot. slot ≤ MAX_SLOTS)
slot_within labels name None near same = tt
slot_within labels name (Some slot) near same = near name slot (sym same)

near-le : (slot : ℕ) → near slot ≤ MAX_SLOTS
near-le slot = grind (arith, nat_tests)

near-same : (slot : ℕ) → slot ≤ MAX_SLOTS → near slot ≡ slot
near-same slot within = grind (arith, nat_tests)

near_bounded : (slot : ℕ) (lines : List Line) → slot ≤ MAX_SLOTS → Near (label_slot (near_places slot lines))
near_bounded slot [] within = λ q t found. absurd (cc)
near_bounded slot (line ∷ lines) within = by_name line.name
    (near_bounded (near (slot + source_slots line.source)) lines (near-le (slot + source_slots line.source)))
  where
    by_test : (q : List ℕ) (t : ℕ) (b : Bool) (rest : Option ℕ) → (rest ≡ Some t → t ≤ MAX_SLOTS)
        → cond b (Some slot) rest ≡ Some t → t ≤ MAX_SLOTS
    by_test q t true rest later found = let e : slot ≡ t = cc in omega arith
    by_test q t false rest later found = later found

    by_name : (name : Option (List ℕ)) → Near (label_slot (near_places (near (slot + source_slots line.source)) lines))
        → Near (label_slot (place_at name slot ++ near_places (near (slot + source_slots line.source)) lines))
    by_name None later = later
    by_name (Some name) later = λ q t. by_test q t (bytes_eq name q)
        (label_slot (near_places (near (slot + source_slots line.source)) lines) q) (later q t)

-- labels with the near places of lines know near slots alone
pub known_near : (labels : Labels) (lines : List Line) → HasPlaces labels (near_places 0 lines) → Near (known labels)
known_near labels lines has = λ q t found. near_bounded 0 lines (omega arith) q t (sym (has.slots q) ∙ found)

pub near_all : (slot : ℕ) (lines : List Line) → slot + slots_of_lines lines ≤ MAX_SLOTS
    → near_places slot lines ≡ places_from slot lines
near_all slot [] within = refl
near_all slot (line ∷ lines) within =
    let here : near (slot + source_slots line.source) ≡ slot + source_slots line.source = near-same
    (slot + source_slots line.source) (omega arith) in
    ap (λ s. place_at line.name slot ++ near_places s lines) here
    ∙ ap (λ ps. place_at line.name slot ++ ps) (near_all (slot + source_slots line.source) lines (omega arith))
