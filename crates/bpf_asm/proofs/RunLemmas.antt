-- Runs of letters read byte by byte.
use Rattle.std.proofs.Common.{◌≡◌, ℕ, ◌+◌, ◌<◌, Bool, true, false, List, [], ◌∷◌, ◌++◌, length, take, drop, get_or, refl, sym, ap, ◌∙◌, append_assoc, append-nil, cond, add-one}
use Rattle.std.proofs.Math.Seq.{take-suc, drop-cons}
use Rattle.bpf_asm.specs.Pieces.{front_of, rest_of, before_more, before_blanks, is_blank}

opened : (text : List ℕ) (i : ℕ) → i < length text → drop i text ≡ get_or text i 0 ∷ drop (i + 1) text
opened text i within = rw add-one (drop-cons text i 0 within)

taken : (text : List ℕ) (i : ℕ) → i < length text → take (i + 1) text ≡ take i text ++ (get_or text i 0 ∷ [])
taken text i within = rw add-one (take-suc text i 0 within)

-- the front so far, of which i bytes are read
abbrev pub Fronts : (ℕ → Bool) → List ℕ → ℕ → Type 0
Fronts p text i = (front_of p text ≡ take i text ++ front_of p (drop i text))
    × (rest_of p text ≡ rest_of p (drop i text))

pub front_more : (p : ℕ → Bool) (text : List ℕ) (i : ℕ) → i < length text → p (get_or text i 0) ≡ true
    → Fronts p text i → Fronts p text (i + 1)
front_more p text i within passes before =
    let c = get_or text i 0 in
    let rest = drop (i + 1) text in
    let front : front_of p (drop i text) ≡ c ∷ front_of p rest =
    ap (front_of p) (opened text i within) ∙ ap (λ b. cond b (c ∷ front_of p rest) []) passes in
    let behind : rest_of p (drop i text) ≡ rest_of p rest =
    ap (rest_of p) (opened text i within) ∙ ap (λ b. cond b (rest_of p rest) (c ∷ rest)) passes in (
      before.0 ∙ ap (λ l. take i text ++ l) front ∙ sym (append_assoc (take i text) (c ∷ []) (front_of p rest))
          ∙ ap (λ l. l ++ front_of p rest) (sym (taken text i within)),
      before.1 ∙ behind,
    )

pub front_ends : (p : ℕ → Bool) (text : List ℕ) (i : ℕ) → i < length text → p (get_or text i 0) ≡ false
    → Fronts p text i
    → (front_of p text ≡ take i text) × (rest_of p text ≡ drop i text)
front_ends p text i within fails before =
    let c = get_or text i 0 in
    let rest = drop (i + 1) text in
    let front : front_of p (drop i text) ≡ [] =
    ap (front_of p) (opened text i within) ∙ ap (λ b. cond b (c ∷ front_of p rest) []) fails in
    let behind : rest_of p (drop i text) ≡ drop i text =
    ap (rest_of p) (opened text i within) ∙ ap (λ b. cond b (rest_of p rest) (c ∷ rest)) fails
    ∙ sym (opened text i within) in
    (before.0 ∙ ap (λ l. take i text ++ l) front ∙ append-nil (take i text), before.1 ∙ behind)

-- a blank behind a text goes
more_keeps : (d : ℕ) (xs : List ℕ) (c : ℕ) → before_more d (xs ++ (c ∷ [])) ≡ d ∷ (xs ++ (c ∷ []))
more_keeps d [] c = refl
more_keeps d (x ∷ xs) c = refl

pub blank_goes : (xs : List ℕ) (c : ℕ) → is_blank c ≡ true → before_blanks (xs ++ (c ∷ [])) ≡ before_blanks xs
blank_goes [] c blank = ap (λ b. cond b [] (c ∷ [])) blank
blank_goes (x ∷ xs) c blank = ap (before_more x) (blank_goes xs c blank)

-- another byte keeps the whole text
pub byte_stays : (xs : List ℕ) (c : ℕ) → is_blank c ≡ false → before_blanks (xs ++ (c ∷ [])) ≡ xs ++ (c ∷ [])
byte_stays [] c filled = ap (λ b. cond b [] (c ∷ [])) filled
byte_stays (x ∷ xs) c filled = ap (before_more x) (byte_stays xs c filled) ∙ more_keeps x xs c

-- one more byte of a text
pub next_blank : (text : List ℕ) (i end : ℕ) → i < length text → is_blank (get_or text i 0) ≡ true
    → before_blanks (take i text) ≡ take end text → before_blanks (take (i + 1) text) ≡ take end text
next_blank text i end within blank before = ap before_blanks (taken text i within)
    ∙ blank_goes (take i text) (get_or text i 0) blank ∙ before

pub next_byte : (text : List ℕ) (i : ℕ) → i < length text → is_blank (get_or text i 0) ≡ false
    → before_blanks (take (i + 1) text) ≡ take (i + 1) text
next_byte text i within filled =
    ap before_blanks (taken text i within) ∙ byte_stays (take i text) (get_or text i 0) filled
    ∙ sym (taken text i within)
