-- The word at the front of a text, byte by byte.
use Rattle.std.proofs.Common.{◌≡◌, ℕ, ◌+◌, ◌<◌, Bool, true, false, List, [], ◌∷◌, ◌++◌, length, take, drop, get_or, refl, sym, ap, ◌∙◌, append_assoc, append-nil, cond, add-one, arith}
use Rattle.std.specs.Prelude.{if◌then◌else◌, filter, map}
use Rattle.std.proofs.lemmas.List.{map-append}
use Rattle.std.proofs.lemmas.List.Elements.{filter_more}
use Rattle.rule_text.specs.declared.scope.Entry.{Entry}
use Rattle.rule_text.specs.Scopes.{is_word}
use Rattle.std.proofs.Math.Seq.{drop-cons}
use Rattle.std.proofs.lemmas.Bool.Decides.{nat_tests}
use Rattle.rule_text.specs.declared.lexemes.Class.TheVariants.{Letters}
use Rattle.rule_text.specs.Tokens.{is_in}
use Rattle.rule_text.specs.Words.{front_word, names_at}

pub is_ascii : (c : ℕ) → is_in Letters c ≡ true → c < 128
is_ascii c is = grind (arith, is, nat_tests)

pub front_more : (text done : List ℕ) (i c : ℕ) → i < length text → c ≡ get_or text i c → is_in Letters c ≡ true
    → front_word text ≡ done ++ front_word (drop i text)
    → front_word text ≡ (done ++ c ∷ []) ++ front_word (drop (i + 1) text)
front_more text done i c within is passes before =
    let rest = drop (i + 1) text in
    let first : drop i text ≡ c ∷ rest = (rw add-one (drop-cons text i c within)) ∙ ap (λ (x : ℕ). x ∷ rest) (sym is) in
    let here : front_word (drop i text) ≡ c ∷ front_word rest =
    ap front_word first ∙ ap (λ (b : Bool). cond b (c ∷ front_word rest) []) passes in
    before ∙ ap (λ (l : List ℕ). done ++ l) here ∙ sym (append_assoc done (c ∷ []) (front_word rest))

pub front_ends : (text done : List ℕ) (i c : ℕ) → i < length text → c ≡ get_or text i c → is_in Letters c ≡ false
    → front_word text ≡ done ++ front_word (drop i text) → front_word text ≡ done ++ []
front_ends text done i c within is fails before =
    let rest = drop (i + 1) text in
    let first : drop i text ≡ c ∷ rest = (rw add-one (drop-cons text i c within)) ∙ ap (λ (x : ℕ). x ∷ rest) (sym is) in
    let here : front_word (drop i text) ≡ [] =
    ap front_word first ∙ ap (λ (b : Bool). cond b (c ∷ front_word rest) []) fails in
    before ∙ ap (λ (l : List ℕ). done ++ l) here

-- ---- names of words among other names

-- the names so far, and the next one if it is that of a word
names_next : (text : List ℕ) (names : List Entry) (i : ℕ) (e : Entry) (b : Bool) → i < length names
    → e ≡ get_or names i e → is_word e.meaning ≡ b
    → names_at text (take (i + 1) names)
    ≡ names_at text (take i names) ++ (if b then front_word (drop e.name.from text) ∷ [] else [])
names_next text names i e b within is test =
    let word : Entry → List ℕ = λ n. front_word (drop n.name.from text) in
    let passes : Entry → Bool = λ n. is_word n.meaning in
    let before = filter passes (take i names) in
    ap (map word)
    (filter_more passes names i e within
    ∙ ap (λ (n : Entry). before ++ cond (passes n) (n ∷ []) []) (sym is)
    ∙ ap (λ (c : Bool). before ++ cond c (e ∷ []) []) test)
    ∙ map-append word before (cond b (e ∷ []) []) ∙ ap (λ (l : List (List ℕ)). map word before ++ l) (by b)
  where
    by : (c : Bool) → map (λ (n : Entry). front_word (drop n.name.from text)) (cond c (e ∷ []) [])
        ≡ (if c then front_word (drop e.name.from text) ∷ [] else [])
    by true = refl
    by false = refl

pub name_kept : (text : List ℕ) (names : List Entry) (i : ℕ) (e : Entry) → i < length names → e ≡ get_or names i e
    → is_word e.meaning ≡ true
    → names_at text (take (i + 1) names) ≡ names_at text (take i names) ++ front_word (drop e.name.from text) ∷ []
name_kept text names i e within is test = names_next text names i e true within is test

pub name_passed : (text : List ℕ) (names : List Entry) (i : ℕ) (e : Entry) → i < length names → e ≡ get_or names i e
    → is_word e.meaning ≡ false → names_at text (take (i + 1) names) ≡ names_at text (take i names)
name_passed text names i e within is test =
    names_next text names i e false within is test ∙ append-nil (names_at text (take i names))
