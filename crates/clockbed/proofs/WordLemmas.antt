-- The words that are made of words, one after another.
use Rattle.std.proofs.Common.{◌≡◌, ◌++◌, ◌∷◌, ◌<◌, ◌≤◌, ◌+◌, ◌∙◌, ℕ, List, [], None, Option, Some, ap, append-nil, append_assoc, drop, get_or, inl, inr, length, map, refl, subst, sym}
use Rattle.std.proofs.lemmas.List.{drop_all, drop_more}
use Rattle.command_answers.specs.declared.fault.Fault.{Fault}
use Rattle.command_answers.specs.declared.fault.Fault.TheVariants.{Read, Write, Memory, Thread, CommandLine}
use Rattle.clockbed.specs.Words.{AreWordsFor, IsFaultOfWords, IsWordFor, NamesAny, NamesSome}

-- what is left of a list, from an element on
rest_at : {X : Type 0} (text : X → List ℕ) (xs : List X) (i : ℕ) (x : X) (word : List ℕ) → i < length xs
    → x ≡ get_or xs i x → word ≡ text x → map text (drop i xs) ≡ word ∷ map text (drop (i + 1) xs)
rest_at text xs i x word within at is =
    ap (map text) (drop_more xs i x within)
    ∙ ap (λ w. w ∷ map text (drop (i + 1) xs)) (ap text (sym at) ∙ sym is)

-- one word more is made
pub words_more : {X : Type 0} (text : X → List ℕ) (files : List ℕ → Option (List ℕ)) (before : Option (List ℕ))
    (xs : List X) (i : ℕ) (x : X) (word made : List ℕ) (all : List (List ℕ)) → i < length xs → x ≡ get_or xs i x
    → word ≡ text x → IsWordFor files before word made
    → ((rest : List (List ℕ)) → AreWordsFor files before (map text (drop i xs)) rest
    → AreWordsFor files None (map text xs) (all ++ rest))
    → (rest : List (List ℕ)) → AreWordsFor files (Some word) (map text (drop (i + 1) xs)) rest
    → AreWordsFor files None (map text xs) ((all ++ (made ∷ [])) ++ rest)
words_more text files before xs i x word made all within at is made_of so_far rest more =
    subst (AreWordsFor files None (map text xs)) (sym (append_assoc all (made ∷ []) rest))
    (so_far (made ∷ rest)
    (subst (λ (ws : List (List ℕ)). AreWordsFor files before ws (made ∷ rest))
    (sym (rest_at text xs i x word within at is)) (made, rest, refl, made_of, more)))

-- a file is named by this word or by a later one
pub names_more : {X : Type 0} (text : X → List ℕ) (before : Option (List ℕ)) (xs : List X) (i : ℕ) (x : X)
    (word : List ℕ) → i < length xs → x ≡ get_or xs i x → word ≡ text x
    → (NamesSome before (map text (drop i xs)) → NamesSome None (map text xs))
    → NamesSome (Some word) (map text (drop (i + 1) xs)) → NamesSome None (map text xs)
names_more text before xs i x word within at is so_far more =
    so_far (subst (NamesSome before) (sym (rest_at text xs i x word within at is)) (inr more))

names_here : {X : Type 0} (text : X → List ℕ) (before : Option (List ℕ)) (xs : List X) (i : ℕ) (x : X)
    (word : List ℕ) → i < length xs → x ≡ get_or xs i x → word ≡ text x
    → (NamesSome before (map text (drop i xs)) → NamesSome None (map text xs))
    → NamesAny before word → NamesSome None (map text xs)
names_here text before xs i x word within at is so_far named =
    so_far (subst (NamesSome before) (sym (rest_at text xs i x word within at is)) (inl named))

-- the fault of one word is one of the words
pub fault_here : {X : Type 0} (text : X → List ℕ) (before : Option (List ℕ)) (xs : List X) (i : ℕ) (x : X)
    (word : List ℕ) (fault : Fault) → i < length xs → x ≡ get_or xs i x → word ≡ text x
    → (NamesSome before (map text (drop i xs)) → NamesSome None (map text xs))
    → IsFaultOfWords (NamesAny before word) fault
    → IsFaultOfWords (NamesSome None (map text xs)) fault
fault_here text before xs i x word Read within at is so_far named =
    names_here text before xs i x word within at is so_far named
fault_here text before xs i x word (Write after) within at is so_far none = none
fault_here text before xs i x word Memory within at is so_far gone = tt
fault_here text before xs i x word Thread within at is so_far none = none
fault_here text before xs i x word (CommandLine said) within at is so_far named =
    names_here text before xs i x word within at is so_far named

-- no word is left
pub words_end : {X : Type 0} (text : X → List ℕ) (files : List ℕ → Option (List ℕ)) (before : Option (List ℕ))
    (xs : List X) (i : ℕ) (all : List (List ℕ)) → length xs ≤ i
    → ((rest : List (List ℕ)) → AreWordsFor files before (map text (drop i xs)) rest
    → AreWordsFor files None (map text xs) (all ++ rest)) → AreWordsFor files None (map text xs) all
words_end text files before xs i all past so_far =
    subst (AreWordsFor files None (map text xs)) (append-nil all)
    (so_far [] (subst (λ ys. AreWordsFor files before (map text ys) []) (sym (drop_all i xs past)) refl))
