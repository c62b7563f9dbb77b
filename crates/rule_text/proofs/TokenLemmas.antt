-- Texts read byte by byte, and tokens one by one.
use Rattle.std.proofs.Common.{◌≡◌, ℕ, zero, suc, ◌+◌, ◌-◌, ◌*◌, ◌<◌, ◌≤◌, Bool, true, false, List, [], ◌∷◌, ◌++◌}
use Rattle.std.proofs.Common.{length, drop, get_or, refl, sym, ap, ◌∙◌, append_assoc, cond, add-one, arith}
use Rattle.std.proofs.Common.{Some, None}
use Rattle.std.proofs.Math.Seq.{drop-cons}
use Rattle.std.specs.Prelude.{nat_le}
use Rattle.std.proofs.lemmas.Bool.Decides.{nat_tests}
use Rattle.rule_text.specs.declared.lexemes.Class.{Class}
use Rattle.rule_text.specs.declared.lexemes.Place.{Place}
use Rattle.rule_text.specs.declared.lexemes.Lexeme.{Lexeme}
use Rattle.rule_text.specs.declared.lexemes.Position.{Position}
use Rattle.rule_text.specs.declared.lexemes.Token.{Token}
use Rattle.rule_text.specs.declared.layout.Lines.{Lines}
use Rattle.rule_text.specs.Tokens.{is_in, run, decimal, number_spelled, lexeme_at, past, tokens_at, end_after, lexemes_from, laid}
use Rattle.rule_text.specs.Tokens.{beyond, laid_from}

-- ---- numbers

decimal_grows : (n : ℕ) (ds : List ℕ) → n ≤ decimal n ds
decimal_grows n [] = omega arith
decimal_grows n (c ∷ cs) = let more = decimal_grows (n * 10 + (c - 48)) cs in omega (arith, more)

pub next_decimal : (ds : List ℕ) (i n : ℕ) → i < length ds → decimal 0 ds ≡ decimal n (drop i ds)
    → decimal 0 ds ≡ decimal (n * 10 + (get_or ds i 0 - 48)) (drop (i + 1) ds)
next_decimal ds i n within before =
    let first : drop i ds ≡ get_or ds i 0 ∷ drop (i + 1) ds = rw add-one (drop-cons ds i 0 within) in
    before ∙ ap (decimal n) first

pub too_great : (ds : List ℕ) (i n : ℕ) → i < length ds → 4294967295 < n * 10 + (get_or ds i 0 - 48)
    → decimal 0 ds ≡ decimal n (drop i ds) → None ≡ number_spelled ds
too_great ds i n within great before =
    let next = next_decimal ds i n within before in
    let more = decimal_grows (n * 10 + (get_or ds i 0 - 48)) (drop (i + 1) ds) in
    let big : 4294967295 < decimal 0 ds = omega (arith, more, next, great) in
    let no : nat_le (decimal 0 ds) 4294967295 ≡ false = grind (arith, nat_tests) in
    sym (ap (λ (b : Bool). cond b (Some (decimal 0 ds)) None) no)

-- ---- bytes of a class

pub run_more : (class : Class) (text : List ℕ) (i : ℕ) → i < length text → is_in class (get_or text i 0) ≡ true
    → run class text ≡ i + run class (drop i text) → run class text ≡ (i + 1) + run class (drop (i + 1) text)
run_more class text i within passes before =
    let rest = drop (i + 1) text in
    let first : drop i text ≡ get_or text i 0 ∷ rest = rw add-one (drop-cons text i 0 within) in
    let here : run class (drop i text) ≡ run class rest + 1 =
    ap (run class) first ∙ ap (λ (b : Bool). cond b (run class rest + 1) 0) passes in
    omega (arith, before, here)

pub run_ends : (class : Class) (text : List ℕ) (i : ℕ) → i < length text → is_in class (get_or text i 0) ≡ false
    → run class text ≡ i + run class (drop i text) → run class text ≡ i
run_ends class text i within fails before =
    let rest = drop (i + 1) text in
    let first : drop i text ≡ get_or text i 0 ∷ rest = rw add-one (drop-cons text i 0 within) in
    let here : run class (drop i text) ≡ 0 =
    ap (run class) first ∙ ap (λ (b : Bool). cond b (run class rest + 1) 0) fails in
    omega (arith, before, here)

-- ---- the lexemes

pub byte_skipped : (done : List Token) (skip : ℕ) (end : Position) (at : Place) (c : ℕ) (cs : List ℕ) → 0 < skip
    → done ++ lexemes_from skip end at (c ∷ cs) ≡ done ++ lexemes_from (skip - 1) end (past at c) cs
byte_skipped done zero end at c cs some = absurd (omega arith)
byte_skipped done (suc skip) end at c cs some = let e : suc skip - 1 ≡ skip = omega arith in rw e refl

pub byte_read : (done more : List Token) (skip : ℕ) (end next : Position) (at : Place) (c : ℕ) (cs : List ℕ)
    (here : Lexeme) → skip ≡ 0 → here ≡ lexeme_at at (c ∷ cs) → more ≡ done ++ tokens_at here.kind end at
    → next ≡ end_after here.kind here.further end at
    → done ++ lexemes_from skip end at (c ∷ cs) ≡ more ++ lexemes_from here.further next (past at c) cs
byte_read done more skip end next at c cs here none is made ended =
    let after : Lexeme → List Token =
    λ l. lexemes_from l.further (end_after l.kind l.further end at) (past at c) cs in
    ap (λ (k : ℕ). done ++ lexemes_from k end at (c ∷ cs)) none
    ∙ ap (λ (l : Lexeme). done ++ (tokens_at l.kind end at ++ after l)) (sym is)
    ∙ sym (append_assoc done (tokens_at here.kind end at) (after here))
    ∙ ap (λ (l : List Token). l ++ after here) (sym made)
    ∙ ap (λ (e : Position). more ++ lexemes_from here.further e (past at c) cs) (sym ended)

pub next_byte : (text : List ℕ) (i skip next : ℕ) (end later : Position) (at : Place) (all done more : List Token)
    → i < length text
    → ((c : ℕ) (cs : List ℕ) → drop i text ≡ c ∷ cs
    → done ++ lexemes_from skip end at (c ∷ cs) ≡ more ++ lexemes_from next later (past at c) cs)
    → all ≡ done ++ lexemes_from skip end at (drop i text)
    → all ≡ more ++ lexemes_from next later (past at (get_or text i 0)) (drop (i + 1) text)
next_byte text i skip next end later at all done more within step before =
    let first : drop i text ≡ get_or text i 0 ∷ drop (i + 1) text = rw add-one (drop-cons text i 0 within) in
    before ∙ ap (λ (l : List ℕ). done ++ lexemes_from skip end at l) first ∙ step _ _ first

-- ---- lines

pub next_token : (tokens : List Token) (i : ℕ) (t : Token) (s : Lines) (all done more : List Token) → i < length tokens
    → t ≡ get_or tokens i t → more ≡ done ++ laid s t → all ≡ done ++ laid_from s (drop i tokens)
    → all ≡ more ++ laid_from (beyond s t) (drop (i + 1) tokens)
next_token tokens i t s all done more within is made before =
    let first : drop i tokens ≡ t ∷ drop (i + 1) tokens =
    (rw add-one (drop-cons tokens i t within)) ∙ ap (λ (x : Token). x ∷ drop (i + 1) tokens) (sym is) in
    before ∙ ap (λ (l : List Token). done ++ laid_from s l) first
    ∙ sym (append_assoc done (laid s t) (laid_from (beyond s t) (drop (i + 1) tokens)))
    ∙ ap (λ (l : List Token). l ++ laid_from (beyond s t) (drop (i + 1) tokens)) (sym made)
