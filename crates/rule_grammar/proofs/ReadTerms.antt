-- A term that is spelled is read.
use Rattle.std.proofs.Common.{◌≡◌, inl, inr, ℕ, zero, suc, cond, List, [], ◌∷◌, ◌++◌, length, refl, sym, ap, subst, ◌∙◌, arith, append_assoc}
use Rattle.std.specs.Prelude.{Bool, true, option_map, Option, Some, None, Ok, Err}
use Rattle.std.proofs.lemmas.Bool.{lt-leb}
use Rattle.rule_syntax.specs.declared.syntax.Comparison.{Comparison}
use Rattle.rule_text.specs.declared.errors.RuleError.TheVariants.{TooDeep, TooLong}
use Rattle.rule_text.specs.declared.signs.Sign.{Sign}
use Rattle.rule_text.specs.declared.signs.Sign.TheVariants as signs
use Rattle.rule_text.specs.declared.lexemes.Kind.{Kind}
use Rattle.rule_text.specs.declared.lexemes.Kind.TheVariants.{Mark}
use Rattle.rule_text.specs.declared.lexemes.Token.{Token}
use Rattle.rule_text.specs.declared.layout.TheConstants.{MAX_LINE_TOKENS}
use Rattle.rule_text.specs.declared.scope.Meaning.{Meaning}
use Rattle.rule_text.specs.declared.scope.Meaning.TheVariants.{Table}
use Rattle.rule_text.specs.declared.scope.Entry.{Entry}
use Rattle.rule_text.specs.declared.scope.Maker.{Maker}
use Rattle.rule_text.specs.declared.scope.Maker.TheVariants as makers
use Rattle.rule_text.specs.declared.scope.TheConstants.{MAX_NAMES}
use Rattle.rule_text.specs.declared.joints.Joint.{Joint}
use Rattle.rule_text.specs.declared.joints.Chain.{Chain}
use Rattle.rule_text.specs.declared.joints.Chain.TheVariants as chains
use Rattle.rule_text.specs.declared.terms.Grade.TheVariants.{Whole, Inverse}
use Rattle.rule_text.specs.declared.terms.TheConstants.{MAX_PARTS}
use Rattle.rule_text.specs.Forms.{TermForm, is_constant_form}
use Rattle.rule_text.specs.Tables.{SourceForm, table_at, table_term}
use Rattle.rule_text.specs.Scopes.{rule_error_at, meaning_of, scope_entry, next_meaning, added, named_entry_by, named_entry, new_name}
use Rattle.rule_text.specs.Terms.{joint_of, join, named_term, leaf_of, item_read, place_read, Reader, Inner, leaf, named_leaf, leaf_by, leaf_read, lookup_read, named_atom, marked_atom, atom, chain_step, chain_rest, compare_read, inverse_read, operand_read, chain_read, whole_read, part, term_read}
use Rattle.rule_text.specs.Spelling as s
use Rattle.rule_grammar.proofs.Readings.{Gives, found, bind, by_some, by_none, by_true, IsClear, Clear, limit_in, after_sign, wanted_sign, first_no}
use Rattle.rule_grammar.proofs.Levels.{Ends, ends_tighter, ends_at, ends_clear, no_if, no_joint, joint_ends, no_comparison, comparison_ends, ends_nameless, sign_nameless, no_aggregate, no_sorted, sorted_first, count_first, least_first, opening, starts, term_clear}

module _ (text : List ℕ) where
  -- ---- names

  entry_gives : (maker : Maker) (names more : List Entry) (t : Token) → s.IsNew text maker names t more
      → named_entry text maker names t ≡ Ok more
  entry_gives maker names more t new =
      ap (λ (kind : Kind). named_entry_by text maker names kind t) new.named.is
      ∙ ap (λ (known : Option Meaning). added known maker new.name names t) new.new
      ∙ ap (λ (full : Bool). cond full (Err (rule_error_at TooDeep t))
      (Ok (names ++ scope_entry new.name (next_meaning maker names) ∷ []))) (lt-leb MAX_NAMES (length names) new.room)
      ∙ ap Ok (sym new.added)

  pub new_gives : (maker : Maker) (names more : List Entry) (t : Token) (ts : List Token)
      → s.IsNew text maker names t more → Gives (new_name text maker names (t ∷ ts)) (more, ts)
  new_gives maker names more t ts new = bind _ (found (entry_gives maker names more t new)) (found refl)

  -- ---- terms of one token

  pub found_leaf : (o : Option TermForm) (t : Token) (a : TermForm) → o ≡ Some a → Gives (leaf o t) a
  found_leaf o t a e = subst (λ (q : Option TermForm). Gives (leaf q t) a) (sym e) (found refl)

  named_leaf_read : (o : Option Meaning) (t : Token) (meaning : Meaning) (a : TermForm) → o ≡ Some meaning
      → named_term meaning ≡ Some a → Gives (named_leaf o t) a
  named_leaf_read o t meaning a e f =
      subst (λ (q : Option Meaning). Gives (named_leaf q t) a) (sym e) (found_leaf (named_term meaning) t a f)

  leaf_by_gives : (names : List Entry) (t : Token) (a : TermForm) → s.IsLeaf text names t a
      → Gives (leaf_by text names t.kind t) a
  leaf_by_gives names t a (s.numeral h) = rw h.is (found refl)
  leaf_by_gives names t a (s.named {name = name} {meaning = meaning} h e f) =
      rw h.is (named_leaf_read (meaning_of text names name) _ meaning a e f)
  leaf_by_gives names t a (s.given {s = sign} h e) = rw h.is (found_leaf (leaf_of sign) _ a e)

  pub leaf_gives : (names : List Entry) (t : Token) (rest : List Token) (a : TermForm) → s.IsLeaf text names t a
      → Gives (leaf_read text names (t ∷ rest)) (a, rest)
  leaf_gives names t rest a one = bind _ (leaf_by_gives names t a one) (found refl)

module _ (source : SourceForm) where
  -- ---- the readers of the levels

  abbrev reader : ℕ → List Entry → s.Level → Reader
  reader room names s.whole = whole_read (part room source) source names
  reader room names (s.chain kind) = chain_read (part room source) source names kind
  reader room names s.inverted = inverse_read (part room source) source names
  reader room names s.compared = compare_read (part room source) source names
  reader room names s.atom = atom (part room source) source names

  abbrev operand : ℕ → List Entry → Chain → Reader
  operand room names kind = operand_read (part room source) source names kind

  -- a term is read of these tokens, where it ends
  abbrev Plain : s.Level → List Entry → List Token → TermForm → Type 0
  Plain level names ts a =
      (room : ℕ) (rest : List Token) → Ends level rest → Gives (reader room names level (ts ++ rest)) (a, rest)

  -- a chain is read of these tokens, whether or not it goes on
  abbrev Chained : Chain → List Entry → List Token → TermForm → Type 0
  Chained kind names ts a = (room : ℕ) (rest : List Token) (y : TermForm × List Token)
      → Ends (s.tighter (s.chain kind)) rest → ((n : ℕ) → Gives (chain_rest n kind (operand room names kind) a rest) y)
      → Gives (chain_read (part room source) source names kind (ts ++ rest)) y

  abbrev Holds : s.Level → List Entry → List Token → TermForm → Type 0
  Holds (s.chain kind) = Chained kind
  Holds level = Plain level

  -- ---- parts

  -- if there is room for one more part
  whole_part : (names : List Entry) (ts : List Token) (y : TermForm × List Token) → Clear ts
      → ((room : ℕ) → Gives (whole_read (part room source) source names ts) y) → (room : ℕ)
      → Gives (part room source Whole names ts) y
  unfolding part
  whole_part names ts y clear h zero = limit_in TooDeep ts y (inl refl) clear
  whole_part names ts y clear h (suc room) = h room

  inverse_part : (names : List Entry) (ts : List Token) (y : TermForm × List Token) → Clear ts
      → ((room : ℕ) → Gives (inverse_read (part room source) source names ts) y) → (room : ℕ)
      → Gives (part room source Inverse names ts) y
  unfolding part
  inverse_part names ts y clear h zero = limit_in TooDeep ts y (inl refl) clear
  inverse_part names ts y clear h (suc room) = h room

  -- a whole term as a part
  inner_gives : {names : List Entry} {ts : List Token} {a : TermForm} → s.IsTerm source s.whole names ts a
      → Plain s.whole names ts a → (room : ℕ) (rest : List Token) → Ends s.whole rest
      → Gives (part room source Whole names (ts ++ rest)) (a, rest)
  inner_gives {names} {ts} {a} d h room rest ends =
      whole_part names (ts ++ rest) (a, rest) (term_clear d rest) (λ r. h r rest ends) room

  -- ---- chains

  -- no operator of the chain is next
  chain_over : (n : ℕ) (kind : Chain) (read : Reader) (a : TermForm) (rest : List Token) → Ends (s.chain kind) rest
      → Gives (chain_rest n kind read a rest) (a, rest)
  unfolding chain_rest
  chain_over zero kind read a rest ends =
      limit_in TooLong rest (a, rest) (inr refl) (ends_clear (s.chain kind) rest ends)
  chain_over (suc n) kind read a rest ends =
      subst (λ (o : Option (Joint × List Token)). Gives (chain_step (chain_rest n kind read) read a rest o) (a, rest))
      (sym (no_joint kind rest ends)) (found refl)

  -- an operator and one more operand
  chain_more : (n : ℕ) (kind : Chain) (read : Reader) (a b : TermForm) (joint : Joint) (o : Token)
      (us rest : List Token) (y : TermForm × List Token) → joint_of kind o.kind ≡ Some joint → IsClear o.kind
      → Gives (read us) (b, rest)
      → ((n : ℕ) → Gives (chain_rest n kind read (join joint a b) rest) y)
      → Gives (chain_rest n kind read a (o ∷ us)) y
  unfolding chain_rest
  chain_more zero kind read a b joint o us rest y e plainly h k = limit_in TooLong (o ∷ us) y (inr refl) plainly
  chain_more (suc n) kind read a b joint o us rest y e plainly h k =
      subst (λ (x : Option Joint). Gives (chain_step (chain_rest n kind read) read a (o ∷ us)
      (option_map (λ joint. (joint, us)) x)) y) (sym e) (bind _ h (k n))

  plain_of : (level : s.Level) (names : List Entry) (ts : List Token) (a : TermForm) → Holds level names ts a
      → Plain level names ts a
  plain_of (s.chain kind) names ts a h = λ room rest ends.
      h room rest (a, rest) (ends_tighter (s.chain kind) rest ends)
      (λ n. chain_over n kind (operand room names kind) a rest ends)
  plain_of level names ts a h = h

  plain : {level : s.Level} {names : List Entry} {ts : List Token} {a : TermForm} → s.IsTerm source level names ts a
      → Holds level names ts a → Plain level names ts a
  plain {level} {names} {ts} {a} d h = plain_of level names ts a h

  operand_of : (kind : Chain) (names : List Entry) (ts : List Token) (a : TermForm)
      → Plain (s.tighter (s.chain kind)) names ts a → (room : ℕ) (rest : List Token)
      → Ends (s.tighter (s.chain kind)) rest → Gives (operand room names kind (ts ++ rest)) (a, rest)
  operand_of chains.Product names ts a h = h
  operand_of kind names ts a h = h

  alone_holds : (level : s.Level) (names : List Entry) (ts : List Token) (a : TermForm)
      → s.IsTerm source (s.tighter level) names ts a → Plain (s.tighter level) names ts a → Holds level names ts a
  alone_holds s.whole names ts a d h = λ room rest ends.
      by_none _ _ (no_aggregate d (omega arith) rest (ends_nameless s.whole rest ends))
      (by_none _ _ (no_sorted d (omega arith) rest)
      (bind _ (h room rest (ends_tighter s.whole rest ends)) (by_none _ _ (no_if rest ends) (found refl))))
  alone_holds (s.chain kind) names ts a d h = λ room rest y ends k.
      bind _ (operand_of kind names ts a h room rest ends) (k MAX_LINE_TOKENS)
  alone_holds s.inverted names ts a d h = λ room rest ends.
      by_none _ _ (first_no opening 3 signs.Not (ts ++ rest) (starts d rest) (omega arith))
      (h room rest (ends_tighter s.inverted rest ends))
  alone_holds s.compared names ts a d h = λ room rest ends.
      bind _ (h room rest (ends_tighter s.compared rest ends)) (by_none _ _ (no_comparison rest ends) (found refl))
  alone_holds s.atom names ts a d h = h

  -- ---- atoms

  given_gives : (inner : Inner) (names : List Entry) (sign : Sign) (t : Token) (rest : List Token) (a : TermForm)
      → leaf_of sign ≡ Some a → Gives (marked_atom inner names sign t rest) (a, rest)
  given_gives inner names signs.Open t rest a e = absurd (let no : None ≡ Some a = e in cc)
  given_gives inner names signs.Mail t rest a e = absurd (let no : None ≡ Some a = e in cc)
  given_gives inner names sign t rest a e =
      bind (λ x. Ok (x, rest)) (found_leaf source.text (leaf_of sign) t a e) (found refl)

  -- a name that is no table's
  single_gives : (names : List Entry) (o : Option Meaning) (meaning : Meaning) (t : Token) (rest : List Token)
      (a : TermForm) → o ≡ Some meaning → named_term meaning ≡ Some a
      → Gives (named_atom source names o t rest) (a, rest)
  single_gives names o meaning t rest a e f =
      subst (λ (q : Option Meaning). Gives (named_atom source names q t rest) (a, rest)) (sym e) (by meaning f)
    where
      by : (m : Meaning) → named_term m ≡ Some a → Gives (named_atom source names (Some m) t rest) (a, rest)
      by (Table k) g = absurd (let no : None ≡ Some a = g in cc)
      by m g = bind (λ x. Ok (x, rest)) (found_leaf source.text (named_term m) t a g) (found refl)

  leaf_atom : (inner : Inner) (names : List Entry) (t : Token) (rest : List Token) (a : TermForm)
      → s.IsLeaf source.text names t a → Gives (atom inner source names (t ∷ rest)) (a, rest)
  leaf_atom inner names t rest a (s.numeral h) = rw h.is (found refl)
  leaf_atom inner names t rest a (s.named {name = name} {meaning = meaning} h e f) =
      rw h.is (single_gives names (meaning_of source.text names name) meaning _ rest a e f)
  leaf_atom inner names t rest a (s.given {s = sign} h e) = rw h.is (given_gives inner names sign _ rest a e)

  lookup_gives : (names : List Entry) (k : ℕ) (o t c : Token) (rest : List Token) (x : TermForm)
      → s.IsSign signs.OpenSquare o → s.IsLeaf source.text names t x → s.IsSign signs.CloseSquare c
      → Gives (lookup_read source names k (o ∷ t ∷ c ∷ rest)) (table_term (table_at source.tables k) x, rest)
  lookup_gives names k o t c rest x opens one closes =
      bind _ (wanted_sign signs.OpenSquare o (t ∷ c ∷ rest) opens)
      (bind _ (leaf_gives source.text names t (c ∷ rest) x one)
      (bind _ (wanted_sign signs.CloseSquare c rest closes) (found refl)))

  looked_up_gives : (names : List Entry) (o : Option Meaning) (k : ℕ) (t : Token) (ts rest : List Token) (a : TermForm)
      → o ≡ Some (Table k) → Gives (lookup_read source names k ts) (a, rest)
      → Gives (named_atom source names o t ts) (a, rest)
  looked_up_gives names o k t ts rest a e h =
      subst (λ (q : Option Meaning). Gives (named_atom source names q t ts) (a, rest)) (sym e) h

  -- ---- aggregates

  -- the name of a node, a colon and a term
  item_gives : (names more : List Entry) (n d : Token) (ts : List Token) (a : TermForm)
      → s.IsNew source.text makers.Loop names n more → s.IsSign signs.Colon d → s.IsTerm source s.whole more ts a
      → Plain s.whole more ts a → (room : ℕ) (rest : List Token) → Ends s.whole rest
      → Gives (item_read (part room source) source names (n ∷ d ∷ (ts ++ rest))) (a, rest)
  item_gives names more n d ts a new colon da h room rest ends =
      bind _ (new_gives source.text makers.Loop names more n (d ∷ (ts ++ rest)) new)
      (bind _ (wanted_sign signs.Colon d (ts ++ rest) colon) (inner_gives da h room rest ends))

  -- a constant in square brackets
  place_gives : (names : List Entry) (o c : Token) (ks : List Token) (k : TermForm) → s.IsSign signs.OpenSquare o
      → s.IsTerm source s.whole names ks k → is_constant_form k ≡ true → s.IsSign signs.CloseSquare c
      → Plain s.whole names ks k → (room : ℕ) (rest : List Token)
      → Gives (place_read (part room source) names (o ∷ (ks ++ (c ∷ rest)))) (k, rest)
  place_gives names o c ks k opens dk fixed closes h room rest =
      bind _ (wanted_sign signs.OpenSquare o (ks ++ (c ∷ rest)) opens)
      (bind _ (inner_gives dk h room (c ∷ rest)
      (ends_at s.whole (Mark signs.CloseSquare) c rest closes (omega arith)))
      (bind _ (by_true _ _ fixed (found refl)) (bind _ (wanted_sign signs.CloseSquare c rest closes) (found refl))))

  -- ---- every term: a chain by what it is when it goes on, since its operators group from the left

  holds : {level : s.Level} {names : List Entry} {ts : List Token} {a : TermForm} → s.IsTerm source level names ts a
      → Holds level names ts a
  holds (s.alone {level = level} {names = names} {ts = ts} {a = a} d) =
      alone_holds level names ts a d (plain d (holds d))
  holds (s.chosen {names = names} {xs = xs} {ts = ts} {ys = ys} {i = i} {e = e} dx is_if dt is_else dy) =
      λ room rest ends.
      let others = ys ++ rest in
      let test = ts ++ (e ∷ others) in
      rw (append_assoc xs (i ∷ (ts ++ (e ∷ ys))) rest, append_assoc ts (e ∷ ys) rest)
      (by_none _ _ (no_aggregate dx (omega arith) (i ∷ test) (sign_nameless signs.If i test is_if))
      (by_none _ _ (no_sorted dx (omega arith) (i ∷ test))
      (bind _ (plain dx (holds dx) room (i ∷ test)
      (ends_at (s.chain chains.Either) (Mark signs.If) i test is_if (omega arith)))
      (by_some _ _ (after_sign signs.If i test is_if)
      (bind _ (plain dt (holds dt) room (e ∷ others)
      (ends_at (s.chain chains.Either) (Mark signs.Else) e others is_else (omega arith)))
      (bind _ (wanted_sign signs.Else e others is_else)
      (bind _ (inner_gives dy (holds dy) room rest ends) (found refl))))))))
  holds (s.counted {names = names} {more = more} {ts = ts} {c = c} {n = n} {d = d} is_count new colon da) =
      λ room rest ends.
      by_some _ _ (count_first source.text c (n ∷ d ∷ (ts ++ rest)) is_count)
      (bind _ (item_gives names more n d ts _ new colon da (holds da) room rest ends) (found refl))
  holds (s.least_of {names = names} {more = more} {ts = ts} {l = l} {n = n} {d = d} is_least new colon da) =
      λ room rest ends.
      by_some _ _ (least_first source.text makers.Loop names more l n (d ∷ (ts ++ rest)) is_least new)
      (bind _ (item_gives names more n d ts _ new colon da (holds da) room rest ends) (found refl))
  holds (s.sorted_at {names = names} {more = more} {ks = ks} {ts = ts} {w = w} {o = o} {c = c} {n = n} {d = d} is_sorted
      opens dk fixed closes new colon da) =
      λ room rest ends.
      let numbers = n ∷ d ∷ (ts ++ rest) in
      let behind = o ∷ (ks ++ (c ∷ numbers)) in
      rw (append_assoc ks (c ∷ n ∷ d ∷ ts) rest)
      (by_none _ _ (sorted_first source.text w behind is_sorted)
      (by_some _ _ (after_sign signs.Sorted w behind is_sorted)
      (bind _ (place_gives names o c ks _ opens dk fixed closes (holds dk) room numbers)
      (bind _ (item_gives names more n d ts _ new colon da (holds da) room rest ends) (found refl)))))
  holds (s.joined {kind = kind} {names = names} {xs = xs} {ys = ys} {a = a} {b = b} {joint = joint} o dx e dy) =
      λ room rest y ends k.
      let ending = joint_ends kind o (ys ++ rest) joint e in
      rw (append_assoc xs (o ∷ ys) rest)
      (holds dx room (o ∷ (ys ++ rest)) y ending
      (λ n. chain_more n kind (operand room names kind) a b joint o (ys ++ rest) rest y e
      (ends_clear (s.tighter (s.chain kind)) (o ∷ (ys ++ rest)) ending)
      (operand_of kind names ys b (plain dy (holds dy)) room rest ends) k))
  holds (s.not_so {names = names} {ts = ts} {o = o} {a = a} is_not d) = λ room rest ends.
      by_some _ _ (after_sign signs.Not o (ts ++ rest) is_not)
      (bind _ (inverse_part names (ts ++ rest) (a, rest) (term_clear d rest) (λ r. holds d r rest ends) room)
      (found refl))
  holds (s.beside {names = names} {xs = xs} {ys = ys} {comparison = comparison} o dx e dy) = λ room rest ends.
      rw (append_assoc xs (o ∷ ys) rest)
      (bind _ (plain dx (holds dx) room (o ∷ (ys ++ rest)) (comparison_ends o (ys ++ rest) comparison e))
      (by_some _ _ (ap (λ (x : Option Comparison). option_map (λ comparison. (comparison, ys ++ rest)) x) e)
      (bind _ (plain dy (holds dy) room rest (ends_tighter s.compared rest ends)) (found refl))))
  holds (s.leaf {names = names} {t = t} {a = a} one) = λ room rest ends. leaf_atom (part room source) names t rest a one
  holds (s.looked_up {names = names} {n = n} {o = o} {t = t} {c = c} {name = name} {k = k} {x = x} h e opens one
      closes) =
      λ room rest ends.
      rw h.is (looked_up_gives names (meaning_of source.text names name) k _ (o ∷ t ∷ c ∷ rest) rest _ e
      (lookup_gives names k o t c rest x opens one closes))
  holds (s.received {ts = ts} {o = o} {c = c} is_mail opens d closes) = λ room rest ends.
      rw (is_mail.is, append_assoc ts (c ∷ []) rest)
      (bind _ (wanted_sign signs.OpenSquare o (ts ++ (c ∷ rest)) opens)
      (bind _ (inner_gives d (holds d) room (c ∷ rest)
      (ends_at s.whole (Mark signs.CloseSquare) c rest closes (omega arith)))
      (bind _ (wanted_sign signs.CloseSquare c rest closes) (found refl))))
  holds (s.bracketed {ts = ts} {c = c} opens d closes) = λ room rest ends.
      rw (opens.is, append_assoc ts (c ∷ []) rest)
      (bind _ (inner_gives d (holds d) room (c ∷ rest)
      (ends_at s.whole (Mark signs.Close) c rest closes (omega arith)))
      (bind _ (wanted_sign signs.Close c rest closes) (found refl)))

  pub term_gives : {names : List Entry} {ts : List Token} {a : TermForm} → s.IsTerm source s.whole names ts a
      → (rest : List Token) → Ends s.whole rest → Gives (term_read source names (ts ++ rest)) (a, rest)
  term_gives d rest ends = inner_gives d (holds d) MAX_PARTS rest ends
