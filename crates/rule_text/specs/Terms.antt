-- From tokens to terms (docs/RULES.md, "Terms"): the reading, or the first error.
use Rattle.std.specs.Prelude.{ℕ, zero, suc, Bool, false, if◌then◌else◌, ◌&&◌, List, [], ◌∷◌, Option, Some, None}
use Rattle.std.specs.Prelude.{codes, option_map, Result, Ok, Err}
use Rattle.std.specs.Str.{bytes_eq}
use Rattle.node_env.specs.declared.env.TheConstants.{NO_MAIL}
use Rattle.rule_syntax.specs.declared.syntax.Operation.TheVariants as operations
use Rattle.rule_syntax.specs.declared.syntax.Comparison.{Comparison}
use Rattle.rule_syntax.specs.declared.syntax.Comparison.TheVariants as comparisons
use Rattle.rule_syntax.specs.declared.syntax.Operator.TheVariants.{Compute, Compare}
use Rattle.rule_syntax.specs.declared.syntax.Connective.TheVariants.{And, Or}
use Rattle.rule_text.specs.declared.errors.RuleError.TheVariants.{Expected, UnknownName, TooDeep, TooLong}
use Rattle.rule_text.specs.declared.errors.ReadRuleError.{ReadRuleError}
use Rattle.rule_text.specs.declared.signs.Sign.{Sign}
use Rattle.rule_text.specs.declared.signs.Sign.TheVariants as signs
use Rattle.rule_text.specs.declared.lexemes.Kind.{Kind}
use Rattle.rule_text.specs.declared.lexemes.Kind.TheVariants.{Number, Named, Mark}
use Rattle.rule_text.specs.declared.lexemes.Token.{Token}
use Rattle.rule_text.specs.declared.layout.TheConstants.{MAX_LINE_TOKENS}
use Rattle.rule_text.specs.declared.scope.Meaning.{Meaning}
use Rattle.rule_text.specs.declared.scope.Meaning.TheVariants.{Local, LoopNode, Word, Table}
use Rattle.rule_text.specs.declared.scope.Entry.{Entry}
use Rattle.rule_text.specs.declared.scope.Maker.TheVariants as makers
use Rattle.rule_text.specs.declared.aggregates.Aggregate.{Aggregate}
use Rattle.rule_text.specs.declared.aggregates.Aggregate.TheVariants as aggregates
use Rattle.rule_text.specs.declared.joints.Joint.{Joint}
use Rattle.rule_text.specs.declared.joints.Joint.TheVariants.{By, With}
use Rattle.rule_text.specs.declared.joints.Chain.{Chain}
use Rattle.rule_text.specs.declared.joints.Chain.TheVariants as chains
use Rattle.rule_text.specs.declared.terms.Grade.{Grade}
use Rattle.rule_text.specs.declared.terms.Grade.TheVariants.{Whole, Inverse}
use Rattle.rule_text.specs.declared.terms.TheConstants.{MAX_PARTS}
use Rattle.rule_text.specs.Signs.{is_same}
use Rattle.rule_text.specs.Forms.{TermForm, number, nodes, faults, modulus, me, coin, loop_node, local, word, message}
use Rattle.rule_text.specs.Forms.{binary, logical, inverse, choice, count, least, sorted, is_constant_form}
use Rattle.rule_text.specs.Tables.{SourceForm, table_at, table_term}
use Rattle.rule_text.specs.Tokens.{is_named}
use Rattle.rule_text.specs.Scopes.{Reading, ◌>>=◌, rule_error_at, error_in, letters_of, meaning_of, new_name}

-- ---- signs

abbrev pub is_of_sign : Sign → Kind → Bool
is_of_sign s (Mark t) = is_same s t
is_of_sign s kind = false

-- the tokens after a sign, if it is the first token
abbrev pub rest_after : Sign → List Token → Option (List Token)
rest_after s [] = None
rest_after s (t ∷ ts) = if is_of_sign s t.kind then Some ts else None

-- the tokens after a sign that must be the first token
abbrev pub wanted : Sign → List Token → Result (List Token) ReadRuleError
wanted s ts = elim (rest_after s ts) [ Some rest ↦ Ok rest | None ↦ Err (error_in Expected ts) ]

-- operators of one precedence group from the left
abbrev pub product_joint : Sign → Option Joint
product_joint signs.Times = Some (By (Compute operations.Product))
product_joint signs.Over = Some (By (Compute operations.Quotient))
product_joint signs.Modulo = Some (By (Compute operations.Remainder))
product_joint s = None

abbrev pub sum_joint : Sign → Option Joint
sum_joint signs.Plus = Some (By (Compute operations.Sum))
sum_joint signs.Minus = Some (By (Compute operations.Difference))
sum_joint s = None

abbrev pub both_joint : Sign → Option Joint
both_joint signs.And = Some (With And)
both_joint s = None

abbrev pub either_joint : Sign → Option Joint
either_joint signs.Or = Some (With Or)
either_joint s = None

abbrev pub joint_by : Chain → Sign → Option Joint
joint_by chains.Product s = product_joint s
joint_by chains.Sum s = sum_joint s
joint_by chains.Both s = both_joint s
joint_by chains.Either s = either_joint s

abbrev pub joint_of : Chain → Kind → Option Joint
joint_of chain (Mark s) = joint_by chain s
joint_of chain kind = None

abbrev pub comparison_by : Sign → Option Comparison
comparison_by signs.Equal = Some comparisons.Equal
comparison_by signs.NotEqual = Some comparisons.NotEqual
comparison_by signs.Less = Some comparisons.Less
comparison_by signs.AtMost = Some comparisons.AtMost
comparison_by signs.Greater = Some comparisons.Greater
comparison_by signs.AtLeast = Some comparisons.AtLeast
comparison_by s = None

abbrev pub comparison_of : Kind → Option Comparison
comparison_of (Mark s) = comparison_by s
comparison_of kind = None

-- the operator that is the first token, and the tokens after it
abbrev pub joint_in : Chain → List Token → Option (Joint × List Token)
joint_in chain [] = None
joint_in chain (t ∷ ts) = option_map (λ joint. (joint, ts)) (joint_of chain t.kind)

abbrev pub comparison_in : List Token → Option (Comparison × List Token)
comparison_in [] = None
comparison_in (t ∷ ts) = option_map (λ comparison. (comparison, ts)) (comparison_of t.kind)

-- `least` is no reserved word
abbrev pub is_least : List ℕ → Kind → Bool
is_least text (Named name) = bytes_eq (letters_of text name) (codes "least")
is_least text kind = false

abbrev pub begins_with_name : List Token → Bool
begins_with_name [] = false
begins_with_name (t ∷ ts) = is_named t.kind

-- the tokens after the word `least`: it is one if it is the first token, and the second is a name
abbrev pub after_least : List ℕ → List Token → Option (List Token)
after_least text [] = None
after_least text (t ∷ ts) = if is_least text t.kind && begins_with_name ts then Some ts else None

-- the aggregate that begins here, and the tokens after its word
abbrev pub aggregate_in : List ℕ → List Token → Option (Aggregate × List Token)
aggregate_in text ts = elim (rest_after signs.Count ts) [
  | Some rest ↦ Some (aggregates.Count, rest)
  | None ↦ option_map (λ rest. (aggregates.Least, rest)) (after_least text ts)
]

abbrev pub aggregated : Aggregate → TermForm → TermForm
aggregated aggregates.Count a = count a
aggregated aggregates.Least a = least a

abbrev pub join : Joint → TermForm → TermForm → TermForm
join (By operator) a b = binary operator a b
join (With connective) a b = logical connective a b

-- a table is no term by itself
abbrev pub named_term : Meaning → Option TermForm
named_term (Local k) = Some (local k)
named_term (LoopNode k) = Some (loop_node k)
named_term (Word k) = Some (word k)
named_term (Table k) = None

-- the words that are terms by themselves
abbrev pub leaf_of : Sign → Option TermForm
leaf_of signs.Nodes = Some nodes
leaf_of signs.Faults = Some faults
leaf_of signs.Modulus = Some modulus
leaf_of signs.Me = Some me
leaf_of signs.Coin = Some coin
leaf_of signs.NoMessage = Some (number NO_MAIL)
leaf_of signs.Clock = Some (word 0)
leaf_of s = None

-- ---- the productions, where `inner` reads a part one level deeper

abbrev pub Reader : Type 0
Reader = List Token → Reading TermForm

abbrev pub Inner : Type 0
Inner = Grade → List Entry → Reader

abbrev pub leaf : Option TermForm → Token → Result TermForm ReadRuleError
leaf (Some a) t = Ok a
leaf None t = Err (rule_error_at Expected t)

abbrev pub named_leaf : Option Meaning → Token → Result TermForm ReadRuleError
named_leaf (Some meaning) t = leaf (named_term meaning) t
named_leaf None t = Err (rule_error_at UnknownName t)

-- a term of one token
abbrev pub leaf_by : List ℕ → List Entry → Kind → Token → Result TermForm ReadRuleError
leaf_by text names (Number v) t = Ok (number v)
leaf_by text names (Named name) t = named_leaf (meaning_of text names name) t
leaf_by text names (Mark s) t = leaf (leaf_of s) t
leaf_by text names kind t = Err (rule_error_at Expected t)

abbrev pub leaf_read : List ℕ → List Entry → Reader
leaf_read text names [] = Err (error_in Expected [])
leaf_read text names (t ∷ ts) = leaf_by text names t.kind t >>= λ a. Ok (a, ts)

-- what follows the name of table k
abbrev pub lookup_read : SourceForm → List Entry → ℕ → Reader
lookup_read source names k ts =
    wanted signs.OpenSquare ts >>= λ inside. leaf_read source.text names inside
    >>= λ x. wanted signs.CloseSquare x.1 >>= λ rest. Ok (table_term (table_at source.tables k) x.0, rest)

abbrev pub named_atom : SourceForm → List Entry → Option Meaning → Token → List Token → Reading TermForm
named_atom source names (Some (Table k)) t ts = lookup_read source names k ts
named_atom source names meaning t ts = named_leaf meaning t >>= λ a. Ok (a, ts)

abbrev pub bracketed : Inner → List Entry → Reader
bracketed inner names ts =
    inner Whole names ts >>= λ a. wanted signs.Close a.1 >>= λ rest. Ok (a.0, rest)

abbrev pub message_read : Inner → List Entry → Reader
message_read inner names ts =
    wanted signs.OpenSquare ts >>= λ inside. inner Whole names inside
    >>= λ a. wanted signs.CloseSquare a.1 >>= λ rest. Ok (message a.0, rest)

abbrev pub marked_atom : Inner → List Entry → Sign → Token → List Token → Reading TermForm
marked_atom inner names signs.Open t ts = bracketed inner names ts
marked_atom inner names signs.Mail t ts = message_read inner names ts
marked_atom inner names s t ts = leaf (leaf_of s) t >>= λ a. Ok (a, ts)

abbrev pub atom_by : Inner → SourceForm → List Entry → Kind → Token → List Token → Reading TermForm
atom_by inner source names (Number v) t ts = Ok (number v, ts)
atom_by inner source names (Named name) t ts = named_atom source names (meaning_of source.text names name) t ts
atom_by inner source names (Mark s) t ts = marked_atom inner names s t ts
atom_by inner source names kind t ts = Err (rule_error_at Expected t)

abbrev pub atom : Inner → SourceForm → List Entry → Reader
atom inner source names [] = Err (error_in Expected [])
atom inner source names (t ∷ ts) = atom_by inner source names t.kind t ts

-- after an operand and what follows it: a further operand, if an operator of the chain is next
abbrev pub chain_step : (TermForm → Reader) → Reader → TermForm → List Token → Option (Joint × List Token)
    → Reading TermForm
chain_step further operand left ts None = Ok (left, ts)
chain_step further operand left ts (Some x) =
    operand x.1 >>= λ right. further (join x.0 left right.0) right.1

-- at most this many further operands
unfoldable pub chain_rest : ℕ → Chain → Reader → TermForm → Reader
chain_rest zero chain operand left ts = Err (error_in TooLong ts)
chain_rest (suc more) chain operand left ts =
    chain_step (chain_rest more chain operand) operand left ts (joint_in chain ts)

abbrev pub chain_of : Chain → Reader → Reader
chain_of chain operand ts = operand ts >>= λ first. chain_rest MAX_LINE_TOKENS chain operand first.0 first.1

-- one comparison at most
abbrev pub compare_rest : Reader → TermForm → Reader
compare_rest side left ts = elim (comparison_in ts) [
  | None ↦ Ok (left, ts)
  | Some x ↦ side x.1 >>= λ right. Ok (binary (Compare x.0) left right.0, right.1)
]

abbrev pub compare_read : Inner → SourceForm → List Entry → Reader
compare_read inner source names ts =
    let side = chain_of chains.Sum (chain_of chains.Product (atom inner source names)) in
    side ts >>= λ left. compare_rest side left.0 left.1

abbrev pub inverse_read : Inner → SourceForm → List Entry → Reader
inverse_read inner source names ts = elim (rest_after signs.Not ts) [
  | Some rest ↦ inner Inverse names rest >>= λ a. Ok (inverse a.0, a.1)
  | None ↦ compare_read inner source names ts
]

-- the operands of a chain are of the next tighter kind
abbrev pub operand_read : Inner → SourceForm → List Entry → Chain → Reader
operand_read inner source names chains.Product ts = atom inner source names ts
operand_read inner source names chains.Sum ts = chain_of chains.Product (atom inner source names) ts
operand_read inner source names chains.Both ts = inverse_read inner source names ts
operand_read inner source names chains.Either ts = chain_of chains.Both (inverse_read inner source names) ts

abbrev pub chain_read : Inner → SourceForm → List Entry → Chain → Reader
chain_read inner source names chain ts = chain_of chain (operand_read inner source names chain) ts

-- x if t else y, x read
abbrev pub choice_read : Inner → SourceForm → List Entry → TermForm → Reader
choice_read inner source names x ts =
    chain_read inner source names chains.Either ts >>= λ t. wanted signs.Else t.1
    >>= λ rest. inner Whole names rest >>= λ y. Ok (choice t.0 x y.0, y.1)

abbrev pub choice_rest : Inner → SourceForm → List Entry → TermForm → Reader
choice_rest inner source names x ts =
    elim (rest_after signs.If ts) [ Some rest ↦ choice_read inner source names x rest | None ↦ Ok (x, ts) ]

-- the name of a node, a colon and a term, which can use the node
abbrev pub item_read : Inner → SourceForm → List Entry → Reader
item_read inner source names ts =
    new_name source.text makers.Loop names ts >>= λ more. wanted signs.Colon more.1
    >>= λ rest. inner Whole more.0 rest

abbrev pub aggregate_read : Inner → SourceForm → List Entry → Aggregate → Reader
aggregate_read inner source names aggregate ts =
    item_read inner source names ts >>= λ a. Ok (aggregated aggregate a.0, a.1)

-- a term that has to be a constant, and begins with these tokens
abbrev pub constant_only : TermForm → List Token → Result TermForm ReadRuleError
constant_only k ts = if is_constant_form k then Ok k else Err (error_in Expected ts)

-- a constant in square brackets
abbrev pub place_read : Inner → List Entry → Reader
place_read inner names ts =
    wanted signs.OpenSquare ts >>= λ inside. inner Whole names inside >>= λ x. constant_only x.0 inside
    >>= λ k. wanted signs.CloseSquare x.1 >>= λ rest. Ok (k, rest)

-- what follows `sorted`
abbrev pub sorted_read : Inner → SourceForm → List Entry → Reader
sorted_read inner source names ts =
    place_read inner names ts >>= λ k. item_read inner source names k.1 >>= λ a. Ok (sorted k.0 a.0, a.1)

abbrev pub plain_read : Inner → SourceForm → List Entry → Reader
plain_read inner source names ts =
    chain_read inner source names chains.Either ts >>= λ x. choice_rest inner source names x.0 x.1

-- a term that doesn't begin with `count` or `least`
abbrev pub sorted_or_plain : Inner → SourceForm → List Entry → Reader
sorted_or_plain inner source names ts = elim (rest_after signs.Sorted ts) [
  | Some rest ↦ sorted_read inner source names rest
  | None ↦ plain_read inner source names ts
]

abbrev pub whole_read : Inner → SourceForm → List Entry → Reader
whole_read inner source names ts = elim (aggregate_in source.text ts) [
  | Some x ↦ aggregate_read inner source names x.0 x.1
  | None ↦ sorted_or_plain inner source names ts
]

-- a part, with at most this many in one another
unfoldable pub part : ℕ → SourceForm → Grade → List Entry → Reader
part zero source grade names ts = Err (error_in TooDeep ts)
part (suc room) source Whole names ts = whole_read (part room source) source names ts
part (suc room) source Inverse names ts = inverse_read (part room source) source names ts

abbrev pub term_read : SourceForm → List Entry → Reader
term_read source names ts = part MAX_PARTS source Whole names ts
