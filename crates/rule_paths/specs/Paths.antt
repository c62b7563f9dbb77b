-- The paths of a rule: what each pulse makes hold between the numbers of one node.
use Rattle.std.specs.Prelude.{ℕ, Bool, ◌+◌, ◌≤◌, ◌^◌, ◌==◌, if◌then◌else◌, Option, Some, None, List, [], ◌∷◌}
use Rattle.rule_syntax.specs.declared.syntax.Operation.{Operation}
use Rattle.rule_syntax.specs.declared.syntax.Operation.TheVariants.{Sum, Difference, Product, Quotient, Remainder}
use Rattle.rule_syntax.specs.declared.syntax.Comparison.{Comparison}
use Rattle.rule_syntax.specs.declared.syntax.Comparison.TheVariants.{Equal, NotEqual, Less, AtMost, Greater, AtLeast}
use Rattle.rule_syntax.specs.declared.syntax.Operator.{Operator}
use Rattle.rule_syntax.specs.declared.syntax.Operator.TheVariants.{Compute, Compare}
use Rattle.rule_syntax.specs.declared.syntax.Connective.{Connective}
use Rattle.rule_syntax.specs.declared.syntax.Connective.TheVariants.{And, Or}
use Rattle.rule_syntax.specs.declared.syntax.Target.{Target}
use Rattle.rule_syntax.specs.declared.syntax.Target.TheVariants.{ToLocal, ToWord}
use Rattle.rule_syntax.specs.declared.syntax.Assignment.{Assignment}
use Rattle.rule_syntax.specs.declared.syntax.Assignment.TheVariants.{One, Also'}
use Rattle.rule_syntax.specs.declared.syntax.Term.{Term}
use Rattle.rule_syntax.specs.declared.syntax.Term.TheVariants.{Number, Nodes, Faults, Modulus, Me, Coin, LoopNode, Local, Word, Message', Binary', Logical', Not', Choice', Count', Least', Sorted'}
use Rattle.rule_syntax.specs.declared.syntax.Statement.{Statement}
use Rattle.rule_syntax.specs.declared.syntax.Statement.TheVariants.{Nothing, Then', Let', Assign, If', For', SendAll, SendTo}
use Rattle.rule_nodes.specs.Code.{opposite}
use Rattle.node_env.specs.Env.{Setting}
use Rattle.rule_syntax.specs.declared.syntax.Sizes.{Sizes}
use Rattle.rule_meaning.specs.Meaning.{NodeState}
use Rattle.rule_paths.specs.Relations.{Expression, Constant, Variable, Plus, Numbers, Relation, Always, IsAtMost, AllOf, AnyOf, AgreeBelow, Settles, IsEqual, IsLess}
use Rattle.rule_paths.specs.Stores.{NodeCount, FaultBound, ClockModulus, Store, Count, initial_store, StoreSays, AllCounted, IsSent}

-- ---- comparisons and operations

abbrev pub compared : Comparison → Expression → Expression → Relation
compared Equal a b = IsEqual a b
compared NotEqual a b = AnyOf (IsLess a b) (IsLess b a)
compared Less a b = IsLess a b
compared AtMost a b = IsAtMost a b
compared Greater a b = IsLess b a
compared AtLeast a b = IsAtMost b a

-- r is the result, which has 32 bits. Of a product nothing more is said. A remainder is exact below 2 b, and from there on
-- any number below b.
abbrev pub computed : Operation → Expression → Expression → Expression → Relation
computed Sum a b r = AnyOf (IsEqual r (Plus a b)) (IsEqual (Plus r (Constant (2 ^ 32))) (Plus a b))
computed Difference a b r = AnyOf (IsEqual (Plus r b) a) (IsEqual (Plus r b) (Plus a (Constant (2 ^ 32))))
computed Product a b r = Always
computed Quotient a b r = IsAtMost r a
computed Remainder a b r =
    AnyOf (AllOf (IsAtMost b (Constant 0)) (IsEqual r a))
    (AnyOf (AllOf (IsLess a b) (IsEqual r a))
    (AnyOf (AllOf (IsLess a (Plus b b)) (IsEqual (Plus r b) a)) (AllOf (IsAtMost (Plus b b) a) (IsLess r b))))

abbrev pub succeeds : Expression → Relation
succeeds a = IsAtMost (Constant 1) a

abbrev pub fails : Expression → Relation
fails a = IsAtMost a (Constant 0)

-- r is 1 where the first relation holds, and 0 where the second does
abbrev pub is_bit : Relation → Relation → Expression → Relation
is_bit so not_so r = AnyOf (AllOf so (IsEqual r (Constant 1))) (AllOf not_so (IsEqual r (Constant 0)))

abbrev pub has_32_bits : Expression → Relation
has_32_bits a = AllOf (IsAtMost (Constant 0) a) (IsLess a (Constant (2 ^ 32)))

-- ---- terms

-- A term is a number, or a test with a relation for each answer, or the node of the count around it, whose message is
-- known too.
pub data What : Type 0 where
  Value : Expression → What
  Truth : Relation → Relation → What
  Sender : Expression → Expression → What

-- what a term is, the relation that says so, and from which on the variables are free
pub record Found : Type 0 where
  pub facts : Relation
  pub what : What
  pub next : ℕ

-- the same of a term that is a number
pub record Numbered : Type 0 where
  pub facts : Relation
  pub number : Expression
  pub next : ℕ

-- the node of the count around a term, and the message from it
pub record Around : Type 0 where
  pub node : Expression
  pub message : Expression

abbrev pub numbered_as : What → Relation → ℕ → Numbered
numbered_as (Value e) facts k = record { facts = facts; number = e; next = k }
numbered_as (Truth so not_so) facts k = record {
  facts = AllOf facts (is_bit so not_so (Variable k));
  number = Variable k;
  next = k + 1;
}
numbered_as (Sender e message) facts k = record { facts = facts; number = e; next = k }

abbrev pub numbered : Found → Numbered
numbered f = numbered_as f.what f.facts f.next

abbrev pub holds_of : What → Relation
holds_of (Value e) = succeeds e
holds_of (Truth so not_so) = so
holds_of (Sender e message) = succeeds e

abbrev pub fails_of : What → Relation
fails_of (Value e) = fails e
fails_of (Truth so not_so) = not_so
fails_of (Sender e message) = fails e

-- the relation of an answer
abbrev pub answer_of : What → Bool → Relation
answer_of what answer = if answer then holds_of what else fails_of what

-- some numbers of the variables from n on say that a term has an answer
pub record HasAnswer (n : ℕ) (v : Numbers) (f : Found) (answer : Bool) : Type 0 where
  pub fresh : Numbers
  pub agree : AgreeBelow n fresh v
  pub grows : n ≤ f.next
  pub facts : Settles f.next fresh f.facts
  pub answered : Settles f.next fresh (answer_of f.what answer)

abbrev pub as_is : What → ℕ → Found
as_is what k = record { facts = Always; what = what; next = k }

-- the variable k has 32 bits and is what a relation says
abbrev pub with_fresh : Relation → ℕ → (Expression → Relation) → Found
with_fresh facts k is = record {
  facts = AllOf facts (AllOf (has_32_bits (Variable k)) (is (Variable k)));
  what = Value (Variable k);
  next = k + 1;
}

abbrev pub loop_node : Option Around → What
loop_node None = Value (Constant 0)
loop_node (Some around) = Sender around.node around.message

-- a message is known if it is that from the node of the count, and otherwise any number
abbrev pub message_as : What → Found → Found
message_as (Value e) f = with_fresh f.facts f.next (λ r. Always)
message_as (Truth so not_so) f = with_fresh f.facts f.next (λ r. Always)
message_as (Sender e message) f = record { facts = f.facts; what = Value message; next = f.next }

abbrev pub operated : Operator → Numbered → Numbered → Found
operated (Compute op) x y = with_fresh (AllOf x.facts y.facts) y.next (computed op x.number y.number)
operated (Compare c) x y = record {
  facts = AllOf x.facts y.facts;
  what = Truth (compared c x.number y.number) (compared (opposite c) x.number y.number);
  next = y.next;
}

abbrev pub combined_as : Connective → What → What → What
combined_as And x y = Truth (AllOf (holds_of x) (holds_of y)) (AnyOf (fails_of x) (fails_of y))
combined_as Or x y = Truth (AnyOf (holds_of x) (holds_of y)) (AllOf (fails_of x) (fails_of y))

abbrev pub combined : Connective → Found → Found → Found
combined c x y = record { facts = AllOf x.facts y.facts; what = combined_as c x.what y.what; next = y.next }

abbrev pub negated : Found → Found
negated x = record { facts = x.facts; what = Truth (fails_of x.what) (holds_of x.what); next = x.next }

abbrev pub found_choice : Found → Numbered → Numbered → Found
found_choice x y w = with_fresh x.facts w.next (λ r.
    AnyOf (AllOf (holds_of x.what) (AllOf y.facts (IsEqual r y.number)))
    (AllOf (fails_of x.what) (AllOf w.facts (IsEqual r w.number))))

-- of a count no more is said here than that it is at most n
abbrev pub counted : ℕ → Found
counted k = with_fresh Always k (λ r. IsAtMost r NodeCount)

-- of a least message nothing is said: no rule that has one is covered
abbrev pub any_number : ℕ → Found
any_number k = with_fresh Always k (λ r. Always)

-- a term, where `around` is the node of the count around it
abbrev pub found_term : Option Around → Term → Store → ℕ → Found
found_term around (Number v) s k = as_is (Value (Constant v)) k
found_term around Nodes s k = as_is (Value NodeCount) k
found_term around Faults s k = as_is (Value FaultBound) k
found_term around Modulus s k = as_is (Value ClockModulus) k
found_term around Me s k = as_is (Value s.me) k
found_term around Coin s k = as_is (Value s.coin) k
found_term around (LoopNode i) s k = as_is (loop_node around) k
found_term around (Local i) s k = as_is (Value (s.locals i)) k
found_term around (Word i) s k = as_is (Value (s.words i)) k
found_term around (Message' p a) s k =
    let x = found_term around a s k in
    message_as x.what x
found_term around (Binary' o p a q b) s k =
    let x = numbered (found_term around a s k) in
    operated o x (numbered (found_term around b s x.next))
found_term around (Logical' c p a q b) s k =
    let x = found_term around a s k in
    combined c x (found_term around b s x.next)
found_term around (Not' p a) s k = negated (found_term around a s k)
found_term around (Choice' p t q a r b) s k =
    let x = found_term around t s k in
    let y = numbered (found_term around a s x.next) in
    found_choice x y (numbered (found_term around b s y.next))
found_term around (Count' p t) s k = counted k
found_term around (Least' p t) s k = any_number k
found_term around (Sorted' p i q t) s k = any_number k

-- ---- statements

-- a place of a path: the store, the number last sent to all, the counts so far, and from which on variables are free
pub record Place : Type 0 where
  pub store : Store
  pub sent : Option Expression
  pub counts : List Count
  pub next : ℕ

abbrev pub store_local : ℕ → Expression → Store → Store
store_local k x s = record { me = s.me; coin = s.coin; locals = λ j. if j == k then x else s.locals j; words = s.words }

abbrev pub store_with : Target → Expression → Store → Store
store_with (ToLocal k) x s = store_local k x s
store_with (ToWord k) x s = record { me = s.me; coin = s.coin; locals = s.locals; words = λ j. if j == k then x else s.words j }

pub record Assigned : Type 0 where
  pub facts : Relation
  pub store : Store
  pub next : ℕ

-- each target, in order, becomes its number; all numbers are those of the store s
abbrev pub all_stored : Assignment → Store → ℕ → Assigned
all_stored (One target e) s k =
    let x = numbered (found_term None e s k) in
    record { facts = x.facts; store = store_with target x.number s; next = x.next }
all_stored (Also' p front target e) s k =
    let f = all_stored front s k in
    let x = numbered (found_term None e s f.next) in
    record { facts = AllOf f.facts x.facts; store = store_with target x.number f.store; next = x.next }

-- the variables below the next one say what a pulse is at a place
pub record IsAtPlace (word_count : ℕ) (z : Sizes) (env : Setting) (v : Numbers) (at : Place) (u : NodeState) : Type 0 where
  pub state : StoreSays word_count z env at.next v at.store u
  pub sent : IsSent at.next v at.sent u
  pub counts : AllCounted word_count z env at.next v at.counts

-- A let that is a count says which. A count elsewhere is only a number.
abbrev pub with_let_count : Term → Store → ℕ → List Count → List Count
with_let_count (Count' p t) s k counts = record { variable = k; test = t; store = s } ∷ counts
with_let_count e s k counts = counts

abbrev pub place_past : Store → Option Expression → List Count → ℕ → Place
place_past store sent counts next = record { store = store; sent = sent; counts = counts; next = next }

-- what a statement makes hold, where d lets are in scope, and then what comes behind it does
abbrev pub passed : Statement → ℕ → Place → (Place → Relation) → Relation
passed Nothing d at behind = behind at
passed (Then' p a q b) d at behind = passed a d at (λ next. passed b d next behind)
passed (Let' e p rest) d at behind =
    let x = numbered (found_term None e at.store at.next) in
    AllOf x.facts (passed rest (d + 1) (place_past (store_local d x.number at.store) at.sent
    (with_let_count e at.store at.next at.counts) x.next) behind)
passed (Assign a) d at behind =
    let x = all_stored a at.store at.next in
    AllOf x.facts (behind (place_past x.store at.sent at.counts x.next))
passed (If' t p a q b) d at behind =
    let x = found_term None t at.store at.next in
    let here = place_past at.store at.sent at.counts x.next in
    AllOf x.facts (AnyOf (AllOf (holds_of x.what) (passed a d here behind))
    (AllOf (fails_of x.what) (passed b d here behind)))
passed (For' p body) d at behind = Always
passed (SendAll e) d at behind =
    let x = numbered (found_term None e at.store at.next) in
    AllOf x.facts (behind (place_past at.store (Some x.number) at.counts x.next))
passed (SendTo e to) d at behind = Always

-- a rule begins at the variables of its node
abbrev pub rule_place : ℕ → ℕ → Place
rule_place start next = record { store = initial_store start; sent = None; counts = []; next = next }
