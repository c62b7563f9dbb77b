-- What a place of a search has to show.
use Rattle.std.specs.Prelude.{◌≡◌, ℕ, Option, Some, None}
use Rattle.rule_syntax.specs.declared.syntax.Term.{Term}
use Rattle.rule_syntax.specs.declared.syntax.Term.TheVariants.{Number, Nodes, Faults, Modulus, Me, Coin, LoopNode, Local, Word, Message', Binary', Logical', Not', Choice', Count', Least', Sorted'}
use Rattle.rule_syntax.specs.declared.syntax.Assignment.{Assignment}
use Rattle.linear_certificates.specs.declared.known.Known.{Known}
use Rattle.linear_certificates.specs.Facts.{AllHold}
use Rattle.rule_paths.specs.Relations.{Expression, Relation, AllOf, AnyOf, Numbers, RelationHolds}
use Rattle.rule_paths.specs.Paths as paths
use Rattle.rule_paths.specs.Paths.{holds_of, fails_of, numbered, found_term, store_local, all_stored, with_let_count, place_past, passed}
use Rattle.rule_formulas.specs.declared.numbers.Number as numbers
use Rattle.rule_formulas.specs.declared.stores.Store.{Store}
use Rattle.rule_formulas.specs.Numbers.{expression, integers, Implies}
use Rattle.rule_formulas.specs.Stores.{store_from, written_store}
use Rattle.step_searches.specs.Searches.{paths_end, second_paths}
use Rattle.certified_steps.specs.declared.search.Task.{Task}
use Rattle.certified_steps.specs.declared.search.Assigned.{Assigned}
use Rattle.certified_steps.specs.declared.search.Place.{Place}
use Rattle.certified_steps.specs.declared.search.Rest.{Rest}
use Rattle.certified_steps.specs.declared.search.Rest.TheVariants.{Then', Second, End}
use Rattle.certified_steps.specs.Instances.{counts_of}

abbrev pub sent_of : Option numbers.Number → Option Expression
sent_of None = None
sent_of (Some x) = Some (expression x)

abbrev pub path_place : Place → paths.Place
path_place p = record {
  store = written_store p.store.now;
  sent = sent_of p.sent;
  counts = counts_of p.counts.now;
  next = p.next;
}

-- what comes behind a place
abbrev pub behind : Task → Rest → paths.Place → Relation
behind task (Then' p d q rest) at = passed p.now d at (behind task rest)
behind task Second at = second_paths task.rule.now task.step.now task.uses.now at
behind task (End first) at = paths_end task.step.now task.uses.now (path_place first.now) at

-- the statements, each with what comes behind it
abbrev pub let_behind : Term → ℕ → (paths.Place → Relation) → paths.Place → Relation
let_behind e d next at =
    let x = numbered (found_term None e at.store at.next) in
    AllOf x.facts (next (place_past (store_local d x.number at.store) at.sent (with_let_count e at.store at.next at.counts) x.next))

abbrev pub assign_behind : Assignment → (paths.Place → Relation) → paths.Place → Relation
assign_behind a next at =
    let x = all_stored a at.store at.next in
    AllOf x.facts (next (place_past x.store at.sent at.counts x.next))

abbrev pub send_behind : Term → (paths.Place → Relation) → paths.Place → Relation
send_behind e next at =
    let x = numbered (found_term None e at.store at.next) in
    AllOf x.facts (next (place_past at.store (Some x.number) at.counts x.next))

abbrev pub if_behind : Term → (paths.Place → Relation) → (paths.Place → Relation) → paths.Place → Relation
if_behind t first second at =
    let x = found_term None t at.store at.next in
    let here = place_past at.store at.sent at.counts x.next in
    AllOf x.facts (AnyOf (AllOf (holds_of x.what) (first here)) (AllOf (fails_of x.what) (second here)))

-- the test of a term that is a count
abbrev pub counted_test : Term → Option Term
counted_test (Number v) = None
counted_test Nodes = None
counted_test Faults = None
counted_test Modulus = None
counted_test Me = None
counted_test Coin = None
counted_test (LoopNode i) = None
counted_test (Local k) = None
counted_test (Word k) = None
counted_test (Message' p a) = None
counted_test (Binary' o p a q b) = None
counted_test (Logical' c p a q b) = None
counted_test (Not' p a) = None
counted_test (Choice' p t q a r b) = None
counted_test (Count' p t) = Some t
counted_test (Least' p t) = None
counted_test (Sorted' p k q t) = None

pub record IsAssigned (made : Assigned) (a : Assignment) (s : Store) (k : ℕ) : Type 0 where
  pub facts : Implies (all_stored a (written_store s) k).facts made.facts
  pub store : store_from made.writes.items (written_store s) ≡ (all_stored a (written_store s) k).store
  pub next : made.next ≡ (all_stored a (written_store s) k).next

-- no numbers make the known facts and a relation hold
abbrev pub Refuted : Known → Relation → Type 0
Refuted known r = (v : Numbers) → AllHold (integers v) known → RelationHolds v r → ⊥
