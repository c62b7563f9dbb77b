-- Each instruction of a block has an owner.
use Rattle.std.proofs.Common.{◌≡◌, ℕ, zero, suc, ◌+◌, ◌≤◌, Bool, true, false, if◌then◌else◌, List, [], ◌∷◌, ◌++◌, length, pos, refl, ap, arith, length-append}
use Rattle.std.specs.Prelude.{replicate}
use Rattle.std.proofs.lemmas.List.{length-replicate}
use Rattle.bpf_insn.specs.declared.forms.Insn.{Insn}
use Rattle.bpf_insn.specs.declared.forms.Insn.TheVariants.{Ja}
use Rattle.rule_nodes.specs.declared.numbers.Purpose.TheVariants.{Value, Jump}
use Rattle.rule_nodes.specs.declared.numbers.Tally.TheVariants.{HowMany, LeastMessage}
use Rattle.rule_syntax.specs.declared.syntax.Sizes.{Sizes}
use Rattle.rule_nodes.specs.declared.numbers.Source.{Source}
use Rattle.rule_nodes.specs.declared.numbers.Source.TheVariants.{Constant, FromLocal, FromWord, Computed}
use Rattle.rule_syntax.specs.declared.syntax.Term.{Term}
use Rattle.rule_syntax.specs.declared.syntax.Term.TheVariants.{Count', Least'}
use Rattle.rule_syntax.specs.declared.syntax.Statement.{Statement}
use Rattle.rule_syntax.specs.declared.syntax.Statement.TheVariants.{Nothing, Then', Let', Assign, If', For', SendAll, SendTo}
use Rattle.rule_nodes.specs.Operands.{term_source}
use Rattle.rule_nodes.specs.Code.{number_place, keep_code, place_code, tallied_code, term_code, over_code, stored_code, let_code, if_code, is_nothing, each_code, block_code, tail_code, rule_code}
use Rattle.rule_nodes.specs.Owners.{statements_in, jump_slots, test_slots, each_owners, owners_of}
use Rattle.rule_nodes.proofs.Blocks.{nothing_here}

placed_split : (front rest : List Insn) → length (front ++ rest) ≡ length (front ++ []) + length rest
placed_split front rest = omega (arith, length-append front rest, length-append front [])

stored_split : (x : Source) (d : ℕ) (code rest : List Insn)
    → length (stored_code x d code rest) ≡ length (stored_code x d code []) + length rest
stored_split (Constant c) d code rest = placed_split (place_code (number_place d) (Constant c)) rest
stored_split (FromLocal k) d code rest = placed_split (place_code (number_place d) (FromLocal k)) rest
stored_split (FromWord k) d code rest = placed_split (place_code (number_place d) (FromWord k)) rest
stored_split Computed d code rest =
    let l = length-append code (keep_code (number_place d) ∷ rest) in
    let l0 = length-append code (keep_code (number_place d) ∷ []) in
    omega arith

let_split : (e : Term) (z : Sizes) (J : List ℕ) (d : ℕ) (rest : List Insn)
    → length (let_code e z J d rest) ≡ length (let_code e z J d []) + length rest
let_split (Count' p t) z J d rest = placed_split (tallied_code HowMany d (over_code HowMany t z J d)) rest
let_split (Least' p t) z J d rest = placed_split (tallied_code LeastMessage d (over_code LeastMessage t z J d)) rest
let_split e z J d rest = stored_split (term_source e z J) d (term_code e z J d Value) rest

if_long : (alone : Bool) (test : ℕ → List Insn) (a b : List Insn) → (alone ≡ true → length b ≡ 0)
    → length a + (if alone then 0 else 1) + length b ≤ length (if_code alone test a b)
if_long true test a b none = omega (arith, length-append (test (length a)) a, none refl)
if_long false test a b none =
    let back = a ++ Ja (pos (length b)) ∷ b in
    omega (arith, length-append (test (length a + 1)) back, length-append a (Ja (pos (length b)) ∷ b))

each_long : (body : ℕ → List ℕ) (code : ℕ → List Insn) (n : ℕ) → ((j : ℕ) → length (body j) ≡ length (code j))
    → length (each_owners body n) ≡ length (each_code code n)
each_long body code zero same = refl
each_long body code (suc n) same =
    omega (
      arith,
      length-append (each_owners body n) (body n),
      length-append (each_code code n) (code n),
      each_long body code n same,
      same n,
    )

owners_long : (b : Statement) (z : Sizes) (J : List ℕ) (d i : ℕ)
    → length (owners_of b z J d i) ≡ length (block_code b z J d)
owners_long Nothing z J d i = refl
owners_long (Then' p a q b) z J d i =
    omega (
      arith,
      length-append (owners_of a z J d i) (owners_of b z J d (i + statements_in a)),
      length-append (block_code a z J d) (block_code b z J d),
      owners_long a z J d i,
      owners_long b z J d (i + statements_in a),
    )
owners_long (Let' e p rest) z J d i =
    let own = replicate (length (let_code e z J d [])) i in
    let l = let_split e z J d (block_code rest z J (d + 1)) in
    omega (
      arith,
      length-append own (owners_of rest z J (d + 1) (i + 1)),
      length-replicate (length (let_code e z J d [])) i,
      owners_long rest z J (d + 1) (i + 1),
      l,
    )
owners_long (Assign a) z J d i = length-replicate (length (block_code (Assign a) z J d)) i
owners_long (If' t p a q b) z J d i =
    let first = block_code a z J d in
    let second = block_code b z J d in
    let all = block_code (If' t p a q b) z J d in
    let test = test_slots (length all) (length first) (jump_slots b) (length second) in
    let before = owners_of a z J d (i + 1) in
    let jump = replicate (jump_slots b) i in
    let behind = owners_of b z J d (i + 1 + statements_in a) in
    let long = if_long (is_nothing b) (λ far. term_code t z J d (Jump false far)) first second
    (λ e. ap length (nothing_here b z J d e)) in
    omega (
      arith,
      long,
      length-append (replicate test i) (before ++ (jump ++ behind)),
      length-append before (jump ++ behind),
      length-append jump behind,
      length-replicate test i,
      length-replicate (jump_slots b) i,
      owners_long a z J d (i + 1),
      owners_long b z J d (i + 1 + statements_in a),
    )
owners_long (For' p body) z J d i =
    each_long (λ j. owners_of body z (J ++ j ∷ []) d (i + 1)) (λ j. block_code body z (J ++ j ∷ []) d) z.nodes
    (λ j. owners_long body z (J ++ j ∷ []) d (i + 1))
owners_long (SendAll e) z J d i = length-replicate (length (block_code (SendAll e) z J d)) i
owners_long (SendTo e k) z J d i = length-replicate (length (block_code (SendTo e k) z J d)) i

pub rule_owners_long : (rule : Statement) (z : Sizes) → length (owners_of rule z [] 0 0) + 3 ≡ length (rule_code rule z)
rule_owners_long rule z =
    omega (arith, owners_long rule z [] 0 0, length-append (block_code rule z [] 0) tail_code)
