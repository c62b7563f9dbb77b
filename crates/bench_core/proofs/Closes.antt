-- Each open pulse can be closed, in one way.
use Rattle.std.proofs.Common.{◌≡◌, ℕ, zero, suc, ◌+◌, ◌<◌, ◌==◌, ◌&&◌, ◌↔◌, Bool, true, false, IsTrue, List, [], ◌∷◌, length, map, get_or, Option, Some, None, MatchOption, IfSome, IsSome, refl, sym, ap, ◌∙◌, subst, arith}
use Rattle.std.specs.List.{AllByRecursion}
use Rattle.std.specs.Ordering.{nat_cmp}
use Rattle.std.specs.FinMap.{FinMap, empty}
use Rattle.std.proofs.lemmas.Bool.{and_parts, eqb-true, eq-eqb}
use Rattle.std.proofs.lemmas.List.{length-map}
use Rattle.node_env.specs.Env.{Setting, IsSetting}
use Rattle.bpf_insn.specs.declared.forms.Insn.{Insn}
use Rattle.bpf_insn.specs.Encoding.{InRange}
use Rattle.bpf_insn.specs.Programs.{image_of}
use Rattle.bpf_insn.proofs.ImageLaws.{image_once}
use Rattle.bpf_machine.specs.Run.{CompleteRun, End}
use Rattle.bpf_verify.specs.Accepted.{Accepted, IsVerified}
use Rattle.bpf_verify.specs.Typable.{Typable}
use Rattle.bpf_run.proofs.Runs.{run_ends}
use Rattle.bench_core.specs.Setup.{Setup, IsSetup}
use Rattle.bench_core.specs.State.{Node, State, IsMemory, no_node, node_at, mail_from, setting_at}
use Rattle.bench_core.specs.Pulse.{RunsClock, Runs, Rests, NodePulse, Pulse}
use Rattle.bench_core.specs.Headline.{EachCloses}
use Rattle.bench_core.proofs.Acceptance.{HasAccepted, accepted_replay, program_is}
use Rattle.bench_core.proofs.Sound.{Sound, IsShaped, sound_replay, is_setting}
use Rattle.bench_core.proofs.Counting.{get_map}
use Rattle.bench_core.proofs.Replays.{one_pulse}

-- ---- the clock program's numbers are of their types

abbrev AreInRange : List Insn → Type 0
AreInRange is = AllByRecursion InRange is

in_listing : (s : Setup) → IsSetup s → AreInRange s.clock
in_listing s ok = ok.clock.in_range

-- ---- whether a program has the clock program's instructions

numbers_same : List ℕ → List ℕ → Bool
numbers_same [] [] = true
numbers_same [] (y ∷ ys) = false
numbers_same (x ∷ xs) [] = false
numbers_same (x ∷ xs) (y ∷ ys) = (x == y) && numbers_same xs ys

numbers_true : (xs ys : List ℕ) → numbers_same xs ys ≡ true → xs ≡ ys
unfolding numbers_same
numbers_true [] [] e = refl
numbers_true [] (y ∷ ys) e = absurd (let no : false ≡ true = e in cc)
numbers_true (x ∷ xs) [] e = absurd (let no : false ≡ true = e in cc)
numbers_true (x ∷ xs) (y ∷ ys) e =
    let both = and_parts (x == y) (numbers_same xs ys) e in
    let first : x ≡ y = eqb-true x y both.0 in
    let rest : xs ≡ ys = numbers_true xs ys both.1 in
    rw (first, rest) refl

numbers_itself : (xs : List ℕ) → numbers_same xs xs ≡ true
unfolding numbers_same
numbers_itself [] = refl
numbers_itself (x ∷ xs) = rw (eq-eqb x x refl) (numbers_itself xs)

runs_clock : (s : Setup) (p : Accepted) → AreInRange p.program → AreInRange s.clock
    → IsTrue (numbers_same (image_of p.program) (image_of s.clock)) ↔ RunsClock s p
runs_clock s p mine other = (
  λ e. image_once p.program (s.clock) mine other
      (numbers_true (image_of p.program) (image_of s.clock) e),
  λ e. subst (λ (l : List Insn). numbers_same (image_of p.program) (image_of l) ≡ true) e
      (numbers_itself (image_of p.program)),
)

-- ---- the nodes after it

abbrev Part : Type 0
Part = Node × FinMap nat_cmp ℕ

node_goes : (s : Setup) (env : Setting) (x : Node) (o : Option Accepted) → x.program ≡ o → AreInRange s.clock
    → IfSome o (λ p. AreInRange p.program × ((end : End) × CompleteRun p.program env x.memory end))
    → (y : Part) × NodePulse s env x y.0 y.1
node_goes s env x None e listed ran =
    let y : Node = record { program = None; memory = x.memory; mark = false } in
    let rests : Rests x y empty = record { memory = refl; sends = refl; mark = refl } in (
      (y, empty),
      (
        sym e,
        subst (λ (o : Option Accepted). MatchOption o (Rests x y empty) (λ p. Runs s p env x y empty))
            (sym e) rests,
      ),
    )
node_goes s env x (Some p) e listed ran =
    let end = ran.1.0 in
    let y : Node = record {
      program = Some p;
      memory = end.memory;
      mark = numbers_same (image_of p.program) (image_of s.clock);
    } in
    let runs : Runs s p env x y end.sent = record {
      end = end;
      run = ran.1.1;
      memory = refl;
      sends = refl;
      mark = runs_clock s p ran.0 listed;
    } in (
      (y, end.sent),
      (
        sym e,
        subst (λ (o : Option Accepted). MatchOption o (Rests x y end.sent)
            (λ q. Runs s q env x y end.sent)) (sym e) runs,
      ),
    )

if_there : {A : Type 0} (P Q : A → Type 0) (o : Option A) → ((x : A) → o ≡ Some x → P x → Q x) → IfSome o P → IfSome o Q
if_there P Q None f h = tt
if_there P Q (Some x) f h = f x refl h

node_runs : (s : Setup) (b : State) (coins : List ℕ) (i : ℕ) → IsSetup s → Sound s b → HasAccepted b
    → b.coins ≡ Some coins → i < s.shape.nodes
    → (y : Part) × NodePulse s (setting_at s b.mail coins i) (node_at b.nodes i) y.0 y.1
node_runs s b coins i ok sound has is_open lt =
    let env = setting_at s b.mail coins i in
    let x = node_at b.nodes i in
    let is = is_setting s b coins i ok sound is_open lt in
    let whole = sound.memories i lt in
    node_goes s env x x.program refl (in_listing s ok)
    (if_there (IsShaped s.shape) (λ p. AreInRange p.program × ((end : End) × CompleteRun p.program env x.memory end))
    x.program
    (λ p loaded shape. ends p (program_is b i p has loaded) shape is whole)
    (sound.programs i lt))
  where
    ends : (p : Accepted) → IsVerified p → IsShaped s.shape p → IsSetting (setting_at s b.mail coins i)
        → IsMemory s.shape (node_at b.nodes i).memory
        → AreInRange p.program
        × ((end : End) × CompleteRun p.program (setting_at s b.mail coins i) (node_at b.nodes i).memory end)
    ends p fit shape is whole = (
      fit.program.in_range,
      run_ends p.program (setting_at s b.mail coins i) (node_at b.nodes i).memory p.budget fit.program is
          (subst (Typable p.program) shape fit.typable) fit.longest whole.length whole.bytes,
    )

-- one of each is a list
at_cons : {X : Type 0} (P : ℕ → X → Type 0) (d x : X) (xs : List X) (n : ℕ) → P 0 x
    → ((i : ℕ) → i < n → P (suc i) (get_or xs i d)) → (i : ℕ) → i < suc n → P i (get_or (x ∷ xs) i d)
at_cons P d x xs n first rest zero lt = first
at_cons P d x xs n first rest (suc i) lt = rest i (omega (arith, lt))

record Chosen {X : Type 0} (P : ℕ → X → Type 0) (d : X) (n : ℕ) : Type 0 where
  items : List X
  count : length items ≡ n
  each : (i : ℕ) → i < n → P i (get_or items i d)

chosen : {X : Type 0} (P : ℕ → X → Type 0) (d : X) (n : ℕ) → ((i : ℕ) → i < n → (x : X) × P i x) → Chosen P d n
chosen P d zero f = record { items = []; count = refl; each = λ i lt. absurd (omega (arith, lt)) }
chosen P d (suc n) f =
    let first = f 0 (omega arith) in
    let rest = chosen (λ i x. P (suc i) x) d n (λ i lt. f (suc i) (omega (arith, lt))) in
    record {
      items = first.0 ∷ rest.items;
      count = ap suc rest.count;
      each = at_cons P d first.0 rest.items n first.1 rest.each;
    }

closed_pulse : (s : Setup) (b : State) (coins : List ℕ) → IsSetup s → Sound s b → HasAccepted b
    → b.coins ≡ Some coins → (b' : State) × Pulse s b b'
closed_pulse s b coins ok sound has is_open =
    let none : Part = (no_node, empty) in
    let parts = chosen (λ i (y : Part). NodePulse s (setting_at s b.mail coins i) (node_at b.nodes i) y.0 y.1) none
    s.shape.nodes (λ i lt. node_runs s b coins i ok sound has is_open lt) in
    let nodes = map (λ (y : Part). y.0) parts.items in
    let mail = map (λ (y : Part). y.1) parts.items in
    let b' : State = record { nodes = nodes; mail = mail; closed = b.closed + 1; staged = b.staged; coins = None } in (
      b',
      record {
        coins = coins;
        is_open = is_open;
        nodes = length-map parts.items (λ (y : Part). y.0) ∙ (parts.count ∙ sym sound.nodes);
        mail = length-map parts.items (λ (y : Part). y.1) ∙ (parts.count ∙ sym sound.nodes);
        each = λ i lt.
            let inside : i < length parts.items = omega (arith, lt, parts.count, sound.nodes) in
            let node : node_at nodes i ≡ (get_or parts.items i none).0 = get_map
            (λ (y : Part). y.0) parts.items i none no_node inside in
            let row : mail_from mail i ≡ (get_or parts.items i none).1 = get_map
            (λ (y : Part). y.1) parts.items i none empty inside in
            subst (λ (y : Node). NodePulse s (setting_at s b.mail coins i) (node_at b.nodes i) y (mail_from mail i))
            (sym node)
            (subst (λ (r : FinMap nat_cmp ℕ). NodePulse s (setting_at s b.mail coins i) (node_at b.nodes i)
            (get_or parts.items i none).0 r) (sym row)
            (parts.each i (omega (arith, lt, sound.nodes))));
        closed = refl;
        staged = refl;
        over = refl;
      },
    )

open_coins : (o : Option (List ℕ)) → IsSome o → (coins : List ℕ) × (o ≡ Some coins)
open_coins None h = absurd (let no : false ≡ true = h in cc)
open_coins (Some coins) h = (coins, refl)

pub each_closes : EachCloses
each_closes s history b ok replay are is_open =
    let open_with = open_coins b.coins is_open in
    let made = closed_pulse s b open_with.0 ok (sound_replay s history b ok replay)
    (accepted_replay s history b are replay) open_with.1 in
    (made.0, made.1, λ c pulse. one_pulse s b c made.0 pulse made.1)
