-- A term that fits at a depth fits at every lesser one.
use Rattle.std.proofs.Common.{◌≡◌, ℕ, ◌+◌, ◌<◌, ◌≤◌, Bool, true, false, ◌||◌, List, [], ◌∷◌, ◌++◌, length, arith, subst, ap, length-append}
use Rattle.rule_syntax.specs.declared.syntax.Sizes.{Sizes}
use Rattle.rule_syntax.specs.declared.syntax.Term.{Term}
use Rattle.rule_syntax.specs.declared.syntax.Term.TheVariants.{Number, Nodes, Faults, Modulus, Me, Coin, LoopNode, Local, Word, Message', Binary', Logical', Not', Choice', Count', Least', Sorted'}
use Rattle.rule_nodes.specs.Operands.{is_operand, is_shared, depth_behind}
use Rattle.rule_nodes.specs.Fits.{HasPlace, SidesFit, Fits}

place_less : (simple : Bool) (d e : ℕ) → d ≤ e → HasPlace simple e → HasPlace simple d
place_less true d e le h = tt
place_less false d e le h = omega (arith, le, h)

behind_less : (steady : Bool) (d e : ℕ) → d ≤ e → depth_behind steady d ≤ depth_behind steady e
behind_less true d e le = le
behind_less false d e le = omega (arith, le)

sides_less : (shared found : Bool) (d e : ℕ) (Left Right : ℕ → Type 0) → d ≤ e
    → ((m n : ℕ) → m ≤ n → Left n → Left m) → ((m n : ℕ) → m ≤ n → Right n → Right m)
    → SidesFit shared found e Left Right → SidesFit shared found d Left Right
sides_less true found d e Left Right le left right h = (
  omega (arith, le, h.0),
  right (d + 1) (e + 1) (omega (arith, le)) h.1,
  left (d + 2) (e + 2) (omega (arith, le)) h.2,
)
sides_less false found d e Left Right le left right h = (
  place_less found (d + 1) (e + 1) (omega (arith, le)) h.0,
  left (d + 1) (e + 1) (omega (arith, le)) h.1,
  right (depth_behind found (d + 1)) (depth_behind found (e + 1))
      (behind_less found (d + 1) (e + 1) (omega (arith, le))) h.2,
)

pub fits_less : (t : Term) (z : Sizes) (loops lets d e : ℕ) → d ≤ e → Fits t z loops lets e → Fits t z loops lets d
fits_less (Number v) z loops lets d e le h = h
fits_less Nodes z loops lets d e le h = h
fits_less Faults z loops lets d e le h = h
fits_less Modulus z loops lets d e le h = h
fits_less Me z loops lets d e le h = h
fits_less Coin z loops lets d e le h = h
fits_less (LoopNode i) z loops lets d e le h = h
fits_less (Local k) z loops lets d e le h = h
fits_less (Word k) z loops lets d e le h = h
fits_less (Message' p a) z loops lets d e le h = fits_less a z loops lets d e le h
fits_less (Binary' o p a q b) z loops lets d e le h =
    let found = is_operand a || is_operand b in (
      place_less found d e le h.0,
      fits_less a z loops lets d e le h.1,
      fits_less b z loops lets (depth_behind found d) (depth_behind found e) (behind_less found d e le) h.2,
    )
fits_less (Logical' c p a q b) z loops lets d e le h =
    (fits_less a z loops lets d e le h.0, fits_less b z loops lets d e le h.1)
fits_less (Not' p a) z loops lets d e le h = fits_less a z loops lets d e le h
fits_less (Choice' p t q a r b) z loops lets d e le h =
    (fits_less t z loops lets d e le h.0, fits_less a z loops lets d e le h.1, fits_less b z loops lets d e le h.2)
fits_less (Count' p (Binary' o q a r b)) z loops lets d e le h = (
  omega (arith, le, h.0),
  sides_less (is_shared o a b loops) (is_operand a || is_operand b) d e (λ n. Fits a z (loops + 1) lets n)
      (λ n. Fits b z (loops + 1) lets n) le (λ m n l k. fits_less a z (loops + 1) lets m n l k)
      (λ m n l k. fits_less b z (loops + 1) lets m n l k) h.1,
)
fits_less (Count' p t) z loops lets d e le h =
    (omega (arith, le, h.0), fits_less t z (loops + 1) lets (d + 1) (e + 1) (omega (arith, le)) h.1)
fits_less (Least' p (Binary' o q a r b)) z loops lets d e le h = (
  omega (arith, le, h.0),
  sides_less (is_shared o a b loops) (is_operand a || is_operand b) d e (λ n. Fits a z (loops + 1) lets n)
      (λ n. Fits b z (loops + 1) lets n) le (λ m n l k. fits_less a z (loops + 1) lets m n l k)
      (λ m n l k. fits_less b z (loops + 1) lets m n l k) h.1,
)
fits_less (Least' p t) z loops lets d e le h =
    (omega (arith, le, h.0), fits_less t z (loops + 1) lets (d + 1) (e + 1) (omega (arith, le)) h.1)
fits_less (Sorted' p k q t) z loops lets d e le h = (
  h.0,
  fits_less k z loops lets d e le h.1,
  omega (arith, le, h.2),
  fits_less t z (loops + 1) lets (d + z.nodes) (e + z.nodes) (omega (arith, le)) h.3,
)

-- the number of node n, as the compiler's variables have it
pub item_fits : (e : Term) (z : Sizes) (J J1 J2 : List ℕ) (lets d n : ℕ) → J1 ≡ J ++ n ∷ [] → J2 ≡ J1 → n < z.nodes
    → Fits e z (length J + 1) lets (d + z.nodes) → Fits e z (length J2) lets (d + n)
item_fits e z J J1 J2 lets d n e1 e2 lt fits =
    let more : length J + 1 ≡ length J2 = omega (arith, length-append J (n ∷ []), ap length e1, ap length e2) in
    subst (λ (loops : ℕ). Fits e z loops lets (d + n)) more
    (fits_less e z (length J + 1) lets (d + n) (d + z.nodes) (omega (arith, lt)) fits)
