-- What conditions make hold.
use Rattle.std.proofs.Common.{◌≡◌, ℕ, ◌+◌, ◌<◌, ◌≤◌, nat_le, ◌||◌, Bool, true, false, refl, arith, inl, inr}
use Rattle.std.specs.Prelude.{◌⊎◌}
use Rattle.std.proofs.lemmas.Bool.{leb-true, leb-false, and_parts, and_cases}
use Rattle.rule_syntax.specs.declared.syntax.Sizes.{Sizes}
use Rattle.rule_meaning.specs.Meaning.{word_at}
use Rattle.rule_steps.specs.Steps.{Between}
use Rattle.rule_paths.specs.Relations.{Variable, Numbers, AgreeBelow, IsSettled, Settles}
use Rattle.rule_paths.specs.Stores.{AreSizeNumbers}
use Rattle.rule_paths.proofs.Fresh.{is_settled_more, sizes_more}
use Rattle.step_searches.specs.declared.claims.Quantity.{Quantity}
use Rattle.step_searches.specs.declared.claims.Quantity.TheVariants.{Number, Nodes, Faults, Modulus, Free, FirstSent, FirstWord, SecondSent, SecondWord}
use Rattle.step_searches.specs.declared.claims.Total.{Total}
use Rattle.step_searches.specs.declared.claims.Total.TheVariants.{Zero, Plus'}
use Rattle.step_searches.specs.declared.claims.Condition.{Condition}
use Rattle.step_searches.specs.declared.claims.Condition.TheVariants.{Anything, AtMost, Both', Either'}
use Rattle.step_searches.specs.Claims.{quantity, total, meets, QuantityIsCovered, TotalIsCovered, ConditionIsCovered}
use Rattle.step_searches.specs.Views.{View, viewed, summed, stated, denied}

-- the variables below n say what a node is
pub record Shows (W n : ℕ) (v : Numbers) (x : View) (node : Between) : Type 0 where
  pub sent : IsSettled n v x.sent node.sent
  pub words : (k : ℕ) → k < W → IsSettled n v (x.words k) (word_at k node.memory)

-- and what the sizes and the free names are
pub record Names (F : ℕ) (z : Sizes) (free : ℕ → ℕ) (n : ℕ) (v : Numbers) : Type 0 where
  pub sizes : AreSizeNumbers z n v
  pub named : (k : ℕ) → k < F → IsSettled n v (Variable (3 + k)) (free k)

pub shows_more : (W m n : ℕ) (v w : Numbers) (x : View) (node : Between) → m ≤ n → AgreeBelow m w v → Shows W m v x node
    → Shows W n w x node
shows_more W m n v w x node le same h = record {
  sent = is_settled_more m n v w x.sent node.sent le same h.sent;
  words = λ k lt. is_settled_more m n v w (x.words k) (word_at k node.memory) le same (h.words k lt);
}

pub names_more : (F : ℕ) (z : Sizes) (free : ℕ → ℕ) (m n : ℕ) (v w : Numbers) → m ≤ n → AgreeBelow m w v
    → Names F z free m v → Names F z free n w
names_more F z free m n v w le same h = record {
  sizes = sizes_more z m n v w le same h.sizes;
  named = λ k lt. is_settled_more m n v w (Variable (3 + k)) (free k) le same (h.named k lt);
}

or_one : (x y : Bool) → (x || y) ≡ true → (x ≡ true) ⊎ (y ≡ true)
or_one true y e = inl refl
or_one false y e = inr e

or_none : (x y : Bool) → (x || y) ≡ false → (x ≡ false) × (y ≡ false)
or_none true y e = absurd (let never : true ≡ false = e in cc)
or_none false y e = (refl, e)

false_le : (a b : ℕ) → nat_le a b ≡ false → b + 1 ≤ a
false_le a b h = let more = leb-false a b h in omega (arith, more)

module _ (F W : ℕ) (z : Sizes) (free : ℕ → ℕ) (n : ℕ) (v : Numbers) (x y : View) (p q : Between)
    (names : Names F z free n v) (first : Shows W n v x p) (second : Shows W n v y q) where
  viewed_is : (a : Quantity) → QuantityIsCovered F W a → IsSettled n v (viewed x y a) (quantity z free p q a)
  viewed_is (Number c) h w same = refl
  viewed_is Nodes h w same = names.sizes.nodes w same
  viewed_is Faults h w same = names.sizes.faults w same
  viewed_is Modulus h w same = names.sizes.modulus w same
  viewed_is (Free k) h w same = names.named k h w same
  viewed_is FirstSent h w same = first.sent w same
  viewed_is (FirstWord k) h w same = first.words k h w same
  viewed_is SecondSent h w same = second.sent w same
  viewed_is (SecondWord k) h w same = second.words k h w same

  summed_is : (t : Total) → TotalIsCovered F W t → IsSettled n v (summed x y t) (total z free p q t)
  summed_is Zero h w same = refl
  summed_is (Plus' a b rest) h w same = omega (arith, viewed_is a h.0 w same, summed_is rest h.1 w same)

  pub stated_is : (c : Condition) → ConditionIsCovered F W c → meets z free c p q ≡ true → Settles n v (stated x y c)
  stated_is Anything h e w same = tt
  stated_is (AtMost a b) h e w same =
      let le = leb-true (total z free p q a) (total z free p q b) e in
      omega (arith, le, summed_is a h.0 w same, summed_is b h.1 w same)
  stated_is (Both' s a t b) h e w same =
      let parts = and_parts (meets z free a p q) (meets z free b p q) e in
      (stated_is a h.0 parts.0 w same, stated_is b h.1 parts.1 w same)
  stated_is (Either' s a t b) h e w same = elim (or_one (meets z free a p q) (meets z free b p q) e) [
    | inl f ↦ inl (stated_is a h.0 f w same)
    | inr f ↦ inr (stated_is b h.1 f w same)
  ]

  pub denied_is : (c : Condition) → ConditionIsCovered F W c → meets z free c p q ≡ false → Settles n v (denied x y c)
  denied_is Anything h e w same = absurd (let never : true ≡ false = e in cc)
  denied_is (AtMost a b) h e w same =
      let le = false_le (total z free p q a) (total z free p q b) e in
      omega (arith, le, summed_is a h.0 w same, summed_is b h.1 w same)
  denied_is (Both' s a t b) h e w same = elim (and_cases (meets z free a p q) (meets z free b p q) e) [
    | inl f ↦ inl (denied_is a h.0 f w same)
    | inr f ↦ inr (denied_is b h.1 f w same)
  ]
  denied_is (Either' s a t b) h e w same =
      let parts = or_none (meets z free a p q) (meets z free b p q) e in
      (denied_is a h.0 parts.0 w same, denied_is b h.1 parts.1 w same)
