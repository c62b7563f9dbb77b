-- The file that a word after the option names.
use Rattle.std.proofs.Common.{Bor, List, None, Option, Some, inl, ℕ, ◌∷◌, ◌≡◌, ⊎_elim}
use Rattle.std.specs.Prelude.{MatchOption, ◌≢◌}
use Rattle.clockbed.specs.Words.{FollowsOption, NamesFile}

-- what is left of the word without its mark
pub named_after : (before : Option (List ℕ)) (word : List ℕ) (r : Option (Bor (List ℕ))) → FollowsOption before
    → MatchOption r ((rest : List ℕ) → word ≢ 64 ∷ rest) (λ x. word ≡ 64 ∷ x.now)
    → MatchOption r ((path : List ℕ) → NamesFile before word path → ⊥) (λ path. NamesFile before word path.now)
named_after before word None follows stripped =
    λ path named. ⊎_elim (λ after. stripped path after.1) (λ apart. apart.0 follows) named
named_after before word (Some path) follows stripped = inl (follows, stripped)
