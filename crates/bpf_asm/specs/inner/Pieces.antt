-- Beside Pieces: what proofs and private contracts alone cite.
use Rattle.std.specs.Borrow.{Bor}
use Rattle.std.specs.Prelude.{ℕ, Option, Some, None, Bool, List, []}
use Rattle.bpf_asm.specs.declared.pieces.Letters.{Letters}
use Rattle.bpf_asm.specs.declared.pieces.Letters.TheVariants.{Blank, Word}
use Rattle.bpf_asm.specs.Pieces.{pieces_of, is_blank, is_word_letter}

-- the pieces of what comes after a mark
abbrev pub pieces_left : (ℕ → Bool) → Option (Bor (List ℕ)) → List (List ℕ)
pieces_left parts None = []
pieces_left parts (Some rest) = pieces_of parts rest.now

abbrev pub is_among : Letters → ℕ → Bool
is_among Blank c = is_blank c
is_among Word c = is_word_letter c
