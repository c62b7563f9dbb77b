-- Beside Listing: what proofs and private contracts alone cite.
use Rattle.std.specs.Borrow.{Bor}
use Rattle.std.specs.Prelude.{ℕ, ◌==◌, List, [], ◌∷◌, Option, Some, None, if◌then◌else◌}
use Rattle.bpf_asm.specs.declared.listing.ListedLine.{ListedLine}
use Rattle.bpf_asm.specs.Listing.{Listed}

abbrev pub listed_in : ListedLine → Listed
listed_in line = record { number = line.number; slot = line.slot; slots = line.slots; text = line.text.now }

-- the bytes after a line
abbrev pub left_of : Option (Bor (List ℕ)) → List ℕ
left_of None = []
left_of (Some rest) = rest.now

-- the number of a line that has an instruction
abbrev pub number_by : ℕ → ℕ → List ℕ
number_by number slots = if slots == 0 then [] else number ∷ []
