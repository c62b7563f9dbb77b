-- The claims of the clock: its sizes, and sets of two correct nodes p and q.
use Rattle.std.specs.Prelude.{ℕ, ◌+◌, ◌-◌, ◌*◌, ◌==◌, nat_lt, nat_le, ◌&&◌, ◌||◌, Bool, true}
use Rattle.rule_syntax.specs.declared.syntax.Sizes.{Sizes}
use Rattle.rule_meaning.specs.Meaning.{word_at}
use Rattle.rule_steps.specs.Steps.{Between, Claim}

-- there are more nodes than this
abbrev pub fewest : Sizes → ℕ
fewest z = 3 * z.faults

-- n > 3 * f, M >= 3, and a memory with two words
abbrev pub is_clock_size : Sizes → Bool
is_clock_size z = nat_lt (fewest z) z.nodes && (nat_le 3 z.modulus && nat_le 8 z.memory)

abbrev pub node_clock : Between → ℕ
node_clock p = word_at 0 p.memory

abbrev pub mark_in : Between → ℕ
mark_in p = word_at 1 p.memory

-- p.clock == 0 or q.clock == 0 or p.clock == q.clock
abbrev pub agree : Between → Between → Bool
agree p q = (node_clock p == 0) || ((node_clock q == 0) || (node_clock p == node_clock q))

-- p.clock == c and p.mark == 1 and p.sent == c
abbrev pub common : ℕ → Between → Between → Bool
common c p q = (node_clock p == c) && ((mark_in p == 1) && (p.sent == c))

-- step any -> Agree
abbrev pub agreement_claim : Claim
agreement_claim = record {
  covers = is_clock_size;
  fixed = λ at. true;
  before = λ z correct p q. true;
  after = λ z correct. agree;
}

-- step Common[c] -> Common[c + 1] if c + 1 < M
abbrev pub next : ℕ → Claim
next c = record {
  covers = λ z. is_clock_size z && nat_lt (c + 1) z.modulus;
  fixed = λ at. true;
  before = λ z correct. common c;
  after = λ z correct. common (c + 1);
}

-- step Common[M - 1] -> Common[0]
abbrev pub around : Claim
around = record {
  covers = is_clock_size;
  fixed = λ at. true;
  before = λ z correct. common (z.modulus - 1);
  after = λ z correct. common 0;
}

-- step any -> Agree, where only n > 2 * f is assumed
abbrev pub agreement_by_halves : Claim
agreement_by_halves = record {
  covers = λ z. nat_lt (2 * z.faults) z.nodes && (nat_le 3 z.modulus && nat_le 8 z.memory);
  fixed = λ at. true;
  before = λ z correct p q. true;
  after = λ z correct. agree;
}
