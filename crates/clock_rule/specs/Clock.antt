-- The rule of docs/CLOCK.md ("The rule") in the language of rules: each definition is a part of its text.
use Rattle.rule_syntax.specs.declared.syntax.Operation.TheVariants.{Sum, Difference, Remainder}
use Rattle.rule_syntax.specs.declared.syntax.Comparison.TheVariants.{Equal, NotEqual, Less}
use Rattle.rule_syntax.specs.declared.syntax.Operator.TheVariants.{Compute, Compare}
use Rattle.rule_syntax.specs.declared.syntax.Target.TheVariants.{ToWord}
use Rattle.rule_text.specs.Forms.{TermForm, number, nodes, faults, modulus, coin, loop_node, local, word, message}
use Rattle.rule_text.specs.Forms.{binary, choice, count, one, also, StatementForm, nothing, sequence, let_in, assign}
use Rattle.rule_text.specs.Forms.{branch, send_all}
use Rattle.rule_text.specs.Statements.{RuleForm}

-- ---- names: the clock and the mark are words 0 and 1, v and support the first two lets

abbrev pub v : TermForm
v = local 0

abbrev pub support_term : TermForm
support_term = local 1

abbrev pub mark : TermForm
mark = word 1

-- ---- terms

-- clock if clock < M else 0
abbrev pub clock_below_modulus : TermForm
clock_below_modulus = choice (binary (Compare Less) (word 0) modulus) (word 0) (number 0)

-- count j: mail[j] == v
abbrev pub nodes_that_sent_v : TermForm
nodes_that_sent_v = count (binary (Compare Equal) (message (loop_node 0)) v)

-- support < n - f
abbrev pub is_support_low : TermForm
is_support_low = binary (Compare Less) support_term (binary (Compute Difference) nodes faults)

-- (v + 1) % M
abbrev pub next_clock : TermForm
next_clock = binary (Compute Remainder) (binary (Compute Sum) v (number 1)) modulus

-- a != 0
abbrev pub is_not_0 : TermForm → TermForm
is_not_0 a = binary (Compare NotEqual) a (number 0)

-- ---- statements

-- clock, mark = a, b
abbrev pub pair_becomes : TermForm → TermForm → StatementForm
pair_becomes a b = assign (also (one (ToWord 0) a) (ToWord 1) b)

-- the four cases
abbrev pub new_pair : StatementForm
new_pair =
    branch is_support_low (pair_becomes (number 0) (number 0))
    (branch (is_not_0 v) (pair_becomes next_clock (number 1))
    (branch (is_not_0 mark) (pair_becomes (number 1) (number 1)) (pair_becomes coin coin)))

-- the whole rule
abbrev pub clock_statement : StatementForm
clock_statement =
    let_in clock_below_modulus (let_in nodes_that_sent_v (sequence new_pair (sequence (send_all (word 0)) nothing)))

-- with its two words, the clock and the mark
abbrev pub clock_rule : RuleForm
clock_rule = record { statement = clock_statement; words = 2 }
