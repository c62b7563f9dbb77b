-- The text of what is known of a register or of the stack (docs/VERIFIER.md, "Asking why").
use Rattle.std.specs.Prelude.{ℕ, ◌==◌, List, [], ◌∷◌, ◌++◌, codes, if◌then◌else◌}
use Rattle.std.specs.List.{flat_map}
use Rattle.std.specs.Fmt.{decimal}
use Rattle.node_env.specs.Env.{region_word}
use Rattle.bpf_verify.specs.declared.abstract_value.AbstractValue.{AbstractValue}
use Rattle.bpf_verify.specs.declared.abstract_value.AbstractValue.TheVariants.{Unset, Number, Pointer}
use Rattle.bpf_explain.specs.declared.fact.Fact.{Fact}
use Rattle.bpf_explain.specs.declared.fact.Fact.TheVariants as facts

-- one number, or two with those between them
abbrev pub range_text : ℕ → ℕ → List ℕ
range_text lo hi = if lo == hi then decimal lo else decimal lo ++ (codes ".." ++ decimal hi)

abbrev pub kind_text : AbstractValue → List ℕ
kind_text Unset = codes "unset"
kind_text (Number a) = range_text a.lo a.hi
kind_text (Pointer region a) = region_word region ++ (codes "+" ++ range_text a.lo a.hi)

abbrev pub fact_text : Fact → List ℕ
fact_text facts.NotReached = codes "not reached"
fact_text (facts.Register number kind) = codes "r" ++ (decimal number ++ (codes " = " ++ kind_text kind))
fact_text (facts.Dword number kind) = codes "dword " ++ (decimal number ++ (codes " = " ++ kind_text kind))
fact_text (facts.Written first last) = codes "written " ++ range_text first last
fact_text (facts.Holds first last kind) =
    codes "stack " ++ (range_text first last ++ (codes " = " ++ kind_text kind))
fact_text (facts.HasWritten first last) = codes "stack " ++ (range_text first last ++ codes " written")
fact_text (facts.MayLack byte) = codes "stack " ++ (decimal byte ++ codes " unwritten")

-- facts, each after a comma and a blank
abbrev pub fact_list : List Fact → List ℕ
fact_list facts = flat_map (λ fact. codes ", " ++ fact_text fact) facts

-- what is told after an instruction
abbrev pub remark : List Fact → List ℕ
remark [] = []
remark (first ∷ rest) = codes " # " ++ (fact_text first ++ fact_list rest)
