-- What `compile` leaves on its output (docs/COMMANDS.md, "What compile prints").
use Rattle.std.specs.Prelude.{◌≡◌, ℕ, ◌*◌, ◌≤◌, List, ◌++◌, codes, Option, Result, Ok, Err, Vec}
use Rattle.std.specs.declared.alloc.Global.{Global}
use Rattle.bpf_insn.specs.declared.forms.Insn.{Insn}
use Rattle.bpf_insn.specs.Programs.{image_of}
use Rattle.clock_nodes.specs.Rule.{IsRule}
use Rattle.rule_nodes.specs.Ends.{sizes_of}
use Rattle.rule_syntax.specs.declared.syntax.Sizes as rules
use Rattle.program_commands.specs.RuleListing.{IsListingOf}
use Rattle.rule_programs.specs.Programs.{IsProgramOfText, IsRefusalOfText, IsTextOf}
use Rattle.rule_programs.specs.declared.program.TheConstants.{WORD_BYTES}
use Rattle.command_answers.specs.declared.rejection.Uncompiled.{Uncompiled}
use Rattle.command_answers.specs.declared.rejection.Uncompiled.TheVariants.{Shape, Sizes, Rule}
use Rattle.command_answers.specs.declared.ending.Ending.{Ending}
use Rattle.command_answers.specs.declared.ending.Ending.TheVariants.{Done, Refused}
use Rattle.command_answers.specs.declared.fault.Fault.{Fault}
use Rattle.requests.specs.declared.request.CompileOptions.{CompileOptions}
use Rattle.requests.specs.declared.request.CompiledForm.{CompiledForm}
use Rattle.requests.specs.declared.request.CompiledForm.TheVariants.{Image, Listing, C}
use Rattle.requests.specs.Shapes.{HasShape, asked_extent}
use Rattle.command_answers.specs.Faults.{IsFaultOfText}
use Rattle.command_answers.specs.Output.{LeavesAny}
use Rattle.command_answers.specs.Rejections.{uncompiled_line}

-- the numbers that the program is asked for
abbrev pub asked_sizes : CompileOptions → rules.Sizes
asked_sizes asked = sizes_of (asked_extent asked.shape) asked.faults asked.modulus

-- the text has a program of which this holds
abbrev pub IsOfProgram : rules.Sizes → List ℕ → (List Insn → Type 0) → Type 0
IsOfProgram z text holds = (program : List Insn) × IsProgramOfText z text program × holds program

-- the image of a rule's program, its listing, or the rule in C. Nothing is said of the text in C but that the text that
-- is read is a rule whose words the memory has: `rule_in_c` of `rule_c` makes it
abbrev pub IsCompiledText : CompiledForm → rules.Sizes → List ℕ → List ℕ → Type 0
IsCompiledText Image z text bytes = IsOfProgram z text (λ program. bytes ≡ image_of program)
IsCompiledText Listing z text bytes = IsOfProgram z text (λ program. IsListingOf z text program bytes)
IsCompiledText C z text bytes = IsTextOf text (λ rule. WORD_BYTES * rule.words ≤ z.memory)

-- what is printed of the text, or why there is nothing to print: the shape comes first, then the sizes, then what is
-- wrong with the text
abbrev pub Compiles : CompileOptions → List ℕ → Result (Vec ℕ Global) Uncompiled → Type 0
Compiles asked text (Ok bytes) = IsCompiledText asked.form (asked_sizes asked) text bytes.items
Compiles asked text (Err Shape) = HasShape asked.shape → ⊥
Compiles asked text (Err Sizes) =
    HasShape asked.shape × (IsRule asked.shape.nodes asked.faults asked.modulus → ⊥)
Compiles asked text (Err (Rule refusal)) = IsRefusalOfText (asked_sizes asked) text refusal

-- what is printed: the image, the listing or the function in C, or the line of the refusal
abbrev pub compiled_text : Result (Vec ℕ Global) Uncompiled → List ℕ
compiled_text (Ok bytes) = bytes.items
compiled_text (Err why) = uncompiled_line why ++ codes "\n"

abbrev pub compiled_ending : Result (Vec ℕ Global) Uncompiled → Ending
compiled_ending (Ok bytes) = Done
compiled_ending (Err why) = Refused

-- what is printed of the rule of these bytes, or the line that refuses them
abbrev pub LeavesCompiled : Option (List ℕ) → Option (List ℕ) → CompileOptions → List ℕ → Result Ending Fault → Type 0
LeavesCompiled old new asked text ended =
    LeavesAny (Compiles asked text) compiled_text compiled_ending (IsFaultOfText text) old new ended
