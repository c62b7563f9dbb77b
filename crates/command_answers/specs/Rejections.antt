-- The line that says why there is no program, without its end (docs/COMMANDS.md).
use Rattle.std.specs.Prelude.{ℕ, List, ◌++◌, codes}
use Rattle.std.specs.Fmt.{decimal}
use Rattle.bpf_asm.specs.Errors.{text_error_text}
use Rattle.bpf_insn.specs.Images.{image_error_text}
use Rattle.rule_text.specs.Errors.{error_name}
use Rattle.rule_programs.specs.declared.program.RuleRefusal.TheVariants as rules
use Rattle.command_answers.specs.declared.rejection.Uncompiled.{Uncompiled}
use Rattle.command_answers.specs.declared.rejection.Uncompiled.TheVariants as uncompiled
use Rattle.command_answers.specs.declared.rejection.Unread.{Unread}
use Rattle.command_answers.specs.declared.rejection.Unread.TheVariants as unreads

abbrev pub unread_line : Unread → List ℕ
unread_line unreads.Shape = codes "refused shape"
unread_line (unreads.Image error) = codes "refused image " ++ image_error_text error
unread_line (unreads.Text error) = codes "refused text " ++ text_error_text error

abbrev pub uncompiled_line : Uncompiled → List ℕ
uncompiled_line uncompiled.Shape = codes "refused shape"
uncompiled_line uncompiled.Sizes = codes "refused sizes"
uncompiled_line (uncompiled.Rule (rules.Text error line column)) = codes "refused rule " ++ (error_name error
    ++ (codes " line " ++ (decimal line ++ (codes " column " ++ decimal column))))
uncompiled_line (uncompiled.Rule rules.NoRoom) = codes "refused rule NoRoom"
uncompiled_line (uncompiled.Rule rules.TooLong) = codes "refused rule TooLong"
