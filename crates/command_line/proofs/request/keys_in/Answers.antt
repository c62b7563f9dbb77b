use Rattle.std.proofs.Common.{rules, codes, ◌≡◌, ◌++◌, Some}
use Rattle.std.proofs.lemmas.Str.Pattern.{split_text_parts}
use Rattle.command_line.proofs.request.keys_in.Goals as goal

pub returns : goal.returns
returns c =
    let parts : c.args.text.now ≡ c.in_ok-first.first.now ++ (codes ".." ++ c.in_ok-first.last.now) =
    split_text_parts (codes "..") c.args.text.now (Some (c.in_ok-first.first, c.in_ok-first.last))
    c.in_ok-first.ensures.cases in
    search rules
