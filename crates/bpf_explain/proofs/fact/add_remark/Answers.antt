use Rattle.std.proofs.Common.{◌++◌, None, ap, sym, ◌∙◌, arith}
use Rattle.std.specs.Prelude.{string_bytes}
use Rattle.std.proofs.lemmas.List.{append-nil}
use Rattle.std.proofs.lemmas.Str.Pattern.{strip_prefix_char}
use Rattle.bpf_explain.proofs.Listing.{unremarked}
use Rattle.bpf_explain.proofs.fact.add_remark.Goals as goal

pub returns-in-None : goal.returns-in-None
returns-in-None c facts told =
    let none = strip_prefix_char 44 c.args.told.now None c.in-None.ensures.cases (omega arith) in
    sym (ap (λ more. string_bytes c.args.text.now ++ more) (unremarked facts (λ rest e. none rest (told ∙ e)))
    ∙ append-nil (string_bytes c.args.text.now))
