use Rattle.std.proofs.Common.{◌≡◌, ◌-◌, List, ℕ, Option, length, sym, ap, ◌∙◌, subst}
use Rattle.std.specs.Fmt.{HasWritten}
use Rattle.explored.specs.declared.found.Odds.{Odds}
use Rattle.exploration.specs.Answers.{last_share, odds_text, within_text}
use Rattle.exploration.proofs.odds.OddsTextDisplay.fmt.Goals as goal

pub returns-in-Known-clause-writes : goal.returns-in-Known-clause-writes
returns-in-Known-clause-writes g c plain ok =
    let odds = c.odds_within-odds.result in
    let of = c.odds_within-odds.ensures in
    let parts = c.in-Known.parts.items in
    let same : within_text odds.pulses odds.share odds.most ≡ odds_text c.args.self.now.0.now =
    ap (λ (pulses : ℕ). within_text pulses odds.share odds.most) of.pulses
    ∙ (ap (λ (share : ℕ). within_text (length parts - 1) share odds.most) of.share
    ∙ (ap (λ (most : Option ℕ). within_text (length parts - 1) (last_share parts) most) of.most
    ∙ ap (λ (told : Odds). odds_text told) (sym c.in-Known.is))) in
    subst (λ (text : List ℕ). HasWritten {W = g.row.W.Denot} g.W.Write.write_str_gives c.args.f.now text c.write.new.self)
    same (c.write.ensures.writes plain ok)
