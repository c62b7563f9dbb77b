-- The facts known at a place of a certificate.
use Rattle.linear_certificates.specs.Meaning.{Assignment, FormulaHolds}
use Rattle.linear_certificates.specs.declared.known.Known.{Known}
use Rattle.linear_certificates.specs.declared.known.Known.TheVariants.{Nothing, Fact'}

-- each of them holds
abbrev pub AllHold : Assignment → Known → Type 0
AllHold v Nothing = Unit {0}
AllHold v (Fact' f p others) = FormulaHolds v f.now × AllHold v others
