use Rattle.property_text.proofs.terms.Terms.+part.Given as goal

abbrev pub decreases-part : goal.decreases-part
decreases-part l = l.depth
