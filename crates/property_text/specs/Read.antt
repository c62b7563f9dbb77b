-- What is known of properties that were read. That they are those of the text is tested only.
use Rattle.std.specs.Prelude.{◌≤◌}
use Rattle.properties.specs.declared.property.Form.{Form}
use Rattle.properties.specs.declared.property.Form.TheVariants.{Always, EventuallyAlways, Within}
use Rattle.properties.specs.declared.property.Property.{Property}
use Rattle.properties.specs.declared.property.TheConstants.{MAX_WITHIN}

-- it begins to hold after so many pulses at most
abbrev pub IsBoundedForm : Form → Type 0
IsBoundedForm Always = Unit {0}
IsBoundedForm EventuallyAlways = Unit {0}
IsBoundedForm (Within pulses) = pulses ≤ MAX_WITHIN

abbrev pub IsBounded : Property → Type 0
IsBounded p = IsBoundedForm p.form
