-- Answers that count pulses.
use Rattle.properties.specs.declared.property.Form.{Form}
use Rattle.properties.specs.declared.property.Form.TheVariants as forms

-- the form that judges the same pulses, and whose answer counts them
abbrev pub counting_form : Form → Form
counting_form forms.Always = forms.Always
counting_form forms.EventuallyAlways = forms.Always
counting_form (forms.Within k) = forms.Within k
