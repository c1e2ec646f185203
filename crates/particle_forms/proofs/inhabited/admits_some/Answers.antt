use Rattle.std.proofs.Common.{◌∙◌, sym, ap, not, inl, inr}
use Rattle.particle_forms.specs.Accepted.{admits_some}
use Rattle.particle_forms.proofs.AcceptedLaws.{some-by-length}
use Rattle.particle_forms.proofs.inhabited.admits_some.Goals as goal

pub returns-in-In : goal.returns-in-In
returns-in-In c = ap not c.is_empty.ensures ∙ (some-by-length c.in-In.listed ∙ sym (ap admits_some c.in-In.is))

pub returns-in-Any : goal.returns-in-Any
returns-in-Any c = elim c.in-Any.is [ inl e ↦ sym (ap admits_some e) | inr e ↦ sym (ap admits_some e.1) ]

pub returns-in-Any-2 : goal.returns-in-Any-2
returns-in-Any-2 c = elim c.in-Any.is [ inl e ↦ sym (ap admits_some e) | inr e ↦ sym (ap admits_some e.1) ]
