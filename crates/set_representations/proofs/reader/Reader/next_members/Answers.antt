use Rattle.std.proofs.Common.{◌≡◌, sym, ◌∙◌}
use Rattle.set_representations.proofs.MemberLaws.{same-last, not-last}
use Rattle.set_representations.proofs.reader.Reader.next_members.Goals as goal

pub returns-in-None-clause-members : goal.returns-in-None-clause-members
returns-in-None-clause-members c = λ places later is. absurd (not-last later places (sym c.in-None.ensures.0 ∙ is))

pub returns-in-Some-clause-members : goal.returns-in-Some-clause-members
returns-in-Some-clause-members c = λ places later is. same-last c.pop.new.self later c.in-Some.places places (sym c.in-Some.ensures ∙ is)
