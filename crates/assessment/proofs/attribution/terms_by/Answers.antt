use Rattle.assessment.proofs.attribution.terms_by.Goals as goal

pub returns-in-All : goal.returns-in-All
returns-in-All c = rw c.in-All.is c.terms_by_all.ensures
