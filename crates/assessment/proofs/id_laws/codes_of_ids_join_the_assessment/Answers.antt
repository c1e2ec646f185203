use Rattle.assessment.specs.Assessment.{judged_of}
use Rattle.assessment.proofs.Roots.{joined, parted}
use Rattle.assessment.proofs.id_laws.codes_of_ids_join_the_assessment.Goals as goal

pub returns-clause-joined : goal.returns-clause-joined
returns-clause-joined c = λ s d found tree a.
    joined s (λ shape codes none own k. c.codes_of_ids_stand_last.ensures.behind s.names s.parts own.governing shape codes none (judged_of own) k)
    (λ shape codes none own k. c.codes_of_ids_stand_last.ensures.taken_off s.names s.parts own.governing shape codes none (judged_of own) k)
    d.forest found tree.root tree.differ a

pub returns-clause-parted : goal.returns-clause-parted
returns-clause-parted c = λ s d found tree a.
    parted s (λ shape codes none own k. c.codes_of_ids_stand_last.ensures.behind s.names s.parts own.governing shape codes none (judged_of own) k)
    (λ shape codes none own k. c.codes_of_ids_stand_last.ensures.taken_off s.names s.parts own.governing shape codes none (judged_of own) k)
    d.forest found tree.root tree.differ a
