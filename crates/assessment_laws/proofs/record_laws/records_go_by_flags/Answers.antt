use Rattle.assessment_laws.proofs.Flagged.{local-alike}
use Rattle.assessment_laws.proofs.record_laws.records_go_by_flags.Goals as goal

pub returns : goal.returns
returns c = λ names t g shape counts judged same h. local-alike shape counts same names t g judged h
