use Rattle.assessment_laws.proofs.Elements.{local-kept}
use Rattle.assessment_laws.proofs.grown_laws.records_keep_as_names_are_added.Goals as goal

pub returns : goal.returns
returns c = λ old new t pair shape judged g sound named within h. local-kept old new g sound t pair shape within named judged h
