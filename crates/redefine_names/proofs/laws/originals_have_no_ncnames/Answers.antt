use Rattle.redefine_names.proofs.SpaceLaws.{spaced, original-spaced}
use Rattle.redefine_names.proofs.laws.originals_have_no_ncnames.Goals as goal

pub returns : goal.returns
returns c = record { spaced = spaced; originals = original-spaced }
