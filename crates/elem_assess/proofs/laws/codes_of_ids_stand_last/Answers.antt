use Rattle.elem_assess.proofs.Marking.{behind, taken-off}
use Rattle.elem_assess.proofs.laws.codes_of_ids_stand_last.Goals as goal

pub returns : goal.returns
returns c = record { behind = behind; taken_off = taken-off }
