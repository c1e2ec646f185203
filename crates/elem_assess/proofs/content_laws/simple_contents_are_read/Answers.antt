use Rattle.elem_assess.proofs.ContentTrees.{all_read}
use Rattle.elem_assess.proofs.content_laws.simple_contents_are_read.Goals as goal

pub returns : goal.returns
returns c = record { read = all_read }
