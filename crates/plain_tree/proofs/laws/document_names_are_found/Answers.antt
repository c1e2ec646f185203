use Rattle.plain_tree.proofs.Numbers.{name_within, name_alike}
use Rattle.plain_tree.proofs.Staying.{names_stay}
use Rattle.plain_tree.proofs.Tables.{grows, found, names_kept}
use Rattle.plain_tree.proofs.laws.document_names_are_found.Goals as goal

pub returns : goal.returns
returns c = record {
  grows = grows;
  found = found;
  still = λ old new f g. names_kept old new g f;
  stays = names_stay;
  numbers = name_within;
  alike = λ old new name g. name_alike old new g name;
}
