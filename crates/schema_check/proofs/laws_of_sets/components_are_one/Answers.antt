use Rattle.schema_set.specs.Documents.{available}
use Rattle.schema_check.proofs.BareLaws.{set-originals-same}
use Rattle.schema_check.proofs.SetPhaseLaws.{sets-bare, names-same, set-parts-same}
use Rattle.schema_check.proofs.laws_of_sets.components_are_one.Goals as goal

pub returns : goal.returns
returns c = record {
  names = λ inputs start a b xs ys p q r s. names-same a b xs ys (sets-bare inputs start a b p q) (set-originals-same (available inputs) a b xs ys (sets-bare inputs start a b p q) r s);
  parts = λ inputs start a b xs ys m n p q r s u v. set-parts-same a b xs ys (sets-bare inputs start a b p q) (set-originals-same (available inputs) a b xs ys (sets-bare inputs start a b p q) r s) m n u v;
}
