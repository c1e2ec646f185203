use Rattle.kept_next.specs.Place.{name_at, fits_at}
use Rattle.std.proofs.Common.{length}
use Rattle.kept_next.proofs.Answered.{are-answers, answers-many, lines-same, counts-same}
use Rattle.kept_next.proofs.laws.places_have_answers.Goals as goal

pub returns : goal.returns
returns c = record {
  answers = are-answers;
  many = λ v symbols. answers-many v symbols;
  lines = λ t v symbols. lines-same t (name_at v) (fits_at v symbols) (length v.symbols);
  count = λ v symbols. counts-same (name_at v) (fits_at v symbols) (length v.symbols);
}
