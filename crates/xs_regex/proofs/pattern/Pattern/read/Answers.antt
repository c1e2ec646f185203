use Rattle.std.specs.Str.{chars}
use Rattle.xs_regex.proofs.Meaning.{means_ok}
use Rattle.xs_regex.proofs.pattern.Pattern.read.Goals as goal

pub returns-clause-means : goal.returns-clause-means
returns-clause-means c = means_ok (chars c.args.text.now) c.read_text.result c.read_text.ensures.reads c.read_text.ensures.only
