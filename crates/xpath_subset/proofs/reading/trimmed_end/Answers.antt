use Rattle.xpath_subset.proofs.Matches.{trim_end_is}
use Rattle.xpath_subset.proofs.reading.trimmed_end.Goals as goal

pub returns : goal.returns
returns c = let h = c.trim_end_matches.ensures.matches in trim_end_is h.0.0 c.args.text.now c.trim_end_matches.result.now h.0.1 h.1
