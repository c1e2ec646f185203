use Rattle.xpath_subset.proofs.Matches.{trim_front_is}
use Rattle.xpath_subset.proofs.reading.trimmed_front.Goals as goal

pub returns : goal.returns
returns c = let h = c.trim_start_matches.ensures.matches in trim_front_is h.0.0 c.args.text.now c.trim_start_matches.result.now h.0.1 h.1
