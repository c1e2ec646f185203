use Rattle.std.proofs.Common.{◌∙◌, sym, ap, subst}
use Rattle.xpath_subset.specs.inside.Trims.{trim_end, IsTrimmed}
use Rattle.xpath_subset.proofs.Trimmed.{trimmed_is}
use Rattle.xpath_subset.proofs.reading.trimmed.Goals as goal

pub returns-clause-ends : goal.returns-clause-ends
returns-clause-ends c = subst IsTrimmed (sym (c.trimmed_end.ensures ∙ ap trim_end c.trimmed_front.ensures)) (trimmed_is c.args.text.now)
