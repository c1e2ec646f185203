use Rattle.std.proofs.Common.{lit<, ◌∙◌, rules, tests}
use Rattle.std.proofs.lemmas.Iterator.Search.{all_from_yields_List}
use Rattle.std.proofs.lemmas.Iterator.Consumers.{YieldsList-at, YieldsList-from_enumerate}
use Rattle.std.proofs.lemmas.Iterator.Splits.{YieldsList-from_str_split}
use Rattle.simple_values.proofs.LanguageParts.{is_placed, language_by_places}
use Rattle.simple_values.proofs.language.is_language.Goals as goal

pub returns : goal.returns
returns c =
    all_from_yields_List is_placed _ _ _ c.all.ensures.ran
    (YieldsList-from_enumerate (YieldsList-at c.enumerate.ensures.source (YieldsList-from_str_split 45 c.args.text.now (lit< tt) c.split.ensures.text c.split.ensures.has_more c.split.ensures.pattern)) c.enumerate.ensures.count)
    (λ x b q k. search (rules, tests))
    ∙ language_by_places c.args.text.now
