use Rattle.std.proofs.Common.{◌≡◌, ap, ◌∙◌}
use Rattle.std.specs.HashMap.{get_by_text}
use Rattle.schema_set.specs.EffectiveSet.{document_at}
use Rattle.schema_set.proofs.LocationLaws.{found-number}
use Rattle.schema_set.proofs.sources.Sources.find.Goals as goal

pub returns-clause-found : goal.returns-clause-found
returns-clause-found c = c.number_of.ensures ∙ ap (get_by_text c.args.self.now.numbers) (c.as_str.ensures ∙ c.in_ok-key.ensures.value) ∙ c.requires.numbers c.args.location.now

pub returns-clause-number : goal.returns-clause-number
returns-clause-number c =
    let found : c.number_of.result ≡ document_at c.args.self.now.available.now c.args.location.now =
    c.number_of.ensures ∙ ap (get_by_text c.args.self.now.numbers) (c.as_str.ensures ∙ c.in_ok-key.ensures.value) ∙ c.requires.numbers c.args.location.now in
    found-number c.args.self.now.available.now c.args.location.now c.number_of.result found
