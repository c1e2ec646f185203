use Rattle.std.proofs.Common.{◌≡◌, Some, length, sym, ◌∙◌}
use Rattle.component_tables.specs.Symbols.{first_place}
use Rattle.component_tables.proofs.NameLaws.{attribute-found, attribute-there}
use Rattle.component_tables.proofs.named.ComponentNames.attribute_with.Goals as goal

pub returns-in-Some : goal.returns-in-Some
returns-in-Some c =
    let e : Some c.in-Some.place ≡ first_place c.args.self.now.attributes c.args.name = rw (← c.self.view_is) (sym c.in-Some.is ∙ c.first.ensures.place) in
    record {
      of = attribute-found c.args.parts.now c.args.self.now c.args.name c.in-Some.place c.attribute_at.result e c.attribute_at.ensures.there c.attribute_at.ensures.past;
      there = attribute-there c.in-Some.place (length c.args.parts.now.attributes.parts) c.attribute_at.result c.attribute_at.ensures.there;
    }
