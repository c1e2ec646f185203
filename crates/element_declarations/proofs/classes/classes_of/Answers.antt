use Rattle.std.proofs.Common.{List, ℕ, ap}
use Rattle.std.specs.Map.{lookup}
use Rattle.element_declarations.specs.contracts.properties.PropertiesPartialEq.TheImpl as properties
use Rattle.element_declarations.specs.declared.properties.Properties.{Properties}
use Rattle.element_declarations.proofs.classes.classes_of.Goals as goal

pub fill_classes-filled-requires-clause-found : goal.fill_classes-filled-requires-clause-found
fill_classes-filled-requires-clause-found c = record {
  ranked = c.requires.ranked;
  elements = c.requires.elements;
  declarations = c.requires.declarations;
  contents = c.requires.contents;
}

pub fill_classes-filled-requires-clause-read : goal.fill_classes-filled-requires-clause-read
fill_classes-filled-requires-clause-read c = record { judged = c.requires.judged; whole = c.requires.whole }

pub fill_classes-filled-requires-clause-none : goal.fill_classes-filled-requires-clause-none
fill_classes-filled-requires-clause-none c = λ (key : Properties). ap (λ (entries : List (Properties × ℕ)). lookup (properties.eq-value.it key) entries) c.new-firsts.ensures.empty
