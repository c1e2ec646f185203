use Rattle.std.proofs.Common.{ap, ◌∙◌}
use Rattle.tag_names.specs.Scopes.{first_scope}
use Rattle.tree_building.specs.Building.{built}
use Rattle.tree_building.specs.Rules.{document_rules}
use Rattle.tree_building.proofs.Trees.{well_if}
use Rattle.tree_building.proofs.build.build_document.Goals as goal

pub returns-clause-sound : goal.returns-clause-sound
returns-clause-sound c =
    well_if first_scope c.args.items.now c.in_ok-built.built
    (c.in_ok-built.ensures ∙ ap (λ r. built r c.in_ok-new.field-0 c.args.items.now) c.document.ensures
    ∙ ap (λ s. built document_rules s c.args.items.now) c.in_ok-new.ensures)
