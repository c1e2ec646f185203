use Rattle.std.proofs.Common.{List, map, sym, ap, ◌∙◌}
use Rattle.tree_rows.specs.declared.row.Binding.{Binding}
use Rattle.tag_names.specs.Scopes.{binding_in}
use Rattle.tree_building.specs.Building.{block}
use Rattle.arena_tests.proofs.Loosened.{fragment_block}
use Rattle.arena_tests.proofs.calls.part_of.Goals as goal

pub returns : goal.returns
returns g c = λ d z.
    fragment_block (map (binding_in c.args.names.now) c.in_ok-scope.scope) c.args.items.now c.in-Ok.part (sym c.in_ok-part.ensures.read ∙ c.in-Ok.is)
    ∙ ap (λ (s : List Binding). block s c.args.items.now) (c.in_ok-scope.ensures.tree d z)
