use Rattle.std.proofs.Common.{◌≡◌, List, IfOk, reverse, sym, subst}
use Rattle.tree_rows.specs.declared.row.Binding.{Binding}
use Rattle.tag_names.specs.Resolving.{resolved}
use Rattle.tree_building.proofs.NestLaws.{scope-all}
use Rattle.tree_building.proofs.nest.Nest.resolve.Goals as goal

pub returns-clause-end : goal.returns-clause-end
returns-clause-end c =
    rw (← c.self.view_is)
    (subst (λ (scope : List Binding). IfOk c.resolve.result (λ end. end ≡ resolved scope c.args.tag.now))
    (sym (scope-all c.self.inside.prefixes (reverse c.self.inside.marks.items))) c.resolve.ensures)
