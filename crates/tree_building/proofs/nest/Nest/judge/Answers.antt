use Rattle.std.proofs.Common.{◌≡◌, List, IfOk, reverse, sym, subst}
use Rattle.tree_rows.specs.declared.row.Binding.{Binding}
use Rattle.tag_names.specs.Resolving.{judged}
use Rattle.tree_building.proofs.NestLaws.{scope-all}
use Rattle.tree_building.proofs.nest.Nest.judge.Goals as goal

pub returns-clause-judged : goal.returns-clause-judged
returns-clause-judged c =
    rw (← c.self.view_is)
    (subst (λ (scope : List Binding). IfOk c.judge.result (λ j. j ≡ judged scope c.args.tag.now))
    (sym (scope-all c.self.inside.prefixes (reverse c.self.inside.marks.items))) c.judge.ensures)
