use Rattle.std.proofs.Common.{◌∙◌}
use Rattle.tree_edits.proofs.Outcomes.{ok_map}
use Rattle.doc_edits.proofs.names.scope_inside.Goals as goal

pub of_scope-requires : goal.of_scope-requires
of_scope-requires c = c.in_ok-scope.ensures.within c.requires.stands.0 c.requires.stands.1

pub returns : goal.returns
returns c = ok_map c.of_scope.result _ _ c.of_scope.ensures (λ prefixes e d z. e ∙ c.in_ok-scope.ensures.tree d z)
