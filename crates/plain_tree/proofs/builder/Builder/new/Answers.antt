use Rattle.std.proofs.Common.{Ok, sym, ap, ◌∙◌, subst}
use Rattle.tree_building.specs.Building.{nothing}
use Rattle.tree_building.specs.Rules.{document_rules}
use Rattle.tree_building.specs.Sound.{WillBeSound}
use Rattle.plain_tree.proofs.builder.Builder.new.Goals as goal

pub invariant_of-result : goal.invariant_of-result
invariant_of-result c =
    subst WillBeSound
    (sym (c.new-inner.ensures ∙ ap (λ r. Ok (nothing r c.in_ok-scope.scope)) c.document.ensures ∙ ap (λ s. Ok (nothing document_rules s)) c.in_ok-scope.ensures))
    c.documents_are_sound.ensures
