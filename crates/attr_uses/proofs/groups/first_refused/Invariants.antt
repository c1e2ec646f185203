use Rattle.std.proofs.Common.{◌≡◌, Bool, List, drop, map, slice_get}
use Rattle.std.specs.Prelude.{All}
use Rattle.xs_components.specs.Tables.{Tables}
use Rattle.attr_uses.specs.Uses.{group_uses, first_refusal}
use Rattle.attr_uses.specs.inside.Kept.{IsAnswerAt}
use Rattle.attr_uses.specs.declared.store.Store.{Store}
use Rattle.attr_uses.proofs.groups.first_refused.Given as goal

abbrev pub invariant-loop-group : goal.invariant-loop-group
invariant-loop-group l =
    (t : Tables) (ids : List Bool) (store : Store) → All (λ g. IsAnswerAt t ids store (slice_get l.groups g) (group_uses t g)) l.named →
    first_refusal (map (group_uses t) (drop l.group-index l.named)) ≡ first_refusal (map (group_uses t) l.named)
