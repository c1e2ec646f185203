use Rattle.std.proofs.Common.{List, ap, ◌∙◌}
use Rattle.identity_constraints.specs.Seen.{KeyAttribute}
use Rattle.what_is_found.specs.Identity.{seen_element}
use Rattle.path_walk.specs.Sight.{attributes_of}
use Rattle.tree_assess.specs.Entries.{entry_of}
use Rattle.forest_keys.proofs.Naming.{same_attributes}
use Rattle.forest_keys.proofs.entry_siblings.sight_of.Goals as goal

pub returns : goal.returns
returns c =
    let own = c.args.own.now in
    ap (λ (attributes : List KeyAttribute). record (seen_element (entry_of own)) { attributes = attributes }) ((λ i. attributes_of (c.as_slice-attrs.ensures i) (c.as_slice-attr_values.ensures i)) ∙ same_attributes own.attrs own.attr_values)
