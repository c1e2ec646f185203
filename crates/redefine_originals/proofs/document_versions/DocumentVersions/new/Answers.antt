use Rattle.std.proofs.Common.{map}
use Rattle.redefine_originals.specs.inside.Entries.{version_entry}
use Rattle.redefine_originals.proofs.DocumentLaws.{has-versions}
use Rattle.redefine_originals.proofs.document_versions.DocumentVersions.new.Goals as goal

pub returns : goal.returns
returns c =
    has-versions c.args.document c.args.shapes.now (record { types = c.in_ok-types.types; groups = c.in_ok-groups.groups; attribute_groups = c.in_ok-attribute_groups.attribute_groups })
    (map version_entry c.in_ok-all.all) c.in_ok-all.ensures
    (rw c.as_slice.ensures at c.in_ok-types.ensures) (rw c.as_slice-2.ensures at c.in_ok-groups.ensures) (rw c.as_slice-3.ensures at c.in_ok-attribute_groups.ensures)
