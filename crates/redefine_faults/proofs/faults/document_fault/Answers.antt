use Rattle.std.proofs.Common.{map, subst, ap, ◌∙◌}
use Rattle.xs_codes.specs.Least.{IsLeast}
use Rattle.redefine_originals.specs.Versions.{redefining}
use Rattle.redefine_originals.specs.inside.Entries.{child_entry}
use Rattle.redefine_faults.specs.inside.Broken.{IsChildFault, IsOneOf}
use Rattle.redefine_faults.proofs.faults.document_fault.Goals as goal

pub returns : goal.returns
returns c =
    subst (λ l. IsLeast (IsOneOf (IsChildFault c.args.originals.now.sources.available.now c.args.document.now) l) c.in_ok-first.first)
    (ap (map child_entry) c.as_slice.ensures ∙ c.in_ok-children.ensures ∙ ap redefining c.as_slice-shapes.ensures) c.in_ok-first.ensures
