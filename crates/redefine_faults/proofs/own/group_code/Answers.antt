use Rattle.std.proofs.Common.{map, sym, subst}
use Rattle.redefine_faults.specs.Redefinitions.{Breaks}
use Rattle.redefine_faults.specs.inside.Broken.{IsFirstCode}
use Rattle.redefine_originals.specs.declared.versions.Redefinable.TheVariants as kind
use Rattle.redefine_faults.proofs.OwnLaws.{group-first}
use Rattle.redefine_faults.proofs.own.group_code.Goals as goal

pub returns : goal.returns
returns c =
    subst (IsFirstCode (Breaks c.args.document.now.shaped.now.shapes c.args.document.now.target c.args.name.now c.args.version.now kind.Group)) (sym (rw c.as_slice.ensures at c.references_code.ensures))
    (group-first c.args.document.now.shaped.now.shapes c.args.document.now.target c.args.name.now c.args.version.now (map (λ r. r.now) c.in_ok-references.references) c.in_ok-references.ensures)
