use Rattle.std.proofs.Common.{map}
use Rattle.redefine_faults.proofs.InnerLaws.{selves-all}
use Rattle.redefine_faults.proofs.own.self_references.Goals as goal

pub returns : goal.returns
returns c =
    selves-all c.args.document.now.shaped.now.shapes c.args.numbered.now c.requires.numbered c.args.document.now.target c.args.kind c.args.name.now c.args.version.now (map (λ r. r.now) c.in_ok-found.found) (map (λ r. r.now) c.in_ok-references.references)
    c.in_ok-found.ensures (rw c.as_slice.ensures at c.in_ok-references.ensures)
