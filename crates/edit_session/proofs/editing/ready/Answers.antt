use Rattle.tree_edits.proofs.Outcomes.{ok_map, err_map}
use Rattle.edit_session.specs.Held.{document_in}
use Rattle.edit_session.proofs.Making.{present-grown, ready-so, refused-so, stands-grown, stands-right, whole-right}
use Rattle.edit_session.proofs.Standing.{over-now}
use Rattle.edit_session.proofs.editing.ready.Goals as goal

pub returns-clause-stands : goal.returns-clause-stands
returns-clause-stands c =
    let set = c.args.set.now in
    let ns = c.args.doc.now in
    let k = c.args.kept.now in
    stands-grown set c.prepare.new.names ns k c.args.edit.now (whole-right set ns k c.requires.present.whole) c.prepare.ensures.grown c.prepare.ensures.sound

pub returns-clause-ready : goal.returns-clause-ready
returns-clause-ready c =
    let set = c.args.set.now in
    let names = c.prepare.new.names in
    let ns = c.args.doc.now in
    let k = c.args.kept.now in
    let edit = c.args.edit.now in
    let grown = c.prepare.ensures.grown in
    let sound = c.prepare.ensures.sound in
    let whole = c.requires.present.whole in
    let right = whole-right set ns k whole in
    let says = c.keys_stay_right_as_names_are_added.ensures.says set names ns k (document_in set ns) grown whole (over-now set ns k whole) c.requires.present.says in
    let still = present-grown set names ns k edit right grown sound (c.records_stay_right_as_names_are_added.ensures set names ns k grown sound right) says in
    ok_map c.prepare.result _ _ c.prepare.ensures.ok (λ change p. ready-so set names ns k edit right grown sound change still (p (document_in set ns) (stands-right set ns k right)))

pub returns-clause-targets : goal.returns-clause-targets
returns-clause-targets c = λ keys targets some.
    c.keys_stay_right_as_names_are_added.ensures.targets c.args.set.now c.prepare.new.names c.args.doc.now c.args.kept.now keys c.prepare.ensures.grown c.requires.present.whole (targets some)

pub returns-clause-refused : goal.returns-clause-refused
returns-clause-refused c =
    let set = c.args.set.now in
    let ns = c.args.doc.now in
    let k = c.args.kept.now in
    err_map c.prepare.result _ _ c.prepare.ensures.err (λ e r. refused-so set c.prepare.new.names ns k c.args.edit.now (whole-right set ns k c.requires.present.whole) c.prepare.ensures.grown c.prepare.ensures.sound e r)
