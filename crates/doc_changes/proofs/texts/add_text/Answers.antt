use Rattle.std.proofs.Common.{◌+◌, length, refl, arith}
use Rattle.tree_rows.specs.Forest.{none, text}
use Rattle.doc_changes.proofs.Alike.{fits_alike}
use Rattle.doc_changes.proofs.Inserting.{inserted}
use Rattle.doc_changes.proofs.Placing.{can_grow, pushed_parent, text_plants}
use Rattle.doc_changes.proofs.texts.add_text.Goals as goal

pub put-requires-clause-parent : goal.put-requires-clause-parent
put-requires-clause-parent c =
    let q = c.requires.fits in let ns = c.args.links.now in
    pushed_parent ns c.add_number.new.self c.args.parent c.args.place c.args.text
    (can_grow q.0 ns q.1 c.args.parent c.args.place (text 0 c.args.text none) q.2 q.3 tt refl (length ns + 1) (omega arith)) c.in_ok-number.ensures.ok c.add_number.ensures.sound

pub returns-in-Ok-clause-change : goal.returns-in-Ok-clause-change
returns-in-Ok-clause-change c = λ t.
    let q = c.requires.fits in let ns = c.args.links.now in
    text_plants ns c.add_number.new.self c.args.parent c.args.place c.args.text
    (can_grow q.0 ns q.1 c.args.parent c.args.place (text 0 c.args.text none) q.2 q.3 tt refl (length ns + 1) (omega arith)) c.in_ok-number.ensures.ok c.add_number.ensures.sound
    t c.put.new.self c.in_ok-number.number c.in_ok-number.ensures.number c.in-Ok.ensures.ok c.in-Ok.ensures.sound

pub returns-in-Ok-clause-tree : goal.returns-in-Ok-clause-tree
returns-in-Ok-clause-tree c = λ t d z.
    let q = c.requires.fits in let ns = c.args.links.now in
    inserted t ns c.put.new.self d c.args.parent c.args.place (text 0 c.args.text none) z (fits_alike q.0 t ns q.1 d c.args.parent c.args.place (text 0 c.args.text none) q.2 z q.3) tt refl
    (text_plants ns c.add_number.new.self c.args.parent c.args.place c.args.text
    (can_grow q.0 ns q.1 c.args.parent c.args.place (text 0 c.args.text none) q.2 q.3 tt refl (length ns + 1) (omega arith)) c.in_ok-number.ensures.ok c.add_number.ensures.sound
    t c.put.new.self c.in_ok-number.number c.in_ok-number.ensures.number c.in-Ok.ensures.ok c.in-Ok.ensures.sound)
    c.in-Ok.ensures.sound
