use Rattle.std.proofs.Common.{sym, ◌∙◌, ◌≡◌, ◌++◌, ◌∷◌, [], None, Some, bytes_eq, ap}
use Rattle.std.proofs.lemmas.Slice.Eq.{bytes_eq-Decides}
use Rattle.xs_names.specs.Numbering.{number_of}
use Rattle.xs_names.proofs.NumberingLaws.{with_item-old, with_item-new, number_of-new}
use Rattle.xs_names.proofs.numbered.NumberedTexts.insert.Goals as goal

pub returns-in-Some-clause-list : goal.returns-in-Some-clause-list
returns-in-Some-clause-list c = sym (with_item-old bytes_eq bytes_eq-Decides c.args.self.now c.args.text.now c.in-Some.number (sym c.in-Some.ensures))

pub returns-clause-number : goal.returns-clause-number
returns-clause-number c =
    let text = c.args.text.now in
    let texts = c.self.inside.inner in
    let absent : number_of bytes_eq texts text ≡ None = rw c.self.view_is (sym c.in_default.ensures) in
    let grown : c.insert.new.self ≡ texts ++ text ∷ [] = c.in_ok-insert.ensures.keys ∙ with_item-new bytes_eq bytes_eq-Decides texts text absent in
    rw grown (number_of-new bytes_eq bytes_eq-Decides texts text absent ∙ ap Some (sym c.len-next.ensures.len))

pub returns-clause-list : goal.returns-clause-list
returns-clause-list c = rw (← c.self.view_is) c.in_ok-insert.ensures.keys
