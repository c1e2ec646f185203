use Rattle.std.proofs.Common.{sym, ◌∙◌, ◌≡◌, ◌++◌, ◌∷◌, [], None, Some, map, ap}
use Rattle.std.proofs.lemmas.List.{length-map}
use Rattle.xs_names.specs.Numbering.{number_of, same_pair}
use Rattle.xs_names.specs.Pairs.{numbers}
use Rattle.xs_names.proofs.NumberingLaws.{same_pair-Decides, with_item-old, with_item-new, number_of-new}
use Rattle.xs_names.proofs.NumberedLaws.{with_key-new_pair}
use Rattle.xs_names.proofs.numbered.NumberedPairs.insert.Goals as goal

pub returns-in-Some-clause-list : goal.returns-in-Some-clause-list
returns-in-Some-clause-list c = sym (with_item-old same_pair same_pair-Decides c.args.self.now (numbers c.args.pair) c.in-Some.number (sym c.in-Some.ensures))

pub returns-clause-number : goal.returns-clause-number
returns-clause-number c =
    let pair = numbers c.args.pair in
    let keys = c.self.inside.inner in
    let absent : number_of same_pair (map numbers keys) pair ≡ None = rw c.self.view_is (sym c.in_default.ensures) in
    let grown : map numbers c.insert.new.self ≡ map numbers keys ++ pair ∷ [] = ap (map numbers) c.in_ok-insert.ensures.keys ∙ with_key-new_pair keys c.args.pair absent in
    rw grown (number_of-new same_pair same_pair-Decides (map numbers keys) pair absent ∙ ap Some (length-map keys numbers ∙ sym c.len-next.ensures.len))

pub returns-clause-list : goal.returns-clause-list
returns-clause-list c =
    let pair = numbers c.args.pair in
    let keys = c.self.inside.inner in
    let absent : number_of same_pair (map numbers keys) pair ≡ None = rw c.self.view_is (sym c.in_default.ensures) in
    let grown : map numbers c.insert.new.self ≡ map numbers keys ++ pair ∷ [] = ap (map numbers) c.in_ok-insert.ensures.keys ∙ with_key-new_pair keys c.args.pair absent in
    rw (← c.self.view_is) (grown ∙ sym (with_item-new same_pair same_pair-Decides (map numbers keys) pair absent))
