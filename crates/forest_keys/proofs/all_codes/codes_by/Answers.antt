use Rattle.std.proofs.Common.{◌≡◌, ◌++◌, List, ℕ, length, sym, ap, ◌∙◌, subst, arith}
use Rattle.xs_codes.specs.declared.fault.Found.{Found}
use Rattle.key_records.specs.Counted.{no_targets, plus}
use Rattle.forest_keys.specs.Codes.{all_codes}
use Rattle.forest_keys.specs.inside.Found.{targets_along}
use Rattle.forest_keys.specs.inside.Records.{AreFilled}
use Rattle.forest_keys.proofs.Filling.{filled-there}
use Rattle.forest_keys.proofs.Growing.{none-plus}
use Rattle.forest_keys.proofs.Linking.{links_of, links_linked}
use Rattle.forest_keys.proofs.Places.{are_parents, forest_stands}
use Rattle.forest_keys.proofs.all_codes.codes_by.Goals as goal

pub put_all-requires-clause-sound : goal.put_all-requires-clause-sound
put_all-requires-clause-sound g c = c.requires.references.sound

pub put_all-requires-clause-few : goal.put_all-requires-clause-few
put_all-requires-clause-few g c = let few = c.requires.few in omega (arith, few)

pub put_all-requires-clause-linked : goal.put_all-requires-clause-linked
put_all-requires-clause-linked g c =
    let tree = c.args.by.now.tree in
    let parents = tree.parents.now in
    let t = links_of parents in
    (t, no_targets, links_linked parents, are_parents (g.T.KeySiblings.forest c.args.siblings) parents c.requires.parents, c.in_ok-records.ensures t tree.references.now)

pub read_all-requires-clause-few : goal.read_all-requires-clause-few
read_all-requires-clause-few g c =
    let few = c.requires.few in
    let none = ap length c.new-codes.ensures.items in
    omega (arith, few, none)

pub returns : goal.returns
returns g c =
    let f = g.T.KeySiblings.forest c.args.siblings in
    let set = c.args.by.now.set in
    let tree = c.args.by.now.tree in
    let parents = tree.parents.now in
    let t = links_of parents in
    let found = targets_along set.names.now set.parts.now set.identities.now 0 f in
    let records = c.in_ok-put_all.ensures.grown t no_targets (links_linked parents) (are_parents f parents c.requires.parents) (c.in_ok-records.ensures t tree.references.now) in
    let filled = filled-there set.names.now set.parts.now set.identities.now tree c.put_all.new.records t (plus no_targets found) records 0 f (λ n k x h l i. none-plus found i n k x) (forest_stands f parents c.requires.parents) in
    let none : length c.new-codes.result.items ≡ 0 = ap length c.new-codes.ensures.items in
    c.in_ok-read_all.ensures.codes (subst (λ (n : ℕ). AreFilled set.names.now set.parts.now set.identities.now tree c.put_all.new.records n f) (sym none) filled)
    ∙ ap (λ (xs : List (List Found)). xs ++ all_codes set.names.now set.parts.now set.identities.now f) c.new-codes.ensures.items
