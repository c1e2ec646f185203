use Rattle.std.proofs.Common.{◌∷◌, ◌++◌, [], refl, sym, ap, ◌∙◌}
use Rattle.key_records.specs.References.{items_of}
use Rattle.key_records.proofs.ReferenceLaws.{one-more-keyref}
use Rattle.key_records.proofs.references.References.add_keyref.Goals as goal

pub returns-in-Some-clause-keyrefs : goal.returns-in-Some-clause-keyrefs
returns-in-Some-clause-keyrefs c =
    let m = c.args.self.now.keyrefs in
    let n = c.get_mut.follows.lender c.push.new.self in
    let found = sym c.in-Some.ensures.value in
    let updates = (c.get_mut.follows.holds c.push.new.self).3 (rw found refl) in
    one-more-keyref m.entries n.entries c.args.key c.args.keyref c.push.new.self
    (c.in_ok-push.ensures.items ∙ ap (λ o. items_of o ++ c.args.keyref ∷ []) c.in-Some.ensures.value) updates.0

pub returns-clause-keyrefs : goal.returns-clause-keyrefs
returns-clause-keyrefs c =
    let m = c.args.self.now.keyrefs in
    let n = c.insert.new.self in
    let updates = rw c.get_mut.follows.holds-at-none at c.in_ok-insert.ensures.updates in
    one-more-keyref m.entries n.entries c.args.key c.args.keyref c.push-2.new.self
    (c.in_ok-push-2.ensures.items ∙ ap (λ xs. xs ++ c.args.keyref ∷ []) c.new-keyrefs.ensures.items ∙ ap (λ o. items_of o ++ c.args.keyref ∷ []) c.in_default.ensures.value) updates.0
