use Rattle.std.proofs.Common.{ap, set}
use Rattle.plain_tree.proofs.Adding.{lies, binding_put, on_ok}
use Rattle.plain_tree.proofs.putting.put_binding.Goals as goal

pub returns-clause-ok : goal.returns-clause-ok
returns-clause-ok c =
    let at = rw c.deref.ensures.value at c.element_place-place.ensures.at in
    let e = lies c.args.rows.now.items c.args.node c.element_place-place.result c.index_mut.result.now c.requires.sound.whole c.requires.element at c.index_mut.ensures.value in
    on_ok c.push.result _ _ c.push.ensures.ok
    (λ is. binding_put c.args.rows.now.items c.args.node c.element_place-place.result c.index_mut.result.now e _ c.args.binding c.requires.sound
    (ap (λ l. set c.args.rows.now.items c.element_place-place.result (record c.index_mut.result.now { bindings = l })) is))
