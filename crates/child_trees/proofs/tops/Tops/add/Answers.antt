use Rattle.std.proofs.Common.{None, arith, sym, ◌∙◌}
use Rattle.std.proofs.lemmas.List.{get_or_default}
use Rattle.child_trees.specs.declared.tops.Slot.TheVariants.{Taken, Free}
use Rattle.child_trees.proofs.Chains.{first_of, writes_set, free_is}
use Rattle.child_trees.proofs.tops.Tops.add.Goals as goal

pub index-requires : goal.index-requires
index-requires c = let f = first_of c.self.inside.slots.items c.self.inside.free c.in-Some.number c.self.invariant c.in-Some.is in omega (arith, f.link.within, c.self.inside.slots.ok.0)

pub next_free-self-inside-requires : goal.next_free-self-inside-requires
next_free-self-inside-requires c =
    let f = first_of c.self.inside.slots.items c.self.inside.free c.in-Some.number c.self.invariant c.in-Some.is in
    (f.next, c.index.ensures ∙ get_or_default c.self.inside.slots.items c.in-Some.number c.index.result.now (Free None) f.link.within ∙ f.link.slot)

pub index_mut-requires : goal.index_mut-requires
index_mut-requires c = let f = first_of c.self.inside.slots.items c.self.inside.free c.in-Some.number c.self.invariant c.in-Some.is in omega (arith, f.link.within, c.self.inside.slots.ok.0)

pub invariant_of-self : goal.invariant_of-self
invariant_of-self c =
    let ss = c.self.inside.slots.items in
    let q = c.in-Some.number in
    let f = first_of c.self.inside.slots.items c.self.inside.free c.in-Some.number c.self.invariant c.in-Some.is in
    let same = free_is f.next c.next_free-self-inside.result (sym f.link.slot ∙ sym (c.index.ensures ∙ get_or_default ss q c.index.result.now (Free None) f.link.within) ∙ c.next_free-self-inside.ensures) in
    rw (sym same) f.rest

pub returns-in-Some-clause-ok : goal.returns-in-Some-clause-ok
returns-in-Some-clause-ok c =
    let f = first_of c.self.inside.slots.items c.self.inside.free c.in-Some.number c.self.invariant c.in-Some.is in
    rw (← c.self.view_is) (writes_set c.self.inside.slots.items c.in-Some.number (Taken None) f.link.within)
