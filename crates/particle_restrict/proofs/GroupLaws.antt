-- What is known of the members by another relation that says the same.
use Rattle.std.proofs.Common.{ℕ, ◌<◌, Bool, List, length, get_or, arith}
use Rattle.particle_restrict.specs.Maps.{IsMapping, IsFirst}
use Rattle.particle_models.specs.declared.part.Bounds.{Bounds}
use Rattle.particle_models.specs.declared.part.Compositor.{Compositor}
use Rattle.particle_models.specs.declared.part.Compositor.TheVariants.{Sequence, Choice, All}
use Rattle.particle_restrict.specs.Groups.{IsRecurse, IsRecurseLax, IsRecurseUnordered, IsMapAndSum, GroupRestricts}

module _ (R S : ℕ → ℕ → Type 0) (bounds base : Bounds) (members : ℕ) (emptiable : List Bool) (to : (i j : ℕ) → i < members → j < length emptiable → R i j → S i j) (back : (i j : ℕ) → i < members → j < length emptiable → S i j → R i j) where
  mapping-to : (targets : List ℕ) → IsMapping R members (length emptiable) targets → IsMapping S members (length emptiable) targets
  mapping-to targets h = record { each = h.each; takes = λ i l. (let t = h.takes i l in (t.0, to i (get_or targets i 0) l t.0 t.1)) }

  recurse-to : IsRecurse R bounds base members emptiable → IsRecurse S bounds base members emptiable
  recurse-to h = record { range = h.range; map = (h.map.0, mapping-to h.map.0 h.map.1, h.map.2, h.map.3) }

  lax-to : IsRecurseLax R bounds base members emptiable → IsRecurseLax S bounds base members emptiable
  lax-to h = record { range = h.range; map = (h.map.0, mapping-to h.map.0 h.map.1, h.map.2) }

  first-to : (i t : ℕ) → i < members → t < length emptiable → IsFirst R i t → IsFirst S i t
  first-to i t l m h = record { restricts = to i t l m h.restricts; none_before = λ j k s. h.none_before j k (back i j l (omega arith) s) }

  unordered-to : IsRecurseUnordered R bounds base members emptiable → IsRecurseUnordered S bounds base members emptiable
  unordered-to h =
      let m = h.map.1 in
      record { range = h.range; map = (h.map.0, record { each = m.each; takes = λ i l. (let t = m.takes i l in (t.0, first-to i (get_or h.map.0 i 0) l t.0 t.1)); apart = m.apart; others = m.others }) }

  sum-to : IsMapAndSum R bounds base members emptiable → IsMapAndSum S bounds base members emptiable
  sum-to h = record { range = h.range; each = λ i l. (let e = h.each i l in (e.0, e.1, to i e.0 l e.1 e.2)) }

  pub group-to : (compositor base_compositor : Compositor) → GroupRestricts R bounds base members emptiable compositor base_compositor → GroupRestricts S bounds base members emptiable compositor base_compositor
  group-to Sequence Sequence h = recurse-to h
  group-to Sequence Choice h = sum-to h
  group-to Sequence All h = unordered-to h
  group-to Choice Sequence h = h
  group-to Choice Choice h = lax-to h
  group-to Choice All h = h
  group-to All Sequence h = h
  group-to All Choice h = h
  group-to All All h = recurse-to h
