use Rattle.std.proofs.Common.{◌≡◌, None, map, sym, ap, subst, ◌∙◌}
use Rattle.std.specs.declared.alloc.Global.{Global}
use Rattle.std.specs.declared.vec.Vec.{Vec}
use Rattle.key_records.specs.Tables.{AreParents}
use Rattle.kept_slots.specs.Slots.{at}
use Rattle.scope_targets.specs.Found.{targeting_of}
use Rattle.scope_targets.specs.declared.targetings.ElementTargeting.{ElementTargeting}
use Rattle.scope_targets.specs.Counted.{counted_all, listed, targets_at}
use Rattle.scope_targets.proofs.Keeping.{taken-beside, taken-none}
use Rattle.scope_targets.proofs.keys.CountedKeys.take_targets.Goals as goal

pub returns-in_default-clause-kept : goal.returns-in_default-clause-kept
returns-in_default-clause-kept c = λ t i k.
    let s = c.args.self.now in
    let none : at s.targets c.args.number ≡ None = sym c.in_default.ensures.was in
    record { sound = k.sound; parents = k.parents; records = taken-none t s.references s.targets c.take.new.self c.args.number s.records c.take.ensures.change none k.records }

pub take_all-requires-clause-linked : goal.take_all-requires-clause-linked
take_all-requires-clause-linked c =
    let s = c.args.self.now in
    let can = c.requires.kept in
    let listed_is : targets_at s.targets c.args.number ≡ map targeting_of c.as_slice-counted.result.now =
    ap listed (sym c.in-Some.ensures.was) ∙ ap (map targeting_of) (sym (c.as_slice-counted.ensures.value ∙ ap (λ (v : Vec ElementTargeting Global). v.items) c.deref.ensures)) in (
      can.0,
      counted_all c.take.new.self,
      can.1,
      subst (AreParents can.0) (sym c.as_slice-parents.ensures.value) can.2.parents,
      taken-beside can.0 s.references s.targets c.take.new.self c.args.number s.records c.as_slice-counted.result.now c.take.ensures.change listed_is can.2.records,
    )

pub returns-clause-kept : goal.returns-clause-kept
returns-clause-kept c = λ t i k.
    let s = c.args.self.now in
    let listed_is : targets_at s.targets c.args.number ≡ map targeting_of c.as_slice-counted.result.now =
    ap listed (sym c.in-Some.ensures.was) ∙ ap (map targeting_of) (sym (c.as_slice-counted.ensures.value ∙ ap (λ (v : Vec ElementTargeting Global). v.items) c.deref.ensures)) in
    record {
      sound = k.sound;
      parents = k.parents;
      records = c.in_ok-take_all.ensures t (counted_all c.take.new.self) i (subst (AreParents t) (sym c.as_slice-parents.ensures.value) k.parents)
          (taken-beside t s.references s.targets c.take.new.self c.args.number s.records c.as_slice-counted.result.now c.take.ensures.change listed_is k.records);
    }
