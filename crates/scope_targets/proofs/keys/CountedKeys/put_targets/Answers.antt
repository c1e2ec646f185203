use Rattle.std.proofs.Common.{rules, ◌≡◌, Some, map, sym, ap, subst, ◌∙◌}
use Rattle.key_records.specs.Tables.{AreParents}
use Rattle.kept_slots.specs.Slots.{Writes}
use Rattle.scope_targets.specs.Found.{targeting_of}
use Rattle.scope_targets.specs.Counted.{counted_all, items_of}
use Rattle.scope_targets.proofs.Keeping.{put-in, reached-then}
use Rattle.scope_targets.proofs.keys.CountedKeys.put_targets.Goals as goal

pub returns-in-Ok-clause-kept : goal.returns-in-Ok-clause-kept
returns-in-Ok-clause-kept c = λ t i k.
    let s = c.args.self.now in
    let v = c.in-Ok.kept.value in
    let writes : Writes s.targets c.put.new.self c.args.number (Some v) =
    reached-then s.targets c.reach.new.self c.put.new.self c.args.number (Some v) c.in_ok-reach.ensures.same c.put.ensures.change in
    let is : v ≡ c.args.found = search rules in
    let same : items_of v ≡ map targeting_of c.as_slice-counted.result.now = ap items_of is ∙ ap (map targeting_of) (sym c.as_slice-counted.ensures.value) in
    record {
      sound = k.sound;
      parents = k.parents;
      records = put-in t s.references s.targets c.put.new.self c.args.number c.put_all.new.records c.as_slice-counted.result.now v c.requires.none writes same
          (c.in_ok-put_all.ensures t (counted_all s.targets) i (subst (AreParents t) (sym c.as_slice-parents.ensures.value) k.parents) k.records);
    }
