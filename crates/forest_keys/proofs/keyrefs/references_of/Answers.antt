use Rattle.std.proofs.Common.{◌++◌, map, ap, ◌∙◌}
use Rattle.forest_keys.specs.inside.Keyrefs.{key_in}
use Rattle.forest_keys.proofs.KeyrefLaws.{keys-next, keys-end}
use Rattle.forest_keys.proofs.keyrefs.references_of.Goals as goal

pub constraints-init : goal.constraints-init
constraints-init c = record {
  sound = c.new-references.ensures.sound;
  so_far = ap (λ xs. xs ++ map key_in c.constraints-left.result.now) c.new-references.ensures.none ∙ ap (map key_in) c.constraints-left.ensures.parts;
}

pub push-requires : goal.push-requires
push-requires c = c.constraints.invariant.sound

pub constraints-preserved : goal.constraints-preserved
constraints-preserved c =
    let l = c.constraints in
    record {
      sound = c.in_ok-push.ensures.sound;
      so_far = keys-next l.references c.push.new.self l.left.now c.in-Some.rest.now c.args.parts.now.constraints.parts c.in-Some.constraint.now c.key_of.result l.invariant.so_far c.in-Some.ensures.cases.0 c.key_of.ensures c.in_ok-push.ensures.keys;
    }

pub returns : goal.returns
returns c = record {
  sound = c.constraints.invariant.sound;
  refers_are = keys-end c.constraints.references c.constraints.left.now c.args.parts.now.constraints.parts c.constraints.invariant.so_far c.in_default.ensures.cases;
}
