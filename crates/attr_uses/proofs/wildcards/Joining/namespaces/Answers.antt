use Rattle.std.specs.Prelude.{IfOk}
use Rattle.std.proofs.Common.{sym, subst}
use Rattle.attr_uses.specs.inside.Kept.{join_of, IsFound}
use Rattle.attr_uses.proofs.WildcardLaws.{answer-intersection, answer-union}
use Rattle.attr_uses.proofs.wildcards.Joining.namespaces.Goals as goal

pub returns-in-Intersection : goal.returns-in-Intersection
returns-in-Intersection c = record {
  joined = λ x y one other. subst (λ how. IfOk c.intersect.result (λ found. IsFound found (join_of how x y))) (sym c.in-Intersection.is)
      (answer-intersection c.args.one.now c.args.other.now x y one other c.intersect.result c.intersect.ensures.set c.intersect.ensures.no_form);
}

pub returns-in-Union : goal.returns-in-Union
returns-in-Union c = record {
  joined = λ x y one other. subst (λ how. IfOk c.unite.result (λ found. IsFound found (join_of how x y))) (sym c.in-Union.is)
      (answer-union c.args.one.now c.args.other.now x y one other c.unite.result c.unite.ensures.set c.unite.ensures.no_form);
}
