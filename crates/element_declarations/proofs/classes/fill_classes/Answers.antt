use Rattle.std.proofs.Common.{ℕ, refl, sym, subst, ◌∙◌, arith}
use Rattle.std.specs.HashMap.{get}
use Rattle.element_declarations.specs.contracts.properties.PropertiesPartialEq.TheImpl as properties
use Rattle.element_declarations.specs.inside.Firsts.{AreNoted}
use Rattle.element_declarations.specs.inside.Keys.{AreRead}
use Rattle.element_declarations.proofs.ClassLaws.{classed-none, classed-more, classed-all}
use Rattle.element_declarations.proofs.classes.fill_classes.Goals as goal

pub loop-id-init : goal.loop-id-init
loop-id-init c = record {
  same = refl;
  classed = classed-none c.args.set.now.parts.now c.args.classes.now.items c.requires.empty (get properties.eq-value.it c.args.firsts.now) c.requires.none;
}

pub class_of-requires-clause-read : goal.class_of-requires-clause-read
class_of-requires-clause-read c = subst (AreRead c.args.set.now.parts.now) (sym c.loop-id.invariant.same) c.requires.read

pub class_of-requires-clause-there : goal.class_of-requires-clause-there
class_of-requires-clause-there c = let there = c.in-Some.ensures.there in omega (arith, there.0, there.1)

pub class_of-requires-clause-noted : goal.class_of-requires-clause-noted
class_of-requires-clause-noted c =
    subst (λ (n : ℕ). AreNoted c.args.set.now.parts.now n (get properties.eq-value.it c.loop-id.firsts)) (sym c.in-Some.ensures.there.0) c.loop-id.invariant.classed.noted_for

pub loop-id-smaller : goal.loop-id-smaller
loop-id-smaller c = let there = c.in-Some.ensures.there.1 in omega (arith, there)

pub loop-id-preserved : goal.loop-id-preserved
loop-id-preserved c = record {
  same = c.class_of.ensures.same ∙ c.loop-id.invariant.same;
  classed = classed-more c.args.set.now.parts.now c.loop-id.number c.in-Some.id c.in_ok-class.class c.loop-id.classes.items c.push.new.self.items
      (get properties.eq-value.it c.loop-id.firsts) (get properties.eq-value.it c.class_of.new.firsts) c.in-Some.ensures.there.0 c.in-Some.ensures.there.1 c.loop-id.invariant.classed
      c.in_ok-class.ensures.class c.in_ok-class.ensures.noted c.in_ok-push.ensures.items;
}

pub returns-clause-classes : goal.returns-clause-classes
returns-clause-classes c =
    classed-all c.args.set.now.parts.now c.loop-id.number c.loop-id.classes.items (get properties.eq-value.it c.loop-id.firsts) c.in_default.ensures.past c.loop-id.invariant.classed
