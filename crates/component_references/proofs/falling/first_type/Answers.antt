use Rattle.std.proofs.Common.{length, map, sym, subst}
use Rattle.xs_codes.specs.declared.code.Code.TheVariants.{StPropsCorrect2, CtPropsCorrect3}
use Rattle.xs_components.specs.declared.simple.SimpleType.{SimpleType}
use Rattle.xs_components.specs.declared.complex.ComplexType.{ComplexType}
use Rattle.xs_codes.specs.Least.{IsLeast}
use Rattle.xs_codes.proofs.LeastLaws.{least-sum}
use Rattle.component_references.specs.Circles.{ComesBack}
use Rattle.component_references.specs.inside.Parts.{AreTypesBack}
use Rattle.component_references.proofs.falling.first_type.Goals as goal

pub returns : goal.returns
returns c =
    record {
      least = subst (IsLeast (AreTypesBack c.args.simples.now c.args.complexes.now c.args.refs.now)) (sym c.sooner.ensures.sooner)
          (least-sum (ComesBack (map (λ (p : SimpleType). p.at) c.args.simples.now) c.args.refs.now 0 StPropsCorrect2) (ComesBack (map (λ (p : ComplexType). p.at) c.args.complexes.now) c.args.refs.now (length c.args.simples.now) CtPropsCorrect3)
          c.in_ok-simple.simple c.in_ok-complex.complex c.in_ok-simple.ensures.least c.in_ok-complex.ensures.least);
    }
