use Rattle.std.proofs.Common.{◌↔◌, None, subst}
use Rattle.std.specs.Prelude.{IsTrue}
use Rattle.std.specs.Option.{option_copied}
use Rattle.derive_faults.specs.Values.{effective, LosesFixed}
use Rattle.derive_restriction.specs.Uses.{declared}
use Rattle.derive_restriction.proofs.UseLaws.{three-first}
use Rattle.derive_restriction.proofs.uses.both_code.Goals as goal

pub returns : goal.returns
returns c =
    let t = c.args.set.now.parts.now in
    let own = c.args.own.now in
    let base = c.args.base.now in
    let types = c.requires.types in
    let lost = c.in_ok-lost.ensures.lost t c.requires.given.ranked types.judged (types.whole own.decl.now.of c.requires.own.simple) (types.whole base.decl.now.of c.requires.base.simple) in
    record {
      first = three-first t c.args.set.now.names.now None (declared own) (declared base) c.in_ok-derived.derived c.in_ok-lost.lost c.three_codes.result c.three_codes.ensures c.in_ok-derived.ensures.derived
          (subst (λ x. IsTrue c.in_ok-lost.lost ↔ LosesFixed t own.decl.now.of base.decl.now.of x (effective base.part.now base.decl.now)) c.effective-constraint.ensures
          (subst (λ x. IsTrue c.in_ok-lost.lost ↔ LosesFixed t own.decl.now.of base.decl.now.of (option_copied c.effective-constraint.result) x) c.effective-base_constraint.ensures lost));
      same = c.loses_fixed.ensures.same;
    }
