use Rattle.std.proofs.Common.{◌≡◌, true, Some, slice_get, sym, subst, rules}
use Rattle.std.specs.Prelude.{IfSome}
use Rattle.component_references.specs.References.{IsPart}
use Rattle.xs_components.specs.declared.complex.ComplexType.{ComplexType}
use Rattle.type_derivation.specs.Particles.{goes_on, IsExtended, IsContentOf}
use Rattle.type_derivation.specs.inside.Filling.{Adds}
use Rattle.type_derivation.proofs.GrowLaws.{if-two, adds-none, extension-of}
use Rattle.type_derivation.proofs.contents.content_of.Goals as goal

pub returns-then-not-goes_on-clause-added : goal.returns-then-not-goes_on-clause-added
returns-then-not-goes_on-clause-added c =
    adds-none c.args.parts.now c.requires.ranked c.effective-own.result
    (subst (λ o. IfSome o (IsPart c.args.parts.now.particles)) (sym c.effective-own.ensures) (c.requires.effective c.complex-part.result.now c.complex-part.ensures.part))

pub base_content-requires-clause-there : goal.base_content-requires-clause-there
base_content-requires-clause-there c = (c.requires.ranked.complexes c.args.id c.complex-part.result.now c.complex-part.ensures.part).there

pub returns-clause-content : goal.returns-clause-content
returns-clause-content c =
    let t = c.args.parts.now in
    let part = c.complex-part.result.now in
    let on : goes_on part.by_extension part.content ≡ true = search rules in
    if-two c.extended.result (λ content. IsExtended c.extended.new.parts part.at c.in_ok-inner.inner c.effective-own.result content) (λ content. Adds c.base_content.new.parts c.extended.new.parts content)
    (λ content. (other : ComplexType) → slice_get t.complexes.parts c.args.id ≡ Some other → IsContentOf c.extended.new.parts other.by_extension other.at other.base other.content content)
    (λ content extended adds other e. extension-of t c.base_content.new.parts c.extended.new.parts c.args.id part other c.in_ok-inner.inner c.effective-own.result content c.complex-part.ensures.part on
    c.effective-own.ensures c.in_ok-inner.ensures.content adds.more extended e)
    c.extended.ensures.content c.extended.ensures.added
