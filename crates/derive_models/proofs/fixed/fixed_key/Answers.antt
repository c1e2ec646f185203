use Rattle.std.proofs.Common.{refl, sym, subst}
use Rattle.std.proofs.lemmas.Result.{IfOk-weaker}
use Rattle.xs_components.specs.declared.common.TypeId.{TypeId}
use Rattle.component_tables.specs.ContentTypes.{content_of}
use Rattle.component_tables.specs.Types.{type_of}
use Rattle.simple_types.specs.SimpleTypes.{IsWhole}
use Rattle.component_tables.proofs.DeclaredLaws.{type-there}
use Rattle.element_declarations.specs.Values.{IsTextKey}
use Rattle.derive_models.specs.inside.Numbered.{IsFixedKey}
use Rattle.derive_models.proofs.FixedLaws.{text-whole, fixed-key}
use Rattle.derive_models.proofs.fixed.fixed_key.Goals as goal

pub returns-then-constraint-clause-key : goal.returns-then-constraint-clause-key
returns-then-constraint-clause-key c =
    let t = c.args.set.now.parts.now in
    let id = c.args.id in
    let types = c.args.types.now in
    let constraint = c.in-Some.constraint in
    let of = c.text_type-of.result in
    let is = c.text_type-of.ensures in
    let there = type-there t c.requires.found.ranked c.requires.found.elements id in
    let whole = subst (IsWhole types) (sym is) (text-whole t types c.requires.read (type_of t id) there (content_of t (type_of t id)) refl) in
    IfOk-weaker c.text_key.result (IsTextKey t of constraint) (IsFixedKey t id)
    (λ key x. fixed-key t id c.element.result.now c.element.ensures.part constraint c.in-Some.is c.if-constraint.true key (subst (λ (o : TypeId). IsTextKey t o constraint key) is x))
    (c.text_key.ensures.key t c.requires.found.ranked c.requires.read.judged whole)
