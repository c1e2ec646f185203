use Rattle.std.proofs.Common.{refl, sym, subst}
use Rattle.xs_components.specs.declared.common.TypeId.{TypeId}
use Rattle.component_tables.specs.ContentTypes.{content_of}
use Rattle.component_tables.specs.Types.{type_of}
use Rattle.simple_types.specs.SimpleTypes.{IsWhole}
use Rattle.component_tables.proofs.DeclaredLaws.{type-there}
use Rattle.element_declarations.specs.Values.{IsTextKey}
use Rattle.element_declarations.specs.inside.Keys.{IsReadKey}
use Rattle.element_declarations.proofs.KeyLaws.{text-whole, read-key}
use Rattle.element_declarations.proofs.values.read_key.Goals as goal

pub returns-clause-key : goal.returns-clause-key
returns-clause-key c =
    let t = c.args.set.now.parts.now in
    let id = c.args.id in
    let types = c.args.types.now in
    let constraint = c.args.constraint.now in
    let is = c.text_type-of.ensures in
    let there = type-there t c.requires.found.ranked c.requires.found.elements id in
    let whole = subst (IsWhole types) (sym is) (text-whole t types c.requires.read (type_of t id) there (content_of t (type_of t id)) refl) in
    let read = c.in_ok-key.ensures.key t c.requires.found.ranked c.requires.read.judged whole in
    subst (IsReadKey t id constraint) (sym c.constraint_key.ensures)
    (read-key t id constraint c.in_ok-key.key (subst (λ (o : TypeId). IsTextKey t o constraint c.in_ok-key.key) is read))
