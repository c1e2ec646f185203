use Rattle.std.proofs.Common.{◌≡◌, sym, subst}
use Rattle.component_references.specs.Heights.{IsType}
use Rattle.component_tables.specs.Types.{type_of}
use Rattle.component_tables.proofs.DeclaredLaws.{type-there}
use Rattle.elem_governing.proofs.local_types.declared_type.Goals as goal

pub returns : goal.returns
returns c =
    let view = c.requires.view in
    let e : c.type_of.result ≡ type_of c.args.view.now.parts.now c.args.element = c.type_of.ensures.of c.args.view.now.parts.now view.declarations in
    record {
      of = e;
      there = subst (IsType c.args.view.now.parts.now) (sym e) (type-there c.args.view.now.parts.now view.ranked view.types c.args.element);
    }
