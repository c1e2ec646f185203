use Rattle.component_tables.proofs.TypeLaws.{types-known}
use Rattle.component_tables.proofs.declarations.Declarations.of.Goals as goal

pub returns : goal.returns
returns c = record {
  declarations = record {
    each = c.in_ok-types.ensures.types.each;
    types = types-known c.args.parts.now c.in_ok-types.types.items c.in_ok-types.ensures.types;
    globals = c.in_ok-globals.ensures;
    bases = c.in_ok-bases.ensures.lines;
  };
}
