use Rattle.std.proofs.Common.{ap, ◌∙◌}
use Rattle.simple_types.specs.declared.types.SimpleTypes.{SimpleTypes}
use Rattle.schema_compile.specs.inside.Finding.{joined}
use Rattle.schema_compile.proofs.UsableLaws.{accepted, types-fit}
use Rattle.schema_compile.proofs.compiling.accepted.Goals as goal

pub of-requires : goal.of-requires
of-requires c = record { types = types-fit c.args.set c.requires.fit }

pub returns : goal.returns
returns c =
    let known = c.in_ok-known.known in
    accepted c.faultless_types_have_uses.ensures.uses c.args.set c.args.whole known c.joined.result c.requires.fit c.in_ok-known.ensures.known
    (c.joined.ensures ∙ ap (λ (types : SimpleTypes). joined (record c.args.set { types = types }) c.args.whole known) c.of.ensures.same) c.requires.judged
