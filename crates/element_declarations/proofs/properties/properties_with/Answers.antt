use Rattle.element_declarations.proofs.KeyLaws.{no-key-of}
use Rattle.element_declarations.proofs.properties.properties_with.Goals as goal

pub returns-in-None : goal.returns-in-None
returns-in-None c = no-key-of c.args.set.now.parts.now c.args.id c.args.value c.requires.value c.in-None.is
