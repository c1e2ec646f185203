use Rattle.std.proofs.Common.{refl}
use Rattle.derive_faults.proofs.FaultLaws.{coded-least}
use Rattle.derive_faults.specs.Extensions.{Breaks}
use Rattle.derive_faults.proofs.extensions.fault_of.Goals as goal

pub extension_code-requires-clause-base : goal.extension_code-requires-clause-base
extension_code-requires-clause-base c = (c.requires.ranked.complexes c.args.id c.complex-part.result.now c.complex-part.ensures.part).there

pub returns : goal.returns
returns c = record {
  least = coded-least 7 c.args.parts.now (Breaks c.args.parts.now) refl c.args.id c.complex-part.result.now c.complex-part.ensures.part c.extension_code.result c.coded.result c.coded.ensures c.extension_code.ensures.first;
}
