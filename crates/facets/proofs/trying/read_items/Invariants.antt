use Rattle.std.proofs.Common.{List, [], Result, drop}
use Rattle.xs_codes.specs.declared.code.Code.{Code}
use Rattle.simple_values.specs.declared.atoms.TypedAtom.{TypedAtom}
use Rattle.facets.specs.Trying.{AreItemsRead}
use Rattle.facets.proofs.trying.read_items.Given as goal

abbrev pub invariant-loop-text : goal.invariant-loop-text
invariant-loop-text l = (outcome : Result (List TypedAtom) Code) → AreItemsRead l.choices l.scope l.atoms (drop l.text-index l.texts) outcome
    → AreItemsRead l.choices l.scope [] l.texts outcome
