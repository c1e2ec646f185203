use Rattle.std.proofs.Common.{◌≡◌, drop}
use Rattle.facet_rules.specs.Defects.{are_defined}
use Rattle.facet_rules.proofs.defects.is_defined.Given as goal

abbrev pub invariant-loop-index : goal.invariant-loop-index
invariant-loop-index l = are_defined l.facets l.index (drop l.index l.facets) ≡ are_defined l.facets 0 l.facets
