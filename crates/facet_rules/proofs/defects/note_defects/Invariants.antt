use Rattle.std.proofs.Common.{◌≡◌, drop}
use Rattle.facet_rules.specs.First.{first_from}
use Rattle.facet_rules.specs.Defects.{defect_rules}
use Rattle.facet_rules.proofs.defects.note_defects.Given as goal

abbrev pub invariant-loop-index : goal.invariant-loop-index
invariant-loop-index l =
    first_from l.best (defect_rules l.facets l.index (drop l.index l.facets)) ≡ first_from l.initial.best (defect_rules l.facets 0 l.facets)
