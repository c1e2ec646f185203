use Rattle.redefine_originals.specs.inside.Entries.{version_entry}
use Rattle.redefine_faults.specs.inside.Chains.{unmarked, IsChain}
use Rattle.redefine_faults.proofs.chains.comes_back.Given as goal

abbrev pub invariant-loop-marks : goal.invariant-loop-marks
invariant-loop-marks l = IsChain l.originals.sources.available.now (version_entry l.start) l.marks.items (version_entry l.last)

abbrev pub decreases-loop-marks : goal.decreases-loop-marks
decreases-loop-marks l = unmarked l.marks.items
