use Rattle.std.proofs.Common.{◌≡◌, drop}
use Rattle.xs_names.specs.Names.{Grown}
use Rattle.representations.specs.Named.{AreNamed}
use Rattle.redefine_names.specs.VersionNames.{with_versions}
use Rattle.redefine_names.proofs.names.add_versions.Given as goal

abbrev pub invariant-loop-original : goal.invariant-loop-original
invariant-loop-original l = record {
  named : AreNamed l.names l.reps;
  table : with_versions l.names l.reps (drop l.original-index l.originals) ≡ with_versions l.initial.names l.reps l.originals;
  grown : Grown l.initial.names l.names;
}
