use Rattle.std.proofs.Common.{sym, subst, ◌∙◌}
use Rattle.representations.specs.Behind.{AreBehind}
use Rattle.redefine_names.specs.Renamed.{renamed}
use Rattle.redefine_names.proofs.BehindLaws.{behind-alike}
use Rattle.schema_check.proofs.building.build_read.Goals as goal

pub build_versions-requires-clause-behind : goal.build_versions-requires-clause-behind
build_versions-requires-clause-behind c =
    let t = c.name_versions.new.names in
    subst AreBehind (sym (c.as_slice-2.ensures ∙ c.in_ok-versions.ensures.renamed))
    (behind-alike c.args.read.reps (renamed t c.args.read.reps c.args.originals.now) (c.names_alone_change.ensures.unnamed t c.args.read.reps c.args.originals.now) c.requires.behind)
