use Rattle.std.proofs.Common.{sym, subst}
use Rattle.key_records.specs.declared.references.References.{References}
use Rattle.forest_keys.specs.inside.Keyrefs.{AreReferencesOf}
use Rattle.kept_targets.proofs.Emptied.{empty-targets}
use Rattle.kept_targets.proofs.keys.TargetKeys.new.Goals as goal

pub returns : goal.returns
returns c = λ ns.
    empty-targets c.args.set.now ns _ (subst (λ (x : References). AreReferencesOf c.args.set.now.parts.constraints.parts x) (sym c.in_ok-counted.ensures.references) c.in_ok-references.ensures) c.in_ok-counted.ensures.kept
    c.in_ok-counted.ensures.none c.new-2.ensures
