use Rattle.redefine_originals.specs.Versions.{Version, declares}
use Rattle.redefine_originals.specs.inside.Entries.{version_entry}
use Rattle.redefine_originals.specs.inside.Named.{found}
use Rattle.redefine_originals.proofs.NamedLaws.{first-more}
use Rattle.redefine_originals.proofs.named.named_versions.Goals as goal

pub loop-version-preserved : goal.loop-version-preserved
loop-version-preserved c = λ q.
    first-more (λ (v : Version). declares c.args.kind q v.shape) version_entry c.args.versions.now c.loop-version.version-index c.version-item.result
    (found c.loop-version.named q) (found c.note_if.new.named q) c.loop-version-test.true c.version-item.is (c.in_ok-note_if.ensures q) (c.loop-version.invariant q)
