use Rattle.scope_targets.proofs.Growing.{all-same, codes-same}
use Rattle.scope_targets.proofs.laws.targetings_stay_as_names_are_added.Goals as goal

pub returns : goal.returns
returns c = record {
  targets = λ old new t identities grown own below above named under are. all-same old new grown t identities own below named under above are;
  codes = λ old new t identities grown own below named under. codes-same old new grown t identities own below named under;
}
