use Rattle.kept_keys.proofs.Grown.{says-grown, targets-grown}
use Rattle.kept_keys.proofs.laws.keys_stay_right_as_names_are_added.Goals as goal

pub returns : goal.returns
returns c =
    let law = c.targetings_stay_as_names_are_added.ensures in
    record {
      says = λ set names ns k d grown whole over says. says-grown set names ns k whole (λ own below own_named named. law.codes set.names names set.parts set.identities.items grown own below own_named named) d over says;
      targets = λ set names ns k keys grown whole are.
          targets-grown set names ns k whole (λ own below above own_named named are_names. law.targets set.names names set.parts set.identities.items grown own below above own_named named are_names) keys are;
    }
