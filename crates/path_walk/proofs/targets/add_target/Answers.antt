use Rattle.std.proofs.Common.{◌∷◌, ◌++◌, [], map, if◌then◌else◌, sym, ap, ◌∙◌}
use Rattle.std.proofs.lemmas.List.{map-append}
use Rattle.path_walk.specs.Outcomes.{outcome_of, outcome_in}
use Rattle.path_walk.proofs.targets.add_target.Goals as goal

pub returns-in_ok-push : goal.returns-in_ok-push
returns-in_ok-push g c = λ own below next is.
    let names = c.args.set.now.names.now in
    let t = c.args.set.now.parts.now in
    let old = c.args.found.now.items in
    let outcome = c.in_ok-outcome.outcome in
    let here = outcome_in names t c.args.paths.now.fields own below in
    ap (map outcome_of) c.in_ok-push.ensures.items ∙ map-append outcome_of old (outcome ∷ [])
    ∙ ap (λ o. map outcome_of old ++ o ∷ []) (c.in_ok-outcome.ensures own below next is ∙ ap (λ fields. outcome_in names t fields own below) c.as_slice.ensures)
    ∙ ap (λ b. map outcome_of old ++ (if b then here ∷ [] else [])) (sym c.if-reaches.true ∙ c.reaches.ensures)
