use Rattle.std.proofs.Common.{inl, inr, ◌++◌, [], ℕ, List, map, sym, ap, ◌∙◌}
use Rattle.identity_constraints.specs.Seen.{KeyForest}
use Rattle.identity_constraints.specs.Targets.{has_constraint}
use Rattle.path_walk.specs.Sight.{below_first, seen}
use Rattle.path_walk.specs.Outcomes.{outcome_of}
use Rattle.path_walk.specs.inside.Extended.{outcome_here, outcomes_along}
use Rattle.path_walk.proofs.Looking.{no_outcomes, no_paths_outcomes, all_outcomes}
use Rattle.path_walk.proofs.Walking.{first_is}
use Rattle.path_walk.proofs.targets.outcomes.Goals as goal

pub returns-in_default-paths_for : goal.returns-in_default-paths_for
returns-in_default-paths_for g c = λ own below next is.
    let names = c.args.set.now.names.now in
    let t = c.args.set.now.parts.now in
    let identities = c.args.set.now.identities.now in
    let k = c.args.constraint in
    let same = first_is (g.T.KeySiblings.forest c.args.at) own (seen c.in-Some.own) below next is c.in-Some.ensures in
    ap (map outcome_of) c.new-found.ensures.items ∙ sym (elim c.in_default-paths_for.ensures [
      | inl none ↦ no_outcomes names t identities k own below (ap (has_constraint names t identities k) same ∙ none)
      | inr none ↦ no_paths_outcomes names t identities k own below none
    ])

pub returns : goal.returns
returns g c = λ own below next is.
    let names = c.args.set.now.names.now in
    let t = c.args.set.now.parts.now in
    let identities = c.args.set.now.identities.now in
    let k = c.args.constraint in
    let paths = c.in-Some-paths_for.paths.now in
    let same = first_is (g.T.KeySiblings.forest c.args.at) own (seen c.in-Some.own) below next is c.in-Some.ensures in
    let told = c.in-Some-paths_for.ensures in
    let empty = c.as_slice.ensures.value ∙ c.new-way.ensures.items in
    c.in_ok-add_targets.ensures.found
    ∙ ap (λ front. front ++ outcomes_along names t paths c.new-way.result.items (g.T.KeySiblings.forest c.below.result)) (c.in_ok-add_target.ensures own below next is)
    ∙ ap (λ es. (map outcome_of es ++ outcome_here names t paths c.as_slice.result.now own below) ++ outcomes_along names t paths c.new-way.result.items (g.T.KeySiblings.forest c.below.result)) c.new-found.ensures.items
    ∙ ap (λ (w : List ℕ). outcome_here names t paths w own below ++ outcomes_along names t paths c.new-way.result.items (g.T.KeySiblings.forest c.below.result)) empty
    ∙ ap (λ (w : List ℕ). outcome_here names t paths [] own below ++ outcomes_along names t paths w (g.T.KeySiblings.forest c.below.result)) c.new-way.ensures.items
    ∙ ap (λ (f : KeyForest). outcome_here names t paths [] own below ++ outcomes_along names t paths [] f) (c.below.ensures ∙ ap below_first is)
    ∙ sym (all_outcomes names t identities k own below paths (ap (has_constraint names t identities k) same ∙ told.0) told.1)
