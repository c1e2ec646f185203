use Rattle.std.proofs.Common.{rules, ◌≡◌, ◌++◌, ◌∷◌, [], ℕ, List, length, map, true, false, None, Some, refl, sym, ap, ◌∙◌, append-nil}
use Rattle.std.specs.Prelude.{slice_get}
use Rattle.std.proofs.lemmas.List.{map-append}
use Rattle.std.proofs.lemmas.Option.{slice_get_past, slice_get_read}
use Rattle.xpath_subset.specs.declared.path.Path.{Path}
use Rattle.path_walk.specs.Outcomes.{outcome_in, outcome_of}
use Rattle.path_walk.specs.inside.Walk.{reached}
use Rattle.scope_targets.specs.Found.{targeting_of}
use Rattle.scope_targets.specs.Targetings.{Targeting}
use Rattle.scope_targets.proofs.Finding.{without-paths, not-selected, selected}
use Rattle.scope_targets.proofs.targetings.add_target.Goals as goal

pub returns-in_default : goal.returns-in_default
returns-in_default g c = λ own below next at.
    let set = c.args.set.now in
    let identities = set.identities.now in
    let old = map targeting_of c.args.found.now.items in
    let there : slice_get identities c.args.constraint ≡ None =
    ap (slice_get identities) (sym c.number.ensures) ∙ slice_get_past identities c.number.result c.in_default.ensures.lookup.3 in
    sym (append-nil old)
    ∙ ap (λ (found : List Targeting). old ++ found) (sym (without-paths set.names.now set.parts.now identities c.args.from.now.scope c.args.constraint (reached c.args.from.now.way.now own below) there))

pub returns-then-not-selects : goal.returns-then-not-selects
returns-then-not-selects g c = λ own below next at.
    let set = c.args.set.now in
    let identities = set.identities.now in
    let read = c.in-Some.paths.now in
    let old = map targeting_of c.args.found.now.items in
    let there : slice_get identities c.args.constraint ≡ Some read =
    ap (slice_get identities) (sym c.number.ensures) ∙ slice_get_read identities (length identities) c.number.result read refl c.in-Some.ensures.lookup.3.0 c.in-Some.ensures.lookup.1 in
    let off : c.selects.result ≡ false = search rules in
    sym (append-nil old)
    ∙ ap (λ (found : List Targeting). old ++ found)
    (sym (not-selected set.names.now set.parts.now identities c.args.from.now.scope c.args.constraint read there (reached c.args.from.now.way.now own below) (sym c.selects.ensures ∙ off)))

pub returns : goal.returns
returns g c = λ own below next at.
    let set = c.args.set.now in
    let names = set.names.now in
    let t = set.parts.now in
    let identities = set.identities.now in
    let scope = c.args.from.now.scope in
    let read = c.in-Some.paths.now in
    let before = c.args.found.now.items in
    let old = map targeting_of before in
    let outcome = c.in_ok-outcome.outcome in
    let there : slice_get identities c.args.constraint ≡ Some read =
    ap (slice_get identities) (sym c.number.ensures) ∙ slice_get_read identities (length identities) c.number.result read refl c.in-Some.ensures.lookup.3.0 c.in-Some.ensures.lookup.1 in
    let on : c.selects.result ≡ true = search rules in
    ap (map targeting_of) c.in_ok-push.ensures.items ∙ map-append targeting_of before (record { scope = scope; constraint = c.number-2.result; outcome = outcome } ∷ [])
    ∙ ap (λ (k : ℕ). old ++ record { scope = scope; constraint = k; outcome = outcome_of outcome } ∷ []) c.number-2.ensures
    ∙ ap (λ (found : List Targeting). old ++ found)
    (sym
    (selected names t identities scope c.args.constraint read there c.args.from.now.way.now own below (outcome_of outcome) (sym c.selects.ensures ∙ on)
    (c.in_ok-outcome.ensures own below next at ∙ ap (λ (fields : List (List Path)). outcome_in names t fields own below) c.as_slice.ensures)))
