use Rattle.std.proofs.Common.{◌≡◌, ℕ, length, refl, sym, ap, ◌∙◌, Some}
use Rattle.std.specs.Prelude.{slice_get}
use Rattle.std.proofs.lemmas.Option.{slice_get_read}
use Rattle.identity_constraints.specs.Targets.{outcomes}
use Rattle.identity_constraints.specs.Satisfied.{first_broken, checks}
use Rattle.forest_keys.proofs.Codes.{code-there}
use Rattle.forest_keys.proofs.reading.code_of.Goals as goal

pub code_by-requires-clause-kind : goal.code_by-requires-clause-kind
code_by-requires-clause-kind c =
    let parts = c.constraints.result.now in
    let part = c.in-Some.part.now in
    let number = c.number-number.result in
    (part, ap (λ xs. slice_get xs number) (sym c.constraints.ensures.parts) ∙ slice_get_read parts (length parts) number part refl c.in-Some.ensures.lookup.3.0 c.in-Some.ensures.lookup.1, refl)

pub returns : goal.returns
returns c = λ own below filled.
    let set = c.args.by.now.set in
    let names = set.names.now in
    let t = set.parts.now in
    let identities = set.identities.now in
    let k = c.args.constraint in
    let part = c.in-Some.part.now in
    let parts = c.constraints.result.now in
    let number = c.number-number.result in
    let there : slice_get t.constraints.parts k ≡ Some part =
    ap (λ xs. slice_get xs k) (sym c.constraints.ensures.parts) ∙ ap (slice_get parts) (sym c.number-number.ensures) ∙ slice_get_read parts (length parts) number part refl c.in-Some.ensures.lookup.3.0 c.in-Some.ensures.lookup.1 in
    code-there names t identities k part (slice_get t.constraints.parts k) own below c.code_by.result there
    (c.code_by.ensures own below filled ∙ ap (λ (n : ℕ). first_broken (checks names t identities part.kind (outcomes names t identities n own below) own below)) c.number-number.ensures)
