-- Groups with their particles are the groups without, changed.
use Rattle.std.proofs.Common.{inl, inr, ℕ, List, Option, None, Some, refl}
use Rattle.xs_components.specs.Changes.{with_particle}
use Rattle.xs_components.specs.declared.common.Place.{Place}
use Rattle.representations.specs.declared.parts.Represented.{Represented}
use Rattle.representations.specs.declared.parts.Represented.TheVariants as forms
use Rattle.representations.specs.declared.parts.Representation.{Representation}
use Rattle.set_representations.proofs.ChangeLaws.{IsOneChanged}
use Rattle.build_components.specs.Groups.{groups_by, bare_groups, groups_of, particle_of}

form-one : (form : Represented) (at : Place) (particle : Option ℕ) → IsOneChanged with_particle particle (groups_by form at None) (groups_by form at particle)
form-one (forms.Group name) at None = inr (record { name = name; at = at; particle = None }, refl, refl)
form-one (forms.Group name) at (Some particle) = inr (record { name = name; at = at; particle = None }, refl, refl)
form-one _ at particle = inl (refl, refl)

pub groups_one : (particles : List (Option ℕ)) (rep : Representation) → IsOneChanged with_particle (particle_of particles rep) (bare_groups rep) (groups_of particles rep)
groups_one particles rep = form-one rep.form rep.at (particle_of particles rep)
