-- The content of types as their restriction compares it (Structures 3.9.6): without pointless groups. None where there is no
-- particle, or where nothing is left of it.
use Rattle.std.specs.Prelude.{ℕ, List, Option, None, Some}
use Rattle.xs_components.specs.Tables.{Tables}
use Rattle.xs_components.specs.declared.common.TypeId.{TypeId}
use Rattle.xs_components.specs.declared.common.TypeId.TheVariants.{AnyType, Builtin, Simple, Complex}
use Rattle.particle_forms.specs.Models.{model_of}
use Rattle.particle_models.specs.Pointless.{without_pointless}
use Rattle.particle_models.specs.Trees.{Tree}
use Rattle.derive_models.specs.AnyType.{content_particle}
use Rattle.derive_models.specs.Standing.{stands_for}

module _ (t : Tables) (members : List (List ℕ)) where
  -- the form of the particle of a number
  abbrev pub particle_form : ℕ → Option Tree
  particle_form particle = without_pointless (stands_for t members) (model_of t particle)

  abbrev pub form_of : Option ℕ → Option Tree
  form_of None = None
  form_of (Some particle) = particle_form particle

  -- the form of the content of a complex type; other types have none
  abbrev pub content_form : TypeId → Option Tree
  content_form AnyType = None
  content_form (Builtin kind) = None
  content_form (Simple id) = None
  content_form (Complex id) = form_of (content_particle t id)
