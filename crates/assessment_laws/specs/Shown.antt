-- What an element shows for its values.
use Rattle.std.specs.Prelude.{◌≡◌}
use Rattle.assess_records.specs.declared.shape.ElementShape.{ElementShape}
use Rattle.elem_codes.specs.Facts.{has_elements}

-- the same attributes, text and scope, and child elements or none
pub record ShowSameText (a b : ElementShape) : Type 0 where
  pub attrs : a.attrs ≡ b.attrs
  pub text : a.text ≡ b.text
  pub scope : a.scope ≡ b.scope
  pub elements : has_elements a ≡ has_elements b
