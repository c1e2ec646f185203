-- The documents of a set by their numbers.
use Rattle.std.specs.Prelude.{ℕ, ◌+◌, ◌/◌, ◌%◌, List, Option, Some, length, slice_get}
use Rattle.std.specs.Option.{option_map}
use Rattle.schema_shape.specs.declared.forms.ShapedSchema.{ShapedSchema}
use Rattle.schema_set.specs.declared.documents.Available.{Available}
use Rattle.schema_set.specs.declared.documents.SetDocument.{SetDocument}
use Rattle.schema_set.specs.Order.{own_target_of}

pub record Entry : Type 0 where
  pub number : ℕ
  pub target : Option (List ℕ)
  pub shaped : Option ShapedSchema

abbrev pub entry_of : SetDocument → Entry
entry_of d = record { number = d.number; target = d.target; shaped = Some d.shaped.now }

abbrev pub entry_at : List Available → ℕ → Entry
entry_at available x = record {
  number = x / length available + 1;
  target = own_target_of available (x % length available + 1);
  shaped = option_map (λ a. a.shaped) (slice_get available (x / length available));
}
