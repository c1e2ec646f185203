-- The lines of all types of one kind, each from that of its base.
use Rattle.std.specs.Prelude.{◌≡◌, ℕ, ◌<◌, ◌==◌, ◌||◌, Bool, true, false, List, Option, None, Some, length, slice_get, slice_index, slice_index_or, IfSome, if◌then◌else◌}
use Rattle.std.specs.Option.{option_map}
use Rattle.xs_components.specs.Tables.{Tables}
use Rattle.xs_components.specs.declared.common.TypeId.TheVariants.{AnyType, Simple, Complex}
use Rattle.xs_components.specs.declared.complex.ComplexType.{ComplexType}
use Rattle.xs_components.specs.declared.simple.SimpleForm.{SimpleForm}
use Rattle.xs_components.specs.declared.simple.SimpleForm.TheVariants.{Restrict, ListOf, UnionOf}
use Rattle.component_references.specs.Descent.{along}
use Rattle.component_tables.specs.declared.bases.BaseLine.{BaseLine}
use Rattle.component_tables.specs.declared.bases.BaseStep.{BaseStep}
use Rattle.component_tables.specs.Bases.{complex_number, restricted_number, alone}

abbrev pub is_union : SimpleForm → Bool
is_union (Restrict base step) = false
is_union (ListOf item) = false
is_union (UnionOf members) = true

abbrev pub simple_step : ℕ → SimpleForm → BaseStep
simple_step id form = record { own = Simple id; base = restricted_number form; by_extension = false; is_union = is_union form }

abbrev pub complex_step : ℕ → ComplexType → BaseStep
complex_step id part = record { own = Complex id; base = complex_number part.base; by_extension = part.by_extension; is_union = false }

abbrev pub simple_at : Tables → ℕ → Option BaseStep
simple_at t id = option_map (λ part. simple_step id part.form) (slice_get t.simples.parts id)

abbrev pub complex_at : Tables → ℕ → Option BaseStep
complex_at t id = option_map (complex_step id) (slice_get t.complexes.parts id)

-- these are the steps of the numbers below a count
pub record AreSteps (step : ℕ → Option BaseStep) (count : ℕ) (steps : List BaseStep) : Type 0 where
  pub each : length steps ≡ count
  pub are : (n : ℕ) → n < count → slice_get steps n ≡ step n

-- the base of each is there, and lower
pub record AreLower (steps : List BaseStep) (ranks : List ℕ) : Type 0 where
  pub alike : length ranks ≡ length steps
  pub there : (n : ℕ) (step : BaseStep) → slice_get steps n ≡ Some step → IfSome step.base (λ b. b < length steps)
  pub lower : (n : ℕ) (step : BaseStep) → slice_get steps n ≡ Some step → IfSome step.base (λ b. slice_index ranks b < slice_index ranks n)

abbrev pub starting : BaseStep → ℕ → Bool → BaseLine
starting step rank above = record { first = step.own; rank = rank; extended = 0; restricted = 0; is_union = step.is_union || above }

abbrev pub following : BaseStep → ℕ → BaseLine → BaseLine
following step rank line = record {
  first = line.first;
  rank = rank;
  extended = if step.by_extension then rank else line.extended;
  restricted = if step.by_extension then line.restricted else rank;
  is_union = step.is_union || line.is_union;
}

-- the line of a type by that of its base, where it goes on behind that, or does not
abbrev pub joined : Bool → BaseStep → ℕ → BaseLine → BaseLine
joined true step rank line = following step rank line
joined false step rank line = starting step rank line.is_union

abbrev pub has_number : Option ℕ → ℕ → Bool
has_number None n = false
has_number (Some x) n = x == n

abbrev pub is_next : List (Option ℕ) → ℕ → ℕ → Bool
is_next nexts base n = has_number (slice_index_or nexts base None) n

module _ (steps : List BaseStep) (nexts : List (Option ℕ)) (ranks : List ℕ) where
  module _ (line : ℕ → BaseLine) where
    abbrev pub from_base : ℕ → BaseStep → Option ℕ → BaseLine
    from_base n step None = starting step (slice_index ranks n) false
    from_base n step (Some base) = joined (is_next nexts base n) step (slice_index ranks n) (line base)

    abbrev pub from_step : ℕ → Option BaseStep → BaseLine
    from_step n None = alone AnyType
    from_step n (Some step) = from_base n step step.base

  abbrev pub line_step : (ℕ → BaseLine) → ℕ → BaseLine
  line_step line n = from_step line n (slice_get steps n)

unfoldable pub line_of : List BaseStep → List (Option ℕ) → List ℕ → ℕ → BaseLine
line_of steps nexts ranks n = along (slice_index ranks) (alone AnyType) (line_step steps nexts ranks) n

-- these are the lines of all
pub record AreLines (steps : List BaseStep) (nexts : List (Option ℕ)) (ranks : List ℕ) (lines : List BaseLine) : Type 0 where
  pub are : (n : ℕ) → n < length ranks → slice_get lines n ≡ Some (line_of steps nexts ranks n)

-- with some choice of those that go on
pub record AreSome (steps : List BaseStep) (ranks : List ℕ) (lines : List BaseLine) : Type 0 where
  pub nexts : List (Option ℕ)
  pub are : AreLines steps nexts ranks lines
