-- What is so of representations where names and references have no fault.
use Rattle.std.specs.Prelude.{◌≡◌, ℕ, Bool, true, false, List, Some, slice_get}
use Rattle.std.specs.List.{list_all}
use Rattle.representations.specs.declared.parts.Represented.{Represented}
use Rattle.representations.specs.declared.parts.Representation.{Representation}
use Rattle.representations.specs.Names.{spaces_of}
use Rattle.reference_faults.specs.Doubles.{is_double}
use Rattle.reference_faults.specs.References.{references}
use Rattle.reference_faults.specs.Resolution.{kinds_of, resolves}

-- each reference of an element is to a component of the kind that it needs
abbrev pub are_found : List Representation → Represented → Bool
are_found reps form = list_all (resolves (spaces_of reps) (kinds_of reps)) (references form)

-- Structures 3.15.3, 3.15.6: no name stands twice in a symbol space, and each reference is to a component of the kind that it needs
pub record AreResolved (reps : List Representation) : Type 0 where
  pub once : (place : ℕ) (rep : Representation) → slice_get reps place ≡ Some rep → is_double (spaces_of reps) place ≡ false
  pub found : (place : ℕ) (rep : Representation) → slice_get reps place ≡ Some rep → are_found reps rep.form ≡ true
