-- The constraints on include, import and redefine (Structures 4.2): which of them a document of a set breaks.
use Rattle.std.specs.Prelude.{◌≡◌, ℕ, ◌+◌, Bool, true, false, not, ◌&&◌, List, [], ◌∷◌, ◌++◌, Option, Some, None, is_some, Contains, slice_get, if◌then◌else◌, codes, refl}
use Rattle.std.specs.Option.{option_and_then}
use Rattle.xs_codes.specs.declared.code.Code.{Code}
use Rattle.xs_codes.specs.declared.code.Code.TheVariants as code
use Rattle.xs_codes.specs.declared.fault.Fault.{Fault}
use Rattle.schema_shape.specs.declared.forms.Form.{Form}
use Rattle.schema_shape.specs.declared.forms.Form.TheVariants as forms
use Rattle.schema_shape.specs.declared.forms.Shape.{Shape}
use Rattle.schema_set.specs.declared.documents.Available.{Available}
use Rattle.schema_set.specs.EffectiveSet.{document_at, InSet}
use Rattle.schema_set.specs.Order.{same_target, own_target_of}

-- the namespace that a name says; the empty name is that of the absent one
abbrev pub named : List ℕ → Option (List ℕ)
named [] = None
named (b ∷ bs) = Some (b ∷ bs)

-- src-include.2.1 (Structures 4.2.1): the target namespace of an included document is there, and another; and so of a redefined one.
abbrev pub is_other : Option (List ℕ) → Option (List ℕ) → Bool
is_other None target = false
is_other (Some own) target = not (same_target (Some own) target)

-- src-import.1.1 (Structures 4.2.3): the attribute namespace is there and its value is the document's target namespace
abbrev pub imports_own : Option (List ℕ) → Option (List ℕ) → Bool
imports_own target None = false
imports_own target (Some name) = same_target (named name) target

-- src-import.1.2 (Structures 4.2.3): the attribute namespace is not there, and the document has no target namespace
abbrev pub imports_absent : Option (List ℕ) → Option (List ℕ) → Bool
imports_absent target namespace = not (is_some target) && not (is_some namespace)

-- src-import.3.1 (Structures 4.2.3): the target namespace of the document that is loaded is not the one that is named
abbrev pub loads_other : List Available → Option (List ℕ) → Option ℕ → Bool
loads_other available namespace None = false
loads_other available namespace (Some number) = not (same_target (own_target_of available number) (option_and_then named namespace))

-- the number of the document that an import loads, if it has a location and a document has that
abbrev pub loaded : List Available → Option (List ℕ) → Option ℕ
loaded available location = option_and_then (document_at available) location

abbrev pub code_if : Bool → Code → List Code
code_if broken c = if broken then c ∷ [] else []

-- x-location: no document has the location of an include or a redefine. Where the one that has it has another target namespace, its
-- code: src-include.2.1 (Structures 4.2.1), src-redefine.3.1 (Structures 4.2.2).
abbrev pub inclusion_codes : Code → List Available → Option (List ℕ) → Option ℕ → List Code
inclusion_codes c available target None = code.XLocation ∷ []
inclusion_codes c available target (Some number) = code_if (is_other (own_target_of available number) target) c

abbrev pub import_codes : List Available → Option (List ℕ) → Option (List ℕ) → Option ℕ → List Code
import_codes available target namespace number =
    code_if (imports_own target namespace) code.SrcImport1_1
    ++ (code_if (imports_absent target namespace) code.SrcImport1_2
    ++ code_if (loads_other available namespace number) code.SrcImport3_1)

-- the codes that an element breaks in a document of this target namespace
abbrev pub broken_codes : List Available → Option (List ℕ) → Form → List Code
broken_codes available target (forms.Include location) = inclusion_codes code.SrcInclude2_1 available target (document_at available location)
broken_codes available target (forms.Redefine location) = inclusion_codes code.SrcRedefine3_1 available target (document_at available location)
broken_codes available target (forms.Import namespace location) = import_codes available target namespace (loaded available location)
broken_codes available target _ = []

-- A constraint that an include, an import or a redefine of the set breaks, the target namespace of its document being that with which
-- the document is in the set (Structures 4.2.1), also where the document says another one itself, so that its own inclusion is at
-- fault. A document that is in the set with several target namespaces breaks what it breaks with one of them.
pub record Broken (available : List Available) (start : ℕ) (f : Fault) : Type 0 where
  pub place : ℕ
  pub document : Available
  pub target : Option (List ℕ)
  pub shape : Shape
  pub phase : f.phase ≡ 2
  pub number : place + 1 ≡ f.document
  pub there : slice_get available place ≡ Some document
  pub inside : InSet available start f.document target
  pub says : Contains document.shaped.shapes shape
  pub item : shape.item ≡ f.item
  pub code : Contains (broken_codes available target shape.form) f.code

-- for example: an import of the empty namespace, which is the absent one, by a document without a target namespace
pub example-empty-namespace : imports_own None (Some []) ≡ true
example-empty-namespace = refl

-- a document that is included with another target namespace than its own
pub example-other : is_other (Some (codes "urn:b")) (Some (codes "urn:a")) ≡ true
example-other = refl
