-- The versions of redefined components (Structures 4.2.2). What a redefine holds is put in the place of the components of the same kind
-- and name that the redefined document has: their originals.
use Rattle.std.specs.Prelude.{◌≡◌, ℕ, ◌-◌, ◌==◌, ◌&&◌, Bool, true, false, List, [], ◌∷◌, ◌++◌, Option, None, Some, Contains, filter_map, map, slice_get}
use Rattle.std.specs.List.{list_any, find, filter, flat_map}
use Rattle.std.specs.Option.{option_map, option_and_then, option_or, option_to_list}
use Rattle.std.specs.Str.{bytes_eq}
use Rattle.schema_shape.specs.declared.forms.Form.{Form}
use Rattle.schema_shape.specs.declared.forms.Form.TheVariants as forms
use Rattle.schema_shape.specs.declared.forms.Shape.{Shape}
use Rattle.schema_set.specs.declared.documents.Available.{Available}
use Rattle.schema_set.specs.EffectiveSet.{document_at}
use Rattle.redefine_originals.specs.declared.versions.Redefinable.{Redefinable}
use Rattle.redefine_originals.specs.declared.versions.Redefinable.TheVariants as kind

-- the kind and the name of what a form declares at the top of a document or in a redefine; simple and complex types are one kind
abbrev pub declared_as : Form → Option (Redefinable × List ℕ)
declared_as (forms.SimpleType name finals) = option_map (λ n. (kind.Type, n)) name
declared_as (forms.ComplexType head) = option_map (λ n. (kind.Type, n)) head.name
declared_as (forms.Group name) = Some (kind.Group, name)
declared_as (forms.AttributeGroup name) = Some (kind.AttributeGroup, name)
declared_as _ = None

abbrev pub same_kind : Redefinable → Redefinable → Bool
same_kind kind.Type kind.Type = true
same_kind kind.Group kind.Group = true
same_kind kind.AttributeGroup kind.AttributeGroup = true
same_kind _ _ = false

abbrev pub is_declared : Redefinable → List ℕ → Option (Redefinable × List ℕ) → Bool
is_declared of name None = false
is_declared of name (Some other) = same_kind of other.0 && bytes_eq name other.1

-- the element declares a component of this kind and name
abbrev pub declares : Redefinable → List ℕ → Shape → Bool
declares of name shape = is_declared of name (declared_as shape.form)

-- the elements that stand in an element of a document
abbrev pub inside : List Shape → Shape → List Shape
inside shapes parent = filter (λ s. list_any (λ item. item == s.item) parent.members) shapes

-- what stands at the top of a document, in its schema element
abbrev pub at_top : List Shape → List Shape
at_top shapes = flat_map (λ schema. inside shapes schema) (option_to_list (slice_get shapes 0))

-- an element that stands in a redefine, with the location of the redefine
pub record Child : Type 0 where
  pub location : List ℕ
  pub shape : Shape

abbrev pub redefined : Form → Option (List ℕ)
redefined (forms.Redefine location) = Some location
redefined _ = None

-- what stands in an element, if that is a redefine
abbrev pub children_at : List Shape → Shape → Option (List ℕ) → List Child
children_at shapes parent None = []
children_at shapes parent (Some location) = map (λ s. record { location = location; shape = s }) (inside shapes parent)

-- what stands in the redefines of a document
abbrev pub redefining : List Shape → List Child
redefining shapes = flat_map (λ s. children_at shapes s (redefined s.form)) shapes

-- a version of a component: the number of its document, the location of the redefine in which it stands if it stands in one, and its element
pub record Version : Type 0 where
  pub document : ℕ
  pub location : Option (List ℕ)
  pub shape : Shape

abbrev pub in_redefine : ℕ → Child → Version
in_redefine document child = record { document = document; location = Some child.location; shape = child.shape }

abbrev pub on_top : ℕ → Shape → Version
on_top document shape = record { document = document; location = None; shape = shape }

-- the version that a document has of a component: its own redefining child of that kind and name, else its top declaration
abbrev pub version_in : ℕ → List Shape → Redefinable → List ℕ → Option Version
version_in document shapes of name =
    option_or (option_map (in_redefine document) (find (λ c. declares of name c.shape) (redefining shapes)))
    (option_map (on_top document) (find (declares of name) (at_top shapes)))

abbrev pub included : Form → Option (List ℕ)
included (forms.Include location) = Some location
included (forms.Redefine location) = Some location
included _ = None

-- what the elements of a document of this number declare
abbrev pub shapes_of : Option Available → List Shape
shapes_of None = []
shapes_of (Some a) = a.shaped.shapes

abbrev pub shapes_at : List Available → ℕ → List Shape
shapes_at available document = shapes_of (slice_get available (document - 1))

abbrev pub version_at : List Available → Redefinable → List ℕ → ℕ → Option Version
version_at available of name document = version_in document (shapes_at available document) of name

-- the numbers of the documents that a document includes and redefines, in document order
abbrev pub inclusions : List Available → ℕ → List ℕ
inclusions available document = filter_map (λ s. option_and_then (document_at available) (included s.form)) (shapes_at available document)

-- The first version of a component in some documents and what they include and redefine, depth first and each document once. `left` are
-- the documents to look at, and `seen` those that were.
pub data Finds (available : List Available) (of : Redefinable) (name : List ℕ) : List ℕ → List ℕ → Option Version → Type 0 where
  nowhere : (seen : List ℕ) → Finds available of name [] seen None
  again : (document : ℕ) (left seen : List ℕ) (found : Option Version) → Contains seen document → Finds available of name left seen found
      → Finds available of name (document ∷ left) seen found
  here : (document : ℕ) (left seen : List ℕ) (version : Version) → (Contains seen document → ⊥) → version_at available of name document ≡ Some version
      → Finds available of name (document ∷ left) seen (Some version)
  further : (document : ℕ) (left seen : List ℕ) (found : Option Version) → (Contains seen document → ⊥) → version_at available of name document ≡ None
      → Finds available of name (inclusions available document ++ left) (document ∷ seen) found → Finds available of name (document ∷ left) seen found

-- Structures 4.2.2: the original of what a redefine of this location holds, by its kind and name: the version that the redefined
-- document has, else the first among the documents that this one includes and redefines. A location of no document has none.
abbrev pub IsOriginal : List Available → List ℕ → Redefinable → List ℕ → Option Version → Type 0
IsOriginal available location of name found = Finds available of name (option_to_list (document_at available location)) [] found
