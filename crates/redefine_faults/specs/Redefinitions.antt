-- The constraints on what stands in a redefine (Structures 4.2.2).
use Rattle.std.specs.Prelude.{◌≡◌, ◌≢◌, ℕ, ◌+◌, ◌==◌, ◌&&◌, ◌||◌, not, Bool, true, false, List, Option, None, Some, Contains, slice_get}
use Rattle.std.specs.List.{list_any}
use Rattle.std.specs.Str.{bytes_eq}
use Rattle.tree_rows.specs.declared.name.Expanded.{Expanded}
use Rattle.xs_codes.specs.declared.code.Code.{Code}
use Rattle.xs_codes.specs.declared.code.Code.TheVariants as code
use Rattle.xs_codes.specs.declared.fault.Fault.{Fault}
use Rattle.schema_values.specs.declared.occurs.Occurs.{Occurs}
use Rattle.schema_shape.specs.declared.forms.Form.{Form}
use Rattle.schema_shape.specs.declared.forms.Form.TheVariants as forms
use Rattle.schema_shape.specs.declared.forms.Shape.{Shape}
use Rattle.schema_set.specs.declared.documents.Available.{Available}
use Rattle.schema_set.specs.EffectiveSet.{own_target, InSet}
use Rattle.schema_set.specs.Order.{same_target}
use Rattle.redefine_originals.specs.declared.versions.Redefinable.{Redefinable}
use Rattle.redefine_originals.specs.declared.versions.Redefinable.TheVariants as kind
use Rattle.redefine_originals.specs.Versions.{declared_as, inside, Child, redefining, Version, in_redefine, IsOriginal}

-- the namespace of names without one, in a document with a target namespace of its own or without: where it has none, that of the set
abbrev pub adopted : Option (List ℕ) → Option (List ℕ) → Option (List ℕ)
adopted None target = target
adopted (Some own) target = None

-- exactly once
abbrev pub is_one : Option ℕ → Bool
is_one None = false
is_one (Some most) = most == 1

abbrev pub is_once : Occurs → Bool
is_once occurs = (occurs.min == 1) && is_one occurs.max

-- a reference that occurs other than once
abbrev pub occurs_otherwise : Form → Bool
occurs_otherwise (forms.GroupReference to occurs) = not (is_once occurs)
occurs_otherwise _ = false

abbrev pub is_content : Form → Bool
is_content forms.SimpleContent = true
is_content (forms.ComplexContent mixed) = true
is_content _ = false

-- an element below another of a document, however deep
pub data IsBelow (shapes : List Shape) (version : Shape) : Shape → Type 0 where
  child : (below : Shape) → Contains (inside shapes version) below → IsBelow shapes version below
  deeper : (between below : Shape) → IsBelow shapes version between → Contains (inside shapes between) below → IsBelow shapes version below

-- in a document that is in the set with a target namespace
module _ (shapes : List Shape) (target : Option (List ℕ)) where
  -- Structures 4.2.1: the namespace that a reference means
  abbrev pub meant_space : Option (List ℕ) → Option (List ℕ)
  meant_space None = adopted (own_target shapes) target
  meant_space (Some space) = Some space

  -- a reference is to the component of this name in the target namespace
  abbrev pub is_to : List ℕ → Option Expanded → Bool
  is_to name None = false
  is_to name (Some to) = same_target (meant_space to.namespace) target && bytes_eq to.local name

  -- a reference, in what redefines a component of this kind and name, that means the component
  abbrev pub is_self_reference : Redefinable → List ℕ → Form → Bool
  is_self_reference kind.Group name (forms.GroupReference to occurs) = is_to name to
  is_self_reference kind.AttributeGroup name (forms.AttributeGroupReference to) = is_to name to
  is_self_reference _ name _ = false

  pub record IsSelfReference (of : Redefinable) (name : List ℕ) (version reference : Shape) : Type 0 where
    pub below : IsBelow shapes version reference
    pub to : is_self_reference of name reference.form ≡ true

  -- more than one reference
  pub record HasSelfReferences (of : Redefinable) (name : List ℕ) (version : Shape) : Type 0 where
    pub one : Shape
    pub other : Shape
    pub is_one : IsSelfReference of name version one
    pub is_other : IsSelfReference of name version other
    pub two : one.item ≢ other.item

  -- a restriction of the simple type of this name
  abbrev pub restricts : List ℕ → Form → Bool
  restricts name (forms.Restriction base) = is_to name base
  restricts name _ = false

  -- a restriction or an extension, in the content of a complex type, of the type of this name
  abbrev pub derives : List ℕ → Form → Bool
  derives name (forms.Derivation by_extension base) = is_to name base
  derives name _ = false

  -- the content of a complex type that is derived from the type of this name
  abbrev pub content_derives : List ℕ → Shape → Bool
  content_derives name content = is_content content.form && list_any (λ s. derives name s.form) (inside shapes content)

  -- a simple type that restricts the one of its name, a complex type whose content is derived from the one of its name
  abbrev pub derives_from_itself : List ℕ → Shape → Bool
  derives_from_itself name version = list_any (λ s. restricts name s.form || content_derives name s) (inside shapes version)

  -- What a redefining child of a kind and a name breaks by itself.
  -- src-redefine.5: the base of a type is not the type of its own name
  -- src-redefine.6.1.1: a group has more than one reference to itself
  -- src-redefine.6.1.2: the one reference of a group to itself occurs other than once
  -- src-redefine.7.1: an attribute group has more than one reference to itself
  pub data Breaks (name : List ℕ) (version : Shape) : Redefinable → Code → Type 0 where
    other_base : derives_from_itself name version ≡ false → Breaks name version kind.Type code.SrcRedefine5
    several : HasSelfReferences kind.Group name version → Breaks name version kind.Group code.SrcRedefine6_1_1
    otherwise : (reference : Shape) → (HasSelfReferences kind.Group name version → ⊥) → IsSelfReference kind.Group name version reference
        → occurs_otherwise reference.form ≡ true → Breaks name version kind.Group code.SrcRedefine6_1_2
    several_uses : HasSelfReferences kind.AttributeGroup name version → Breaks name version kind.AttributeGroup code.SrcRedefine7_1

-- the same element of the same document
abbrev pub is_same_version : Version → Version → Bool
is_same_version one other = (one.document == other.document) && (one.shape.item == other.shape.item)

module _ (available : List Available) where
  -- a version that stands in a redefine has this original
  pub record GoesTo (version original : Version) : Type 0 where
    pub location : List ℕ
    pub of : Redefinable
    pub name : List ℕ
    pub within : version.location ≡ Some location
    pub declares : declared_as version.shape.form ≡ Some (of, name)
    pub is : IsOriginal available location of name (Some original)

  -- the originals of a version: its own, the one of that, and so on
  pub data GoesBack (version : Version) : Version → Type 0 where
    once : (original : Version) → GoesTo version original → GoesBack version original
    on : (between original : Version) → GoesBack version between → GoesTo between original → GoesBack version original

  -- The codes that what stands in a redefine breaks, in a document that is in the set with a target namespace.
  -- src-expredef: it has no original
  -- x-redefine.circle: its chain of originals comes back to it
  pub data BreaksHere (document : ℕ) (shapes : List Shape) (target : Option (List ℕ)) (of : Redefinable) (name : List ℕ) (child : Child) : Code → Type 0 where
    lost : IsOriginal available child.location of name None → BreaksHere document shapes target of name child code.SrcExpredef
    circle : (back : Version) → GoesBack (in_redefine document child) back → is_same_version back (in_redefine document child) ≡ true
        → BreaksHere document shapes target of name child code.XRedefineCircle
    own : (c : Code) → Breaks shapes target name child.shape of c → BreaksHere document shapes target of name child c

  -- A constraint that what stands in a redefine breaks, in the set that starts at this place. A document that is in the set with several
  -- target namespaces breaks what it breaks with one of them.
  pub record IsRedefineFault (start : ℕ) (f : Fault) : Type 0 where
    pub place : ℕ
    pub document : Available
    pub target : Option (List ℕ)
    pub child : Child
    pub of : Redefinable
    pub name : List ℕ
    pub phase : f.phase ≡ 2
    pub number : place + 1 ≡ f.document
    pub there : slice_get available place ≡ Some document
    pub within : InSet available start f.document target
    pub says : Contains (redefining document.shaped.shapes) child
    pub declares : declared_as child.shape.form ≡ Some (of, name)
    pub item : child.shape.item ≡ f.item
    pub code : BreaksHere f.document document.shaped.shapes target of name child f.code
