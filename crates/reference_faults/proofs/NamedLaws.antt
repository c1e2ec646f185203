-- Representations whose names are in the table have the names there that the constraints look at.
use Rattle.std.proofs.Common.{◌≡◌, ℕ, ◌<◌, List, [], ◌∷◌, ◌++◌, Option, None, Some, length, subst}
use Rattle.std.specs.Prelude.{All, IfSome, slice_get}
use Rattle.std.specs.List.{flat_map}
use Rattle.std.proofs.lemmas.Option.{slice_get_within, get_or_from_slice_get}
use Rattle.std.proofs.lemmas.List.Elements.{All-nil, All-cons, All-head, All-tail, All-append}
use Rattle.xs_names.specs.Names.{NameTable}
use Rattle.representations.specs.declared.parts.ElementRepresentation.{ElementRepresentation}
use Rattle.representations.specs.declared.parts.AttributeRepresentation.{AttributeRepresentation}
use Rattle.representations.specs.declared.parts.Represented.{Represented}
use Rattle.representations.specs.declared.parts.Represented.TheVariants as forms
use Rattle.representations.specs.declared.parts.Representation.{Representation}
use Rattle.representations.specs.declared.parts.TypeName.{TypeName}
use Rattle.representations.specs.declared.parts.TypeName.TheVariants as types
use Rattle.representations.specs.Named.{given_name, type_name, given_type, names_of, AreIn, AreNamed}
use Rattle.reference_faults.specs.declared.reference.Reference.{Reference}
use Rattle.reference_faults.specs.declared.reference.Reference.TheVariants.{ToElement, ToAttribute, ToType, ToSimpleType, ToAnyTypeAsSimple, ToGroup, ToAttributeGroup, ToKey}
use Rattle.reference_faults.specs.Attributes.{attribute_name}
use Rattle.reference_faults.specs.Imports.{IsInTable}
use Rattle.reference_faults.specs.References.{one_or_none, named_type, simple_references, simple_references_if, element_references, attribute_references, references, name_of}
use Rattle.reference_faults.specs.inside.Named.{IsNamed}

module _ (t : NameTable) where
  abbrev Names : Reference → Type 0
  Names r = IfSome (name_of r) (IsInTable t)

  front : (xs ys : List ℕ) → AreIn t (xs ++ ys) → AreIn t xs
  front [] ys h = All-nil (λ n. n < length t.names)
  front (x ∷ xs) ys h = All-cons (λ n. n < length t.names) x xs (All-head (λ n. n < length t.names) x (xs ++ ys) h) (front xs ys (All-tail (λ n. n < length t.names) x (xs ++ ys) h))

  back : (xs ys : List ℕ) → AreIn t (xs ++ ys) → AreIn t ys
  back [] ys h = h
  back (x ∷ xs) ys h = back xs ys (All-tail (λ n. n < length t.names) x (xs ++ ys) h)

  one : (name : ℕ) → AreIn t (name ∷ []) → name < length t.names
  one name h = All-head (λ n. n < length t.names) name [] h

  single : (r : Reference) → Names r → All Names (r ∷ [])
  single r h = All-cons Names r [] h (All-nil Names)

  given : (to : ℕ → Reference) → ((n : ℕ) → n < length t.names → Names (to n)) → (name : Option ℕ) → AreIn t (given_name name) → All Names (one_or_none to name)
  given to names None h = All-nil Names
  given to names (Some name) h = single (to name) (names name (one name h))

  given-type : (of : Option TypeName) → AreIn t (given_type of) → All Names (one_or_none ToType (named_type of))
  given-type None h = All-nil Names
  given-type (Some types.AnyType) h = All-nil Names
  given-type (Some (types.Builtin of)) h = All-nil Names
  given-type (Some (types.Named name)) h = single (ToType name) (one name h)

  simple : (of : TypeName) → AreIn t (type_name of) → All Names (simple_references of)
  simple types.AnyType h = single ToAnyTypeAsSimple tt
  simple (types.Builtin of) h = All-nil Names
  simple (types.Named name) h = single (ToSimpleType name) (one name h)

  simple-if : (of : Option TypeName) → AreIn t (given_type of) → All Names (simple_references_if of)
  simple-if None h = All-nil Names
  simple-if (Some of) h = simple of h

  simples : (members : List TypeName) → AreIn t (flat_map type_name members) → All Names (flat_map simple_references members)
  simples [] h = All-nil Names
  simples (of ∷ members) h = All-append Names (simple_references of) (flat_map simple_references members)
      (simple of (front (type_name of) (flat_map type_name members) h)) (simples members (back (type_name of) (flat_map type_name members) h))

  name-if : (name : Option ℕ) → AreIn t (given_name name) → IfSome name (IsInTable t)
  name-if None h = tt
  name-if (Some name) h = one name h

  of-element : (e : ElementRepresentation) → AreIn t (names_of (forms.Element e)) → All Names (element_references e)
  of-element e h =
      let behind-name = back (given_name e.name) (given_name e.reference ++ (given_type e.of ++ given_name e.head)) h in
      let behind-reference = back (given_name e.reference) (given_type e.of ++ given_name e.head) behind-name in
      All-append Names (one_or_none ToElement e.reference) (one_or_none ToElement e.head ++ one_or_none ToType (named_type e.of))
      (given ToElement (λ n l. l) e.reference (front (given_name e.reference) (given_type e.of ++ given_name e.head) behind-name))
      (All-append Names (one_or_none ToElement e.head) (one_or_none ToType (named_type e.of))
      (given ToElement (λ n l. l) e.head (back (given_type e.of) (given_name e.head) behind-reference))
      (given-type e.of (front (given_type e.of) (given_name e.head) behind-reference)))

  of-attribute : (a : AttributeRepresentation) → AreIn t (names_of (forms.Attribute a)) → All Names (attribute_references a)
  of-attribute a h =
      let behind-name = back (given_name a.name) (given_name a.reference ++ given_type a.of) h in
      All-append Names (one_or_none ToAttribute a.reference) (simple_references_if a.of)
      (given ToAttribute (λ n l. l) a.reference (front (given_name a.reference) (given_type a.of) behind-name))
      (simple-if a.of (back (given_name a.reference) (given_type a.of) behind-name))

  all-named : (form : Represented) → AreIn t (names_of form) → All Names (references form)
  all-named (forms.Element e) h = of-element e h
  all-named (forms.Attribute a) h = of-attribute a h
  all-named (forms.Restriction base) h = simple-if base h
  all-named (forms.ItemType of) h = simple-if of h
  all-named (forms.Union members) h = simples members h
  all-named (forms.Derivation by_extension base) h = given-type base h
  all-named (forms.GroupReference to) h = given ToGroup (λ n l. l) to h
  all-named (forms.AttributeGroupReference to) h = given ToAttributeGroup (λ n l. l) to h
  all-named (forms.Keyref name refer) h = given ToKey (λ n l. l) refer (All-tail (λ n. n < length t.names) name (given_name refer) h)
  all-named _ h = All-nil Names

  attribute-named : (form : Represented) → AreIn t (names_of form) → IfSome (attribute_name form) (IsInTable t)
  attribute-named (forms.Attribute a) h = name-if a.name (front (given_name a.name) (given_name a.reference ++ given_type a.of) h)
  attribute-named _ h = tt

  -- a representation of these
  pub named-at : (reps : List Representation) (i : ℕ) (rep : Representation) → slice_get reps i ≡ Some rep → AreNamed t reps → IsNamed t rep.form
  named-at reps i rep e h =
      let names : AreIn t (names_of rep.form) = subst (λ (r : Representation). AreIn t (names_of r.form)) (get_or_from_slice_get reps i rep rep e) (h i rep (slice_get_within reps i rep e)) in
      record { references = all-named rep.form names; attribute = attribute-named rep.form names }
