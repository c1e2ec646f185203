-- References of redefining components to themselves: by places and by the elements of documents.
use Rattle.std.proofs.Common.{◌≡◌, ℕ, ◌<◌, inl, inr, Bool, true, false, cond, List, Option, None, Some, length, slice_get, refl, sym, ap, subst, ◌∙◌, arith}
use Rattle.std.proofs.Math.Path.{transport}
use Rattle.std.specs.Prelude.{All}
use Rattle.std.specs.Option.{option_map, option_and_then}
use Rattle.std.proofs.lemmas.List.Elements.{All-contains}
use Rattle.std.proofs.lemmas.Option.{none-some, same_Some, slice_get-map}
use Rattle.tree_rows.specs.Whole.{IsTree}
use Rattle.tree_rows.specs.declared.name.Expanded.{Expanded}
use Rattle.xs_names.specs.Names.{NameTable}
use Rattle.xs_names.proofs.GrownLaws.{within-name_number}
use Rattle.schema_shape.specs.Shaped.{constructs_of}
use Rattle.schema_shape.specs.Shapes.{shapes}
use Rattle.schema_shape.specs.declared.forms.Form.TheVariants as forms
use Rattle.schema_shape.specs.declared.forms.Shape.{Shape}
use Rattle.schema_shape.specs.declared.forms.ShapedSchema.{ShapedSchema}
use Rattle.schema_set.specs.Documents.{available_of, available}
use Rattle.schema_set.specs.EffectiveSet.{own_target, InSet, first, included, imported, IsDocument, IsEffectiveSet}
use Rattle.schema_set.specs.declared.documents.Available.{Available}
use Rattle.schema_set.specs.declared.documents.SetDocument.{SetDocument}
use Rattle.schema_set.specs.declared.inputs.SchemaInput.{SchemaInput}
use Rattle.redefine_originals.specs.declared.versions.Redefinable.{Redefinable}
use Rattle.redefine_originals.specs.Versions.{declared_as}
use Rattle.redefine_originals.specs.Originals.{shapes_of, AreOriginals}
use Rattle.redefine_faults.specs.Redefinitions.{meant_space, IsBelow, is_self_reference}
use Rattle.representations.specs.Naming.{name_in, naming_of, referred_space, reference_number, space_text}
use Rattle.representations.specs.declared.naming.Naming.{Naming}
use Rattle.representations.specs.declared.parts.Representation.{Representation}
use Rattle.representations.specs.ElementForms.{represented}
use Rattle.representations.specs.Methods.{defaults_of}
use Rattle.set_representations.specs.Documents.{set_table}
use Rattle.redefine_names.specs.Components.{declared_by, declared_in, declared_at}
use Rattle.redefine_names.specs.VersionNames.{original_at}
use Rattle.redefine_names.specs.Redirections.{version_or, version_above, version_around}
use Rattle.redefine_names.specs.Redefined.{referred, redefined_by, IsSelfReference}
use Rattle.redefine_names.specs.declared.declared.Declared.{Declared}
use Rattle.schema_check.specs.SelfReferences.{RefersToItself}
use Rattle.schema_check.proofs.RedefineKindLaws.{IsSpace, refers}
use Rattle.schema_check.proofs.TreeLaws.{BeginsWithSchema, AreElements, elements-of, target-space}
use Rattle.schema_check.proofs.TableLaws.{HasName, name-later, number-is, name-at, one-name, in-set, reference-put, declaration-put}
use Rattle.schema_check.proofs.PlaceLaws.{Slot, slots, pair_of, stands, begin, represented-at, slot-of}
use Rattle.schema_check.proofs.RedefineFormLaws.{kind_of, kind-one, reference_of, declaration_of, refers-to, declares-it, not-declared, declared-plain, naming-target, space-meant, space-one, IsTo, self-from, self-to}
use Rattle.schema_check.proofs.AroundLaws.{at-contains, Encloses, reps, above-encloses}
use Rattle.schema_check.proofs.BelowLaws.{below-above}
use Rattle.schema_check.proofs.HiddenLaws.{IsPlain, ArePlain}
use Rattle.schema_check.proofs.OriginalLaws.{element-at, element-from, IsVersionOf, version-of, version-child}

-- ---- the documents of a set of documents' trees
module _ (inputs : List SchemaInput) (trees : All (λ (input : SchemaInput). IsTree input.tree) inputs) where
  -- what a document that there is declares is what its tree does
  input-of : (n : ℕ) (a : Available) → slice_get (available inputs) n ≡ Some a → (input : SchemaInput) × (slice_get inputs n ≡ Some input) × (available_of input ≡ a)
  input-of n a at = by (slice_get inputs n) refl (sym (slice_get-map available_of inputs n) ∙ at)
    where
      by : (o : Option SchemaInput) → slice_get inputs n ≡ o → option_map available_of o ≡ Some a → (input : SchemaInput) × (slice_get inputs n ≡ Some input) × (available_of input ≡ a)
      by None e is = absurd (none-some a is)
      by (Some input) e is = (input, e, same_Some (available_of input) a is)

  own-space : (n : ℕ) (a : Available) → slice_get (available inputs) n ≡ Some a → IsSpace (own_target a.shaped.shapes)
  own-space n a at = let from = input-of n a at in subst (λ (x : Available). IsSpace (own_target x.shaped.shapes)) from.2 (target-space (constructs_of from.0.tree.forest))

  in-space : (start number : ℕ) (target : Option (List ℕ)) → InSet (available inputs) start number target → IsSpace target
  in-space start _ _ (first a at) = own-space start a at
  in-space start _ _ (included document other target location within says is) = in-space start document target within
  in-space start _ _ (imported document n target location b within says is at) = own-space n b at

  module _ {start : ℕ} (set : List SetDocument) (is : IsEffectiveSet (available inputs) start set) where
    pub set-space : (i : ℕ) (d : SetDocument) → slice_get set i ≡ Some d → IsSpace d.target
    set-space i d at = in-space start d.number d.target (All-contains (λ (x : SetDocument). InSet (available inputs) start x.number x.target) set d is.only (at-contains set i d at))

    pub set-elements : (i : ℕ) (d : SetDocument) → slice_get set i ≡ Some d → AreElements (shapes_of d)
    set-elements i d at =
        let document = All-contains (IsDocument (available inputs)) set d is.there (at-contains set i d at) in
        let from = input-of document.0 document.1 document.3 in
        let tree = All-contains (λ (input : SchemaInput). IsTree input.tree) inputs from.0 trees (at-contains inputs document.0 from.0 from.1) in
        let own : shapes (constructs_of from.0.tree.forest) ≡ shapes_of d = ap (λ (a : Available). a.shaped.shapes) from.2 ∙ ap (λ (s : ShapedSchema). s.shapes) (sym document.4) in
        subst AreElements own (elements-of from.0.tree tree)

-- ---- both definitions
below-same : (d e : SetDocument) (x y s u : Shape) → d ≡ e → x ≡ y → s ≡ u → IsBelow (shapes_of d) x s → IsBelow (shapes_of e) y u
below-same d e x y s u document outer inner below = transport (λ i. IsBelow (shapes_of (document i)) (outer i) (inner i)) below

refers-same : (d e : SetDocument) (s u : Shape) (a b : Redefinable × List ℕ) → d ≡ e → s ≡ u → a ≡ b
    → is_self_reference (shapes_of d) d.target a.0 a.1 s.form ≡ true → is_self_reference (shapes_of e) e.target b.0 b.1 u.form ≡ true
refers-same d e s u a b document shape declared to =
    transport (λ i. is_self_reference (shapes_of (document i)) (document i).target (declared i).0 (declared i).1 (shape i).form ≡ true) to

module _ (base : NameTable) (sources : List Available) {start : ℕ} (set : List SetDocument) (originals : List (Option ℕ)) (are : AreOriginals sources set originals)
    (effective : IsEffectiveSet sources start set) (all : (i : ℕ) (d : SetDocument) → slice_get set i ≡ Some d → AreElements (shapes_of d))
    (space : (i : ℕ) (d : SetDocument) → slice_get set i ≡ Some d → IsSpace d.target)
  where
    abbrev pub t : NameTable
    t = set_table base set

    abbrev naming_at : Slot → Naming
    naming_at slot = naming_of slot.document.target (shapes_of slot.document)

    -- a document in which something is declared or referred to begins with a schema
    begins-with : (place : ℕ) (slot : Slot) → slice_get (slots 0 set) place ≡ Some slot → (slot.shape.form ≡ forms.Nothing → ⊥) → BeginsWithSchema (shapes_of slot.document)
    begins-with place slot at says =
        let own = stands 0 set place slot at in
        elim ((all own.i slot.document own.document).root) [
          | inl begins ↦ begins
          | inr nothing ↦ absurd (says (nothing own.m slot.shape own.shape))
        ]

    -- what is represented at a place
    rep-at : (place : ℕ) (slot : Slot) → slice_get (slots 0 set) place ≡ Some slot
        → (rep : Representation) × (slice_get (reps t set) place ≡ Some rep) × (rep.form ≡ represented t (naming_at slot) (defaults_of (shapes_of slot.document)) slot.shape.form)
    rep-at place slot at = let made = represented-at t 0 1 set place slot at in (made.0, made.1, made.2.form)

    -- the name of a declaration, and of a reference
    declared-name : (place : ℕ) (slot : Slot) → slice_get (slots 0 set) place ≡ Some slot → (of : Redefinable) (name : List ℕ) → declared_as slot.shape.form ≡ Some (of, name) → HasName slot.document.target name t
    declared-name place slot at of name declares =
        let own = stands 0 set place slot at in
        subst (λ (s : Option (List ℕ)). HasName s name t) (naming-target slot.document.target (shapes_of slot.document))
        (in-set (HasName (naming_at slot).target name) (λ u v grown has. name-later (naming_at slot).target name u v grown has) set own.i own.m slot.document slot.shape own.document own.shape
        (λ u. declaration-put (naming_at slot) slot.shape.form of name declares u) base)

    referred-name : (place : ℕ) (slot : Slot) → slice_get (slots 0 set) place ≡ Some slot → (of : Redefinable) (to : Expanded) → refers slot.shape.form ≡ Some (of, to) → HasName (referred_space (naming_at slot) to.namespace) to.local t
    referred-name place slot at of to is =
        let own = stands 0 set place slot at in
        let meant = referred_space (naming_at slot) to.namespace in
        in-set (HasName meant to.local) (λ u v grown has. name-later meant to.local u v grown has) set own.i own.m slot.document slot.shape own.document own.shape
        (λ u. reference-put (naming_at slot) slot.shape.form of to is u) base

    -- a reference in a document means the component of a name in its target namespace where both have one number
    module _ (place : ℕ) (slot : Slot) (at : slice_get (slots 0 set) place ≡ Some slot) (of : Redefinable) (to : Expanded) (is : refers slot.shape.form ≡ Some (of, to)) where
      meant-is : referred_space (naming_at slot) to.namespace ≡ meant_space (shapes_of slot.document) slot.document.target to.namespace
      meant-is =
          space-meant slot.document.target (shapes_of slot.document)
          (begins-with place slot at (λ nothing. none-some (of, to) (sym (ap refers nothing) ∙ is))) to.namespace

      meant-space : IsSpace (meant_space (shapes_of slot.document) slot.document.target to.namespace)
      meant-space =
          let own = stands 0 set place slot at in
          subst IsSpace meant-is
          (by to.namespace ((all own.i slot.document own.document).written own.m slot.shape of to own.shape is).space (naming_at slot) (naming-target slot.document.target (shapes_of slot.document))
          (space own.i slot.document own.document))
        where
          of-adopted : (adopts : Bool) (target : Option (List ℕ)) → IsSpace target → IsSpace (cond adopts target None)
          of-adopted true target is = is
          of-adopted false target is = tt

          by : (namespace : Option (List ℕ)) → IsSpace namespace → (naming : Naming) → naming.target ≡ slot.document.target → IsSpace slot.document.target → IsSpace (referred_space naming namespace)
          by (Some name) own naming same target = own
          by None own naming same target = of-adopted naming.adopts naming.target (subst IsSpace (sym same) target)

      module _ (name : List ℕ) (has : HasName slot.document.target name t) where
        pub same-names : reference_number t (naming_at slot) to ≡ name_in t slot.document.target name → (meant_space (shapes_of slot.document) slot.document.target to.namespace ≡ slot.document.target) × (to.local ≡ name)
        same-names same =
            let own = stands 0 set place slot at in
            let meant = referred_space (naming_at slot) to.namespace in
            let reference = referred-name place slot at of to is in
            let numbers : reference.number ≡ has.number = sym (number-is meant to.local t reference) ∙ (same ∙ number-is slot.document.target name t has) in
            let one = one-name t meant slot.document.target to.local name reference has numbers in (
              space-one (meant_space (shapes_of slot.document) slot.document.target to.namespace) slot.document.target meant-space (space own.i slot.document own.document)
                  (ap space_text (sym meant-is) ∙ one.0),
              one.1,
            )

      pub names-same : (name : List ℕ) → meant_space (shapes_of slot.document) slot.document.target to.namespace ≡ slot.document.target → to.local ≡ name
          → reference_number t (naming_at slot) to ≡ name_in t slot.document.target name
      names-same name meant local = ap (λ (s : Option (List ℕ)). name_in t s to.local) (meant-is ∙ meant) ∙ ap (name_in t slot.document.target) local

    -- the names of references can be written
    pub references-plain : ArePlain t (reps t set) originals
    references-plain place rep to at is = by (refers slot.shape.form) refl found
      where
        slot : Slot
        slot = (slot-of t 0 1 set place rep at).0

        there : slice_get (slots 0 set) place ≡ Some slot
        there = (slot-of t 0 1 set place rep at).1

        naming : Naming
        naming = naming_at slot

        found : option_map (reference_of t naming (defaults_of (shapes_of slot.document))) (refers slot.shape.form) ≡ Some to
        found =
            let made = rep-at place slot there in
            let same : made.0 ≡ rep = same_Some made.0 rep (sym made.1 ∙ at) in
            sym (refers-to t naming (defaults_of (shapes_of slot.document)) slot.shape.form) ∙ (ap referred (sym made.2) ∙ (ap (λ (r : Representation). referred r.form) same ∙ is))

        by : (o : Option (Redefinable × Expanded)) → refers slot.shape.form ≡ o → option_map (reference_of t naming (defaults_of (shapes_of slot.document))) o ≡ Some to → IsPlain t (reps t set) originals to.name
        by None e found = absurd (none-some to found)
        by (Some (of, name)) e found =
            let own = stands 0 set place slot there in
            let meant = referred_space naming name.namespace in
            let named = referred-name place slot there of name e in
            let number : to.name ≡ named.number =
            ap (λ (d : Declared). d.name) (sym (same_Some (reference_of t naming (defaults_of (shapes_of slot.document)) (of, name)) to found)) ∙ number-is meant name.local t named in
            record {
              ns = named.ns;
              local = name.local;
              at = ap (λ (n : ℕ). slice_get t.names n) number ∙ name-at meant name.local t named;
              plain = ((all own.i slot.document own.document).written own.m slot.shape of name own.shape e).local;
            }

    -- what a redefining component's original declares
    module _ (version original : ℕ) (has : original_at originals version ≡ Some original) where
      abbrev pub v : IsVersionOf sources set originals are all version original
      v = version-of sources set originals are all effective.there version original has

      abbrev pub declares_it : Declared
      declares_it = record { kind = kind_of v.of; name = name_in t v.slot.document.target v.name }

      pub own-declared : declared_at (reps t set) version ≡ Some declares_it
      own-declared =
          let made = rep-at version v.slot v.at in
          let naming = naming_at v.slot in
          let defaults = defaults_of (shapes_of v.slot.document) in
          ap declared_in made.1
          ∙ (ap declared_by made.2
          ∙ (declares-it t naming defaults v.slot.shape.form
          ∙ (ap (option_map (declaration_of t naming defaults)) v.declares
          ∙ ap (λ (s : Option (List ℕ)). Some (record { kind = kind_of v.of; name = name_in t s v.name })) (naming-target v.slot.document.target (shapes_of v.slot.document)))))

      pub original-declared : declared_at (reps t set) original ≡ Some declares_it
      original-declared =
          let made = rep-at original v.other v.there in
          let naming = naming_at v.other in
          let defaults = defaults_of (shapes_of v.other.document) in
          let target : naming.target ≡ v.slot.document.target = naming-target v.other.document.target (shapes_of v.other.document) ∙ v.target in
          ap declared_in made.1
          ∙ (ap declared_by made.2
          ∙ (declares-it t naming defaults v.other.shape.form
          ∙ (ap (option_map (declaration_of t naming defaults)) v.declared
          ∙ ap (λ (s : Option (List ℕ)). Some (record { kind = kind_of v.of; name = name_in t s v.name })) target)))

      redefined-is : redefined_by (reps t set) originals version ≡ Some declares_it
      redefined-is = ap (option_and_then (declared_at (reps t set))) has ∙ original-declared

      pub name-within : declares_it.name < length t.names
      name-within =
          let named = declared-name version v.slot v.at v.of v.name v.declares in
          let is = number-is v.slot.document.target v.name t named in
          let within = within-name_number t named.ns v.name named.number named.of_name in
          omega (arith, is, within)

      -- a reference of the kind, to the name by its number, is one to the component in its document
      refer : (place : ℕ) (slot : Slot) (at : slice_get (slots 0 set) place ≡ Some slot) → slot.document ≡ v.slot.document → (to : Redefinable × Expanded) → refers slot.shape.form ≡ Some to
          → reference_of t (naming_at slot) (defaults_of (shapes_of slot.document)) to ≡ declares_it → is_self_reference (shapes_of v.slot.document) v.slot.document.target v.of v.name slot.shape.form ≡ true
      refer place slot at document (of, to) is same =
          let kind : of ≡ v.of = kind-one of v.of (ap (λ (d : Declared). d.kind) same) in
          let has = subst (λ (d : SetDocument). HasName d.target v.name t) (sym document) (declared-name version v.slot v.at v.of v.name v.declares) in
          let number : reference_number t (naming_at slot) to ≡ name_in t slot.document.target v.name =
          ap (λ (d : Declared). d.name) same ∙ ap (λ (d : SetDocument). name_in t d.target v.name) (sym document) in
          let names = same-names place slot at of to is v.name has number in
          let means : IsTo (shapes_of slot.document) slot.document.target v.name of slot.shape.form = record { to = to; is = is; space = names.0; local = names.1 } in
          subst (λ (d : SetDocument). is_self_reference (shapes_of d) d.target v.of v.name slot.shape.form ≡ true) document
          (subst (λ (k : Redefinable). is_self_reference (shapes_of slot.document) slot.document.target k v.name slot.shape.form ≡ true) kind
          (self-to (shapes_of slot.document) slot.document.target v.name of slot.shape.form means))

      -- it is not the component itself that refers
      encloses : (place : ℕ) (slot : Slot) → slice_get (slots 0 set) place ≡ Some slot → (to : Redefinable × Expanded) → refers slot.shape.form ≡ Some to → version_around (reps t set) originals place ≡ Some version → Encloses set version place
      encloses place slot at to is within = by (original_at originals place) within
        where
          by : (o : Option ℕ) → version_or place o (version_above (reps t set) originals place place) ≡ Some version → Encloses set version place
          by None e = above-encloses t set originals place place version e
          by (Some other) e =
              let same : place ≡ version = same_Some place version e in
              let slots_same : slot ≡ v.slot = same_Some slot v.slot (sym at ∙ (ap (λ (p : ℕ). slice_get (slots 0 set) p) same ∙ v.at)) in
              absurd (not-declared slot.shape.form to (v.of, v.name) is (ap (λ (x : Slot). declared_as x.shape.form) slots_same ∙ v.declares))

      pub to-elements : (place : ℕ) → IsSelfReference (reps t set) originals version place → RefersToItself set version place
      to-elements place is =
          let from = slot-of t 0 1 set place is.rep is.there in
          let slot = from.0 in
          let at = from.1 in
          let made = rep-at place slot at in
          let rep : made.0 ≡ is.rep = same_Some made.0 is.rep (sym made.1 ∙ is.there) in
          let naming = naming_at slot in
          let defaults = defaults_of (shapes_of slot.document) in
          let to : option_map (reference_of t naming defaults) (refers slot.shape.form) ≡ Some is.to =
          sym (refers-to t naming defaults slot.shape.form) ∙ (ap referred (sym made.2) ∙ (ap (λ (r : Representation). referred r.form) rep ∙ is.refers)) in
          by slot at (refers slot.shape.form) refl to
        where
          declared : is.to ≡ declares_it
          declared = same_Some is.to declares_it (sym is.original ∙ redefined-is)

          by : (slot : Slot) → slice_get (slots 0 set) place ≡ Some slot → (o : Option (Redefinable × Expanded)) → refers slot.shape.form ≡ o
              → option_map (reference_of t (naming_at slot) (defaults_of (shapes_of slot.document))) o ≡ Some is.to → RefersToItself set version place
          by slot at None e to = absurd (none-some is.to to)
          by slot at (Some found) e to =
              let same = same_Some (reference_of t (naming_at slot) (defaults_of (shapes_of slot.document)) found) is.to to ∙ declared in
              let around = encloses place slot at found e is.within in
              let one : around.both.one ≡ v.slot = same_Some around.both.one v.slot (sym around.both.at ∙ v.at) in
              let other : around.both.other ≡ slot = same_Some around.both.other slot (sym around.both.there ∙ at) in
              let document : slot.document ≡ v.slot.document = ap (λ (x : Slot). x.document) (sym other) ∙ (around.both.document ∙ ap (λ (x : Slot). x.document) one) in
              let child = version-child sources set originals are all effective.there version original has v.slot v.at in
              let below = subst (λ (x : Slot). IsBelow (shapes_of v.slot.document) v.slot.shape x.shape) other (subst (λ (x : Slot). IsBelow (shapes_of x.document) x.shape around.both.other.shape) one around.below) in
              record {
                document = v.slot.document;
                child = child.0;
                reference = slot.shape;
                of = v.of;
                name = v.name;
                redefines = child.1;
                declares = ap (λ (s : Shape). declared_as s.form) child.2 ∙ v.declares;
                at = element-at sources set originals are all version v.slot v.at ∙ ap (λ (s : Shape). Some (v.slot.document, s)) (sym child.2);
                there = element-at sources set originals are all place slot at ∙ ap (λ (d : SetDocument). Some (d, slot.shape)) document;
                refers = record { below = subst (λ (s : Shape). IsBelow (shapes_of v.slot.document) s slot.shape) (sym child.2) below; to = refer place slot at document found e same };
              }

      -- the element at a place refers to the component that it is below
      record IsReference (place : ℕ) : Type 0 where
        slot : Slot
        at : slice_get (slots 0 set) place ≡ Some slot
        document : slot.document ≡ v.slot.document
        below : IsBelow (shapes_of v.slot.document) v.slot.shape slot.shape
        to : is_self_reference (shapes_of slot.document) slot.document.target v.of v.name slot.shape.form ≡ true

      reference-from : (place : ℕ) → RefersToItself set version place → IsReference place
      reference-from place is =
          let outer = element-from sources set originals are all version is.document is.child.shape is.at in
          let inner = element-from sources set originals are all place is.document is.reference is.there in
          let one : outer.0 ≡ v.slot = same_Some outer.0 v.slot (sym outer.1 ∙ v.at) in
          let pair : pair_of v.slot ≡ (is.document, is.child.shape) = ap pair_of (sym one) ∙ outer.2 in
          let own : is.document ≡ v.slot.document = ap (λ (p : SetDocument × Shape). p.0) (sym pair) in
          let child : is.child.shape ≡ v.slot.shape = ap (λ (p : SetDocument × Shape). p.1) (sym pair) in
          let its : is.document ≡ inner.0.document = ap (λ (p : SetDocument × Shape). p.0) (sym inner.2) in
          let shape : is.reference ≡ inner.0.shape = ap (λ (p : SetDocument × Shape). p.1) (sym inner.2) in
          let declared : (is.of, is.name) ≡ (v.of, v.name) = same_Some (is.of, is.name) (v.of, v.name) (sym is.declares ∙ (ap (λ (x : Shape). declared_as x.form) child ∙ v.declares)) in
          record {
            slot = inner.0;
            at = inner.1;
            document = sym its ∙ own;
            below = below-same is.document v.slot.document is.child.shape v.slot.shape is.reference inner.0.shape own child shape is.refers.below;
            to = refers-same is.document inner.0.document is.reference inner.0.shape (is.of, is.name) (v.of, v.name) its shape declared is.refers.to;
          }

      same-start : (place : ℕ) (slot : Slot) → slice_get (slots 0 set) place ≡ Some slot → slot.document ≡ v.slot.document → slot.start ≡ v.slot.start
      same-start place slot at document =
          let here = stands 0 set version v.slot v.at in
          let there = stands 0 set place slot at in
          let index : there.i ≡ here.i =
          effective.once there.i here.i slot.document v.slot.document there.document here.document (ap (λ (d : SetDocument). d.number) document) (ap (λ (d : SetDocument). d.target) document) in
          there.begins ∙ (ap (λ (i : ℕ). begin 0 i set) index ∙ sym here.begins)

      -- its representation refers to what the original declares
      represented-refers : (place : ℕ) (slot : Slot) (at : slice_get (slots 0 set) place ≡ Some slot) → slot.document ≡ v.slot.document → IsTo (shapes_of slot.document) slot.document.target v.name v.of slot.shape.form
          → (rep : Representation) → rep.form ≡ represented t (naming_at slot) (defaults_of (shapes_of slot.document)) slot.shape.form → referred rep.form ≡ Some declares_it
      represented-refers place slot at document means rep made =
          let naming = naming_at slot in
          let defaults = defaults_of (shapes_of slot.document) in
          let number : reference_number t naming means.to ≡ name_in t v.slot.document.target v.name =
          names-same place slot at v.of means.to means.is v.name means.space means.local ∙ ap (λ (d : SetDocument). name_in t d.target v.name) document in
          let same : reference_of t naming defaults (v.of, means.to) ≡ declares_it = ap (λ (n : ℕ). record { kind = kind_of v.of; name = n }) number in
          let form : referred rep.form ≡ option_map (reference_of t naming defaults) (refers slot.shape.form) = ap referred made ∙ refers-to t naming defaults slot.shape.form in
          form ∙ (ap (option_map (reference_of t naming defaults)) means.is ∙ ap (λ (d : Declared). Some d) same)

      pub from-elements : (place : ℕ) → RefersToItself set version place → IsSelfReference (reps t set) originals version place
      from-elements place is =
          let r = reference-from place is in
          let within =
          below-above t sources set originals are all version original v.slot v.at has (declared-plain v.slot.shape.form (v.of, v.name) v.declares) r.slot.shape r.below place r.slot r.at
          (same-start place r.slot r.at r.document) r.document refl in
          let made = rep-at place r.slot r.at in
          let means = self-from (shapes_of r.slot.document) r.slot.document.target v.name v.of r.slot.shape.form r.to in
          record {
            rep = made.0;
            to = declares_it;
            there = made.1;
            within = ap (λ (o : Option ℕ). version_or place o (version_above (reps t set) originals place place)) within.none ∙ within.above;
            refers = represented-refers place r.slot r.at r.document means made.0 made.2;
            original = redefined-is;
          }
