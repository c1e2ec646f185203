-- One element more of a document is read.
use Rattle.std.proofs.Common.{◌≡◌, ℕ, suc, ◌+◌, ◌<◌, List, [], ◌∷◌, ◌++◌, Option, Some, None, length, take, drop, get_or, refl, sym, ap, subst, ◌∙◌, arith, length-append}
use Rattle.std.specs.Prelude.{All, reverse, slice_get}
use Rattle.std.specs.Option.{unwrap_or}
use Rattle.std.proofs.Math.Seq.{append_snoc}
use Rattle.std.proofs.lemmas.List.{append_assoc, append-nil, reverse-append, take_more, drop_more}
use Rattle.std.proofs.lemmas.List.Elements.{All-push, All-weaker}
use Rattle.xs_names.specs.Names.{NameTable, Grown}
use Rattle.xs_names.proofs.GrownLaws.{Grown-trans}
use Rattle.xs_names.specs.Scope.{first_scope}
use Rattle.schema_shape.specs.declared.forms.Form.{Form}
use Rattle.schema_shape.specs.declared.forms.Form.TheVariants as shapes
use Rattle.schema_shape.specs.declared.forms.Shape.{Shape}
use Rattle.schema_set.specs.declared.documents.SetDocument.{SetDocument}
use Rattle.representations.specs.Naming.{naming_of}
use Rattle.representations.specs.declared.parts.Representation.{Representation}
use Rattle.representations.specs.Named.{names_of, AreIn, AreNamed}
use Rattle.representations.specs.Lasting.{IsLasting}
use Rattle.representations.specs.Methods.{defaults_of}
use Rattle.representations.specs.Wildcards.{KnowsTarget}
use Rattle.representations.proofs.LastingLaws.{in-Grown}
use Rattle.set_representations.specs.Members.{places_of, all_members}
use Rattle.set_representations.specs.Documents.{representation, representations_from, document_representations, import_of, imports_of, shapes_of}
use Rattle.set_representations.specs.declared.reader.Reader.{Reader}
use Rattle.set_representations.specs.inside.Building.{found, IsOpened, IsRead}

pub named-Grown : (t u : NameTable) (reps : List Representation) → Grown t u → AreNamed t reps → AreNamed u reps
named-Grown t u reps g = All-weaker (λ rep. AreIn t (names_of rep.form)) (λ rep. AreIn u (names_of rep.form)) (λ rep. in-Grown t u (names_of rep.form) g) reps

module _ (t u : NameTable) (base : List (List (List ℕ × ℕ))) (whole : NameTable → List Representation) (imported : NameTable → List ℕ)
    (before left : List Shape) (shape : Shape) (old new : Reader) (reps : List Representation) (rep : Representation)
    (scopes later_scopes : List (List (List ℕ × ℕ))) where
  pub read-step : IsRead t base whole imported before (shape ∷ left) old reps scopes → Grown t u → IsOpened u base (shape ∷ before) new.opened later_scopes
      → new.reading ≡ old.reading → new.number ≡ old.number
      → new.members ≡ reverse (all_members (length reps + 1) left)
      → IsLasting u (λ l. old.imports ++ import_of l shape.form) new.imports
      → IsLasting u (λ l. representation l old.reading.naming old.reading.defaults old.number (length base) before (length reps) shape left) rep
      → AreIn u (names_of rep.form)
      → IsRead u base whole imported (shape ∷ before) left new (reps ++ rep ∷ []) later_scopes
  read-step is g opened reading number members imports made named =
      let long : length (reps ++ rep ∷ []) ≡ length reps + 1 = length-append reps (rep ∷ []) in
      record {
        target = subst (λ r. KnowsTarget u r) (sym reading) (λ later h. is.target later (Grown-trans t u later g h));
        opened = opened;
        members = members ∙ ap (λ n. reverse (all_members n left)) (sym long);
        made = λ later h.
            let rest = representations_from later old.reading.naming old.reading.defaults old.number (length base) (shape ∷ before) (length reps + 1) left in
            (λ j. (reps ++ rep ∷ []) ++ representations_from later (reading j).naming (reading j).defaults (number j) (length base) (shape ∷ before) (long j) left)
            ∙ append_snoc reps rep rest
            ∙ ap (λ (r : Representation). reps ++ r ∷ rest) (made later h)
            ∙ is.made later (Grown-trans t u later g h);
        imports = λ later h.
            ap (λ (xs : List ℕ). xs ++ imports_of later left) (imports later h)
            ∙ append_assoc old.imports (import_of later shape.form) (imports_of later left)
            ∙ is.imports later (Grown-trans t u later g h);
        named = All-push (λ r. AreIn u (names_of r.form)) reps rep (named-Grown t u reps g is.named) named;
      }

-- the members of the next element, and those that are to come
pub next-members : (place : ℕ) (shape : Shape) (left : List Shape)
    → reverse (all_members place (shape ∷ left)) ≡ reverse (all_members (place + 1) left) ++ places_of (place + 1) left shape.members ∷ []
next-members place shape left = reverse-append (places_of (place + 1) left shape.members ∷ []) (all_members (place + 1) left)

-- the elements that are read, and those that are left, with one read more
module _ {X : Type 0} (xs : List X) (i : ℕ) (x : X) (b : i < length xs) (at : x ≡ get_or xs i x) where
  pub left-one : drop i xs ≡ x ∷ drop (i + 1) xs
  left-one = drop_more xs i x b ∙ ap (λ y. y ∷ drop (i + 1) xs) (sym at)

  pub before-one : x ∷ reverse (take i xs) ≡ reverse (take (i + 1) xs)
  before-one = ap (λ y. y ∷ reverse (take i xs)) at ∙ sym (ap reverse (take_more xs i x b) ∙ reverse-append (take i xs) (get_or xs i x ∷ []))

-- a document before its first element
module _ (t : NameTable) (d : SetDocument) (reader : Reader) (reps : List Representation) (scopes : List (List (List ℕ × ℕ))) where
  pub start-read : KnowsTarget t reader.reading → reader.reading.naming ≡ naming_of d.target (shapes_of d) → reader.reading.defaults ≡ defaults_of (shapes_of d)
      → reader.number ≡ d.number → ((item : ℕ) → found reader.opened item ≡ None) → reader.imports ≡ []
      → reader.members ≡ reverse (all_members (length reps) (shapes_of d)) → slice_get scopes 0 ≡ Some first_scope → AreNamed t reps
      → IsRead t scopes (λ later. reps ++ document_representations later (length reps) (length scopes) d) (λ later. imports_of later (shapes_of d)) [] (shapes_of d) reader reps scopes
  start-read target naming defaults number none no_imports members begins named = record {
    target = target;
    opened = record {
      begins = begins;
      places = λ item. ap (λ (o : Option ℕ). unwrap_or o 0) (none item);
      all = λ later g. sym (append-nil scopes);
    };
    members = members;
    made = λ later g j. reps ++ representations_from later (naming j) (defaults j) (number j) (length scopes) [] (length reps) (shapes_of d);
    imports = λ later g j. no_imports j ++ imports_of later (shapes_of d);
    named = named;
  }

-- a document behind its last element
module _ (u : NameTable) (base : List (List (List ℕ × ℕ))) (whole : NameTable → List Representation) (imported : NameTable → List ℕ) (before : List Shape)
    (reader : Reader) (reps : List Representation) (scopes : List (List (List ℕ × ℕ))) (is : IsRead u base whole imported before [] reader reps scopes) where
  pub whole-reps : IsLasting u whole reps
  whole-reps = λ later g. sym (append-nil reps) ∙ is.made later g

  pub whole-imports : IsLasting u imported reader.imports
  whole-imports = λ later g. sym (append-nil reader.imports) ∙ is.imports later g

-- a form that is no import names no namespace
pub no-import : (t : NameTable) (form : Form) → ((namespace location : Option (List ℕ)) → ¬ (form ≡ shapes.Import namespace location)) → import_of t form ≡ []
no-import t (shapes.Import namespace location) = λ no. absurd (no namespace location refl)
no-import t (shapes.Element e) = λ no. refl
no-import t (shapes.Attribute e) = λ no. refl
no-import t (shapes.ComplexType e) = λ no. refl
no-import t (shapes.SimpleType name finals) = λ no. refl
no-import t (shapes.Group name) = λ no. refl
no-import t (shapes.AttributeGroup name) = λ no. refl
no-import t (shapes.Identity kind name refer) = λ no. refl
no-import t (shapes.Derivation by_extension base) = λ no. refl
no-import t (shapes.GroupReference to occurs) = λ no. refl
no-import t (shapes.AttributeGroupReference to) = λ no. refl
no-import t (shapes.Any wildcard occurs) = λ no. refl
no-import t (shapes.AnyAttribute wildcard) = λ no. refl
no-import t (shapes.Restriction base) = λ no. refl
no-import t (shapes.ItemType o) = λ no. refl
no-import t (shapes.Union members) = λ no. refl
no-import t (shapes.Schema schema) = λ no. refl
no-import t (shapes.Include location) = λ no. refl
no-import t (shapes.Redefine location) = λ no. refl
no-import t (shapes.Selector path) = λ no. refl
no-import t (shapes.Field path) = λ no. refl
no-import t shapes.SimpleContent = λ no. refl
no-import t (shapes.ComplexContent mixed) = λ no. refl
no-import t (shapes.ModelGroup compositor occurs) = λ no. refl
no-import t (shapes.Facet kind text fixed) = λ no. refl
no-import t shapes.Nothing = λ no. refl
