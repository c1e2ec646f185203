-- The representations of documents of the right shape.
use Rattle.std.proofs.Common.{◌≡◌, ℕ, zero, suc, ◌+◌, List, [], ◌∷◌, ◌++◌, Option, None, Some, Result, Ok, All, length, reverse, slice_get, refl, sym, ap, subst, ◌∙◌, append-nil, arith}
use Rattle.std.proofs.lemmas.List.Elements.{All-head, All-tail}
use Rattle.std.proofs.lemmas.Option.{none-some, same_Some}
use Rattle.tag_names.specs.Scopes.{first_scope}
use Rattle.xs_codes.specs.declared.fault.Fault.{Fault}
use Rattle.xs_names.specs.Names.{NameTable}
use Rattle.schema_values.specs.declared.grammar_kinds.Kind.TheVariants as k
use Rattle.schema_faults.specs.Constructs.{Construct}
use Rattle.schema_faults.specs.Faults.{least_fault}
use Rattle.schema_faults.specs.declared.broken.Broken.{Broken}
use Rattle.schema_shape.specs.Shapes.{shapes}
use Rattle.schema_shape.specs.Shaped.{constructs_of, answer, fault_at}
use Rattle.schema_shape.specs.declared.forms.Shape.{Shape}
use Rattle.schema_shape.specs.declared.forms.ShapedSchema.{ShapedSchema}
use Rattle.schema_set.specs.declared.documents.SetDocument.{SetDocument}
use Rattle.representations.specs.declared.naming.Naming.{Naming}
use Rattle.representations.specs.Naming.{naming_of}
use Rattle.representations.specs.declared.parts.Representation.{Representation}
use Rattle.representations.specs.declared.defaults.Defaults.{Defaults}
use Rattle.representations.specs.ElementForms.{represented}
use Rattle.representations.specs.Methods.{defaults_of}
use Rattle.set_representations.specs.Documents.{representation, representations_from, document_representations, representations_of, representations, shapes_of}
use Rattle.set_representations.specs.Members.{places_of}
use Rattle.set_representations.specs.Scopes.{openings}
use Rattle.schema_check.specs.Shaped.{IsShaped, AreShaped}
use Rattle.schema_check.specs.OfTree.{IsOfTree}
use Rattle.schema_check.proofs.SoundLaws.{all-sound}
use Rattle.schema_check.proofs.WalkLaws.{EachBehind, IsWalked, walked}
use Rattle.schema_check.proofs.LaidLaws.{AreLaid, laid-tail}
use Rattle.schema_check.proofs.ShapeLaws.{element-shaped}

-- a document that is of a tree is walked whole
answered : (number : ℕ) (es : List Construct) (broken : Option Broken) (schema : ShapedSchema) → answer (record { shapes = shapes es }) (fault_at number broken) ≡ Ok schema
    → (broken ≡ None) × (schema.shapes ≡ shapes es)
answered number es None schema is =
    (refl, sym (ap (λ (s : ShapedSchema). s.shapes) (ok-same (record { shapes = shapes es }) schema is)))
  where
    ok-same : (one other : ShapedSchema) → ◌≡◌ {A = Result ShapedSchema Fault} (Ok one) (Ok other) → one ≡ other
    ok-same one other e = cc
answered number es (Some broken) schema is = absurd (cc)

document-walked : (d : SetDocument) → IsOfTree d → EachBehind IsWalked (shapes_of d)
document-walked d of =
    let tree = of.1.forest in
    let es = constructs_of tree in
    let parts = answered of.0 es (least_fault es) d.shaped.now of.3 in
    let all = walked tree k.Document 0 first_scope [] of.2.differ (λ key there. refl) (all-sound es parts.0) tt in
    subst (EachBehind IsWalked) (append-nil (shapes es) ∙ sym parts.1) all

module _ (t : NameTable) (reps : List Representation) where
  module _ (naming : Naming) (defaults : Defaults) (document first : ℕ) where
    -- these stand from a place on
    abbrev Stand : ℕ → List Representation → Type 0
    Stand place some = (n : ℕ) (rep : Representation) → slice_get some n ≡ Some rep → slice_get reps (place + n) ≡ Some rep

    from-laid : (before : List Shape) (place start : ℕ) (list : List Shape) → Stand start (representations_from t naming defaults document first before place list) → AreLaid t naming defaults reps start list
    from-laid before place start [] stand n shape at = absurd (none-some shape at)
    from-laid before place start (s ∷ list) stand zero shape at =
        let same = same_Some s shape at in (
          representation t naming defaults document first before place s list,
          stand zero (representation t naming defaults document first before place s list) refl,
          ap (λ (x : Shape). represented t naming defaults x.form) same,
        )
    from-laid before place start (s ∷ list) stand (suc n) shape at =
        let rest = from-laid (s ∷ before) (place + 1) (start + 1) list
        (λ m rep is. let on : start + suc m ≡ start + 1 + m = omega arith in ap (λ (p : ℕ). slice_get reps p) (sym on) ∙ stand (suc m) rep is) n shape at in
        let on : start + 1 + n ≡ start + suc n = omega arith in
        (rest.0, ap (λ (p : ℕ). slice_get reps p) (sym on) ∙ rest.1, rest.2)

    document-shaped : (before : List Shape) (place : ℕ) (list : List Shape) → EachBehind IsWalked list → AreLaid t naming defaults reps place list
        → (n : ℕ) (rep : Representation) → slice_get (representations_from t naming defaults document first before place list) n ≡ Some rep → IsShaped reps rep.members rep.form
    document-shaped before place [] each laid n rep at = absurd (none-some rep at)
    document-shaped before place (s ∷ list) each laid zero rep at =
        let own = representation t naming defaults document first before place s list in
        let e = each.0.0 in
        subst (λ (r : Representation). IsShaped reps r.members r.form) (same_Some own rep at)
        (subst (λ (x : Shape). IsShaped reps (places_of (place + 1) list x.members) (represented t naming defaults x.form)) (sym each.0.1)
        (element-shaped t naming defaults reps (place + 1) list (laid-tail t naming defaults reps place s list laid) e each.0.2 each.0.3))
    document-shaped before place (s ∷ list) each laid (suc n) rep at =
        document-shaped (s ∷ before) (place + 1) list each.1 (laid-tail t naming defaults reps place s list laid) n rep at

  -- what is so of each of two lists is so of both together
  both : (P : Representation → Type 0) (xs ys : List Representation) → ((n : ℕ) (rep : Representation) → slice_get xs n ≡ Some rep → P rep) → ((n : ℕ) (rep : Representation) → slice_get ys n ≡ Some rep → P rep)
      → (n : ℕ) (rep : Representation) → slice_get (xs ++ ys) n ≡ Some rep → P rep
  both P [] ys one other n rep at = other n rep at
  both P (x ∷ xs) ys one other zero rep at = one zero rep at
  both P (x ∷ xs) ys one other (suc n) rep at = both P xs ys (λ m r is. one (suc m) r is) other n rep at

  front-stands : (xs ys : List Representation) (n : ℕ) (rep : Representation) → slice_get xs n ≡ Some rep → slice_get (xs ++ ys) n ≡ Some rep
  front-stands [] ys n rep at = absurd (none-some rep at)
  front-stands (x ∷ xs) ys zero rep at = at
  front-stands (x ∷ xs) ys (suc n) rep at = front-stands xs ys n rep at

  back-stands : (xs ys : List Representation) (n : ℕ) → slice_get (xs ++ ys) (length xs + n) ≡ slice_get ys n
  back-stands [] ys n = let same : 0 + n ≡ n = omega arith in ap (λ (m : ℕ). slice_get ys m) same
  back-stands (x ∷ xs) ys n =
      let same : suc (length xs) + n ≡ suc (length xs + n) = omega arith in
      ap (λ (m : ℕ). slice_get (x ∷ (xs ++ ys)) m) same ∙ back-stands xs ys n

  length-from : (naming : Naming) (defaults : Defaults) (document first : ℕ) (before : List Shape) (place : ℕ) (list : List Shape)
      → length (representations_from t naming defaults document first before place list) ≡ length list
  length-from naming defaults document first before place [] = refl
  length-from naming defaults document first before place (s ∷ list) = ap suc (length-from naming defaults document first (s ∷ before) (place + 1) list)

  set-shaped : (place first : ℕ) (ds : List SetDocument) → All IsOfTree ds → ((n : ℕ) (rep : Representation) → slice_get (representations_of t place first ds) n ≡ Some rep → slice_get reps (place + n) ≡ Some rep)
      → (n : ℕ) (rep : Representation) → slice_get (representations_of t place first ds) n ≡ Some rep → IsShaped reps rep.members rep.form
  set-shaped place first [] of stand n rep at = absurd (none-some rep at)
  set-shaped place first (d ∷ ds) of stand n rep at =
      let list = shapes_of d in
      let naming = naming_of d.target list in
      let defaults = defaults_of list in
      let own = document_representations t place first d in
      let later = place + length list in
      let next = first + openings (reverse list) in
      let more = representations_of t later next ds in
      let many : length own ≡ length list = length-from naming defaults d.number first [] place list in
      let laid = from-laid naming defaults d.number first [] place place list (λ m r is. stand m r (front-stands own more m r is)) in
      let here = document-shaped naming defaults d.number first [] place list (document-walked d (All-head IsOfTree d ds of)) laid in
      let there = set-shaped later next ds (All-tail IsOfTree d ds of)
      (λ m r is.
      let on : place + (length own + m) ≡ place + length list + m = omega (arith, many) in
      ap (λ (p : ℕ). slice_get reps p) (sym on) ∙ stand (length own + m) r (back-stands own more m ∙ is)) in
      both (λ (r : Representation). IsShaped reps r.members r.form) own more here there n rep at

pub all-shaped : (t : NameTable) (ds : List SetDocument) → All IsOfTree ds → AreShaped (representations t ds)
all-shaped t ds of =
    set-shaped t (representations t ds) 0 1 ds of (λ n rep at. let same : n ≡ 0 + n = omega arith in ap (λ (p : ℕ). slice_get (representations t ds) p) (sym same) ∙ at)
