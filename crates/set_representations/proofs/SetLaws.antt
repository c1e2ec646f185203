-- One document more of a set is read.
use Rattle.std.proofs.Common.{◌≡◌, ℕ, zero, suc, ◌+◌, ◌≤◌, List, [], ◌∷◌, ◌++◌, length, drop, refl, sym, ap, ◌∙◌, arith, length-append}
use Rattle.std.specs.Prelude.{Some, reverse, slice_get}
use Rattle.std.specs.List.{flat_map}
use Rattle.std.proofs.Math.Seq.{append_snoc}
use Rattle.std.proofs.lemmas.List.{append_assoc}
use Rattle.xs_names.specs.Names.{NameTable}
use Rattle.schema_set.specs.declared.documents.SetDocument.{SetDocument}
use Rattle.representations.specs.Naming.{naming_of}
use Rattle.representations.specs.declared.parts.Representation.{Representation}
use Rattle.representations.specs.declared.origins.Origin.{Origin}
use Rattle.representations.specs.Methods.{defaults_of}
use Rattle.set_representations.specs.Scopes.{openings}
use Rattle.set_representations.specs.Documents.{document_representations, document_scopes, origin_of, origins_of, representations_of, shapes_of}
use Rattle.set_representations.proofs.BehindLaws.{length-representations_from}
use Rattle.set_representations.proofs.ScopeLaws.{length-scopes_in}

module _ (t : NameTable) (d : SetDocument) (ds : List SetDocument) where
  module _ (reps more : List Representation) (first : ℕ) where
    long-reps : more ≡ reps ++ document_representations t (length reps) first d → length more ≡ length reps + length (shapes_of d)
    long-reps is =
        let shapes = shapes_of d in
        ap length is ∙ length-append reps (document_representations t (length reps) first d)
        ∙ ap (λ n. length reps + n) (length-representations_from t (naming_of d.target shapes) (defaults_of shapes) d.number first [] (length reps) shapes)

    pub reps-step : (scopes later : List (List (List ℕ × ℕ))) (all : List Representation) → length scopes ≡ first
        → more ≡ reps ++ document_representations t (length reps) first d → later ≡ scopes ++ document_scopes t d
        → reps ++ representations_of t (length reps) first (d ∷ ds) ≡ all → more ++ representations_of t (length more) (length later) ds ≡ all
    reps-step scopes later all count is opened whole =
        let long : length later ≡ first + openings (reverse (shapes_of d)) =
        ap length opened ∙ length-append scopes (document_scopes t d) ∙ (λ j. count j + length-scopes_in t (reverse (shapes_of d)) j) in
        (λ j. is j ++ representations_of t (long-reps is j) (long j) ds)
        ∙ append_assoc reps (document_representations t (length reps) first d)
        (representations_of t (length reps + length (shapes_of d)) (first + openings (reverse (shapes_of d))) ds)
        ∙ whole

    pub origins-step : (origins later all : List Origin) → more ≡ reps ++ document_representations t (length reps) first d
        → later ≡ origins ++ origin_of t (length reps) d ∷ [] → origins ++ origins_of t (length reps) (d ∷ ds) ≡ all
        → later ++ origins_of t (length more) ds ≡ all
    origins-step origins later all is last whole =
        (λ j. last j ++ origins_of t (long-reps is j) ds)
        ∙ append_snoc origins (origin_of t (length reps) d) (origins_of t (length reps + length (shapes_of d)) ds)
        ∙ whole

  pub scopes-step : (scopes later all : List (List (List ℕ × ℕ))) → later ≡ scopes ++ document_scopes t d
      → scopes ++ flat_map (document_scopes t) (d ∷ ds) ≡ all → later ++ flat_map (document_scopes t) ds ≡ all
  scopes-step scopes later all is whole =
      ap (λ (xs : List (List (List ℕ × ℕ))). xs ++ flat_map (document_scopes t) ds) is ∙ append_assoc scopes (document_scopes t d) (flat_map (document_scopes t) ds) ∙ whole

pub first-stays : {X : Type 0} (xs ys : List X) (x : X) → slice_get xs 0 ≡ Some x → slice_get (xs ++ ys) 0 ≡ Some x
first-stays [] ys x e = absurd (cc)
first-stays (z ∷ xs) ys x e = e

-- nothing is left of a list at its end
pub drop-done : {X : Type 0} (xs : List X) (i : ℕ) → length xs ≤ i → drop i xs ≡ []
drop-done [] zero l = refl
drop-done [] (suc i) l = refl
drop-done (x ∷ xs) zero l = absurd (omega arith)
drop-done (x ∷ xs) (suc i) l = drop-done xs i (omega arith)
