-- The entries of a document with the codes of its identity constraints and IDs.
use Rattle.std.proofs.Common.{◌≡◌, ℕ, ◌+◌, ◌<◌, ◌≤◌, ◌==◌, Bool, if◌then◌else◌, List, [], ◌∷◌, ◌++◌, length, map, take, get_or, refl, sym, ap, ◌∙◌, arith, append_assoc, append-nil}
use Rattle.std.specs.List.{flat_map}
use Rattle.std.proofs.lemmas.List.{map-append, take_more}
use Rattle.std.proofs.lemmas.Grind.{flat_map-append}
use Rattle.tree_rows.specs.Forest.{Forest, Document}
use Rattle.tree_rows.specs.Whole.{IsTree}
use Rattle.xs_codes.specs.declared.fault.Found.{Found}
use Rattle.assess_records.specs.declared.outcome.Validity.{Validity}
use Rattle.assess_records.specs.declared.record.ElementRecord.{ElementRecord}
use Rattle.identity_tables.specs.Ids.{BorneAtom, borne_in, borne_in_all, id_codes}
use Rattle.xpath_subset.specs.declared.paths.IdentityPaths.{IdentityPaths}
use Rattle.identity_constraints.specs.Satisfied.{identity_at}
use Rattle.assessment.specs.Attribution.{SchemaSet}
use Rattle.assessment.specs.Assessment.{Entry, Assessed, nothing, entry, entries, IsAssessment}
use Rattle.assessment.specs.Plain.{plain_beside}
use Rattle.assessment.specs.Bearings.{Bearing, bearings_below, bearings, borne_of, borne_values}
use Rattle.assessment.specs.Joined.{is_root, marked, marked_entry, marked_record}
use Rattle.elem_assess.specs.Marked.{validity_with}
use Rattle.what_is_found.specs.Identity.{seen, has_invalid, validity_again, with_more, with_all, beside_of, with_codes}
use Rattle.tree_assess.specs.Entries.{Placed, placed_below, all_placed, placed_of, entry_of, ArePlain}
use Rattle.tree_assess.specs.declared.entry.ElementEntry.{ElementEntry}
use Rattle.forest_keys.specs.Entries.{AreEntries}
use Rattle.forest_keys.specs.inside.Parsed.{Sized, sized_of, flat}
use Rattle.forest_keys.specs.inside.Coded.{coded}
use Rattle.forest_keys.specs.inside.Marking.{bearing_of, codes_in, with_marks}
use Rattle.forest_keys.proofs.Coding.{coded_all}
use Rattle.forest_keys.proofs.Agreeing.{found_times, found_once, root_of, IsRootOf, at_agrees, all_same, at-own, none-of}

-- ---- what is known of entries where they stand

abbrev sized_in : Placed → Sized
sized_in p = record { below = p.below; own = p.own }

abbrev bearing_in : Placed → Bearing
bearing_in p = record { bearer = p.bearer; own = p.own }

sized-all : (es : List ElementEntry) → map sized_in (map placed_of es) ≡ map sized_of es
sized-all [] = refl
sized-all (e ∷ es) = ap (λ more. sized_of e ∷ more) (sized-all es)

bearing-all : (es : List ElementEntry) → map bearing_in (map placed_of es) ≡ map bearing_of es
bearing-all [] = refl
bearing-all (e ∷ es) = ap (λ more. bearing_of e ∷ more) (bearing-all es)

sized-below : (parent : ℕ) (found : Assessed) → map sized_in (placed_below parent found) ≡ flat found
sized-below parent nothing = refl
sized-below parent (entry own below next) =
    ap (λ more. record { below = length (entries below); own = own } ∷ more)
    (map-append sized_in (placed_below own.number below) (placed_below parent next) ∙ (λ i. sized-below own.number below i ++ sized-below parent next i))

sized-found : (found : Assessed) → map sized_in (all_placed found) ≡ flat found
sized-found nothing = refl
sized-found (entry own below next) =
    ap (λ more. record { below = length (entries below); own = own } ∷ more)
    (map-append sized_in (placed_below own.number below) (all_placed next) ∙ (λ i. sized-below own.number below i ++ sized-found next i))

bearing-below : (parent : ℕ) (found : Assessed) → map bearing_in (placed_below parent found) ≡ bearings_below parent found
bearing-below parent nothing = refl
bearing-below parent (entry own below next) =
    ap (λ more. record { bearer = parent; own = own } ∷ more)
    (map-append bearing_in (placed_below own.number below) (placed_below parent next) ∙ (λ i. bearing-below own.number below i ++ bearing-below parent next i))

bearing-found : (found : Assessed) → map bearing_in (all_placed found) ≡ bearings found
bearing-found nothing = refl
bearing-found (entry own below next) =
    ap (λ more. record { bearer = own.number; own = own } ∷ more)
    (map-append bearing_in (placed_below own.number below) (all_placed next) ∙ (λ i. bearing-below own.number below i ++ bearing-found next i))

abbrev own_of : Sized → Entry
own_of z = z.own

owns : (es : List ElementEntry) → map own_of (map sized_of es) ≡ map entry_of es
owns [] = refl
owns (e ∷ es) = ap (λ more. entry_of e ∷ more) (owns es)

owns-flat : (found : Assessed) → map own_of (flat found) ≡ entries found
owns-flat nothing = refl
owns-flat (entry own below next) = ap (λ more. own ∷ more) (map-append own_of (flat below) (flat next) ∙ (λ i. owns-flat below i ++ owns-flat next i))

-- the entries are those of what was found
pub plain_entries : (found : Assessed) (es : List ElementEntry) → map placed_of es ≡ all_placed found → map entry_of es ≡ entries found
plain_entries found es is = sym (owns es) ∙ ap (map own_of) (sym (sized-all es) ∙ ap (map sized_in) is ∙ sized-found found) ∙ owns-flat found

pub sized_entries : (found : Assessed) (es : List ElementEntry) → map placed_of es ≡ all_placed found → map sized_of es ≡ flat found
sized_entries found es is = sym (sized-all es) ∙ ap (map sized_in) is ∙ sized-found found

-- ---- the codes of IDs behind those of identity constraints

again : (codes more : List Found) (below : Bool) (validity : Validity) → validity_again (codes ++ more) below validity ≡ validity_with more (validity_again codes below validity)
again (code ∷ codes) [] below validity = refl
again (code ∷ codes) (other ∷ more) below validity = refl
again [] (other ∷ more) below validity = refl
again [] [] below validity = refl

with-ids : (codes more : List Found) (below : Bool) (r : ElementRecord) → with_more (codes ++ more) below r ≡ marked_record more (with_more codes below r)
with-ids codes more below r = λ i. record r { validity = again codes more below r.validity i; codes = sym (append_assoc r.codes codes more) i }

abbrev first_marked : List Found → List Entry → List Entry
first_marked codes [] = []
first_marked codes (own ∷ more) = marked_entry codes own ∷ more

marked-entries : (codes : List Found) (found : Assessed) → first_marked codes (entries found) ≡ entries (marked codes found)
marked-entries codes nothing = refl
marked-entries codes (entry own below next) = refl

marks : (codes : List Found) (es : List ElementEntry) → map entry_of (with_marks codes es) ≡ first_marked codes (map entry_of es)
marks codes [] = refl
marks codes (own ∷ more) = refl

-- the codes of IDs stand at the root alone
module _ (f : Forest) (k : ℕ → List Found) (ids : List Found) where
  abbrev both : ℕ → List Found
  both n = k n ++ (if is_root f n then ids else [])

  module _ (own : Entry) (below next : Assessed) (root : (n : ℕ) → is_root f n ≡ (own.number == n)) (once : (n : ℕ) → found_times n (entry own below next) ≤ 1) where
    here : both own.number ≡ k own.number ++ ids
    here = ap (λ b. k own.number ++ (if b then ids else [])) (root own.number ∙ at-own own.number)

    others : (n : ℕ) → 1 ≤ found_times n below + found_times n next → both n ≡ k n
    others n there =
        ap (λ b. k n ++ (if b then ids else [])) (root n) ∙ ap (λ codes. k n ++ codes) (none-of own.number n ids [] (omega (arith, there, once n))) ∙ append-nil (k n)

    at-root : with_all both (entry own below next) ≡ marked ids (with_all k (entry own below next))
    at-root =
        let one = all_same both k below (λ n h. others n (omega (arith, h))) in
        let two = all_same both k next (λ n h. others n (omega (arith, h))) in
        (λ i. entry (record own { element = with_more (here i) (has_invalid (one i)) own.element }) (one i) (two i))
        ∙ ap (λ (r : ElementRecord). entry (record own { element = r }) (with_all k below) (with_all k next)) (with-ids (k own.number) ids (has_invalid (with_all k below)) own.element)

  all-roots : (found : Assessed) → IsRootOf f found → ((n : ℕ) → found_times n found ≤ 1) → with_all both found ≡ marked ids (with_all k found)
  all-roots nothing root once = refl
  all-roots (entry own below next) root once = at-root own below next root once

-- ---- all together

module _ (s : SchemaSet) (identities : List IdentityPaths) (d : Document) (tree : IsTree d) (old : List ElementEntry) (plain : ArePlain s d.forest old) where
  abbrev at_number : ℕ → List Found
  at_number n = identity_at s.names s.parts identities n (seen plain.found)

  once : (n : ℕ) → found_times n plain.found ≤ 1
  once = found_once s plain_beside d tree plain.found plain.assessed

  codes-are : codes_in old ≡ id_codes (borne_values plain.found)
  codes-are = ap (λ bs. id_codes (flat_map borne_of bs)) (sym (bearing-all old) ∙ ap (map bearing_in) plain.placed_are ∙ bearing-found plain.found)

  flat-coded : map sized_of (coded s.names s.parts identities old) ≡ flat (with_all at_number plain.found)
  flat-coded =
      coded_all s.names s.parts identities at_number plain.found old (sized_entries plain.found old plain.placed_are)
      (at_agrees s.names s.parts identities plain.found once)

  coded-entries : map entry_of (coded s.names s.parts identities old) ≡ entries (with_all at_number plain.found)
  coded-entries = sym (owns (coded s.names s.parts identities old)) ∙ ap (map own_of) flat-coded ∙ owns-flat (with_all at_number plain.found)

  all-codes : marked (id_codes (borne_values plain.found)) (with_all at_number plain.found) ≡ with_codes s identities d.forest plain.found
  all-codes = sym (all-roots d.forest at_number (id_codes (borne_values plain.found)) plain.found (root_of s plain_beside d.forest plain.found tree.root plain.assessed) once)

  pub joined : ((s : SchemaSet) (identities : List IdentityPaths) (f : Forest) (found : Assessed) → IsAssessment s plain_beside f found
      → IsAssessment s (beside_of s identities f (with_codes s identities f found)) f (with_codes s identities f found))
      → (new : List ElementEntry) → new ≡ with_marks (codes_in old) (coded s.names s.parts identities old) → AreEntries s identities d.forest new
  joined law new is = record {
    found = with_codes s identities d.forest plain.found;
    assessed = law s identities d.forest plain.found plain.assessed;
    entries_are =
        ap (map entry_of) is ∙ marks (codes_in old) (coded s.names s.parts identities old) ∙ ap (λ cs. first_marked cs (map entry_of (coded s.names s.parts identities old))) codes-are
        ∙ ap (first_marked (id_codes (borne_values plain.found))) coded-entries ∙ marked-entries (id_codes (borne_values plain.found)) (with_all at_number plain.found)
        ∙ ap entries all-codes;
  }

-- ---- the atoms of one element more

abbrev pub atoms_in : List ElementEntry → List BorneAtom
atoms_in es = flat_map borne_of (map bearing_of es)

pub atoms_next : (es : List ElementEntry) (i : ℕ) (e : ElementEntry) → i < length es → e ≡ get_or es i e
    → (atoms_in (take i es) ++ borne_in e.bearer e.value) ++ borne_in_all e.number e.attr_values ≡ atoms_in (take (i + 1) es)
atoms_next es i e within at =
    append_assoc (atoms_in (take i es)) (borne_in e.bearer e.value) (borne_in_all e.number e.attr_values)
    ∙ ap (λ own. atoms_in (take i es) ++ own) (sym (append-nil (borne_of (bearing_of e))))
    ∙ sym (flat_map-append borne_of (map bearing_of (take i es)) (bearing_of e ∷ []))
    ∙ ap (flat_map borne_of) (sym (map-append bearing_of (take i es) (e ∷ [])))
    ∙ ap (λ x. atoms_in (take i es ++ x ∷ [])) at
    ∙ ap atoms_in (sym (take_more es i e within))
