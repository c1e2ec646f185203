-- Entries with the codes of identity constraints.
use Rattle.std.proofs.Common.{◌≡◌, ℕ, List, [], ◌∷◌, ◌++◌, length, take, drop, map, refl, sym, ap, ◌∙◌, arith, append_assoc, append-nil}
use Rattle.std.proofs.lemmas.List.{take-append-drop, length-append, length-map, map-append}
use Rattle.std.proofs.Math.Seq.{take-append_seam}
use Rattle.xs_names.specs.Names.{NameTable}
use Rattle.xs_codes.specs.declared.fault.Found.{Found}
use Rattle.xs_components.specs.Tables.{Tables}
use Rattle.xpath_subset.specs.declared.paths.IdentityPaths.{IdentityPaths}
use Rattle.identity_constraints.specs.Seen.{element}
use Rattle.identity_constraints.specs.Satisfied.{identity_codes}
use Rattle.assessment.specs.Assessment.{Entry, Assessed, nothing, entry, entries}
use Rattle.what_is_found.specs.Identity.{seen, seen_element, has_invalid, with_more, with_all}
use Rattle.tree_assess.specs.Entries.{entry_of}
use Rattle.tree_assess.specs.declared.entry.ElementEntry.{ElementEntry}
use Rattle.forest_keys.specs.inside.Parsed.{assessed_of, below_of, Sized, sized_of, flat}
use Rattle.forest_keys.specs.inside.Coded.{first_codes, coded_first, coded}
use Rattle.forest_keys.proofs.Parsing.{parse_first, parse_flat, flat_length, count_is, own_is, below_flat, behind_flat}

-- codes are not seen
pub seen_coded : (k : ℕ → List Found) (found : Assessed) → seen (with_all k found) ≡ seen found
seen_coded k nothing = refl
seen_coded k (entry own below next) = λ i. element (seen_element own) (seen_coded k below i) (seen_coded k next i)

length-coded : (k : ℕ → List Found) (found : Assessed) → length (entries (with_all k found)) ≡ length (entries found)
length-coded k nothing = refl
length-coded k (entry own below next) =
    let one = length-coded k below in
    let two = length-coded k next in
    let after = length-append (entries (with_all k below)) (entries (with_all k next)) in
    let before = length-append (entries below) (entries next) in
    omega (arith, one, two, after, before)

module _ (names : NameTable) (t : Tables) (identities : List IdentityPaths) (k : ℕ → List Found) where
  -- the codes by numbers are those of the identity constraints
  abbrev pub Agrees : Assessed → Type 0
  Agrees nothing = Unit {0}
  Agrees (entry own below next) = (k own.number ≡ identity_codes names t identities (seen_element own) (seen below)) × (Agrees below × Agrees next)

  -- entries with their codes, in front of others
  pub record IsPart (found : Assessed) (part rest : List ElementEntry) : Type 0 where
    pub new : List ElementEntry
    pub all : coded names t identities (part ++ rest) ≡ new ++ coded names t identities rest
    pub flat_is : map sized_of new ≡ flat (with_all k found)

  abbrev with_codes_of : Entry → List Found → Assessed → Entry
  with_codes_of own codes below = record own { element = with_more codes (has_invalid below) own.element }

  -- the first of some, where those below it have their codes
  first-coded : (own : Entry) (below : Assessed) (e : ElementEntry) (one more : List ElementEntry) → entry_of e ≡ own → e.below ≡ length one → map sized_of one ≡ flat (with_all k below)
      → k own.number ≡ identity_codes names t identities (seen_element own) (seen below)
      → entry_of (coded_first names t identities e (one ++ more)) ≡ with_codes_of own (k own.number) (with_all k below)
  first-coded own below e one more is count flat_one agrees =
      let parsed : assessed_of (take e.below (one ++ more)) ≡ with_all k below =
      ap (λ n. assessed_of (take n (one ++ more))) count ∙ ap assessed_of (take-append_seam one more) ∙ parse_flat (with_all k below) one flat_one in
      let front : assessed_of (e ∷ (one ++ more)) ≡ entry (entry_of e) (with_all k below) (assessed_of (drop e.below (one ++ more))) =
      parse_first e (one ++ more) ∙ ap (λ a. entry (entry_of e) a (assessed_of (drop e.below (one ++ more)))) parsed in
      ap (λ a. with_codes_of (entry_of e) (first_codes names t identities (seen a)) (below_of a)) front
      ∙ ap (λ f. with_codes_of (entry_of e) (identity_codes names t identities (seen_element (entry_of e)) f) (with_all k below)) (seen_coded k below)
      ∙ ap (λ (x : Entry). with_codes_of x (identity_codes names t identities (seen_element x) (seen below)) (with_all k below)) is
      ∙ ap (λ codes. with_codes_of own codes (with_all k below)) (sym agrees)

  no-cons : (x : Sized) (xs : List Sized) → [] ≡ x ∷ xs → ⊥
  no-cons x xs e = cc

  no-nil : (x : Sized) (xs : List Sized) → x ∷ xs ≡ [] → ⊥
  no-nil x xs e = cc

  pub coded_part : (found : Assessed) (part rest : List ElementEntry) → map sized_of part ≡ flat found → Agrees found → IsPart found part rest
  coded_part nothing [] rest h agrees = record { new = []; all = refl; flat_is = refl }
  coded_part nothing (e ∷ es) rest h agrees = absurd (no-nil (sized_of e) (map sized_of es) h)
  coded_part (entry own below next) [] rest h agrees = absurd (no-cons (record { below = length (entries below); own = own }) (flat below ++ flat next) h)
  coded_part (entry own below next) (e ∷ es) rest h agrees =
      let one = take e.below es in
      let two = drop e.below es in
      let a = coded_part below one (two ++ rest) (below_flat own below next e es h) agrees.1.0 in
      let b = coded_part next two rest (behind_flat own below next e es h) agrees.1.1 in
      let tail : coded names t identities (es ++ rest) ≡ a.new ++ (b.new ++ coded names t identities rest) =
      ap (λ (xs : List ElementEntry). coded names t identities (xs ++ rest)) (sym (take-append-drop e.below es))
      ∙ ap (coded names t identities) (append_assoc one two rest) ∙ a.all ∙ ap (λ xs. a.new ++ xs) b.all in
      let more = b.new ++ coded names t identities rest in
      let counted : e.below ≡ length a.new =
      (let flat_below = flat_length below in let flat_coded = flat_length (with_all k below) in let same = length-coded k below in
      let sizes = ap length a.flat_is in let mapped = length-map a.new sized_of in let count = count_is own below next e es h in omega (arith, flat_below, flat_coded, same, sizes, mapped, count)) in
      let size : e.below ≡ length (entries (with_all k below)) =
      (let flat_below = flat_length below in let same = length-coded k below in let count = count_is own below next e es h in omega (arith, flat_below, same, count)) in
      let first = first-coded own below e a.new more (own_is own below next e es h) counted a.flat_is agrees.0 in
      record {
        new = coded_first names t identities e (a.new ++ more) ∷ (a.new ++ b.new);
        all = ap (λ xs. coded_first names t identities e xs ∷ xs) tail ∙ ap (λ xs. coded_first names t identities e (a.new ++ more) ∷ xs) (sym (append_assoc a.new b.new (coded names t identities rest)));
        flat_is =
            ap (λ xs. sized_of (coded_first names t identities e (a.new ++ more)) ∷ xs) (map-append sized_of a.new b.new ∙ (λ i. a.flat_is i ++ b.flat_is i))
            ∙ (λ i. record { below = size i; own = first i } ∷ (flat (with_all k below) ++ flat (with_all k next)));
      }

  -- all of them
  pub coded_all : (found : Assessed) (es : List ElementEntry) → map sized_of es ≡ flat found → Agrees found → map sized_of (coded names t identities es) ≡ flat (with_all k found)
  coded_all found es h agrees =
      let part = coded_part found es [] h agrees in
      ap (λ xs. map sized_of (coded names t identities xs)) (sym (append-nil es)) ∙ ap (map sized_of) (part.all ∙ append-nil part.new) ∙ part.flat_is
