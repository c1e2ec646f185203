-- One entry more with the codes of its identity constraints, and what entries are by their first.
use Rattle.std.proofs.Common.{◌≡◌, ℕ, zero, suc, ◌<◌, ◌||◌, Bool, true, false, List, [], ◌∷◌, ◌++◌, length, get_or, take, drop, refl, sym, ap, subst, ◌∙◌, arith}
use Rattle.std.specs.Prelude.{slice_set, min}
use Rattle.std.proofs.lemmas.List.{take_min, drop_min}
use Rattle.xs_names.specs.Names.{NameTable}
use Rattle.xs_codes.specs.declared.fault.Found.{Found}
use Rattle.xs_components.specs.Tables.{Tables}
use Rattle.assess_records.specs.declared.outcome.Validity.{Validity}
use Rattle.assess_records.specs.declared.record.ElementRecord.{ElementRecord}
use Rattle.xpath_subset.specs.declared.paths.IdentityPaths.{IdentityPaths}
use Rattle.identity_constraints.specs.Seen.{KeyElement, none}
use Rattle.elem_codes.specs.Records.{is_invalid}
use Rattle.elem_assess.specs.Marked.{validity_with, marked_record}
use Rattle.assessment.specs.Assessment.{Assessed}
use Rattle.what_is_found.specs.Identity.{seen, seen_element, has_invalid, validity_again, with_more}
use Rattle.path_walk.specs.Sight.{IsFirst, below_first, behind_first}
use Rattle.tree_assess.specs.Entries.{entry_of}
use Rattle.tree_assess.specs.declared.entry.ElementEntry.{ElementEntry}
use Rattle.forest_keys.specs.declared.entry_siblings.Parted.{Parted}
use Rattle.forest_keys.specs.inside.Parsed.{assessed_of, below_of, IsParted}
use Rattle.forest_keys.specs.inside.Coded.{first_codes, coded, coded_at, coded_from}
use Rattle.forest_keys.proofs.Parsing.{parse_parted, parted-length}

-- ---- by the first

pub parted_by : (es rest : List ElementEntry) (p : Parted) → es ≡ p.own.now ∷ rest → p.below.now ≡ take (min p.own.now.below (length rest)) rest → p.behind.now ≡ drop (min p.own.now.below (length rest)) rest → IsParted es p
parted_by es rest p all below behind = record {
  rest = rest;
  all = all;
  below_is = below ∙ take_min p.own.now.below rest;
  behind_is = behind ∙ drop_min p.own.now.below rest;
}

-- those behind it are fewer
pub fewer : (es : List ElementEntry) (p : Parted) → IsParted es p → length p.behind.now < length es
fewer es p is =
    let all = ap length is.all in
    let behind = ap length is.behind_is in
    let parts = parted-length p.own.now.below is.rest in
    omega arith

pub seen_none : (es : List ElementEntry) → es ≡ [] → seen (assessed_of es) ≡ none
seen_none es e = ap (λ xs. seen (assessed_of xs)) e

pub seen_first : (es : List ElementEntry) (p : Parted) → IsParted es p → (own : KeyElement) → own ≡ seen_element (entry_of p.own.now) → IsFirst (seen (assessed_of es)) own
seen_first es p is own e = subst (λ (found : Assessed). IsFirst (seen found) own) (sym (parse_parted es p is)) (sym e)

pub none_below : (es : List ElementEntry) → es ≡ [] → seen (assessed_of es) ≡ below_first (seen (assessed_of es))
none_below es e = seen_none es e ∙ sym (ap below_first (seen_none es e))

pub none_behind : (es : List ElementEntry) → es ≡ [] → seen (assessed_of es) ≡ behind_first (seen (assessed_of es))
none_behind es e = seen_none es e ∙ sym (ap behind_first (seen_none es e))

pub seen_below : (es : List ElementEntry) (p : Parted) → IsParted es p → seen (assessed_of p.below.now) ≡ below_first (seen (assessed_of es))
seen_below es p is = sym (ap (λ (found : Assessed). below_first (seen found)) (parse_parted es p is))

pub seen_behind : (es : List ElementEntry) (p : Parted) → IsParted es p → seen (assessed_of p.behind.now) ≡ behind_first (seen (assessed_of es))
seen_behind es p is = sym (ap (λ (found : Assessed). behind_first (seen found)) (parse_parted es p is))

-- ---- invalid ones

pub none_invalid : (es : List ElementEntry) → es ≡ [] → has_invalid (assessed_of es) ≡ false
none_invalid es e = ap (λ xs. has_invalid (assessed_of xs)) e

by-first : (es : List ElementEntry) (p : Parted) → IsParted es p → has_invalid (assessed_of es) ≡ (is_invalid p.own.now.element.validity || has_invalid (assessed_of p.behind.now))
by-first es p is = ap has_invalid (parse_parted es p is)

pub first_invalid : (es : List ElementEntry) (p : Parted) → IsParted es p → is_invalid p.own.now.element.validity ≡ true → has_invalid (assessed_of es) ≡ true
first_invalid es p is e = by-first es p is ∙ ap (λ (b : Bool). b || has_invalid (assessed_of p.behind.now)) e

pub later_invalid : (es : List ElementEntry) (p : Parted) → IsParted es p → is_invalid p.own.now.element.validity ≡ false → has_invalid (assessed_of es) ≡ has_invalid (assessed_of p.behind.now)
later_invalid es p is e = by-first es p is ∙ ap (λ (b : Bool). b || has_invalid (assessed_of p.behind.now)) e

pub none_invalid_below : (es : List ElementEntry) → es ≡ [] → has_invalid (below_of (assessed_of es)) ≡ false
none_invalid_below es e = ap (λ xs. has_invalid (below_of (assessed_of xs))) e

pub invalid_below : (es : List ElementEntry) (p : Parted) → IsParted es p → has_invalid (below_of (assessed_of es)) ≡ has_invalid (assessed_of p.below.now)
invalid_below es p is = ap (λ (found : Assessed). has_invalid (below_of found)) (parse_parted es p is)

-- ---- codes put to a record

with-codes : (codes : List Found) (below : Bool) (v : Validity) → validity_with codes (validity_again [] below v) ≡ validity_again codes below v
with-codes [] below v = refl
with-codes (code ∷ codes) below v = refl

pub marked_above : (codes : List Found) (below : Bool) (v : Validity) (old new : ElementRecord) → v ≡ validity_again [] below old.validity → new ≡ marked_record codes (record old { validity = v }) → new ≡ with_more codes below old
marked_above codes below v old new above is =
    is ∙ ap (λ (x : Validity). record old { validity = validity_with codes x; codes = old.codes ++ codes }) above
    ∙ ap (λ (x : Validity). record old { validity = x; codes = old.codes ++ codes }) (with-codes codes below old.validity)

-- ---- one entry after another

module _ (names : NameTable) (t : Tables) (identities : List IdentityPaths) where
  pub coded_there : (place : ℕ) (es : List ElementEntry) (e : ElementEntry) (codes : List Found) (below : Bool) → place < length es → e ≡ get_or es place e
      → codes ≡ first_codes names t identities (seen (assessed_of (drop place es))) → below ≡ has_invalid (below_of (assessed_of (drop place es)))
      → slice_set es place (record e { element = with_more codes below e.element }) ≡ coded_at names t identities place es
  coded_there place [] e codes below within at codes_are below_is = absurd (omega (arith, within))
  coded_there zero (x ∷ es) e codes below within at codes_are below_is =
      ap (λ (y : ElementEntry). record y { element = with_more codes below y.element } ∷ es) at
      ∙ ap (λ (c : List Found). record x { element = with_more c below x.element } ∷ es) codes_are
      ∙ ap (λ (b : Bool). record x { element = with_more (first_codes names t identities (seen (assessed_of (x ∷ es)))) b x.element } ∷ es) below_is
  coded_there (suc place) (x ∷ es) e codes below within at codes_are below_is =
      ap (λ (ys : List ElementEntry). x ∷ ys) (coded_there place es e codes below (omega (arith, within)) at codes_are below_is)

  none-coded : (es : List ElementEntry) → coded_from names t identities (length es) es ≡ es
  none-coded [] = refl
  none-coded (e ∷ es) = ap (λ (xs : List ElementEntry). e ∷ xs) (none-coded es)

  length-coded : (es : List ElementEntry) → length (coded names t identities es) ≡ length es
  length-coded [] = refl
  length-coded (e ∷ es) = ap suc (length-coded es)

  length-from : (n : ℕ) (es : List ElementEntry) → length (coded_from names t identities n es) ≡ length es
  length-from zero es = length-coded es
  length-from (suc n) [] = refl
  length-from (suc n) (e ∷ es) = ap suc (length-from n es)

  -- there are as many as before
  pub as_many : (place : ℕ) (es mid : List ElementEntry) → mid ≡ coded_from names t identities place es → length mid ≡ length es
  as_many place es mid is = ap length is ∙ length-from place es

  pub begun : (place : ℕ) (es : List ElementEntry) → place ≡ length es → es ≡ coded_from names t identities place es
  begun place es e = sym (ap (λ n. coded_from names t identities n es) e ∙ none-coded es)

  one-more : (place : ℕ) (es : List ElementEntry) → coded_at names t identities place (coded_from names t identities (suc place) es) ≡ coded_from names t identities place es
  one-more zero [] = refl
  one-more zero (e ∷ es) = refl
  one-more (suc place) [] = refl
  one-more (suc place) (e ∷ es) = ap (λ (xs : List ElementEntry). e ∷ xs) (one-more place es)

  pub more_coded : (before place : ℕ) (es mid new : List ElementEntry) → before ≡ suc place → mid ≡ coded_from names t identities before es → new ≡ coded_at names t identities place mid → new ≡ coded_from names t identities place es
  more_coded before place es mid new next is at =
      at ∙ ap (coded_at names t identities place) (is ∙ ap (λ n. coded_from names t identities n es) next) ∙ one-more place es

  pub all_coded : (place : ℕ) (es new : List ElementEntry) → place ≡ 0 → new ≡ coded_from names t identities place es → new ≡ coded names t identities es
  all_coded place es new zero_is is = is ∙ ap (λ n. coded_from names t identities n es) zero_is
