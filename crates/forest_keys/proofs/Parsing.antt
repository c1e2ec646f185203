-- Entries, read as they stand in a document.
use Rattle.std.proofs.Common.{◌≡◌, ℕ, zero, suc, ◌+◌, ◌≤◌, List, [], ◌∷◌, ◌++◌, length, take, drop, map, refl, sym, ap, ◌∙◌, arith}
use Rattle.std.specs.List.{drop-map}
use Rattle.std.proofs.lemmas.List.{take-append-drop, length-append, take-map}
use Rattle.std.proofs.Math.Seq.{take-append_seam, drop-append_seam}
use Rattle.assessment.specs.Assessment.{Entry, Assessed, nothing, entry, entries}
use Rattle.tree_assess.specs.Entries.{entry_of}
use Rattle.tree_assess.specs.declared.entry.ElementEntry.{ElementEntry}
use Rattle.forest_keys.specs.declared.entry_siblings.Parted.{Parted}
use Rattle.forest_keys.specs.inside.Parsed.{assessed_by, assessed_of, IsParted, Sized, sized_of, flat}

pub parted-length : (n : ℕ) (es : List ElementEntry) → length (take n es) + length (drop n es) ≡ length es
parted-length n es = sym (length-append (take n es) (drop n es)) ∙ ap length (take-append-drop n es)

no-entries : (n : ℕ) → assessed_by n [] ≡ nothing
no-entries zero = refl
no-entries (suc n) = refl

parse-same : (n m : ℕ) (es : List ElementEntry) → length es ≤ n → length es ≤ m → assessed_by n es ≡ assessed_by m es
parse-same n m [] p q = no-entries n ∙ sym (no-entries m)
parse-same zero m (e ∷ es) p q = absurd (omega (arith, p))
parse-same (suc n) zero (e ∷ es) p q = absurd (omega (arith, q))
parse-same (suc n) (suc m) (e ∷ es) p q =
    let parts = parted-length e.below es in
    let one = parse-same n m (take e.below es) (omega (arith, parts, p)) (omega (arith, parts, q)) in
    let two = parse-same n m (drop e.below es) (omega (arith, parts, p)) (omega (arith, parts, q)) in
    λ i. entry (entry_of e) (one i) (two i)

-- by the first
pub parse_first : (e : ElementEntry) (es : List ElementEntry) → assessed_of (e ∷ es) ≡ entry (entry_of e) (assessed_of (take e.below es)) (assessed_of (drop e.below es))
parse_first e es =
    let parts = parted-length e.below es in
    let one = parse-same (length es) (length (take e.below es)) (take e.below es) (omega (arith, parts)) (omega arith) in
    let two = parse-same (length es) (length (drop e.below es)) (drop e.below es) (omega (arith, parts)) (omega arith) in
    λ i. entry (entry_of e) (one i) (two i)

pub parse_parted : (es : List ElementEntry) (p : Parted) → IsParted es p → assessed_of es ≡ entry (entry_of p.own.now) (assessed_of p.below.now) (assessed_of p.behind.now)
parse_parted es p is =
    ap assessed_of is.all ∙ parse_first p.own.now is.rest
    ∙ ap (λ below. entry (entry_of p.own.now) (assessed_of below) (assessed_of (drop p.own.now.below is.rest))) (sym is.below_is)
    ∙ ap (λ behind. entry (entry_of p.own.now) (assessed_of p.below.now) (assessed_of behind)) (sym is.behind_is)

pub flat_length : (found : Assessed) → length (flat found) ≡ length (entries found)
flat_length nothing = refl
flat_length (entry own below next) =
    let one = flat_length below in
    let two = flat_length next in
    let flats = length-append (flat below) (flat next) in
    let all = length-append (entries below) (entries next) in
    omega (arith, one, two, flats, all)

abbrev first_or : Sized → List Sized → Sized
first_or d [] = d
first_or d (x ∷ xs) = x

abbrev behind : List Sized → List Sized
behind [] = []
behind (x ∷ xs) = xs

-- what the parts of a flat list are
module _ (own : Entry) (below next : Assessed) (e : ElementEntry) (es : List ElementEntry) (h : map sized_of (e ∷ es) ≡ flat (entry own below next)) where
  pub first_is : sized_of e ≡ record { below = length (entries below); own = own }
  first_is = ap (first_or (sized_of e)) h

  rest-is : map sized_of es ≡ flat below ++ flat next
  rest-is = ap behind h

  pub count_is : e.below ≡ length (flat below)
  count_is = ap (λ (s : Sized). s.below) first_is ∙ sym (flat_length below)

  pub own_is : entry_of e ≡ own
  own_is = ap (λ (s : Sized). s.own) first_is

  pub below_flat : map sized_of (take e.below es) ≡ flat below
  below_flat = sym (take-map sized_of e.below es) ∙ ap (take e.below) rest-is ∙ ap (λ n. take n (flat below ++ flat next)) count_is ∙ take-append_seam (flat below) (flat next)

  pub behind_flat : map sized_of (drop e.below es) ≡ flat next
  behind_flat = sym (drop-map sized_of e.below es) ∙ ap (drop e.below) rest-is ∙ ap (λ n. drop n (flat below ++ flat next)) count_is ∙ drop-append_seam (flat below) (flat next)

no-cons : (x : Sized) (xs : List Sized) → [] ≡ x ∷ xs → ⊥
no-cons x xs e = cc

no-nil : (x : Sized) (xs : List Sized) → x ∷ xs ≡ [] → ⊥
no-nil x xs e = cc

-- a flat list is read as what it is of
pub parse_flat : (found : Assessed) (es : List ElementEntry) → map sized_of es ≡ flat found → assessed_of es ≡ found
parse_flat nothing [] h = refl
parse_flat nothing (e ∷ es) h = absurd (no-nil (sized_of e) (map sized_of es) h)
parse_flat (entry own below next) [] h = absurd (no-cons (record { below = length (entries below); own = own }) (flat below ++ flat next) h)
parse_flat (entry own below next) (e ∷ es) h =
    let one = parse_flat below (take e.below es) (below_flat own below next e es h) in
    let two = parse_flat next (drop e.below es) (behind_flat own below next e es h) in
    let first = own_is own below next e es h in
    parse_first e es ∙ (λ i. entry (first i) (one i) (two i))
