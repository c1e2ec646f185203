-- Elements with the ways to them.
use Rattle.std.proofs.Common.{◌≡◌, ℕ, ◌+◌, ◌<◌, List, [], ◌∷◌, ◌++◌, map, take, length, refl, sym, ◌∙◌, ap, subst, append_assoc, append-nil}
use Rattle.std.specs.Prelude.{All}
use Rattle.std.specs.List.{flat_map}
use Rattle.std.proofs.lemmas.List.{map-append}
use Rattle.std.proofs.lemmas.List.Elements.{All-nil, All-cons, All-append}
use Rattle.std.proofs.lemmas.Grind.{flat_map-append}
use Rattle.std.proofs.Math.Seq.{take-append_seam}
use Rattle.xs_names.specs.Names.{NameTable}
use Rattle.identity_constraints.specs.Seen.{KeyElement, KeyForest, none, element, Reached, from_above, reached_below}
use Rattle.path_walk.specs.Sight.{IsFirst, IsNamed, AreNamed, below_first, behind_first}
use Rattle.path_walk.specs.inside.Walk.{reached, walk, size}

-- behind a way
abbrev after : List ℕ → Reached → Reached
after way r = reached (way ++ r.way) r.own r.below

further : (way : List ℕ) (name : ℕ) (rs : List Reached) → map (after way) (map (from_above name) rs) ≡ map (after (way ++ name ∷ [])) rs
further way name [] = refl
further way name (r ∷ rs) = λ i. reached (sym (append_assoc way (name ∷ []) r.way) i) r.own r.below ∷ further way name rs i

walk-after : (way : List ℕ) (f : KeyForest) → walk way f ≡ map (after way) (reached_below f)
walk-after way none = refl
walk-after way (element own below next) =
    ap (λ rs. reached (way ++ own.name ∷ []) own below ∷ rs)
    (ap (λ rs. rs ++ walk way next) (walk-after (way ++ own.name ∷ []) below ∙ sym (further way own.name (reached_below below)))
    ∙ ap (λ rs. map (after way) (map (from_above own.name) (reached_below below)) ++ rs) (walk-after way next)
    ∙ sym (map-append (after way) (map (from_above own.name) (reached_below below)) (reached_below next)))

same-after : (rs : List Reached) → map (after []) rs ≡ rs
same-after [] = refl
same-after (r ∷ rs) = ap (λ more. r ∷ more) (same-after rs)

-- from the element above itself
pub walk_all : (f : KeyForest) → walk [] f ≡ reached_below f
walk_all f = walk-after [] f ∙ same-after (reached_below f)

-- siblings by their first
pub opened : (f : KeyForest) (first : KeyElement) → IsFirst f first → f ≡ element first (below_first f) (behind_first f)
opened none first is = absurd is
opened (element own below next) first is = ap (λ own. element own below next) is

pub walk_first : {A : Type 0} (g : Reached → List A) (way : List ℕ) (f : KeyForest) (first : KeyElement) → IsFirst f first
    → flat_map g (walk way f) ≡ g (reached (way ++ first.name ∷ []) first (below_first f)) ++ (flat_map g (walk (way ++ first.name ∷ []) (below_first f)) ++ flat_map g (walk way (behind_first f)))
walk_first g way none first is = absurd is
walk_first g way (element own below next) first is =
    subst (λ (x : KeyElement). flat_map g (walk way (element own below next)) ≡ g (reached (way ++ x.name ∷ []) x below) ++ (flat_map g (walk (way ++ x.name ∷ []) below) ++ flat_map g (walk way next))) is
    (ap (λ xs. g (reached (way ++ own.name ∷ []) own below) ++ xs) (flat_map-append g (walk (way ++ own.name ∷ []) below) (walk way next)))

pub walk_none : {A : Type 0} (g : Reached → List A) (way : List ℕ) (f : KeyForest) → f ≡ none → flat_map g (walk way f) ≡ []
walk_none g way f is = ap (λ f. flat_map g (walk way f)) is

pub size_first : (f : KeyForest) (first : KeyElement) → IsFirst f first → size f ≡ 1 + size (below_first f) + size (behind_first f)
size_first none first is = absurd is
size_first (element own below next) first is = refl

pub named_first : (names : NameTable) (f : KeyForest) (first : KeyElement) → IsFirst f first → AreNamed names f → IsNamed names first
named_first names none first is named = absurd is
named_first names (element own below next) first is named = subst (IsNamed names) is named.0

pub named_below : (names : NameTable) (f : KeyForest) → AreNamed names f → AreNamed names (below_first f)
named_below names none named = named
named_below names (element own below next) named = named.1.0

pub named_behind : (names : NameTable) (f : KeyForest) → AreNamed names f → AreNamed names (behind_first f)
named_behind names none named = named
named_behind names (element own below next) named = named.1.1

-- the way to an element
pub way_named : (names : NameTable) (way : List ℕ) (name : ℕ) → All (λ n. n < length names.names) way → name < length names.names → All (λ n. n < length names.names) (way ++ name ∷ [])
way_named names way name all is =
    All-append (λ n. n < length names.names) way (name ∷ []) all (All-cons (λ n. n < length names.names) name [] is (All-nil (λ n. n < length names.names)))

-- ---- along siblings

module _ {A : Type 0} (g : Reached → List A) (way : List ℕ) where
  -- one sibling more
  pub along_next : (all f : KeyForest) (first : KeyElement) (done : List A) → IsFirst f first → flat_map g (walk way all) ≡ done ++ flat_map g (walk way f)
      → flat_map g (walk way all) ≡ (done ++ (g (reached (way ++ first.name ∷ []) first (below_first f)) ++ flat_map g (walk (way ++ first.name ∷ []) (below_first f)))) ++ flat_map g (walk way (behind_first f))
  along_next all f first done is so =
      let own = g (reached (way ++ first.name ∷ []) first (below_first f)) in
      let under = flat_map g (walk (way ++ first.name ∷ []) (below_first f)) in
      let behind = flat_map g (walk way (behind_first f)) in
      so ∙ ap (λ xs. done ++ xs) (walk_first g way f first is ∙ sym (append_assoc own under behind)) ∙ sym (append_assoc done (own ++ under) behind)

  -- no more
  pub along_done : (all f : KeyForest) (done : List A) → f ≡ none → flat_map g (walk way all) ≡ done ++ flat_map g (walk way f) → flat_map g (walk way all) ≡ done
  along_done all f done is so = so ∙ ap (λ xs. done ++ xs) (walk_none g way f is) ∙ append-nil done

-- a way that went down to an element and back
pub way_back : (first way down after back : List ℕ) (name depth : ℕ) → way ≡ first → down ≡ way ++ name ∷ [] → after ≡ down → depth ≡ length first → back ≡ take depth after → back ≡ first
way_back first way down after back name depth is pushed kept size cut =
    cut ∙ ap (λ n. take n after) size ∙ ap (take (length first)) (kept ∙ pushed ∙ ap (λ w. w ++ name ∷ []) is) ∙ take-append_seam first (name ∷ [])

-- ---- siblings that are known

pub first_is : (f : KeyForest) (own first : KeyElement) (below next : KeyForest) → f ≡ element own below next → IsFirst f first → own ≡ first
first_is f own first below next e is = subst (λ (x : KeyForest). IsFirst x first) e is

pub not_none : (f : KeyForest) (own : KeyElement) (below next : KeyForest) → f ≡ element own below next → f ≡ none → ⊥
not_none f own below next e none_is = apart (sym e ∙ none_is)
  where
    apart : element own below next ≡ none → ⊥
    apart h = cc

pub way_down : (first way down : List ℕ) (name : ℕ) → way ≡ first → down ≡ way ++ name ∷ [] → down ≡ first ++ name ∷ []
way_down first way down name is pushed = pushed ∙ ap (λ w. w ++ name ∷ []) is

pub way_all : (names : NameTable) (first way down : List ℕ) (name : ℕ) → way ≡ first → down ≡ way ++ name ∷ [] → All (λ n. n < length names.names) first → name < length names.names → All (λ n. n < length names.names) down
way_all names first way down name is pushed all named = subst (All (λ n. n < length names.names)) (sym (way_down first way down name is pushed)) (way_named names first name all named)
